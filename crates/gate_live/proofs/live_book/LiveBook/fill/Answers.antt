use Rattle.gate_types.specs.Tables.{tables}
use Rattle.gate_book_trait.proofs.KeptLemmas.{then}
use Rattle.gate_live.proofs.LiveChangeLemmas.{any_read}
use Rattle.gate_live.proofs.live_book.LiveBook.fill.Goals as goal

pub returns-in_err-held-clause-kept : goal.returns-in_err-held-clause-kept
returns-in_err-held-clause-kept g c =
    let s = c.args.config.now in
    let kept = c.in_err-held.ensures.reads.kept in
    record {
      trusted_before = λ trusted. kept.trusted_before trusted;
      holds_on = λ trusted x held. record { below = kept.holds_on trusted s x held.below; agrees = λ lawful. c.new.ensures.agrees s x };
      leaves_on = λ trusted x held ys leaves. kept.leaves_on trusted s x held.below ys leaves;
    }

pub returns-in_err-changes-clause-kept : goal.returns-in_err-changes-clause-kept
returns-in_err-changes-clause-kept g c =
    let s = c.args.config.now in
    let kept = then c.in_ok-held.ensures.reads.kept c.in_err-changes.ensures.reads.kept in
    record {
      trusted_before = λ trusted. kept.trusted_before trusted;
      holds_on = λ trusted x held. record { below = kept.holds_on trusted s x held.below; agrees = λ lawful. c.new.ensures.agrees s x };
      leaves_on = λ trusted x held ys leaves. kept.leaves_on trusted s x held.below ys leaves;
    }

pub returns-clause-kept : goal.returns-clause-kept
returns-clause-kept g c =
    let s = c.args.config.now in
    let kept = then c.in_ok-held.ensures.reads.kept c.in_ok-changes.ensures.reads.kept in
    record {
      trusted_before = λ trusted. kept.trusted_before trusted;
      holds_on = λ trusted x held. record {
        below = kept.holds_on trusted s x held.below;
        agrees = λ lawful.
            let early = c.in_ok-changes.ensures.reads.kept.trusted_before trusted in
            let later = c.in_ok-held.ensures.reads.kept.holds_on early s x held.below in
            c.of.ensures.agrees s x (c.in_ok-held.ensures.reads.found early x held.below lawful)
            (any_read c.in_ok-changes.changes (tables s x).changes (c.in_ok-changes.ensures.reads.found trusted s x later lawful));
      };
      leaves_on = λ trusted x held ys leaves. kept.leaves_on trusted s x held.below ys leaves;
    }
