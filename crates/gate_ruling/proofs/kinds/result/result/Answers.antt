use Rattle.std.proofs.Common.{◌≡◌, ◌∙◌, ◌&&◌, Some, None, true, refl, sym, ap, subst, rules}
use Rattle.gate_types.specs.declared.deliveries.Delivery.TheVariants as delivery
use Rattle.gate_types.specs.Settings.{are_sound}
use Rattle.gate_types.specs.Slot.{is_running}
use Rattle.gate_types.specs.Step.{build_of, end_build, settled_step}
use Rattle.gate_book_trait.specs.Reads.{item_at}
use Rattle.gate_book_trait.proofs.KeptLemmas.{then}
use Rattle.gate_book_trait.proofs.ReadingLemmas.{is_read_under}
use Rattle.gate_reads.specs.Moves.{Moves}
use Rattle.gate_reads.specs.Touches.{Touches}
use Rattle.gate_ruling.proofs.Ended.{unknown_raw, late_raw, ended_raw, ended_touches, ended_moves}
use Rattle.gate_ruling.proofs.Missing.{item_there}
use Rattle.gate_ruling.proofs.kinds.result.result.Goals as goal

pub returns-clause-reads : goal.returns-clause-reads
returns-clause-reads g c = is_read_under (λ trusted x holds lawful.
    let s = c.args.config.now in
    let n = c.args.build in
    let e = c.args.ending in
    let b = c.in-Some.known in
    let settings : are_sound s ≡ true = search rules in
    let two = c.in_ok-figures.ensures.kept.trusted_before trusted in
    let one = c.in_ok-item.ensures.kept.trusted_before two in
    let at_one = c.in_ok-known.ensures.kept.holds_on one _ x holds in
    let at_two = c.in_ok-item.ensures.kept.holds_on two _ x at_one in
    let known : build_of x.state n ≡ Some b = sym (c.in_ok-known.ensures.found one s x holds lawful)
    ∙ c.in-Some.is in
    let item : item_at s x.state b.serial ≡ Some c.in-Some-2.item =
    sym (c.in_ok-item.ensures.found two s x at_one lawful) ∙ c.in-Some-2.is in
    let figures = c.in_ok-figures.ensures.found trusted s x at_two lawful in
    let runs : b.live && is_running b.outcome ≡ true = sym c.is_under_way.ensures ∙ c.if-not-is_under_way.false in
    record {
      after = end_build e n x.state;
      accepted = ended_raw x.state n e b known runs;
      acts = refl;
      touches = subst (Touches s x.state (delivery.Result n e)) (sym c.in_ok-left.ensures.touched)
          (ended_touches s x.state n e b c.in-Some-2.item c.in_ok-figures.figures settings lawful.lawful.sound known
          item figures);
      moves = subst (λ es. Moves x es (end_build e n x.state)) (sym c.in_ok-left.ensures.edits) (ended_moves x n e);
      makes_ready = tt;
    })
    (then (then c.in_ok-known.ensures.kept c.in_ok-item.ensures.kept) c.in_ok-figures.ensures.kept) (search rules)

pub returns-in_default-2-clause-undamaged : goal.returns-in_default-2-clause-undamaged
returns-in_default-2-clause-undamaged g c trusted x holds lawful =
    let s = c.args.config.now in
    let b = c.in-Some.known in
    let before = c.in_ok-item.ensures.kept.trusted_before trusted in
    let held = c.in_ok-known.ensures.kept.holds_on before _ x holds in
    let known : build_of x.state c.args.build ≡ Some b = sym (c.in_ok-known.ensures.found before s x holds lawful)
    ∙ c.in-Some.is in
    let none : item_at s x.state b.serial ≡ None = sym (c.in_ok-item.ensures.found trusted s x held lawful)
    ∙ c.in_default-2.is in
    let runs : b.live && is_running b.outcome ≡ true = sym c.is_under_way.ensures ∙ c.if-not-is_under_way.false in
    absurd (item_there s x.state c.args.build b lawful.lawful.sound known runs none)

pub returns-in_err-item-clause-reads : goal.returns-in_err-item-clause-reads
returns-in_err-item-clause-reads g c =
    is_read_under (search rules) (then c.in_ok-known.ensures.kept c.in_err-item.ensures.kept) (search rules)

pub returns-in_default-2-clause-reads : goal.returns-in_default-2-clause-reads
returns-in_default-2-clause-reads g c =
    is_read_under (search rules) (then c.in_ok-known.ensures.kept c.in_ok-item.ensures.kept) (search rules)

pub returns-in_err-figures-clause-reads : goal.returns-in_err-figures-clause-reads
returns-in_err-figures-clause-reads g c = is_read_under (search rules)
    (then (then c.in_ok-known.ensures.kept c.in_ok-item.ensures.kept) c.in_err-figures.ensures.kept) (search rules)

pub returns-in_err-left-clause-reads : goal.returns-in_err-left-clause-reads
returns-in_err-left-clause-reads g c = is_read_under (search rules)
    (then (then c.in_ok-known.ensures.kept c.in_ok-item.ensures.kept) c.in_ok-figures.ensures.kept) (search rules)

pub returns-in_default-clause-reads : goal.returns-in_default-clause-reads
returns-in_default-clause-reads g c = is_read_under (λ trusted x holds lawful.
    let s = c.args.config.now in
    let none = sym (c.in_ok-known.ensures.found trusted s x holds lawful) ∙ c.in_default.is in
    (ap (settled_step s) (unknown_raw x.state c.args.build c.args.ending none), refl))
    (search rules) (search rules)

pub returns-then-not-is_under_way-clause-reads : goal.returns-then-not-is_under_way-clause-reads
returns-then-not-is_under_way-clause-reads g c = is_read_under (λ trusted x holds lawful.
    let known = sym (c.in_ok-known.ensures.found trusted c.args.config.now x holds lawful) ∙ c.in-Some.is in
    late_raw x.state c.args.build c.args.ending c.in-Some.known known
    (sym c.is_under_way.ensures ∙ c.if-not-is_under_way.true))
    (search rules) (search rules)
