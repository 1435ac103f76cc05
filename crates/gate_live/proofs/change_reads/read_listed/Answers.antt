use Rattle.std.proofs.Common.{◌≡◌, ◌∙◌, ◌+◌, None, Some, List, take, sym, subst, rules}
use Rattle.std.proofs.lemmas.List.{take_all}
use Rattle.gate_types.specs.Tables.{tables, change_in}
use Rattle.gate_types.specs.declared.records.Ready.{Ready}
use Rattle.gate_types.specs.declared.rows.ChangeRow.{ChangeRow}
use Rattle.gate_book_trait.specs.RowReads.{AreReady}
use Rattle.gate_book_trait.proofs.ReadLemmas.{change_is, ready_are}
use Rattle.gate_live.specs.HeldChanges.{changes_held}
use Rattle.gate_book_trait.proofs.KeptLemmas.{then}
use Rattle.gate_book_trait.proofs.ReadingLemmas.{is_read}
use Rattle.gate_live.proofs.ReadChangeLemmas.{AreRead, all_read, none_missing, one_read}
use Rattle.gate_live.proofs.change_reads.read_listed.Goals as goal

pub loop-ready-preserved : goal.loop-ready-preserved
loop-ready-preserved g c =
    let before = c.loop-ready.invariant in
    record {
      sound = c.in_ok-hold.ensures.kept;
      kept = then before.kept c.in_ok-change.ensures.kept;
      told = λ trusted k x holds lawful list.
          let early = c.in_ok-change.ensures.kept.trusted_before trusted in
          let held = before.kept.holds_on early k x holds in
          let all = (tables k x).changes in
          let rs = c.args.list.now in
          let r = c.ready-item.result in
          let i = c.loop-ready.ready-index in
          let known : Some c.in-Some.change ≡ change_in all r.change = sym c.in-Some.is ∙ c.in_ok-change.ensures.found trusted k x held lawful ∙ sym (change_is k x r.change) in
          let ready : AreReady all rs = subst (λ (qs : List Ready). AreReady all qs) (sym list) (ready_are k x lawful) in
          subst (λ (rows : List ChangeRow). AreRead rows all (take (i + 1) rs)) (sym c.in_ok-hold.ensures.rows)
          (one_read (changes_held c.loop-ready.held) all rs i r c.in-Some.change ready c.loop-ready-test.true c.ready-item.is known (before.told early k x holds lawful list));
    }

pub returns-in_default-clause-reads : goal.returns-in_default-clause-reads
returns-in_default-clause-reads g c = is_read (λ trusted k x holds lawful list.
    let before = c.loop-ready.invariant in
    let early = c.in_ok-change.ensures.kept.trusted_before trusted in
    let held = before.kept.holds_on early k x holds in
    let all = (tables k x).changes in
    let rs = c.args.list.now in
    let r = c.ready-item.result in
    let none : None ≡ change_in all r.change = sym c.in_default.is ∙ c.in_ok-change.ensures.found trusted k x held lawful ∙ sym (change_is k x r.change) in
    let ready : AreReady all rs = subst (λ (qs : List Ready). AreReady all qs) (sym list) (ready_are k x lawful) in
    none_missing all rs c.loop-ready.ready-index r ready c.loop-ready-test.true c.ready-item.is none)
    (then c.loop-ready.invariant.kept c.in_ok-change.ensures.kept) (search rules)

pub returns-clause-reads : goal.returns-clause-reads
returns-clause-reads g c = is_read (λ trusted k x holds lawful list.
    let all = (tables k x).changes in
    let rs = c.args.list.now in
    let ready : AreReady all rs = subst (λ (qs : List Ready). AreReady all qs) (sym list) (ready_are k x lawful) in
    all_read (changes_held c.loop-ready.held) all rs ready
    (subst (λ (qs : List Ready). AreRead (changes_held c.loop-ready.held) all qs) (take_all c.loop-ready.ready-index rs c.loop-ready-test.false)
    (c.loop-ready.invariant.told trusted k x holds lawful list)))
    (search rules) (search rules)
