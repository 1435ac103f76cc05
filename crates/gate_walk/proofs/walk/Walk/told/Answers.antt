use Rattle.std.proofs.Common.{not, ap, ◌∙◌}
use Rattle.gate_walk.specs.Walk.{Carry, Walk, fails_by, is_cut_by, verdict_among, visit_edits}
use Rattle.gate_walk.specs.Views.{seen_of}
use Rattle.gate_walk.proofs.VisitEdits.{told_is}
use Rattle.gate_walk.proofs.walk.Walk.told.Goals as goal

pub returns-clause-edits : goal.returns-clause-edits
returns-clause-edits c =
    let w = c.self.inside in
    let v = seen_of c.args.seen.now in
    let k : Carry = record { resets = w.resets; passes = w.passes; ahead = w.ahead; gone = w.gone.items; marks = w.marks.items; reports = w.reports; window = w.window } in
    let judged = c.in_ok-judged.ensures in
    let gone = c.as_slice.ensures.value in
    let marks = c.as_slice-2.ensures.value in
    let counting = c.still_counting-counting.ensures in
    c.into_vec.ensures ∙ c.in_ok-edits.ensures
    ∙ told_is w.name (record { floor = w.floor; rule = w.rule }) k v c.in_ok-judged.judged.cut c.in_ok-judged.judged.failing c.in_ok-judged.judged.verdict
    (judged.cut ∙ (λ i. is_cut_by v.fast (marks i) v.needs v.jobs (counting i)))
    (judged.failing ∙ (λ i. fails_by (marks i) v.needs v.jobs (counting i)))
    (judged.verdict ∙ (λ i. verdict_among (not (c.is_some.ensures i)) v.fast (gone i) (marks i) v.needs v.jobs (counting i)))
    ∙ ap (λ (x : Walk). visit_edits x.name x.bounds x.carry v) c.self.view_is
