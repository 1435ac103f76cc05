use Rattle.std.proofs.Common.{◌≡◌, ◌∙◌, Some, sym, ap, subst, rules}
use Rattle.gate_types.specs.declared.records.Plan.{Plan}
use Rattle.gate_walk.specs.Walk.{Seen}
use Rattle.gate_walk.specs.UnderWay.{GoesOn}
use Rattle.gate_book_trait.proofs.ReadingLemmas.{is_read_under}
use Rattle.gate_settling.specs.Touching.{delivered, sees}
use Rattle.gate_settling.proofs.WantedLemmas.{row_stale}
use Rattle.gate_settling.proofs.SeenLemmas.{seen_now}
use Rattle.gate_settling.proofs.walking.visited.Goals as goal

pub returns-clause-reads : goal.returns-clause-reads
returns-clause-reads g c = is_read_under (λ trusted x holds lawful h vs vis want.
    let d = delivered h in
    let row = c.args.row in
    let needs = c.as_slice.ensures.value ∙ c.in_ok-facts.ensures.needs trusted _ x holds lawful in
    let plan = c.in_ok-facts.ensures.plan trusted _ x holds lawful in
    let jobs = c.as_slice-2.ensures ∙ ap (λ (p : Plan). p.jobs) plan in
    let fast = ap (λ (p : Plan). p.fast) plan in
    let builds = c.as_slice-3.ensures.value ∙ c.in_ok-facts.ensures.builds trusted _ x holds lawful in
    let given : Seen = record {
      row = row;
      needs = c.as_slice.result.now;
      jobs = c.as_slice-2.result.now;
      fast = c.in_ok-facts.facts.plan.fast;
      builds = c.as_slice-3.result.now;
    } in
    let seen : given ≡ sees h row =
    (λ t. record { row = row; needs = needs t; jobs = jobs t; fast = fast t; builds = builds t })
    ∙ seen_now h row (row_stale h vs row want) in
    subst (λ v. GoesOn d c.args.walk.now c.visit.new.self v vs c.in_ok-visit.field-0) seen
    (c.in_ok-visit.ensures.settles d vs vis (want ∙ ap Some (sym seen))))
    (search rules) (search rules)
