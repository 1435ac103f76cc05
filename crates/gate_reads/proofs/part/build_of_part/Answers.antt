use Rattle.std.proofs.Common.{◌≡◌, ◌∙◌, ◌+◌, List, [], drop, sym, ap, subst, rules}
use Rattle.std.specs.Prelude.{option_map}
use Rattle.std.proofs.lemmas.List.{drop_all}
use Rattle.gate_types.specs.declared.records.Item.{Item as ItemRow}
use Rattle.gate_types.specs.declared.records.Entry.{Entry}
use Rattle.gate_reads.specs.NextBuild.{under_number}
use Rattle.gate_reads.specs.Parts.{ahead_behind}
use Rattle.gate_reads.specs.Places.{IsBehind}
use Rattle.gate_reads.proofs.Along.{Along, along_front, along_here, along_next, along_end, first_behind, row_at}
use Rattle.gate_reads.proofs.Along.{told_first}
use Rattle.gate_book_trait.proofs.KeptLemmas.{then}
use Rattle.gate_book_trait.proofs.ReadingLemmas.{is_read_under}
use Rattle.gate_reads.proofs.part.build_of_part.Goals as goal

pub loop-item-init : goal.loop-item-init
loop-item-init g c = record {
  kept = search rules;
  along = λ trusted x holds lawful q ps h t.
      along_front c.args.config.now x.state c.args.queue.now q ps c.args.ahead.now c.args.part.now
      c.as_slice-left.result.now h t c.as_slice-left.ensures;
  ahead = search rules;
}

pub returns-in-Some-clause-reads : goal.returns-in-Some-clause-reads
returns-in-Some-clause-reads g c = is_read_under (λ trusted x holds lawful q ps h t.
    let config = c.args.config.now in
    let name = c.args.queue.now in
    let items = c.args.part.now.items in
    let before = c.in_ok-build.ensures.kept.trusted_before trusted in
    let held = c.loop-item.invariant.kept.holds_on before _ x holds in
    let at = row_at items c.as_slice-item-items.result.now c.loop-item.item-index c.item-item.result
    c.as_slice-item-items.ensures c.loop-item-test.true c.item-item.is in
    let along = subst (λ rs. Along config x.state name q ps c.loop-item.ahead rs c.loop-item.left.now) at.1
    (c.loop-item.invariant.along before x holds lawful q ps h t) in
    let first = first_behind along.behind in
    let told = told_first along items c.as_slice.result.now c.told-told.result at.0 (c.as_slice.ensures ∙ t.plans)
    c.told-told.ensures.row c.told-told.ensures.jobs c.told-told.ensures.fast
    (c.told-told.ensures.builds ∙ c.split_own.ensures.own) in
    let built = c.in_ok-build.ensures.found trusted x held lawful q first.place
    (subst (λ r. IsBehind config x.state name c.loop-item.ahead r q first.place) (sym c.told-told.ensures.row) first.here)
    told in
    along_here along c.args.number c.in-Some.build (sym c.in-Some.is ∙ built))
    (search rules) (search rules)

pub loop-item-preserved : goal.loop-item-preserved
loop-item-preserved g c =
    let items = c.args.part.now.items in
    let at = row_at items c.as_slice-item-items.result.now c.loop-item.item-index c.item-item.result
    c.as_slice-item-items.ensures c.loop-item-test.true c.item-item.is in
    record {
      kept = then c.loop-item.invariant.kept c.in_ok-build.ensures.kept;
      along = λ trusted x holds lawful q ps h t.
          let config = c.args.config.now in
          let name = c.args.queue.now in
          let before = c.in_ok-build.ensures.kept.trusted_before trusted in
          let held = c.loop-item.invariant.kept.holds_on before _ x holds in
          let along = subst (λ rs. Along config x.state name q ps c.loop-item.ahead rs c.loop-item.left.now) at.1
          (c.loop-item.invariant.along before x holds lawful q ps h t) in
          let first = first_behind along.behind in
          let told = told_first along items c.as_slice.result.now c.told-told.result at.0
          (c.as_slice.ensures ∙ t.plans) c.told-told.ensures.row c.told-told.ensures.jobs
          c.told-told.ensures.fast (c.told-told.ensures.builds ∙ c.split_own.ensures.own) in
          let built = c.in_ok-build.ensures.found trusted x held lawful q first.place
          (subst (λ r. IsBehind config x.state name c.loop-item.ahead r q first.place)
          (sym c.told-told.ensures.row) first.here) told in
          along_next along c.args.number c.push_unless_failing.new.ahead c.split_own.result.1.now
          (sym c.in_default.is ∙ built) c.in_ok-push_unless_failing.ensures c.split_own.ensures.behind;
      ahead = ap (λ (es : List Entry). ahead_behind es (drop (c.loop-item.item-index + 1) items))
          c.in_ok-push_unless_failing.ensures ∙ sym (ap (ahead_behind c.loop-item.ahead) at.1)
          ∙ c.loop-item.invariant.ahead;
    }

pub returns-clause-reads : goal.returns-clause-reads
returns-clause-reads g c = is_read_under (λ trusted x holds lawful q ps h t.
    sym (ap (option_map (under_number c.args.number))
    (along_end (c.loop-item.invariant.along trusted x holds lawful q ps h t)
    (subst (λ (is : List ItemRow). drop c.loop-item.item-index is ≡ []) c.as_slice-item-items.ensures
    (drop_all c.loop-item.item-index c.as_slice-item-items.result.now c.loop-item-test.false)))))
    (search rules) (search rules)
