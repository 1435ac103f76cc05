use Rattle.std.proofs.Common.{◌∙◌, sym, ap, subst, rules}
use Rattle.std.specs.Prelude.{option_map}
use Rattle.std.proofs.lemmas.Bool.{ltb-true, ltb-false}
use Rattle.gate_reads.specs.NextBuild.{under_number}
use Rattle.gate_reads.specs.Parts.{TellsPart}
use Rattle.gate_reads.proofs.Found.{none_before}
use Rattle.gate_reads.proofs.Walking.{lawful_front}
use Rattle.gate_reads.proofs.Trying.{is_open, tried_front, tried_closed}
use Rattle.gate_reads.proofs.TryingParts.{asked_fits, asked_above, part_places, part_behind, part_missing, part_here}
use Rattle.gate_reads.proofs.TryingParts.{part_short, part_next}
use Rattle.gate_book_trait.proofs.KeptLemmas.{then}
use Rattle.gate_book_trait.proofs.ReadingLemmas.{is_read_under}
use Rattle.gate_reads.proofs.choosing.first_build.Goals as goal

pub along-init : goal.along-init
along-init g c = record {
  kept = search rules;
  tried = λ trusted x holds lawful q named e.
      tried_front c.args.config.now x.state q c.args.window c.new-ahead.result
      (lawful_front c.args.config.now x lawful c.args.queue.now q named) e c.new-ahead.ensures;
}

pub returns-in_default : goal.returns-in_default
returns-in_default g c = is_read_under (λ trusted x holds lawful q named e.
    let config = c.args.config.now in
    let name = c.args.queue.now in
    let most = c.size_of_part-most.result in
    let start = c.in_ok-part.ensures.reads.kept.trusted_before trusted in
    let held = c.along.invariant.kept.holds_on start _ x holds in
    let none = subst (TellsPart config x.state name c.along.above most) c.in_default.is
    (c.in_ok-part.ensures.reads.found trusted _ x held lawful) in
    sym (ap (option_map (under_number c.args.number))
    (part_missing (c.along.invariant.tried start x holds lawful q named e) name named most none
    (asked_above c.args.window c.along.left most (sym c.is_open.ensures ∙ c.along-test.true) c.size_of_part-most.ensures)
    (asked_fits c.args.window q.window c.along.left most e c.size_of_part-most.ensures))))
    (search rules) (search rules)

pub returns-in-Some-2 : goal.returns-in-Some-2
returns-in-Some-2 g c = is_read_under (λ trusted x holds lawful q named e.
    let config = c.args.config.now in
    let name = c.args.queue.now in
    let most = c.size_of_part-most.result in
    let before = c.in_ok-build.ensures.reads.kept.trusted_before trusted in
    let start = c.in_ok-part.ensures.reads.kept.trusted_before before in
    let held = c.along.invariant.kept.holds_on start _ x holds in
    let part = subst (TellsPart config x.state name c.along.above most) c.in-Some.is
    (c.in_ok-part.ensures.reads.found before _ x held lawful) in
    let tried = c.along.invariant.tried start x holds lawful q named e in
    let found = c.in_ok-build.ensures.reads.found trusted x
    (c.in_ok-part.ensures.reads.kept.holds_on before _ x held) lawful q
    (part_places most tried) (part_behind tried name named most c.in-Some.part.items part.items) part.told in
    part_here tried most (asked_fits c.args.window q.window c.along.left most e c.size_of_part-most.ensures)
    c.args.number c.in-Some-2.build (sym c.in-Some-2.is ∙ found))
    (then (then c.along.invariant.kept c.in_ok-part.ensures.reads.kept) c.in_ok-build.ensures.reads.kept) (search rules)

pub returns-then-is_short : goal.returns-then-is_short
returns-then-is_short g c = is_read_under (λ trusted x holds lawful q named e.
    let config = c.args.config.now in
    let name = c.args.queue.now in
    let most = c.size_of_part-most.result in
    let rows = c.in-Some.part.items in
    let before = c.in_ok-build.ensures.reads.kept.trusted_before trusted in
    let start = c.in_ok-part.ensures.reads.kept.trusted_before before in
    let held = c.along.invariant.kept.holds_on start _ x holds in
    let part = subst (TellsPart config x.state name c.along.above most) c.in-Some.is
    (c.in_ok-part.ensures.reads.found before _ x held lawful) in
    let tried = c.along.invariant.tried start x holds lawful q named e in
    let found = c.in_ok-build.ensures.reads.found trusted x
    (c.in_ok-part.ensures.reads.kept.holds_on before _ x held) lawful q
    (part_places most tried) (part_behind tried name named most rows part.items) part.told in
    sym (ap (option_map (under_number c.args.number)) (part_short tried name named most rows part.items
    (ltb-true _ most (sym c.is_short.ensures ∙ c.if-is_short.true))
    (asked_fits c.args.window q.window c.along.left most e c.size_of_part-most.ensures)
    (none_before (under_number c.args.number) _ (sym found ∙ c.in_default-2.is)))))
    (then (then c.along.invariant.kept c.in_ok-part.ensures.reads.kept) c.in_ok-build.ensures.reads.kept) (search rules)

pub along-preserved : goal.along-preserved
along-preserved g c = record {
  kept = then (then c.along.invariant.kept c.in_ok-part.ensures.reads.kept) c.in_ok-build.ensures.reads.kept;
  tried = λ trusted x holds lawful q named e.
      let config = c.args.config.now in
      let name = c.args.queue.now in
      let most = c.size_of_part-most.result in
      let rows = c.in-Some.part.items in
      let before = c.in_ok-build.ensures.reads.kept.trusted_before trusted in
      let start = c.in_ok-part.ensures.reads.kept.trusted_before before in
      let held = c.along.invariant.kept.holds_on start _ x holds in
      let part = subst (TellsPart config x.state name c.along.above most) c.in-Some.is
      (c.in_ok-part.ensures.reads.found before _ x held lawful) in
      let tried = c.along.invariant.tried start x holds lawful q named e in
      let found = c.in_ok-build.ensures.reads.found trusted x
      (c.in_ok-part.ensures.reads.kept.holds_on before _ x held) lawful q (part_places most tried)
      (part_behind tried name named most rows part.items) part.told in
      part_next tried name named most rows part.items
      (ltb-false _ most (sym c.is_short.ensures ∙ c.if-is_short.false))
      (asked_fits c.args.window q.window c.along.left most e c.size_of_part-most.ensures)
      (none_before (under_number c.args.number) _ (sym found ∙ c.in_default-2.is)) c.get-above.result
      c.saturating_sub-left.result c.build_of_part.new.ahead (c.get-above.ensures.value ∙ part.last)
      c.saturating_sub-left.ensures (c.in_ok-build.ensures.ahead c.in_default-2.is);
}

pub returns : goal.returns
returns g c = is_read_under (λ trusted x holds lawful q named e.
    sym (ap (option_map (under_number c.args.number))
    (tried_closed c.args.config.now x.state q c.along.above c.along.left
    c.along.ahead (c.along.invariant.tried trusted x holds lawful q named e)
    (ap (λ w. is_open w c.along.left) (sym e) ∙ sym c.is_open.ensures ∙ c.along-test.false))))
    (search rules) (search rules)
