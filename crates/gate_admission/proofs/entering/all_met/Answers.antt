use Rattle.std.proofs.Common.{◌+◌, ◌∙◌, ◌&&◌, Bool, drop, sym, ap, rules}
use Rattle.std.specs.Prelude.{is_some}
use Rattle.std.specs.List.{list_all}
use Rattle.gate_types.specs.declared.records.Need.{Need}
use Rattle.gate_book_trait.specs.Reads.{items_in}
use Rattle.gate_book_trait.proofs.KeptLemmas.{then}
use Rattle.gate_book_trait.proofs.ReadingLemmas.{is_read}
use Rattle.gate_admission.specs.Enters.{is_met_by_rows, is_there}
use Rattle.gate_admission.proofs.Along.{all_step, all_end}
use Rattle.gate_admission.proofs.MetByRows.{fine_is, and_assoc, and_end}
use Rattle.gate_admission.proofs.entering.all_met.Goals as goal

pub loop-need-preserved : goal.loop-need-preserved
loop-need-preserved g c = record {
  kept = then c.loop-need.invariant.kept c.in_ok-fine.ensures.kept;
  there = λ trusted s x holds lawful v led there.
      let one = c.in_ok-fine.ensures.kept.trusted_before trusted in
      let start = c.loop-need.invariant.kept.holds_on one s x holds in
      let needs = c.args.needs.now in
      let k = c.loop-need.need-index in
      let t : Need → Bool = is_there (items_in s v c.args.queue.now) in
      let met = ap is_some (sym (c.in_ok-fine.ensures.found trusted s x start lawful v led there) ∙ c.in-Some.is) in
      sym (all_step t needs k c.need-item.result c.loop-need-test.true c.need-item.is
      ∙ ap (λ b. b && list_all t (drop (k + 1) needs)) met)
      ∙ c.loop-need.invariant.there one s x holds lawful v led there;
  fine = λ trusted s x holds lawful v led there.
      let one = c.in_ok-fine.ensures.kept.trusted_before trusted in
      let start = c.loop-need.invariant.kept.holds_on one s x holds in
      let needs = c.args.needs.now in
      let k = c.loop-need.need-index in
      let rows = items_in s v c.args.queue.now in
      let t : Need → Bool = is_met_by_rows rows in
      let rest : Bool = list_all t (drop (k + 1) needs) in
      let met = sym (c.in_ok-fine.ensures.found trusted s x start lawful v led there) ∙ c.in-Some.is in
      ap (λ b. b && rest) c.conjunction-all_fine.ensures ∙ and_assoc c.loop-need.all_fine c.in-Some.fine rest
      ∙ ap (λ b. c.loop-need.all_fine && (b && rest)) (fine_is rows c.need-item.result c.in-Some.fine met)
      ∙ ap (λ b. c.loop-need.all_fine && b)
      (sym (all_step t needs k c.need-item.result c.loop-need-test.true c.need-item.is))
      ∙ c.loop-need.invariant.fine one s x holds lawful v led there;
}

pub returns-in_default : goal.returns-in_default
returns-in_default g c = is_read (λ trusted s x holds lawful v led there.
    let one = c.in_ok-fine.ensures.kept.trusted_before trusted in
    let start = c.loop-need.invariant.kept.holds_on one s x holds in
    let needs = c.args.needs.now in
    let k = c.loop-need.need-index in
    let t : Need → Bool = is_there (items_in s v c.args.queue.now) in
    let met = ap is_some (sym (c.in_ok-fine.ensures.found trusted s x start lawful v led there) ∙ c.in_default.is) in
    sym (c.loop-need.invariant.there one s x holds lawful v led there)
    ∙ all_step t needs k c.need-item.result c.loop-need-test.true c.need-item.is
    ∙ ap (λ b. b && list_all t (drop (k + 1) needs)) met)
    (search rules) (search rules)

pub returns : goal.returns
returns g c = is_read (λ trusted s x holds lawful v led there.
    let rows = items_in s v c.args.queue.now in
    let needs = c.args.needs.now in
    let k = c.loop-need.need-index in
    let fine : Bool = c.loop-need.all_fine in (
      sym (c.loop-need.invariant.there trusted s x holds lawful v led there)
          ∙ all_end (is_there rows) needs k c.loop-need-test.false,
      sym (and_end fine) ∙ sym (ap (λ b. fine && b) (all_end (is_met_by_rows rows) needs k c.loop-need-test.false))
          ∙ c.loop-need.invariant.fine trusted s x holds lawful v led there,
    ))
    (search rules) (search rules)
