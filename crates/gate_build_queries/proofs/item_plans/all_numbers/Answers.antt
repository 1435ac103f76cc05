use Rattle.std.proofs.Common.{◌≡◌, ◌∙◌, ◌++◌, ◌∷◌, [], suc, ◌+◌, true, length, take, sym, ap, arith}
use Rattle.std.proofs.lemmas.List.{length-map, take_all}
use Rattle.sqlite_value.specs.Order.{column}
use Rattle.gate_found_rows.specs.Shown.{number_shown}
use Rattle.gate_found_rows.proofs.DecodeLemmas.{row_shows}
use Rattle.gate_build_queries.proofs.PlannedReads.{any_number}
use Rattle.gate_build_queries.proofs.item_plans.all_numbers.Goals as goal

pub returns-in_err-number : goal.returns-in_err-number
returns-in_err-number c ns are =
    let at = row_shows number_shown (λ n. true) c.args.rows.now c.row-item.result c.loop-row.row-index ns c.loop-row-test.true c.row-item.is are (any_number ns) in
    absurd (c.in_err-number.ensures.err at.one (ap (λ row. column row 0) at.is))

pub loop-row-preserved : goal.loop-row-preserved
loop-row-preserved c = (
  omega (arith, c.push_reserved.ensures.len, c.loop-row.invariant.0),
  omega (arith, c.push_reserved.ensures.capacity, c.loop-row.invariant.1),
  λ ns are.
      let k = c.loop-row.row-index in
      let at = row_shows number_shown (λ n. true) c.args.rows.now c.row-item.result k ns c.loop-row-test.true c.row-item.is are (any_number ns) in
      let step : suc k ≡ k + 1 = omega arith in
      c.push_reserved.ensures.items ∙ ap (λ l. l ++ c.in_ok-number.number ∷ []) (c.loop-row.invariant.2 ns are)
      ∙ ap (λ n. take k ns ++ n ∷ []) (c.in_ok-number.ensures.ok at.one (ap (λ row. column row 0) at.is))
      ∙ sym at.next ∙ ap (λ n. take n ns) step,
)

pub returns : goal.returns
returns c ns are =
    let all : take c.loop-row.row-index ns ≡ ns = take_all c.loop-row.row-index ns (omega (arith, ap length are, length-map ns number_shown)) in
    c.from_vec.ensures ∙ c.loop-row.invariant.2 ns are ∙ all
