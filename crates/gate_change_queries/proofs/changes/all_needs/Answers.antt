use Rattle.std.proofs.Common.{◌≡◌, ◌∙◌, ◌++◌, ◌∷◌, [], suc, ◌+◌, length, take, sym, ap, arith}
use Rattle.std.proofs.lemmas.List.{length-map, take_all}
use Rattle.sqlite_value.specs.Order.{column}
use Rattle.gate_found_rows.specs.Shown.{number_shown}
use Rattle.gate_types.specs.Forms.{is_change_number}
use Rattle.gate_found_rows.proofs.DecodeLemmas.{row_shows}
use Rattle.gate_change_queries.proofs.changes.all_needs.Goals as goal

pub returns-in_err-need : goal.returns-in_err-need
returns-in_err-need c xs are form =
    let at = row_shows number_shown is_change_number c.args.rows.now c.row-item.result c.loop-row.row-index xs c.loop-row-test.true c.row-item.is are form in
    absurd (c.in_err-need.ensures.err at.one (ap (λ r. column r 0) at.is) at.in_form)

pub loop-row-preserved : goal.loop-row-preserved
loop-row-preserved c = (
  omega (arith, c.push_reserved.ensures.len, c.loop-row.invariant.0),
  omega (arith, c.push_reserved.ensures.capacity, c.loop-row.invariant.1),
  λ xs are form.
      let k = c.loop-row.row-index in
      let at = row_shows number_shown is_change_number c.args.rows.now c.row-item.result k xs c.loop-row-test.true c.row-item.is are form in
      let step : suc k ≡ k + 1 = omega arith in
      c.push_reserved.ensures.items ∙ ap (λ l. l ++ c.in_ok-need.need ∷ []) (c.loop-row.invariant.2 xs are form)
      ∙ ap (λ x. take k xs ++ x ∷ []) (c.in_ok-need.ensures.ok at.one (ap (λ r. column r 0) at.is))
      ∙ sym at.next ∙ ap (λ n. take n xs) step,
)

pub returns : goal.returns
returns c xs are form =
    let all : take c.loop-row.row-index xs ≡ xs = take_all c.loop-row.row-index xs (omega (arith, ap length are, length-map xs number_shown)) in
    c.from_vec.ensures ∙ c.loop-row.invariant.2 xs are form ∙ all
