use Rattle.std.proofs.Common.{rules, ◌≡◌, ◌∙◌, ◌++◌, ◌∷◌, [], suc, ◌+◌, length, take, sym, ap, arith}
use Rattle.std.proofs.lemmas.List.{length-map, take_all}
use Rattle.gate_types.specs.Forms.{is_ready_in_form}
use Rattle.gate_found_rows.specs.Shown.{ready_shown}
use Rattle.gate_found_rows.proofs.DecodeLemmas.{row_shows}
use Rattle.gate_change_queries.proofs.ready_reads.all_ready.Goals as goal

pub returns-in_err-ready : goal.returns-in_err-ready
returns-in_err-ready c rs are form =
    let at = row_shows ready_shown is_ready_in_form c.args.rows.now c.row-item.result c.loop-row.row-index rs c.loop-row-test.true c.row-item.is are form in
    let unblamed = c.in_err-ready.ensures at.one at.is at.in_form in
    search rules

pub loop-row-preserved : goal.loop-row-preserved
loop-row-preserved c = (
  omega (arith, c.push_reserved.ensures.len, c.loop-row.invariant.0),
  omega (arith, c.push_reserved.ensures.capacity, c.loop-row.invariant.1),
  λ rs are form.
      let k = c.loop-row.row-index in
      let at = row_shows ready_shown is_ready_in_form c.args.rows.now c.row-item.result k rs c.loop-row-test.true c.row-item.is are form in
      let step : suc k ≡ k + 1 = omega arith in
      c.push_reserved.ensures.items ∙ ap (λ l. l ++ c.in_ok-ready.ready ∷ []) (c.loop-row.invariant.2 rs are form)
      ∙ ap (λ x. take k rs ++ x ∷ []) (c.in_ok-ready.ensures at.one at.is at.in_form)
      ∙ sym at.next ∙ ap (λ n. take n rs) step,
)

pub returns : goal.returns
returns c rs are form =
    let all : take c.loop-row.row-index rs ≡ rs = take_all c.loop-row.row-index rs (omega (arith, ap length are, length-map rs ready_shown)) in
    c.from_vec.ensures ∙ c.loop-row.invariant.2 rs are form ∙ all
