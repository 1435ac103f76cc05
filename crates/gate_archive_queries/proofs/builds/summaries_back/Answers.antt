use Rattle.std.proofs.Common.{rules, ◌≡◌, ◌∙◌, ◌++◌, ◌∷◌, [], suc, ◌+◌, length, map, reverse, take, sym, ap, arith}
use Rattle.std.proofs.lemmas.List.{length-map, map-append, take_all}
use Rattle.gate_archive.specs.ItemText.{summary_of}
use Rattle.gate_found_rows.specs.Whole.{is_build_row_in_form}
use Rattle.gate_found_rows.proofs.DecodeLemmas.{row_shows}
use Rattle.gate_archive_queries.specs.Asked.{summary_shown}
use Rattle.gate_archive_queries.proofs.builds.summaries_back.Goals as goal

pub returns-in_err-build : goal.returns-in_err-build
returns-in_err-build c xs are form =
    let at = row_shows summary_shown is_build_row_in_form c.args.rows.now c.row-item.result c.loop-row.row-index xs c.loop-row-test.true c.row-item.is are form in
    let unblamed = c.in_err-build.ensures at.one at.is at.in_form in
    search rules

pub loop-row-preserved : goal.loop-row-preserved
loop-row-preserved c = (
  omega (arith, c.push_reserved.ensures.len, c.loop-row.invariant.0),
  omega (arith, c.push_reserved.ensures.capacity, c.loop-row.invariant.1),
  λ xs are form.
      let k = c.loop-row.row-index in
      let at = row_shows summary_shown is_build_row_in_form c.args.rows.now c.row-item.result k xs c.loop-row-test.true c.row-item.is are form in
      let step : suc k ≡ k + 1 = omega arith in
      c.push_reserved.ensures.items ∙ ap (λ l. l ++ c.in_ok-build.build ∷ []) (c.loop-row.invariant.2 xs are form)
      ∙ ap (λ x. map summary_of (take k xs) ++ x ∷ []) (c.in_ok-build.ensures at.one at.is at.in_form)
      ∙ sym (map-append summary_of (take k xs) (at.one ∷ []))
      ∙ ap (map summary_of) (sym at.next) ∙ ap (λ n. map summary_of (take n xs)) step,
)

pub returns : goal.returns
returns c xs are form =
    let all : take c.loop-row.row-index xs ≡ xs = take_all c.loop-row.row-index xs (omega (arith, ap length are, length-map xs summary_shown)) in
    c.from_vec.ensures ∙ c.reverse.ensures.items ∙ ap reverse (c.loop-row.invariant.2 xs are form ∙ ap (map summary_of) all)
