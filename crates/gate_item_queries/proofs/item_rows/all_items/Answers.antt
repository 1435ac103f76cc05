use Rattle.std.proofs.Common.{rules, ◌≡◌, ◌∙◌, ◌++◌, ◌∷◌, [], suc, ◌+◌, map, take, length, sym, ap, arith}
use Rattle.std.proofs.lemmas.List.{length-map, map-append, take_all}
use Rattle.gate_schema.specs.Rows.{ItemRow}
use Rattle.gate_schema.specs.Shown.{item_shown}
use Rattle.gate_found_rows.specs.Whole.{is_item_row_in_form}
use Rattle.gate_found_rows.proofs.DecodeLemmas.{row_shows}
use Rattle.gate_item_queries.proofs.item_rows.all_items.Goals as goal

pub returns-in_err-item : goal.returns-in_err-item
returns-in_err-item c is are form =
    let at = row_shows item_shown is_item_row_in_form c.args.rows.now c.row-item.result c.loop-row.row-index is c.loop-row-test.true c.row-item.is are form in
    let unblamed = c.in_err-item.ensures at.one at.is at.in_form in
    search rules

pub loop-row-preserved : goal.loop-row-preserved
loop-row-preserved c = (
  omega (arith, c.push_reserved.ensures.len, c.loop-row.invariant.0),
  omega (arith, c.push_reserved.ensures.capacity, c.loop-row.invariant.1),
  λ is are form.
      let k = c.loop-row.row-index in
      let at = row_shows item_shown is_item_row_in_form c.args.rows.now c.row-item.result k is c.loop-row-test.true c.row-item.is are form in
      let step : suc k ≡ k + 1 = omega arith in
      c.push_reserved.ensures.items ∙ ap (λ l. l ++ c.in_ok-item.item ∷ []) (c.loop-row.invariant.2 is are form)
      ∙ ap (λ x. map (λ (i : ItemRow). i.item) (take k is) ++ x ∷ []) (c.in_ok-item.ensures at.one at.is at.in_form)
      ∙ sym (map-append (λ (i : ItemRow). i.item) (take k is) (at.one ∷ [])) ∙ ap (map (λ (i : ItemRow). i.item)) (sym at.next) ∙ ap (λ n. map (λ (i : ItemRow). i.item) (take n is)) step,
)

pub returns : goal.returns
returns c is are form =
    let all : take c.loop-row.row-index is ≡ is = take_all c.loop-row.row-index is (omega (arith, ap length are, length-map is item_shown)) in
    c.from_vec.ensures ∙ c.loop-row.invariant.2 is are form ∙ ap (map (λ (i : ItemRow). i.item)) all
