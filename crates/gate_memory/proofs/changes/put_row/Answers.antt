use Rattle.std.proofs.Common.{rules, ◌≡◌, ◌∙◌, ◌<◌, sym, ap, set, length, Some, None, ◌++◌, ◌∷◌, []}
use Rattle.std.specs.Prelude.{nat_eq}
use Rattle.std.specs.HashMap.{get, Updates}
use Rattle.gate_types.specs.Keys.{number_of_change}
use Rattle.gate_memory.specs.Changes.{in_order, AreApart, FindsNumbers}
use Rattle.gate_memory.proofs.TableLemmas.{in_order_set, in_order_push, position_bound, numbers_set, numbers_push}
use Rattle.gate_memory.proofs.MovedLemmas.{apart_push, apart_set}
use Rattle.gate_memory.proofs.changes.put_row.Goals as goal

pub put_at-requires : goal.put_at-requires
put_at-requires c =
    let n = c.args.row.change.number in
    let has : Some c.in-Some.position ≡ get nat_eq c.args.positions.now n = rw c.number_of_row-number.ensures at c.in-Some.ensures in
    let h : c.in-Some.position < length c.args.rows.now.items = position_bound number_of_change n c.args.rows.now.items c.in-Some.position (sym (has ∙ c.requires.finds n)) in
    search (rules, h)

pub returns-in-Some-clause-rows : goal.returns-in-Some-clause-rows
returns-in-Some-clause-rows c =
    let n = c.args.row.change.number in
    let has : Some c.in-Some.position ≡ get nat_eq c.args.positions.now n = rw c.number_of_row-number.ensures at c.in-Some.ensures in
    ap (in_order number_of_change) c.put_at.ensures.rows ∙ in_order_set number_of_change c.args.row c.args.rows.now.items c.in-Some.position (sym (has ∙ c.requires.finds n))

pub returns-in-Some-clause-finds : goal.returns-in-Some-clause-finds
returns-in-Some-clause-finds c =
    let n = c.args.row.change.number in
    let has : Some c.in-Some.position ≡ get nat_eq c.args.positions.now n = rw c.number_of_row-number.ensures at c.in-Some.ensures in
    let finds : FindsNumbers c.args.positions.now (set c.args.rows.now.items c.in-Some.position c.args.row) =
    numbers_set c.args.positions.now c.args.rows.now.items c.args.row c.in-Some.position (sym has) c.requires.finds in
    rw c.put_at.ensures.rows finds

pub returns-in-None-clause-rows : goal.returns-in-None-clause-rows
returns-in-None-clause-rows c =
    let n = c.args.row.change.number in
    let none : None ≡ get nat_eq c.args.positions.now n = rw c.number_of_row-number.ensures at c.in-None.ensures in
    ap (in_order number_of_change) c.push_reserved.ensures.items ∙ in_order_push number_of_change c.args.row c.args.rows.now.items (sym (none ∙ c.requires.finds n))

pub returns-in-None-clause-finds : goal.returns-in-None-clause-finds
returns-in-None-clause-finds c =
    let old = c.args.rows.now.items in
    let n = c.args.row.change.number in
    let none : None ≡ get nat_eq c.args.positions.now n = rw c.number_of_row-number.ensures at c.in-None.ensures in
    let updated : Updates nat_eq c.args.positions.now c.insert-inserted.new.self n (Some c.len.result) = rw (c.unwrap-old.ensures, c.number_of_row-number.ensures) at c.insert-inserted.ensures.updates in
    let here : c.len.result ≡ length old = search rules in
    let numbers : FindsNumbers c.insert-inserted.new.self (old ++ c.args.row ∷ []) = numbers_push c.args.positions.now c.insert-inserted.new.self old c.args.row c.len.result here (sym none) updated.0 c.requires.finds in
    rw c.push_reserved.ensures.items numbers

pub returns-in-Some-clause-apart : goal.returns-in-Some-clause-apart
returns-in-Some-clause-apart c =
    let old = c.args.rows.now.items in
    let n = c.args.row.change.number in
    let has : Some c.in-Some.position ≡ get nat_eq c.args.positions.now n = rw c.number_of_row-number.ensures at c.in-Some.ensures in
    let apart : AreApart number_of_change (set old c.in-Some.position c.args.row) = apart_set number_of_change c.args.row old c.in-Some.position (sym (has ∙ c.requires.finds n)) c.requires.apart in
    rw c.put_at.ensures.rows apart

pub returns-in-None-clause-apart : goal.returns-in-None-clause-apart
returns-in-None-clause-apart c =
    let old = c.args.rows.now.items in
    let n = c.args.row.change.number in
    let none : None ≡ get nat_eq c.args.positions.now n = rw c.number_of_row-number.ensures at c.in-None.ensures in
    let apart : AreApart number_of_change (old ++ c.args.row ∷ []) = apart_push number_of_change c.args.row old (sym (none ∙ c.requires.finds n)) c.requires.apart in
    rw c.push_reserved.ensures.items apart
