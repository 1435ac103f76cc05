use Rattle.std.proofs.Common.{◌≡◌, ℕ, ◌∙◌, ◌<◌, ◌≤◌, ◌++◌, ◌∷◌, [], cond, Some, None, length, set, refl, sym, ap}
use Rattle.std.proofs.Common.{subst, arith}
use Rattle.std.specs.Prelude.{◌==◌, nat_eq}
use Rattle.std.specs.HashMap.{get}
use Rattle.gate_types.specs.Keys.{number_of_change}
use Rattle.gate_memory.specs.Sorted.{without}
use Rattle.gate_memory.specs.Changes.{AreApart, FindsNumbers, in_order, position_at}
use Rattle.gate_memory.proofs.TableLemmas.{position_bound}
use Rattle.gate_memory.proofs.MovedLemmas.{apart_front, apart_last, apart_replaced, in_order_moved, in_order_popped}
use Rattle.gate_memory.proofs.MovedLemmas.{in_order_absent, found_before, found_last, still_has, positions_moved}
use Rattle.gate_memory.proofs.MovedLemmas.{positions_popped, positions_absent}
use Rattle.gate_memory.proofs.changes.remove_row.Goals as goal

pub returns-in_default-clause-rows : goal.returns-in_default-clause-rows
returns-in_default-clause-rows c =
    let n = c.args.number in
    in_order_absent number_of_change n c.args.rows.now.items (sym (c.in_default.ensures.value ∙ c.requires.finds n))

pub returns-in_default-clause-finds : goal.returns-in_default-clause-finds
returns-in_default-clause-finds c =
    let n = c.args.number in
    positions_absent number_of_change n c.args.rows.now.items (get nat_eq c.args.positions.now) (get nat_eq c.take_position.new.positions)
    (sym (c.in_default.ensures.value ∙ c.requires.finds n)) c.in_default.ensures.gone c.requires.finds

pub unwrap-last-requires : goal.unwrap-last-requires
unwrap-last-requires c =
    let n = c.args.number in
    let within = position_bound number_of_change n c.args.rows.now.items c.in-Some.position (sym (c.in-Some.ensures.value ∙ c.requires.finds n)) in
    c.pop.ensures.variant.1 (omega (arith, within, c.args.rows.now.ok.0))

-- ---- the last row takes the position

pub move_position-requires : goal.move_position-requires
move_position-requires c =
    let n = c.args.number in
    let x = c.unwrap-last.result in
    let first = c.pop.new.self.items in
    let old = get nat_eq c.args.positions.now in
    let mid = get nat_eq c.take_position.new.positions in
    let whole : c.args.rows.now.items ≡ first ++ x ∷ [] = rw c.unwrap-last.ensures at c.pop.ensures.items in
    let at : position_at number_of_change n (first ++ x ∷ []) ≡ Some c.in-Some.position = ap (position_at number_of_change n) (sym whole) ∙ sym (c.in-Some.ensures.value ∙ c.requires.finds n) in
    let apart : AreApart number_of_change (first ++ x ∷ []) = subst (λ rs. AreApart number_of_change rs) whole c.requires.apart in
    let none : position_at number_of_change (number_of_change x) first ≡ None = apart_last number_of_change x first apart in
    let within : c.in-Some.position < length first = omega (arith, c.if-position-len.true, c.len.ensures, c.pop.new.self.ok.0) in
    let e : position_at number_of_change n first ≡ Some c.in-Some.position = found_before number_of_change x n first c.in-Some.position within at in
    let has : mid (number_of_change x) ≡ Some (length first) = still_has number_of_change x n first c.in-Some.position old mid e none c.in-Some.ensures.gone (λ q. c.requires.finds q ∙ ap (position_at number_of_change q) whole) in
    rw (c.number_of_row.ensures, has) refl

pub returns-then-position-len-clause-rows : goal.returns-then-position-len-clause-rows
returns-then-position-len-clause-rows c =
    let n = c.args.number in
    let x = c.unwrap-last.result in
    let first = c.pop.new.self.items in
    let old = get nat_eq c.args.positions.now in
    let mid = get nat_eq c.take_position.new.positions in
    let whole : c.args.rows.now.items ≡ first ++ x ∷ [] = rw c.unwrap-last.ensures at c.pop.ensures.items in
    let at : position_at number_of_change n (first ++ x ∷ []) ≡ Some c.in-Some.position = ap (position_at number_of_change n) (sym whole) ∙ sym (c.in-Some.ensures.value ∙ c.requires.finds n) in
    let apart : AreApart number_of_change (first ++ x ∷ []) = subst (λ rs. AreApart number_of_change rs) whole c.requires.apart in
    let none : position_at number_of_change (number_of_change x) first ≡ None = apart_last number_of_change x first apart in
    let within : c.in-Some.position < length first = omega (arith, c.if-position-len.true, c.len.ensures, c.pop.new.self.ok.0) in
    let e : position_at number_of_change n first ≡ Some c.in-Some.position = found_before number_of_change x n first c.in-Some.position within at in
    ap (in_order number_of_change) c.put_at.ensures.rows ∙ in_order_moved number_of_change x n first c.in-Some.position (apart_front number_of_change x first apart) e none
    ∙ ap (λ rs. without number_of_change n (in_order number_of_change rs)) (sym whole)

pub returns-then-position-len-clause-finds : goal.returns-then-position-len-clause-finds
returns-then-position-len-clause-finds c =
    let n = c.args.number in
    let x = c.unwrap-last.result in
    let first = c.pop.new.self.items in
    let old = get nat_eq c.args.positions.now in
    let mid = get nat_eq c.take_position.new.positions in
    let whole : c.args.rows.now.items ≡ first ++ x ∷ [] = rw c.unwrap-last.ensures at c.pop.ensures.items in
    let at : position_at number_of_change n (first ++ x ∷ []) ≡ Some c.in-Some.position = ap (position_at number_of_change n) (sym whole) ∙ sym (c.in-Some.ensures.value ∙ c.requires.finds n) in
    let apart : AreApart number_of_change (first ++ x ∷ []) = subst (λ rs. AreApart number_of_change rs) whole c.requires.apart in
    let none : position_at number_of_change (number_of_change x) first ≡ None = apart_last number_of_change x first apart in
    let within : c.in-Some.position < length first = omega (arith, c.if-position-len.true, c.len.ensures, c.pop.new.self.ok.0) in
    let e : position_at number_of_change n first ≡ Some c.in-Some.position = found_before number_of_change x n first c.in-Some.position within at in
    let moved : (q : ℕ) → get nat_eq c.move_position.new.positions q ≡ cond (number_of_change x == q) (Some c.in-Some.position) (mid q) = rw c.number_of_row.ensures at c.move_position.ensures.moved in
    let found : FindsNumbers c.move_position.new.positions (set first c.in-Some.position x) =
    positions_moved number_of_change x n first c.in-Some.position old mid (get nat_eq c.move_position.new.positions) (apart_front number_of_change x first apart) e none moved c.in-Some.ensures.gone (λ q. c.requires.finds q ∙ ap (position_at number_of_change q) whole) in
    rw c.put_at.ensures.rows found

pub returns-then-position-len-clause-apart : goal.returns-then-position-len-clause-apart
returns-then-position-len-clause-apart c =
    let n = c.args.number in
    let x = c.unwrap-last.result in
    let first = c.pop.new.self.items in
    let old = get nat_eq c.args.positions.now in
    let mid = get nat_eq c.take_position.new.positions in
    let whole : c.args.rows.now.items ≡ first ++ x ∷ [] = rw c.unwrap-last.ensures at c.pop.ensures.items in
    let at : position_at number_of_change n (first ++ x ∷ []) ≡ Some c.in-Some.position = ap (position_at number_of_change n) (sym whole) ∙ sym (c.in-Some.ensures.value ∙ c.requires.finds n) in
    let apart : AreApart number_of_change (first ++ x ∷ []) = subst (λ rs. AreApart number_of_change rs) whole c.requires.apart in
    let none : position_at number_of_change (number_of_change x) first ≡ None = apart_last number_of_change x first apart in
    let within : c.in-Some.position < length first = omega (arith, c.if-position-len.true, c.len.ensures, c.pop.new.self.ok.0) in
    let e : position_at number_of_change n first ≡ Some c.in-Some.position = found_before number_of_change x n first c.in-Some.position within at in
    let moved : AreApart number_of_change (set first c.in-Some.position x) = apart_replaced number_of_change x n first c.in-Some.position (apart_front number_of_change x first apart) e none in
    rw c.put_at.ensures.rows moved

-- ---- the last row goes

pub returns-else-position-len-clause-rows : goal.returns-else-position-len-clause-rows
returns-else-position-len-clause-rows c =
    let n = c.args.number in
    let x = c.unwrap-last.result in
    let first = c.pop.new.self.items in
    let old = get nat_eq c.args.positions.now in
    let mid = get nat_eq c.take_position.new.positions in
    let whole : c.args.rows.now.items ≡ first ++ x ∷ [] = rw c.unwrap-last.ensures at c.pop.ensures.items in
    let at : position_at number_of_change n (first ++ x ∷ []) ≡ Some c.in-Some.position = ap (position_at number_of_change n) (sym whole) ∙ sym (c.in-Some.ensures.value ∙ c.requires.finds n) in
    let apart : AreApart number_of_change (first ++ x ∷ []) = subst (λ rs. AreApart number_of_change rs) whole c.requires.apart in
    let none : position_at number_of_change (number_of_change x) first ≡ None = apart_last number_of_change x first apart in
    let behind : length first ≤ c.in-Some.position = omega (arith, c.if-position-len.false, c.len.ensures, c.pop.new.self.ok.0) in
    let same : number_of_change x ≡ n = found_last number_of_change x n first c.in-Some.position behind at in
    in_order_popped number_of_change x first none ∙ ap (λ m. without number_of_change m (in_order number_of_change (first ++ x ∷ []))) same
    ∙ ap (λ rs. without number_of_change n (in_order number_of_change rs)) (sym whole)

pub returns-else-position-len-clause-finds : goal.returns-else-position-len-clause-finds
returns-else-position-len-clause-finds c =
    let n = c.args.number in
    let x = c.unwrap-last.result in
    let first = c.pop.new.self.items in
    let old = get nat_eq c.args.positions.now in
    let mid = get nat_eq c.take_position.new.positions in
    let whole : c.args.rows.now.items ≡ first ++ x ∷ [] = rw c.unwrap-last.ensures at c.pop.ensures.items in
    let at : position_at number_of_change n (first ++ x ∷ []) ≡ Some c.in-Some.position = ap (position_at number_of_change n) (sym whole) ∙ sym (c.in-Some.ensures.value ∙ c.requires.finds n) in
    let apart : AreApart number_of_change (first ++ x ∷ []) = subst (λ rs. AreApart number_of_change rs) whole c.requires.apart in
    let none : position_at number_of_change (number_of_change x) first ≡ None = apart_last number_of_change x first apart in
    let behind : length first ≤ c.in-Some.position = omega (arith, c.if-position-len.false, c.len.ensures, c.pop.new.self.ok.0) in
    let same : number_of_change x ≡ n = found_last number_of_change x n first c.in-Some.position behind at in
    positions_popped number_of_change x n first old mid same none c.in-Some.ensures.gone (λ q. c.requires.finds q ∙ ap (position_at number_of_change q) whole)

pub returns-else-position-len-clause-apart : goal.returns-else-position-len-clause-apart
returns-else-position-len-clause-apart c =
    let n = c.args.number in
    let x = c.unwrap-last.result in
    let first = c.pop.new.self.items in
    let old = get nat_eq c.args.positions.now in
    let mid = get nat_eq c.take_position.new.positions in
    let whole : c.args.rows.now.items ≡ first ++ x ∷ [] = rw c.unwrap-last.ensures at c.pop.ensures.items in
    let at : position_at number_of_change n (first ++ x ∷ []) ≡ Some c.in-Some.position = ap (position_at number_of_change n) (sym whole) ∙ sym (c.in-Some.ensures.value ∙ c.requires.finds n) in
    let apart : AreApart number_of_change (first ++ x ∷ []) = subst (λ rs. AreApart number_of_change rs) whole c.requires.apart in
    apart_front number_of_change x first apart
