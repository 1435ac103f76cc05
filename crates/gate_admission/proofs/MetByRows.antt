-- Needs that have landed or are items of a queue, by its rows.
use Rattle.std.proofs.Common.{◌≡◌, ◌∙◌, ℕ, Bool, true, false, not, ◌&&◌, ◌||◌, cond, Option, Some, None, List, []}
use Rattle.std.proofs.Common.{◌∷◌, refl, sym, ap}
use Rattle.std.specs.Prelude.{is_some, unwrap_or, option_map, nat_lt, length}
use Rattle.std.specs.List.{list_all}
use Rattle.std.specs.Option.{option_map_or}
use Rattle.std.proofs.lemmas.Option.{none-some}
use Rattle.gate_types.specs.declared.records.Item.{Item as ItemRow}
use Rattle.gate_types.specs.declared.records.Need.{Need}
use Rattle.gate_types.specs.Settings.{Settings}
use Rattle.gate_types.specs.State.{Queue, State, has_change}
use Rattle.gate_types.specs.Slot.{are_met_by}
use Rattle.gate_book_trait.specs.Reads.{queue_named, items_in}
use Rattle.gate_admission.specs.Known.{IsQueue, has_room, has_place}
use Rattle.gate_admission.specs.Enters.{row_of_change, is_met_by_rows, met_by_rows, is_there}
use Rattle.gate_admission.proofs.Admitted.{item_found, place_is}
use Rattle.gate_types.specs.Limits.{most_items}

pub and_assoc : (x y z : Bool) → ((x && y) && z) ≡ (x && (y && z))
and_assoc true y z = refl
and_assoc false y z = refl

pub and_end : (x : Bool) → (x && true) ≡ x
and_end true = refl
and_end false = refl

some_bool : (a b : Bool) → Some a ≡ Some b → b ≡ a
some_bool a b e = sym (ap (λ (o : Option Bool). unwrap_or o a) e)

-- what is told of a need that has landed or has a row
pub fine_is : (rows : List ItemRow) (n : Need) (fine : Bool) → met_by_rows rows n ≡ Some fine →
    fine ≡ is_met_by_rows rows n
fine_is rows n fine e = by_need n.landed (row_of_change n.change rows) e
  where
    by_need : (l : Bool) (o : Option ItemRow) →
        cond l (Some true) (option_map (λ (r : ItemRow). not r.failing) o) ≡ Some fine →
        fine ≡ (l || option_map_or (λ (r : ItemRow). not r.failing) o false)
    by_need true o f = some_bool true fine f
    by_need false None f = absurd (none-some fine f)
    by_need false (Some r) f = some_bool (not r.failing) fine f

-- whether each has landed or has a row is whether it has landed or is an item
are_there : (c : Settings) (v : State) (name : List ℕ) (q : Queue) → queue_named v name ≡ Some q → (needs : List Need) →
    list_all (is_there (items_in c v name)) needs ≡ are_met_by q.items needs
are_there c v name q named [] = refl
are_there c v name q named (n ∷ ns) = λ i. one i && are_there c v name q named ns i
  where
    by_need : (l b : Bool) (o : Option ItemRow) → is_some o ≡ b →
        is_some (cond l (Some true) (option_map (λ (r : ItemRow). not r.failing) o)) ≡ (l || b)
    by_need true b o e = refl
    by_need false b None e = e
    by_need false b (Some r) e = e

    one : is_there (items_in c v name) n ≡ (n.landed || has_change q.items n.change)
    one = by_need n.landed (has_change q.items n.change) (row_of_change n.change (items_in c v name))
        (item_found c v name q n.change named)

-- where one neither has landed nor has a row there is no place
pub none_there : (c : Settings) (v : State) (name : List ℕ) (needs : List Need) → IsQueue v name →
    list_all (is_there (items_in c v name)) needs ≡ false → has_place v name needs ≡ false
none_there c v name needs there e =
    let q = there.queue in
    ap (λ (o : Option Queue). option_map_or (λ (p : Queue). nat_lt (length p.items) most_items && are_met_by p.items needs) o
    false) there.named
    ∙ ap (λ b. nat_lt (length q.items) most_items && b) (sym (are_there c v name q there.named needs) ∙ e)
    ∙ and_false (nat_lt (length q.items) most_items)
  where
    and_false : (x : Bool) → (x && false) ≡ false
    and_false true = refl
    and_false false = refl

-- else there is where there is room
pub all_there : (c : Settings) (v : State) (name : List ℕ) (needs : List Need) →
    list_all (is_there (items_in c v name)) needs ≡ true → has_room v name ≡ has_place v name needs
all_there c v name needs e =
    place_is v name needs (λ q named. sym (are_there c v name q named needs) ∙ e)
