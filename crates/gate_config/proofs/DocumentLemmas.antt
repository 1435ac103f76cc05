-- Values beside their data.
use Rattle.std.proofs.Common.{◌≡◌, ℕ, ◌+◌, List, [], ◌∷◌, ◌++◌, map, take, Bool, refl, ap, sym, ◌∙◌, ◌<◌, get_or}
use Rattle.std.proofs.Common.{true, false, ◌||◌, ◌&&◌, not, String, Global, string_bytes, length}
use Rattle.std.specs.List.{list_any, list_all}
use Rattle.std.proofs.lemmas.List.{length-map, map_more}
use Rattle.std.proofs.lemmas.List.Folds.{list_any_at}
use Rattle.std.specs.Map.{keys_of}
use Rattle.toml.specs.Data.{Data}
use Rattle.toml.specs.View.{view, items_of, members_view}
use Rattle.toml.specs.declared.value.Value.{Value}
use Rattle.gate_config.specs.Document.{values_in, name_of}
use Rattle.gate_types.specs.Names.{same_name}
use Rattle.gate_types.proofs.PlainLemmas.{list_any_map}
use Rattle.gate_config.specs.Rules.{has_double}
use Rattle.gate_config.specs.Members.{may_have, has_other_than}
use Rattle.gate_config.specs.declared.members.Section.{Section}

pub map_view : {Y : Type 0} (f : Data → Y) (vs : List Value) → map f (map view vs) ≡ map (λ v. f (view v)) vs
map_view f [] = refl
map_view f (v ∷ vs) = ap (λ ys. f (view v) ∷ ys) (map_view f vs)

-- what is good of a list of data is good of the values
pub none_of_values : (p : Data → Bool) (vs : List Value) (ds : List Data) → map view vs ≡ ds → list_any p ds ≡ false → list_any (λ v. p (view v)) vs ≡ false
none_of_values p vs ds e h = sym (list_any_map p view vs) ∙ ap (list_any p) e ∙ h

-- what is made of values is made of their data
pub made_of_values : {Y : Type 0} (f : Data → Y) (vs : List Value) (ds : List Data) → map view vs ≡ ds → map (λ v. f (view v)) vs ≡ map f ds
made_of_values f vs ds e = sym (map_view f vs) ∙ ap (map f) e

-- one value more is made
pub made_one : {X Y : Type 0} (f : X → Y) (xs : List X) (k : ℕ) (x : X) (y : Y) (done now : List Y)
    → done ≡ map f (take k xs) → k < length xs → x ≡ get_or xs k x → y ≡ f x → now ≡ done ++ y ∷ [] → now ≡ map f (take (k + 1) xs)
made_one f xs k x y done now so_far l is made added =
    added ∙ ap (λ ys. ys ++ y ∷ []) so_far ∙ ap (λ z. map f (take k xs) ++ z ∷ []) (made ∙ ap f is) ∙ sym (map_more f xs k x l)

none_by : (b c : Bool) → (b ≡ true → c ≡ true) → c ≡ false → b ≡ false
none_by false c f h = refl
none_by true c f h = let e = f refl in absurd cc

-- none of a list is bad, so no item is
pub none_at : {X : Type 0} (p : X → Bool) (xs : List X) (i : ℕ) (d : X) → i < length xs → list_any p xs ≡ false → p (get_or xs i d) ≡ false
none_at p xs i d l h = none_by (p (get_or xs i d)) (list_any p xs) (λ e. list_any_at p xs i d l e) h

-- a test of each item of a list, seen by a function
pub list_all_map : {X Y : Type 0} (p : Y → Bool) (f : X → Y) (xs : List X) → list_all p (map f xs) ≡ list_all (λ x. p (f x)) xs
list_all_map p f [] = refl
list_all_map p f (x ∷ xs) = ap (λ b. p (f x) && b) (list_all_map p f xs)

pub length_view : (vs : List Value) → length (map view vs) ≡ length vs
length_view vs = length-map vs view

-- the first name of a list stands again behind it
pub double_here : (name : List ℕ) (v : Value) (vs : List Value) → name ≡ name_of (view v) → list_any (λ w. same_name name (name_of (view w))) vs ≡ true → has_double (map view (v ∷ vs)) ≡ true
double_here name v vs e h =
    rw (← e, list_any_map (same_name name) name_of (map view vs), list_any_map (λ d. same_name name (name_of d)) view vs, h) refl

-- the first name of a list doesn't
pub double_later : (name : List ℕ) (v : Value) (vs : List Value) → name ≡ name_of (view v) → list_any (λ w. same_name name (name_of (view w))) vs ≡ false → has_double (map view (v ∷ vs)) ≡ has_double (map view vs)
double_later name v vs e h =
    rw (← e, list_any_map (same_name name) name_of (map view vs), list_any_map (λ d. same_name name (name_of d)) view vs, h) refl

-- the values of an array are those that it was made of
pub list_of_view : (ds : List Data) → values_in (items_of ds) ≡ ds
list_of_view [] = refl
list_of_view (d ∷ ds) = ap (λ l. d ∷ l) (list_of_view ds)

-- a test of the keys of a map is one of the members
pub has_other_than_view : (s : Section) (es : List (String Global × Value)) → has_other_than s (members_view es) ≡ list_any (λ k. not (may_have s (string_bytes k))) (keys_of es)
has_other_than_view s [] = refl
has_other_than_view s (e ∷ es) = ap (λ b. not (may_have s (string_bytes e.0)) || b) (has_other_than_view s es)
