-- A change that may not enter still may not once another has entered that it doesn't need.
use Rattle.std.proofs.Common.{◌≡◌, ℕ, Bool, true, false, ◌&&◌, ◌||◌, List, [], ◌∷◌, ◌++◌, map, length, refl, sym, ap}
use Rattle.std.proofs.Common.{◌∙◌, arith, lt-ltb}
use Rattle.std.specs.Prelude.{nat_lt, ◌==◌, if◌then◌else◌}
use Rattle.std.specs.List.{list_any}
use Rattle.std.proofs.lemmas.Bool.{or_parts, ltb-true}
use Rattle.gate_types.specs.declared.records.Need.{Need}
use Rattle.gate_types.specs.Names.{same_name}
use Rattle.gate_types.specs.Settings.{Settings}
use Rattle.gate_types.specs.declared.records.Ready.{Ready}
use Rattle.gate_types.specs.State.{Item, Queue, State, change_of, project_of, has_change, need_of}
use Rattle.gate_types.specs.Slot.{are_met_by}
use Rattle.gate_types.specs.Admit.{may_enter, entered, with_item, next_item}
use Rattle.gate_admission.proofs.EnteringRow.{length_push}
use Rattle.gate_laws.proofs.Tests.{flipped}
use Rattle.gate_types.specs.Limits.{most_items}

-- a queue with room in which the needs are met
abbrev fits : List Need → Queue → Bool
fits needs q = nat_lt (length q.items) most_items && are_met_by q.items needs

has_more : (is : List Item) (i : Item) (m : ℕ) → i.change == m ≡ false → has_change (is ++ i ∷ []) m ≡ has_change is m
has_more [] i m e = ap (λ t. t || false) e
has_more (x ∷ is) i m e = ap (λ t. x.change == m || t) (has_more is i m e)

-- an item that is none of the needs meets none
met_same : (s : State) (is : List Item) (i : Item) (ns : List ℕ) → list_any (λ m. m == i.change) ns ≡ false →
    are_met_by (is ++ i ∷ []) (map (need_of s) ns) ≡ are_met_by is (map (need_of s) ns)
met_same s is i [] h = refl
met_same s is i (n ∷ ns) h =
    let both = or_parts (n == i.change) (list_any (λ m. m == i.change) ns) h in
    λ k. ((need_of s n).landed || has_more is i n (flipped n i.change both.0) k) && met_same s is i ns both.1 k

-- where it didn't fit it doesn't with one item more
fits_less : (s : State) (q : Queue) (i : Item) (ns : List ℕ) → list_any (λ m. m == i.change) ns ≡ false →
    fits (map (need_of s) ns) q ≡ false → fits (map (need_of s) ns) (with_item i q) ≡ false
fits_less s q i ns h e =
    ap (λ t. nat_lt (length (q.items ++ i ∷ [])) most_items && t) (met_same s q.items i ns h)
    ∙ by_test (nat_lt (length (q.items ++ i ∷ [])) most_items) refl (are_met_by q.items (map (need_of s) ns)) e
  where
    by_test : (b : Bool) → nat_lt (length (q.items ++ i ∷ [])) most_items ≡ b → (m : Bool) →
        (nat_lt (length q.items) most_items && m) ≡ false → (b && m) ≡ false
    by_test false f m g = refl
    by_test true f m g =
        let more = length_push q.items i in
        let less = ltb-true (length (q.items ++ i ∷ [])) most_items f in
        ap (λ t. t && m) (sym (lt-ltb (length q.items) most_items (omega (arith, more, less)))) ∙ g

and_or : (a b d : Bool) → (a && b && d) ≡ (a && (b && d))
and_or true b d = refl
and_or false b d = refl

-- whether a queue of this name takes it
abbrev takes : List ℕ → List Need → Queue → Bool
takes name needs q = same_name q.name name && nat_lt (length q.items) most_items && are_met_by q.items needs

takes_less : (s : State) (name : List ℕ) (i : Item) (ns : List ℕ) (q : Queue) (b : Bool) →
    list_any (λ m. m == i.change) ns ≡ false → takes name (map (need_of s) ns) q ≡ false →
    takes name (map (need_of s) ns) (if b then with_item i q else q) ≡ false
takes_less s name i ns q false h e = e
takes_less s name i ns q true h e =
    and_or (same_name q.name name) (nat_lt (length (q.items ++ i ∷ [])) most_items) (are_met_by (q.items ++ i ∷ []) (map
    (need_of s) ns))
    ∙ by_name (same_name q.name name) (sym (and_or (same_name q.name name) (nat_lt (length q.items) most_items)
    (are_met_by q.items (map (need_of s) ns))) ∙ e)
  where
    by_name : (t : Bool) → (t && fits (map (need_of s) ns) q) ≡ false →
        (t && fits (map (need_of s) ns) (with_item i q)) ≡ false
    by_name true f = fits_less s q i ns h f
    by_name false f = refl

-- along the queues
stays_along : (s : State) (name target : List ℕ) (i : Item) (ns : List ℕ) (qs : List Queue) →
    list_any (λ m. m == i.change) ns ≡ false → list_any (takes name (map (need_of s) ns)) qs ≡ false →
    list_any (takes name (map (need_of s) ns)) (map (λ q. if same_name q.name target then with_item i q else q) qs) ≡
    false
stays_along s name target i ns [] h e = refl
stays_along s name target i ns (q ∷ qs) h e =
    let both = or_parts (takes name (map (need_of s) ns) q) (list_any (takes name (map (need_of s) ns)) qs) e in
    ap (λ t. t || list_any (takes name (map (need_of s) ns)) (map (λ q. if same_name q.name target then with_item i
    q else q) qs)) (takes_less s name i ns q (same_name q.name target) h both.0)
    ∙ stays_along s name target i ns qs h both.1

-- who may not enter still may not once another has entered that it doesn't need
pub stays_out : (c : Settings) (s : State) (r other : Ready) → may_enter c s r ≡ false →
    list_any (λ m. m == other.change) (change_of s r.change).needs ≡ false → may_enter c (entered c s other) r ≡ false
stays_out c s r other e h =
    stays_along s (project_of c s r.change).queue (project_of c s other.change).queue (next_item s other.change)
    (change_of s r.change).needs s.queues h e
