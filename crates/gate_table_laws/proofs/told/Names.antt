-- Where the names of the settings' queues differ, no two queues of the file have one name.
use Rattle.std.proofs.Common.{◌≡◌, ℕ, suc, ◌≤◌, Bool, true, false, not, cond, List, [], ◌∷◌, map, length, refl, sym}
use Rattle.std.proofs.Common.{ap, ◌∙◌, subst, arith, true≢false}
use Rattle.std.specs.Prelude.{filter}
use Rattle.std.specs.List.{list_any}
use Rattle.std.proofs.lemmas.Bool.{and_parts, not-true}
use Rattle.gate_types.specs.Forms.{IsLawfulContent}
use Rattle.gate_types.specs.Names.{same_name}
use Rattle.gate_types.specs.Once.{Content}
use Rattle.gate_types.specs.Settings.{Settings, are_distinct}
use Rattle.gate_types.specs.State.{Queue}
use Rattle.gate_types.specs.Tables.{tables}
use Rattle.gate_types.specs.Rising.{In}
use Rattle.gate_types.proofs.NameLemmas.{same_name_is}
use Rattle.gate_schema.specs.Rows.{AreNamed, QueueRow, Stored}
use Rattle.gate_rows.specs.Matches.{Matches}
use Rattle.gate_laws.proofs.Alone.{same_name_of}
use Rattle.gate_laws.proofs.Members.{filter_none, none_from}
use Rattle.gate_table_laws.specs.Held.{queue_names}
use Rattle.gate_table_laws.proofs.told.Items.{names_placed}

-- of names that differ, at most one is a name
pub named_once : (names : List (List ℕ)) → are_distinct names ≡ true → (name : List ℕ) →
    length (filter (λ n. same_name n name) names) ≤ 1
named_once [] differ name = omega arith
named_once (n ∷ ns) differ name = by_name (same_name n name) refl (named_once ns both.1 name)
  where
    both : (not (list_any (same_name n) ns) ≡ true) × (are_distinct ns ≡ true)
    both = and_parts (not (list_any (same_name n) ns)) (are_distinct ns) differ

    others : List (List ℕ)
    others = filter (λ m. same_name m name) ns

    apart : same_name n name ≡ true → (m : List ℕ) → In m ns → same_name m name ≡ false
    apart e m k = by_test (same_name m name) refl
      where
        by_test : (t : Bool) → same_name m name ≡ t → t ≡ false
        by_test true d =
            let same = same_name_of n m (same_name_is n name e ∙ sym (same_name_is m name d)) in
            absurd (true≢false (sym same
            ∙ none_from (same_name n) ns (not-true (list_any (same_name n) ns) both.0) m k))
        by_test false d = refl

    by_name : (t : Bool) → same_name n name ≡ t → length others ≤ 1 → length (cond t (n ∷ others) others) ≤ 1
    by_name true e rest = subst (λ l. length (n ∷ l) ≤ 1) (sym (filter_none (λ m. same_name m name) ns (apart e)))
        (omega arith)
    by_name false e rest = rest

-- as many queues have a name as it stands among their names
pub count_names : {X : Type 0} (name_of : X → List ℕ) (name : List ℕ) (xs : List X) →
    length (filter (λ x. same_name (name_of x) name) xs) ≡ length (filter (λ n. same_name n name) (map name_of xs))
count_names name_of name [] = refl
count_names {X = X} name_of name (x ∷ xs) = by_name (same_name (name_of x) name) (count_names name_of name xs)
  where
    others : List X
    others = filter (λ y. same_name (name_of y) name) xs

    names : List (List ℕ)
    names = filter (λ n. same_name n name) (map name_of xs)

    by_name : (t : Bool) → length others ≡ length names →
        length (cond t (x ∷ others) others) ≡ length (cond t (name_of x ∷ names) names)
    by_name true e = ap (λ m. suc m) e
    by_name false e = e

-- so no two queues have one name
pub queues_are_named : {c : Settings} {x : Content} {b : Stored} → are_distinct (queue_names c) ≡ true →
    IsLawfulContent c x → Matches b (tables c x) → AreNamed b
queues_are_named {c = c} {x = x} {b = b} differ lawful told name =
    subst (λ n. n ≤ 1) (sym (ap (λ l. length (filter (λ (q : QueueRow). same_name q.name name) l))
    told.queues_are.places ∙ names_placed c x.state name 0 x.state.queues
    ∙ count_names (λ (q : Queue). q.name) name x.state.queues
    ∙ ap (λ l. length (filter (λ n. same_name n name) l)) lawful.lawful.sound.queues_are_set))
    (named_once (queue_names c) differ name)
