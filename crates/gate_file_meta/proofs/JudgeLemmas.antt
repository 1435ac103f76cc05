-- From what is read of `meta` to what is told of it.
use Rattle.std.proofs.Common.{◌≡◌, ◌≢◌, ◌⊎◌, inl, inr, ◌<◌, ℕ, List, [], ◌∷◌, Some, None, Option, Ok, Err, Result}
use Rattle.std.proofs.Common.{true, arith, codes, length, refl, slice_index_or, ◌∙◌, subst}
use Rattle.std.specs.Borrow.{Bor}
use Rattle.std.specs.Prelude.{IfSome, OnOk, bytes_eq, option_copied}
use Rattle.std.proofs.lemmas.Slice.Eq.{bytes_eq-Decides}
use Rattle.sqlite.specs.Order.{Row}
use Rattle.sqlite.specs.declared.types.Value.TheVariants.{Text as Words}
use Rattle.sqlite_value.specs.Order.{column}
use Rattle.gate_schema.specs.Rows.{pair_of_words, schema_version}
use Rattle.gate_types.specs.Adopt.{may_adopt}
use Rattle.gate_types.specs.Settings.{Settings}
use Rattle.gate_types.specs.SettingsText.{settings_text}
use Rattle.gate_types.specs.declared.open_fault.OpenFault.{OpenFault}
use Rattle.gate_types.specs.declared.open_fault.OpenFault.TheVariants as fault
use Rattle.gate_kept_settings.specs.Told.{SaysSettings}
use Rattle.gate_file_meta.specs.Opens.{IsJudged, MayOpen}
use Rattle.gate_file_meta.specs.Reading.{IsFound, IsFoundOf, IsJudgedOf, meta_rows}

-- None is a copy of nothing
pub no_copy : (r : Option (Bor (List ℕ))) (t : List ℕ) → r ≡ None → option_copied r ≡ Some t → ⊥
no_copy r t p q = let e = rw p at q in cc

-- what is lent is what its copy is
pub same_copy : (r : Option (Bor (List ℕ))) (x : Bor (List ℕ)) (t : List ℕ) → r ≡ Some x → option_copied r ≡ Some t → x.now ≡ t
same_copy r x t p q = let e = rw p at q in cc

-- what is true anyway is true on Ok
pub on_ok_any : {X E : Type 0} (r : Result X E) (P : Type 0) → P → OnOk r P
on_ok_any (Ok x) P h = h
on_ok_any (Err e) P h = tt

-- ---- rows of two texts

-- a row of two columns that are these texts
pair_is : (row : Row) (a b : List ℕ) → length row ≡ 2 → column row 0 ≡ Words a → column row 1 ≡ Words b → row ≡ pair_of_words a b
pair_is [] a b two p q = absurd cc
pair_is (v ∷ []) a b two p q = absurd (omega (arith, two))
pair_is (v ∷ w ∷ []) a b two p q =
    let first : v ≡ Words a = p in
    let second : w ≡ Words b = q in
    rw (first, second)
pair_is (v ∷ w ∷ x ∷ row) a b two p q = absurd (omega (arith, two))

-- the second text, where the first is the key
pub pair_for : (row : Row) (first key : List ℕ) (second : Option (Bor (List ℕ))) → length row ≡ 2 → column row 0 ≡ Words first → bytes_eq first key ≡ true
    → IfSome second (λ t. (1 < length row) × (column row 1 ≡ Words t.now)) → IfSome second (λ t. row ≡ pair_of_words key t.now)
pair_for row first key None two p same q = tt
pair_for row first key (Some t) two p same q =
    subst (λ k. row ≡ pair_of_words k t.now) ((bytes_eq-Decides first key).0 same) (pair_is row first t.now two p q.1)

-- rows that are three
pub three_are : (rows : List Row) (a b c : Row) → length rows ≡ 3 → a ≡ slice_index_or rows 0 a → b ≡ slice_index_or rows 1 b → c ≡ slice_index_or rows 2 c → rows ≡ a ∷ b ∷ c ∷ []
three_are [] a b c three p q r = absurd cc
three_are (x ∷ []) a b c three p q r = absurd (omega (arith, three))
three_are (x ∷ y ∷ []) a b c three p q r = absurd (omega (arith, three))
three_are (x ∷ y ∷ z ∷ []) a b c three p q r =
    let first : a ≡ x = p in
    let second : b ≡ y = q in
    let third : c ≡ z = r in
    rw (first, second, third)
three_are (x ∷ y ∷ z ∷ w ∷ rows) a b c three p q r = absurd (omega (arith, three))

-- what is found of rows is found of what they are
pub rows_found : (rows : List Row) (a b c : Row) (found : Result (Option Settings) OpenFault) (format version kept : List ℕ) (d : Settings) → length rows ≡ 3
    → a ≡ slice_index_or rows 0 a → b ≡ slice_index_or rows 1 b → c ≡ slice_index_or rows 2 c
    → a ≡ pair_of_words (codes "format") format → b ≡ pair_of_words (codes "schema") version → c ≡ pair_of_words (codes "settings") kept
    → bytes_eq format (codes "gate") ≡ true → IsFound found version kept d → IsFoundOf found (λ v k. rows ≡ meta_rows v k) d
rows_found rows a b c found format version kept d three p q r pa pb pc gate judged =
    let is = (bytes_eq-Decides format (codes "gate")).0 gate in
    let are : rows ≡ meta_rows version kept = three_are rows a b c three p q r ∙ rw (pa, pb, pc, is) in
    told found are judged
  where
    told : (found : Result (Option Settings) OpenFault) → rows ≡ meta_rows version kept → IsFound found version kept d → IsFoundOf found (λ v k. rows ≡ meta_rows v k) d
    told (Ok None) are both = are ∙ rw (both.0, both.1)
    told (Ok (Some k)) are h = (kept, h.1, h.2, h.3, are ∙ rw h.0)
    told (Err fault.WrongFile) are h = tt
    told (Err fault.OtherSchema) are other = (version, kept, other, are)
    told (Err fault.OtherSettings) are both = (kept, both.1, are ∙ rw both.0)
    told (Err fault.Unavailable) are h = tt

-- what is told of something is told of what follows
pub told_so : (found : Option OpenFault) (P Q : List ℕ → List ℕ → Type 0) (d : Settings) → ((version kept : List ℕ) → P version kept → Q version kept) → IsJudgedOf found P d → IsJudgedOf found Q d
told_so None P Q d f h = (h.0, h.1, f _ h.0 h.2)
told_so (Some fault.WrongFile) P Q d f h = tt
told_so (Some fault.OtherSchema) P Q d f h = (h.0, h.1, h.2, f h.0 h.1 h.3)
told_so (Some fault.OtherSettings) P Q d f h = (h.0, h.1, f _ h.0 h.2)
told_so (Some fault.Unavailable) P Q d f h = tt

-- and so of what is found
pub found_so : (found : Result (Option Settings) OpenFault) (P Q : List ℕ → List ℕ → Type 0) (d : Settings) → ((version kept : List ℕ) → P version kept → Q version kept) → IsFoundOf found P d → IsFoundOf found Q d
found_so (Ok None) P Q d f h = f _ (settings_text d) h
found_so (Ok (Some c)) P Q d f h = (h.0, h.1, h.2, h.3, f _ h.0 h.4)
found_so (Err e) P Q d f h = told_so (Some e) P Q d f h

-- a file of this version and these settings is refused for memory, the disk or its size alone
pub only_unavailable : (f : OpenFault) (kept : List ℕ) (d : Settings) → MayOpen kept d → IsJudged (Some f) schema_version kept d → f ≡ fault.Unavailable
only_unavailable fault.WrongFile kept d may h = absurd h
only_unavailable fault.OtherSchema kept d may h = absurd (h refl)
only_unavailable fault.OtherSettings kept d may h = absurd (h.1 may)
only_unavailable fault.Unavailable kept d may h = refl

-- one of other settings, for these or for memory, the disk or its size
pub only_refused : (f : OpenFault) (kept : List ℕ) (d : Settings) → IsJudged (Some f) schema_version kept d → (f ≡ fault.OtherSettings) ⊎ (f ≡ fault.Unavailable)
only_refused fault.WrongFile kept d h = absurd h
only_refused fault.OtherSchema kept d h = absurd (h refl)
only_refused fault.OtherSettings kept d h = inl refl
only_refused fault.Unavailable kept d h = inr refl

-- ---- what is found, by what it is

pub found_same : (o : Option Settings) (version kept : List ℕ) (d : Settings) → o ≡ None → IsFound (Ok o) version kept d → (version ≡ schema_version) × (kept ≡ settings_text d)
found_same o version kept d is found = subst (λ p. IsFound (Ok p) version kept d) is found

pub found_others : (o : Option Settings) (c : Settings) (version kept : List ℕ) (d : Settings) → o ≡ Some c → IsFound (Ok o) version kept d →
    (version ≡ schema_version) × (kept ≢ settings_text d) × SaysSettings kept c × (may_adopt c d ≡ true)
found_others o c version kept d is found = subst (λ p. IsFound (Ok p) version kept d) is found

pub found_of_same : (o : Option Settings) (Are : List ℕ → List ℕ → Type 0) (d : Settings) → o ≡ None → IsFoundOf (Ok o) Are d → Are schema_version (settings_text d)
found_of_same o Are d is found = subst (λ p. IsFoundOf (Ok p) Are d) is found

pub found_of_others : (o : Option Settings) (c : Settings) (Are : List ℕ → List ℕ → Type 0) (d : Settings) → o ≡ Some c → IsFoundOf (Ok o) Are d → IsFoundOf (Ok (Some c)) Are d
found_of_others o c Are d is found = subst (λ p. IsFoundOf (Ok p) Are d) is found
