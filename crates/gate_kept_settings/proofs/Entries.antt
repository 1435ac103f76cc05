-- The members of an object, of which some may be left out.
use Rattle.std.proofs.Common.{◌≡◌, ℕ, Bool, true, false, ◌&&◌, cond, List, [], ◌∷◌, Option, Some, None, Ordering}
use Rattle.std.proofs.Common.{Less, Equal, Greater, is_eq, nat_cmp, refl, ap, ◌∙◌}
use Rattle.std.specs.Prelude.{⊤, if◌then◌else◌}
use Rattle.std.specs.Ordering.{match_ordering}
use Rattle.std.specs.Cmp.Lexicographic.{slice_cmp}
use Rattle.std.proofs.lemmas.Bool.{and_parts}
use Rattle.json.proofs.Printed.Utf8.{are_ascii, IsUtf8-are_ascii}
use Rattle.serde_json.specs.Data.{Data, Members, no_members, member}
use Rattle.serde_json.specs.Find.{get_member}
use Rattle.gate_kept_settings.proofs.ReadBack.{IsBelow, IsFit, HasFit}

-- a member, and whether it is left out
pub record Entry : Type 0 where
  pub left_out : Bool
  pub key : List ℕ
  pub value : Data

-- a member that is always there, and one that is left out where it says the default
abbrev pub always : List ℕ → Data → Entry
always k d = record { left_out = false; key = k; value = d }

abbrev pub unless_default : Bool → List ℕ → Data → Entry
unless_default t k d = record { left_out = t; key = k; value = d }

abbrev pub unless : Bool → List ℕ → Data → Members → Members
unless true k d ms = ms
unless false k d ms = member k d ms

-- the members that are there
abbrev pub present : List Entry → Members
present [] = no_members
present (e ∷ es) = unless e.left_out e.key e.value (present es)

-- ---- names that rise, whichever are left out

abbrev is_greater : Ordering → Bool
is_greater Less = false
is_greater Equal = false
is_greater Greater = true

abbrev is_below : List ℕ → List Entry → Bool
is_below k [] = true
is_below k (e ∷ es) = is_greater (slice_cmp nat_cmp e.key k) && is_below k es

-- ASCII names in their order
abbrev pub are_names : List Entry → Bool
are_names [] = true
are_names (e ∷ es) = are_ascii e.key && is_below e.key es && are_names es

greater : (o : Ordering) → is_greater o ≡ true → o ≡ Greater
greater Less h = absurd cc
greater Equal h = absurd cc
greater Greater h = refl

below_unless : (t : Bool) (k l : List ℕ) (d : Data) (ms : Members) → slice_cmp nat_cmp l k ≡ Greater → IsBelow k ms → IsBelow k (unless t l d ms)
below_unless true k l d ms above below = below
below_unless false k l d ms above below = (above, below)

below : (k : List ℕ) (es : List Entry) → is_below k es ≡ true → IsBelow k (present es)
below k [] h = tt
below k (e ∷ es) h =
    let (here, later) = and_parts (is_greater (slice_cmp nat_cmp e.key k)) (is_below k es) h in
    below_unless e.left_out k e.key e.value (present es) (greater _ here) (below k es later)

abbrev pub ValuesFit : List Entry → ℕ → Type 0
ValuesFit [] n = ⊤
ValuesFit (e ∷ es) n = IsFit e.value n × ValuesFit es n

fit_unless : (t : Bool) (k : List ℕ) (d : Data) (ms : Members) (n : ℕ) → are_ascii k ≡ true → IsFit d n → IsBelow k ms → HasFit ms n → HasFit (unless t k d ms) n
fit_unless true k d ms n ascii fit under more = more
fit_unless false k d ms n ascii fit under more = (IsUtf8-are_ascii k ascii, fit, under, more)

-- members whose values fit
pub fit_present : (es : List Entry) (n : ℕ) → are_names es ≡ true → ValuesFit es n → HasFit (present es) n
fit_present [] n h fit = tt
fit_present (e ∷ es) n h fit =
    let (front, later) = and_parts (are_ascii e.key && is_below e.key es) (are_names es) h in
    let (ascii, under) = and_parts (are_ascii e.key) (is_below e.key es) front in
    fit_unless e.left_out e.key e.value (present es) n ascii fit.0 (below e.key es under) (fit_present es n later fit.1)

-- ---- what stands at a name

abbrev pub or_else : Bool → Data → Option Data → Option Data
or_else true d o = o
or_else false d o = Some d

abbrev pub entry_at : List ℕ → List Entry → Option Data
entry_at k [] = None
entry_at k (e ∷ es) = if is_eq (slice_cmp nat_cmp k e.key) then or_else e.left_out e.value (entry_at k es) else entry_at k es

at_name : (o : Ordering) (a b : Option Data) → match_ordering o a b a ≡ cond (is_eq o) b a
at_name Less a b = refl
at_name Equal a b = refl
at_name Greater a b = refl

either : (b : Bool) (o : Option Data) → o ≡ cond b o o
either true o = refl
either false o = refl

get_unless : (t : Bool) (k l : List ℕ) (d : Data) (ms : Members) → get_member k (unless t l d ms) ≡ cond (is_eq (slice_cmp nat_cmp k l)) (or_else t d (get_member k ms)) (get_member k ms)
get_unless true k l d ms = either (is_eq (slice_cmp nat_cmp k l)) (get_member k ms)
get_unless false k l d ms = at_name (slice_cmp nat_cmp k l) (get_member k ms) (Some d)

-- is what was put there, if it wasn't left out
pub get_present : (k : List ℕ) (es : List Entry) → get_member k (present es) ≡ entry_at k es
get_present k [] = refl
get_present k (e ∷ es) =
    get_unless e.left_out k e.key e.value (present es)
    ∙ ap (λ o. cond (is_eq (slice_cmp nat_cmp k e.key)) (or_else e.left_out e.value o) o) (get_present k es)
