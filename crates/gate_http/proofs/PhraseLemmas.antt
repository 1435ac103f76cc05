-- The phrases of the statuses that are answered.
use Rattle.std.proofs.Common.{◌≡◌, ℕ, ◌≤◌, Bool, true, ◌&&◌, nat_eq, nat_lt, List, [], length, Option, Some, None}
use Rattle.std.proofs.Common.{Bor, option_map, unwrap_or, refl, sym, ◌∙◌, arith}
use Rattle.std.specs.List.{list_any}
use Rattle.std.specs.Str.{bytes_eq}
use Rattle.std.proofs.lemmas.Bool.{eqb-true, ltb-true, and_parts}
use Rattle.std.proofs.lemmas.List.Elements.{All-contains}
use Rattle.std.proofs.lemmas.List.Sums.{AllPass-from_list_all}
use Rattle.std.proofs.lemmas.Map.Views.{Contains-from_any}
use Rattle.std.proofs.lemmas.Slice.Eq.{bytes_eq-Decides}
use Rattle.http.specs.StatusCode.{reason_phrase}
use Rattle.gate_http.specs.Response.{phrase}
use Rattle.gate_http.specs.declared.response.TheConstants.{STATUSES}

-- the phrase that the crate gives to a status, or nothing
abbrev reason : ℕ → List ℕ
reason status = unwrap_or (reason_phrase status) []

-- it is the definition's, and short
abbrev is_ours : ℕ → Bool
is_ours status = bytes_eq (reason status) (phrase status) && nat_lt (length (reason status)) 32

-- the status is one that is answered
abbrev IsAnswered : ℕ → Type 0
IsAnswered status = list_any (λ y. nat_eq y status) STATUSES ≡ true

-- so it is for each of these
ours : (status : ℕ) → IsAnswered status → (reason status ≡ phrase status) × (length (reason status) ≤ 31)
ours status h =
    let same = bytes_eq (reason status) (phrase status) in
    let short = nat_lt (length (reason status)) 32 in
    let all = AllPass-from_list_all is_ours STATUSES refl in
    let this = Contains-from_any {eq = λ q y. nat_eq y q} (λ x y e. sym (eqb-true y x e)) status STATUSES h in
    let both = and_parts same short (All-contains (λ s. is_ours s ≡ true) STATUSES status all this) in
    let below = ltb-true (length (reason status)) 32 both.1 in
    ((bytes_eq-Decides (reason status) (phrase status)).0 both.0, omega (arith, below))

behind : (r : Option (Bor (List ℕ))) (none : Bor (List ℕ)) →
    (unwrap_or r none).now ≡ unwrap_or (option_map (λ s. s.now) r) none.now
behind None none = refl
behind (Some s) none = refl

-- what the crate gives for a status
abbrev Gives : ℕ → Option (Bor (List ℕ)) → Type 0
Gives status r = option_map (λ s. s.now) r ≡ reason_phrase status

given : (status : ℕ) (r : Option (Bor (List ℕ))) (none : Bor (List ℕ)) → Gives status r → none.now ≡ []
    → (unwrap_or r none).now ≡ reason status
given status r none e empty = rw (behind, e, empty) refl

pub is_phrase : (status : ℕ) (r : Option (Bor (List ℕ))) (none : Bor (List ℕ)) → IsAnswered status → Gives status r
    → none.now ≡ [] → (unwrap_or r none).now ≡ phrase status
is_phrase status r none h e empty = given status r none e empty ∙ (ours status h).0

pub is_short : (status : ℕ) (r : Option (Bor (List ℕ))) (none : Bor (List ℕ)) → IsAnswered status → Gives status r
    → none.now ≡ [] → length (unwrap_or r none).now ≤ 31
is_short status r none h e empty = rw (given status r none e empty) (ours status h).1
