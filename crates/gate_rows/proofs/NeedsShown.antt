-- Rows that show needs, and the numbers that these are compared with.
use Rattle.std.proofs.Common.{◌≡◌, ◌&&◌, ℕ, pos, Bool, List, [], ◌∷◌, map, nat_eq, sym, ap, ◌∙◌, eqb}
use Rattle.sqlite.specs.Order.{Row}
use Rattle.sqlite.specs.declared.types.Value.TheVariants.{Int}
use Rattle.gate_schema.specs.Rows.{NeedRow}
use Rattle.gate_schema.specs.Shown.{need_shown}
use lib.Pointwise.{pointwise}

-- the numbers of needs
abbrev pub needed_of : List NeedRow → List ℕ
needed_of found = map (λ (y : NeedRow). y.needed) found

-- needs are the same where the first is, and the others are
pub first_and_others : (found : List NeedRow) (rest later : List Row) (row : Row) (left others : List ℕ) (needed : ℕ) (is : Bool) → rest ≡ row ∷ later → left ≡ needed ∷ others
    → ((n : ℕ) → row ≡ Int (pos n) ∷ [] → is ≡ eqb n needed) → rest ≡ map need_shown found
    → (xs : List NeedRow) × (later ≡ map need_shown xs) × (pointwise nat_eq (needed_of found) left ≡ (is && pointwise nat_eq (needed_of xs) others))
first_and_others [] rest later row left others needed is rows numbers same shows = absurd (let e = sym rows ∙ shows in cc)
first_and_others (x ∷ xs) rest later row left others needed is rows numbers same shows =
    let e : row ∷ later ≡ need_shown x ∷ map need_shown xs = sym rows ∙ shows in
    let first : row ≡ need_shown x = cc in
    let behind : later ≡ map need_shown xs = cc in
    (xs, behind, ap (λ l. pointwise nat_eq (x.needed ∷ needed_of xs) l) numbers ∙ ap (λ b. b && pointwise nat_eq (needed_of xs) others) (sym (same x.needed first)))
