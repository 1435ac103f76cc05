-- How an input begins, byte by byte.
use Rattle.std.proofs.Common.{◌≡◌, ℕ, ◌+◌, ◌-◌, ◌<◌, ◌≤◌, Bool, true, false, cond, List, [], ◌∷◌, ◌++◌, length, take}
use Rattle.std.proofs.Common.{get_or, Option, Some, None, arith, refl, sym, ap, subst, ◌∙◌, append_assoc, append-nil}
use Rattle.std.proofs.Common.{length-append}
use Rattle.std.specs.Io.KnownBytes.{Consumes, IsAtEnd}
use Rattle.std.proofs.Math.Seq.{take-append-add, drop-append_seam}
use Rattle.std.proofs.lemmas.List.{take_all}
use Rattle.std.proofs.lemmas.Bool.{le-ltb, lt-ltb}
use Rattle.std.proofs.KnownBytes.{Consumes-trans}
use Rattle.gate_http.specs.declared.head.Came.TheVariants as came
use Rattle.gate_http.specs.Parts.{HeadComes}
use Rattle.gate_http.specs.Exchange.{Waits, IsUnfinished}
use Rattle.gate_http.specs.Way.{way, way_from, FindsIn}
use Rattle.gate_http.specs.Head.{ends_head, head_from, front_of, front_with, front_without, empty, cut, too_large}
use Rattle.gate_http.specs.Head.{head_limit, whole}

-- no front of it ends in an empty line: whatever follows, the head ends later
pub record IsOpen (begun : List ℕ) : Type 0 where
  pub goes_on : (more : List ℕ) → head_from [] (begun ++ more) ≡ head_from begun more

pub open_none : IsOpen []
open_none = record { goes_on = λ more. refl }

pub head_step : (begun : List ℕ) (b : ℕ) (more : List ℕ) (t : Bool) → ends_head (begun ++ b ∷ []) ≡ t
    → head_from begun (b ∷ more) ≡ cond t (Some (begun ++ b ∷ [])) (head_from (begun ++ b ∷ []) more)
unfolding head_from
head_step begun b more t e = ap (λ x. cond x (Some (begun ++ b ∷ [])) (head_from (begun ++ b ∷ []) more)) e

-- one more byte, and the head is read up to it
pub open_next : (begun : List ℕ) (b : ℕ) (more : List ℕ) (t : Bool) → IsOpen begun → ends_head (begun ++ b ∷ []) ≡ t
    → head_from [] ((begun ++ b ∷ []) ++ more) ≡ cond t (Some (begun ++ b ∷ [])) (head_from (begun ++ b ∷ []) more)
open_next begun b more t h e = ap (head_from []) (append_assoc begun (b ∷ []) more) ∙ h.goes_on (b ∷ more)
    ∙ head_step begun b more t e

pub open_more : (begun : List ℕ) (b : ℕ) → IsOpen begun → ends_head (begun ++ b ∷ []) ≡ false → IsOpen (begun ++ b ∷ [])
open_more begun b h e = record { goes_on = λ more. open_next begun b more false h e }

-- the first bytes of an input that is longer
pub take_within : (n : ℕ) (xs more : List ℕ) → length xs ≤ n → take n (xs ++ more) ≡ xs ++ take (n - length xs) more
take_within n xs more h =
    let e : n ≡ length xs + (n - length xs) = omega arith in
    ap (λ k. take k (xs ++ more)) e ∙ take-append-add xs more (n - length xs)

pub begins_whole : (begun : List ℕ) (b : ℕ) → IsOpen begun → ends_head (begun ++ b ∷ []) ≡ true
    → length (begun ++ b ∷ []) ≤ head_limit
    → (more : List ℕ) → front_of ((begun ++ b ∷ []) ++ more) ≡ whole (begun ++ b ∷ []) more
unfolding front_of
begins_whole begun b h e short more =
    let head = begun ++ b ∷ [] in
    ap (λ x. front_with (head ++ more) (head_from [] x)) (take_within head_limit head more short)
    ∙ ap (front_with (head ++ more)) (open_next begun b (take (head_limit - length head) more) true h e)
    ∙ ap (whole head) (drop-append_seam head more)

pub open_end : (begun : List ℕ) → IsOpen begun → head_from [] begun ≡ None
unfolding head_from
open_end begun h = ap (head_from []) (sym (append-nil begun)) ∙ h.goes_on []

pub without_long : (xs : List ℕ) → head_limit ≤ length xs → front_without xs ≡ too_large
without_long [] h = absurd (omega arith)
without_long (b ∷ bs) h = ap (λ t. cond t cut too_large) (le-ltb (length (b ∷ bs)) head_limit h)

pub begins_too_large : (begun : List ℕ) → IsOpen begun → length begun ≡ head_limit → (more : List ℕ)
    → front_of (begun ++ more) ≡ too_large
unfolding front_of
begins_too_large begun h len more =
    let none : head_limit - length begun ≡ 0 = omega arith in
    let first : take head_limit (begun ++ more) ≡ begun =
    take_within head_limit begun more (omega arith) ∙ ap (λ k. begun ++ take k more) none ∙ append-nil begun in
    ap (λ x. front_with (begun ++ more) (head_from [] x)) first
    ∙ ap (front_with (begun ++ more)) (open_end begun h)
    ∙ without_long (begun ++ more) (omega (arith, length-append begun more))

-- all of a short input without a head
pub begins_without : (begun : List ℕ) → IsOpen begun → length begun < head_limit → front_of begun ≡ front_without begun
unfolding front_of
begins_without begun h short =
    ap (λ x. front_with begun (head_from [] x)) (take_all head_limit begun (omega arith))
    ∙ ap (front_with begun) (open_end begun h)

pub begins_empty : front_of [] ≡ empty
begins_empty = begins_without [] open_none (omega arith)

pub without_short : (b : ℕ) (bs : List ℕ) → length (b ∷ bs) < head_limit → front_without (b ∷ bs) ≡ cut
without_short b bs h = ap (λ t. cond t cut too_large) (lt-ltb (length (b ∷ bs)) head_limit h)

pub begins_cut : (begun : List ℕ) → IsOpen begun → length begun < head_limit → (begun ≡ [] → ⊥) → front_of begun ≡ cut
begins_cut [] h short some = absurd (some refl)
begins_cut (b ∷ bs) h short some = begins_without (b ∷ bs) h short ∙ without_short b bs short

-- a reader that fails within the head leaves an unfinished request
waits_cut : (bytes : List ℕ) → front_of bytes ≡ cut → FindsIn (front_of bytes) None × IsUnfinished (way bytes None)
waits_cut bytes e = (subst (λ f. FindsIn f None) (sym e) refl, subst (λ f. IsUnfinished (way_from f None)) (sym e) refl)

waits_empty : (bytes : List ℕ) → front_of bytes ≡ empty → FindsIn (front_of bytes) None × IsUnfinished (way bytes None)
waits_empty bytes e = (subst (λ f. FindsIn f None) (sym e) refl, subst (λ f. IsUnfinished (way_from f None)) (sym e) tt)

waits_open : (begun : List ℕ) → IsOpen begun → length begun < head_limit
    → FindsIn (front_of begun) None × IsUnfinished (way begun None)
waits_open [] h short = waits_empty [] begins_empty
waits_open (b ∷ bs) h short = waits_cut (b ∷ bs) (begins_without (b ∷ bs) h short ∙ without_short b bs short)

pub head_waits : (begun : List ℕ) (from left : Option (List ℕ)) → IsOpen begun → length begun < head_limit
    → Consumes from left begun → Waits from left
head_waits begun from left h short took =
    let both = waits_open begun h short in
    record { front = record { input = begun; found = None; finds = both.0 }; read = took; unfinished = both.1 }

-- what one read into one byte gives
pub one_byte : (bytes : List ℕ) (n : ℕ) → length bytes ≡ 1 → n ≤ length bytes → (n ≡ 0 → ⊥)
    → take n bytes ≡ get_or bytes 0 0 ∷ []
one_byte [] n len most some = absurd (omega arith)
one_byte (b ∷ bs) n len most some = let e : n ≡ 1 = omega arith in subst (λ k. take k (b ∷ bs) ≡ b ∷ []) (sym e) refl

-- what one read says of the known bytes
abbrev pub Reads : Option (List ℕ) → Option (List ℕ) → ℕ → List ℕ → Type 0
Reads from left n buf = Consumes from left (take n buf) × (n ≡ 0 → 0 < length buf → IsAtEnd left)

-- a read of nothing takes nothing, and the input is at its end
pub ended : (begun : List ℕ) (from mid left : Option (List ℕ)) (n : ℕ) (buf : List ℕ)
    → Consumes from mid begun → Reads mid left n buf → n ≡ 0 → 0 < length buf → Consumes from left begun × IsAtEnd left
ended begun from mid left n buf took h none some =
    let nothing : Consumes mid left [] = subst (λ k. Consumes mid left (take k buf)) none h.0 in
    (subst (Consumes from left) (append-nil begun) (Consumes-trans from mid left begun [] took nothing), h.1 none some)

pub comes_nothing : (begun : List ℕ) (from left : Option (List ℕ)) → Consumes from left begun × IsAtEnd left
    → length begun ≡ 0
    → HeadComes came.Nothing begun from left
comes_nothing [] from left h none = record { read = h.0; begins = (h.1, refl) }
comes_nothing (b ∷ bs) from left h none = absurd (omega arith)

pub comes_part : (begun : List ℕ) (from left : Option (List ℕ)) → IsOpen begun → length begun < head_limit
    → Consumes from left begun × IsAtEnd left
    → (length begun ≡ 0 → ⊥) → HeadComes came.Part begun from left
comes_part begun from left open_ short h some =
    record { read = h.0; begins = (h.1, begins_cut begun open_ short (λ e. some (ap length e))) }

-- one more byte was read and put
pub took_one : (begun next : List ℕ) (from mid left : Option (List ℕ)) (n : ℕ) (buf : List ℕ)
    → Consumes from mid begun → Reads mid left n buf → length buf ≡ 1 → n ≤ length buf → (n ≡ 0 → ⊥)
    → next ≡ begun ++ get_or buf 0 0 ∷ []
    → Consumes from left next
took_one begun next from mid left n buf took h len most some e =
    subst (Consumes from left) (sym e)
    (Consumes-trans from mid left begun (get_or buf 0 0 ∷ []) took
    (subst (Consumes mid left) (one_byte buf n len most some) h.0))

pub comes_whole : (begun next : List ℕ) (b : ℕ) (from left : Option (List ℕ)) → IsOpen begun → next ≡ begun ++ b ∷ []
    → ends_head next ≡ true
    → length next ≤ head_limit → Consumes from left next → HeadComes came.Whole next from left
comes_whole begun next b from left h e ends short took = record {
  read = took;
  begins = λ more. subst (λ x. front_of (x ++ more) ≡ whole x more) (sym e)
      (begins_whole begun b h (subst (λ x. ends_head x ≡ true) e ends) (subst (λ x. length x ≤ head_limit) e short)
      more);
}

pub still_open : (begun next : List ℕ) (b : ℕ) → IsOpen begun → next ≡ begun ++ b ∷ [] → ends_head next ≡ false
    → IsOpen next
still_open begun next b h e ends = subst IsOpen (sym e) (open_more begun b h (subst (λ x. ends_head x ≡ false) e ends))

pub comes_too_much : (begun : List ℕ) (from left : Option (List ℕ)) → IsOpen begun → length begun ≡ head_limit
    → Consumes from left begun
    → HeadComes came.TooMuch begun from left
comes_too_much begun from left h len took = record { read = took; begins = (len, begins_too_large begun h len) }
