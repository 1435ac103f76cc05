-- Which way a request goes, from how it was read.
use Rattle.std.proofs.Common.{◌≡◌, ℕ, ◌<◌, ◌≤◌, true, false, cond, List, [], ◌++◌, length, take, Option, Some}
use Rattle.std.proofs.Common.{None, arith, refl, sym, ap, subst, ◌∙◌, append_assoc, append-nil, length-append}
use Rattle.std.specs.Io.KnownBytes.{Consumes, IsAtEnd}
use Rattle.std.proofs.KnownBytes.{Consumes-trans}
use Rattle.std.proofs.Math.Seq.{take-append_seam}
use Rattle.std.proofs.lemmas.List.{take_all}
use Rattle.std.proofs.lemmas.Bool.{le-ltb, lt-ltb}
use Rattle.httparse.specs.Grammar.{RequestHead}
use Rattle.gate_wire.specs.declared.door.Door.{Door}
use Rattle.gate_http.specs.declared.response.Extent.{Extent}
use Rattle.gate_http.specs.declared.response.Extent.TheVariants as extent
use Rattle.gate_http.specs.declared.fault.HttpFault.{HttpFault}
use Rattle.gate_http.specs.declared.fault.HttpFault.TheVariants as fault
use Rattle.gate_http.specs.declared.head.Came.TheVariants as came
use Rattle.gate_http.specs.declared.request.Wanted.{Wanted}
use Rattle.gate_http.specs.declared.request.Wanted.TheVariants as wanted
use Rattle.gate_http.specs.Asked.{delivery}
use Rattle.gate_http.specs.Head.{Front, empty, cut, too_large, whole, front_of, head_limit}
use Rattle.gate_http.specs.Way.{Decided, refused, posted, decided, Way, silence, refusal, question, way_on, way_from}
use Rattle.gate_http.specs.Way.{body_on, taken_from, FindsHead, FindsIn}
use Rattle.gate_http.specs.Exchange.{IsKnown, IsUnfinished, Waits, OfRead}
use Rattle.gate_http.specs.Parts.{HeadComes, BodyComes, read_by}
use Rattle.gate_http.proofs.HeadLemmas.{begins_empty}

-- the whole input, by what was taken of it
pub known : (from left : Option (List ℕ)) (bytes : List ℕ) → Consumes from left bytes
    → (more : List ℕ) × IsKnown from (bytes ++ more) × (IsAtEnd left → more ≡ [])
known None left bytes h = ([], tt, λ e. refl)
known (Some xs) None bytes h = absurd h
known (Some xs) (Some ys) bytes h = (ys, h, λ e. e)

-- the same, where the input is at its end
pub known_end : (from left : Option (List ℕ)) (bytes : List ℕ) → Consumes from left bytes → IsAtEnd left
    → IsKnown from bytes
known_end from left bytes h end =
    let k = known from left bytes h in
    subst (IsKnown from) (ap (λ x. bytes ++ x) (k.2 end) ∙ append-nil bytes) k.1

-- a reader held a request that goes this way
abbrev pub Reads : Option (List ℕ) → Option (List ℕ) → Way → Type 0
Reads from left w = OfRead from left (λ v. v ≡ w)

-- an input whose head isn't there
read_without : (from left : Option (List ℕ)) (input : List ℕ) (f : Front) → IsKnown from input → front_of input ≡ f
    → FindsIn f None → Consumes from left (taken_from input f None) → Reads from left (way_from f None)
read_without from left input f k e finds read = (
  record { input = input; found = None; finds = subst (λ x. FindsIn x None) (sym e) finds },
  record { known = k; taken = subst (λ x. Consumes from left (taken_from input x None)) (sym e) read },
  ap (λ x. way_from x None) e,
)

-- nothing came
pub read_nothing : (from left : Option (List ℕ)) (bytes : List ℕ) → HeadComes came.Nothing bytes from left
    → Reads from left silence
read_nothing from left bytes h =
    let read : Consumes from left [] = subst (Consumes from left) h.begins.1 h.read in
    read_without from left [] empty (known_end from left [] read h.begins.0) begins_empty refl read

-- the input ended within the head
pub read_part : (from left : Option (List ℕ)) (bytes : List ℕ) → HeadComes came.Part bytes from left
    → Reads from left (refusal fault.Cut extent.Whole)
read_part from left bytes h =
    read_without from left bytes cut (known_end from left bytes h.read h.begins.0) h.begins.1 refl h.read

-- the head is too long
pub read_too_much : (from left : Option (List ℕ)) (bytes : List ℕ) → HeadComes came.TooMuch bytes from left
    → Reads from left (refusal fault.HeadTooLarge extent.Whole)
read_too_much from left bytes h =
    let k = known from left bytes h.read in
    let first : take head_limit (bytes ++ k.0) ≡ bytes =
    subst (λ n. take n (bytes ++ k.0) ≡ bytes) h.begins.0 (take-append_seam bytes k.0) in
    read_without from left (bytes ++ k.0) too_large k.1 (h.begins.1 k.0) refl
    (subst (Consumes from left) (sym first) h.read)

-- this is decided of a head
abbrev pub Decides : List ℕ → Decided → Type 0
Decides head d = (found : Option RequestHead) × FindsHead head found × (d ≡ decided head found)

-- an input with a head
read_whole : (from left : Option (List ℕ)) (head rest : List ℕ) (d : Decided) → IsKnown from (head ++ rest)
    → front_of (head ++ rest) ≡ whole head rest → Decides head d → Consumes from left (head ++ body_on rest d)
    → Reads from left (way_on rest d)
read_whole from left head rest d k e (found, finds, p) read = (
  record { input = head ++ rest; found = found; finds = subst (λ x. FindsIn x found) (sym e) finds },
  record {
    known = k;
    taken = subst (λ x. Consumes from left (taken_from (head ++ rest) x found)) (sym e)
        (subst (λ x. Consumes from left (head ++ body_on rest x)) p read);
  },
  ap (λ x. way_from x found) e ∙ ap (way_on rest) (sym p),
)

-- what follows the head is left
read_head_alone : (from left : Option (List ℕ)) (head : List ℕ) (d : Decided) (w : Way)
    → HeadComes came.Whole head from left → Decides head d
    → ((rest : List ℕ) → (way_on rest d ≡ w) × (body_on rest d ≡ [])) → Reads from left w
read_head_alone from left head d w h decides alone =
    let k = known from left head h.read in
    subst (Reads from left) (alone k.0).0
    (read_whole from left head k.0 d k.1 (h.begins k.0) decides
    (subst (λ x. Consumes from left (head ++ x)) (sym (alone k.0).1)
    (subst (Consumes from left) (sym (append-nil head)) h.read)))

-- it is refused by its head
pub read_refused : (from left : Option (List ℕ)) (head : List ℕ) (f : HttpFault) (x : Extent)
    → HeadComes came.Whole head from left → Decides head (refused f x) → Reads from left (refusal f x)
read_refused from left head f x h decides =
    read_head_alone from left head (refused f x) (refusal f x) h decides (λ rest. (refl, refl))

-- what needs no body goes its way whatever follows
alone_by : (w : Wanted) (rest : List ℕ) → (way_on rest (read_by w) ≡ way_on [] (read_by w))
    × (body_on rest (read_by w) ≡ [])
alone_by (wanted.Ask q) rest = (refl, refl)
alone_by (wanted.Lines s) rest = (refl, refl)

-- it asks for what needs no body
pub read_wanted : (from left : Option (List ℕ)) (head : List ℕ) (w : Wanted) → HeadComes came.Whole head from left
    → Decides head (read_by w) → Reads from left (way_on [] (read_by w))
read_wanted from left head w h decides =
    read_head_alone from left head (read_by w) (way_on [] (read_by w)) h decides (alone_by w)

-- a delivery: what follows the body is left
pub read_posted : (from mid left : Option (List ℕ)) (head body : List ℕ) (d : Door) (n : ℕ)
    → HeadComes came.Whole head from mid → Decides head (posted d n) → BodyComes true n body mid left
    → Reads from left (question (delivery d body))
read_posted from mid left head body d n h decides b =
    let k = known from left (head ++ body) (Consumes-trans from mid left head body h.read b.read) in
    let rest = body ++ k.0 in
    let first : take n rest ≡ body = subst (λ m. take m rest ≡ body) b.ends (take-append_seam body k.0) in
    let enough : n ≤ length rest = omega (arith, length-append body k.0, b.ends) in
    let asked : way_on rest (posted d n) ≡ question (delivery d body) =
    ap (λ t. cond t (refusal fault.Cut extent.Whole) (question (delivery d (take n rest))))
    (le-ltb (length rest) n enough)
    ∙ ap (λ x. question (delivery d x)) first in
    subst (Reads from left) asked (read_whole from left head rest (posted d n)
    (subst (IsKnown from) (append_assoc head body k.0) k.1) (h.begins rest) decides
    (subst (λ x. Consumes from left (head ++ x)) (sym first) (Consumes-trans from mid left head body h.read b.read)))

-- a delivery that the input cuts
pub read_cut : (from mid left : Option (List ℕ)) (head body : List ℕ) (d : Door) (n : ℕ)
    → HeadComes came.Whole head from mid → Decides head (posted d n) → BodyComes false n body mid left
    → Reads from left (refusal fault.Cut extent.Whole)
read_cut from mid left head body d n h decides b =
    let read = Consumes-trans from mid left head body h.read b.read in
    let all : take n body ≡ body = take_all n body (omega (arith, b.ends.0)) in
    let asked : way_on body (posted d n) ≡ refusal fault.Cut extent.Whole =
    ap (λ t. cond t (refusal fault.Cut extent.Whole) (question (delivery d (take n body))))
    (lt-ltb (length body) n b.ends.0) in
    subst (Reads from left) asked (read_whole from left head body (posted d n)
    (known_end from left (head ++ body) read b.ends.1) (h.begins body) decides
    (subst (λ x. Consumes from left (head ++ x)) (sym all) read))

-- a reader that fails within the body leaves an unfinished request
pub body_waits : (from mid left : Option (List ℕ)) (head body : List ℕ) (d : Door) (n : ℕ)
    → HeadComes came.Whole head from mid → Decides head (posted d n)
    → length body < n → Consumes mid left body → Waits from left
body_waits from mid left head body d n h (found, finds, p) short took =
    let e = h.begins body in
    let asked : way_on body (posted d n) ≡ refusal fault.Cut extent.Whole =
    ap (λ t. cond t (refusal fault.Cut extent.Whole) (question (delivery d (take n body))))
    (lt-ltb (length body) n short) in
    record {
      front = record { input = head ++ body; found = found; finds = subst (λ x. FindsIn x found) (sym e) finds };
      read = Consumes-trans from mid left head body h.read took;
      unfinished = subst (λ x. IsUnfinished (way_from x found)) (sym e)
          (subst (λ x. IsUnfinished (way_on body x)) p (subst IsUnfinished (sym asked) refl));
    }

-- what is so of the way is so of the request
pub read_as : (from left : Option (List ℕ)) (w : Way) (P : Way → Type 0) → Reads from left w → P w → OfRead from left P
read_as from left w P r h = (r.0, r.1, subst P (sym r.2) h)
