-- At most one request head, and at most 64 fields in 66 lines.
use Rattle.std.proofs.Common.{◌≡◌, ℕ, ◌+◌, ◌≤◌, List, [], ◌∷◌, ◌++◌, length, Option, Some, None, arith, refl, sym, ap}
use Rattle.std.proofs.Common.{◌∙◌, cond, nat_eq, Bool, true, false, ltb, take, drop}
use Rattle.std.specs.List.{count_by, flat_map}
use Rattle.std.proofs.lemmas.List.Sums.{sum_by-append}
use Rattle.httparse.specs.Grammar.{LineEnd, crlf, lf, print_end, print_field, Field, print_section, print_blank}
use Rattle.httparse.specs.Grammar.{print_version, print_request, RequestHead}
use Rattle.httparse.proofs.GrammarLemmas.{request_unique}
use Rattle.gate_http.specs.declared.response.Extent.TheVariants as extent
use Rattle.gate_http.specs.declared.fault.HttpFault.{HttpFault}
use Rattle.gate_http.specs.declared.fault.HttpFault.TheVariants as fault
use Rattle.gate_http.specs.Asked.{Asked, delivery}
use Rattle.gate_http.specs.Head.{Front, empty, cut, too_large, whole, front_of, front_with, head_from, head_limit}
use Rattle.gate_http.specs.Way.{FindsHead, Decided, refused, posted, shown, recalled, decided, way_on, way_from, silence}
use Rattle.gate_http.specs.Way.{refusal, question}
use Rattle.gate_http.specs.Laws.{FoundOnce, FewLinesFit, SilenceIsForNothing}

found_one : (head : List ℕ) (a b : Option RequestHead) → FindsHead head a → FindsHead head b → a ≡ b
found_one head None None f h = refl
found_one head None (Some k) f h = absurd (f k h)
found_one head (Some k) None f h = absurd (h k f)
found_one head (Some k) (Some l) f h = ap Some (request_unique head k l f.0 h.0 f.1 h.1).0

pub found_once : (front : Front) (a b : Option RequestHead) → FoundOnce front a b
found_once empty a b = λ f h. f ∙ sym h
found_once cut a b = λ f h. f ∙ sym h
found_once too_large a b = λ f h. f ∙ sym h
found_once (whole head rest) a b = found_one head a b

abbrev lines : List ℕ → ℕ
lines bytes = count_by (λ b. nat_eq b 10) bytes

lines_append : (a b : List ℕ) → lines (a ++ b) ≡ lines a + lines b
lines_append a b = sum_by-append (λ b. cond (nat_eq b 10) 1 0) a b

line_end : (e : LineEnd) → lines (print_end e) ≡ 1
line_end crlf = refl
line_end lf = refl

lines_fields : (fields : List Field) → length fields ≤ lines (flat_map print_field fields)
lines_fields [] = omega arith
lines_fields (f ∷ fields) =
    omega (
      arith,
      lines_fields fields,
      lines_append (print_field f) (flat_map print_field fields),
      lines_append (f.name ++ 58 ∷ f.raw) (print_end f.end),
      line_end f.end,
    )

lines_section : (fields : List Field) (last : LineEnd) → length fields + 1 ≤ lines (print_section fields last)
lines_section fields last =
    omega (arith, lines_fields fields, lines_append (flat_map print_field fields) (print_end last), line_end last)

lines_request : (h : RequestHead) → length h.fields + 2 ≤ lines (print_request h)
unfolding print_request
lines_request h =
    let front = print_blank h.blank ++ h.method ++ 32 ∷ h.target ++ 32 ∷ print_version h.minor in
    omega (
      arith,
      lines_append (front ++ print_end h.line_end) (print_section h.fields h.last),
      lines_append front (print_end h.line_end),
      line_end h.line_end,
      lines_section h.fields h.last,
    )

pub few_lines : (head : List ℕ) (h : RequestHead) (rest : List ℕ) → FewLinesFit head h rest
few_lines head h rest = λ reads few.
    let all : lines head ≡ lines (print_request h) + lines rest = ap lines reads.1
    ∙ lines_append (print_request h) rest in
    omega (arith, all, lines_request h)

-- an input that is answered by nothing is empty
silent_if : (t : Bool) (f : HttpFault) (a : Asked) → cond t (refusal f extent.Whole) (question a) ≡ silence → ⊥
silent_if true f a e = cc
silent_if false f a e = cc

silent_on : (rest : List ℕ) (d : Decided) → way_on rest d ≡ silence → ⊥
silent_on rest (refused f b) e = cc
silent_on rest (posted d n) e = silent_if (ltb (length rest) n) fault.Cut (delivery d (take n rest)) e
silent_on rest (shown asked) e = cc
silent_on rest (recalled wanted) e = cc

silent_short : (t : Bool) (found : Option RequestHead) → way_from (cond t cut too_large) found ≡ silence → ⊥
silent_short true found e = cc
silent_short false found e = cc

silent_front : (input : List ℕ) (h : Option (List ℕ)) (found : Option RequestHead)
    → way_from (front_with input h) found ≡ silence → input ≡ []
silent_front [] h found e = refl
silent_front (b ∷ bs) None found e = absurd (silent_short (ltb (length (b ∷ bs)) head_limit) found e)
silent_front (b ∷ bs) (Some head) found e = absurd (silent_on (drop (length head) (b ∷ bs)) (decided head found) e)

pub silent : (input : List ℕ) (found : Option RequestHead) → SilenceIsForNothing input found
unfolding front_of
silent input found = λ e. silent_front input (head_from [] (take head_limit input)) found e
