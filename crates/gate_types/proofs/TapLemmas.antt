-- What a tap wrote, joined end to end.
use Rattle.std.proofs.Common.{ℕ, ◌+◌, List, ◌++◌, length, take, Option, arith, sym, subst, length-append}
use Rattle.std.specs.Io.KnownBytes.{Appends}
use Rattle.std.proofs.KnownBytes.{Appends-trans}
use Rattle.std.proofs.Math.Seq.{take-append-add}
use Rattle.std.proofs.lemmas.List.{take-append-le}
use Rattle.gate_types.specs.Tap.{WritesFront}

-- a front behind what was written whole is a front of both
pub writes_later : (a b c : Option (List ℕ)) (xs ys : List ℕ) → Appends a b xs → WritesFront b c ys → WritesFront a c (xs ++ ys)
writes_later a b c xs ys p (n, short, w) =
    (length xs + n, (omega (arith, length-append xs ys)), subst (Appends a c) (sym (take-append-add xs ys n)) (Appends-trans a b c xs (take n ys) p w))

-- a front is one of any longer text
pub writes_sooner : (a b : Option (List ℕ)) (xs ys : List ℕ) → WritesFront a b xs → WritesFront a b (xs ++ ys)
writes_sooner a b xs ys (n, short, w) =
    (n, (omega (arith, short, length-append xs ys)), subst (Appends a b) (sym (take-append-le n xs ys (omega (arith, short)))) w)
