-- What a read promises, from its three parts.
use Rattle.gate_book_trait.specs.Kept.{OfHeld, OfHeldUnder, IsKept}
use Rattle.gate_book_trait.specs.Reading.{IsRead, IsReadUnder}
use Rattle.gate_book_trait.specs.declared.fault.BookFault.{BookFault}
use Rattle.std.proofs.Common.{Result}
use Rattle.std.specs.Prelude.{IfErr}

pub is_read : {B T : Type 0} {trusted : B → Type 0} {holds : _} {leaves : _} {may : BookFault → Type 0} {old new : B}
    {tells : _} {result : Result T BookFault} → OfHeld trusted holds old new tells →
    IsKept trusted holds leaves old new → IfErr result may → IsRead trusted holds leaves may old new tells result
is_read found kept fault = record { found = found; kept = kept; fault = fault }

pub is_read_under : {B T : Type 0} {trusted : B → Type 0} {holds : _} {leaves : _} {may : BookFault → Type 0}
    {old new : B} {c : _} {tells : _} {result : Result T BookFault} → OfHeldUnder trusted holds old new c tells →
    IsKept trusted holds leaves old new → IfErr result may →
    IsReadUnder trusted holds leaves may old new c tells result
is_read_under found kept fault = record { found = found; kept = kept; fault = fault }
