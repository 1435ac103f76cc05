-- A canonical text tells its delivery.
use Rattle.std.specs.Prelude.{◌≡◌, ◌<◌, ◌^◌, ⊤}
use Rattle.gate_types.specs.declared.deliveries.Delivery.{Delivery}
use Rattle.gate_types.specs.declared.deliveries.Delivery.TheVariants as delivery
use Rattle.gate_types.specs.Canonical.{canonical_text}

-- the numbers of a delivery fit 64 bits, as those of every delivery that a program holds
abbrev pub IsInRange : Delivery → Type 0
IsInRange (delivery.Revision n name r message) = (n < 2 ^ 64) × (r < 2 ^ 64)
IsInRange (delivery.Approved n r) = (n < 2 ^ 64) × (r < 2 ^ 64)
IsInRange (delivery.Withdrawn n r) = (n < 2 ^ 64) × (r < 2 ^ 64)
IsInRange (delivery.Closed n r) = (n < 2 ^ 64) × (r < 2 ^ 64)
IsInRange (delivery.Landed n) = n < 2 ^ 64
IsInRange (delivery.Refused n) = n < 2 ^ 64
IsInRange (delivery.Take worker) = ⊤
IsInRange (delivery.Result n e) = n < 2 ^ 64

-- deliveries with equal texts are equal
abbrev pub OneTextADelivery : Type 0
OneTextADelivery = (d e : Delivery) → IsInRange d → IsInRange e → canonical_text d ≡ canonical_text e → d ≡ e
