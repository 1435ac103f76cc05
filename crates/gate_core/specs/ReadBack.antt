-- A line by which a delivery is told says this delivery, under its id.
use Rattle.std.specs.Prelude.{◌≡◌, true, [], Ok}
use Rattle.gate_types.specs.declared.records.Id.{Id}
use Rattle.gate_types.specs.declared.deliveries.Delivery.{Delivery}
use Rattle.gate_types.specs.Canonical.{canonical_text}
use Rattle.gate_types.specs.Forms.{is_id_in_form, is_delivery_in_form}
use Rattle.gate_wire.specs.declared.door.Door.TheVariants as door
use Rattle.gate_wire.specs.Reading.{says}
use Rattle.gate_archive.specs.Feed.{with_id}

-- a canonical text with the id says the delivery and the id again, at the door for all kinds
abbrev pub EachLineReadsBack : Type 0
EachLineReadsBack = (id : Id) (d : Delivery) → is_id_in_form id ≡ true → is_delivery_in_form d ≡ true →
    says door.Any (with_id id (canonical_text d) []) ≡ Ok (id, d)
