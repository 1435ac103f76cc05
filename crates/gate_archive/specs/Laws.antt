-- What is true of the lines of deliveries.
use Rattle.std.specs.Prelude.{◌≡◌, ℕ, List, [], ◌∷◌, codes}
use Rattle.uuid.specs.Text.{simple_text, lower}
use Rattle.gate_types.specs.declared.deliveries.Delivery.{Delivery}
use Rattle.gate_types.specs.declared.deliveries.Delivery.TheVariants as delivery
use Rattle.gate_types.specs.declared.records.Id.{Id}
use Rattle.gate_types.specs.Canonical.{canonical_text, ending_word, kind}
use Rattle.gate_types.specs.JsonText.{Piece, number, plain, escaped, member, object}
use Rattle.gate_archive.specs.Feed.{with_id}

-- the member of an id
abbrev pub id_member : Id → Piece
id_member id = member (codes "id") (plain (simple_text lower id.0))

-- the members of a delivery on a change, under its id
abbrev pub on_change_with : Id → List ℕ → ℕ → ℕ → List Piece
on_change_with id word n r =
    member (codes "change") (number n) ∷ id_member id ∷ kind word ∷ member (codes "revision") (number r) ∷ []

-- and of one on an order
abbrev pub on_order_with : Id → List ℕ → ℕ → List Piece
on_order_with id word n = id_member id ∷ kind word ∷ member (codes "order") (number n) ∷ []

-- the members of a delivery and its id, in byte order of their names
abbrev pub members_with_id : Id → Delivery → List Piece
members_with_id id (delivery.Revision n name r message) =
    member (codes "change") (number n) ∷ id_member id ∷ kind (codes "revision") ∷
    member (codes "message") (escaped message) ∷ member (codes "project") (escaped name) ∷
    member (codes "revision") (number r) ∷ []
members_with_id id (delivery.Approved n r) = on_change_with id (codes "approved") n r
members_with_id id (delivery.Withdrawn n r) = on_change_with id (codes "withdrawn") n r
members_with_id id (delivery.Closed n r) = on_change_with id (codes "closed") n r
members_with_id id (delivery.Landed n) = on_order_with id (codes "landed") n
members_with_id id (delivery.Refused n) = on_order_with id (codes "refused") n
members_with_id id (delivery.Take worker) =
    id_member id ∷ kind (codes "take") ∷ member (codes "worker") (escaped worker) ∷ []
members_with_id id (delivery.Result n e) =
    member (codes "build") (number n) ∷ id_member id ∷ kind (codes "result") ∷
    member (codes "outcome") (plain (ending_word e)) ∷ []

-- a canonical text with an id is the JSON object of its delivery's members and the id
abbrev pub ALineIsItsDeliveryUnderItsId : Type 0
ALineIsItsDeliveryUnderItsId = (id : Id) (d : Delivery) (rest : List ℕ) →
    with_id id (canonical_text d) rest ≡ object (members_with_id id d) rest
