-- The one text of a delivery: its kind and members in byte order of their names, without its id.
use Rattle.std.specs.Prelude.{ℕ, List, [], ◌∷◌, codes}
use Rattle.gate_types.specs.declared.deliveries.Ending.{Ending}
use Rattle.gate_types.specs.declared.deliveries.Delivery.{Delivery}
use Rattle.gate_types.specs.declared.deliveries.Ending.TheVariants as ending
use Rattle.gate_types.specs.declared.deliveries.Delivery.TheVariants as delivery
use Rattle.gate_types.specs.JsonText.{Piece, number, plain, escaped, member, object}

-- the word of an ending
abbrev pub ending_word : Ending → List ℕ
ending_word ending.Success = codes "success"
ending_word ending.Failure = codes "failure"
ending_word ending.Lost = codes "lost"

-- the member that tells the kind
abbrev pub kind : List ℕ → Piece
kind word = member (codes "kind") (plain word)

-- the members of a delivery on a change
abbrev pub on_change : List ℕ → ℕ → ℕ → List Piece
on_change word n r = member (codes "change") (number n) ∷ kind word ∷ member (codes "revision") (number r) ∷ []

-- and of one on an order
abbrev pub on_order_number : List ℕ → ℕ → List Piece
on_order_number word n = kind word ∷ member (codes "order") (number n) ∷ []

-- the members of a delivery
abbrev pub delivery_members : Delivery → List Piece
delivery_members (delivery.Revision n name r message) =
    member (codes "change") (number n) ∷ kind (codes "revision") ∷ member (codes "message") (escaped message) ∷
    member (codes "project") (escaped name) ∷ member (codes "revision") (number r) ∷ []
delivery_members (delivery.Approved n r) = on_change (codes "approved") n r
delivery_members (delivery.Withdrawn n r) = on_change (codes "withdrawn") n r
delivery_members (delivery.Closed n r) = on_change (codes "closed") n r
delivery_members (delivery.Landed n) = on_order_number (codes "landed") n
delivery_members (delivery.Refused n) = on_order_number (codes "refused") n
delivery_members (delivery.Take worker) = kind (codes "take") ∷ member (codes "worker") (escaped worker) ∷ []
delivery_members (delivery.Result n e) =
    member (codes "build") (number n) ∷ kind (codes "result") ∷ member (codes "outcome") (plain (ending_word e)) ∷ []

-- the text
abbrev pub canonical_text : Delivery → List ℕ
canonical_text d = object (delivery_members d) []
