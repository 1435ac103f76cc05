-- The orders that are shown, as a JSON array.
use Rattle.std.specs.Prelude.{ℕ, List, [], ◌∷◌, map, codes}
use Rattle.gate_types.specs.Settings.{Settings}
use Rattle.gate_types.specs.State.{State, change_of}
use Rattle.gate_types.specs.SubmitOrder.{Order, orders}
use Rattle.gate_types.specs.JsonText.{Piece, number, plain, array, member, object}

-- an order
abbrev pub shown : State → Order → Piece
shown s o = object (
    member (codes "change") (number o.item.change) ∷ member (codes "order") (number o.item.serial) ∷
    member (codes "project") (plain (change_of s o.item.change).project) ∷ member (codes "queue") (plain o.queue.name) ∷
    member (codes "revision") (number o.item.revision) ∷ [])

-- the text
abbrev pub order_list_text : Settings → State → List ℕ
order_list_text c s = array (map (shown s) (orders c s)) []
