-- A list of orders, written one after another.
use Rattle.std.specs.Prelude.{ℕ, List, [], ◌∷◌, ◌++◌, Option, Some, None, codes}
use Rattle.gate_types.specs.declared.records.Item.{Item as ItemRow}
use Rattle.gate_types.specs.JsonText.{Piece, number, plain, member, object}

-- the order of an item of a project, in a queue
abbrev pub order_piece : ItemRow → List ℕ → List ℕ → Piece
order_piece i project queue = object (
    member (codes "change") (number i.change) ∷ member (codes "order") (number i.serial) ∷
    member (codes "project") (plain project) ∷ member (codes "queue") (plain queue) ∷
    member (codes "revision") (number i.revision) ∷ [])

-- what stands between a list and its next element
abbrev pub comma_behind : List ℕ → List ℕ
comma_behind [] = []
comma_behind (b ∷ bs) = 44 ∷ []

-- a list with one more element
abbrev pub with_entry : List ℕ → List ℕ → List ℕ
with_entry list entry = list ++ (comma_behind list ++ entry)

-- a list with one more order, if there is one
abbrev pub with_order : List ℕ → Option (List ℕ) → List ℕ
with_order list None = list
with_order list (Some order) = with_entry list order
