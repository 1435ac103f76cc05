-- What a call within a transaction does, where the disk has returned what was written.
use Rattle.std.specs.Prelude.{◌≡◌, ℕ, Bool, true, IfOk, List, Ok, OnOk, Result}
use Rattle.sqlite.specs.Order.{Row}
use Rattle.sqlite.specs.State.{ExecutesInside, HasCleanDisk, KeepsCommit, State, Survives}
use Rattle.gate_schema.specs.Rows.{AreNamed, Changes, IsReady, Stands, Stored}

-- on Ok, what the tables hold is changed so, and the transaction goes on
abbrev pub Makes : {T E : Type 0} → State → State → Result T E → (Stored → Stored) → Type 0
Makes old new result change = HasCleanDisk new → IsReady old → OnOk result (Changes old new change)

-- on Ok, what the tables hold is changed as the answer says
abbrev pub MakesAs : {T E : Type 0} → State → State → Result T E → (T → Stored → Stored) → Type 0
MakesAs old new result change = HasCleanDisk new → IsReady old → IfOk result (λ x. Changes old new (change x))

-- on Ok, this was so of what the tables held
abbrev pub Found : {T E : Type 0} → State → State → Result T E → (Stored → Type 0) → Type 0
Found old new result P =
    HasCleanDisk new → IsReady old → OnOk result ((b : Stored) → AreNamed b → Stands old.now.trees b → P b)

-- on Ok, it was so where the answer is true
abbrev pub FoundIf : {E : Type 0} → State → State → Result Bool E → (Stored → Type 0) → Type 0
FoundIf old new result P =
    HasCleanDisk new → IsReady old → IfOk result (λ is. is ≡ true → (b : Stored) → Stands old.now.trees b → P b)

-- on Ok, the answer says this of what the tables held
abbrev pub FoundAs : {T E : Type 0} → State → State → Result T E → (T → Stored → Type 0) → Type 0
FoundAs old new result P =
    HasCleanDisk new → IsReady old → IfOk result (λ x. (b : Stored) → Stands old.now.trees b → P x b)

-- nothing is committed
abbrev pub Keeps : State → State → Type 0
Keeps old new = HasCleanDisk new → IsReady old → KeepsCommit old new

-- and a crash leaves nothing new
abbrev pub LeavesNothing : State → State → Type 0
LeavesNothing old new = Survives old new (λ _. ⊥)

-- a statement ran, and wrote some number of rows
abbrev pub Ran : State → State → List ℕ → Row → Type 0
Ran old new sql params = (count : ℕ) × ExecutesInside 0 sql params old new (Ok count)
