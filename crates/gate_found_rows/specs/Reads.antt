-- What a read by key answers, and what it leaves.
use Rattle.std.specs.Prelude.{◌≡◌, ◌≢◌, IsTrue, OnOk, Result, MatchResult}
use Rattle.sqlite.specs.State.{HasCleanDisk, State, Survives}
use Rattle.gate_book_trait.specs.declared.fault.BookFault.{BookFault}
use Rattle.gate_book_trait.specs.declared.fault.BookFault.TheVariants as fault
use Rattle.gate_schema.specs.Rows.{Stands, Stored}
use Rattle.gate_schema.specs.Schema.{gate_schema}
use Rattle.gate_found_rows.specs.Finds.{Stays}
use Rattle.gate_found_rows.specs.Whole.{IsWhole}

-- the connection is on the gate's schema, and its tables hold this
pub record IsStoredIn (s : State) (b : Stored) : Type 0 where
  pub schema_is : s.now.schema ≡ gate_schema
  pub stands : Stands s.now.trees b

-- while the connection answers at all, its tables hold this
abbrev pub Shows : State → Stored → Type 0
Shows s b = IsTrue s.is_open → IsStoredIn s b

-- where the disk has returned what was written, and the rows are in form, what is found is so of what the tables
-- hold, and no fault blames a row
abbrev pub Reads : {T : Type 0} → State → State → Result T BookFault → (Stored → T → Type 0) → Type 0
Reads old new result P =
    HasCleanDisk new → (b : Stored) → Shows old b → IsWhole b →
    MatchResult result (P b) (λ f. f ≢ fault.Damaged)

-- what is found is this
abbrev pub Tells : {T : Type 0} → State → State → Result T BookFault → (Stored → T) → Type 0
Tells old new result value = Reads old new result (λ b found. found ≡ value b)

-- a call that answers found the connection open
abbrev pub Opened : {T : Type 0} → State → State → Result T BookFault → Type 0
Opened old new result = HasCleanDisk new → OnOk result (IsTrue old.is_open)

-- the call has only read, whatever the tables are: what the connection shows stays, and a crash leaves what it left
-- before
pub record IsOnlyRead (old new : State) : Type 0 where
  pub clean : HasCleanDisk new → HasCleanDisk old
  pub stays : HasCleanDisk new → Stays old new
  pub crash : HasCleanDisk new → Survives old new (λ _. ⊥)
