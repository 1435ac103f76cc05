-- From what a query says to what a read by key says.
use Rattle.std.proofs.Common.{◌≡◌, ℕ, List, [], Result, Ok, Err, sym, ap, subst, ◌∙◌, IsTrue}
use Rattle.sqlite.specs.Command.TheVariants.{Select}
use Rattle.sqlite.specs.Given.{IsPlain}
use Rattle.sqlite.specs.Listing.{understood, reads_listing}
use Rattle.sqlite.specs.Order.{Row}
use Rattle.sqlite.specs.Program.{overlay}
use Rattle.sqlite.specs.Query.{Query, IsAnswer}
use Rattle.sqlite.specs.Schema.{Schema}
use Rattle.sqlite.specs.State.{HasCleanDisk, State, Survives}
use Rattle.sqlite.proofs.Callers.{command_of}
use Rattle.sqlite.proofs.StateLemmas.{survives_then}
use Rattle.sqlite_resolve.specs.declared.compiled.Compiled.{Compiled}
use Rattle.sqlite_resolve.specs.declared.error.CompileError.{CompileError}
use Rattle.std.specs.Prelude.{◌≢◌, OnOk}
use Rattle.gate_book_trait.specs.declared.fault.BookFault.{BookFault}
use Rattle.gate_book_trait.specs.declared.fault.BookFault.TheVariants as fault
use Rattle.gate_schema.specs.Rows.{Stands, Stored}
use Rattle.gate_schema.specs.Schema.{gate_schema}
use Rattle.gate_schema.proofs.Statements.{Asks}
use Rattle.gate_found_rows.specs.Finds.{Finds, IsPlainQuery, OnlyReads, Stays}
use Rattle.gate_found_rows.specs.Reads.{IsOnlyRead, IsStoredIn}
use Rattle.gate_found_rows.proofs.SilentLemmas.{plain_only_reads}
use Rattle.gate_found_rows.proofs.StayLemmas.{stays_then}

-- ---- what a call leaves

-- a query of a text that is plain under some tables is a read
pub plain_read : (schema : Schema) (sql : List ℕ) (old new : State) → IsPlain (understood schema sql) → (HasCleanDisk new → HasCleanDisk old) →
    (HasCleanDisk new → OnlyReads sql → Stays old new) → (HasCleanDisk new → OnlyReads sql → Survives old new (λ _. ⊥)) → IsOnlyRead old new
plain_read schema sql old new plain before stays crash =
    let reads = plain_only_reads schema sql plain in
    record { clean = before; stays = λ up. stays up reads; crash = λ up. crash up reads }

-- two reads in turn are a read
pub only_read_then : (a b c : State) → IsOnlyRead a b → IsOnlyRead b c → IsOnlyRead a c
only_read_then a b c p q = record {
  clean = λ up. p.clean (q.clean up);
  stays = λ up. stays_then a b c (p.stays (q.clean up)) (q.stays up);
  crash = λ up.
      survives_then a b c (λ _. ⊥) (λ _. ⊥) (λ _. ⊥) (λ _ _ none. none) (λ _ _ none. none) (p.crash (q.clean up)) (q.crash up);
}

-- what a connection shows, it shows after a read
pub shown_still : (old new : State) (b : Stored) → Stays old new → (IsTrue old.is_open → IsStoredIn old b) → IsTrue new.is_open → IsStoredIn new b
shown_still old new b stays shows up =
    let was = shows (stays.was_open up) in
    record {
      schema_is = ap (λ d. d.schema) (stays.now_is up) ∙ was.schema_is;
      stands = subst (λ d. Stands d.trees b) (sym (stays.now_is up)) was.stands;
    }

-- ---- what a query finds

-- a plain text that is a query is just that
plain_of : (r : Result Compiled CompileError) (q : Query) (names : List (List ℕ)) → command_of r ≡ Select (record { lets = []; body = q }) names → IsPlain r → IsPlainQuery r q names
plain_of (Ok c) q names is plain = (is, plain.0, plain.1)
plain_of (Err e) q names is plain = absurd cc

-- on the gate's schema, the rows answer the query that the text is there
pub answers : (s : State) (sql : List ℕ) (q : Query) (names : List (List ℕ)) (params : Row) (rows : List Row) → Asks sql q names →
    s.now.schema ≡ gate_schema → Finds sql params s.now rows → IsAnswer q (overlay s.now.trees []) params rows
answers s sql q names params rows asks is finds =
    finds q names
    (subst (λ (t : Schema). IsPlainQuery (understood t sql) q names) (sym is) (plain_of (understood gate_schema sql) q names asks.0.0 asks.0.1))
    (ap (λ (t : Schema). reads_listing t sql) is ∙ asks.1)

-- ---- faults

-- want of memory blames no row
pub not_damaged : (f : BookFault) → f ≡ fault.NoMemory → f ≢ fault.Damaged
not_damaged f named damaged = cc

-- what is so whatever is answered is so of an answer
pub answered_so : {T : Type 0} (P : Type 0) (r : Result T BookFault) → P → OnOk r P
answered_so P (Ok x) p = p
answered_so P (Err f) p = tt
