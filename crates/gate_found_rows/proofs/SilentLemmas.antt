-- A text without RETURNING has none under other tables.
use Rattle.std.proofs.Common.{◌≡◌, ◌∙◌, ◌==◌, ◌+◌, ℕ, Bool, true, false, cond, List, length, Option, None, Some, Ok}
use Rattle.std.proofs.Common.{Err, Result, refl, ap, subst}
use Rattle.sqlite.specs.Given.{IsPlain}
use Rattle.sqlite.specs.Listing.{if_select, is_select, listing_schema, reads_listing, understood}
use Rattle.sqlite.specs.Schema.{Schema}
use Rattle.sqlite_ast.specs.declared.Shown.{Shown}
use Rattle.sqlite_ast.specs.declared.Statement.{Statement}
use Rattle.sqlite_ast.specs.declared.Statement.TheVariants as written
use Rattle.sqlite_resolve.specs.Compile.{command, compiled, first, meaning, planned, returning, shows, small}
use Rattle.sqlite_resolve.specs.Compile.{source_of, target, timed, with_command}
use Rattle.sqlite_resolve.specs.Given.{returned}
use Rattle.sqlite_resolve.specs.Body.{table_at}
use Rattle.sqlite_resolve.specs.Lowering.{Checked, and_then}
use Rattle.sqlite_resolve.specs.Scope.{Name}
use Rattle.sqlite_resolve.specs.declared.compiled.Compiled.{Compiled}
use Rattle.sqlite_resolve.specs.declared.error.CompileError.{CompileError}
use Rattle.sqlite_resolve.specs.declared.error.CompileError.TheVariants.{NoSuchTable}
use Rattle.sqlite_schema.specs.declared.command.Command.{Command}
use Rattle.sqlite_schema.specs.declared.command.Returning.{Returning}
use Rattle.sqlite_syntax.specs.declared.statement.Parsed.{Parsed}
use Rattle.gate_found_rows.specs.Finds.{IsSilent, OnlyReads}

-- what a step gives, it gives of what the step before gave
given_by : {A B : Type 0} (x : Checked A) (f : A → Checked B) (b : B) → and_then x f ≡ Ok b → (a : A) × (x ≡ Ok a) × (f a ≡ Ok b)
given_by (Ok a) f b is = (a, refl, is)
given_by (Err e) f b is = absurd cc

-- a result gives one value
same_value : {A : Type 0} (r : Checked A) (x y : A) → r ≡ Ok x → r ≡ Ok y → x ≡ y
same_value r x y one two = cc

-- what is shown is nothing only where nothing is to be shown
shows_none : (s t : Schema) (m n : ℕ) (name : Name) (shown : List Shown) → shows s m name shown ≡ Ok None → shows t n name shown ≡ Ok None
unfolding shows
shows_none s t m n name shown is = by_length (length shown == 0) is
  where
    -- what RETURNING shows
    told : Schema → ℕ → Checked (Option Returning)
    told s m = and_then (target s name) (λ at. and_then (table_at s at) (λ table. and_then (returned s table m shown)
        (λ r. and_then (source_of s (length r.0) r.1) (λ from. Ok (Some (record { names = r.0; row = from }))))))

    by_length : (b : Bool) → cond b (Ok None) (told s m) ≡ Ok None → cond b (Ok None) (told t n) ≡ Ok None
    by_length true is = refl
    by_length false is =
        let one = given_by (target s name) _ None is in
        let two = given_by (table_at s one.0) _ None one.2 in
        let three = given_by (returned s two.0 m shown) _ None two.2 in
        let four = given_by (source_of s (length three.0.0) three.0.1) _ None three.2 in
        let e = four.2 in absurd cc

-- the same of a statement
returns_none : (s t : Schema) (m n : ℕ) (st : Statement) → returning s m st ≡ Ok None → returning t n st ≡ Ok None
unfolding returning
returns_none s t m n written.Empty is = refl
returns_none s t m n (written.Select q) is = refl
returns_none s t m n (written.Insert how name columns rows clauses shown) is = shows_none s t m n name shown is
returns_none s t m n (written.Update name sets test shown) is = shows_none s t m n name shown is
returns_none s t m n (written.Delete name test shown) is = shows_none s t m n name shown is
returns_none s t m n (written.Pragma name value) is = refl
returns_none s t m n (written.CreateTable def) is = refl
returns_none s t m n (written.CreateIndex def) is = refl
returns_none s t m n (written.CreateView if_missing name columns q) is = refl
returns_none s t m n (written.DropTable if_exists name) is = refl
returns_none s t m n (written.DropIndex if_exists name) is = refl
returns_none s t m n (written.DropView if_exists name) is = refl
returns_none s t m n written.Begin is = refl
returns_none s t m n written.Commit is = refl
returns_none s t m n written.Rollback is = refl
returns_none s t m n (written.Savepoint name) is = refl
returns_none s t m n (written.Release name) is = refl
returns_none s t m n (written.RollbackTo name) is = refl

-- the second of two steps gives what the pair has first
second_step : {A B : Type 0} (x : Checked A) (y : Checked B) (z : B × A) → and_then x (λ a. and_then y (λ b. Ok (b, a))) ≡ Ok z → x ≡ Ok z.1
second_step (Ok a) (Ok b) z is = cc
second_step (Ok a) (Err e) z is = absurd cc
second_step (Err e) y z is = absurd cc

-- how a command is made of a text: it is read, and shows what the statement returns
record Made (s : Schema) (sql : List ℕ) (shown : Option Returning) : Type 0 where
  parsed : Parsed
  base : ℕ
  is_first : first sql ≡ Ok parsed
  returns : returning s base parsed.statement ≡ Ok shown

-- what its command shows is what the statement returns
of_meaning : (s : Schema) (p : Parsed) (base : ℕ) (found : Command × Option Returning) → meaning s p base ≡ Ok found → returning s base p.statement ≡ Ok found.1
unfolding meaning
of_meaning s p base found is = second_step (returning s base p.statement) (command s p.formats base p.statement) found is

made : (s : Schema) (sql : List ℕ) (c : Compiled) → compiled s sql ≡ Ok c → Made s sql c.returning
unfolding compiled planned
made s sql c is = by_text (first sql) refl is
  where
    by_plan : (p : Parsed) → first sql ≡ Ok p → (formats : List Name) (base : ℕ) (r : Checked (Command × Option Returning)) → meaning s p base ≡ r →
        and_then (and_then r (λ found. Ok (formats, found))) (λ plan. Ok (with_command p plan)) ≡ Ok c → Made s sql c.returning
    by_plan p read formats base (Err e) means h = absurd cc
    by_plan p read formats base (Ok found) means h =
        let same : found.1 ≡ c.returning = cc in
        record { parsed = p; base = base; is_first = read; returns = of_meaning s p base found means ∙ ap (λ o. Ok o) same }

    by_text : (r : Checked Parsed) → first sql ≡ r → and_then r (λ p. and_then (planned s p) (λ plan. Ok (with_command p plan))) ≡ Ok c → Made s sql c.returning
    by_text (Err e) read h = absurd cc
    by_text (Ok p) read h =
        let formats = timed s p.formats p.statement in
        let base = small p.names + small formats in
        by_plan p read formats base (meaning s p base) refl h

-- a text whose statement returns nothing is silent under other tables
made_silent : (s t : Schema) (sql : List ℕ) → Made s sql None → IsSilent (compiled t sql)
made_silent s t sql bare = by_made (compiled t sql) refl
  where
    by_made : (r : Result Compiled CompileError) → compiled t sql ≡ r → IsSilent r
    by_made (Err e) is = tt
    by_made (Ok c) is =
        let other = made t sql c is in
        let same : other.parsed ≡ bare.parsed = same_value (first sql) other.parsed bare.parsed other.is_first bare.is_first in
        let none = returns_none s t bare.base other.base bare.parsed.statement bare.returns in
        same_value (returning t other.base other.parsed.statement) c.returning None other.returns (ap (λ (p : Parsed). returning t other.base p.statement) same ∙ none)

-- where it is silent under the tables that it is read under, or under those of the listing, so it is wherever
understood_silent : (t : Schema) (sql : List ℕ) → IsSilent (compiled t sql) → IsSilent (compiled listing_schema sql) → IsSilent (understood t sql)
unfolding understood
understood_silent t sql here there = by_listing (reads_listing t sql) (by_command (compiled listing_schema sql) there)
  where
    by_command : (r : Result Compiled CompileError) → IsSilent r → IsSilent (if_select r)
    by_command (Err e) h = tt
    by_command (Ok c) h = by_kind (is_select c.command)
      where
        by_kind : (b : Bool) → IsSilent (cond b (Ok c) (Err NoSuchTable))
        by_kind true = h
        by_kind false = tt

    by_listing : (b : Bool) → IsSilent (if_select (compiled listing_schema sql)) → IsSilent (cond b (if_select (compiled listing_schema sql)) (compiled t sql))
    by_listing true h = h
    by_listing false h = here

-- a plain text under these tables is a statement without RETURNING under some
plain_bare : (s : Schema) (sql : List ℕ) → IsPlain (understood s sql) → (t : Schema) × Made t sql None
unfolding understood
plain_bare s sql plain = by_listing (reads_listing s sql) plain
  where
    by_made : (t : Schema) (r : Result Compiled CompileError) → compiled t sql ≡ r → IsPlain r → Made t sql None
    by_made t (Err e) is h = absurd h
    by_made t (Ok c) is h = subst (Made t sql) h.0 (made t sql c is)

    by_select : (r : Result Compiled CompileError) → IsPlain (if_select r) → IsPlain r
    by_select (Err e) h = absurd h
    by_select (Ok c) h = by_kind (is_select c.command) h
      where
        by_kind : (b : Bool) → IsPlain (cond b (Ok c) (Err NoSuchTable)) → IsPlain (Ok c)
        by_kind true h = h
        by_kind false h = absurd h

    by_listing : (b : Bool) → IsPlain (cond b (if_select (compiled listing_schema sql)) (compiled s sql)) → (t : Schema) × Made t sql None
    by_listing true h = (listing_schema, by_made listing_schema (compiled listing_schema sql) refl (by_select (compiled listing_schema sql) h))
    by_listing false h = (s, by_made s (compiled s sql) refl h)

-- What is plain under some tables only reads, whatever the tables.
pub plain_only_reads : (s : Schema) (sql : List ℕ) → IsPlain (understood s sql) → OnlyReads sql
plain_only_reads s sql plain t =
    let bare = plain_bare s sql plain in
    understood_silent t sql (made_silent bare.0 t sql bare.1) (made_silent bare.0 listing_schema sql bare.1)
