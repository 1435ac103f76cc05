-- How a query of the tables fails.
use Rattle.std.proofs.Common.{◌≡◌, ◌≤◌, ℕ, List, [], true, false, IsTrue, Ok, Err, Result, Option, sym, ap, subst}
use Rattle.std.proofs.Common.{◌∙◌, inl, inr, length, append-nil, arith, refl, true≢false}
use Rattle.std.specs.Prelude.{Any, nat_le}
use Rattle.std.proofs.lemmas.Bool.Decides.{nat_tests}
use Rattle.sqlite.specs.Clock.{timed}
use Rattle.sqlite.specs.Command.{Command}
use Rattle.sqlite.specs.Command.TheVariants.{Select}
use Rattle.sqlite.specs.Effect.{Database, RefusesToRead, RefusesQuery}
use Rattle.sqlite.specs.Listing.{understood, reads_listing, IsSourceOf}
use Rattle.sqlite.specs.Order.{Row}
use Rattle.sqlite.specs.Program.{overlay}
use Rattle.sqlite.specs.Query.{Query}
use Rattle.sqlite.specs.Schema.{Schema}
use Rattle.sqlite.specs.State.{State, FailsToQuery, FailsToShow, IsNotRun, store_error}
use Rattle.sqlite.specs.Term.{Term}
use Rattle.sqlite.specs.Tree.{Trees}
use Rattle.sqlite.specs.declared.error.Error.{Error}
use Rattle.sqlite.proofs.Callers.{IsPlain, command_of}
use Rattle.sqlite_resolve.specs.declared.compiled.Compiled.{Compiled}
use Rattle.sqlite_resolve.specs.declared.error.CompileError.{CompileError}
use Rattle.sqlite_sql.specs.Program.{QueryOverflows}
use Rattle.sqlite_trees.specs.declared.error.StoreError.{StoreError}
use Rattle.sqlite_trees.specs.declared.error.StoreError.TheVariants as why
use Rattle.sqlite_typing.specs.Types.{accepts_program}
use Rattle.sqlite_value.specs.declared.keys.Key.{Key}
use Rattle.gate_schema.proofs.QueryLemmas.{over_table}
use Rattle.gate_file_meta.specs.Reading.{says_nothing}

-- the text is this query
abbrev pub selects : Query → List (List ℕ) → Command
selects q names = Select (record { lets = []; body = q }) names

-- the text is one statement with so many parameters
abbrev pub Fits : List ℕ → ℕ → Result Compiled CompileError → Type 0
Fits sql count (Ok c) = (nat_le (length sql) c.tail ≡ true) × (length c.names ≡ count)
Fits sql count (Err e) = ⊥

-- a failure of the store is one of memory, the disk or its size
store_unavailable : (e : StoreError) → IsTrue (says_nothing (store_error e))
store_unavailable why.OutOfMemory = refl
store_unavailable why.Io = refl
store_unavailable why.Corrupt = refl
store_unavailable why.Full = refl
store_unavailable why.Broken = refl
store_unavailable why.Unstorable = refl

-- nothing is in no list
no_any : {X : Type 0} (xs : List X) → ¬ Any (λ _. ⊥) xs
no_any xs h = h.4

-- a test of ≤
at_most : (a b : ℕ) → nat_le a b ≡ true → a ≤ b
at_most a b h = grind (arith, nat_tests)

-- a query that types well and adds up nothing fails so alone
refused_unavailable : (limit : Option ℕ) (db : Database) (q : Query) (params : Row) (e : Error) → accepts_program db.schema [] q params ≡ true → ¬ QueryOverflows q (overlay db.trees []) params
    → RefusesQuery limit db (record { lets = []; body = q }) params e → IsTrue (says_nothing e)
refused_unavailable limit db q params e typed small (inl h) = absurd (true≢false (sym typed ∙ h.1))
refused_unavailable limit db q params e typed small (inr (inl h)) = absurd (small h.1)
refused_unavailable limit db q params e typed small (inr (inr h)) = subst (λ x. IsTrue (says_nothing x)) (sym h.0) refl

-- A plain query of the tables fails for memory, the disk or its size alone.
module _ (sql : List ℕ) (params : Row) (old new : State) (schema : Schema) (has : old.now.schema ≡ schema) (q : Query) (names : List (List ℕ)) (is : command_of (understood schema sql) ≡ selects q names)
    (plain : IsPlain (understood schema sql)) (unlisted : reads_listing schema sql ≡ false) (fits : Fits sql (length params) (understood schema sql))
    (typed : accepts_program schema [] q params ≡ true) (small : (db : Trees) → ¬ QueryOverflows q db params) where
  pub query_unavailable : (e : Error) → FailsToQuery sql params old new e → IsTrue (says_nothing e)
  unfolding FailsToQuery IsNotRun
  query_unavailable e (inl (inl (inl h, same))) = absurd (subst IsPlain (sym (ap (λ s. understood s sql) has) ∙ h.1) plain)
  query_unavailable e (inl (inl (inr h, same))) =
      let known = sym (ap (λ s. understood s sql) has) ∙ h.1 in
      let fit = subst (Fits sql (length params)) known fits in
      let bare = subst IsPlain known plain in
      elim h.2 [ inl multi ↦ absurd (multi.0 (at_most _ _ fit.0)) | inr more ↦ elim more [ inl given ↦ absurd (given.0 (sym fit.1)) | inr clock ↦ absurd (clock.0 bare.1) ] ]
  query_unavailable e (inl (inr h)) = subst (λ x. IsTrue (says_nothing x)) (sym h.1) (store_unavailable h.0)
  query_unavailable e (inr h) =
      let known = sym (ap (λ s. understood s sql) has) ∙ h.1.is in
      let bare = subst IsPlain known plain in
      let it = subst (FailsToShow old new sql h.0 (timed params h.0.formats h.1.now) e) bare.0 h.2 in
      let db : it.0 ≡ old.now = subst (λ b. IsSourceOf b old.now it.0) (ap (λ s. reads_listing s sql) has ∙ unlisted) it.1 in
      let command : h.0.command ≡ selects q names = sym (ap command_of known) ∙ is in
      let params_are : timed params h.0.formats h.1.now ≡ params = rw (bare.1, append-nil params) in
      let refuses : RefusesToRead old.step_limit (selects q names) it.0 params e =
      subst (λ k. RefusesToRead old.step_limit k it.0 params e) command (subst (λ p. RefusesToRead old.step_limit h.0.command it.0 p e) params_are it.2) in
      refused_unavailable old.step_limit it.0 q params e (subst (λ s. accepts_program s [] q params ≡ true) (sym (ap (λ (d : Database). d.schema) db ∙ has)) typed) (small (overlay it.0.trees [])) refuses

-- a query of one table adds up nothing
pub never_over : (tree : ℕ) (test project : List Term) (order : List (Term × Key)) (limit : Term) (db : Trees) (params : Row) → ¬ QueryOverflows (over_table tree test project order limit) db params
never_over tree test project order limit db params (inl h) = h
never_over tree test project order limit db params (inr h) = no_any (db tree) h
