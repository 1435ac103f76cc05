-- What a query within a transaction leaves.
use Rattle.std.proofs.Common.{◌≡◌, ◌⊎◌, ℕ, List, IsTrue, Ok, Option, Some, None, sym, ap, subst, ◌∙◌, inl, inr}
use Rattle.sqlite.specs.Clock.{timed}
use Rattle.sqlite.specs.Effect.{Database}
use Rattle.sqlite.specs.Listing.{understood}
use Rattle.sqlite.specs.Order.{Row}
use Rattle.sqlite.specs.State.{FailsToQuery, FailsToShow, IsNotRun, IsRolledBack, IsTooLate, IsUnchanged, KeepsCommit}
use Rattle.sqlite.specs.State.{Shown, ShowsRows, State}
use Rattle.sqlite.specs.declared.error.Error.{Error}
use Rattle.sqlite.proofs.Callers.{IsPlain}
use Rattle.sqlite.proofs.InsideLemmas.{unchanged_keeps}
use Rattle.sqlite_schema.specs.declared.command.Returning.{Returning}
use Rattle.gate_schema.specs.Rows.{Changes, IsReady, Stands}
use Rattle.gate_schema.specs.Schema.{gate_schema}

-- a query that shows rows changes nothing
shown_unchanged : (sql : List ℕ) (params : Row) (old new : State) (rows : List Row) → IsPlain (understood gate_schema sql) → IsReady old → Shown sql params old new rows → IsUnchanged old new
unfolding Shown
shown_unchanged sql params old new rows plain ready h =
    let known : understood gate_schema sql ≡ Ok h.0 = ap (λ s. understood s sql) (sym ready.schema_is) ∙ h.1.is in
    let bare = subst IsPlain known plain in
    (subst (ShowsRows old new sql h.0 (timed params h.0.formats h.1.now) rows) bare.0 h.2).3

-- and what the tables hold is what they held
pub shown_changes : (sql : List ℕ) (params : Row) (old new : State) (rows : List Row) → IsPlain (understood gate_schema sql) → IsReady old → Shown sql params old new rows → Changes old new (λ b. b)
shown_changes sql params old new rows plain ready h =
    let same = shown_unchanged sql params old new rows plain ready h in
    record {
      ready = record { schema_is = ap (λ (d : Database). d.schema) same.0.now_is ∙ ready.schema_is; inside = subst IsTrue (sym same.0.mode) ready.inside };
      named = λ b named. named;
      stands = λ b named stands. subst (λ (d : Database). Stands d.trees b) (sym same.0.now_is) stands;
    }

-- one that fails changes nothing, or the transaction is undone
failed_whole : (sql : List ℕ) (params : Row) (old new : State) (e : Error) → FailsToQuery sql params old new e → IsUnchanged old new ⊎ IsRolledBack old new
unfolding FailsToQuery IsNotRun
failed_whole sql params old new e (inl (inl h)) = inl h.1
failed_whole sql params old new e (inl (inr h)) = inr h.3
failed_whole sql params old new e (inr h) = of h.0.returning h.2
  where
    of : (r : Option Returning) → FailsToShow old new sql h.0 (timed params h.0.formats h.1.now) e r → IsUnchanged old new ⊎ IsRolledBack old new
    of None h = inl h.3
    of (Some what) (inl h) = inl h.1
    of (Some what) (inr h) = inr h.3

-- either way, nothing is committed
pub shown_keeps : (sql : List ℕ) (params : Row) (old new : State) (rows : List Row) → IsPlain (understood gate_schema sql) → IsReady old → Shown sql params old new rows → KeepsCommit old new
shown_keeps sql params old new rows plain ready shown = unchanged_keeps old new (inl (shown_unchanged sql params old new rows plain ready shown))

pub failed_keeps : (sql : List ℕ) (params : Row) (old new : State) (e : Error) → FailsToQuery sql params old new e ⊎ IsTooLate sql params old new e → KeepsCommit old new
failed_keeps sql params old new e (inl h) = unchanged_keeps old new (failed_whole sql params old new e h)
failed_keeps sql params old new e (inr h) = unchanged_keeps old new (inl h.5)
