-- The live builds of a serial once a delivery is done.
use Rattle.std.proofs.Common.{◌≡◌, ℕ, Bool, true, false, not, ◌&&◌, cond, List, [], ◌∷◌, map, refl, sym, ap, ◌∙◌}
use Rattle.std.specs.Prelude.{◌==◌}
use Rattle.std.proofs.lemmas.Bool.{eqb-true}
use Rattle.gate_types.specs.declared.records.Build.{Build}
use Rattle.gate_types.specs.declared.deliveries.Ending.{Ending}
use Rattle.gate_types.specs.Slot.{is_running}
use Rattle.gate_types.specs.Rebase.{with_live}
use Rattle.gate_types.specs.Sweep.{without_runs}
use Rattle.gate_types.specs.Step.{with_ending}
use Rattle.gate_types.proofs.PlainLemmas.{and_false}
use Rattle.gate_walk.specs.Rescan.{live_under}
use Rattle.gate_reads.specs.declared.touched.Event.TheVariants as event
use Rattle.gate_laws.proofs.Tests.{and_true, not_and_false}
use Rattle.gate_settling.specs.Rows.{build_now}
use Rattle.gate_settling.proofs.ListLemmas.{filter_kept}

-- the builds of another serial stay as they are where those of one stop
pub live_elsewhere : (m n : ℕ) → n == m ≡ false → (bs : List Build) →
    live_under (without_runs (λ k. k == m) bs) n ≡ live_under bs n
live_elsewhere m n away [] = refl
live_elsewhere m n away (b ∷ bs) = by_serial (b.serial == n) refl (live_elsewhere m n away bs)
  where
    stopped : Build
    stopped = with_live (b.live && not (is_running b.outcome && b.serial == m)) b

    by_serial : (t : Bool) → b.serial == n ≡ t → live_under (without_runs (λ k. k == m) bs) n ≡ live_under bs n →
        live_under (without_runs (λ k. k == m) (b ∷ bs)) n ≡ live_under (b ∷ bs) n
    by_serial true e rest =
        let other : b.serial == m ≡ false = ap (λ k. k == m) (eqb-true b.serial n e) ∙ away in
        let same : stopped ≡ b =
        (λ k. with_live (b.live && not (is_running b.outcome && other k)) b)
        ∙ (λ k. with_live (b.live && not_and_false (is_running b.outcome) k) b)
        ∙ (λ k. with_live (and_true b.live k) b) in
        (λ k. cond ((same k).live && (same k).serial == n) (same k ∷ rest k) (rest k))
    by_serial false e rest =
        let left = live_under (without_runs (λ k. k == m) bs) n in
        ap (λ t. cond (stopped.live && t) (stopped ∷ left) left) e
        ∙ ap (λ t. cond t (stopped ∷ left) left) (and_false stopped.live)
        ∙ rest
        ∙ sym (ap (λ t. cond (b.live && t) (b ∷ live_under bs n) (live_under bs n)) e
        ∙ ap (λ t. cond t (b ∷ live_under bs n) (live_under bs n)) (and_false b.live))

-- the build that ended has its outcome
pub live_ended : (e : Ending) (m n : ℕ) (bs : List Build) →
    live_under (map (λ (b : Build). cond (b.number == m) (with_ending e b) b) bs) n ≡ map (build_now (event.Ended m e))
    (live_under bs n)
live_ended e m n bs =
    filter_kept (λ (b : Build). b.live && b.serial == n) (λ b. cond (b.number == m) (with_ending e b) b)
    (λ b. same b (b.number == m)) bs
  where
    same : (b : Build) (t : Bool) →
        (cond t (with_ending e b) b).live && (cond t (with_ending e b) b).serial == n ≡ (b.live && b.serial == n)
    same b true = refl
    same b false = refl
