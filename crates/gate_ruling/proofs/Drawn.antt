-- Settling draws no approval and no build, so a counter that passed its last number has passed it for good.
use Rattle.std.proofs.Common.{◌≡◌, ℕ, ◌<◌, true, Option, Some, None, List, [], ◌∷◌, fold, refl, ap, ◌∙◌, arith}
use Rattle.std.specs.Prelude.{max, cond, find}
use Rattle.std.specs.Option.{option_map_or}
use Rattle.std.proofs.lemmas.Bool.{lt-ltb}
use Rattle.gate_types.specs.declared.records.Ready.{Ready}
use Rattle.gate_types.specs.declared.deliveries.Reply.{Reply}
use Rattle.gate_types.specs.declared.deliveries.Refusal.TheVariants as refusal
use Rattle.gate_types.specs.Counters.{Drawn, last_number}
use Rattle.gate_types.specs.Settings.{Settings}
use Rattle.gate_types.specs.State.{State}
use Rattle.gate_types.specs.Rebase.{rebase}
use Rattle.gate_types.specs.Sweep.{sweep}
use Rattle.gate_types.specs.Admit.{admit_one, entered, may_enter}
use Rattle.gate_types.specs.Settle.{settle}
use Rattle.gate_types.specs.Step.{accepted, refused, settled_step, is_exhausted}

-- a counter that admission doesn't draw from
admitted : (c : Settings) (of : Drawn → ℕ) → ((d : Drawn) (n : ℕ) → of (record d { order = n }) ≡ of d) →
    (s : State) → of (admit_one c s).counters ≡ of s.counters
admitted c of same s = by_found (find (may_enter c s) s.ready)
  where
    by_found : (o : Option Ready) → of (option_map_or (entered c s) o s).counters ≡ of s.counters
    by_found None = refl
    by_found (Some r) = same s.counters _

all_admitted : (c : Settings) (of : Drawn → ℕ) → ((d : Drawn) (n : ℕ) → of (record d { order = n }) ≡ of d) →
    (rs : List Ready) (s : State) → of (fold (λ t _. admit_one c t) s rs).counters ≡ of s.counters
all_admitted c of same [] s = refl
all_admitted c of same (r ∷ rs) s = all_admitted c of same rs (admit_one c s) ∙ admitted c of same s

settled_drawn : (c : Settings) (of : Drawn → ℕ) → ((d : Drawn) (n : ℕ) → of (record d { order = n }) ≡ of d) →
    (s : State) → of (settle c s).counters ≡ of s.counters
settled_drawn c of same s = let t = sweep c (rebase c s) in all_admitted c of same t.ready t

-- a delivery that draws past the last number is refused
refused_past : (c : Settings) (said : Reply) (t : State) → is_exhausted (settle c t) ≡ true →
    settled_step c (accepted said t) ≡ refused refusal.Exhausted
refused_past c said t e = ap (λ b. cond b (refused refusal.Exhausted) (accepted said (settle c t))) e

pub approval_past : (c : Settings) (said : Reply) (t : State) → last_number < t.counters.approval →
    settled_step c (accepted said t) ≡ refused refusal.Exhausted
approval_past c said t h =
    let d = (settle c t).counters in
    let same = settled_drawn c (λ d. d.approval) (λ d n. refl) t in
    refused_past c said t (lt-ltb last_number (max d.approval (max d.build d.order)) (omega (arith, h, same)))

pub build_past : (c : Settings) (said : Reply) (t : State) → last_number < t.counters.build →
    settled_step c (accepted said t) ≡ refused refusal.Exhausted
build_past c said t h =
    let d = (settle c t).counters in
    let same = settled_drawn c (λ d. d.build) (λ d n. refl) t in
    refused_past c said t (lt-ltb last_number (max d.approval (max d.build d.order)) (omega (arith, h, same)))
