-- The place of an item, by its parts.
use Rattle.std.proofs.Common.{◌≡◌, ℕ, Bool, false, not, ◌&&◌, ◌||◌, cond, ◌+◌, ◌<◌, ◌≤◌, Option, Some, None, List, []}
use Rattle.std.proofs.Common.{◌∷◌, ◌++◌, length, get_or, drop, refl, sym, ap, ◌∙◌, add-one, drop-cons, append_assoc}
use Rattle.std.proofs.Common.{arith}
use Rattle.std.specs.Prelude.{◌==◌}
use Rattle.std.specs.List.{list_all}
use Rattle.gate_types.specs.Window.{Bounds}
use Rattle.gate_types.specs.declared.records.Item.{Item as ItemRow}
use Rattle.gate_types.specs.declared.records.Landing.{Landing}
use Rattle.gate_types.specs.declared.records.Build.{Build}
use Rattle.gate_types.specs.declared.records.Verdict.{Verdict}
use Rattle.gate_types.specs.declared.records.Verdict.TheVariants as verdict
use Rattle.gate_types.specs.declared.edits.Edit.{Edit}
use Rattle.gate_types.specs.State.{Item}
use Rattle.gate_types.specs.Line.{Place}
use Rattle.gate_types.specs.Slot.{is_blocked, are_met_by, has_failure, is_cut, raw_slot_of, is_finished}
use Rattle.gate_types.specs.Standing.{with_ahead, next_ahead}
use Rattle.gate_types.specs.Sweep.{verdict_of, fails_for_good, judge, next_staying}
use Rattle.gate_types.specs.Rows.{item_of}
use Rattle.gate_queue_rules.specs.Edits.{edits_at, edits_after, next_reports, window_behind, window_after}
use Rattle.gate_queue_rules.proofs.Ordered.{GoWith}
use Rattle.gate_queue_rules.proofs.Folds.{window_same}
use Rattle.gate_queue.specs.declared.whole_queue.facts.ItemFacts.{ItemFacts}
use Rattle.gate_laws.proofs.Tests.{and_true}
use Rattle.gate_laws.proofs.Cuts.{finished_is}
use Rattle.gate_queue.specs.WholeQueue.Facts.{place_by, place_behind, places_by}

-- a place with those parts
abbrev pub with_parts : List Item → List Landing → Item → ItemFacts → Place
with_parts ahead landings i f = record { landings = landings; ahead = ahead; item = i; needs = f.needs.now; jobs = f.jobs.now; fast = f.fast }

pub place_is : (ahead a : List Item) (landings : List Landing) (i : ItemRow) (q : Item) (f : ItemFacts) → a ≡ ahead → q ≡ item_of i → with_parts a landings q f ≡ place_behind ahead landings i f
place_is ahead a landings i q f ea eq = λ k. with_parts (ea k) landings (eq k) f

-- the places from one on are the one there and those behind it
pub places-drop : (ls : List Landing) (items : List ItemRow) (fs : List ItemFacts) (i : ℕ) (d : ItemRow) (e : ItemFacts) → i < length items → i < length fs →
    places_by ls (drop i items) (drop i fs) ≡ place_by ls (get_or items i d) (get_or fs i e) ∷ places_by ls (drop (i + 1) items) (drop (i + 1) fs)
places-drop ls items fs i d e p q = rw (add-one, drop-cons items i d, drop-cons fs i e) refl

-- rows with as many facts go with their places
pub go_with : (ls : List Landing) (is : List ItemRow) (fs : List ItemFacts) → length fs ≡ length is → GoWith is (places_by ls is fs)
go_with ls [] fs e = tt
go_with ls (i ∷ is) [] e = absurd (omega arith)
go_with ls (i ∷ is) (f ∷ fs) e = (refl, go_with ls is fs (omega arith))

-- one more item, for the edits
pub edits_after_more : (name : List ℕ) (builds : List Build) (n m : ℕ) (ahead ahead' staying staying' : List Item) (p : Place) (ps rest : List Place) (old new all : List Edit) →
    rest ≡ p ∷ ps → ahead' ≡ next_ahead builds (with_ahead ahead p) → staying' ≡ next_staying staying (judge builds staying (with_ahead ahead p)) →
    new ≡ old ++ edits_at name builds n staying (with_ahead ahead p) → m ≡ next_reports n (verdict_of builds staying (with_ahead ahead p)) →
    old ++ edits_after name builds n ahead staying rest ≡ all → new ++ edits_after name builds m ahead' staying' ps ≡ all
edits_after_more name builds n m ahead ahead' staying staying' p ps rest old new all er ea es en em h =
    (λ k. en k ++ edits_after name builds (em k) (ea k) (es k) ps)
    ∙ append_assoc old (edits_at name builds n staying (with_ahead ahead p)) _
    ∙ sym (ap (λ r. old ++ edits_after name builds n ahead staying r) er)
    ∙ h

-- and for the window
pub window_after_more : (builds : List Build) (bounds : Bounds) (w v : ℕ) (ahead ahead' staying staying' : List Item) (p : Place) (ps rest : List Place) (all : ℕ) →
    rest ≡ p ∷ ps → ahead' ≡ next_ahead builds (with_ahead ahead p) → staying' ≡ next_staying staying (judge builds staying (with_ahead ahead p)) →
    v ≡ window_behind bounds w (verdict_of builds staying (with_ahead ahead p)) →
    window_after builds bounds w ahead staying rest ≡ all → window_after builds bounds v ahead' staying' ps ≡ all
window_after_more builds bounds w v ahead ahead' staying staying' p ps rest all er ea es ev h =
    (λ k. window_after builds bounds ((ev ∙ window_same bounds w p.item (verdict_of builds staying (with_ahead ahead p))) k) (ea k) (es k) ps)
    ∙ sym (ap (λ r. window_after builds bounds w ahead staying r) er)
    ∙ h

pub next_reports-le : (n : ℕ) (v : Option Verdict) → next_reports n v ≤ n + 1
next_reports-le n None = omega arith
next_reports-le n (Some v) = omega arith

-- the verdict on an item that isn't blocked, by what its jobs say
pub verdict_told : (bs : List Build) (staying : List Item) (p : Place) (m f e u d : Bool) → is_blocked p ≡ false →
    m ≡ are_met_by staying p.needs → f ≡ has_failure bs p → e ≡ length p.ahead == 0 → u ≡ p.fast && f →
    d ≡ list_all (λ j. is_finished (raw_slot_of bs p j)) p.jobs →
    cond (not m) (Some verdict.Needs) (cond (f && e && (u || d)) (Some verdict.Failed) None) ≡ verdict_of bs staying p
verdict_told bs staying p m f e u d eb em ef ee eu ed =
    let cut : u ≡ is_cut bs p =
    eu ∙ ap (λ t. p.fast && t) ef ∙ sym (ap (λ t. p.fast && not t && has_failure bs p) eb ∙ ap (λ t. t && has_failure bs p) (and_true p.fast)) in
    let all : f && e && (u || d) ≡ fails_for_good bs p =
    (λ k. ef k && ee k && (cut k || ed k))
    ∙ sym ((λ k. (eb k || has_failure bs p) && not (eb k) && length p.ahead == 0 && finished_is bs p k)
    ∙ ap (λ t. t && length p.ahead == 0 && (is_cut bs p || list_all (λ j. is_finished (raw_slot_of bs p j)) p.jobs)) (and_true (has_failure bs p))) in
    λ k. cond (not (em k)) (Some verdict.Needs) (cond (all k) (Some verdict.Failed) None)
