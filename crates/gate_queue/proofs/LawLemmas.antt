-- The laws of a rebase and a sweep, proved.
use Rattle.std.proofs.Common.{◌≡◌, ℕ, Bool, true, false, not, ◌&&◌, ◌||◌, cond, List, [], ◌∷◌, ◌++◌, map, refl}
use Rattle.std.proofs.Common.{sym, ap, ◌∙◌, true≢false}
use Rattle.std.specs.List.{All, AllPass, list_any}
use Rattle.std.proofs.lemmas.List.Elements.{All-cons, All-nil, All-head, All-tail}
use Rattle.gate_types.specs.declared.config.Job.{Job}
use Rattle.gate_types.specs.declared.records.Build.{Build}
use Rattle.gate_types.specs.State.{Item}
use Rattle.gate_types.specs.Line.{Place}
use Rattle.gate_types.specs.Slot.{is_blocked, is_cut, slot_of, raw_slot_of}
use Rattle.gate_types.specs.Standing.{is_failing, places, all_places, places_after, place_of, with_ahead, next_ahead}
use Rattle.gate_types.specs.Rebase.{rebase, stays_live}
use Rattle.gate_types.specs.Sweep.{judged, judged_after, judge, next_staying, goes}
use Rattle.gate_queue.specs.Laws.{RebaseKeepsMarks, SlotsTellFailing, WhatGoesStandsInNoLine}
use Rattle.gate_queue_rules.proofs.Ordered.{Tells, rises, ahead_rise, items_rise}
use Rattle.gate_laws.proofs.Members.{all}
use Rattle.gate_laws.proofs.Stays.{Among, among_next, goes_failing}
use Rattle.gate_laws.proofs.Cuts.{failed_cut}
use Rattle.gate_laws.proofs.AfterRebase.{all_places_rebased}
use Rattle.gate_queue_rules.proofs.Keeps.{passes_at, all_alike, slot_kept, rebase_passes}
use Rattle.gate_queue_rules.proofs.Settled.{goes_tells}

-- ---- a rebase

pub rebase_keeps_marks : RebaseKeepsMarks
rebase_keeps_marks = record {
  places = all_places_rebased;
  slots = λ c s. let ps = all_places c s in let test = stays_live s.builds ps in
      all (λ p. (j : Job) → slot_of (rebase c s).builds p j ≡ slot_of s.builds p j) ps
      (λ p m. slot_kept s.builds p test (passes_at s.builds test ps (rebase_passes s.builds ps) p m));
  marks = λ c s. let ps = all_places c s in
      all (λ p. is_failing (rebase c s).builds p ≡ is_failing s.builds p) ps
      (λ p m. (all_alike s.builds ps (stays_live s.builds ps) (rebase_passes s.builds ps) p m).failing);
  cuts = λ c s. let ps = all_places c s in
      all (λ p. is_cut (rebase c s).builds p ≡ is_cut s.builds p) ps
      (λ p m. (all_alike s.builds ps (stays_live s.builds ps) (rebase_passes s.builds ps) p m).cut);
}

pub slots_tell_failing : SlotsTellFailing
slots_tell_failing builds p =
    λ k. is_blocked p || list_any (λ j. j.voting && sym (failed_cut (is_cut builds p) (raw_slot_of builds p j)) k) p.jobs

-- ---- a sweep

pass_push : (leaves : ℕ → Bool) (xs : List Item) (i : Item) → AllPass (λ i. not (leaves i.serial)) xs → leaves i.serial ≡ false → AllPass (λ i. not (leaves i.serial)) (xs ++ i ∷ [])
pass_push leaves [] i h e = All-cons (λ x. not (leaves x.serial) ≡ true) i [] (ap not e) (All-nil _)
pass_push leaves (x ∷ xs) i h e = All-cons (λ y. not (leaves y.serial) ≡ true) x (xs ++ i ∷ []) (All-head (λ y. not (leaves y.serial) ≡ true) x xs h) (pass_push leaves xs i (All-tail (λ y. not (leaves y.serial) ≡ true) x xs h) e)

none_goes : (bs : List Build) (ahead staying : List Item) (ps : List Place) (leaves : ℕ → Bool) → Among ahead staying → AllPass (λ i. not (leaves i.serial)) ahead → Tells leaves (judged_after bs staying (places_after bs ahead ps)) →
    All (λ p. AllPass (λ i. not (leaves i.serial)) p.ahead) (places_after bs ahead ps)
none_goes bs ahead staying [] leaves a h t = All-nil _
none_goes bs ahead staying (p ∷ ps) leaves a h t =
    let q = with_ahead ahead p in
    let next = next_staying staying (judge bs staying q) in
    All-cons (λ x. AllPass (λ i. not (leaves i.serial)) x.ahead) q (places_after bs (next_ahead bs q) ps) h
    (none_goes bs (next_ahead bs q) next ps leaves (among_next bs staying q a) (by_failing (is_failing bs q) (λ e. goes_failing bs staying q a (sym t.0 ∙ e))) t.1)
  where
    by_failing : (f : Bool) → (leaves p.item.serial ≡ true → f ≡ true) → AllPass (λ i. not (leaves i.serial)) (cond f ahead (ahead ++ p.item ∷ []))
    by_failing true k = h
    by_failing false k = pass_push leaves ahead p.item h (stays (leaves p.item.serial) k)
      where
        stays : (l : Bool) → (l ≡ true → false ≡ true) → l ≡ false
        stays true e = absurd (true≢false (sym (e refl)))
        stays false e = refl

pub what_goes_stands_in_no_line : WhatGoesStandsInNoLine
what_goes_stands_in_no_line c s q r =
    let ps = map (place_of c s q) q.items in
    let rp = ahead_rise s.builds 0 [] ps (items_rise c s q q.items 0 (rises (λ (i : Item). i.serial) q.items r)) in
    none_goes s.builds [] [] ps (goes (judged c s q)) (λ n h. h) (All-nil (λ (i : Item). not (goes (judged c s q) i.serial) ≡ true)) (goes_tells s.builds 0 [] (places c s q) rp)
