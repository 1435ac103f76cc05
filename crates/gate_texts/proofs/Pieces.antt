-- Texts that are written piece by piece.
use Rattle.std.proofs.Common.{◌≡◌, ℕ, suc, ◌+◌, ◌≤◌, List, [], ◌∷◌, ◌++◌, drop, length, sym, ap, ◌∙◌, append_assoc}
use Rattle.std.proofs.Common.{append-nil, arith}
use Rattle.std.specs.Prelude.{flat_map}
use Rattle.std.proofs.Math.ListN.{drop_of_length-le}
use Rattle.std.proofs.lemmas.List.{length-map}
use Rattle.std.proofs.lemmas.List.Concat.{flat_map-cons}
use Rattle.gate_types.specs.declared.config.Queue.{Queue as QueueSetting}
use Rattle.gate_types.specs.Settings.{Settings}
use Rattle.gate_types.specs.State.{State}
use Rattle.gate_types.specs.Status.{status_rows}
use Rattle.gate_types.specs.Lawful.{IsSound}
use Rattle.gate_reads.proofs.Queues.{IsThere}

-- the text, then what is left, is the whole: so it is behind one more piece
pub one_more : {X : Type 0} (f : X → List ℕ) (x : X) (xs : List X) (text piece new whole : List ℕ) →
    text ++ flat_map f (x ∷ xs) ≡ whole → piece ≡ f x → new ≡ text ++ piece → new ++ flat_map f xs ≡ whole
one_more f x xs text piece new whole h p e =
    ap (λ l. l ++ flat_map f xs) (e ∙ ap (λ l. text ++ l) p) ∙ append_assoc text (f x) (flat_map f xs)
    ∙ ap (λ l. text ++ l) (sym (flat_map-cons f x xs)) ∙ h

-- and where nothing is left, it is the whole
pub all_there : {X : Type 0} (f : X → List ℕ) (xs : List X) (text whole : List ℕ) → text ++ flat_map f xs ≡ whole →
    xs ≡ [] → text ≡ whole
all_there f xs text whole h e = sym (append-nil text) ∙ ap (λ l. text ++ flat_map f l) (sym e) ∙ h

-- behind the last queue of the settings none is left
pub no_queue_left : (c : Settings) (s : State) (k : ℕ) (rs : List QueueSetting) → IsSound c s → rs ≡ c.queues →
    length rs ≤ k → drop k s.queues ≡ []
no_queue_left c s k rs h e l =
    let state = length-map s.queues (λ q. q.name) in
    let set = length-map c.queues (λ q. q.name) in
    let same = ap (λ (ns : List (List ℕ)). length ns) h.queues_are_set in
    let all = ap (λ (qs : List QueueSetting). length qs) e in
    drop_of_length-le s.queues (omega (arith, l, state, set, same, all))

-- one queue more
pub queue_more : {c : Settings} {s : State} {k : ℕ} {name : List ℕ} → (there : IsThere c s k name) →
    (text rows new : List ℕ) →
    text ++ flat_map (status_rows c s) (drop k s.queues) ≡ flat_map (status_rows c s) s.queues →
    rows ≡ status_rows c s there.queue → new ≡ text ++ rows →
    new ++ flat_map (status_rows c s) (drop (k + 1) s.queues) ≡ flat_map (status_rows c s) s.queues
queue_more {c} {s} {k} there text rows new h r e =
    let step : k + 1 ≡ suc k = omega arith in
    ap (λ n. new ++ flat_map (status_rows c s) (drop n s.queues)) step
    ∙ one_more (status_rows c s) there.queue (drop (suc k) s.queues) text rows new (flat_map (status_rows c s) s.queues)
    (ap (λ qs. text ++ flat_map (status_rows c s) qs) (sym there.here) ∙ h) r e
