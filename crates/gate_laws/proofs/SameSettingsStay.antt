-- A gate that is given its own settings stays as it is.
use Rattle.std.proofs.Common.{◌≡◌, ℕ, true, ◌&&◌, cond, List, [], ◌∷◌, map, refl, ap, ◌∙◌, inl, inr}
use Rattle.std.specs.Option.{option_map_or}
use Rattle.std.proofs.lemmas.Bool.{and_from}
use Rattle.gate_types.specs.declared.config.Queue.{Queue as QueueSetting}
use Rattle.gate_types.specs.declared.config.Project.{Project}
use Rattle.gate_types.specs.Names.{same_name}
use Rattle.gate_types.specs.Settings.{Settings, are_sound, are_distinct}
use Rattle.gate_types.specs.State.{Queue, State, empty_queue}
use Rattle.gate_types.specs.Once.{Content}
use Rattle.gate_types.specs.Adopt.{may_adopt, resized, adopted_queue, adopted_content}
use Rattle.gate_types.specs.Lawful.{IsSound}
use Rattle.gate_types.specs.Rising.{In}
use Rattle.gate_laws.specs.Sessions.{SameSettingsStay}
use Rattle.gate_laws.proofs.Members.{any_to, all_to}
use Rattle.gate_types.proofs.DistinctLemmas.{names_differ}
use Rattle.gate_laws.proofs.Alone.{same_name_of}
use Rattle.gate_laws.proofs.Adopting.{found_named}
use Rattle.gate_laws.proofs.AdoptedItself.{kept_window}

own_may : (c : Settings) → may_adopt c c ≡ true
own_may c =
    and_from _ _
    (all_to _ c.queues (λ q m. any_to (λ (r : QueueSetting). same_name r.name q.name) c.queues q m (same_name_of q.name q.name refl)))
    (all_to _ c.projects (λ p m. any_to (λ (r : Project). same_name r.name p.name && same_name r.queue p.queue) c.projects p m
    (and_from _ _ (same_name_of p.name p.name refl) (same_name_of p.queue p.queue refl))))

first_same : (a b : List ℕ) (xs ys : List (List ℕ)) → a ∷ xs ≡ b ∷ ys → a ≡ b
first_same a b xs ys e = cc

rest_same : (a b : List ℕ) (xs ys : List (List ℕ)) → a ∷ xs ≡ b ∷ ys → xs ≡ ys
rest_same a b xs ys e = cc

own_queues : (c : Settings) (s : State) → are_distinct (map (λ (q : Queue). q.name) s.queues) ≡ true →
    (rs : List QueueSetting) (qs : List Queue) → ((r : QueueSetting) → In r rs → In r c.queues) →
    ((q : Queue) → In q qs → In q s.queues) → map (λ (q : Queue). q.name) qs ≡ map (λ (r : QueueSetting). r.name) rs →
    map (adopted_queue c s) rs ≡ qs
own_queues c s differ [] [] ours theirs names = refl
own_queues c s differ [] (q ∷ qs) ours theirs names = absurd cc
own_queues c s differ (r ∷ rs) [] ours theirs names = absurd cc
own_queues c s differ (r ∷ rs) (q ∷ qs) ours theirs names =
    let here = first_same q.name r.name _ _ names in
    let there = found_named (λ (q : Queue). q.name) s.queues differ q (theirs q (inl refl)) r.name (same_name_of q.name r.name here) in
    let kept : resized c r q ≡ q = ap (λ b. cond b q (record q { window = r.window })) (kept_window c r (ours r (inl refl))) in
    ap (λ x. x ∷ map (adopted_queue c s) rs) (ap (λ o. option_map_or (resized c r) o (empty_queue r)) there ∙ kept)
    ∙ ap (λ l. q ∷ l) (own_queues c s differ rs qs (λ x m. ours x (inr m)) (λ x m. theirs x (inr m)) (rest_same q.name r.name _ _ names))

own_content : (c : Settings) (x : Content) → are_sound c ≡ true → IsSound c x.state → adopted_content c c x ≡ x
own_content c x sound h =
    ap (λ qs. record x { state = record x.state { queues = qs } })
    (own_queues c x.state (ap are_distinct h.queues_are_set ∙ names_differ c sound) c.queues x.state.queues (λ r m. m) (λ q m. m) h.queues_are_set)

pub same_settings_stay : SameSettingsStay
same_settings_stay = record { may = own_may; content = own_content }
