-- What an accepted delivery is answered is of its form.
use Rattle.std.proofs.Common.{◌≡◌, ℕ, ◌+◌, ◌≤◌, Bool, true, false, not, ◌&&◌, ◌||◌, cond, Option, Some, None, List}
use Rattle.std.proofs.Common.{[], ◌∷◌, fold, length, refl, sym, ap, ◌∙◌, subst, arith}
use Rattle.std.specs.Prelude.{◌==◌, nat_lt, nat_le, find}
use Rattle.std.specs.Option.{option_map_or}
use Rattle.std.specs.List.{flat_map}
use Rattle.std.proofs.lemmas.Bool.{and_parts, leb-true}
use Rattle.gate_types.specs.declared.records.Build.{Build}
use Rattle.gate_types.specs.declared.deliveries.Delivery.{Delivery}
use Rattle.gate_types.specs.declared.deliveries.Delivery.TheVariants as delivery
use Rattle.gate_types.specs.declared.deliveries.Refusal.TheVariants as refusal
use Rattle.gate_types.specs.declared.deliveries.Reply.{Reply}
use Rattle.gate_types.specs.declared.deliveries.Reply.TheVariants as reply
use Rattle.gate_types.specs.Names.{same_name}
use Rattle.gate_types.specs.Needs.{needs}
use Rattle.gate_types.specs.Counters.{Drawn, last_number}
use Rattle.gate_types.specs.Settings.{Settings, are_sound}
use Rattle.gate_types.specs.declared.records.Ready.{Ready}
use Rattle.gate_types.specs.State.{Item, Queue, State, is_open, is_landed, is_queued, is_ready}
use Rattle.gate_types.specs.Slot.{is_running}
use Rattle.gate_types.specs.Rebase.{rebase}
use Rattle.gate_types.specs.Sweep.{sweep}
use Rattle.gate_types.specs.Admit.{may_enter, entered, admit_one}
use Rattle.gate_types.specs.Settle.{settle}
use Rattle.gate_types.specs.SubmitOrder.{Order, shown_order, is_submitting}
use Rattle.gate_types.specs.Choice.{choose}
use Rattle.gate_types.specs.Step.{Stepped, accepted, refused, has_project, is_known_and, approval_reply, made_ready}
use Rattle.gate_types.specs.Step.{with_landing, build_of, raw_step, step, settled_step, is_exhausted}
use Rattle.gate_types.specs.Lawful.{IsSound, IsLawful}
use Rattle.gate_types.specs.Forms.{is_item_in_form, is_queue_in_form, is_drawn_number, is_reply_in_form}
use Rattle.gate_types.specs.Forms.{are_settings_in_form, are_counters_in_form, IsInForm}
use Rattle.gate_types.specs.Rising.{In}
use Rattle.gate_types.specs.Limits.{most_needs}
use Rattle.gate_laws.specs.InForm.{ReplyIsInForm}
use Rattle.gate_laws.proofs.Members.{every, all_from, from_flat, found}
use Rattle.gate_laws.proofs.OrderFacts.{shows}
use Rattle.gate_laws.proofs.AfterLanding.{Submitted, is_after, after_landing, here_after, landed_here}
use Rattle.gate_laws.proofs.SettledIsAtRest.{settled_is_at_rest}
use Rattle.gate_laws.proofs.RunIsLawful.{raw_step_is_sound}
use Rattle.gate_laws.proofs.Chosen.{chosen}
use Rattle.gate_laws.proofs.Shapes.{BuildShape, Shaped, shaped_from, up_to, build_to}
use Rattle.gate_laws.proofs.Drawn.{item_drawn}
use Rattle.gate_laws.proofs.FewRows.{few_landings, tops}
use Rattle.gate_laws.proofs.ChosenShape.{chosen_shape}
use Rattle.gate_laws.proofs.LandedShape.{landings_long, after_shaped}
use Rattle.gate_laws.proofs.StepIsInForm.{step_is_in_form}
use Rattle.gate_laws.proofs.EachAccepted.{OnReply, on_reply, reply_test, reply_some, reply_known}

-- ---- what is said of a reply before settling

-- the serial of an item once it is settled, the place of a landing, a build under the last number drawn
abbrev RawReply : Settings → Reply → State → Type 0
RawReply c (reply.Queued n) u = (q : Queue) × In q (settle c u).queues × (i : Item) × In i q.items × (i.serial ≡ n)
RawReply c (reply.Landed n) u = (1 ≤ n) × (n ≤ last_number)
RawReply c (reply.Build b) u = BuildShape c b × (b.serial ≤ last_number) × (b.number ≡ u.counters.build)
RawReply c _ u = Unit {0}

-- where a test says nothing of the two
on_either : (P : Reply → State → Type 0) (b : Bool) (x y : Stepped) → OnReply P x → OnReply P y → OnReply P (cond b x y)
on_either P b x y h k = reply_test P b x y (λ e. h) (λ e. k)

-- ---- kind by kind

-- a change that waits, or stands in a queue
approval_replied : (c : Settings) (n : ℕ) (u : State) → RawReply c (approval_reply n (settle c u)) u
approval_replied c n u = by_item (find (λ i. i.change == n) (flat_map (λ q. q.items) (settle c u).queues)) refl
  where
    by_item : (o : Option Item) → find (λ i. i.change == n) (flat_map (λ q. q.items) (settle c u).queues) ≡ o →
        RawReply c (option_map_or (λ i. reply.Queued i.serial) o reply.Waiting) u
    by_item None e = tt
    by_item (Some i) e =
        let is = found (λ i. i.change == n) (flat_map (λ q. q.items) (settle c u).queues) i e in
        let x = from_flat (λ (q : Queue). q.items) (settle c u).queues i is.0 in
        (x.0, x.1, i, x.2, refl)

closed_replied : (c : Settings) (u : State) (b : Bool) → RawReply c (cond b reply.Removed reply.Recorded) u
closed_replied c u true = tt
closed_replied c u false = tt

-- an order that is shown lands
landed_is : (c : Settings) (s : State) (number : ℕ) (o : Order) → shown_order c s number ≡ Some o →
    raw_step c s (delivery.Landed number) ≡ accepted (reply.Landed (length o.queue.landings + 1))
    (with_landing c (length o.queue.landings + 1) o s)
landed_is c s number o e =
    ap (λ (x : Option Order). option_map_or (λ (y : Order). accepted (reply.Landed (length y.queue.landings + 1))
    (with_landing c (length y.queue.landings + 1) y s)) x (refused refusal.NoOrder)) e

each_replied : (c : Settings) (s : State) → are_sound c ≡ true → are_settings_in_form c ≡ true → IsLawful c s →
    Shaped c s → (d : Delivery) → OnReply (RawReply c) (raw_step c s d)
each_replied c s w f h k (delivery.Revision n name r message) =
    on_either (RawReply c) (not (has_project c name)) _ _ tt (
    on_either (RawReply c) (is_known_and s n (λ k. not (same_name k.project name))) _ _ tt (
    on_either (RawReply c) (is_known_and s n (λ k. nat_le r k.revision || is_landed k)) _ _ tt (
    on_either (RawReply c) (is_submitting c s n) _ _ tt (
    on_either (RawReply c) (nat_lt most_needs (length (needs c.base message))) _ _ tt tt))))
each_replied c s w f h k (delivery.Approved n r) = reply_known (RawReply c) s n r _ (λ k known.
    on_either (RawReply c) (nat_lt r k.revision || not (is_open k)) _ _ tt (
    on_either (RawReply c) (is_ready s n || is_queued s n) _ _ tt (approval_replied c n (made_ready n s))))
each_replied c s w f h k (delivery.Withdrawn n r) = reply_known (RawReply c) s n r _ (λ k known.
    on_either (RawReply c) (nat_lt r k.revision) _ _ tt (
    on_either (RawReply c) (is_submitting c s n) _ _ tt (
    on_either (RawReply c) (is_queued s n) _ _ tt (
    on_either (RawReply c) (is_ready s n) _ _ tt tt))))
each_replied c s w f h k (delivery.Closed n r) = reply_known (RawReply c) s n r _ (λ k known.
    on_either (RawReply c) (nat_lt r k.revision || not (is_open k)) _ _ tt (
    on_either (RawReply c) (is_submitting c s n) _ _ tt (closed_replied c _ (is_queued s n))))
each_replied c s w f h k (delivery.Landed number) = reply_some (RawReply c) (shown_order c s number) _ _ (λ o e.
    let n = length o.queue.landings + 1 in
    let submitted : Submitted c s o =
    record {
      settings = w;
      sound = h.sound;
      shows = shows c s number o e;
      needs = settled_is_at_rest.needs_before c s h.settled;
    } in
    let u = after_landing c n o s in
    let sound = subst (IsSound c) (is_after c n o s) (raw_step_is_sound c s (delivery.Landed number) (reply.Landed n)
    (with_landing c n o s) w h (landed_is c s number o e)) in
    let few = few_landings c u sound (after_shaped c s o submitted k) (landed_here c n o o.queue)
    (here_after c s o n submitted) in
    let long = landings_long o.queue.landings
    (record { serial = o.item.serial; change = o.item.change; revision = o.item.revision }) in
    let order = (tops s h.not_exhausted).order in
    (omega arith, omega (arith, few, long, order))) tt
each_replied c s w f h k (delivery.Refused number) = reply_some (RawReply c) (shown_order c s number) _ _ (λ o e. tt) tt
each_replied c s w f h k (delivery.Take worker) = reply_some (RawReply c) (choose c s) _ _ (λ b e.
    let t = tops s h.not_exhausted in
    let x = chosen c s b e in
    let drawn = item_drawn c s h.sound x.queue x.there x.item x.item_in in
    let serial : b.serial ≡ x.item.serial = ap (λ (y : Build). y.serial) (sym x.same)
    ∙ ap (λ p. p.item.serial) (sym x.is_place) in
    let order = t.order in
    (chosen_shape c s f h.sound t k b e, omega (arith, drawn, serial, order), refl)) tt
each_replied c s w f h k (delivery.Result n e) =
    reply_some (RawReply c) (build_of s n) _ _
    (λ b g. on_either (RawReply c) (b.live && is_running b.outcome) _ _ tt tt) tt

-- ---- the law

-- admission draws no number of a build
build_drawn_one : (c : Settings) (s : State) → (admit_one c s).counters.build ≡ s.counters.build
build_drawn_one c s = by_found (find (may_enter c s) s.ready)
  where
    by_found : (o : Option Ready) → (option_map_or (entered c s) o s).counters.build ≡ s.counters.build
    by_found None = refl
    by_found (Some r) = refl

builds_as_drawn : (c : Settings) (s : State) (rs : List Ready) →
    (fold (λ t _. admit_one c t) s rs).counters.build ≡ s.counters.build
builds_as_drawn c s [] = refl
builds_as_drawn c s (r ∷ rs) = builds_as_drawn c (admit_one c s) rs ∙ build_drawn_one c s

settled_builds : (c : Settings) (u : State) → (settle c u).counters.build ≡ u.counters.build
settled_builds c u = let t = sweep c (rebase c u) in builds_as_drawn c t t.ready

build_top : (d : Drawn) → are_counters_in_form d ≡ true → d.build ≤ last_number
build_top d f =
    let last = and_parts (nat_le d.approval last_number && nat_le d.build last_number)
    (nat_le d.order last_number) f in
    leb-true d.build last_number
    (and_parts (nat_le d.approval last_number) (nat_le d.build last_number) last.0).1

-- the reply, by what the settled state keeps to
from_raw : (c : Settings) (u : State) (r : Reply) → RawReply c r u → IsInForm c (settle c u) →
    is_reply_in_form c r ≡ true
from_raw c u reply.Recorded h f = refl
from_raw c u reply.Stale h f = refl
from_raw c u reply.Waiting h f = refl
from_raw c u reply.Already h f = refl
from_raw c u reply.Removed h f = refl
from_raw c u reply.Noted h f = refl
from_raw c u (reply.Queued n) h f =
    let p5 = and_parts _ _ (every (λ q. is_queue_in_form q ≡ true) (settle c u).queues f.queues h.0 h.1) in
    let p4 = and_parts _ _ p5.0 in
    let items = and_parts _ _ p4.0 in
    let p2 = and_parts _ _ (all_from is_item_in_form h.0.items items.1 h.2 h.3) in
    let serial = and_parts _ _ p2.0 in
    subst (λ m. is_drawn_number m ≡ true) h.4 serial.0
from_raw c u (reply.Landed n) h f = up_to last_number n h.0 h.1
from_raw c u (reply.Build b) h f =
    let top = build_top (settle c u).counters f.counters in
    let same = settled_builds c u in
    let number = h.2 in
    build_to c b (omega (arith, top, same, number)) h.1 h.0

replied : (c : Settings) (x : Stepped) → OnReply (RawReply c) x →
    OnReply (λ r t. IsInForm c t → is_reply_in_form c r ≡ true) (settled_step c x)
replied c (accepted said u) h =
    on_either (λ r t. IsInForm c t → is_reply_in_form c r ≡ true) (is_exhausted (settle c u))
    (refused refusal.Exhausted)
    (accepted said (settle c u)) tt (from_raw c u said h)
replied c (refused r) h = tt

pub reply_is_in_form : ReplyIsInForm
reply_is_in_form c s d r t w f h k v e =
    on_reply (λ q u. IsInForm c u → is_reply_in_form c q ≡ true) (step c s d)
    (replied c (raw_step c s d) (each_replied c s w f h (shaped_from c s k) d)) r t e
    (step_is_in_form c s d r t w f h k v e)
