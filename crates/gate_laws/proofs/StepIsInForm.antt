-- What a gate holds is of its form before the first delivery, and each kind of delivery leaves it so.
use Rattle.std.proofs.Common.{◌≡◌, ℕ, ◌+◌, true, false, not, ◌&&◌, ◌||◌, List, length, refl, sym, subst, arith}
use Rattle.std.specs.Prelude.{nat_lt, nat_le, ◌==◌}
use Rattle.std.specs.List.{list_all}
use Rattle.std.proofs.lemmas.Bool.{and_parts, and_from, le-leb, leb-true, ltb-false}
use Rattle.gate_types.specs.declared.config.Queue.{Queue as QueueSetting}
use Rattle.gate_types.specs.declared.records.Verdict.TheVariants as verdict
use Rattle.gate_types.specs.declared.records.Stage.TheVariants as stage
use Rattle.gate_types.specs.declared.deliveries.Delivery.{Delivery}
use Rattle.gate_types.specs.declared.deliveries.Delivery.TheVariants as delivery
use Rattle.gate_types.specs.declared.deliveries.Refusal.TheVariants as refusal
use Rattle.gate_types.specs.declared.deliveries.Reply.{Reply}
use Rattle.gate_types.specs.Names.{same_name, is_path_name}
use Rattle.gate_types.specs.Needs.{needs}
use Rattle.gate_types.specs.Settings.{Settings, are_sound, is_sound_window}
use Rattle.gate_types.specs.Counters.{Drawn, last_number}
use Rattle.gate_types.specs.State.{State, start, empty_queue, is_landed}
use Rattle.gate_types.specs.Admit.{without_ready}
use Rattle.gate_types.specs.Settle.{settle}
use Rattle.gate_types.specs.SubmitOrder.{is_submitting}
use Rattle.gate_types.specs.Step.{Stepped, accepted, refused, leave, has_project, is_known_and, raw_revision}
use Rattle.gate_types.specs.Step.{raw_step, step, settled_step, is_exhausted}
use Rattle.gate_types.specs.Lawful.{IsSound, IsLawful}
use Rattle.gate_types.specs.Forms.{is_change_number, is_revision_number, is_change_in_form, is_ready_in_form}
use Rattle.gate_types.specs.Forms.{is_plan_in_form, is_queue_in_form, is_build_in_form, are_settings_in_form}
use Rattle.gate_types.specs.Forms.{is_delivery_in_form, IsInForm}
use Rattle.gate_laws.specs.InForm.{StartIsInForm, StepIsInForm}
use Rattle.gate_laws.proofs.Members.{every, all, all_from, from_map, found}
use Rattle.gate_laws.proofs.OrderFacts.{shows}
use Rattle.gate_laws.proofs.AfterLanding.{is_after}
use Rattle.gate_laws.proofs.SettledIsAtRest.{settled_is_at_rest}
use Rattle.gate_laws.proofs.StartIsLawful.{start_at, start_at_lawful}
use Rattle.gate_laws.proofs.RunIsLawful.{raw_step_is_sound, step_is_lawful}
use Rattle.gate_laws.proofs.EachAccepted.{OnAccepted, on_accepted, on_test, known_is, new_revision, each_approved}
use Rattle.gate_laws.proofs.EachAccepted.{each_withdrawn, each_closed, each_landed, each_refused, each_take}
use Rattle.gate_laws.proofs.EachAccepted.{each_result}
use Rattle.gate_laws.proofs.Shapes.{Shaped, shaped_from, plan_to, ready_to, build_to, queue_to}
use Rattle.gate_laws.proofs.StateShapes.{WholeQueue, settle_shaped, leave_shaped, put_shaped, stage_shaped}
use Rattle.gate_laws.proofs.StateShapes.{unready_shaped, ready_shaped, shrunk_shaped, end_shaped}
use Rattle.gate_laws.proofs.RowShapes.{windows_of}
use Rattle.gate_laws.proofs.NeedForms.{needs_in_form}
use Rattle.gate_laws.proofs.Drawn.{item_drawn, report_drawn, landing_drawn, build_drawn}
use Rattle.gate_laws.proofs.Plans.{plan_drawn}
use Rattle.gate_laws.proofs.FewRows.{tops}
use Rattle.gate_laws.proofs.ChosenShape.{queue_set, take_shaped}
use Rattle.gate_laws.proofs.LandedShape.{after_shaped}
use Rattle.gate_types.specs.Limits.{most_window}
use Rattle.gate_types.specs.Rising.{In}
use Rattle.gate_types.specs.Limits.{most_needs}

-- ---- shape and lawfulness are form

pub form_of : (c : Settings) (s : State) → are_settings_in_form c ≡ true → IsLawful c s → Shaped c s → IsInForm c s
form_of c s f h k =
    let t = tops s h.not_exhausted in
    let order = t.order in
    let approval = t.approval in
    let build = t.build in
    record {
      changes = all (λ x. is_change_in_form x ≡ true) s.changes k.changes;
      ready = all (λ r. is_ready_in_form r ≡ true) s.ready (λ r m.
          let top = leb-true r.approval s.counters.approval
          (every (λ r. nat_le r.approval s.counters.approval ≡ true) s.ready h.sound.approvals_are_drawn r m) in
          ready_to r (omega (arith, top, approval)) (k.ready r m));
      queues = all (λ q. is_queue_in_form q ≡ true) s.queues (λ q m.
          queue_to q (queue_set c s h.sound f q m).1
          (λ i n. let top = item_drawn c s h.sound q m i n in omega (arith, top, order))
          (λ l n. let top = landing_drawn c s h.sound q m l n in omega (arith, top, order))
          (λ r n. let top = report_drawn c s h.sound q m r n in omega (arith, top, order))
          (k.queues q m));
      plans = all (λ p. is_plan_in_form p ≡ true) s.plans (λ p m. let top = plan_drawn c s h.sound p m in
          plan_to p (omega (arith, top, order)) (k.plans p m));
      builds = all (λ b. is_build_in_form c b ≡ true) s.builds (λ b m.
          let number = leb-true b.number s.counters.build
          (every (λ b. nat_le b.number s.counters.build ≡ true) s.builds h.sound.builds_are_drawn b m) in
          let serial = build_drawn c s h.sound b m in
          build_to c b (omega (arith, number, build)) (omega (arith, serial, order)) (k.builds b m));
      counters = and_from _ _ (and_from _ _ (le-leb s.counters.approval last_number approval)
          (le-leb s.counters.build last_number build)) (le-leb s.counters.order last_number order);
    }

-- ---- kind by kind, before settling

-- a change as a revision tells it
new_in_form : (c : Settings) (n : ℕ) (name : List ℕ) (r : ℕ) (message : List ℕ) →
    is_delivery_in_form (delivery.Revision n name r message) ≡ true →
    nat_lt most_needs (length (needs c.base message)) ≡ false →
    is_change_in_form (new_revision c n name r message) ≡ true
new_in_form c n name r message d few =
    let p4 = and_parts _ _ d in
    let p3 = and_parts _ _ p4.0 in
    let top = ltb-false most_needs (length (needs c.base message)) few in
    and_from (is_change_number n && is_path_name name && is_revision_number r && nat_le (length (needs c.base message))
    most_needs) (list_all is_change_number (needs c.base message))
    (and_from (is_change_number n && is_path_name name && is_revision_number r)
    (nat_le (length (needs c.base message)) most_needs) p3.0 (le-leb (length (needs c.base message)) most_needs top))
    (needs_in_form c.base message)

revision_shaped : (c : Settings) (s : State) (n : ℕ) (name : List ℕ) (r : ℕ) (message : List ℕ) →
    is_delivery_in_form (delivery.Revision n name r message) ≡ true → Shaped c s →
    OnAccepted (Shaped c) (raw_revision c s n name r message)
revision_shaped c s n name r message d h =
    on_test (Shaped c) (not (has_project c name)) _ _ (λ b. tt) (λ b.
    on_test (Shaped c) (is_known_and s n (λ k. not (same_name k.project name))) _ _ (λ a. tt) (λ a.
    on_test (Shaped c) (is_known_and s n (λ k. nat_le r k.revision || is_landed k)) _ _ (λ l. h) (λ l.
    on_test (Shaped c) (is_submitting c s n) _ _ (λ m. tt) (λ m.
    on_test (Shaped c) (nat_lt most_needs (length (needs c.base message))) _ _ (λ o. tt) (λ o.
    put_shaped c (without_ready n (leave verdict.Superseded n s)) (new_revision c n name r message)
    (new_in_form c n name r message d o)
    (unready_shaped c (leave verdict.Superseded n s) n (leave_shaped c s verdict.Superseded n (λ m. tt) h)))))))

each_shaped : (c : Settings) (s : State) → are_sound c ≡ true → are_settings_in_form c ≡ true → IsLawful c s →
    Shaped c s → (d : Delivery) → is_delivery_in_form d ≡ true → OnAccepted (Shaped c) (raw_step c s d)
each_shaped c s w f h k (delivery.Revision n name r message) d = revision_shaped c s n name r message d k
each_shaped c s w f h k (delivery.Approved n r) d =
    each_approved (Shaped c) c s n r k
    (λ o a b. ready_shaped c s n (and_parts (is_change_number n) (is_revision_number r) d).0 k)
each_shaped c s w f h k (delivery.Withdrawn n r) d =
    each_withdrawn (Shaped c) c s n r k (λ a. leave_shaped c s verdict.Withdrawn n (λ m. tt) k) (unready_shaped c s n k)
each_shaped c s w f h k (delivery.Closed n r) d = each_closed (Shaped c) c s n r k (λ x e a b.
    stage_shaped c (without_ready n (leave verdict.Closed n s)) stage.Closed n
    (subst (λ y. In y s.changes) (sym (known_is s n x e)) (found (λ y. y.number == n) s.changes x e).0)
    (unready_shaped c (leave verdict.Closed n s) n (leave_shaped c s verdict.Closed n (λ m. tt) k)))
each_shaped c s w f h k (delivery.Landed number) d = each_landed (Shaped c) c s number (λ o e.
    subst (Shaped c) (sym (is_after c (length o.queue.landings + 1) o s))
    (after_shaped c s o (record {
      settings = w;
      sound = h.sound;
      shows = shows c s number o e;
      needs = settled_is_at_rest.needs_before c s h.settled;
    }) k))
each_shaped c s w f h k (delivery.Refused number) d = each_refused (Shaped c) c s number (λ o e.
    shrunk_shaped c (leave verdict.Refused o.item.change s) o.queue.name w
    (leave_shaped c s verdict.Refused o.item.change (λ m. tt) k))
each_shaped c s w f h k (delivery.Take worker) d =
    each_take (Shaped c) c s (λ b e. take_shaped c s f h.sound (tops s h.not_exhausted) k b e)
each_shaped c s w f h k (delivery.Result n e) d = each_result (Shaped c) s n e k (λ a x y. end_shaped c s e n k)

-- ---- settled

settled_shaped : (c : Settings) → are_sound c ≡ true → are_settings_in_form c ≡ true → (x : Stepped) → OnAccepted (IsSound c) x →
    OnAccepted (Shaped c) x → OnAccepted (Shaped c) (settled_step c x)
settled_shaped c w f (accepted said t) h k =
    on_test (Shaped c) (is_exhausted (settle c t)) (refused refusal.Exhausted) (accepted said (settle c t)) (λ e. tt)
    (λ e. settle_shaped c t w f h k)
settled_shaped c w f (refused r) h k = tt

-- what is said of each accepted state is said of the one there is
pub to_accepted : (P : State → Type 0) (x : Stepped) → ((r : Reply) (t : State) → x ≡ accepted r t → P t) → OnAccepted P x
to_accepted P (accepted r t) h = h r t refl
to_accepted P (refused r) h = tt

pub step_is_in_form : StepIsInForm
step_is_in_form c s d r t w f h k v e =
    form_of c t f (step_is_lawful c s d r t w h e)
    (on_accepted (Shaped c) (step c s d)
    (settled_shaped c w f (raw_step c s d)
    (to_accepted (IsSound c) (raw_step c s d) (λ q u g. raw_step_is_sound c s d q u w h g))
    (each_shaped c s w f h (shaped_from c s k) d v)) r t e)

-- ---- the start

pub start_queue : (c : Settings) → are_sound c ≡ true → (q : QueueSetting) → In q c.queues → WholeQueue (empty_queue q)
start_queue c w q m =
    let sound = all_from is_sound_window c.queues (windows_of c w) q m in
    let p3 = and_parts _ _ (and_parts _ _ sound).0 in
    let p2 = and_parts _ _ p3.0 in
    let p1 = and_parts _ _ p2.0 in
    record {
      window = leb-true q.window most_window p1.0;
      room = omega arith;
      items = λ i n. absurd n;
      landings = λ l n. absurd n;
      reports = λ r n. absurd n;
    }

start_shaped : (c : Settings) (d : Drawn) → are_sound c ≡ true → Shaped c (start_at c d)
start_shaped c d w = record {
  changes = λ k m. absurd m;
  ready = λ r m. absurd m;
  queues = λ q m. let x = from_map empty_queue c.queues q m in subst WholeQueue x.2 (start_queue c w x.0 x.1);
  plans = λ p m. absurd m;
  builds = λ b m. absurd m;
}

pub start_at_in_form : (c : Settings) (d : Drawn) → are_sound c ≡ true → are_settings_in_form c ≡ true →
    is_exhausted (start_at c d) ≡ false → IsInForm c (start_at c d)
start_at_in_form c d w f e = form_of c (start_at c d) f (start_at_lawful c d e) (start_shaped c d w)

pub start_is_in_form : StartIsInForm
start_is_in_form c w f = start_at_in_form c (start c).counters w f refl
