-- A lawful state is lawful under settings that it adopts: it is at rest as it was, and its orders stay shown.
use Rattle.std.proofs.Common.{◌≡◌, ℕ, ◌≤◌, Bool, true, false, not, ◌&&◌, ◌||◌, None, [], is_some, length, refl, sym}
use Rattle.std.proofs.Common.{ap, ◌∙◌, subst, inl, inr, true≢false}
use Rattle.std.specs.Prelude.{◌==◌, nat_lt, nat_le, find}
use Rattle.std.specs.List.{list_any, AllPass}
use Rattle.std.proofs.lemmas.Bool.{and_parts, not-true, false_from_ne_true, leb-true}
use Rattle.std.proofs.lemmas.List.Elements.{All-nil}
use Rattle.gate_types.specs.declared.config.Queue.{Queue as QueueSetting}
use Rattle.gate_types.specs.declared.records.Build.{Build}
use Rattle.gate_types.specs.declared.records.Ready.{Ready}
use Rattle.gate_types.specs.Names.{same_name}
use Rattle.gate_types.specs.Settings.{Settings, are_sound, is_sound_window, is_sound_rule}
use Rattle.gate_types.specs.State.{Queue, State, empty_queue, change_of, is_open, project_of}
use Rattle.gate_types.specs.Line.{Place}
use Rattle.gate_types.specs.Slot.{is_wanted, are_met_by}
use Rattle.gate_types.specs.Standing.{needs_of, places, all_places}
use Rattle.gate_types.specs.Rebase.{stays_live}
use Rattle.gate_types.specs.Sweep.{Judged, judged}
use Rattle.gate_types.specs.Admit.{may_enter}
use Rattle.gate_types.specs.SubmitOrder.{Order, order_of, orders}
use Rattle.gate_types.specs.Adopt.{may_adopt, adopted}
use Rattle.gate_types.specs.Lawful.{IsLawful}
use Rattle.gate_types.proofs.PlainLemmas.{same_truth}
use Rattle.gate_types.proofs.NameLemmas.{same_name_is}
use Rattle.gate_laws.specs.Rest.{IsAtRest}
use Rattle.gate_laws.specs.Adoption.{AdoptedIsLawful, AdoptedContentIsLawful, AdoptedOrdersStay}
use Rattle.gate_laws.proofs.Members.{every, all, any_from, any_to, all_from, not_found, contains_in, in_contains}
use Rattle.gate_laws.proofs.Members.{from_filter_map}
use Rattle.gate_laws.proofs.Alone.{same_name_of}
use Rattle.gate_laws.proofs.SettledIsAtRest.{settled_is_at_rest, rest_is_settled}
use Rattle.gate_laws.proofs.ShownOrders.{order_shown, has_order}
use Rattle.gate_laws.proofs.Leads.{order_leads, leads_order}
use Rattle.gate_laws.proofs.WindowIsSound.{with_window}
use Rattle.gate_laws.proofs.RowShapes.{window_shape, windows_of}
use Rattle.gate_laws.proofs.Shapes.{Shaped, shaped_from}
use Rattle.gate_laws.proofs.StateShapes.{WholeQueue}
use Rattle.gate_laws.proofs.StepIsInForm.{form_of, start_queue}
use Rattle.gate_laws.proofs.Adopting.{Adopts, Resizes, each_queue, still_queue, flat_before, flat_after, queue_kept}
use Rattle.gate_laws.proofs.Adopting.{queue_there, set_kept}
use Rattle.gate_laws.proofs.AdoptedIsSound.{adopted_sound}
use Rattle.gate_types.specs.Limits.{most_items, most_window}
use Rattle.gate_types.specs.Rising.{In}

-- ---- at rest

-- a test that some place passes
any_place : (c d : Settings) (s : State) → Adopts c d s → (test : Place → Bool) →
    list_any test (all_places d (adopted c d s)) ≡ list_any test (all_places c s)
any_place c d s a test =
    same_truth (list_any test (all_places d (adopted c d s))) (list_any test (all_places c s))
    (λ e. let p = any_from test (all_places d (adopted c d s)) e in
    any_to test (all_places c s) p.0
    (flat_before c d s (places d (adopted c d s)) (places c s) (λ q w. refl) (λ r. refl) p.0 p.1) p.2)
    (λ e. let p = any_from test (all_places c s) e in
    any_to test (all_places d (adopted c d s)) p.0
    (flat_after c d s a (places d (adopted c d s)) (places c s) (λ q w. refl) p.0 p.1) p.2)

live_same : (c d : Settings) (s : State) → Adopts c d s → (b : Build) →
    stays_live s.builds (all_places d (adopted c d s)) b ≡ stays_live s.builds (all_places c s) b
live_same c d s a b =
    λ k. not (any_place c d s a (λ p. p.item.serial == b.serial) k) || any_place c d s a (λ p. is_wanted s.builds p b) k

-- nobody may enter who might not before
still_out : (c d : Settings) (s : State) → Adopts c d s → (r : Ready) → In r s.ready → may_enter c s r ≡ false →
    may_enter d (adopted c d s) r ≡ false
still_out c d s a r m out = false_from_ne_true (may_enter d t r) (λ e.
    let x = any_from (enters d t) t.queues e in
    each_queue c d s (λ q. enters d t q ≡ true → ⊥) old new x.0 x.1 x.2)
  where
    t : State
    t = adopted c d s

    enters : Settings → State → Queue → Bool
    enters e u q = same_name q.name (project_of e u r.change).queue && nat_lt (length q.items) most_items && are_met_by q.items
        (needs_of u r.change)

    is_open_now : is_open (change_of s r.change) ≡ true
    is_open_now = every (λ x. is_open (change_of s x.change) ≡ true) s.ready a.sound.ready_are_open r m

    same : (project_of d s r.change).queue ≡ (project_of c s r.change).queue
    same = queue_kept c d s a r.change is_open_now

    old : (q : Queue) → In q s.queues → (w : ℕ) → Resizes d w q → enters d t (with_window w q) ≡ true → ⊥
    old q mq w z e =
        true≢false (sym (any_to (enters c s) s.queues q mq
        (ap (λ n. same_name q.name n && nat_lt (length q.items) most_items && are_met_by q.items (needs_of s r.change))
        (sym same) ∙ e)) ∙ out)

    new : (y : QueueSetting) → In y d.queues → find (λ q. same_name q.name y.name) s.queues ≡ None →
        enters d t (empty_queue y) ≡ true → ⊥
    new y my none e =
        let named = (and_parts (same_name y.name (project_of d s r.change).queue) (nat_lt 0 most_items)
        (and_parts (same_name y.name (project_of d s r.change).queue && nat_lt 0 most_items)
        (are_met_by [] (needs_of s r.change)) e).0).0 in
        let q = queue_there c d s a r.change is_open_now in
        true≢false (sym (same_name_of q.0.name y.name (q.2 ∙ sym same
        ∙ sym (same_name_is y.name (project_of d s r.change).queue named)))
        ∙ not_found (λ q. same_name q.name y.name) s.queues none q.0 q.1)

rest_adopted : (c d : Settings) (s : State) → Adopts c d s → IsAtRest c s → IsAtRest d (adopted c d s)
rest_adopted c d s a h =
    let t = adopted c d s in
    record {
      live_stay = all (λ b. not b.live || stays_live s.builds (all_places d t) b ≡ true) s.builds (λ b m.
          ap (λ l. not b.live || l) (live_same c d s a b)
          ∙ every (λ b. not b.live || stays_live s.builds (all_places c s) b ≡ true) s.builds h.live_stay b m);
      nobody_goes = all (λ q. AllPass (λ j. not (is_some j.verdict)) (judged d t q)) t.queues
          (each_queue c d s (λ q. AllPass (λ j. not (is_some j.verdict)) (judged d t q))
          (λ q m w r. every (λ q. AllPass (λ j. not (is_some j.verdict)) (judged c s q)) s.queues h.nobody_goes q m)
          (λ r m n. All-nil (λ (j : Judged). not (is_some j.verdict) ≡ true)));
      nobody_enters = all (λ r. not (may_enter d t r) ≡ true) s.ready (λ r m.
          ap not (still_out c d s a r m (not-true (may_enter c s r)
          (every (λ r. not (may_enter c s r) ≡ true) s.ready h.nobody_enters r m))));
    }

pub adopted_lawful : (c d : Settings) (s : State) → are_sound c ≡ true → are_sound d ≡ true → may_adopt c d ≡ true →
    IsLawful c s → IsLawful d (adopted c d s)
adopted_lawful c d s before after may h =
    let a : Adopts c d s = record { before = before; after = after; may = may; sound = h.sound } in
    record {
      sound = adopted_sound c d s a;
      settled = rest_is_settled d (adopted c d s)
          (rest_adopted c d s a (settled_is_at_rest.at_rest c s h.settled));
      not_exhausted = h.not_exhausted;
    }

pub adopted_is_lawful : AdoptedIsLawful
adopted_is_lawful = adopted_lawful

-- ---- of its form

shaped_adopted : (c d : Settings) (s : State) → Adopts c d s → Shaped c s → Shaped d (adopted c d s)
shaped_adopted c d s a h = record {
  changes = h.changes;
  ready = h.ready;
  queues = each_queue c d s WholeQueue
      (λ q m w r. window_shape (length q.landings) w q (small q w (h.queues q m).window r) (h.queues q m))
      (λ r m n. start_queue d a.after r m);
  plans = h.plans;
  builds = λ b m. let x = h.builds b m in (
    record {
      counted = x.0.counted;
      in_queue = set_kept c d s a b.queue x.0.in_queue;
      queue_name = x.0.queue_name;
      job_name = x.0.job_name;
      base = x.0.base;
      few = x.0.few;
      entries = x.0.entries;
    },
    x.1,
  );
}
  where
    small : (q : Queue) (w : ℕ) → q.window ≤ most_window → Resizes d w q → w ≤ most_window
    small q w l z = elim z [
      | inl e ↦ subst (λ n. n ≤ most_window) (sym e) l
      | inr r ↦ (
          let sound = all_from is_sound_window d.queues (windows_of d a.after) r.0 r.1 in
          let whole = and_parts (nat_le r.0.window most_window && nat_le 1 r.0.floor && nat_le r.0.floor most_window &&
          (r.0.window == 0 || nat_le r.0.floor r.0.window)) (is_sound_rule r.0.rule) sound in
          let x = and_parts (nat_le r.0.window most_window && nat_le 1 r.0.floor && nat_le r.0.floor most_window)
          (r.0.window == 0 || nat_le r.0.floor r.0.window) whole.0 in
          let y = and_parts (nat_le r.0.window most_window && nat_le 1 r.0.floor) (nat_le r.0.floor most_window) x.0 in
          let z = and_parts (nat_le r.0.window most_window) (nat_le 1 r.0.floor) y.0 in
          subst (λ n. n ≤ most_window) (sym r.2) (leb-true r.0.window most_window z.0))
    ]

pub adopted_content_is_lawful : AdoptedContentIsLawful
adopted_content_is_lawful c d x before after f may h =
    let lawful = adopted_lawful c d x.state before after may h.lawful in
    let a : Adopts c d x.state = record { before = before; after = after; may = may; sound = h.lawful.sound } in
    record {
      lawful = lawful;
      in_form = record {
        state = form_of d (adopted c d x.state) f lawful
            (shaped_adopted c d x.state a (shaped_from c x.state h.in_form.state));
        kept = h.in_form.kept;
        ids_differ = h.in_form.ids_differ;
      };
    }

-- ---- orders

pub adopted_orders_stay : AdoptedOrdersStay
adopted_orders_stay c d s o before after may h shown =
    let t = adopted c d s in
    let a : Adopts c d s = record { before = before; after = after; may = may; sound = h.sound } in
    let from = from_filter_map (order_of c s) s.queues o (contains_in (orders c s) o shown) in
    let q = from.0 in
    let w = still_queue c d s a q from.1 in
    let order : Order = record { queue = with_window w.0 q; item = o.item } in
    record {
      order = order;
      shown = in_contains (orders d t) order (has_order d t t.queues (with_window w.0 q) w.1 order
          (leads_order d t (with_window w.0 q) o.item (order_leads c s q o from.2)));
      queue = ap (λ (x : Queue). x.name) (order_shown c s q o from.2).queue;
      item = refl;
    }
