-- A landing keeps the shape of a state: its report tells the place of the landing that is put last.
use Rattle.std.proofs.Common.{◌≡◌, ℕ, ◌+◌, true, false, not, ◌&&◌, List, [], ◌∷◌, ◌++◌, length, refl, subst, inl, inr}
use Rattle.std.proofs.Common.{arith}
use Rattle.gate_types.specs.declared.records.Landing.{Landing}
use Rattle.gate_types.specs.declared.records.Plan.{Plan}
use Rattle.gate_types.specs.declared.records.Verdict.TheVariants as verdict
use Rattle.gate_types.specs.Names.{same_name}
use Rattle.gate_types.specs.Settings.{Settings}
use Rattle.gate_types.specs.State.{Queue, State, change_of}
use Rattle.gate_types.specs.Slot.{is_running}
use Rattle.gate_types.specs.Rebase.{with_live}
use Rattle.gate_types.specs.SubmitOrder.{Order}
use Rattle.gate_types.specs.Step.{left_queue, landed_plan}
use Rattle.gate_types.specs.Sweep.{without_plans}
use Rattle.gate_types.specs.Forms.{is_change_in_form}
use Rattle.gate_types.specs.Keys.{serial_of_plan}
use Rattle.gate_types.specs.Rising.{In}
use Rattle.gate_laws.proofs.Members.{from_filter}
use Rattle.gate_laws.proofs.Rising.{from_put}
use Rattle.gate_laws.proofs.LeaveIsSound.{leaving}
use Rattle.gate_laws.proofs.RecordedChange.{open_known}
use Rattle.gate_laws.proofs.AfterLanding.{landed_change, landed_here, queue_after, after_landing, Submitted, item_in}
use Rattle.gate_laws.proofs.AfterLanding.{order_open, gone_none, by_queue}
use Rattle.gate_laws.proofs.Shapes.{PlanShape, Shaped, plan_named}
use Rattle.gate_laws.proofs.RowShapes.{builds_shaped, shape_more, left_shape, landed_shape}
use Rattle.gate_laws.proofs.StateShapes.{WholeQueue, queues_shaped}

pub landings_long : (ls : List Landing) (l : Landing) → length (ls ++ l ∷ []) ≡ length ls + 1
landings_long [] l = refl
landings_long (k ∷ ks) l = let e = landings_long ks l in omega (arith, e)

-- the order's queue
here_shape : (c : Settings) (s : State) (o : Order) → Submitted c s o → Shaped c s →
    WholeQueue (landed_here c (length o.queue.landings + 1) o o.queue)
here_shape c s o k h =
    let n = length o.queue.landings + 1 in
    let q = h.queues o.queue k.shows.queue_in in
    let i = o.item in
    let long = landings_long o.queue.landings (record { serial = i.serial; change = i.change; revision = i.revision })
    in
    shape_more n (length (o.queue.landings ++ record {
      serial = i.serial;
      change = i.change;
      revision = i.revision;
    } ∷ [])) (omega (arith, long)) (landed_here c n o o.queue)
    (landed_shape c n i (left_queue (verdict.Landed n) i.change o.queue) (q.items i (item_in c s o k))
    (left_shape (verdict.Landed n) i.change n o.queue (λ j m. (omega arith, omega arith))
    (shape_more (length o.queue.landings) n (omega arith) o.queue q)))

-- any other queue loses no item
there_shape : (c : Settings) (s : State) (o : Order) (n : ℕ) → Submitted c s o → Shaped c s → (r : Queue) →
    In r s.queues → same_name r.name o.queue.name ≡ false → WholeQueue (left_queue (verdict.Landed n) o.item.change r)
there_shape c s o n k h r m e =
    left_shape (verdict.Landed n) o.item.change (length r.landings) r
    (λ j g. absurd (subst (In j) (gone_none c s o k r m e) g)) (h.queues r m)

pub after_shaped : (c : Settings) (s : State) (o : Order) → Submitted c s o → Shaped c s →
    Shaped c (after_landing c (length o.queue.landings + 1) o s)
after_shaped c s o k h =
    let n = length o.queue.landings + 1 in
    record {
      changes = λ x m. elim (from_put (λ j. j.number) (landed_change s o.item.change) s.changes x m) [
        | inl e ↦ subst (λ y. is_change_in_form y ≡ true) e
            (h.changes (change_of s o.item.change) (open_known s o.item.change (order_open c s o k)).1)
        | inr i ↦ h.changes x i
      ];
      ready = h.ready;
      queues = queues_shaped (queue_after c n o) s.queues (λ q m. by_queue c s o n k WholeQueue (here_shape c s o k h)
          (there_shape c s o n k h) q m);
      plans = λ p m. elim (from_put serial_of_plan (landed_plan s o.item.serial)
          (without_plans (leaving o.item.change s) s.plans) p m) [
            | inl e ↦ subst PlanShape e
                (((h.queues o.queue k.shows.queue_in).items o.item (item_in c s o k)).0, plan_named c s h o.item.serial)
            | inr i ↦ h.plans p (from_filter (λ (x : Plan). not (leaving o.item.change s x.serial)) s.plans p i).0
          ];
      builds = builds_shaped c
          (λ b. with_live (b.live && not (is_running b.outcome && leaving o.item.change s b.serial)) b)
          (λ b x. x) s.builds h.builds;
    }
