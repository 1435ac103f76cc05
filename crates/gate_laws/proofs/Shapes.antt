-- What rows keep to whatever the counters are, as a proof reads it: form without the tops of what is drawn.
use Rattle.std.proofs.Common.{◌≡◌, ℕ, ◌≤◌, true, false, ◌&&◌, Option, Some, None, List, [], length, refl}
use Rattle.std.specs.Prelude.{nat_le, ◌==◌, find, unwrap_or}
use Rattle.std.specs.List.{list_all}
use Rattle.std.proofs.lemmas.Bool.{and_parts, and_from, leb-true, le-leb}
use Rattle.gate_types.specs.declared.records.Build.{Build}
use Rattle.gate_types.specs.declared.records.Change.{Change}
use Rattle.gate_types.specs.declared.records.Entry.{Entry}
use Rattle.gate_types.specs.declared.records.Landing.{Landing}
use Rattle.gate_types.specs.declared.records.Plan.{Plan}
use Rattle.gate_types.specs.declared.records.Report.{Report}
use Rattle.gate_types.specs.declared.records.Verdict.{Verdict}
use Rattle.gate_types.specs.declared.records.Verdict.TheVariants as verdict
use Rattle.gate_types.specs.Names.{is_name}
use Rattle.gate_types.specs.Settings.{Settings, has_queue}
use Rattle.gate_types.specs.declared.records.Ready.{Ready}
use Rattle.gate_types.specs.State.{Item, Queue, State, plan_of}
use Rattle.gate_types.specs.Forms.{is_up_to, is_change_number, is_revision_number, is_drawn_number, is_entry_in_form}
use Rattle.gate_types.specs.Forms.{is_change_in_form, is_ready_in_form, is_item_in_form, is_landing_in_form}
use Rattle.gate_types.specs.Forms.{is_plan_in_form, is_verdict_in_form, is_report_in_form, is_queue_in_form}
use Rattle.gate_types.specs.Forms.{is_build_in_form, IsInForm}
use Rattle.gate_laws.proofs.Members.{every, all_from, all_to, found}
use Rattle.gate_types.specs.Counters.{last_number}
use Rattle.gate_types.specs.Limits.{most_items, most_window}
use Rattle.gate_types.specs.Rising.{In}

-- ---- what is said of rows

-- a serial with a change and its revision: an item's, a landing's, a report's, a build's
abbrev pub Numbered : ℕ → ℕ → ℕ → Type 0
Numbered serial change revision = (1 ≤ serial) × (is_change_number change ≡ true) × (is_revision_number revision ≡ true)

abbrev pub NumberedItem : Item → Type 0
NumberedItem i = Numbered i.serial i.change i.revision

abbrev pub NumberedLanding : Landing → Type 0
NumberedLanding l = Numbered l.serial l.change l.revision

-- a verdict that tells of one of the first m landings, or of none
abbrev pub TellsOf : ℕ → Verdict → Type 0
TellsOf m (verdict.Landed n) = (1 ≤ n) × (n ≤ m)
TellsOf m _ = Unit {0}

-- a report
abbrev pub ReportShape : ℕ → Report → Type 0
ReportShape m r = Numbered r.serial r.change r.revision × TellsOf m r.verdict

-- a queue whose reports tell of its first m landings
pub record QueueShape (m : ℕ) (q : Queue) : Type 0 where
  pub window : q.window ≤ most_window
  pub room : length q.items ≤ most_items
  pub items : (i : Item) → In i q.items → NumberedItem i
  pub landings : (l : Landing) → In l q.landings → NumberedLanding l
  pub reports : (r : Report) → In r q.reports → ReportShape m r

-- a build, but for its outcome and whether it is live
pub record Began (c : Settings) (number : ℕ) (queue job : List ℕ) (after : ℕ) (ahead : List Entry) : Type 0 where
  pub counted : 1 ≤ number
  pub in_queue : has_queue c.queues queue ≡ true
  pub queue_name : is_name queue ≡ true
  pub job_name : is_name job ≡ true
  pub base : after ≤ last_number
  pub few : length ahead ≤ most_items
  pub entries : list_all is_entry_in_form ahead ≡ true

abbrev pub BuildShape : Settings → Build → Type 0
BuildShape c b = Began c b.number b.queue b.job b.after b.ahead × Numbered b.serial b.change b.revision

-- a plan
abbrev pub PlanShape : Plan → Type 0
PlanShape p = (1 ≤ p.serial) × (list_all (λ j. is_name j.name) p.jobs ≡ true)

-- a ready change
abbrev pub ReadyShape : Ready → Type 0
ReadyShape r = (1 ≤ r.approval) × (is_change_number r.change ≡ true)

-- a whole state
pub record Shaped (c : Settings) (s : State) : Type 0 where
  pub changes : (k : Change) → In k s.changes → is_change_in_form k ≡ true
  pub ready : (r : Ready) → In r s.ready → ReadyShape r
  pub queues : (q : Queue) → In q s.queues → QueueShape (length q.landings) q
  pub plans : (p : Plan) → In p s.plans → PlanShape p
  pub builds : (b : Build) → In b s.builds → BuildShape c b

-- ---- from the form

pub least : (top n : ℕ) → is_up_to top n ≡ true → 1 ≤ n
least top n h = leb-true 1 n (and_parts (nat_le 1 n) (nat_le n top) h).0

pub most : (top n : ℕ) → is_up_to top n ≡ true → n ≤ top
most top n h = leb-true n top (and_parts (nat_le 1 n) (nat_le n top) h).1

pub up_to : (top n : ℕ) → 1 ≤ n → n ≤ top → is_up_to top n ≡ true
up_to top n l m = and_from (nat_le 1 n) (nat_le n top) (le-leb 1 n l) (le-leb n top m)

numbered_from : (serial change revision : ℕ) → is_drawn_number serial && is_change_number change &&
    is_revision_number revision ≡ true → Numbered serial change revision
numbered_from serial change revision h =
    let last = and_parts (is_drawn_number serial && is_change_number change) (is_revision_number revision) h in
    let first = and_parts (is_drawn_number serial) (is_change_number change) last.0 in
    (least last_number serial first.0, first.1, last.1)

numbered_to : (serial change revision : ℕ) → serial ≤ last_number → Numbered serial change revision →
    is_drawn_number serial && is_change_number change && is_revision_number revision ≡ true
numbered_to serial change revision m n =
    and_from (is_drawn_number serial && is_change_number change) (is_revision_number revision)
    (and_from (is_drawn_number serial) (is_change_number change) (up_to last_number serial n.0 m) n.1) n.2

tells_from : (m : ℕ) (v : Verdict) → is_verdict_in_form m v ≡ true → TellsOf m v
tells_from m (verdict.Landed n) h = (least m n h, most m n h)
tells_from m verdict.Failed h = tt
tells_from m verdict.Refused h = tt
tells_from m verdict.Needs h = tt
tells_from m verdict.Superseded h = tt
tells_from m verdict.Withdrawn h = tt
tells_from m verdict.Closed h = tt

tells_to : (m : ℕ) (v : Verdict) → TellsOf m v → is_verdict_in_form m v ≡ true
tells_to m (verdict.Landed n) h = up_to m n h.0 h.1
tells_to m verdict.Failed h = refl
tells_to m verdict.Refused h = refl
tells_to m verdict.Needs h = refl
tells_to m verdict.Superseded h = refl
tells_to m verdict.Withdrawn h = refl
tells_to m verdict.Closed h = refl

report_from : (m : ℕ) (r : Report) → is_report_in_form m r ≡ true → ReportShape m r
report_from m r h =
    let both = and_parts (is_drawn_number r.serial && is_change_number r.change && is_revision_number r.revision)
    (is_verdict_in_form m r.verdict) h in
    (numbered_from r.serial r.change r.revision both.0, tells_from m r.verdict both.1)

queue_from : (q : Queue) → is_queue_in_form q ≡ true → QueueShape (length q.landings) q
queue_from q h =
    let e = and_parts _ _ h in
    let d = and_parts _ _ e.0 in
    let c = and_parts _ _ d.0 in
    let b = and_parts _ _ c.0 in
    let a = and_parts _ _ b.0 in
    record {
      window = leb-true q.window most_window a.1;
      room = leb-true (length q.items) most_items b.1;
      items = λ i m. numbered_from i.serial i.change i.revision (all_from is_item_in_form q.items c.1 i m);
      landings = λ l m. numbered_from l.serial l.change l.revision (all_from is_landing_in_form q.landings d.1 l m);
      reports = λ r m. report_from (length q.landings) r
          (all_from (is_report_in_form (length q.landings)) q.reports e.1 r m);
    }

pub build_from : (c : Settings) (b : Build) → is_build_in_form c b ≡ true → BuildShape c b
build_from c b h =
    let p7 = and_parts _ _ h in
    let p6 = and_parts _ _ p7.0 in
    let p5 = and_parts _ _ p6.0 in
    let p4 = and_parts _ _ p5.0 in
    let p3 = and_parts _ _ p4.0 in
    let p2 = and_parts _ _ p3.0 in
    let p1 = and_parts _ _ p2.0 in (
      record {
        counted = least last_number b.number p1.0;
        in_queue = p1.1;
        queue_name = p2.1;
        job_name = p3.1;
        base = leb-true b.after last_number p5.1;
        few = leb-true (length b.ahead) most_items p6.1;
        entries = p7.1;
      },
      numbered_from b.serial b.change b.revision p4.1,
    )

ready_from : (r : Ready) → is_ready_in_form r ≡ true → ReadyShape r
ready_from r h =
    let both = and_parts (is_drawn_number r.approval) (is_change_number r.change) h in
    (least last_number r.approval both.0, both.1)

plan_from : (p : Plan) → is_plan_in_form p ≡ true → PlanShape p
plan_from p h =
    let both = and_parts (is_drawn_number p.serial) (list_all (λ j. is_name j.name) p.jobs) h in
    (least last_number p.serial both.0, both.1)

pub shaped_from : (c : Settings) (s : State) → IsInForm c s → Shaped c s
shaped_from c s h = record {
  changes = every (λ k. is_change_in_form k ≡ true) s.changes h.changes;
  ready = λ r m. ready_from r (every (λ r. is_ready_in_form r ≡ true) s.ready h.ready r m);
  queues = λ q m. queue_from q (every (λ q. is_queue_in_form q ≡ true) s.queues h.queues q m);
  plans = λ p m. plan_from p (every (λ p. is_plan_in_form p ≡ true) s.plans h.plans p m);
  builds = λ b m. build_from c b (every (λ b. is_build_in_form c b ≡ true) s.builds h.builds b m);
}

-- the jobs under any serial are named
pub plan_named : (c : Settings) (s : State) → Shaped c s → (n : ℕ) →
    list_all (λ j. is_name j.name) (plan_of s n).jobs ≡ true
plan_named c s h n = by_plan (find (λ p. p.serial == n) s.plans) refl
  where
    by_plan : (o : Option Plan) → find (λ p. p.serial == n) s.plans ≡ o →
        list_all (λ j. is_name j.name) (unwrap_or o (record { serial = n; jobs = []; fast = false })).jobs ≡ true
    by_plan None e = refl
    by_plan (Some p) e = (h.plans p (found (λ p. p.serial == n) s.plans p e).0).1

-- ---- to the form, by the tops

pub item_to : (i : Item) → i.serial ≤ last_number → NumberedItem i → is_item_in_form i ≡ true
item_to i m n = numbered_to i.serial i.change i.revision m n

pub landing_to : (l : Landing) → l.serial ≤ last_number → NumberedLanding l → is_landing_in_form l ≡ true
landing_to l m n = numbered_to l.serial l.change l.revision m n

pub report_to : (m : ℕ) (r : Report) → r.serial ≤ last_number → ReportShape m r → is_report_in_form m r ≡ true
report_to m r t h =
    and_from (is_drawn_number r.serial && is_change_number r.change && is_revision_number r.revision)
    (is_verdict_in_form m r.verdict)
    (numbered_to r.serial r.change r.revision t h.0) (tells_to m r.verdict h.1)

pub plan_to : (p : Plan) → p.serial ≤ last_number → PlanShape p → is_plan_in_form p ≡ true
plan_to p t h = and_from (is_drawn_number p.serial) (list_all (λ j. is_name j.name) p.jobs)
    (up_to last_number p.serial h.0 t) h.1

pub ready_to : (r : Ready) → r.approval ≤ last_number → ReadyShape r → is_ready_in_form r ≡ true
ready_to r t h = and_from (is_drawn_number r.approval) (is_change_number r.change)
    (up_to last_number r.approval h.0 t) h.1

pub build_to : (c : Settings) (b : Build) → b.number ≤ last_number → b.serial ≤ last_number → BuildShape c b →
    is_build_in_form c b ≡ true
build_to c b n t h =
    and_from _ _ (and_from _ _ (and_from _ _ (and_from _ _ (and_from _ _ (and_from _ _ (and_from _ _
    (up_to last_number b.number h.0.counted n) h.0.in_queue) h.0.queue_name) h.0.job_name)
    (numbered_to b.serial b.change b.revision t h.1)) (le-leb b.after last_number h.0.base))
    (le-leb (length b.ahead) most_items h.0.few)) h.0.entries

-- a queue, by the tops of its serials
pub queue_to : (q : Queue) → is_name q.name ≡ true → ((i : Item) → In i q.items → i.serial ≤ last_number) →
    ((l : Landing) → In l q.landings → l.serial ≤ last_number) →
    ((r : Report) → In r q.reports → r.serial ≤ last_number) → QueueShape (length q.landings) q →
    is_queue_in_form q ≡ true
queue_to q name ti tl tr h =
    and_from _ _ (and_from _ _
    (and_from _ _ (and_from _ _ (and_from _ _ name (le-leb q.window most_window h.window))
    (le-leb (length q.items) most_items h.room))
    (all_to is_item_in_form q.items (λ i m. item_to i (ti i m) (h.items i m))))
    (all_to is_landing_in_form q.landings (λ l m. landing_to l (tl l m) (h.landings l m))))
    (all_to (is_report_in_form (length q.landings)) q.reports
    (λ r m. report_to (length q.landings) r (tr r m) (h.reports r m)))
