-- What is known of the place of a row.
use Rattle.std.proofs.Common.{◌≡◌, ℕ, ◌+◌, Bool, true, false, not, ◌&&◌, ◌||◌, Option, Some, None, List, [], ◌∷◌, map}
use Rattle.std.proofs.Common.{refl, sym, ap, ◌∙◌, subst}
use Rattle.std.specs.Prelude.{◌==◌, filter, find, length, nat_lt, option_map, slice_get, unwrap_or}
use Rattle.std.specs.Option.{option_map_or}
use Rattle.std.specs.List.{list_any, list_all}
use Rattle.gate_types.specs.declared.config.Job.{Job}
use Rattle.gate_types.specs.declared.records.Change.{Change}
use Rattle.gate_types.specs.declared.records.Entry.{Entry}
use Rattle.gate_types.specs.declared.records.Item.{Item as ItemRow}
use Rattle.gate_types.specs.declared.records.Need.{Need}
use Rattle.gate_types.specs.declared.records.Plan.{Plan}
use Rattle.gate_types.specs.declared.records.Stage.TheVariants as stage
use Rattle.gate_types.specs.Settings.{Settings}
use Rattle.gate_types.specs.State.{Item, Queue, State, known_change, plan_of, has_change, known_or_closed, need_of}
use Rattle.gate_types.specs.Line.{Place, item_entry, landings_below}
use Rattle.gate_types.specs.Slot.{are_met_by, is_blocked, is_cut, is_waiting_slot}
use Rattle.gate_types.specs.Standing.{needs_of, places, all_places}
use Rattle.gate_types.specs.Choice.{build_for, builds_for}
use Rattle.gate_types.specs.Rows.{row_of}
use Rattle.gate_types.specs.Lawful.{IsLawful}
use Rattle.gate_types.specs.Names.{same_name}
use Rattle.gate_types.specs.Rising.{In}
use Rattle.gate_types.proofs.NameLemmas.{same_name_is}
use Rattle.gate_laws.proofs.Members.{contains_in, found, from_flat, to_flat}
use Rattle.gate_laws.proofs.Places.{item_of_place}
use Rattle.gate_book_trait.specs.Reads.{queue_named, landings_in, landings_before, live_builds}
use Rattle.gate_reads.specs.NextBuild.{under_number}
use Rattle.gate_queue_rules.specs.Outcomes.{slot_among}
use Rattle.gate_reads.specs.Parts.{IsTold}
use Rattle.gate_reads.specs.Places.{IsBehind, are_met_among, build_on}
use Rattle.gate_reads.specs.declared.due.BookItem.{BookItem}
use Rattle.gate_reads.proofs.OwnBuilds.{all_count, blocked_none, cut_none, cut_is, first_due}

-- ---- a place of a queue

pub record PlaceFacts (c : Settings) (s : State) (q : Queue) (p : Place) : Type 0 where
  pub item : In p.item q.items
  pub landings : p.landings ≡ q.landings
  pub needs : p.needs ≡ needs_of s p.item.change
  pub jobs : p.jobs ≡ (plan_of s p.item.serial).jobs
  pub fast : p.fast ≡ (plan_of s p.item.serial).fast

pub place_facts : (c : Settings) (s : State) (q : Queue) (p : Place) → In p (places c s q) → PlaceFacts c s q p
place_facts c s q p m =
    let x = item_of_place c s q p m in
    subst (PlaceFacts c s q) x.3 (record { item = x.2; landings = refl; needs = refl; jobs = refl; fast = refl })

pub there_too : (c : Settings) (s : State) (name : List ℕ) (q : Queue) (p : Place) → queue_named s name ≡ Some q →
    In p (places c s q) → In p (all_places c s)
there_too c s name q p e m = to_flat (places c s) s.queues q p (found (λ r. same_name r.name name) s.queues q e).0 m

pub named_is : (s : State) (name : List ℕ) (q : Queue) → queue_named s name ≡ Some q → q.name ≡ name
named_is s name q e = same_name_is q.name name (found (λ r. same_name r.name name) s.queues q e).1

-- ---- what is known of its change

needs_are : (s : State) (n : ℕ) (known : Option Change) → known ≡ known_change s n →
    map (need_of s) (known_or_closed known).needs ≡ needs_of s n
needs_are s n known e =
    ap (λ (o : Option Change). map (need_of s) (known_or_closed o).needs) e
    ∙ ap (map (need_of s)) (by_known (known_change s n))
  where
    by_known : (o : Option Change) → (known_or_closed o).needs
        ≡ (unwrap_or o (record { number = n; project = []; revision = 0; stage = stage.Closed; needs = [] })).needs
    by_known None = refl
    by_known (Some k) = refl

-- its jobs, by the plan under its serial
pub jobs_at : (c : Settings) (s : State) (p : Place) (row : ItemRow) (plan : Plan) → In p (all_places c s) →
    row ≡ row_of s.builds p → plan ≡ plan_of s row.serial → plan.jobs ≡ p.jobs
jobs_at c s p row plan m r e =
    let x = from_flat (places c s) s.queues p m in
    ap (λ (y : Plan). y.jobs) e ∙ ap (λ (i : ItemRow). (plan_of s i.serial).jobs) r
    ∙ sym (place_facts c s x.0 p x.2).jobs

-- and whether it is to fail fast
pub fast_at : (c : Settings) (s : State) (p : Place) (row : ItemRow) (plan : Plan) → In p (all_places c s) →
    row ≡ row_of s.builds p → plan ≡ plan_of s row.serial → plan.fast ≡ p.fast
fast_at c s p row plan m r e =
    let x = from_flat (places c s) s.queues p m in
    ap (λ (y : Plan). y.fast) e ∙ ap (λ (i : ItemRow). (plan_of s i.serial).fast) r
    ∙ sym (place_facts c s x.0 p x.2).fast

-- so whether it is cut, where it isn't blocked
pub cut_at : (c : Settings) (s : State) (p : Place) (row : ItemRow) (plan : Plan) → In p (all_places c s) →
    row ≡ row_of s.builds p → plan ≡ plan_of s row.serial → is_blocked p ≡ false →
    plan.fast && row.failing ≡ is_cut s.builds p
cut_at c s p row plan m r e unblocked =
    (λ k. fast_at c s p row plan m r e k && (r k).failing) ∙ cut_is s.builds p unblocked

pub needs_at : (c : Settings) (s : State) (q : Queue) (p : Place) (row : ItemRow) (known : Option Change)
    (needs : List Need) → In p (places c s q) → row ≡ row_of s.builds p → known ≡ known_change s row.change →
    needs ≡ map (need_of s) (known_or_closed known).needs → needs ≡ p.needs
needs_at c s q p row known needs m r k e =
    e ∙ needs_are s row.change known k ∙ ap (λ (i : ItemRow). needs_of s i.change) r ∙ sym (place_facts c s q p m).needs

-- ---- whether its needs are met

any_entry : (n : ℕ) (items : List Item) → list_any (λ e. e.change == n) (map item_entry items) ≡ has_change items n
any_entry n [] = refl
any_entry n (i ∷ is) = ap (λ b. i.change == n || b) (any_entry n is)

pub met_is : (items : List Item) (needs : List Need) →
    are_met_among (map item_entry items) needs ≡ are_met_by items needs
met_is items needs = λ k. list_all (λ n. n.landed || any_entry n.change items k) needs

pub blocked_is : (p : Place) (ahead : List Entry) (needs : List Need) → ahead ≡ map item_entry p.ahead → needs ≡ p.needs →
    not (are_met_among ahead needs) ≡ is_blocked p
blocked_is p ahead needs ea en = ap not ((λ k. are_met_among (ea k) (en k)) ∙ met_is p.ahead p.needs)

-- another is just where a need isn't met
pub blocked_at : {c : Settings} {s : State} {name : List ℕ} {ahead : List Entry} {row : ItemRow} {q : Queue} {p : Place} →
    IsBehind c s name ahead row q p → (known : Option Change) (needs : List Need) → known ≡ known_change s row.change →
    needs ≡ map (need_of s) (known_or_closed known).needs → not (are_met_among ahead needs) ≡ is_blocked p
blocked_at {c} {s} {row = row} {q = q} {p = p} at known needs k n =
    blocked_is p _ needs at.ahead_is
    (needs_at c s q p row known needs (contains_in (places c s q) p at.there) at.row_is k n)

-- ---- the first build that is due of an item

-- none, where it is cut
pub none_cut : {c : Settings} {s : State} {name : List ℕ} {ahead : List Entry} {told : BookItem} {q : Queue} {p : Place} →
    IsBehind c s name ahead told.row q p → IsTold s told → told.fast && told.row.failing ≡ true →
    slice_get (builds_for s q p) 0 ≡ None
none_cut {c} {s} {name} {told = told} {q = q} {p = p} at t e = by_blocked (is_blocked p) refl
  where
    by_blocked : (b : Bool) → is_blocked p ≡ b → slice_get (builds_for s q p) 0 ≡ None
    by_blocked true b = blocked_none s q p b
    by_blocked false b =
        let here = there_too c s name q p at.queue_is (contains_in (places c s q) p at.there) in
        cut_none s q p (sym (cut_at c s p told.row (plan_of s told.row.serial) here at.row_is refl b)
        ∙ ap (λ f. f && told.row.failing) (sym t.fast) ∙ e)

-- that of its first waiting job, where it is neither cut nor blocked
pub first_is : {c : Settings} {s : State} {name : List ℕ} {ahead : List Entry} {told : BookItem} {q : Queue} {p : Place} →
    IsLawful c s → IsBehind c s name ahead told.row q p → IsTold s told → told.fast && told.row.failing ≡ false →
    is_blocked p ≡ false → slice_get (builds_for s q p) 0 ≡ option_map (build_for (s.counters.build + 1) q p)
    (find (λ j. is_waiting_slot (slot_among told.builds.now j)) told.jobs.now)
first_is {c} {s} {name} {told = told} {q = q} {p = p} lawful at t e b =
    let here = there_too c s name q p at.queue_is (contains_in (places c s q) p at.there) in
    let plan = plan_of s told.row.serial in
    first_due s q p told.builds.now told.jobs.now
    (t.builds ∙ ap (λ (r : ItemRow). live_builds s r.serial) at.row_is)
    (t.jobs ∙ jobs_at c s p told.row plan here at.row_is refl) (all_count c s lawful p here) b
    (sym (cut_at c s p told.row plan here at.row_is refl b) ∙ ap (λ f. f && told.row.failing) (sym t.fast) ∙ e)

-- none, where no job waits
pub none_waits : {c : Settings} {s : State} {name : List ℕ} {ahead : List Entry} {told : BookItem} {q : Queue} {p : Place} →
    IsLawful c s → IsBehind c s name ahead told.row q p → IsTold s told → told.fast && told.row.failing ≡ false →
    find (λ j. is_waiting_slot (slot_among told.builds.now j)) told.jobs.now ≡ None →
    slice_get (builds_for s q p) 0 ≡ None
none_waits {c} {s} {told = told} {q = q} {p = p} lawful at t e f = by_blocked (is_blocked p) refl
  where
    by_blocked : (b : Bool) → is_blocked p ≡ b → slice_get (builds_for s q p) 0 ≡ None
    by_blocked true b = blocked_none s q p b
    by_blocked false b =
        first_is lawful at t e b ∙ ap (option_map (build_for (s.counters.build + 1) q p)) f

-- and it is the build of that job
pub built_is : {c : Settings} {s : State} {name : List ℕ} {ahead : List Entry} {row : ItemRow} {q : Queue} {p : Place} →
    IsBehind c s name ahead row q p → (number : ℕ) (job : Job) →
    build_on number name ahead row (landings_before s name row.serial) job.name
    ≡ under_number number (build_for (s.counters.build + 1) q p job)
built_is {c} {s} {name} {ahead} {row} {q} {p} at number job =
    let facts = place_facts c s q p (contains_in (places c s q) p at.there) in
    let below : landings_before s name row.serial ≡ length (landings_below p) =
    λ k. length (filter (λ l. nat_lt l.serial (at.row_is k).serial) (landings_at at facts k)) in
    λ k. build_on number (sym (named_is s name q at.queue_is) k) (at.ahead_is k) (at.row_is k) (below k) job.name
  where
    landings_at : IsBehind c s name ahead row q p → PlaceFacts c s q p → landings_in s name ≡ p.landings
    landings_at a f = ap (λ (o : Option Queue). option_map_or (λ (x : Queue). x.landings) o []) a.queue_is
        ∙ sym f.landings
