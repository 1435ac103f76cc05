use Rattle.std.proofs.Common.{◌≡◌, ◌∙◌, ◌≤◌, ℕ, List, Option, Some, ap, sym, subst, arith}
use Rattle.std.specs.Prelude.{IfSome, option_map}
use Rattle.gate_types.specs.declared.records.Item.{Item}
use Rattle.gate_types.specs.Settings.{Settings}
use Rattle.gate_types.specs.Once.{Content}
use Rattle.gate_walk.specs.declared.walk.Next.{Next}
use Rattle.gate_walk.specs.Walk.{Seen, Walk, behind_visit}
use Rattle.gate_walk.specs.UnderWay.{HasVisited, GoesOn}
use Rattle.gate_book_trait.specs.Reads.{items_in}
use Rattle.gate_book_trait.proofs.KeptLemmas.{then}
use Rattle.gate_reads.specs.declared.touched.TouchedItem.{TouchedItem}
use Rattle.gate_settling.specs.Touching.{Touching, delivered, sees}
use Rattle.gate_settling.specs.Rows.{row_for, AreKept}
use Rattle.gate_settling.proofs.NeedingLemmas.{nothing_kept, kept_by_visit, kept_behind}
use Rattle.gate_settling.proofs.WantedLemmas.{starts_under_way, goes_under_way, further}
use Rattle.gate_settling.proofs.walking.walked.Goals as goal

pub loop-next-init : goal.loop-next-init
loop-next-init g c = record {
  kept = c.in_ok-next.ensures.reads.kept;
  under_way = λ trusted x holds lawful h starts. (
    starts_under_way h c.args.begun c.in_ok-next.next starts
        (c.in_ok-next.ensures.reads.found trusted _ x holds lawful h),
    nothing_kept x.state c.args.begun.carry.gone (items_in c.args.config.now x.state c.args.touched.now.queue)
        c.none-needing.result.rows.items c.none-needing.result.asked c.in_ok-next.next c.none-needing.ensures.rows
        c.none-needing.ensures.asked,
  );
  behind = c.in_ok-next.ensures.rises;
}

-- what is kept behind the visit of a row
kept_for_next : {c : Settings} {x : Content} {k : TouchedItem} (h : Touching c x k) (old new : Walk) (r : Item)
    (vs : List Seen) (next : Next) {o : Option Item} {items kept : List Item} {asked : ℕ} →
    HasVisited (delivered h) old vs → GoesOn (delivered h) old new (sees h r) vs next → o ≡ Some r →
    IfSome o (λ i. AreKept x.state old.carry.gone i.serial items kept asked) →
    AreKept x.state new.carry.gone r.serial items kept asked
kept_for_next {x = x} h old new r vs next {items = items} {kept = kept} {asked = asked} visited on is known =
    kept_by_visit x.state old new (sees h r) r.serial items kept asked
    (on.visited.is ∙ ap (λ w. behind_visit w (sees h r)) (sym visited.is))
    (subst (λ p. IfSome p (λ (i : Item). AreKept x.state old.carry.gone i.serial items kept asked)) is known)

pub loop-next-preserved : goal.loop-next-preserved
loop-next-preserved g c =
    let s = c.args.config.now in
    let row = c.in-Some.row in
    let n = row.serial in
    let next = c.in_ok-asks.asks in
    let queue = c.args.touched.now.queue in
    let from = c.in_ok-asks.ensures.from in
    let behind = subst (λ o. IfSome o (λ (r : Item). c.args.touched.now.item.serial ≤ r.serial)) c.in-Some.is
    c.loop-next.invariant.behind in
    record {
      kept = then (then c.loop-next.invariant.kept c.in_ok-asks.ensures.reads.kept) c.in_ok-next-2.ensures.kept;
      under_way = λ trusted x holds lawful h starts.
          let second = c.in_ok-next-2.ensures.kept.trusted_before trusted in
          let first = c.in_ok-asks.ensures.reads.kept.trusted_before second in
          let held = c.loop-next.invariant.kept.holds_on first _ x holds in
          let asked = c.in_ok-asks.ensures.reads.kept.holds_on second _ x held in
          let before = c.loop-next.invariant.under_way first x holds lawful h starts in
          let way = before.0 in
          let on = c.in_ok-asks.ensures.reads.found second x held lawful h way.visits way.visited
          (way.wanted ∙ ap (option_map (sees h)) c.in-Some.is) in
          let items = items_in s x.state queue in
          let gone = c.gone.ensures in
          let old = c.loop-next.needing in
          let new = c.wanted.new.needing in
          let known = subst (λ (l : List ℕ). AreKept x.state l n items old.rows.items old.asked) (sym gone)
          (kept_for_next h c.loop-next.walk c.visited.new.walk row way.visits next way.visited on c.in-Some.is before.1) in
          let kept = subst (λ (l : List ℕ). AreKept x.state l n items new.rows.items new.asked) gone
          (c.in_ok-next-2.ensures.needing trusted _ x asked lawful n from known) in (
            goes_under_way h c.loop-next.walk c.visited.new.walk row way.visits next c.in_ok-next-2.next on from behind
                (c.in_ok-next-2.ensures.row trusted _ x asked lawful n from known
                ∙ ap (λ l. row_for s x.state queue l next) gone),
            kept_behind x.state c.visited.new.walk.carry.gone n items new.rows.items new.asked c.in_ok-next-2.next kept
                (further n n next c.in_ok-next-2.next (omega arith) from c.in_ok-next-2.ensures.rises),
          );
      behind = further n c.args.touched.now.item.serial next c.in_ok-next-2.next behind from
          c.in_ok-next-2.ensures.rises;
    }
