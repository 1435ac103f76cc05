use Rattle.std.proofs.Common.{◌≡◌, ◌∙◌, sym, ap, subst, None, Some, rules}
use Rattle.std.specs.Prelude.{◌==◌, IfSome, is_some, option_map}
use Rattle.std.specs.Bool.{then_some}
use Rattle.std.proofs.lemmas.Option.{none-some, same_Some}
use Rattle.gate_types.specs.declared.records.Item.{Item as ItemRow}
use Rattle.gate_types.specs.declared.records.Plan.{Plan}
use Rattle.gate_types.specs.State.{plan_of}
use Rattle.gate_types.specs.Rows.{row_of}
use Rattle.gate_book_trait.specs.declared.rows.QueuedItem.{QueuedItem}
use Rattle.gate_book_trait.specs.Reads.{live_builds}
use Rattle.gate_laws.proofs.Members.{found}
use Rattle.gate_book_trait.proofs.ReadingLemmas.{is_read_under}
use Rattle.gate_reads.specs.Orders.{IsRowOf, TellsShown}
use Rattle.gate_reads.proofs.Found.{none_before, some_before}
use Rattle.gate_reads.proofs.Stood.{Stood, stood, queued_as, serial_of, item_is, at_stood}
use Rattle.gate_reads.proofs.ShownOrders.{order_as, if_shown, shown_is}
use Rattle.gate_reads.proofs.Told.{found_by_change}
use Rattle.gate_reads.proofs.orders.shown_order.Goals as goal

pub returns-in_default : goal.returns-in_default
returns-in_default g c = is_read_under (λ trusted x holds lawful.
    let s = x.state in
    let config = c.args.config.now in
    let none = none_before (λ (y : Stood). row_of s.builds y.place) _ (sym (item_is config s c.args.number)
    ∙ sym (c.in_ok-item.ensures.found trusted _ x holds lawful) ∙ c.in_default.is) in
    subst (TellsShown config s None) (sym (shown_is config s lawful.lawful.sound c.args.number
    ∙ ap (λ o. option_map order_as (if_shown s o)) none)) tt)
    (search rules) (search rules)

pub returns-in_default-2 : goal.returns-in_default-2
returns-in_default-2 g c = is_read_under (λ trusted x holds lawful.
    let s = x.state in
    let config = c.args.config.now in
    let two = c.in_ok-plan.ensures.kept.trusted_before trusted in
    let one = c.in_ok-builds.ensures.kept.trusted_before two in
    let at_one = c.in_ok-item.ensures.kept.holds_on one _ x holds in
    let at_two = c.in_ok-builds.ensures.kept.holds_on two _ x at_one in
    let it = some_before (λ (y : Stood). row_of s.builds y.place) _ c.in-Some.item (sym (item_is config s c.args.number)
    ∙ sym (c.in_ok-item.ensures.found one _ x holds lawful) ∙ c.in-Some.is) in
    let there = found (λ y. serial_of y == c.args.number) (stood config s) it.0 it.1 in
    let builds = c.as_slice.ensures ∙ c.in_ok-builds.ensures.found two _ x at_one lawful in
    let hidden = sym (c.in_ok-plan.ensures.shown trusted x at_two lawful it.0.place
    (at_stood config s it.0 c.in-Some.item there.0 (sym it.2)) builds) ∙ ap is_some c.in_default-2.is in
    subst (TellsShown config s None) (sym (shown_is config s lawful.lawful.sound c.args.number
    ∙ ap (λ o. option_map order_as (if_shown s o)) it.1 ∙ ap (λ b. option_map order_as (then_some b it.0)) hidden)) tt)
    (search rules) (search rules)

pub returns-in_default-3 : goal.returns-in_default-3
returns-in_default-3 g c = is_read_under (λ trusted x holds lawful.
    let s = x.state in
    let config = c.args.config.now in
    let three = c.in_ok-queued.ensures.kept.trusted_before trusted in
    let two = c.in_ok-plan.ensures.kept.trusted_before three in
    let one = c.in_ok-builds.ensures.kept.trusted_before two in
    let at_one = c.in_ok-item.ensures.kept.holds_on one _ x holds in
    let at_two = c.in_ok-builds.ensures.kept.holds_on two _ x at_one in
    let at_three = c.in_ok-plan.ensures.kept.holds_on three _ x at_two in
    let it = some_before (λ (y : Stood). row_of s.builds y.place) _ c.in-Some.item (sym (item_is config s c.args.number)
    ∙ sym (c.in_ok-item.ensures.found one _ x holds lawful) ∙ c.in-Some.is) in
    let there = found (λ y. serial_of y == c.args.number) (stood config s) it.0 it.1 in
    let builds = c.as_slice.ensures ∙ c.in_ok-builds.ensures.found two _ x at_one lawful in
    let shown = sym (c.in_ok-plan.ensures.shown three x at_two lawful it.0.place
    (at_stood config s it.0 c.in-Some.item there.0 (sym it.2)) builds) ∙ ap is_some c.in-Some-2.is in
    let order = found_by_change config s c.show_sound.ensures lawful.lawful.sound c.args.number it.0 it.1 shown
    c.in-Some.item.change (sym (ap (λ (r : ItemRow). r.change) it.2)) in
    absurd (none-some (queued_as s it.0) (sym c.in_default-3.is
    ∙ c.in_ok-queued.ensures.found trusted _ x at_three lawful ∙ order.found_by)))
    (search rules) (search rules)

pub returns : goal.returns
returns g c = is_read_under (λ trusted x holds lawful.
    let s = x.state in
    let config = c.args.config.now in
    let three = c.in_ok-queued.ensures.kept.trusted_before trusted in
    let two = c.in_ok-plan.ensures.kept.trusted_before three in
    let one = c.in_ok-builds.ensures.kept.trusted_before two in
    let at_one = c.in_ok-item.ensures.kept.holds_on one _ x holds in
    let at_two = c.in_ok-builds.ensures.kept.holds_on two _ x at_one in
    let at_three = c.in_ok-plan.ensures.kept.holds_on three _ x at_two in
    let it = some_before (λ (y : Stood). row_of s.builds y.place) _ c.in-Some.item (sym (item_is config s c.args.number)
    ∙ sym (c.in_ok-item.ensures.found one _ x holds lawful) ∙ c.in-Some.is) in
    let there = found (λ y. serial_of y == c.args.number) (stood config s) it.0 it.1 in
    let live = c.in_ok-builds.ensures.found two _ x at_one lawful in
    let shown = sym (c.in_ok-plan.ensures.shown three x at_two lawful it.0.place
    (at_stood config s it.0 c.in-Some.item there.0 (sym it.2)) (c.as_slice.ensures ∙ live))
    ∙ ap is_some c.in-Some-2.is in
    let order = found_by_change config s c.show_sound.ensures lawful.lawful.sound c.args.number it.0 it.1 shown
    c.in-Some.item.change (sym (ap (λ (r : ItemRow). r.change) it.2)) in
    let same = same_Some (queued_as s it.0) c.in-Some-3.queued (sym order.found_by
    ∙ sym (c.in_ok-queued.ensures.found trusted _ x at_three lawful) ∙ c.in-Some-3.is) in
    let serial = sym (ap (λ (r : ItemRow). r.serial) it.2) ∙ ap (λ (k : QueuedItem). k.item.serial) same in
    let planned = subst (λ o. IfSome o (λ (p : Plan). p ≡ plan_of s c.in-Some.item.serial)) c.in-Some-2.is
    (c.in_ok-plan.ensures.plan three config x at_two lawful) in
    subst (TellsShown config s (Some (record {
      queued = c.in-Some-3.queued;
      plan = c.in-Some-2.plan;
      builds = c.in_ok-builds.builds;
    }))) (sym order.shown) (record {
      row = subst (λ (k : QueuedItem). IsRowOf config s k.queue k.item (order_as it.0)) same order.row;
      plan = planned ∙ ap (plan_of s) serial;
      builds = live ∙ ap (live_builds s) serial;
    }))
    (search rules) (search rules)
