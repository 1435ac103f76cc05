use Rattle.std.proofs.Common.{◌<◌, ◌≡◌, ◌∙◌, sym, ap, subst, rules}
use Rattle.std.specs.Prelude.{IfSome, option_map}
use Rattle.gate_book_trait.specs.Reads.{items_in, last_item_below}
use Rattle.gate_book_trait.proofs.KeptLemmas.{then}
use Rattle.gate_book_trait.proofs.ReadingLemmas.{is_read}
use Rattle.gate_admission.specs.declared.items.Below.{Below}
use Rattle.gate_admission.specs.Seen.{items_after, row_of_serial}
use Rattle.gate_admission.proofs.QueueItems.{rising_after}
use Rattle.gate_admission.proofs.Standing.{items_rise}
use Rattle.gate_admission.proofs.LastItem.{none_below, last_found, none_found, last_lower, most_of, none_of}
use Rattle.gate_admission.proofs.items.last_below.Goals as goal

pub returns-then-is_some : goal.returns-then-is_some
returns-then-is_some g c = is_read (λ trusted s x holds lawful.
    let name = c.args.queue.now in
    let rows = items_in s x.state name in
    let all = items_after name rows c.args.edits.now in
    let up = items_rise s x.state name lawful.lawful.sound in
    let next = c.in-Some.next in
    let zero = c.in_ok-next.ensures.kept.trusted_before trusted in
    let start = c.loop-next.invariant.kept.holds_on zero s x holds in
    let low = subst (λ o. IfSome o (λ b. b.serial < c.loop-next.end)) c.in-Some.is c.in_ok-next.ensures.falls in
    let serial = sym (ap (option_map (λ (b : Below). b.serial)) (sym c.in-Some.is)
    ∙ c.in_ok-next.ensures.serial trusted s x start lawful) in
    let item = subst (λ o. IfSome o (λ b. b.item ≡ row_of_serial b.serial all)) c.in-Some.is
    (c.in_ok-next.ensures.item trusted s x start lawful) in
    sym (last_found c.loop-next.end next.serial all next.item (rising_after name rows c.args.edits.now up) low
    (most_of name c.loop-next.end next.serial rows c.args.edits.now up serial) (sym item)
    (sym c.is_some.ensures ∙ c.if-is_some.true))
    ∙ c.loop-next.invariant.found zero s x holds lawful)
    (search rules) (search rules)

pub loop-next-preserved : goal.loop-next-preserved
loop-next-preserved g c = record {
  kept = then c.loop-next.invariant.kept c.in_ok-next.ensures.kept;
  found = λ trusted s x holds lawful.
      let name = c.args.queue.now in
      let rows = items_in s x.state name in
      let all = items_after name rows c.args.edits.now in
      let up = items_rise s x.state name lawful.lawful.sound in
      let next = c.in-Some.next in
      let zero = c.in_ok-next.ensures.kept.trusted_before trusted in
      let start = c.loop-next.invariant.kept.holds_on zero s x holds in
      let low = subst (λ o. IfSome o (λ b. b.serial < c.loop-next.end)) c.in-Some.is c.in_ok-next.ensures.falls in
      let serial = sym (ap (option_map (λ (b : Below). b.serial)) (sym c.in-Some.is)
      ∙ c.in_ok-next.ensures.serial trusted s x start lawful) in
      let item = subst (λ o. IfSome o (λ b. b.item ≡ row_of_serial b.serial all)) c.in-Some.is
      (c.in_ok-next.ensures.item trusted s x start lawful) in
      ap (λ n. last_item_below n all) c.get-end.ensures.value
      ∙ last_lower c.loop-next.end next.serial all low
      (most_of name c.loop-next.end next.serial rows c.args.edits.now up serial)
      (sym item ∙ none_found next.item (sym c.is_some.ensures ∙ c.if-is_some.false))
      ∙ c.loop-next.invariant.found zero s x holds lawful;
}

pub returns : goal.returns
returns g c = is_read (λ trusted s x holds lawful.
    let name = c.args.queue.now in
    let rows = items_in s x.state name in
    let up = items_rise s x.state name lawful.lawful.sound in
    let zero = c.in_ok-next.ensures.kept.trusted_before trusted in
    let start = c.loop-next.invariant.kept.holds_on zero s x holds in
    sym (none_below c.loop-next.end (items_after name rows c.args.edits.now)
    (none_of name c.loop-next.end rows c.args.edits.now up
    (sym (ap (option_map (λ (b : Below). b.serial)) (sym c.in_default.is)
    ∙ c.in_ok-next.ensures.serial trusted s x start lawful))))
    ∙ c.loop-next.invariant.found zero s x holds lawful)
    (search rules) (search rules)
