use Rattle.std.proofs.Common.{◌∙◌, sym, ap, rules}
use Rattle.gate_book_trait.specs.Reads.{first_above}
use Rattle.gate_book_trait.proofs.KeptLemmas.{then}
use Rattle.gate_book_trait.proofs.ReadingLemmas.{is_read}
use Rattle.gate_reads.proofs.Walking.{lawful_front, rows_are}
use Rattle.gate_texts.proofs.RunningBuilds.{along_front, along_next, along_end}
use Rattle.gate_texts.proofs.running.push_queue.Goals as goal

pub along-init : goal.along-init
along-init g c = record {
  kept = search rules;
  told = λ trusted config x holds lawful q named before told.
      along_front config x.state q before c.args.running.now
      (lawful_front config x lawful c.args.queue.now q named) told;
}

pub along-preserved : goal.along-preserved
along-preserved g c = record {
  kept = then (then c.along.invariant.kept c.in_ok-item.ensures.reads.kept) c.in_ok-builds.ensures.kept;
  told = λ trusted config x holds lawful q named before told.
      let s = x.state in
      let row = c.in-Some.item in
      let second = c.in_ok-builds.ensures.kept.trusted_before trusted in
      let first = c.in_ok-item.ensures.reads.kept.trusted_before second in
      let held = c.along.invariant.kept.holds_on first config x holds in
      let found = c.in_ok-item.ensures.reads.kept.holds_on second config x held in
      let some = ap (first_above c.along.above) (sym (rows_are config s c.args.queue.now q named))
      ∙ sym (c.in_ok-item.ensures.reads.found second config x held lawful) ∙ c.in-Some.is in
      along_next config s q c.along.above before c.along.running c.push_builds.new.running row c.get-above.result
      c.as_slice.result.now (c.along.invariant.told first config x holds lawful q named before told) some
      c.get-above.ensures.value (c.as_slice.ensures ∙ c.in_ok-builds.ensures.found trusted config x found lawful)
      (λ done is_of. c.in_ok-push_builds.ensures done is_of);
}

pub returns : goal.returns
returns g c = is_read (λ trusted config x holds lawful q named before told.
    let s = x.state in
    let start = c.in_ok-item.ensures.reads.kept.trusted_before trusted in
    let held = c.along.invariant.kept.holds_on start config x holds in
    along_end config s q c.along.above before c.along.running
    (c.along.invariant.told start config x holds lawful q named before told)
    (ap (first_above c.along.above) (sym (rows_are config s c.args.queue.now q named))
    ∙ sym (c.in_ok-item.ensures.reads.found trusted config x held lawful) ∙ c.in_default.is))
    (search rules) (search rules)
