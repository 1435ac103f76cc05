use Rattle.std.proofs.Common.{◌++◌, ◌∙◌, sym, ap, subst, rules}
use Rattle.std.specs.Prelude.{string_bytes}
use Rattle.gate_book_trait.specs.Reads.{first_above}
use Rattle.gate_book_trait.proofs.KeptLemmas.{then}
use Rattle.gate_book_trait.proofs.ReadingLemmas.{is_read_under}
use Rattle.gate_reads.specs.Places.{IsBehind}
use Rattle.gate_reads.proofs.Walking.{lawful_front, rows_are}
use Rattle.gate_reads.proofs.Trying.{place_next}
use Rattle.gate_texts.proofs.Shown.{shown_front, shown_end, next_row, behind_next, shown_next}
use Rattle.gate_texts.proofs.status_text.items_text.Goals as goal

pub along-init : goal.along-init
along-init g c = record {
  kept = search rules;
  shown = λ trusted x holds lawful q named.
      shown_front c.args.config.now x.state q c.new-ahead.result (string_bytes c.new-text.result)
      (lawful_front c.args.config.now x lawful c.args.queue.now q named) c.new-ahead.ensures c.new-text.ensures.bytes;
}

pub along-preserved : goal.along-preserved
along-preserved g c = record {
  kept = then (then c.along.invariant.kept c.in_ok-item.ensures.reads.kept) c.in_ok-line.ensures.kept;
  shown = λ trusted x holds lawful q named.
      let s = x.state in
      let config = c.args.config.now in
      let name = c.args.queue.now in
      let row = c.in-Some.item in
      let before = c.in_ok-line.ensures.kept.trusted_before trusted in
      let start = c.in_ok-item.ensures.reads.kept.trusted_before before in
      let held = c.along.invariant.kept.holds_on start _ x holds in
      let some = ap (first_above c.along.above) (sym (rows_are config s name q named))
      ∙ sym (c.in_ok-item.ensures.reads.found before _ x held lawful) ∙ c.in-Some.is in
      let shown = c.along.invariant.shown start x holds lawful q named in
      let next = next_row config s q c.along.above c.along.ahead (string_bytes c.along.text) row shown some in
      let line = c.in_ok-line.ensures.found trusted x (c.in_ok-item.ensures.reads.kept.holds_on before _ x held) lawful
      name q (place_next next) (subst (λ a. IsBehind config s name a row q (place_next next)) (sym c.as_slice.ensures)
      (behind_next name named shown next)) in
      shown_next shown next c.get-above.result c.push_unless_failing.new.ahead (string_bytes c.in_ok-line.line)
      (string_bytes c.push_str.new.self) c.get-above.ensures.value c.in_ok-push_unless_failing.ensures line
      (c.in_ok-push_str.ensures.bytes ∙ ap (λ l. string_bytes c.along.text ++ l) c.as_str.ensures.value);
}

pub returns : goal.returns
returns g c = is_read_under (λ trusted x holds lawful q named.
    let s = x.state in
    let config = c.args.config.now in
    let start = c.in_ok-item.ensures.reads.kept.trusted_before trusted in
    let held = c.along.invariant.kept.holds_on start _ x holds in
    shown_end config s q c.along.above c.along.ahead (string_bytes c.along.text)
    (c.along.invariant.shown start x holds lawful q named)
    (ap (first_above c.along.above) (sym (rows_are config s c.args.queue.now q named))
    ∙ sym (c.in_ok-item.ensures.reads.found trusted _ x held lawful) ∙ c.in_default.is))
    (search rules) (search rules)
