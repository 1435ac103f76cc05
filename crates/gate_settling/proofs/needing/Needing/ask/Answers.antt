use Rattle.std.proofs.Common.{◌≡◌, ◌∙◌, ◌++◌, [], ◌∷◌, List, ℕ, take, sym, ap, rules}
use Rattle.std.proofs.lemmas.List.{take_more}
use Rattle.gate_book_trait.specs.Reads.{items_in, items_needing}
use Rattle.gate_book_trait.proofs.KeptLemmas.{then}
use Rattle.gate_settling.specs.Rows.{needing_any, merged}
use Rattle.gate_settling.proofs.NeedingLemmas.{needing_more, kept_above}
use Rattle.gate_settling.proofs.WantedLemmas.{items_in_rise}
use Rattle.gate_settling.proofs.needing.Needing.ask.Goals as goal

pub loop-index-init : goal.loop-index-init
loop-index-init g c = record {
  kept = search rules;
  rows = λ trusted s x holds lawful known.
      c.keep_above.ensures ∙ kept_above x.state c.args.gone.now c.args.above (items_in s x.state c.args.queue.now) _ _ known;
}

pub loop-index-preserved : goal.loop-index-preserved
loop-index-preserved g c = record {
  kept = then c.loop-index.invariant.kept c.in_ok-found.ensures.kept;
  rows = λ trusted s x holds lawful known.
      let gone = c.args.gone.now in
      let n = c.args.above in
      let change = c.index-gone-index.result in
      let rows = items_in s x.state c.args.queue.now in
      let before = c.in_ok-found.ensures.kept.trusted_before trusted in
      let held = c.loop-index.invariant.kept.holds_on before _ x holds in
      let so_far = c.as_slice.ensures.value ∙ c.loop-index.invariant.rows before s x holds lawful known in
      let next : c.as_slice-in-loop-index.result.now ≡ items_needing x.state change n rows =
      c.as_slice-in-loop-index.ensures ∙ c.in_ok-found.ensures.found trusted s x held lawful in
      let more = take_more gone c.loop-index.index change c.loop-index-test.true
      ∙ ap (λ k. take c.loop-index.index gone ++ k ∷ []) (sym c.index-gone-index.is) in
      c.in_ok-self.ensures ∙ (λ t. merged (so_far t) (next t))
      ∙ needing_more x.state (take c.loop-index.index gone) change n rows
      (items_in_rise s x.state lawful.lawful.sound c.args.queue.now)
      ∙ ap (λ (k : List ℕ). needing_any x.state k n rows) (sym more);
}
