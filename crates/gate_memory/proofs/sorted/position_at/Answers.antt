use Rattle.std.proofs.Common.{arith, ◌≡◌, get_or, inl, inr, sym, ap, ◌∙◌}
use Rattle.std.specs.Prelude.{slice_get, option_map, Some}
use Rattle.std.proofs.lemmas.Option.{slice_get-get_or}
use Rattle.gate_memory.proofs.SortedLemmas.{found_at, found_none}
use Rattle.gate_memory.proofs.sorted.position_at.Goals as goal
use Rattle.gate_memory.proofs.sorted.position_at.Goals.{else-position-rows-via-then-position-rows+else-key}
use Rattle.gate_memory.proofs.sorted.position_at.Goals.{else-position-rows-via-else-position-rows}

pub returns-then-key-clause-there : goal.returns-then-key-clause-there
returns-then-key-clause-there g c =
    let key = g.T.Keyed.key in
    let d = c.index-rows-position.result in
    let xs = c.args.rows.now in
    let position = c.position_of-position.result in
    let same : key (get_or xs position d) ≡ c.args.key = sym (ap key c.index-rows-position.is) ∙ sym c.key.ensures ∙ c.if-key.true in
    let stands : slice_get xs position ≡ Some (get_or xs position d) = slice_get-get_or xs position d c.if-position-rows.true in
    record {
      within = c.if-position-rows.true;
      has_key = ap (option_map key) stands ∙ ap (λ n. Some n) same;
      found = found_at key c.args.key 0 xs position d c.requires c.if-position-rows.true same ∙ sym stands;
    }

pub returns-else-position-rows-clause-missing : goal.returns-else-position-rows-clause-missing
returns-else-position-rows-clause-missing g c =
    let key = g.T.Keyed.key in
    let position = c.position_of-position.result in
    elim c.else-position-rows.branch [
      | else-position-rows-via-then-position-rows+else-key w ↦
          found_none key c.args.key 0 c.args.rows.now position c.requires c.position_of-position.ensures.position
          (inr (w.index-rows-position.result, λ e. w.if-key.false (w.key.ensures ∙ ap key w.index-rows-position.is ∙ e)))
      | else-position-rows-via-else-position-rows w ↦
          found_none key c.args.key 0 c.args.rows.now position c.requires c.position_of-position.ensures.position (inl (omega (arith, w.if-position-rows.false)))
    ]
