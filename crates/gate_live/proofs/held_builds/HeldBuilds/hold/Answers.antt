use Rattle.std.proofs.Common.{◌∙◌, sym, subst}
use Rattle.gate_types.specs.State.{put_by}
use Rattle.gate_live.specs.HeldBuilds.{AreBuildsOf, KnownBuilds, known_of, put_in_turn, serial_of}
use Rattle.gate_live.specs.declared.held_builds.Known.{Known}
use Rattle.gate_live.proofs.HeldBuildLemmas.{builds_more}
use Rattle.gate_live.proofs.held_builds.HeldBuilds.hold.Goals as goal

pub returns-in-Ok-clause-held : goal.returns-in-Ok-clause-held
returns-in-Ok-clause-held c all rise found held =
    let k : Known = record { serial = c.args.serial } in
    let same = c.copies_for.ensures.rows in
    let copies = c.in-Ok.ensures.copies ∙ found in
    subst (λ (h : KnownBuilds). AreBuildsOf h all)
    (sym (c.put_known.ensures.rows ∙ λ i. record { rows = put_in_turn (copies i) (same i).rows; known = put_by serial_of k (same i).known }))
    (builds_more (known_of c.args.self.now) all k rise held)
