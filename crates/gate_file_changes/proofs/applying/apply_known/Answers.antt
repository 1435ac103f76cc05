use Rattle.std.proofs.Common.{◌∙◌, ap, subst, sym}
use Rattle.std.proofs.lemmas.Result.{on_ok_weaker}
use Rattle.sqlite.specs.Effect.{Database}
use Rattle.sqlite.specs.Held.{state}
use Rattle.sqlite.specs.State.{IsUnchanged}
use Rattle.gate_rows.specs.Matches.{StandsFor}
use Rattle.gate_file_changes.proofs.ApplyLemmas.{can_lead, on_ok_both, unchanged_shows}
use Rattle.gate_file_changes.proofs.applying.apply_known.Goals as goal

pub returns-clause-ok : goal.returns-clause-ok
returns-clause-ok g c clean cs x y shows led =
    let old = state g.S.Store c.args.conn.now in
    let mid = state g.S.Store c.check_open.new.conn in
    let same : IsUnchanged old mid = c.in_ok-check_open.ensures.ok (c.commit_all.ensures.clean clean) in
    let shown = unchanged_shows old mid cs x same shows in
    let can = can_lead mid cs x c.args.edits.now y c.schema.ensures.live same.0.is_open shown led in
    on_ok_weaker c.commit_all.result (λ held up. held) (c.commit_all.ensures.all clean cs x y shown.schema_is can)

pub returns-clause-settled : goal.returns-clause-settled
returns-clause-settled g c clean cs x y shows led =
    let old = state g.S.Store c.args.conn.now in
    let mid = state g.S.Store c.check_open.new.conn in
    let same : IsUnchanged old mid = c.in_ok-check_open.ensures.ok (c.commit_all.ensures.clean clean) in
    let shown = unchanged_shows old mid cs x same shows in
    let can = can_lead mid cs x c.args.edits.now y c.schema.ensures.live same.0.is_open shown led in
    on_ok_both c.commit_all.result (λ up held some db may.
    let is = g.met.S.Store.settled c.commit_all.new.conn.store db up.0 may ∙ ap (λ (d : Database). d.trees) up.1 in
    subst (λ trees. StandsFor trees cs y) (sym is) held.stands)
    (c.commit_all.ensures.shown clean shown.schema_is) (c.commit_all.ensures.all clean cs x y shown.schema_is can)
