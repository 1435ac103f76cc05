use Rattle.std.proofs.Common.{◌≡◌, ◌∙◌, [], arith, subst, sym, true}
use Rattle.std.proofs.lemmas.Grind.{common_steps}
use Rattle.sqlite.specs.Held.{state}
use Rattle.gate_found_rows.proofs.StayLemmas.{read_stays, shown_keeps}
use Rattle.gate_file_meta.specs.Reading.{ShowsMeta, Yields, meta_sql}
use Rattle.gate_file_meta.proofs.JudgeLemmas.{on_ok_any}
use Rattle.gate_file_meta.proofs.MetaLemmas.{meta_reads, meta_shows, meta_unavailable, none_shown, shown_yields}
use Rattle.gate_migration.proofs.StandingLemmas.{standing_so}
use Rattle.gate_migration.proofs.migrating.standing_in.Goals as goal

pub returns-in-Ok-clause-judged : goal.returns-in-Ok-clause-judged
returns-in-Ok-clause-judged g c clean tables indexes views version kept has meta =
    c.judge_rows.ensures.judged version kept (c.as_slice.ensures.value ∙ meta_shows _ _ tables indexes views version kept _ has meta (c.in-Ok.ensures.shown clean))

pub returns-in-Ok-clause-told : goal.returns-in-Ok-clause-told
returns-in-Ok-clause-told g c clean =
    let old = state g.S.Store c.args.conn.now in
    let found = shown_yields old _ _ (c.in-Ok.ensures.shown clean) in
    standing_so c.judge_rows.result _ (ShowsMeta old.now) c.args.settings.now (λ version kept is. subst (Yields meta_sql old.now) (sym c.as_slice.ensures.value ∙ is) found) c.judge_rows.ensures.told

pub returns-in-Ok-clause-unread : goal.returns-in-Ok-clause-unread
returns-in-Ok-clause-unread g c clean none = absurd (none_shown _ _ _ none (c.in-Ok.ensures.shown clean))

pub returns-in-Ok-clause-same : goal.returns-in-Ok-clause-same
returns-in-Ok-clause-same g c clean =
    let old = state g.S.Store c.args.conn.now in
    let same = shown_keeps meta_sql [] old _ _ meta_reads (c.in-Ok.ensures.shown clean) in
    on_ok_any c.judge_rows.result _ same

pub returns-in-Ok-clause-stays : goal.returns-in-Ok-clause-stays
returns-in-Ok-clause-stays g c clean =
    let outside : c.is_autocommit.result ≡ true = grind (arith, common_steps) in
    read_stays (λ rows. rows.items) c.read_meta.result meta_sql [] (state g.S.Store c.args.conn.now) _ (c.is_autocommit.ensures.settled outside) meta_reads (c.read_meta.ensures.shown clean) (c.read_meta.ensures.err clean)

pub returns-in-Err-clause-judged : goal.returns-in-Err-clause-judged
returns-in-Err-clause-judged g c clean tables indexes views version kept has meta = rw (c.fault_of.ensures.unavailable (meta_unavailable _ _ tables indexes views _ has (c.in-Err.ensures.err clean))) tt

pub returns-in-Err-clause-stays : goal.returns-in-Err-clause-stays
returns-in-Err-clause-stays g c clean =
    let outside : c.is_autocommit.result ≡ true = grind (arith, common_steps) in
    read_stays (λ rows. rows.items) c.read_meta.result meta_sql [] (state g.S.Store c.args.conn.now) _ (c.is_autocommit.ensures.settled outside) meta_reads (c.read_meta.ensures.shown clean) (c.read_meta.ensures.err clean)
