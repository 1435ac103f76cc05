use Rattle.std.proofs.Common.{◌≡◌, ◌∙◌, ap, map, sym, subst}
use Rattle.std.proofs.lemmas.Result.{on_ok_weaker}
use Rattle.std.proofs.lemmas.Simd.{map-map}
use Rattle.sqlite.specs.Held.{state}
use Rattle.sqlite.specs.State.{HasCleanDisk}
use Rattle.gate_queue_queries.specs.First.{HoldsLandings, pair_shown}
use Rattle.gate_found_rows.specs.Reads.{IsOnlyRead}
use Rattle.gate_queue_queries.proofs.FirstReads.{first_still}
use Rattle.gate_found_rows.proofs.ReadLemmas.{only_read_then}
use Rattle.gate_migration.specs.Migrates.{pair_of_item, pair_of_row}
use Rattle.gate_migration.proofs.PlanningLemmas.{pair_of_landing}
use Rattle.gate_migration.proofs.PlanningLemmas.{queue_pushed}
use Rattle.gate_migration.proofs.planning.push_queue.Goals as goal

pub returns-in_err-push_plans-clause-only_reads : goal.returns-in_err-push_plans-clause-only_reads
returns-in_err-push_plans-clause-only_reads g c =
    only_read_then (state g.S.Store c.args.conn.now) (state g.S.Store c.item_pairs.new.conn) (state g.S.Store c.push_plans.new.conn) c.item_pairs.ensures.only_reads c.push_plans.ensures.only_reads

pub returns-in_err-landings-clause-only_reads : goal.returns-in_err-landings-clause-only_reads
returns-in_err-landings-clause-only_reads g c =
    let two = only_read_then (state g.S.Store c.args.conn.now) (state g.S.Store c.item_pairs.new.conn) (state g.S.Store c.push_plans.new.conn) c.item_pairs.ensures.only_reads c.push_plans.ensures.only_reads in
    only_read_then (state g.S.Store c.args.conn.now) (state g.S.Store c.push_plans.new.conn) (state g.S.Store c.landing_pairs.new.conn) two c.landing_pairs.ensures.only_reads

pub returns-clause-only_reads : goal.returns-clause-only_reads
returns-clause-only_reads g c =
    let a = state g.S.Store c.args.conn.now in
    let two = only_read_then a (state g.S.Store c.item_pairs.new.conn) (state g.S.Store c.push_plans.new.conn) c.item_pairs.ensures.only_reads c.push_plans.ensures.only_reads in
    let three = only_read_then a (state g.S.Store c.push_plans.new.conn) (state g.S.Store c.landing_pairs.new.conn) two c.landing_pairs.ensures.only_reads in
    only_read_then a (state g.S.Store c.landing_pairs.new.conn) (state g.S.Store c.push_plans-2.new.conn) three c.push_plans-2.ensures.only_reads

pub returns-clause-found : goal.returns-clause-found
returns-clause-found g c clean b s shows are q name tells =
    let k = c.args.config.now in
    let s0 = state g.S.Store c.args.conn.now in
    let s1 = state g.S.Store c.item_pairs.new.conn in
    let s2 = state g.S.Store c.push_plans.new.conn in
    let s3 = state g.S.Store c.landing_pairs.new.conn in
    let clean3 : HasCleanDisk s3 = c.push_plans-2.ensures.only_reads.clean clean in
    let clean2 : HasCleanDisk s2 = c.landing_pairs.ensures.only_reads.clean clean3 in
    let clean1 : HasCleanDisk s1 = c.push_plans.ensures.only_reads.clean clean2 in
    let two : IsOnlyRead s0 s2 = only_read_then s0 s1 s2 c.item_pairs.ensures.only_reads c.push_plans.ensures.only_reads in
    let three : IsOnlyRead s0 s3 = only_read_then s0 s2 s3 two c.landing_pairs.ensures.only_reads in
    let shows1 = first_still s0 s1 b (c.item_pairs.ensures.only_reads.stays clean1) shows in
    let shows2 = first_still s0 s2 b (two.stays clean2) shows in
    let shows3 = first_still s0 s3 b (three.stays clean3) shows in
    let items : c.in_ok-items.items.items ≡ map (λ p. pair_shown p.0 p.1) (map pair_of_item q.items) =
    c.in_ok-items.ensures.found clean1 b shows ∙ sym (map-map (λ p. pair_shown p.0 p.1) pair_of_row _)
    ∙ ap (map (λ p. pair_shown p.0 p.1)) (subst (λ n. map pair_of_row (Rattle.gate_rows.specs.Matches.items_of n b.items) ≡ map pair_of_item q.items) name tells.items) in
    let landings : c.in_ok-landings.landings.items ≡ map (λ p. pair_shown p.0 p.1) (map pair_of_landing q.landings) =
    c.in_ok-landings.ensures.found clean3 b shows2 q.landings (subst (λ n. HoldsLandings b n q.landings) name tells.landings) ∙ sym (map-map (λ p. pair_shown p.0 p.1) pair_of_landing _) in
    let one = c.in_ok-push_plans.ensures.found clean2 b s shows1 are (map pair_of_item q.items) (c.deref.ensures.value ∙ items) in
    on_ok_weaker c.push_plans-2.result (λ last. queue_pushed k s q c.args.edits.now.items _ _ one last)
    (c.push_plans-2.ensures.found clean b s shows3 are (map pair_of_landing q.landings) (c.deref-2.ensures.value ∙ landings))
