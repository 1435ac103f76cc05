use Rattle.std.proofs.Common.{◌≡◌, ◌∙◌, ◌++◌, ◌∷◌, [], List, Some, Option, map, ap, sym, subst, rules}
use Rattle.std.specs.Prelude.{option_map, IfSome}
use Rattle.std.specs.List.{AllByRecursion}
use Rattle.std.proofs.lemmas.List.{take_all}
use Rattle.gate_types.specs.declared.config.Queue.{Queue as QueueSetting}
use Rattle.gate_types.specs.Tables.{tables}
use Rattle.gate_types.proofs.PlainLemmas.{all_push}
use Rattle.gate_book_trait.specs.RowReads.{rows_named}
use Rattle.gate_memory.specs.HeldQueues.{LiveQueue}
use Rattle.gate_live.specs.Live.{live_queue}
use Rattle.gate_live.specs.Held.{IsKeptQueue, queue_of}
use Rattle.gate_live.specs.declared.held_queue.HeldQueue.{HeldQueue}
use Rattle.gate_book_trait.proofs.KeptLemmas.{then}
use Rattle.gate_book_trait.proofs.ReadingLemmas.{is_read}
use Rattle.gate_live.proofs.FilledLemmas.{told_next}
use Rattle.gate_live.proofs.filling.read_queues.Goals as goal

pub loop-setting-preserved : goal.loop-setting-preserved
loop-setting-preserved g c =
    let before = c.loop-setting.invariant in
    let qs = c.loop-setting.queues.items in
    let q = c.in-Some.queue in
    let pushed : c.push_reserved.new.self.items ≡ qs ++ q ∷ [] = search rules in
    let sound : IsKeptQueue q = subst (λ (o : Option HeldQueue). IfSome o IsKeptQueue) c.in-Some.is c.in_ok-queue.ensures.sound in
    record {
      sound = subst (λ (zs : List HeldQueue). AllByRecursion IsKeptQueue zs) (sym pushed) (all_push IsKeptQueue qs q before.sound sound);
      kept = then before.kept c.in_ok-queue.ensures.reads.kept;
      told = λ trusted k x holds lawful.
          let early = c.in_ok-queue.ensures.reads.kept.trusted_before trusted in
          let held = before.kept.holds_on early k x holds in
          let f : QueueSetting → Option LiveQueue = λ r. option_map live_queue (rows_named (tables k x).queues r.name) in
          let here : Some (queue_of q) ≡ f c.setting-item.result = sym (ap (option_map queue_of) c.in-Some.is) ∙ c.in_ok-queue.ensures.reads.found trusted k x held lawful in
          ap (λ (zs : List HeldQueue). map (λ (l : LiveQueue). Some l) (map queue_of zs)) pushed
          ∙ told_next f qs q c.args.settings.now c.loop-setting.setting-index c.setting-item.result c.loop-setting-test.true c.setting-item.is
          (before.told early k x holds lawful) here;
    }

pub returns-clause-reads : goal.returns-clause-reads
returns-clause-reads g c = is_read (λ trusted k x held lawful.
    let f : QueueSetting → Option LiveQueue = λ r. option_map live_queue (rows_named (tables k x).queues r.name) in
    c.loop-setting.invariant.told trusted k x held lawful ∙ ap (map f) (take_all c.loop-setting.setting-index c.args.settings.now c.loop-setting-test.false))
    (search rules) (search rules)
