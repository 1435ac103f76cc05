use Rattle.std.proofs.Common.{◌≡◌, ◌∙◌, suc, ◌+◌, Bool, Some, cond, drop, sym, ap, arith}
use Rattle.std.specs.Prelude.{find}
use Rattle.gate_types.specs.declared.config.Job.{Job}
use Rattle.gate_types.specs.Slot.{is_waiting_slot}
use Rattle.gate_book_trait.proofs.Finding.{find_rest}
use Rattle.gate_queue_rules.specs.Outcomes.{slot_among}
use Rattle.gate_reads.proofs.jobs.first_waiting.Goals as goal

pub returns-then-is_waiting : goal.returns-then-is_waiting
returns-then-is_waiting c =
    let waits : Job → Bool = λ j. is_waiting_slot (slot_among c.args.builds.now j) in
    let job = c.job-item.result in
    let rest = find waits (drop (suc c.loop-job.job-index) c.args.jobs.now) in
    let told = sym (ap is_waiting_slot c.in_ok-slot_among.ensures) ∙ sym c.is_waiting.ensures ∙ c.if-is_waiting.true in
    sym (c.loop-job.invariant ∙ find_rest waits c.args.jobs.now c.loop-job.job-index job c.loop-job-test.true
    c.job-item.is
    ∙ ap (λ (b : Bool). cond b (Some job) rest) told)

pub loop-job-preserved : goal.loop-job-preserved
loop-job-preserved c =
    let waits : Job → Bool = λ j. is_waiting_slot (slot_among c.args.builds.now j) in
    let job = c.job-item.result in
    let k = c.loop-job.job-index in
    let rest = find waits (drop (suc k) c.args.jobs.now) in
    let step : suc k ≡ k + 1 = omega arith in
    let told = sym (ap is_waiting_slot c.in_ok-slot_among.ensures) ∙ sym c.is_waiting.ensures ∙ c.if-is_waiting.false in
    c.loop-job.invariant ∙ find_rest waits c.args.jobs.now k job c.loop-job-test.true c.job-item.is
    ∙ ap (λ (b : Bool). cond b (Some job) rest) told ∙ ap (λ n. find waits (drop n c.args.jobs.now)) step
