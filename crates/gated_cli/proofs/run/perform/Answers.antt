use Rattle.std.proofs.Common.{subst, sym}
use Rattle.std.specs.Prelude.{Err}
use Rattle.std.proofs.lemmas.Result.{err_from_is_err_and}
use Rattle.gate_types.specs.Tap.{has_failed, inside}
use Rattle.gated_cli.specs.Blame.{Fails, FileFails}
use Rattle.gated_cli.specs.Ending.{most_served}
use Rattle.gated_cli.specs.OverFile.{GoesOver, ServesOver}
use Rattle.gated_cli.proofs.run.perform.Goals as goal

pub returns-in_ok-run_show-in-History-clause-ok : goal.returns-in_ok-run_show-in-History-clause-ok
returns-in_ok-run_show-in-History-clause-ok g c =
    rw c.in-History.is (c.in_ok-run_show-in-History.ensures.ok (g.R.Read.remaining (inside c.args.input.now)) (has_failed c.args.input.now))

pub returns-in_ok-run_show-in-Deliveries-clause-ok : goal.returns-in_ok-run_show-in-Deliveries-clause-ok
returns-in_ok-run_show-in-Deliveries-clause-ok g c =
    rw c.in-Deliveries.is (c.in_ok-run_show-in-Deliveries.ensures.ok (g.R.Read.remaining (inside c.args.input.now)) (has_failed c.args.input.now))

pub returns-in_ok-run_show-in-Get-clause-ok : goal.returns-in_ok-run_show-in-Get-clause-ok
returns-in_ok-run_show-in-Get-clause-ok g c =
    rw c.in-Get.is (c.in_ok-run_show-in-Get.ensures.ok (g.R.Read.remaining (inside c.args.input.now)) (has_failed c.args.input.now))

pub returns-in_ok-run_init-in-Init-clause-made : goal.returns-in_ok-run_init-in-Init-clause-made
returns-in_ok-run_init-in-Init-clause-made g c = rw c.in-Init.is c.in_ok-run_init-in-Init.ensures.made

pub returns-in_ok-run_deliver-in-Deliver-clause-made : goal.returns-in_ok-run_deliver-in-Deliver-clause-made
returns-in_ok-run_deliver-in-Deliver-clause-made g c = rw c.in-Deliver.is c.in_ok-run_deliver-in-Deliver.ensures.made

pub returns-in_ok-run_show-in-Status-clause-made : goal.returns-in_ok-run_show-in-Status-clause-made
returns-in_ok-run_show-in-Status-clause-made g c = rw c.in-Status.is c.in_ok-run_show-in-Status.ensures.made

pub returns-in_ok-run_show-in-History-clause-made : goal.returns-in_ok-run_show-in-History-clause-made
returns-in_ok-run_show-in-History-clause-made g c = rw c.in-History.is c.in_ok-run_show-in-History.ensures.made

pub returns-in_ok-run_show-in-Deliveries-clause-made : goal.returns-in_ok-run_show-in-Deliveries-clause-made
returns-in_ok-run_show-in-Deliveries-clause-made g c = rw c.in-Deliveries.is c.in_ok-run_show-in-Deliveries.ensures.made

pub returns-in_ok-run_show-in-Get-clause-made : goal.returns-in_ok-run_show-in-Get-clause-made
returns-in_ok-run_show-in-Get-clause-made g c = rw c.in-Get.is c.in_ok-run_show-in-Get.ensures.made

pub returns-in_ok-run_serve-in-Serve-clause-made : goal.returns-in_ok-run_serve-in-Serve-clause-made
returns-in_ok-run_serve-in-Serve-clause-made g c = rw c.in-Serve.is c.in_ok-run_serve-in-Serve.ensures.made

pub returns-in_ok-run_migrate-in-Migrate-clause-made : goal.returns-in_ok-run_migrate-in-Migrate-clause-made
returns-in_ok-run_migrate-in-Migrate-clause-made g c = rw c.in-Migrate.is c.in_ok-run_migrate-in-Migrate.ensures.made

pub returns-in_ok-run_check-in-Check-clause-made : goal.returns-in_ok-run_check-in-Check-clause-made
returns-in_ok-run_check-in-Check-clause-made g c = rw c.in-Check.is tt

pub returns-in_ok-run_replay-in-Replay-clause-made : goal.returns-in_ok-run_replay-in-Replay-clause-made
returns-in_ok-run_replay-in-Replay-clause-made g c = rw c.in-Replay.is tt

pub returns-in_err-run_serve-in-Serve-clause-why : goal.returns-in_err-run_serve-in-Serve-clause-why
returns-in_err-run_serve-in-Serve-clause-why g c =
    let p = err_from_is_err_and c.from_residual-in_err-run_serve-in-Serve.result c.from_residual-in_err-run_serve-in-Serve.ensures.1 in
    rw p.1 (rw c.in-Serve.is (subst (λ f. Fails f (λ k. FileFails g.F.GateFiles.Left c.in-Serve.file.now k f
    (λ old new. GoesOver old new k (ServesOver new k (most_served (Err f) c.in-Serve.count))))) (sym p.2)
    c.in_err-run_serve-in-Serve.ensures.why))
