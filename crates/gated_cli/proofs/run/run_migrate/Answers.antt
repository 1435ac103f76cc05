use Rattle.gated_cli.proofs.run.run_migrate.Goals as goal

pub returns-clause-made : goal.returns-clause-made
returns-clause-made g c = (
  c.in_ok-config.config,
  c.in_ok-config.ensures.ok,
  c.in_ok-done.done,
  rw c.migrated_text.ensures at c.in_ok-write_line.ensures.ok,
  c.in_ok-done.ensures.made,
)
