use Rattle.std.proofs.Common.{◌∙◌}
use Rattle.gate_types.proofs.SettingsTextLemmas.{project_told}
use Rattle.gate_types.proofs.settings_text.project_text.Goals as goal

pub returns : goal.returns
returns c =
    (rw (c.in_ok-jobs.ensures, c.as_slice.ensures, c.as_str-name.ensures.value, c.as_str-queue.ensures.value) at c.in_ok-text.ensures.ok)
    ∙ project_told c.args.project.now _ c.fast_text-fail_fast.ensures
