use Rattle.std.proofs.Common.{◌≡◌, map, take}
use Rattle.std.specs.Prelude.{string_bytes}
use Rattle.gate_types.specs.SettingsText.{queue_text}
use Rattle.gate_types.proofs.settings_text.queue_texts.Given as goal

abbrev pub invariant-loop-queue : goal.invariant-loop-queue
invariant-loop-queue l = map string_bytes l.texts.items ≡ map queue_text (take l.queue-index l.queues)
