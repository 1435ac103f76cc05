-- What a file's tables become where other settings are adopted.
use Rattle.std.specs.Prelude.{◌≡◌, ℕ, true, List, find, Option, option_map}
use Rattle.sqlite.specs.Tree.{Trees}
use Rattle.gate_types.specs.Adopt.{may_adopt}
use Rattle.gate_types.specs.AdoptedTables.{adopted_window}
use Rattle.gate_types.specs.Forms.{IsLawfulContent, are_settings_in_form}
use Rattle.gate_types.specs.Names.{same_name}
use Rattle.gate_types.specs.Once.{Content}
use Rattle.gate_types.specs.Settings.{Settings, are_sound}
use Rattle.gate_types.specs.declared.config.Queue.{Queue as QueueSetting}
use Rattle.gate_rows.specs.Matches.{StandsFor}
use Rattle.gate_schema.specs.Rows.{QueueRow, Stored}
use Rattle.gate_file_changes.specs.Making.{first_queue_rows}

-- the window under which the rows keep a queue, if they keep it
abbrev pub window_in : List QueueRow → List ℕ → Option ℕ
window_in rows name = option_map (λ (q : QueueRow). q.window) (find (λ (q : QueueRow). same_name q.name name) rows)

-- the setting of a queue, with the window that it gets beside these rows
abbrev pub resized_setting : Settings → List QueueRow → QueueSetting → QueueSetting
resized_setting c rows r = record r { window = adopted_window c r (window_in rows r.name) }

-- the text of the settings in place of the one that is kept
abbrev pub with_settings : List ℕ → Stored → Stored
with_settings text b = record b { settings = text }

-- this text, and the rows of these queues; nothing else changes
abbrev pub rewritten : List ℕ → List QueueSetting → Stored → Stored
rewritten text queues b = record b { settings = text; queues = first_queue_rows 0 queues }

-- tables that stand for a lawful content, under settings in whose place others may be taken
pub record CanAdopt (db : Trees) (c d : Settings) (x : Content) : Type 0 where
  pub sound : are_sound c ≡ true
  pub may : may_adopt c d ≡ true
  pub lawful : IsLawfulContent c x
  pub stands : StandsFor db c x

-- tables that stand for a lawful content under settings, as a gate leaves them
pub record StandsForLawful (db : Trees) (c : Settings) (x : Content) : Type 0 where
  pub sound : are_sound c ≡ true
  pub in_form : are_settings_in_form c ≡ true
  pub lawful : IsLawfulContent c x
  pub stands : StandsFor db c x
