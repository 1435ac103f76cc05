use Rattle.gate_schema.specs.Schema.{gate_schema, schema_with}
use Rattle.gate_schema.proofs.TextLemmas.{all_made}
use Rattle.gate_file_changes.proofs.making.make_tables.Goals as goal

pub returns-clause-made : goal.returns-clause-made
returns-clause-made g c clean bare = c.make_all.ensures.made (schema_with 0 0) gate_schema all_made clean bare
