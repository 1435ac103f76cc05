use Rattle.std.proofs.Common.{◌≡◌}
use Rattle.clap.specs.Words.{Text, first_of, first_value, rows_of}
use Rattle.clap.specs.declared.parser.matches.Found.{Found}
use Rattle.clap.proofs.WalkLemmas.{first_value-rows}

pub first_rows : (f : Found) (id : Text) → first_value f id ≡ first_of id (rows_of f)
first_rows = first_value-rows
