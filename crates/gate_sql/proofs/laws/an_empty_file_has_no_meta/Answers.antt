use Rattle.std.proofs.Common.{refl}
use Rattle.sqlite.specs.Listing.{listing_schema, understood}
use Rattle.sqlite_resolve.specs.declared.error.CompileError.TheVariants.{NoSuchTable}
use Rattle.sqlite_tied.specs.Compute.{everything}
use Rattle.gate_sql.proofs.laws.an_empty_file_has_no_meta.Goals as goal

pub returns : goal.returns
unfolding understood everything listing_schema
returns c = record { meta = (NoSuchTable, refl) }
