use Rattle.std.proofs.Common.{[]}
use Rattle.sqlite.specs.Held.{state}
use Rattle.gate_found_rows.proofs.StayLemmas.{read_survives}
use Rattle.gate_file_meta.specs.Reading.{meta_sql}
use Rattle.gate_file_meta.proofs.MetaLemmas.{meta_reads}
use Rattle.gate_file_meta.proofs.meta.read_meta.Goals as goal

pub returns-clause-crash : goal.returns-clause-crash
returns-clause-crash g c = read_survives meta_sql [] (state g.S.Store c.args.conn.now) (state g.S.Store c.query_all.new.self) meta_reads c.query_all.ensures.survives
