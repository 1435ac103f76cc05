use Rattle.std.proofs.Common.{◌≡◌, map, drop}
use Rattle.sqlite.specs.State.{HasCleanDisk}
use Rattle.sqlite.specs.Held.{state}
use Rattle.sqlite.specs.Schema.{Schema}
use Rattle.gate_rows.specs.Writes.{LeavesNothing}
use Rattle.gate_schema.specs.Made.{MakeInTurn}
use Rattle.gate_file_changes.specs.Making.{IsBare, IsInside, KeepsInside}
use Rattle.gate_file_changes.proofs.making.make_all.Given as goal

abbrev pub invariant-loop-text : goal.invariant-loop-text
invariant-loop-text g l =
    let old = state g.S.Store l.fn.tx.conn.now in
    let new = state g.S.Store l.tx.conn.now in
    record {
      same_reference : l.tx.conn.ghost_name ≡ l.fn.tx.conn.ghost_name;
      made : (s t : Schema) → MakeInTurn (map (λ x. x.now) l.texts) s t → HasCleanDisk new → IsBare s old →
          (mid : Schema) × IsBare mid new × MakeInTurn (drop l.text-index (map (λ x. x.now) l.texts)) mid t;
      inside : HasCleanDisk new → IsInside old → IsInside new;
      kept : KeepsInside old new;
      crash : LeavesNothing old new;
    }
