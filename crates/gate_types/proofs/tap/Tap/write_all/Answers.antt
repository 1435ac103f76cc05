use Rattle.std.proofs.Common.{rules, sym, subst}
use Rattle.std.proofs.Math.Seq.{take-add}
use Rattle.std.proofs.lemmas.List.{take_rest}
use Rattle.std.proofs.KnownBytes.{Appends-trans}
use Rattle.std.specs.Io.KnownBytes.{Appends}
use Rattle.gate_types.proofs.tap.Tap.write_all.Goals as goal

pub loop-at-preserved : goal.loop-at-preserved
loop-at-preserved g c = record {
  within = search rules;
  unfailed = search rules;
  turns = search rules;
  written = subst (Appends _ _) (sym (take-add c.loop-at.at c.in-Ok.n c.args.bytes.now))
      (Appends-trans _ _ _ _ _ c.loop-at.invariant.written (rw take_rest at c.in-Ok.ensures.bytes));
}
