use Rattle.std.proofs.Common.{◌≡◌, ◌∙◌, ◌<◌, not, true, false, length, sym, ap, arith}
use Rattle.gate_types.specs.declared.records.Build.{Build}
use Rattle.gate_memory.specs.Builds.{is_build_of}
use Rattle.gate_memory.proofs.SwapLemmas.{left_out, moved_up}
use Rattle.gate_memory.proofs.builds.keep_other.Goals as goal

pub returns-then-is_of-clause-kept : goal.returns-then-is_of-clause-kept
returns-then-is_of-clause-kept c =
    let b = c.index.result.now in
    let within : c.args.position < length c.args.rows.now.items = omega (arith, c.args.rows.now.ok.0) in
    let fails : not (is_build_of c.args.serial b) ≡ false = ap not (sym c.is_of.ensures ∙ c.if-is_of.true) in
    left_out (λ (x : Build). not (is_build_of c.args.serial x)) c.args.rows.now.items c.args.end c.args.position b within c.index.ensures fails

pub returns-clause-kept : goal.returns-clause-kept
returns-clause-kept c =
    let b = c.index.result.now in
    let within : c.args.position < length c.args.rows.now.items = omega (arith, c.args.rows.now.ok.0) in
    let passes : not (is_build_of c.args.serial b) ≡ true = ap not (sym c.is_of.ensures ∙ c.if-is_of.false) in
    moved_up (λ (x : Build). not (is_build_of c.args.serial x)) c.args.rows.now.items c.swap.new.self.items c.args.end c.args.position b
    c.requires.order within c.index.ensures passes c.swap.ensures.items
