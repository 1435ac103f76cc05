use Rattle.std.proofs.Common.{◌≡◌, ◌∙◌, sym, ap, arith}
use Rattle.std.specs.Prelude.{option_copied}
use Rattle.gate_reads.specs.Parts.{last_serial}
use Rattle.gate_reads.proofs.RisingRows.{last_is}
use Rattle.gate_reads.proofs.part.last_above.Goals as goal

pub returns : goal.returns
returns c =
    let last : last_serial c.args.above c.args.items.now ≡ c.in_ok-last.field-0.now.serial =
    last_is c.args.above c.args.items.now c.in_ok-last.field-0.now
    (sym c.last.ensures.value ∙ ap option_copied c.in_ok-last.was) in
    grind (arith, last, c.get.ensures.value, c.then_some.ensures)
