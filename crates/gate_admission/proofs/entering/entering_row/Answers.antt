use Rattle.std.proofs.Common.{◌≡◌, Option, [], sym, ap, rules}
use Rattle.std.specs.Prelude.{unwrap_or}
use Rattle.gate_types.specs.declared.records.Change.{Change}
use Rattle.gate_types.specs.declared.records.Stage.TheVariants as stage
use Rattle.gate_types.specs.State.{change_of}
use Rattle.gate_book_trait.proofs.ReadingLemmas.{is_read}
use Rattle.gate_admission.proofs.entering.entering_row.Goals as goal

pub returns : goal.returns
returns g c = is_read (λ trusted s x holds lawful v led known failing there serial.
    let k = c.args.change.now in
    let revision : k.revision ≡ (change_of v k.number).revision =
    ap (λ (o : Option Change). (unwrap_or o (record {
      number = k.number;
      project = [];
      revision = 0;
      stage = stage.Closed;
      needs = [];
    })).revision) (sym known) in
    let ahead = c.in_ok-ahead.ensures.found trusted s x holds lawful v led there serial in
    λ i. record {
      serial = serial i;
      change = k.number;
      revision = revision i;
      ahead = ahead i;
      failing = failing i;
    })
    (search rules) (search rules)
