use Rattle.std.proofs.Common.{Some, ◌∙◌, ap, arith, map, rules, slice_get, sym}
use Rattle.gate_archive_queries.specs.Asked.{left_row}
use Rattle.gate_archive_queries.proofs.LeftReads.{first_shows}
use Rattle.gate_archive_queries.proofs.left_reads.first_left.Goals as goal

pub returns-in_err-left_from-in-len1-up : goal.returns-in_err-left_from-in-len1-up
returns-in_err-left_from-in-len1-up c ls are form =
    let at = first_shows ls c.args.rows.now c.row-item.result (omega arith) c.row-item.is are form in
    let unblamed = c.in_err-left_from-in-len1-up.ensures at.one at.is at.in_form in
    search rules

pub returns-in_ok-left_from-in-len1-up : goal.returns-in_ok-left_from-in-len1-up
returns-in_ok-left_from-in-len1-up c ls are form =
    let at = first_shows ls c.args.rows.now c.row-item.result (omega arith) c.row-item.is are form in
    ap Some (c.in_ok-left_from-in-len1-up.ensures at.one at.is at.in_form) ∙ ap (λ l. slice_get (map left_row l) 0) (sym at.split)
