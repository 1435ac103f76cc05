use Rattle.std.proofs.Common.{◌≡◌, ◌∙◌, List, [], sym, ap, subst}
use Rattle.gate_types.specs.declared.rows.ChangeRow.{ChangeRow}
use Rattle.gate_types.specs.Keys.{number_of_change}
use Rattle.gate_types.specs.Tables.{needs_in}
use Rattle.gate_types.proofs.ChangedLemmas.{needs_of_row}
use Rattle.gate_book_trait.proofs.Finding.{found_has}
use Rattle.gate_memory.specs.Needs.{TellsNoneOf}
use Rattle.gate_memory.specs.Changes.{in_order}
use Rattle.gate_memory.proofs.changes.forget_row.Goals as goal

pub returns-in-Some-clause-gone : goal.returns-in-Some-clause-gone
returns-in-Some-clause-gone c =
    let rows : List ChangeRow = in_order number_of_change c.args.rows.now in
    let n = c.args.number in
    let has : c.in-Some.row.now.change.number ≡ n = found_has number_of_change n c.in-Some.row.now rows c.in-Some.ensures in
    let needs : needs_in rows n ≡ c.as_slice.result.now = sym (ap needs_of_row c.in-Some.ensures) ∙ sym c.as_slice.ensures in
    rw needs (subst (λ k. TellsNoneOf c.forget_needs.new.index.items k c.as_slice.result.now) has c.forget_needs.ensures.gone)

pub returns-in-Some-clause-others : goal.returns-in-Some-clause-others
returns-in-Some-clause-others c p ne there =
    let n = c.args.number in
    let has : c.in-Some.row.now.change.number ≡ n = found_has number_of_change n c.in-Some.row.now (in_order number_of_change c.args.rows.now) c.in-Some.ensures in
    c.forget_needs.ensures.others p (λ e. ne (e ∙ has)) there

pub returns-in_default-clause-gone : goal.returns-in_default-clause-gone
returns-in_default-clause-gone c =
    let rows : List ChangeRow = in_order number_of_change c.args.rows.now in
    let needs : needs_in rows c.args.number ≡ [] = sym (ap needs_of_row c.in_default.ensures) in
    rw needs tt
