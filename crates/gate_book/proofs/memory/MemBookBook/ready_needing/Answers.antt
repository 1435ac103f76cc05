use Rattle.std.proofs.Common.{◌∙◌, ap, rules}
use Rattle.gate_types.specs.Tables.{Tables}
use Rattle.gate_book_trait.specs.RowReads.{AreReady, ready_needing_in}
use Rattle.gate_book_trait.proofs.ReadingLemmas.{is_read}
use Rattle.gate_book.specs.Memory.{Held, tables_of}
use Rattle.gate_book_trait.proofs.ReadLemmas.{ready_are, ready_needing_are}
use Rattle.gate_book.proofs.memory.MemBookBook.ready_needing.Goals as goal

pub returns : goal.returns
returns c = is_read (λ _ s x held lawful.
    let n = c.args.change in
    let same = ap (λ (t : Tables). t.changes) (ap (λ (m : Held). m.tables) (c.self.view_is ∙ held)) in
    let are : AreReady (tables_of c.self.inside.tables).changes x.state.ready = rw same (ready_are s x lawful) in
    c.in_ok-ready_needing.ensures x.state.ready are
    ∙ ap (λ rows. ready_needing_in rows n x.state.ready) same
    ∙ ready_needing_are s x n x.state.ready)
    (search rules) (search rules)
