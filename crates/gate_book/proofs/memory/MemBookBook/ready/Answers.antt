use Rattle.std.proofs.Common.{◌∙◌, sym, ap, subst, rules}
use Rattle.gate_types.specs.Tables.{Tables}
use Rattle.gate_book_trait.specs.RowReads.{AreReady}
use Rattle.gate_book_trait.proofs.ReadLemmas.{ready_are}
use Rattle.gate_book_trait.proofs.ReadingLemmas.{is_read}
use Rattle.gate_book.specs.Memory.{Held, tables_of}
use Rattle.gate_book.proofs.memory.MemBookBook.ready.Goals as goal

pub returns : goal.returns
returns c = is_read (λ _ s x held lawful.
    let same = ap (λ (m : Held). m.tables) (c.self.view_is ∙ held) in
    let are : AreReady (tables_of c.self.inside.tables).changes x.state.ready =
    subst (λ (t : Tables). AreReady t.changes x.state.ready) (sym same) (ready_are s x lawful) in
    c.in_ok-ready.ensures x.state.ready are)
    (search rules) (search rules)
