use Rattle.std.proofs.Common.{◌≡◌, ◌∙◌, ap, sym}
use Rattle.gate_types.specs.Settings.{Settings}
use Rattle.gate_types.specs.Tables.{Tables, tables}
use Rattle.gate_types.specs.AdoptedTables.{adopted_tables}
use Rattle.gate_types.specs.Adopt.{adopted_content}
use Rattle.gate_types.proofs.AdoptedLemmas.{tables_adopted}
use Rattle.gate_book.specs.Memory.{Held, tables_of}
use Rattle.gate_book.proofs.memory.MemBook.adopt.Goals as goal

pub returns-in-Ok-adopt-clause-holds : goal.returns-in-Ok-adopt-clause-holds
returns-in-Ok-adopt-clause-holds c cs x is =
    let d = c.args.config.now in
    let was = c.self.view_is ∙ is in
    let kept : c.self.inside.config ≡ cs = ap (λ (m : Held). m.settings) was in
    let told : tables_of c.self.inside.tables ≡ tables cs x = ap (λ (m : Held). m.tables) was in
    let now : tables_of c.adopt.new.self ≡ tables d (adopted_content cs d x) =
    c.in-Ok-adopt.ensures.ok ∙ ap (λ (k : Settings). adopted_tables k d (tables_of c.self.inside.tables)) kept
    ∙ ap (adopted_tables cs d) told ∙ sym (tables_adopted cs d x) in
    ap (λ (k : Settings). record { settings = k; tables = tables_of c.adopt.new.self }) c.in-Ok.ensures
    ∙ ap (λ (t : Tables). record { settings = d; tables = t }) now
