use Rattle.std.proofs.Common.{◌∙◌, sym, ap, subst, rules}
use Rattle.std.specs.List.{AllByRecursion}
use Rattle.std.specs.Option.{option_map_or}
use Rattle.gate_types.specs.Tables.{Tables, tables}
use Rattle.gate_book_trait.specs.RowReads.{rows_named, count_landings_below, LandingsRise}
use Rattle.gate_book_trait.proofs.ReadLemmas.{landings_are, landings_all_rise}
use Rattle.gate_book_trait.proofs.ReadingLemmas.{is_read}
use Rattle.gate_book.specs.Memory.{Held, tables_of}
use Rattle.gate_book.proofs.memory.MemBookBook.landing_before.Goals as goal

pub returns : goal.returns
returns c = is_read (λ _ s x held lawful.
    let same = ap (λ (m : Held). m.tables) (c.self.view_is ∙ held) in
    let rise : AllByRecursion LandingsRise (tables s x).queues = landings_all_rise s x lawful.lawful.sound.landings_rise in
    let here : AllByRecursion LandingsRise (tables_of c.self.inside.tables).queues =
    subst (λ (t : Tables). AllByRecursion LandingsRise t.queues) (sym same) rise in
    c.landing_before.ensures here
    ∙ ap (λ (t : Tables). option_map_or (count_landings_below c.args.serial) (rows_named t.queues c.args.queue.now) 0) same
    ∙ landings_are s x c.args.queue.now c.args.serial)
    (search rules) (search rules)
