use Rattle.std.proofs.Common.{◌∙◌, sym, ap, rules}
use Rattle.std.specs.Prelude.{option_map}
use Rattle.std.proofs.lemmas.Option.{same_Some}
use Rattle.gate_types.specs.State.{Queue}
use Rattle.gate_book_trait.proofs.ReadingLemmas.{is_read_under}
use Rattle.gate_reads.proofs.choosing.build_of_queue.Goals as goal

pub returns-in-Some : goal.returns-in-Some
returns-in-Some g c = is_read_under (λ trusted x holds lawful q named.
    let before = c.first_build.ensures.kept.trusted_before trusted in
    let held = c.in_ok-window.ensures.kept.holds_on before _ x holds in
    let window = same_Some c.in-Some.window q.window (sym c.in-Some.is
    ∙ c.in_ok-window.ensures.found before _ x holds lawful
    ∙ ap (option_map (λ (r : Queue). r.window)) named) in
    c.first_build.ensures.found trusted x held lawful q named window)
    (search rules) (search rules)
