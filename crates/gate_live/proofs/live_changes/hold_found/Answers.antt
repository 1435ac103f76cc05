use Rattle.std.proofs.Common.{◌≡◌, ◌∙◌, Option, Some, ap, sym, subst}
use Rattle.std.specs.Prelude.{option_map}
use Rattle.gate_types.specs.Tables.{change_in}
use Rattle.gate_live.specs.HeldChanges.{AnyAreHeldOf, AreRowsOf, changes_held}
use Rattle.gate_live.specs.declared.held_changes.HeldChanges.{HeldChanges}
use Rattle.gate_live.proofs.ChangeEditLemmas.{number_is}
use Rattle.gate_live.proofs.live_changes.hold_found.Goals as goal

pub returns-in-Some-found-clause-held : goal.returns-in-Some-found-clause-held
returns-in-Some-found-clause-held c n all found before =
    let k = c.in-Some-found.change in
    let known : Some k ≡ change_in all n = sym c.in-Some-found.is ∙ found in
    let held : AreRowsOf (changes_held c.in-Some.changes) all =
    subst (λ (o : Option HeldChanges). AnyAreHeldOf (option_map changes_held o) all) c.in-Some.is before in
    c.hold_known.ensures.held all (known ∙ ap (change_in all) (sym (number_is all n k known))) held
