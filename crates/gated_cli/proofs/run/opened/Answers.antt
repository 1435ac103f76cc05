use Rattle.std.proofs.Common.{◌≡◌, true, sym, subst}
use Rattle.gate_types.specs.Settings.{are_sound}
use Rattle.gate_types.specs.Once.{empty}
use Rattle.gate_types.specs.Forms.{IsLawfulContent}
use Rattle.gated_cli.proofs.run.opened.Goals as goal

pub returns : goal.returns
returns c =
    let s = c.args.config in
    let sound : are_sound s ≡ true = c.show_sound.ensures in
    let same = sym c.new-2.ensures.config in
    let lawful : IsLawfulContent s (empty s) = record {
      lawful = c.start_is_lawful.ensures s;
      in_form = c.empty_is_in_form.ensures s sound c.settings_are_in_form.ensures;
    } in
    record {
      settings = same;
      held = c.new-2.ensures.holds (empty s) c.in_ok-book.ensures;
      lawful = subst (λ k. IsLawfulContent k (empty s)) same lawful;
    }
