use Rattle.std.proofs.Common.{◌≡◌, true, sym, subst}
use Rattle.gate_types.specs.Forms.{is_delivery_in_form}
use Rattle.gate_laws.proofs.TypedForms.{revision_in_form}
use Rattle.gate_laws.proofs.typed.delivery_is_in_form.Goals as goal

pub returns-in-Revision : goal.returns-in-Revision
returns-in-Revision c =
    subst (λ d. is_delivery_in_form d ≡ true) (sym c.in-Revision.is)
    (revision_in_form c.in-Revision.change c.in-Revision.project c.in-Revision.revision c.in-Revision.message c.as_str-text.result.now c.get-number.ensures.range c.as_str-name.ensures.form c.get-latest.ensures.range c.as_str-text.ensures.form c.as_str-text.ensures.value c.as_str-text.utf8)
