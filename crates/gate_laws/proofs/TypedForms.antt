-- The parts of a typed revision are what its form asks.
use Rattle.std.proofs.Common.{◌≡◌, ℕ, ◌≤◌, true, ◌&&◌, List, subst, IsUtf8}
use Rattle.std.specs.Str.{is_utf8}
use Rattle.std.proofs.lemmas.Bool.{and_from}
use Rattle.std.proofs.lemmas.Str.{is_utf8-from_IsUtf8}
use Rattle.gate_types.specs.declared.deliveries.Delivery.TheVariants as delivery
use Rattle.gate_types.specs.Names.{is_path_name, is_message}
use Rattle.gate_types.specs.Forms.{is_change_number, is_revision_number, is_delivery_in_form}
use Rattle.gate_laws.proofs.Shapes.{up_to}

pub revision_in_form : (n : ℕ) (name : List ℕ) (r : ℕ) (message text : List ℕ) → (1 ≤ n) × (n ≤ 999999999) →
    is_path_name name ≡ true → (1 ≤ r) × (r ≤ 9999) → is_message message ≡ true → text ≡ message → IsUtf8 text →
    is_delivery_in_form (delivery.Revision n name r message) ≡ true
revision_in_form n name r message text hn hp hr hm e u =
    and_from (is_change_number n && is_path_name name && is_revision_number r && is_message message) (is_utf8 message)
    (and_from (is_change_number n && is_path_name name && is_revision_number r) (is_message message)
    (and_from (is_change_number n && is_path_name name) (is_revision_number r)
    (and_from (is_change_number n) (is_path_name name) (up_to 999999999 n hn.0 hn.1) hp) (up_to 9999 r hr.0 hr.1)) hm)
    (subst (λ m. is_utf8 m ≡ true) e (is_utf8-from_IsUtf8 text u))
