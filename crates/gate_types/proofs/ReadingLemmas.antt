-- The value of bytes, where it is known what they read as.
use Rattle.std.proofs.Common.{◌≡◌, ℕ, Bool, true, false, cond, List, Option, Some, None, refl, ap, ◌∙◌}
use Rattle.std.specs.Str.{IsUtf8, is_utf8}
use Rattle.std.proofs.lemmas.Str.{is_utf8-from_IsUtf8, IsUtf8-from_is_utf8}
use Rattle.serde_json.specs.Data.{Data}
use Rattle.serde_json.specs.Read.{read}
use Rattle.gate_types.specs.Reading.{value_of}

-- the value of text that reads
pub value_found : (bytes : List ℕ) (d : Data) → IsUtf8 bytes → read bytes ≡ Some d → value_of bytes ≡ Some d
unfolding value_of
value_found bytes d u e = ap (λ t. cond t (read bytes) None) (is_utf8-from_IsUtf8 bytes u) ∙ e

none_by : (t : Bool) (o : Option Data) → (t ≡ true → o ≡ None) → cond t o None ≡ None
none_by true o h = h refl
none_by false o h = refl

-- there is none where no text reads
pub value_none : (bytes : List ℕ) → (IsUtf8 bytes → read bytes ≡ None) → value_of bytes ≡ None
unfolding value_of
value_none bytes h = none_by (is_utf8 bytes) (read bytes) (λ e. h (IsUtf8-from_is_utf8 bytes e))
