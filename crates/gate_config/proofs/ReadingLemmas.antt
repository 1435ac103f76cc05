-- The document of bytes, by what the reader of TOML answers.
use Rattle.std.proofs.Common.{◌≡◌, ℕ, List, Option, Some, None, option_map, refl, ap, cond, true, false, Bool, ◌∙◌}
use Rattle.std.specs.Str.{IsUtf8, is_utf8}
use Rattle.std.proofs.lemmas.Str.{is_utf8-from_IsUtf8, IsUtf8-from_is_utf8}
use Rattle.toml.specs.Data.{Members, table}
use Rattle.toml.specs.Parse.{parse_document}
use Rattle.gate_config.specs.Reading.{document}

pub document_found : (bytes : List ℕ) (ms : Members) → IsUtf8 bytes → parse_document bytes ≡ Some ms → document bytes ≡ Some (table ms)
unfolding document
document_found bytes ms u e = ap (λ t. cond t (option_map table (parse_document bytes)) None) (is_utf8-from_IsUtf8 bytes u) ∙ ap (option_map table) e

none_by : (t : Bool) (o : Option Members) → (t ≡ true → o ≡ None) → cond t (option_map table o) None ≡ None
none_by true o h = ap (option_map table) (h refl)
none_by false o h = refl

pub document_none : (bytes : List ℕ) → (IsUtf8 bytes → parse_document bytes ≡ None) → document bytes ≡ None
unfolding document
document_none bytes h = none_by (is_utf8 bytes) (parse_document bytes) (λ e. h (IsUtf8-from_is_utf8 bytes e))
