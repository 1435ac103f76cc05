-- Names and paths as texts, which are UTF-8, and names that are the same.
use Rattle.std.proofs.Common.{◌≡◌, ℕ, Bool, true, List, [], ◌∷◌, ◌<◌, arith, IsUtf8}
use Rattle.std.specs.List.{list_all}
use Rattle.std.specs.Str.{IsAscii}
use Rattle.std.proofs.lemmas.Bool.{and_parts}
use Rattle.std.proofs.lemmas.Bool.Decides.{nat_tests}
use Rattle.std.proofs.lemmas.Str.{IsUtf8-from_ascii}
use Rattle.std.proofs.lemmas.Str.Ascii.{IsAscii-nil, IsAscii-cons}
use lib.Pointwise.{bytes_decides}
use Rattle.gate_types.specs.Names.{same_name, is_name, is_name_byte, is_path_byte, is_path_name}

pub same_name_is : (a b : List ℕ) → same_name a b ≡ true → a ≡ b
same_name_is a b e = (bytes_decides a b).0 e

name_low : (b : ℕ) → is_name_byte b ≡ true → b < 128
name_low b h = grind (arith, nat_tests)

path_low : (b : ℕ) → is_path_byte b ≡ true → b < 128
path_low b h = grind (arith, nat_tests)

-- a text of such bytes is ASCII
all_low : (test : ℕ → Bool) → ((b : ℕ) → test b ≡ true → b < 128) → (text : List ℕ) → list_all test text ≡ true →
    IsAscii text
all_low test low [] h = IsAscii-nil
all_low test low (b ∷ bs) h = let parts = and_parts _ _ h in IsAscii-cons b bs (low b parts.0) (all_low test low bs parts.1)

-- the name of a queue or a job
pub name_utf8 : (text : List ℕ) → is_name text ≡ true → IsUtf8 text
name_utf8 text h = IsUtf8-from_ascii text (all_low is_name_byte name_low text (and_parts _ _ h).1)

-- the name of a project
pub path_utf8 : (text : List ℕ) → is_path_name text ≡ true → IsUtf8 text
path_utf8 text h = IsUtf8-from_ascii text (all_low is_path_byte path_low text (and_parts _ _ h).1)
