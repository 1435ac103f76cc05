-- What is let go behind edits.
use Rattle.std.proofs.Common.{◌≡◌, true, false, Option, None, Some, refl, sym, true≢false}
use Rattle.std.specs.Prelude.{is_some, option_map}
use Rattle.std.specs.Option.{option_or}

-- the first of two, where it is one
pub some_first : {X Y : Type 0} (f : X → Y) (o : Option X) (rest : Option Y) → is_some o ≡ true → is_some (option_or (option_map f o) rest) ≡ true
some_first f None rest some = absurd (true≢false (sym some))
some_first f (Some x) rest some = refl

-- and the other, where it isn't
pub none_first : {X Y : Type 0} (f : X → Y) (o : Option X) (rest : Option Y) → is_some o ≡ false → option_or (option_map f o) rest ≡ rest
none_first f None rest none = refl
none_first f (Some x) rest none = absurd (true≢false none)
