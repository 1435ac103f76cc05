-- What a line is answered by.
use Rattle.std.specs.Prelude.{ℕ, List, string_bytes}
use Rattle.gate_core.specs.declared.engine.LineAnswer.{LineAnswer}
use Rattle.gate_core.specs.declared.engine.LineAnswer.TheVariants.{Text, Refused}

-- its text
abbrev pub text_of : LineAnswer → List ℕ
text_of (Text s) = string_bytes s
text_of (Refused s) = s.now
