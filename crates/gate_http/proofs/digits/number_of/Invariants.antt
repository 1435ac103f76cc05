-- The digits so far, and the number that they write, cut at one past the most.
use Rattle.std.proofs.Common.{◌≡◌, ◌+◌, true, take, min}
use Rattle.std.specs.List.{list_all}
use Rattle.std.specs.Char.{is_ascii_digit}
use Rattle.std.specs.Str.Parse.{digits_value}
use Rattle.gate_http.proofs.digits.number_of.Given as goal

abbrev pub invariant-loop-digit : goal.invariant-loop-digit
invariant-loop-digit l = record {
  digits : list_all is_ascii_digit (take l.digit-index l.text) ≡ true;
  number : l.n ≡ min (digits_value 10 (take l.digit-index l.text)) (l.most + 1);
}
