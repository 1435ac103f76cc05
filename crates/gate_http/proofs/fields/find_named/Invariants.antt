-- The fields so far, of that name.
use Rattle.std.proofs.Common.{map, take}
use Rattle.httparse.specs.Spans.{header_bytes}
use Rattle.gate_http.specs.Fields.{named}
use Rattle.gate_http.specs.Parts.{ShowsNamed}
use Rattle.gate_http.proofs.fields.find_named.Given as goal

abbrev pub invariant-loop-header : goal.invariant-loop-header
invariant-loop-header l =
    ShowsNamed l.head l.found (named l.name (map (header_bytes l.head) (take l.header-index l.headers)))
