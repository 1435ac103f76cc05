use Rattle.std.proofs.Common.{◌∙◌, sym, arith, rules}
use Rattle.std.proofs.lemmas.Bool.{eqb-true}
use Rattle.std.proofs.KnownBytes.{Consumes-kept}
use Rattle.gate_http.proofs.HeadLemmas.{ended, comes_nothing, comes_part, took_one, comes_whole, still_open}
use Rattle.gate_http.proofs.HeadLemmas.{comes_too_much, head_waits}
use Rattle.gate_http.proofs.head.read_head.Goals as goal

pub returns-then-is_empty-clause-ok : goal.returns-then-is_empty-clause-ok
returns-then-is_empty-clause-ok g c =
    comes_nothing _ _ _ (ended _ _ _ _ _ _ c.loop-byte.invariant.read c.in-Ok-eq0.ensures.bytes c.in-Ok-eq0.field-0-test
    (omega arith))
    (sym c.loop-byte.head.ok.0 ∙ eqb-true _ 0 (sym c.if-is_empty.ensures))

pub returns-else-is_empty-clause-ok : goal.returns-else-is_empty-clause-ok
returns-else-is_empty-clause-ok g c =
    comes_part _ _ _ c.loop-byte.invariant.no_head (omega arith)
    (ended _ _ _ _ _ _ c.loop-byte.invariant.read c.in-Ok-eq0.ensures.bytes c.in-Ok-eq0.field-0-test (omega arith))
    (λ e. grind (arith, c.if-is_empty.ensures))

pub returns-in-Err-clause-waits : goal.returns-in-Err-clause-waits
returns-in-Err-clause-waits g c =
    head_waits _ _ _ c.loop-byte.invariant.no_head (omega arith)
    (Consumes-kept _ _ _ _ c.loop-byte.invariant.read c.in-Err.ensures.bytes)

pub returns-then-ends-clause-ok : goal.returns-then-ends-clause-ok
returns-then-ends-clause-ok g c =
    comes_whole c.loop-byte.head.items _ _ _ _ c.loop-byte.invariant.no_head c.push_reserved.ensures.items
    (search rules) (omega arith)
    (took_one c.loop-byte.head.items _ _ _ _ _ _ c.loop-byte.invariant.read c.in-Ok.ensures.bytes
    (omega arith) c.in-Ok.ensures.count (omega arith) c.push_reserved.ensures.items)

pub loop-byte-preserved : goal.loop-byte-preserved
loop-byte-preserved g c = record {
  unfailed = c.in-Ok.ensures.unfailed;
  read = took_one c.loop-byte.head.items _ _ _ _ _ _ c.loop-byte.invariant.read c.in-Ok.ensures.bytes
      (omega arith) c.in-Ok.ensures.count (omega arith) c.push_reserved.ensures.items;
  no_head = still_open c.loop-byte.head.items _ _ c.loop-byte.invariant.no_head c.push_reserved.ensures.items
      (search rules);
  within = omega arith;
  room = omega arith;
}

pub returns-clause-ok : goal.returns-clause-ok
returns-clause-ok g c = comes_too_much _ _ _ c.loop-byte.invariant.no_head (omega arith) c.loop-byte.invariant.read
