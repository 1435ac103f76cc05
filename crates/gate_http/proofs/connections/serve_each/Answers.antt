use Rattle.std.proofs.Common.{[], arith, refl, sym, ◌∙◌, true≢false}
use Rattle.std.proofs.KnownBytes.{Appends-nil}
use Rattle.gate_http.proofs.ConnectionLemmas.{called_on, called_within, told_still, told_on, uncalled}
use Rattle.gate_http.proofs.connections.serve_each.Goals as goal
use Rattle.gate_http.proofs.connections.serve_each.Goals.{in-Err, in_default-serve_shared}

pub loop-preserved : goal.loop-preserved
loop-preserved g c = record {
  gate = called_on g.B.Book.IsTrusted g.B.Book.Holds g.B.Book.LeavesOneOf c.loop.counter c.args.gate.now c.loop.gate
      c.serve_shared.new.gate c.loop.invariant.gate c.serve_shared.ensures.gate;
  told = elim c.match-serve_shared.branch [
    | in-Err w ↦ rw w.errors-is (told_on g.E.Write.contents c.loop.counter c.args.errors.now c.loop.errors _ _
        c.loop.invariant.told w.tell.ensures.told w.tell.ensures.silent)
    | in_default-serve_shared w ↦ rw w.errors-is (told_still g.E.Write.contents c.loop.counter c.args.errors.now
        c.loop.errors c.loop.invariant.told)
  ];
}

pub loop-init : goal.loop-init
loop-init g c = record {
  gate = uncalled g.B.Book.IsTrusted g.B.Book.Holds g.B.Book.LeavesOneOf 0 c.args.gate.now c.args.gate.now refl;
  told = (
    [],
    omega arith,
    record {
      whole = λ e. Appends-nil _;
      cut = λ e. absurd (true≢false (sym e ∙ c.requires.errors));
    },
  );
}

pub returns-in_default-clause-gate : goal.returns-in_default-clause-gate
returns-in_default-clause-gate g c =
    called_within g.B.Book.IsTrusted g.B.Book.Holds g.B.Book.LeavesOneOf c.loop.counter c.args.count c.args.gate.now
    c.loop.gate (omega (arith, c.loop.auto.counter-end)) c.loop.invariant.gate
