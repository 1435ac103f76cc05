use Rattle.std.proofs.Common.{refl, sym}
use Rattle.gate_http.proofs.PhraseLemmas.{is_phrase, is_short}
use Rattle.gate_http.proofs.response.phrase_of.Goals as goal

pub returns-in-Ok-clause-value : goal.returns-in-Ok-clause-value
returns-in-Ok-clause-value c =
    let given = rw c.in-Ok.ensures.1 at c.canonical_reason.ensures.value in
    let answered = sym c.if-not-contains.ensures.value in
    rw c.unwrap_or.ensures (is_phrase c.args.status c.canonical_reason.result _ answered given refl)

pub returns-in-Ok-clause-short : goal.returns-in-Ok-clause-short
returns-in-Ok-clause-short c =
    let given = rw c.in-Ok.ensures.1 at c.canonical_reason.ensures.value in
    let answered = sym c.if-not-contains.ensures.value in
    rw c.unwrap_or.ensures (is_short c.args.status c.canonical_reason.result _ answered given refl)
