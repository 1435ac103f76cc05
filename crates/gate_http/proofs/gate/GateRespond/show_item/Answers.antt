use Rattle.std.proofs.Common.{refl, Some, None}
use Rattle.std.specs.Prelude.{string_bytes}
use Rattle.gate_archive.specs.ItemText.{item_text}
use Rattle.gate_core.specs.Holding.{settings_of}
use Rattle.gate_http.specs.declared.respond.AnswerIfAny.TheVariants as told
use Rattle.gate_http.specs.Answer.{item_serial, told_item}
use Rattle.gate_http.specs.Asked.{item}
use Rattle.gate_http.proofs.AskedLemmas.{item_is, named_is}
use Rattle.gate_http.proofs.ServingLemmas.{responds_kept, responds_unmoved}
use Rattle.gate_http.proofs.gate.GateRespond.show_item.Goals as goal

pub returns-in-Some : goal.returns-in-Some
returns-in-Some g c =
    let config = settings_of c.args.self.now in
    responds_kept g.B.Book.IsTrusted g.B.Book.Holds g.B.Book.LeavesOneOf _ _ (item c.args.number.now)
    c.told_with.result (λ u. refl) c.item.ensures.settings c.item.ensures.kept
    (λ t x held lawful. named_is (item_text config x.state) told_item c.told_with.result
    (Some c.in-Some.serial) (item_serial c.args.number.now) c.in-Some.ensures
    (item_is (λ s. string_bytes s) c.item.result c.told_with.result (item_text config x.state c.in-Some.serial)
    c.told_with.ensures (c.item.ensures.text t x held.book lawful) c.item.ensures.unavailable))

pub returns-in-None : goal.returns-in-None
returns-in-None g c =
    responds_unmoved g.B.Book.IsTrusted g.B.Book.Holds g.B.Book.LeavesOneOf _ (item c.args.number.now)
    told.NoItem (λ u. refl)
    (λ h. named_is (item_text h.settings h.content.state) told_item told.NoItem
    None (item_serial c.args.number.now) c.in-None.ensures refl)
