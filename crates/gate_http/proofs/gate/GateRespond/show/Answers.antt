use Rattle.std.proofs.Common.{refl}
use Rattle.std.specs.Prelude.{string_bytes}
use Rattle.gate_types.specs.Status.{status_text}
use Rattle.gate_types.specs.OrderList.{order_list_text}
use Rattle.gate_archive.specs.RunningBuilds.{running_text}
use Rattle.gate_core.specs.Holding.{settings_of}
use Rattle.gate_http.specs.declared.respond.Page.TheVariants as pages
use Rattle.gate_http.specs.declared.respond.AnswerIfAny.TheVariants as told
use Rattle.gate_http.specs.Asked.{page}
use Rattle.gate_http.proofs.AskedLemmas.{shown_is}
use Rattle.gate_http.proofs.ServingLemmas.{responds_kept}
use Rattle.gate_http.proofs.gate.GateRespond.show.Goals as goal

pub returns-in-Status : goal.returns-in-Status
returns-in-Status g c =
    rw c.in-Status.is (responds_kept g.B.Book.IsTrusted g.B.Book.Holds g.B.Book.LeavesOneOf _ _ (page pages.Status)
    (told.Answer c.answer_with.result) (λ u. refl) c.status.ensures.settings c.status.ensures.kept
    (λ t x held lawful. shown_is (λ s. string_bytes s) c.status.result c.answer_with.result
    (status_text (settings_of c.args.self.now) x.state) c.answer_with.ensures (c.status.ensures.text t x held lawful)
    c.status.ensures.unavailable))

pub returns-in-Orders : goal.returns-in-Orders
returns-in-Orders g c =
    rw c.in-Orders.is (responds_kept g.B.Book.IsTrusted g.B.Book.Holds g.B.Book.LeavesOneOf _ _ (page pages.Orders)
    (told.Answer c.answer_with-in-Orders.result) (λ u. refl) c.orders.ensures.settings c.orders.ensures.kept
    (λ t x held lawful. shown_is (λ s. string_bytes s) c.orders.result c.answer_with-in-Orders.result
    (order_list_text (settings_of c.args.self.now) x.state) c.answer_with-in-Orders.ensures
    (c.orders.ensures.text t x held lawful) c.orders.ensures.unavailable))

pub returns-in-Running : goal.returns-in-Running
returns-in-Running g c =
    rw c.in-Running.is (responds_kept g.B.Book.IsTrusted g.B.Book.Holds g.B.Book.LeavesOneOf _ _ (page pages.Running)
    (told.Answer c.answer_with-in-Running.result) (λ u. refl) c.running.ensures.settings c.running.ensures.kept
    (λ t x held lawful. shown_is (λ s. string_bytes s) c.running.result c.answer_with-in-Running.result
    (running_text x.state) c.answer_with-in-Running.ensures
    (c.running.ensures.text t x held.book lawful) c.running.ensures.unavailable))
