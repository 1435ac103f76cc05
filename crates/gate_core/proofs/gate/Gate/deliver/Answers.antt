use Rattle.std.proofs.Common.{rules, ◌≡◌, true}
use Rattle.gate_types.specs.Settings.{are_sound}
use Rattle.gate_core.proofs.LandingLemmas.{lands_rightly}
use Rattle.gate_core.proofs.gate.Gate.deliver.Goals as goal

pub returns-clause-answered : goal.returns-clause-answered
returns-clause-answered g c trusted x held lawful =
    let told = held.recent lawful in
    let h = c.deliver.ensures.answered trusted x held.book lawful told in
    record {
      answer = h.answer;
      content = record { book = h.content; recent = λ _. c.deliver.ensures.recent trusted x held.book lawful told };
      lawful = h.lawful;
      crash = h.crash;
    }

pub returns-clause-lands : goal.returns-clause-lands
returns-clause-lands g c trusted x held lawful =
    let sound : are_sound c.args.self.now.config ≡ true = search rules in
    let h = c.deliver.ensures.answered trusted x held.book lawful (held.recent lawful) in
    lands_rightly c.a_shown_order_stays.ensures c.only_shown_orders_are_answered.ensures _ x _ _ sound lawful h.lawful h.answer

pub returns-clause-forgets : goal.returns-clause-forgets
returns-clause-forgets g c trusted x held lawful unavailable =
    c.deliver.ensures.forgets trusted x held.book lawful unavailable
