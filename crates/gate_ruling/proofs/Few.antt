-- Counters are at most 10^15, and so are a queue's reports and landings.
use Rattle.std.proofs.Common.{◌≡◌, ◌≤◌, true, ◌&&◌, length, arith}
use Rattle.std.specs.Prelude.{nat_le}
use Rattle.std.proofs.lemmas.Bool.{and_parts, leb-true}
use Rattle.gate_types.specs.Counters.{Drawn, last_number}
use Rattle.gate_types.specs.Settings.{Settings}
use Rattle.gate_types.specs.State.{Queue}
use Rattle.gate_types.specs.Once.{Content}
use Rattle.gate_types.specs.Forms.{IsLawfulContent, are_counters_in_form}
use Rattle.gate_types.specs.Rising.{In}
use Rattle.gate_laws.proofs.Members.{every}
use Rattle.gate_laws.proofs.FewRows.{rows_are_few}

order_small : (d : Drawn) → are_counters_in_form d ≡ true → d.order ≤ last_number
order_small d h =
    leb-true d.order last_number
    (and_parts (nat_le d.approval last_number && nat_le d.build last_number)
    (nat_le d.order last_number) h).1

pub few_reports : (c : Settings) (x : Content) → IsLawfulContent c x → (q : Queue) → In q x.state.queues →
    length q.reports ≤ last_number
few_reports c x h q m =
    let few = every (λ (o : Queue). length o.reports ≤ x.state.counters.order) x.state.queues
    (rows_are_few c x.state h.lawful.sound h.in_form.state).reports q m in
    let top = order_small x.state.counters h.in_form.state.counters in
    omega (arith, few, top)

pub few_landings : (c : Settings) (x : Content) → IsLawfulContent c x → (q : Queue) → In q x.state.queues →
    length q.landings ≤ last_number
few_landings c x h q m =
    let few = every (λ (o : Queue). length o.landings ≤ x.state.counters.order) x.state.queues
    (rows_are_few c x.state h.lawful.sound h.in_form.state).landings q m in
    let top = order_small x.state.counters h.in_form.state.counters in
    omega (arith, few, top)
