-- What remains once ids have done their work.
use Rattle.std.specs.Prelude.{◌≡◌, List, map}
use Rattle.gate_types.specs.Settings.{Settings}
use Rattle.gate_types.specs.Once.{Content, Call, once, acting, state_after}

-- the state after calls is that of the deliveries that act, one after another; this knows no ids
abbrev pub OnlyActingDeliveriesCount : Type 0
OnlyActingDeliveriesCount = (c : Settings) (ks : List Call) (x : Content) → (once c x ks).state
    ≡ state_after c x.state (map (λ k. k.delivery) (acting c x ks))
