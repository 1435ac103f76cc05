use Rattle.std.proofs.Common.{Bool, false, ◌≡◌, ◌&&◌, not, ap, ◌∙◌}
use Rattle.gate_laws.proofs.Tests.{and_true}

-- an item that isn't blocked is cut where it fails fast and has failed
pub when_unblocked : {cut : Bool} (fast failed : Bool) → cut ≡ fast && not false && failed → cut ≡ fast && failed
when_unblocked fast failed h = h ∙ ap (λ t. t && failed) (and_true fast)
