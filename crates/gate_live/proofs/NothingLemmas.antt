-- What agrees with nothing in memory, and what a read says of two contents.
use Rattle.std.proofs.Common.{◌≡◌, ◌≢◌, Ok, Err, Result, refl, sym, subst, ◌∙◌}
use Rattle.std.specs.Prelude.{IsErr}
use Rattle.gate_types.specs.Settings.{Settings}
use Rattle.gate_types.specs.Once.{Content}
use Rattle.gate_book_trait.specs.declared.fault.BookFault.{BookFault}
use Rattle.gate_book_trait.specs.Reads.{Answers}
use Rattle.gate_live.specs.Parts.{Agrees, Parts, nothing}
use Rattle.gate_live.proofs.HeldBuildLemmas.{none_held}

-- nothing agrees with each content
pub nothing_agrees : (p : Parts) (c : Settings) (x : Content) → p ≡ nothing → Agrees p c x
nothing_agrees p c x is =
    subst (λ (q : Parts). Agrees q c x) (sym is) (record { tables = tt; builds = none_held x.state.builds; plans = tt; changes = tt })

-- what answers two different values is a fault
pub fails_between : {T : Type 0} (a b : T) (result : Result T BookFault) → Answers a result → Answers b result → a ≢ b → IsErr result
fails_between a b (Ok r) first second differ = absurd (differ (sym first ∙ second))
fails_between a b (Err f) first second differ = refl
