-- Lines that a gate over a book was asked for, by what its book wrote.
use Rattle.std.proofs.Common.{◌≡◌, List, ℕ, ◌++◌, Option, None, Result, Ok, Err, OnOk, subst}
use Rattle.std.specs.Prelude.{⊤, IsErrOf}
use Rattle.gate_types.specs.declared.tap.Tap.{Tap}
use Rattle.gate_types.specs.Tap.{Took, TookFront}
use Rattle.gate_types.specs.Settings.{Settings}
use Rattle.gate_types.specs.Once.{Content}
use Rattle.gate_core.specs.declared.gate.Gate.{Gate}
use Rattle.gate_core.specs.Holding.{IsKeptGate, OfBook, settings_of}
use Rattle.gate_http.specs.declared.respond.StreamFault.{StreamFault}
use Rattle.gate_http.specs.declared.respond.StreamFault.TheVariants as stopped
use Rattle.gate_http.specs.Asked.{Streamed}
use Rattle.gate_http.specs.Exchange.{HasText}
use Rattle.gate_http.specs.Parts.{WritesLines}
use Rattle.gate_http.specs.Serving.{Recalls}
use Rattle.gate_http.proofs.ServingLemmas.{recalls}

module _ {B W : Type 0} (trusted : B → Type 0) (holds : B → Settings → Content → Type 0)
    (leaves : B → Settings → List Content → Type 0) (held : W → Option (List ℕ)) (old new : Gate B)
    (wanted : Streamed) (front : List ℕ) (w after : Tap W) (settings : settings_of new ≡ settings_of old)
    (kept : IsKeptGate trusted holds leaves old new) where
  -- this was written
  abbrev AreWritten : Result (Unit {0}) StreamFault → Type 0
  AreWritten r = OfBook trusted holds old new (λ x.
      WritesLines x wanted front held w after r)

  pub recalls_whole : (r : Result (Unit {0}) StreamFault) → AreWritten r
      → OnOk r (Recalls trusted holds leaves old wanted (HasText (λ t. Took held w after (front ++ t))) new)
  recalls_whole (Ok u) h = recalls trusted holds leaves old new wanted
      (HasText (λ t. Took held w after (front ++ t))) settings kept h
  recalls_whole (Err f) h = tt

  pub recalls_missing : (r : Result (Unit {0}) StreamFault) → AreWritten r → IsErrOf r stopped.Missing
      → Recalls trusted holds leaves old wanted (λ text. text ≡ None) new
  recalls_missing r h e =
      recalls trusted holds leaves old new wanted (λ text. text ≡ None) settings kept
      (subst (λ q. AreWritten q) e h)

  pub recalls_unavailable : Recalls trusted holds leaves old wanted (λ text. ⊤) new
  recalls_unavailable = recalls trusted holds leaves old new wanted (λ text. ⊤) settings kept (λ t x over lawful. tt)

  pub recalls_broken : (r : Result (Unit {0}) StreamFault) → AreWritten r → IsErrOf r stopped.Broken
      → Recalls trusted holds leaves old wanted (HasText (λ t. TookFront held w after (front ++ t))) new
  recalls_broken r h e =
      recalls trusted holds leaves old new wanted (HasText (λ t. TookFront held w after (front ++ t))) settings kept
      (subst (λ q. AreWritten q) e h)

  pub recalls_write : (r : Result (Unit {0}) StreamFault) → AreWritten r → IsErrOf r stopped.Write
      → Recalls trusted holds leaves old wanted (HasText (λ t. TookFront held w after (front ++ t))) new
  recalls_write r h e =
      recalls trusted holds leaves old new wanted (HasText (λ t. TookFront held w after (front ++ t))) settings kept
      (subst (λ q. AreWritten q) e h)
