-- What a server tells of its connections, and then of its own fault.
use Rattle.std.proofs.Common.{◌≡◌, ◌≤◌, ◌++◌, ◌∙◌, ℕ, Bool, true, false, List, [], length, Option, ap, arith, inl}
use Rattle.std.proofs.Common.{inr, refl, subst, sym}
use Rattle.std.specs.Prelude.{Result, Ok, Err, IfErr, OnOk}
use Rattle.std.proofs.KnownBytes.{Appends-nil, Appends-trans}
use Rattle.gate_types.proofs.TapLemmas.{writes_later, writes_sooner}
use Rattle.gate_types.specs.Tap.{has_failed, inside}
use Rattle.gate_types.specs.declared.tap.Tap.{Tap}
use Rattle.gate_http.specs.declared.request_fault.RequestFault.{RequestFault}
use Rattle.gate_http.specs.Connections.{FaultsAreTold, fault_lines}
use Rattle.std.proofs.lemmas.Bool.{true≢false}
use Rattle.gated_cli.specs.Ending.{TellsText}
use Rattle.gated_cli.specs.Faults.{line_of}
use Rattle.gated_cli.specs.Telling.{TellsUpTo, ToldBy, TellsBy}
use Rattle.gated_command.specs.declared.words.Cmd.{Cmd}
use Rattle.gated_command.specs.declared.words.Cmd.TheVariants.{Check, Init, Replay, Deliver, Status, History}
use Rattle.gated_command.specs.declared.words.Cmd.TheVariants.{Deliveries, Get, Serve, Migrate}
use Rattle.gated_cli.specs.declared.run.fault.Fault.{Fault}

module _ {E : Type 0} (held : E → Option (List ℕ)) where
  none_told : (tap : Tap E) → has_failed tap ≡ false → FaultsAreTold held tap tap []
  none_told tap unfailed = record {
    whole = λ _. Appends-nil (held (inside tap));
    cut = λ failed. absurd (true≢false (sym failed ∙ unfailed));
  }

  -- nothing is told
  pub none_so_far : (most : ℕ) (old new : Tap E) → has_failed old ≡ false → new ≡ old → TellsUpTo held most old new
  none_so_far most old new unfailed same =
      subst (TellsUpTo held most old) (sym same) ([], omega arith, none_told old unfailed)

  -- one fault's line behind the lines of connections
  behind : (most : ℕ) (old mid new : Tap E) (f : Fault) (failed : Bool) → has_failed mid ≡ failed
      → TellsUpTo held most old mid → (has_failed mid ≡ false → TellsText held mid new (line_of f))
      → (has_failed mid ≡ true → new ≡ mid)
      → (faults : List RequestFault) × (length faults ≤ most) × TellsText held old new (fault_lines faults ++ line_of f)
  behind most old mid new f false is h told silent = (
    h.0,
    h.1,
    elim (told is) [
      | inl took ↦ inl (Appends-trans (held (inside old)) (held (inside mid)) (held (inside new)) (fault_lines h.0) (line_of f) (h.2.whole is) took)
      | inr cut ↦ inr (
        writes_later (held (inside old)) (held (inside mid)) (held (inside new)) (fault_lines h.0) (line_of f) (h.2.whole is) cut.0,
        cut.1,
      )
    ],
  )
  behind most old mid new f true is h told silent = (
    h.0,
    h.1,
    subst (λ t. TellsText held old t (fault_lines h.0 ++ line_of f)) (sym (silent is))
        (inr (writes_sooner (held (inside old)) (held (inside mid)) (fault_lines h.0) (line_of f) (h.2.cut is), is)),
  )

  -- a fault's line where nothing was told
  alone : (old mid new : Tap E) (f : Fault) → has_failed old ≡ false → mid ≡ old
      → (has_failed mid ≡ false → TellsText held mid new (line_of f)) → TellsText held old new (line_of f)
  alone old mid new f unfailed same told =
      subst (λ t. TellsText held t new (line_of f)) same (told (ap has_failed same ∙ unfailed))

  -- what a command had told, and then its fault
  pub told_then : (cmd : Cmd) (old mid new : Tap E) (f : Fault) → has_failed old ≡ false → ToldBy held cmd old mid
      → (has_failed mid ≡ false → TellsText held mid new (line_of f)) → (has_failed mid ≡ true → new ≡ mid)
      → TellsBy held f cmd old new
  told_then (Check settings) old mid new f unfailed so_far told silent = alone old mid new f unfailed so_far told
  told_then (Init settings file) old mid new f unfailed so_far told silent = alone old mid new f unfailed so_far told
  told_then (Replay settings status) old mid new f unfailed so_far told silent = alone old mid new f unfailed so_far told
  told_then (Deliver settings file) old mid new f unfailed so_far told silent = alone old mid new f unfailed so_far told
  told_then (Status settings file) old mid new f unfailed so_far told silent = alone old mid new f unfailed so_far told
  told_then (History settings file queue) old mid new f unfailed so_far told silent = alone old mid new f unfailed so_far told
  told_then (Deliveries settings file after_id) old mid new f unfailed so_far told silent = alone old mid new f unfailed so_far told
  told_then (Get settings file path) old mid new f unfailed so_far told silent = alone old mid new f unfailed so_far told
  told_then (Migrate settings file) old mid new f unfailed so_far told silent = alone old mid new f unfailed so_far told
  told_then (Serve settings file port count) old mid new f unfailed so_far told silent =
      behind count old mid new f (has_failed mid) refl so_far told silent

-- a status of 0 has no fault
pub is_done : {T : Type 0} (X Y : Type 0) (P : Fault → Type 0) (d : Result T Fault) (n : ℕ)
    → OnOk d ((n ≡ 0) × X) → IfErr d (λ f. (n ≡ 1) × P f) → OnOk d Y → n ≡ 0 → X × Y
is_done X Y P (Ok x) n done told does e = (done.1, does)
is_done X Y P (Err f) n done told does e = let bad : 0 ≡ 1 = sym e ∙ told.0 in absurd (omega arith)
