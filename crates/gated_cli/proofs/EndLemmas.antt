-- How a command ends with a fault.
use Rattle.std.proofs.Common.{◌≡◌, ℕ, Bool, true, subst, sym, inl, inr, ◌∙◌, arith}
use Rattle.std.specs.Prelude.{Result, Ok, Err, OnOk, IfErr, IsErrOf, Option, List}
use Rattle.gate_core.specs.Lines.{ReadFor}
use Rattle.gate_core.specs.declared.fault.ReplayFault.{ReplayFault}
use Rattle.gate_core.specs.declared.fault.ReplayFault.TheVariants as replay
use Rattle.gated_cli.specs.Doing.{Streams}
use Rattle.gated_cli.specs.Ending.{InputFails, ReplyIsCut, StatusIsCut, StatusIsRefused, ReplayEnds}
use Rattle.gated_cli.specs.Faults.{of_replay}
use Rattle.gated_cli.specs.declared.run.fault.Fault.{Fault}
use Rattle.gated_cli.specs.declared.run.fault.Fault.TheVariants as fault

-- what a replay's faults are to the command
pub replay_ends : {T : Type 0} (r : Result T ReplayFault) (x : ReplayFault) (asked : Bool) (b a : Streams) → r ≡ Err x
    → (IsErrOf r replay.Read → InputFails b a) → (IsErrOf r replay.Write → (a.output_failed ≡ true) × ReplyIsCut b a)
    → (IsErrOf r replay.NoMemory → a ≡ b) → ReplayEnds asked (of_replay x) b a
replay_ends r replay.Read asked b a e read write memory = read e
replay_ends r replay.Write asked b a e read write memory = ((write e).0, inl (write e).1)
replay_ends r replay.NoMemory asked b a e read write memory = (tt, memory e)

-- the same of a fault that was made from one
pub made_from : (f g : Fault) (asked : Bool) (b a : Streams) → f ≡ g → ReplayEnds asked g b a → ReplayEnds asked f b a
made_from f g asked b a e h = subst (λ f. ReplayEnds asked f b a) (sym e) h

pub refused_status : (f : Fault) (asked : Bool) (b a : Streams) → f ≡ fault.Unavailable → StatusIsRefused asked b a → ReplayEnds asked f b a
refused_status f asked b a e h = made_from f fault.Unavailable asked b a e h

pub cut_status : (f : Fault) (asked : Bool) (b a : Streams) → f ≡ fault.Write → a.output_failed ≡ true → StatusIsCut asked b a → ReplayEnds asked f b a
cut_status f asked b a e failed h = made_from f fault.Write asked b a e (failed, inr h)

-- both are so of a fault
pub both : {T : Type 0} (P Q : Fault → Type 0) (d : Result T Fault) → IfErr d P → IfErr d Q → IfErr d (λ f. P f × Q f)
both P Q (Ok x) p q = tt
both P Q (Err f) p q = (p, q)

-- a status of 1 has its fault
pub has_fault : {T : Type 0} (X : Type 0) (P Q : Fault → Type 0) (d : Result T Fault) (n : ℕ)
    → OnOk d ((n ≡ 0) × X) → IfErr d (λ f. (n ≡ 1) × P f) → IfErr d Q → n ≡ 1 → (f : Fault) × P f × Q f
has_fault X P Q (Ok x) n done told ends e = let bad : 0 ≡ 1 = sym done.0 ∙ e in absurd (omega arith)
has_fault X P Q (Err f) n done told ends e = (f, told.1, ends)

-- what is read for some lines, where their number is given by another
pub read_for : (old new : Option (List ℕ)) (lines : List (List ℕ)) (n m : ℕ) → m ≡ n → ReadFor old new lines n → ReadFor old new lines m
read_for old new lines n m e h = subst (ReadFor old new lines) (sym e) h
