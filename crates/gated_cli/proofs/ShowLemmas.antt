-- What printing the texts of a gate comes to: over its file, and on the streams.
use Rattle.std.proofs.Common.{refl, ◌≡◌, ◌⊎◌, inl, inr, sym, subst, ap, Bool, true, false, List, Option, ℕ}
use Rattle.std.specs.Prelude.{Err, IfErr, None, Ok, OnErr, OnOk, Result}
use Rattle.std.specs.Io.KnownBytes.{Appends}
use Rattle.gate_types.specs.Tap.{has_failed, inside, Took, TookFront}
use Rattle.gate_types.specs.Gated.{Gated}
use Rattle.gate_types.specs.declared.tap.Tap.{Tap}
use Rattle.gate_types.specs.declared.open_fault.OpenFault.{OpenFault}
use Rattle.gated_cli.specs.Doing.{Looks, Prints, PrintsShown, Streams, beside, status_of}
use Rattle.gated_cli.specs.Ending.{AskingEnds, HistoryEnds, LinesEnd, ShowingEnds, StatusEnds}
use Rattle.gated_cli.specs.OfFile.{TextOf}
use Rattle.gated_cli.specs.OverFile.{file_fault}
use Rattle.gated_cli.specs.Showing.{EndsWell, LeavesStatus, StopsShown, StopsContent, StopsHistory, StopsLines}
use Rattle.gated_cli.specs.Showing.{StopsStatus, Writes, WritesStatus}
use Rattle.gated_cli.specs.declared.run.fault.Fault.{Fault}
use Rattle.gated_cli.specs.declared.run.fault.Fault.TheVariants as fault
use Rattle.gated_cli.specs.declared.run.shown.Shown.{Shown}
use Rattle.gated_cli.specs.declared.run.shown.Shown.TheVariants as shown

-- ---- the status

-- a status that is written
pub status_shown : {W : Type 0} (held : W → Option (List ℕ)) (r : Result (Unit {0}) Fault) (x : Unit {0}) (g : Gated) (old new : Tap W) → r ≡ Ok x →
    WritesStatus g held old new r → Took held old new (status_of g)
status_shown held r x g old new is writes = subst (WritesStatus g held old new) is writes

-- why a status isn't written whole
pub status_breaks : {W : Type 0} (held : W → Option (List ℕ)) (r : Result (Unit {0}) Fault) (f : Fault) (g : Gated) (old new : Tap W) → r ≡ Err f →
    WritesStatus g held old new r → file_fault r ≡ None → StopsStatus held old new f →
    ((f ≡ fault.Unavailable) × (new ≡ old)) ⊎ ((f ≡ fault.Write) × (has_failed new ≡ true) × TookFront held old new (status_of g))
status_breaks held r f g old new is writes opened stops =
    go f (subst (WritesStatus g held old new) is writes) (subst (λ r. file_fault r ≡ None) is opened) stops
  where
    go : (f : Fault) → LeavesStatus g held old new f → file_fault {T = Unit {0}} (Err f) ≡ None → StopsStatus held old new f →
        ((f ≡ fault.Unavailable) × (new ≡ old)) ⊎ ((f ≡ fault.Write) × (has_failed new ≡ true) × TookFront held old new (status_of g))
    go fault.Write leaves opened stops = inr (refl, stops.0, leaves)
    go fault.Unavailable leaves opened stops = inl (refl, stops)
    go (fault.File o) leaves opened stops = cc
    go (fault.Settings s) leaves opened stops = absurd stops
    go fault.Read leaves opened stops = absurd stops
    go fault.NoMemory leaves opened stops = absurd stops
    go fault.Listener leaves opened stops = absurd stops
    go fault.SettingsFile leaves opened stops = absurd stops
    go fault.NoQueue leaves opened stops = absurd stops
    go fault.Store leaves opened stops = absurd stops
    go fault.NoDelivery leaves opened stops = absurd stops
    go fault.Refused leaves opened stops = absurd stops

-- a text is printed
prints : {W : Type 0} (held : W → Option (List ℕ)) (old new : Tap W) → (has_failed new ≡ false) × (text : List ℕ) × Took held old new text →
    (left : Option (List ℕ)) → (failed : Bool) → Prints (beside held left failed old) (beside held left failed new)
prints held old new h left failed = record {
  looks = record { unread = refl; unfailed = h.0 };
  text = h.1;
  written = h.2;
}

-- a fault of a status, on the streams
status_ends : {W : Type 0} (held : W → Option (List ℕ)) (old new : Tap W) (f : Fault) → StopsStatus held old new f →
    (left : Option (List ℕ)) → (failed : Bool) → StatusEnds f (beside held left failed old) (beside held left failed new)
status_ends held old new fault.Write h left failed = record { cut = record { unread = refl; failed = h.0 }; text = h.1; written = h.2 }
status_ends held old new fault.Unavailable h left failed = ap (beside held left failed) h
status_ends held old new (fault.File o) h left failed = (tt, ap (beside held left failed) h)
status_ends held old new (fault.Settings s) h left failed = absurd h
status_ends held old new fault.Read h left failed = absurd h
status_ends held old new fault.NoMemory h left failed = absurd h
status_ends held old new fault.Listener h left failed = absurd h
status_ends held old new fault.SettingsFile h left failed = absurd h
status_ends held old new fault.NoQueue h left failed = absurd h
status_ends held old new fault.Store h left failed = absurd h
status_ends held old new fault.NoDelivery h left failed = absurd h
status_ends held old new fault.Refused h left failed = absurd h

-- what was printed of it, or why not, and then closed
status_closes : {W : Type 0} (held : W → Option (List ℕ)) (old new : Tap W) (done result : Result (Unit {0}) Fault) →
    OnErr done (result ≡ done) → OnOk done (IfErr result (λ f. f ≡ fault.Store)) →
    OnOk done ((has_failed new ≡ false) × (text : List ℕ) × Took held old new text) → IfErr done (StopsStatus held old new) →
    IfErr result (λ f. (left : Option (List ℕ)) → (failed : Bool) → StatusEnds f (beside held left failed old) (beside held left failed new))
status_closes held old new (Ok x) (Ok y) kept store ok err = tt
status_closes held old new (Ok x) (Err f) kept store ok err =
    λ left failed. subst (λ f. StatusEnds f (beside held left failed old) (beside held left failed new)) (sym store) (prints held old new ok left failed)
status_closes held old new (Err f) result kept store ok err =
    subst (λ r. IfErr r (λ f. (left : Option (List ℕ)) → (failed : Bool) → StatusEnds f (beside held left failed old) (beside held left failed new))) (sym kept) (status_ends held old new f err)

-- ---- a history

-- the input is left alone, and the output hasn't failed
looks : {W : Type 0} (held : W → Option (List ℕ)) (old new : Tap W) → has_failed new ≡ false →
    (left : Option (List ℕ)) → (failed : Bool) → Looks (beside held left failed old) (beside held left failed new)
looks held old new h left failed = record { unread = refl; unfailed = h }

-- a fault of a history, on the streams
history_ends : {W : Type 0} (held : W → Option (List ℕ)) (old new : Tap W) (f : Fault) → StopsHistory old new f →
    (left : Option (List ℕ)) → (failed : Bool) → HistoryEnds f (beside held left failed old) (beside held left failed new)
history_ends held old new fault.Write h left failed = record { unread = refl; failed = h }
history_ends held old new fault.Store h left failed = record { unread = refl; unfailed = h }
history_ends held old new fault.Unavailable h left failed = ap (beside held left failed) h
history_ends held old new fault.NoQueue h left failed = ap (beside held left failed) h
history_ends held old new (fault.File o) h left failed = (tt, ap (beside held left failed) h)
history_ends held old new (fault.Settings s) h left failed = absurd h
history_ends held old new fault.Read h left failed = absurd h
history_ends held old new fault.NoMemory h left failed = absurd h
history_ends held old new fault.Listener h left failed = absurd h
history_ends held old new fault.SettingsFile h left failed = absurd h
history_ends held old new fault.NoDelivery h left failed = absurd h
history_ends held old new fault.Refused h left failed = absurd h

-- what was printed, or why not, and then closed: how it ends is known of each fault of printing, and where it can't be closed
look_closes : {W : Type 0} (held : W → Option (List ℕ)) (old new : Tap W) (Stops : Fault → Type 0) (Ends : Fault → Streams → Streams → Type 0)
    (done result : Result (Unit {0}) Fault) → OnErr done (result ≡ done) → OnOk done (IfErr result (λ f. f ≡ fault.Store)) →
    OnOk done (has_failed new ≡ false) → IfErr done Stops →
    ((f : Fault) → Stops f → (left : Option (List ℕ)) → (failed : Bool) → Ends f (beside held left failed old) (beside held left failed new)) →
    ((b a : Streams) → Looks b a → Ends fault.Store b a) →
    IfErr result (λ f. (left : Option (List ℕ)) → (failed : Bool) → Ends f (beside held left failed old) (beside held left failed new))
look_closes held old new Stops Ends (Ok x) (Ok y) kept store ok err stopped unclosed = tt
look_closes held old new Stops Ends (Ok x) (Err f) kept store ok err stopped unclosed =
    λ left failed. subst (λ f. Ends f (beside held left failed old) (beside held left failed new)) (sym store)
    (unclosed (beside held left failed old) (beside held left failed new) (looks held old new ok left failed))
look_closes held old new Stops Ends (Err f) result kept store ok err stopped unclosed =
    subst (λ r. IfErr r (λ f. (left : Option (List ℕ)) → (failed : Bool) → Ends f (beside held left failed old) (beside held left failed new))) (sym kept) (stopped f err)

-- ---- deliveries

-- a fault of printing deliveries, on the streams
lines_end : {W : Type 0} (held : W → Option (List ℕ)) (old new : Tap W) (f : Fault) → StopsLines old new f →
    (left : Option (List ℕ)) → (failed : Bool) → LinesEnd f (beside held left failed old) (beside held left failed new)
lines_end held old new fault.Write h left failed = record { unread = refl; failed = h }
lines_end held old new fault.Store h left failed = record { unread = refl; unfailed = h }
lines_end held old new fault.Unavailable h left failed = ap (beside held left failed) h
lines_end held old new fault.NoDelivery h left failed = ap (beside held left failed) h
lines_end held old new (fault.File o) h left failed = (tt, ap (beside held left failed) h)
lines_end held old new (fault.Settings s) h left failed = absurd h
lines_end held old new fault.Read h left failed = absurd h
lines_end held old new fault.NoMemory h left failed = absurd h
lines_end held old new fault.Listener h left failed = absurd h
lines_end held old new fault.SettingsFile h left failed = absurd h
lines_end held old new fault.NoQueue h left failed = absurd h
lines_end held old new fault.Refused h left failed = absurd h

-- ---- what is asked as over HTTP

-- a fault of it, on the streams
asking_ends : {W : Type 0} (held : W → Option (List ℕ)) (old new : Tap W) (f : Fault) → StopsContent old new f →
    (left : Option (List ℕ)) → (failed : Bool) → AskingEnds f (beside held left failed old) (beside held left failed new)
asking_ends held old new fault.Write h left failed = record { unread = refl; failed = h }
asking_ends held old new fault.Store h left failed = record { unread = refl; unfailed = h }
asking_ends held old new fault.Refused h left failed = record { unread = refl; unfailed = h }
asking_ends held old new fault.NoMemory h left failed = (tt, ap (beside held left failed) h)
asking_ends held old new (fault.File o) h left failed = (tt, ap (beside held left failed) h)
asking_ends held old new (fault.Settings s) h left failed = absurd h
asking_ends held old new fault.Read h left failed = absurd h
asking_ends held old new fault.Unavailable h left failed = absurd h
asking_ends held old new fault.Listener h left failed = absurd h
asking_ends held old new fault.SettingsFile h left failed = absurd h
asking_ends held old new fault.NoQueue h left failed = absurd h
asking_ends held old new fault.NoDelivery h left failed = absurd h

-- ---- any of them

-- a file that isn't opened leaves the output alone
pub stops_unopened : {W : Type 0} (s : Shown) (held : W → Option (List ℕ)) (at : Tap W) (f : OpenFault)
    → StopsShown s held at at (fault.File f)
stops_unopened shown.Status held at f = refl
stops_unopened (shown.History queue) held at f = refl
stops_unopened (shown.Deliveries behind) held at f = refl
stops_unopened (shown.Content path) held at f = refl

-- a text that is written, on the streams
pub shows : {W : Type 0} (s : Shown) (held : W → Option (List ℕ)) (old new : Tap W) → EndsWell s held old new →
    (left : Option (List ℕ)) → (failed : Bool) → PrintsShown s (beside held left failed old) (beside held left failed new)
shows shown.Status held old new h = prints held old new h
shows (shown.History queue) held old new h = looks held old new h
shows (shown.Deliveries behind) held old new h = looks held old new h
shows (shown.Content path) held old new h = looks held old new h

-- and it is the one of the gate
pub told_of : {W : Type 0} (s : Shown) (g : Gated) (held : W → Option (List ℕ)) (old new : Tap W) (u : Unit {0}) →
    Writes s g held old new (Ok u) → TextOf s g (Appends (held (inside old)) (held (inside new)))
told_of shown.Status g held old new u h = h
told_of (shown.History queue) g held old new u h = h
told_of (shown.Deliveries behind) g held old new u h = h
told_of (shown.Content path) g held old new u h = h

-- what was printed, or why not, and then closed
pub show_closes : {W : Type 0} (s : Shown) (held : W → Option (List ℕ)) (old new : Tap W)
    (done result : Result (Unit {0}) Fault) → OnErr done (result ≡ done) →
    OnOk done (IfErr result (λ f. f ≡ fault.Store)) → OnOk done (EndsWell s held old new) →
    IfErr done (StopsShown s held old new) → IfErr result (λ f. (left : Option (List ℕ)) → (failed : Bool) →
    ShowingEnds s f (beside held left failed old) (beside held left failed new))
show_closes shown.Status held old new done result kept store ok err =
    status_closes held old new done result kept store ok err
show_closes (shown.History queue) held old new done result kept store ok err =
    look_closes held old new (StopsHistory old new) HistoryEnds done result kept store ok err
    (history_ends held old new) (λ b a l. l)
show_closes (shown.Deliveries behind) held old new done result kept store ok err =
    look_closes held old new (StopsLines old new) LinesEnd done result kept store ok err
    (lines_end held old new) (λ b a l. l)
show_closes (shown.Content path) held old new done result kept store ok err =
    look_closes held old new (StopsContent old new) AskingEnds done result kept store ok err
    (asking_ends held old new) (λ b a l. l)

-- ---- either

-- what is so of a command that ended well is so where the file was closed well too
pub closed_well : {X Y : Type 0} (done result : Result (Unit {0}) Fault) → OnErr done (result ≡ done) → OnOk done X → (X → Y) → OnOk result Y
closed_well (Ok x) (Ok y) kept is to = to is
closed_well (Ok x) (Err f) kept is to = tt
closed_well (Err f) (Ok y) kept is to = cc
closed_well (Err f) (Err g) kept is to = tt
