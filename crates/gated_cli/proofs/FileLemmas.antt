-- From a gate over a book of tables to a conversation over a file.
use Rattle.std.proofs.Common.{refl, ◌≡◌, ◌≢◌, ◌∙◌, inl, inr, sym, subst, true, Bool, List, [], ◌∷◌, Option, ℕ}
use Rattle.std.specs.Prelude.{Err, IfErr, IsErrOf, IsTrue, None, Ok, OnErr, OnOk, Result}
use Rattle.sqlite.specs.State.{HasCleanDisk, State}
use Rattle.sqlite.specs.Tree.{Trees}
use Rattle.gate_types.specs.Adopt.{may_adopt, adopted_content}
use Rattle.gate_types.specs.Forms.{IsLawfulContent}
use Rattle.gate_types.specs.Once.{Call, Content}
use Rattle.gate_types.specs.Settings.{Settings}
use Rattle.gate_types.specs.Gated.{Gated}
use Rattle.gate_core.specs.Left.{LeavesBy, left_after}
use Rattle.gate_core.specs.declared.gate.Gate.{Gate}
use Rattle.gate_core.specs.Held.{IsOver, Goes}
use Rattle.gate_core.specs.Holding.{GateHolds, book_of, settings_of}
use Rattle.gate_core.specs.declared.fault.ReplayFault.{ReplayFault}
use Rattle.gate_core.specs.declared.fault.ReplayFault.TheVariants as replay
use Rattle.gate_live.specs.Both.{HoldsBoth}
use Rattle.gate_live.specs.declared.live_book.LiveBook.{LiveBook}
use Rattle.gate_rows.specs.Matches.{StandsFor}
use Rattle.gate_file_changes.specs.Adopts.{StandsForLawful}
use Rattle.gate_table_laws.specs.Held.{LeavesFor, ShowsFor}
use Rattle.gated_cli.specs.Doing.{Announces, Delivers, Streams}
use Rattle.gated_cli.specs.Ending.{AnnouncementIsCut, DeliveryEnds, DeliveryIsCut, DeliveryStops, IsOfFile}
use Rattle.gated_cli.specs.Ending.{IsOfMaking, IsOfServing, ServingEnds}
use Rattle.gated_cli.specs.Faults.{of_replay}
use Rattle.gated_cli.specs.OverFile.{GoesOver, IsOfServingOver, OpensTo, StaysLawful, file_fault}
use Rattle.gated_cli.specs.declared.run.fault.Fault.{Fault}
use Rattle.gated_cli.specs.declared.run.fault.Fault.TheVariants as fault

-- ---- faults

-- a fault of a replay that is told as one of reading is that
pub of_read : {T U : Type 0} (f : ReplayFault) (g : Fault) → g ≡ of_replay f → IsErrOf {T = T} (Err g) fault.Read → IsErrOf {T = U} (Err f) replay.Read
of_read replay.Read g is e = refl
of_read replay.Write g is e = cc
of_read replay.NoMemory g is e = cc

-- and of writing
pub of_write : {T U : Type 0} (f : ReplayFault) (g : Fault) → g ≡ of_replay f → IsErrOf {T = T} (Err g) fault.Write → IsErrOf {T = U} (Err f) replay.Write
of_write replay.Read g is e = cc
of_write replay.Write g is e = refl
of_write replay.NoMemory g is e = cc

-- and of want of memory
pub of_no_memory : {T U : Type 0} (f : ReplayFault) (g : Fault) → g ≡ of_replay f → IsErrOf {T = T} (Err g) fault.NoMemory → IsErrOf {T = U} (Err f) replay.NoMemory
of_no_memory replay.Read g is e = cc
of_no_memory replay.Write g is e = cc
of_no_memory replay.NoMemory g is e = refl

-- another one is want of memory
pub of_memory : {U : Type 0} (f : ReplayFault) (g : Fault) → g ≡ of_replay f → g ≢ fault.Read → g ≢ fault.Write → IsErrOf {T = U} (Err f) replay.NoMemory × IsOfFile g
of_memory replay.Read g is unread unwritten = absurd (unread is)
of_memory replay.Write g is unread unwritten = absurd (unwritten is)
of_memory replay.NoMemory g is unread unwritten = (refl, subst IsOfFile (sym is) tt)

-- none of them is one of the file
pub no_replay_fault : (f : ReplayFault) (g : Fault) → g ≡ of_replay f → file_fault {T = Unit {0}} (Err g) ≡ None
no_replay_fault replay.Read g is = subst (λ h. file_fault {T = Unit {0}} (Err h) ≡ None) (sym is) refl
no_replay_fault replay.Write g is = subst (λ h. file_fault {T = Unit {0}} (Err h) ≡ None) (sym is) refl
no_replay_fault replay.NoMemory g is = subst (λ h. file_fault {T = Unit {0}} (Err h) ≡ None) (sym is) refl

-- what follows from each of them
pub of_each : {U : Type 0} (X : Type 0) (f : ReplayFault) → (IsErrOf {T = U} (Err f) replay.Read → X) → (IsErrOf {T = U} (Err f) replay.Write → X) →
    (IsErrOf {T = U} (Err f) replay.NoMemory → X) → X
of_each X replay.Read read write memory = read refl
of_each X replay.Write read write memory = write refl
of_each X replay.NoMemory read write memory = memory refl

-- ---- the gate over the file

-- its settings are those that the file is opened with
settings_are : (s : State) (c : Settings) (g : Gated) → OpensTo s c g → g.settings ≡ c
settings_are s c g (inl file) = file.settings
settings_are s c g (inr other) = other.settings

-- its content is lawful
is_lawful : (s : State) (c : Settings) (g : Gated) → StaysLawful c → OpensTo s c g → IsLawfulContent c g.content
is_lawful s c g stays (inl file) = file.lawful
is_lawful s c g stays (inr other) =
    subst (λ x. IsLawfulContent c x) (sym other.becomes) (stays other.kept other.before other.keeps.sound other.may other.keeps.lawful)

-- and what holds both of what the tables stand for and of what it becomes holds of it
pub opens_to : (Holds : Content → Type 0) (s : State) (c : Settings) (g : Gated) →
    (IsTrue s.is_open → (x : Content) → StandsFor s.now.trees c x → Holds x) →
    (IsTrue s.is_open → (k : Settings) (x : Content) → StandsForLawful s.now.trees k x → may_adopt k c ≡ true → Holds (adopted_content k c x)) →
    OpensTo s c g → Holds g.content
opens_to Holds s c g opens adopts (inl file) = opens file.up g.content file.stands
opens_to Holds s c g opens adopts (inr other) = subst Holds (sym other.becomes) (adopts other.up other.kept other.before other.keeps other.may)

-- if a file was just opened, a crash leaves the content of its gate
pub opened_leaves : (s new : State) (c : Settings) (g : Gated) →
    (IsTrue s.is_open → (x : Content) → StandsFor s.now.trees c x → (db : Trees) → new.may_leave db → StandsFor db c x) →
    (IsTrue s.is_open → (k : Settings) (x : Content) → StandsForLawful s.now.trees k x → may_adopt k c ≡ true →
    (db : Trees) → new.may_leave db → StandsFor db c (adopted_content k c x)) →
    OpensTo s c g → LeavesFor new c (g.content ∷ [])
opened_leaves s new c g settled adopted file =
    λ db may. inl (opens_to (λ x. (db : Trees) → new.may_leave db → StandsFor db c x) s c g settled adopted file db may)

-- and after calls it leaves what they leave of that content
pub leaves_called : {B : Type 0} (leaves : B → Settings → List Content → Type 0) (old new : Gate B) (c : Settings)
    (g : Gated) (ks : List Call) → g.settings ≡ c → LeavesBy leaves old new g ks → leaves (book_of old) c (g.content ∷ []) →
    leaves (book_of new) c (left_after c g.content ks (g.content ∷ []))
leaves_called leaves old new c g ks is by was =
    subst (λ k. leaves (book_of old) k (g.content ∷ []) → leaves (book_of new) k (left_after k g.content ks (g.content ∷ []))) is
    (by (g.content ∷ [])) was

-- what a gate over the book goes to, its file goes to, where a book that holds a content shows it
pub goes_over : {B : Type 0} (at : B → State) (holds : B → Settings → Content → Type 0)
    (leaves : B → Settings → List Content → Type 0) →
    ((b : B) (k : Settings) (x : Content) → holds b k x → ShowsFor (at b) k x) → (before : State) (c : Settings)
    (old new : Gate B) (P Q : Gated → Gated → Type 0) → settings_of old ≡ c → StaysLawful c →
    (HasCleanDisk (at (book_of old)) → (g : Gated) → OpensTo before c g → GateHolds holds old g.content) →
    (HasCleanDisk (at (book_of old)) → (g : Gated) → OpensTo before c g → leaves (book_of old) c (g.content ∷ [])) →
    (HasCleanDisk (at (book_of new)) → (g after : Gated) → g.settings ≡ c → IsOver holds old g →
    leaves (book_of old) c (g.content ∷ []) → P g after → Q g after) →
    Goes (λ b. HasCleanDisk (at b)) holds old new P → GoesOver before (at (book_of new)) c Q
goes_over at holds leaves shows before c old new P Q is stays opens left gives goes up g file =
    let clean = goes.trusted_before up in
    let settings = settings_are before c g file in
    let over : IsOver holds old g = record {
      settings = settings ∙ sym is;
      held = opens clean g file;
      lawful = subst (λ k. IsLawfulContent k g.content) (sym is) (is_lawful before c g stays file);
    } in
    let went = goes.passes up g over in
    let still = goes.settings ∙ is in (
      went.0,
      record {
        settings = went.1.settings ∙ still;
        shows = shows (book_of new) c went.0.content (subst (λ k. holds (book_of new) k went.0.content) still went.1.held.book);
        lawful = subst (λ k. IsLawfulContent k went.0.content) still went.1.lawful;
      },
      gives up g went.0 settings over (left clean g file) went.2,
    )

-- and so where the gate is over a book that holds in memory what is live of that one
pub goes_over_live : {B : Type 0} (at : B → State) (holds : B → Settings → Content → Type 0)
    (leaves : B → Settings → List Content → Type 0) →
    ((b : B) (k : Settings) (x : Content) → holds b k x → ShowsFor (at b) k x) → (before : State) (c : Settings) (book : B)
    (made : LiveBook B) (old new : Gate (LiveBook B)) (P Q : Gated → Gated → Type 0) → settings_of old ≡ c → StaysLawful c →
    (HasCleanDisk (at made.book) → HasCleanDisk (at book)) →
    (HasCleanDisk (at made.book) → (x : Content) → holds book c x → HoldsBoth holds made c x) →
    (HasCleanDisk (at made.book) → (x : Content) → holds book c x →
    (ys : List Content) → leaves book c ys → leaves made.book c ys) → (book_of old) ≡ made →
    ((x : Content) → HoldsBoth holds made c x → GateHolds (λ r k x. HoldsBoth holds r k x) old x) →
    (HasCleanDisk (at book) → (g : Gated) → OpensTo before c g → holds book c g.content) →
    (HasCleanDisk (at book) → (g : Gated) → OpensTo before c g → leaves book c (g.content ∷ [])) →
    ((g after : Gated) → g.settings ≡ c → leaves (book_of old).book c (g.content ∷ []) → P g after → Q g after) →
    Goes (λ r. HasCleanDisk (at r.book)) (λ r k x. HoldsBoth holds r k x) old new P → GoesOver before (at (book_of new).book) c Q
goes_over_live at holds leaves shows before c book made old new P Q is stays trusted filled kept same held opens left gives goes =
    goes_over (λ r. at r.book) (λ r k x. HoldsBoth holds r k x) (λ r k ys. leaves r.book k ys)
    (λ r k x held. shows r.book k x held.below) before c old new P Q is stays
    (λ was g file.
    let clean = subst (λ r. HasCleanDisk (at r.book)) same was in
    held g.content (filled clean g.content (opens (trusted clean) g file)))
    (λ was g file.
    let clean = subst (λ r. HasCleanDisk (at r.book)) same was in
    subst (λ r. leaves r.book c (g.content ∷ [])) (sym same)
    (kept clean g.content (opens (trusted clean) g file) (g.content ∷ []) (left (trusted clean) g file)))
    (λ clean g after set over was p. gives g after set was p) goes

-- ---- serving

-- a fault of serving is none of the file
pub no_file_fault : (X : Fault → Type 0) (r : Result (Unit {0}) Fault) → IfErr r (λ f. IsOfServing f × X f) → file_fault r ≡ None
no_file_fault X (Ok x) h = refl
no_file_fault X (Err (fault.File o)) h = absurd h.0
no_file_fault X (Err (fault.Settings s)) h = refl
no_file_fault X (Err fault.NoMemory) h = refl
no_file_fault X (Err fault.Unavailable) h = refl
no_file_fault X (Err fault.Read) h = refl
no_file_fault X (Err fault.Write) h = refl
no_file_fault X (Err fault.Listener) h = refl
no_file_fault X (Err fault.SettingsFile) h = refl
no_file_fault X (Err fault.NoQueue) h = refl
no_file_fault X (Err fault.Store) h = refl
no_file_fault X (Err fault.NoDelivery) h = refl
no_file_fault X (Err fault.Refused) h = refl

-- and one of serving over a file
serving_over : (f : Fault) → IsOfServing f → IsOfServingOver f
serving_over fault.Listener of = tt
serving_over fault.Write of = tt
serving_over fault.NoMemory of = tt
serving_over (fault.File o) of = tt
serving_over (fault.Settings s) of = absurd of
serving_over fault.Unavailable of = absurd of
serving_over fault.Read of = absurd of
serving_over fault.SettingsFile of = absurd of
serving_over fault.NoQueue of = absurd of
serving_over fault.Store of = absurd of
serving_over fault.NoDelivery of = absurd of
serving_over fault.Refused of = absurd of

pub serving_over_file : (X : Fault → Type 0) (r : Result (Unit {0}) Fault) → IfErr r (λ f. IsOfServing f × X f) → IfErr r (λ f. IsOfServingOver f × X f)
serving_over_file X (Ok x) h = tt
serving_over_file X (Err f) h = (serving_over f h.0, h.1)

-- the output failed within the line
pub line_is_cut : (asked : ℕ) (f : Fault) (b a : Option (List ℕ) → Bool → Streams) → f ≡ fault.Write →
    ((left : Option (List ℕ)) → (failed : Bool) → AnnouncementIsCut asked (b left failed) (a left failed)) →
    IsOfServing f × ((left : Option (List ℕ)) → (failed : Bool) → ServingEnds asked f (b left failed) (a left failed))
line_is_cut asked f b a is cut =
    subst (λ f. IsOfServing f × ((left : Option (List ℕ)) → (failed : Bool) → ServingEnds asked f (b left failed) (a left failed))) (sym is) (tt, cut)

-- ---- closing the file

-- a fault of a file is one of making it
making_of : (f : Fault) → IsOfFile f → IsOfMaking f
making_of (fault.File o) of = tt
making_of fault.NoMemory of = tt
making_of (fault.Settings s) of = absurd of
making_of fault.Unavailable of = absurd of
making_of fault.Read of = absurd of
making_of fault.Write of = absurd of
making_of fault.SettingsFile of = absurd of
making_of fault.Listener of = absurd of
making_of fault.NoQueue of = absurd of
making_of fault.Store of = absurd of
making_of fault.NoDelivery of = absurd of
making_of fault.Refused of = absurd of

-- what was made, or why not, and then closed
pub made_ends : (done result : Result (Unit {0}) Fault) → OnErr done (result ≡ done) → OnOk done (IfErr result (λ f. f ≡ fault.Store)) →
    IfErr done IsOfFile → IfErr result IsOfMaking
made_ends (Ok x) (Ok y) kept store of = tt
made_ends (Ok x) (Err f) kept store of = subst IsOfMaking (sym store) tt
made_ends (Err f) result kept store of = subst (λ r. IfErr r IsOfMaking) (sym kept) (making_of f of)

-- a fault of answering over a file
answering_of : (f : Fault) (b a : Streams) → (IsErrOf {T = Unit {0}} (Err f) fault.Read → DeliveryStops b a) → (IsErrOf {T = Unit {0}} (Err f) fault.Write → DeliveryIsCut b a) →
    (f ≢ fault.Read → f ≢ fault.Write → IsOfFile f × (a ≡ b)) → DeliveryEnds f b a
answering_of fault.Read b a stops cut other = stops refl
answering_of fault.Write b a stops cut other = cut refl
answering_of (fault.File o) b a stops cut other = (tt, (other (λ e. cc) (λ e. cc)).1)
answering_of fault.NoMemory b a stops cut other = (tt, (other (λ e. cc) (λ e. cc)).1)
answering_of (fault.Settings s) b a stops cut other = absurd (other (λ e. cc) (λ e. cc)).0
answering_of fault.Unavailable b a stops cut other = absurd (other (λ e. cc) (λ e. cc)).0
answering_of fault.SettingsFile b a stops cut other = absurd (other (λ e. cc) (λ e. cc)).0
answering_of fault.Listener b a stops cut other = absurd (other (λ e. cc) (λ e. cc)).0
answering_of fault.NoQueue b a stops cut other = absurd (other (λ e. cc) (λ e. cc)).0
answering_of fault.Store b a stops cut other = absurd (other (λ e. cc) (λ e. cc)).0
answering_of fault.NoDelivery b a stops cut other = absurd (other (λ e. cc) (λ e. cc)).0
answering_of fault.Refused b a stops cut other = absurd (other (λ e. cc) (λ e. cc)).0

-- what was answered, or why not, and then closed
pub delivery_ends : (done result : Result (Unit {0}) Fault) (b a : Streams) → OnErr done (result ≡ done) → OnOk done (IfErr result (λ f. f ≡ fault.Store)) →
    OnOk done (Delivers b a) → (IsErrOf done fault.Read → DeliveryStops b a) → (IsErrOf done fault.Write → DeliveryIsCut b a) →
    IfErr done (λ f. f ≢ fault.Read → f ≢ fault.Write → IsOfFile f × (a ≡ b)) → IfErr result (λ f. DeliveryEnds f b a)
delivery_ends (Ok x) (Ok y) b a kept store ok stops cut other = tt
delivery_ends (Ok x) (Err f) b a kept store ok stops cut other = subst (λ f. DeliveryEnds f b a) (sym store) ok
delivery_ends (Err f) result b a kept store ok stops cut other = subst (λ r. IfErr r (λ f. DeliveryEnds f b a)) (sym kept) (answering_of f b a stops cut other)

-- what was served, or why not, and then closed
pub serving_ends : (asked : ℕ) (done result : Result (Unit {0}) Fault) (b a : Option (List ℕ) → Bool → Streams) →
    OnErr done (result ≡ done) → OnOk done (IfErr result (λ f. f ≡ fault.Store)) →
    OnOk done ((left : Option (List ℕ)) → (failed : Bool) → Announces asked (b left failed) (a left failed)) →
    IfErr done (λ f. IsOfServingOver f × ((left : Option (List ℕ)) → (failed : Bool) → ServingEnds asked f (b left failed) (a left failed))) →
    IfErr result (λ f. (left : Option (List ℕ)) → (failed : Bool) → ServingEnds asked f (b left failed) (a left failed))
serving_ends asked (Ok x) (Ok y) b a kept store ok err = tt
serving_ends asked (Ok x) (Err f) b a kept store ok err =
    λ left failed. subst (λ f. ServingEnds asked f (b left failed) (a left failed)) (sym store) (ok left failed)
serving_ends asked (Err f) result b a kept store ok err =
    subst (λ r. IfErr r (λ f. (left : Option (List ℕ)) → (failed : Bool) → ServingEnds asked f (b left failed) (a left failed))) (sym kept) err.1
