-- What serving a request comes to, by what a gate held.
use Rattle.std.specs.Prelude.{ℕ, ◌≡◌, List, [], ◌∷◌, Option}
use Rattle.gate_types.specs.Settings.{Settings}
use Rattle.gate_types.specs.Once.{Content, Call}
use Rattle.gate_core.specs.Answered.{CallLeaves}
use Rattle.gate_core.specs.declared.gate.Gate.{Gate}
use Rattle.gate_core.specs.Held.{Goes}
use Rattle.gate_core.specs.Holding.{OfGate, book_of, settings_of}
use Rattle.gate_http.specs.declared.respond.AnswerIfAny.{AnswerIfAny}
use Rattle.gate_http.specs.declared.response.Form.{Form}
use Rattle.gate_http.specs.declared.response.Form.TheVariants as form
use Rattle.gate_http.specs.declared.served.Served.{Served}
use Rattle.gate_http.specs.Asked.{Asked, Streamed, tells_unavailable}
use Rattle.gate_http.specs.Way.{Way, stream}
use Rattle.gate_http.specs.Got.{way_got}
use Rattle.gate_http.specs.Answer.{AnswersBy, answer_to, calls_asked, calls_made, gate_after, stream_of, is_503}

-- what a crash leaves after at most one call; where there is none, what it could leave before
abbrev pub CrashLeaves : Settings → Content → List Call → (List Content → Type 0) → (List Content → Type 0) → Type 0
CrashLeaves c x [] left leaves = (ys : List Content) → left ys → leaves ys
CrashLeaves c x (k ∷ ks) left leaves = CallLeaves c x k left leaves

-- the same of the book of a gate, which holds this content as the call begins
abbrev pub GateLeaves : {B : Type 0} → (B → Settings → List Content → Type 0) → Gate B → Gate B → Content → List Call →
    Type 0
GateLeaves leaves old new x ks = CrashLeaves (settings_of old) x ks (leaves (book_of old) (settings_of old))
    (leaves (book_of new) (settings_of old))

-- a gate was asked this and told this: the answer and the content of the plain gate, and what a crash leaves
pub record Responds {B : Type 0} (trusted : B → Type 0) (holds : B → Settings → Content → Type 0)
    (leaves : B → Settings → List Content → Type 0) (old : Gate B) (asked : Asked) (t : AnswerIfAny) (new : Gate B)
    : Type 0 where
  pub answers : Goes trusted holds old new (λ g after.
      (t ≡ answer_to (tells_unavailable t) g asked) × (after ≡ gate_after g (calls_asked (tells_unavailable t) asked)))
  pub crash : OfGate trusted holds old new (λ x.
      GateLeaves leaves old new x (calls_asked (tells_unavailable t) asked))

-- a gate was asked for lines: what is so of them in the content, which stays; and what a crash leaves
pub record Recalls {B : Type 0} (trusted : B → Type 0) (holds : B → Settings → Content → Type 0)
    (leaves : B → Settings → List Content → Type 0) (old : Gate B) (wanted : Streamed) (P : Option (List ℕ) → Type 0)
    (new : Gate B) : Type 0 where
  pub answers : Goes trusted holds old new (λ g after. P (stream_of g.content wanted) × (after ≡ g))
  pub crash : OfGate trusted holds old new (λ x. GateLeaves leaves old new x [])

-- a request came to this text: the plain gate's answer and content, and what a crash leaves
pub record Serves {B : Type 0} (trusted : B → Type 0) (holds : B → Settings → Content → Type 0)
    (leaves : B → Settings → List Content → Type 0) (f : Form) (old new : Gate B) (w : Way) (served : Served)
    (text : List ℕ) : Type 0 where
  pub answers : Goes trusted holds old new (λ g after. AnswersBy f g w served text after)
  pub crash : OfGate trusted holds old new (λ x. GateLeaves leaves old new x (calls_made (is_503 served) w))

-- a request for lines came to a text of which this is so: the plain gate's answer and content, and what a crash
-- leaves; which text it is, is told where the book is trusted as the call ends
pub record ServesStream {B : Type 0} (trusted : B → Type 0) (holds : B → Settings → Content → Type 0)
    (leaves : B → Settings → List Content → Type 0) (f : Form) (old new : Gate B) (wanted : Streamed) (served : Served)
    (Takes : List ℕ → Type 0) : Type 0 where
  pub answers : Goes trusted holds old new (λ g after.
      (text : List ℕ) × Takes text × AnswersBy f g (stream wanted) served text after)
  pub crash : OfGate trusted holds old new (λ x. GateLeaves leaves old new x [])

-- a request came to a text of which this is so
abbrev pub ServesAs : {B : Type 0} → (B → Type 0) → (B → Settings → Content → Type 0) →
    (B → Settings → List Content → Type 0) → Form → Gate B → Gate B → Way → Served → (List ℕ → Type 0) → Type 0
ServesAs trusted holds leaves f old new (stream wanted) served Takes =
    ServesStream trusted holds leaves f old new wanted served Takes
ServesAs trusted holds leaves f old new w served Takes =
    (text : List ℕ) × Takes text × Serves trusted holds leaves f old new w served text

-- a request came to a response of which this is so
abbrev pub ServesBy : {B : Type 0} → (B → Type 0) → (B → Settings → Content → Type 0) →
    (B → Settings → List Content → Type 0) → Gate B → Gate B → Way → Served → (List ℕ → Type 0) → Type 0
ServesBy trusted holds leaves old new w served Takes =
    ServesAs trusted holds leaves form.Response old new w served Takes

-- a GET of a path came to a content of which this is so: that of the plain gate's answer; the gate stays, and a crash
-- leaves what it could leave before
pub record ServesGet {B : Type 0} (trusted : B → Type 0) (holds : B → Settings → Content → Type 0)
    (leaves : B → Settings → List Content → Type 0) (old new : Gate B) (path : List ℕ) (served : Served)
    (Takes : List ℕ → Type 0) : Type 0 where
  pub answers : Goes trusted holds old new (λ g after.
      (after ≡ g) × (text : List ℕ) × Takes text × AnswersBy form.Content g (way_got path) served text after)
  pub crash : OfGate trusted holds old new (λ x. GateLeaves leaves old new x [])
