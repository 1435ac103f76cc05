-- What asking a gate for its deliveries comes to.
use Rattle.std.proofs.Common.{refl, ◌≡◌, ◌⊎◌, inl, inr, sym, subst, ap, List, [], Option, ℕ}
use Rattle.std.specs.Prelude.{Err, IsErrOf, None, Some, option_map}
use Rattle.gate_types.specs.Settings.{Settings}
use Rattle.gate_types.specs.Once.{Content}
use Rattle.gate_types.specs.Gated.{Gated}
use Rattle.gate_types.specs.declared.records.Id.{Id}
use Rattle.gate_types.specs.declared.records.Kept.{Kept}
use Rattle.gate_types.specs.declared.tap.Tap.{Tap}
use Rattle.gate_archive.specs.Feed.{fed, feed_lines, id_named}
use Rattle.gate_archive.specs.Writes.{LeavesFeed, OfFeed, TookSome}
use Rattle.gate_archive.specs.declared.fault.FeedFault.{FeedFault}
use Rattle.gate_archive.specs.declared.fault.FeedFault.TheVariants as feed
use Rattle.gate_core.specs.declared.gate.Gate.{Gate}
use Rattle.gate_core.specs.Held.{Goes}
use Rattle.gate_core.specs.Holding.{IsKeptGate, OfBook, settings_of}
use Rattle.gate_core.proofs.HoldingLemmas.{over_kept}
use Rattle.gate_http.specs.Serving.{ServesGet}
use Rattle.gate_http.specs.declared.request_fault.RequestFault.{RequestFault}
use Rattle.gate_http.specs.declared.request_fault.RequestFault.TheVariants as request
use Rattle.gate_http.specs.declared.served.Served.{Served}
use Rattle.gate_http.specs.declared.served.Served.TheVariants.{Answered}
use Rattle.gated_cli.specs.Faults.{of_feed}
use Rattle.gated_cli.specs.Showing.{LeavesAsBefore, LeavesShown, OfLinesTold, behind_named, cursor, lines_behind}
use Rattle.gated_cli.specs.Showing.{lines_told, most_told}
use Rattle.gated_cli.specs.declared.run.fault.Fault.{Fault}
use Rattle.gated_cli.specs.declared.run.fault.Fault.TheVariants as fault

-- lines of deliveries that are written
lines_are : (kept : List Kept) (after : Option Id) (Takes : List Kept → List ℕ → Type 0) (P : List ℕ → Type 0)
    → ((told : List Kept) → (text : List ℕ) → Takes told text → P text) → OfFeed kept after most_told [] Takes
    → OfLinesTold (option_map feed_lines (fed after most_told kept)) P
lines_are kept after Takes P gives of = record {
  lines = feed_lines of.told;
  are = ap (option_map feed_lines) of.are;
  so = gives of.told (feed_lines of.told) of.taken;
}

-- why they are not written whole
pub lines_left : {W : Type 0} (held : W → Option (List ℕ)) (old new : Tap W) (kept : List Kept) (after : Option Id) (f : FeedFault)
    → LeavesFeed kept after most_told [] held old new f
    → LeavesShown (option_map feed_lines (fed after most_told kept)) held old new (of_feed f)
lines_left held old new kept after feed.NoDelivery leaves = ap (option_map feed_lines) leaves
lines_left held old new kept after feed.Unavailable leaves = tt
lines_left held old new kept after feed.Broken leaves =
    lines_are kept after (λ told. TookSome held old new) (TookSome held old new) (λ told text so. so) leaves
lines_left held old new kept after feed.Write leaves =
    lines_are kept after (λ told. TookSome held old new) (TookSome held old new) (λ told text so. so) leaves

-- what is asked of the book is so of the gate, which stays
pub goes_asked : {B : Type 0} (trusted : B → Type 0) (holds : B → Settings → Content → Type 0) (leaves : B → Settings → List Content → Type 0)
    (old new : Gate B) (P : Content → Type 0) (Q : Gated → Type 0) → OfBook trusted holds old new P
    → IsKeptGate trusted holds leaves old new → settings_of new ≡ settings_of old → ((g : Gated) → P g.content → Q g)
    → Goes trusted holds old new (λ g then. (then ≡ g) × Q g)
goes_asked trusted holds leaves old new P Q of kept settings gives = record {
  settings = settings;
  trusted_before = kept.book.trusted_before;
  passes = λ t g over. (
    g,
    over_kept trusted holds leaves old new settings kept t g over,
    (refl, gives g (of t g.content over.held.book over.lawful)),
  );
}

-- a gate that is kept leaves what it left
pub kept_leaves : {B : Type 0} (trusted : B → Type 0) (holds : B → Settings → Content → Type 0) (leaves : B → Settings → List Content → Type 0)
    (old new : Gate B) → IsKeptGate trusted holds leaves old new → LeavesAsBefore trusted holds leaves old new
kept_leaves trusted holds leaves old new kept = λ t x held lawful ys left. kept.book.leaves_on t (settings_of old) x held.book ys left

-- and so does one that was asked as by a GET
pub got_leaves : {B : Type 0} (trusted : B → Type 0) (holds : B → Settings → Content → Type 0) (leaves : B → Settings → List Content → Type 0)
    (old new : Gate B) (path : List ℕ) (Broke : List ℕ → Type 0) (X : Type 0) (f : RequestFault) →
    (IsErrOf {T = Served} (Err f) request.Write → (served : Served) × ServesGet trusted holds leaves old new path served Broke) →
    (IsErrOf {T = Served} (Err f) request.Store → ServesGet trusted holds leaves old new path (Answered 200) Broke) →
    (IsErrOf {T = Served} (Err f) request.NoMemory → (new ≡ old) × X) →
    (f ≡ request.Write) ⊎ (f ≡ request.NoMemory) ⊎ (f ≡ request.Store) → LeavesAsBefore trusted holds leaves old new
got_leaves trusted holds leaves old new path Broke X request.Write write store memory others = (write refl).1.crash
got_leaves trusted holds leaves old new path Broke X request.Store write store memory others = (store refl).crash
got_leaves trusted holds leaves old new path Broke X request.NoMemory write store memory others =
    subst (LeavesAsBefore trusted holds leaves old) (sym (memory refl).0) (λ t x held lawful ys left. left)
got_leaves trusted holds leaves old new path Broke X request.Read write store memory others = elim others [
  | inl write ↦ cc
  | inr others ↦ elim others [
    | inl memory ↦ cc
    | inr store ↦ cc
  ]
]

-- a text behind which nothing can be asked for names no delivery
pub unnamed : (after : Option (List ℕ)) (f : Fault) → Err f ≡ cursor after → f ≡ fault.NoDelivery
unnamed None f is = cc
unnamed (Some text) f is = go (id_named text) is
  where
    go : (id : Option Id) → Err f ≡ behind_named id → f ≡ fault.NoDelivery
    go None is = cc
    go (Some id) is = cc

-- then the gate isn't asked
pub unasked : {B W : Type 0} (trusted : B → Type 0) (holds : B → Settings → Content → Type 0) (gate : Gate B)
    (held : W → Option (List ℕ)) (output : Tap W) (after : Option (List ℕ)) (f : Fault) → Err f ≡ cursor after
    → Goes trusted holds gate gate (λ g then. (then ≡ g) × LeavesShown (lines_told g after) held output output f)
unasked trusted holds gate held output after f is = record {
  settings = refl;
  trusted_before = λ t. t;
  passes = λ t g over. (
    g,
    over,
    (refl, subst (λ f. LeavesShown (lines_told g after) held output output f) (sym (unnamed after f is)) (ap (lines_behind g) (sym is))),
  );
}
