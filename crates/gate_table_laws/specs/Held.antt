-- When a book over a file holds a content, and what a crash of it leaves.
use Rattle.std.proofs.Common.{inl, inr}
use Rattle.std.specs.Prelude.{◌≡◌, ◌⊎◌, ◌++◌, true, ℕ, IsTrue, List, [], ◌∷◌, map}
use Rattle.sqlite.specs.State.{State}
use Rattle.sqlite.specs.Tree.{Trees}
use Rattle.gate_types.specs.Once.{Content}
use Rattle.gate_types.specs.Settings.{Settings, are_sound}
use Rattle.gate_types.specs.declared.config.Queue.{Queue}
use Rattle.gate_schema.specs.Schema.{gate_schema}
use Rattle.gate_rows.specs.Matches.{StandsFor}

-- the connection is on the gate's schema, and its tables stand for a content
pub record IsShownFor (s : State) (c : Settings) (x : Content) : Type 0 where
  pub schema_is : s.now.schema ≡ gate_schema
  pub stands : StandsFor s.now.trees c x

-- while the connection answers at all, its tables stand for a content
abbrev pub ShowsFor : State → Settings → Content → Type 0
ShowsFor s c x = IsTrue s.is_open → IsShownFor s c x

-- the names of the queues of the settings
abbrev pub queue_names : Settings → List (List ℕ)
queue_names c = map (λ (q : Queue). q.name) c.queues

-- a book that knows these queues, over such a connection, holds a content under sound settings
pub record HoldsFor (s : State) (names : List (List ℕ)) (c : Settings) (x : Content) : Type 0 where
  pub sound : are_sound c ≡ true
  pub names_are : names ≡ queue_names c
  pub shows : ShowsFor s c x

-- the tables stand for one of these contents
abbrev pub StandsForOne : Trees → Settings → List Content → Type 0
StandsForOne db c [] = ⊥
StandsForOne db c (x ∷ xs) = StandsFor db c x ⊎ StandsForOne db c xs

-- and so of one content more
pub one_more : (db : Trees) (c : Settings) (xs : List Content) (x : Content) → StandsForOne db c xs →
    StandsForOne db c (xs ++ x ∷ [])
one_more db c [] x none = absurd none
one_more db c (y ∷ ys) x (inl here) = inl here
one_more db c (y ∷ ys) x (inr there) = inr (one_more db c ys x there)

-- whatever a crash of the connection leaves stands for one of these contents
abbrev pub LeavesFor : State → Settings → List Content → Type 0
LeavesFor s c xs = (db : Trees) → s.may_leave db → StandsForOne db c xs

-- the book holds one of these contents
abbrev pub HoldsForOne : State → List (List ℕ) → Settings → List Content → Type 0
HoldsForOne s names c [] = ⊥
HoldsForOne s names c (x ∷ xs) = HoldsFor s names c x ⊎ HoldsForOne s names c xs
