-- The edits that settle a queue touch no rows but its own.
use Rattle.std.proofs.Common.{◌≡◌, ℕ, ◌+◌, Bool, true, false, ◌&&◌, ◌||◌, cond, Option, Some, None, is_some, List, []}
use Rattle.std.proofs.Common.{◌∷◌, map, refl, ap, ◌∙◌}
use Rattle.std.specs.Prelude.{filter, ◌==◌}
use Rattle.std.specs.List.{AllPass}
use Rattle.std.proofs.lemmas.Bool.{eq-eqb}
use Rattle.std.proofs.lemmas.List.Elements.{All-nil, All-cons, All-append}
use Rattle.gate_types.specs.Window.{Bounds}
use Rattle.gate_types.specs.declared.records.Item.{Item as ItemRow}
use Rattle.gate_types.specs.declared.records.Build.{Build}
use Rattle.gate_types.specs.declared.records.Landing.{Landing}
use Rattle.gate_types.specs.declared.records.Verdict.{Verdict}
use Rattle.gate_types.specs.declared.edits.Edit.{Edit}
use Rattle.gate_types.specs.declared.edits.Edit.TheVariants as edit
use Rattle.gate_types.specs.Names.{same_name}
use Rattle.gate_types.specs.State.{Item}
use Rattle.gate_types.specs.Line.{Place}
use Rattle.gate_types.specs.Slot.{is_cut}
use Rattle.gate_types.specs.Standing.{with_ahead, next_ahead}
use Rattle.gate_types.specs.Sweep.{verdict_of, judge, next_staying, report_of}
use Rattle.gate_types.specs.Rows.{row_of, item_of}
use Rattle.gate_types.proofs.PlainLemmas.{or_true}
use Rattle.gate_queue.specs.declared.whole_queue.facts.ItemFacts.{ItemFacts}
use Rattle.gate_queue.specs.WholeQueue.Facts.{places_by}
use Rattle.gate_queue.specs.WholeQueue.Settles.{has_item, has_build, is_own}
use Rattle.gate_queue_rules.specs.Edits.{stops, stop_edits, item_edits, edits_at, edits_after, next_reports}
use Rattle.gate_queue_rules.specs.Edits.{window_edits, window_after, edits_of_queue}
use Rattle.gate_laws.proofs.Touches.{name_itself}

-- this edit is own
abbrev IsOwn : List ℕ → List ItemRow → List Build → Edit → Type 0
IsOwn name items builds e = is_own name items builds e ≡ true

-- each of these is
abbrev Own : List ℕ → List ItemRow → List Build → List Edit → Type 0
Own name items builds es = AllPass (is_own name items builds) es

named : (name : List ℕ) (t : Bool) → t ≡ true → same_name name name && t ≡ true
named name t h = ap (λ s. s && t) (name_itself name) ∙ h

-- all of some builds are among others
abbrev Among : List Build → List Build → Type 0
Among some builds = (n : ℕ) → has_build some n ≡ true → has_build builds n ≡ true

own_stops : (name : List ℕ) (items : List ItemRow) (builds bs : List Build) (p : Place) (going : Bool) → Among bs builds → Own name items builds (stop_edits bs p going)
own_stops name items builds [] p going h = All-nil (IsOwn name items builds)
own_stops name items builds (b ∷ bs) p going h =
    by_stop (stops p going b) (own_stops name items builds bs p going (λ n e. h n (ap (λ t. b.number == n || t) e ∙ or_true (b.number == n))))
  where
    by_stop : (t : Bool) → Own name items builds (stop_edits bs p going) → Own name items builds (map (λ (x : Build). edit.StopBuild x.number) (cond t (b ∷ filter (stops p going) bs) (filter (stops p going) bs)))
    by_stop true rest = All-cons (IsOwn name items builds) (edit.StopBuild b.number) (stop_edits bs p going)
        (h b.number (ap (λ t. t || has_build bs b.number) (eq-eqb b.number b.number refl))) rest
    by_stop false rest = rest

own_item : (name : List ℕ) (items : List ItemRow) (builds : List Build) (n : ℕ) (row : ItemRow) (v : Option Verdict) → has_item items row.serial ≡ true → Own name items builds (item_edits name n row v)
own_item name items builds n row None h =
    let P : Edit → Type 0 = IsOwn name items builds in
    All-cons P (edit.PutItem name row) [] (named name (has_item items row.serial) h) (All-nil P)
own_item name items builds n row (Some v) h =
    let P : Edit → Type 0 = IsOwn name items builds in
    All-cons P (edit.PutReport name (n + 1) (report_of v (item_of row))) (edit.DropItem row.serial ∷ []) (named name (has_item items row.serial) h)
    (All-cons P (edit.DropItem row.serial) [] h (All-nil P))

own_window : (name : List ℕ) (items : List ItemRow) (builds : List Build) (old new : ℕ) → Own name items builds (window_edits name old new)
own_window name items builds old new = by_test (old == new)
  where
    by_test : (t : Bool) → Own name items builds (cond t [] (edit.SetWindow name new ∷ []))
    by_test true = All-nil (IsOwn name items builds)
    by_test false = All-cons (IsOwn name items builds) (edit.SetWindow name new) [] (name_itself name) (All-nil (IsOwn name items builds))

-- the places' items are among these
abbrev AllThere : List ItemRow → List Place → Type 0
AllThere items [] = Unit {0}
AllThere items (p ∷ ps) = (has_item items p.item.serial ≡ true) × AllThere items ps

there : (all : List ItemRow) (ls : List Landing) (is : List ItemRow) (fs : List ItemFacts) → ((n : ℕ) → has_item is n ≡ true → has_item all n ≡ true) → AllThere all (places_by ls is fs)
there all ls [] fs h = tt
there all ls (i ∷ is) [] h = tt
there all ls (i ∷ is) (f ∷ fs) h = (
  h i.serial (ap (λ t. t || has_item is i.serial) (eq-eqb i.serial i.serial refl)),
  there all ls is fs (λ n e. h n (ap (λ t. i.serial == n || t) e ∙ or_true (i.serial == n))),
)

own_after : (name : List ℕ) (items : List ItemRow) (builds : List Build) (n : ℕ) (ahead staying : List Item) (ps : List Place) → AllThere items ps → Own name items builds (edits_after name builds n ahead staying ps)
own_after name items builds n ahead staying [] h = All-nil (IsOwn name items builds)
own_after name items builds n ahead staying (p ∷ ps) h =
    let P : Edit → Type 0 = IsOwn name items builds in
    let q = with_ahead ahead p in
    let v = verdict_of builds staying q in
    All-append P (edits_at name builds n staying q) _
    (All-append P (stop_edits builds q (is_some v || is_cut builds q)) _ (own_stops name items builds builds q (is_some v || is_cut builds q) (λ m e. e)) (own_item name items builds n (row_of builds q) v h.0))
    (own_after name items builds (next_reports n v) (next_ahead builds q) (next_staying staying (judge builds staying q)) ps h.1)

pub own_edits : (name : List ℕ) (bounds : Bounds) (window reports : ℕ) (builds : List Build) (items : List ItemRow) (ls : List Landing) (fs : List ItemFacts) →
    AllPass (is_own name items builds) (edits_of_queue name bounds window reports builds (places_by ls items fs))
own_edits name bounds window reports builds items ls fs =
    let ps = places_by ls items fs in
    All-append (IsOwn name items builds) (edits_after name builds reports [] [] ps) _
    (own_after name items builds reports [] [] ps (there items ls items fs (λ n e. e)))
    (own_window name items builds window (window_after builds bounds window [] [] ps))
