-- Going along the rows of a part.
use Rattle.std.proofs.Common.{◌≡◌, ℕ, suc, ◌+◌, ◌<◌, Some, None, List, [], ◌∷◌, map, drop, length, get_or, refl, sym}
use Rattle.std.proofs.Common.{ap, ◌∙◌, subst, arith}
use Rattle.std.specs.Prelude.{◌==◌, Contains, slice_get, option_map}
use Rattle.std.specs.List.{flat_map, prefix_len, take_while, All}
use Rattle.std.proofs.Math.Seq.{drop-cons}
use Rattle.std.proofs.lemmas.List.Elements.{All-head, All-tail}
use Rattle.std.proofs.lemmas.List.Concat.{flat_map-cons}
use Rattle.std.proofs.lemmas.Option.{slice_get-get_or}
use Rattle.gate_types.specs.declared.records.Build.{Build}
use Rattle.gate_types.specs.declared.records.Entry.{Entry}
use Rattle.gate_types.specs.declared.records.Item.{Item as ItemRow}
use Rattle.gate_types.specs.declared.records.Plan.{Plan}
use Rattle.gate_types.specs.Settings.{Settings}
use Rattle.gate_types.specs.State.{Item, Queue, State, plan_in, plan_of}
use Rattle.gate_types.specs.Line.{Place}
use Rattle.gate_types.specs.Standing.{with_ahead, next_ahead, places_after, place_of, places}
use Rattle.gate_types.specs.Choice.{builds_for}
use Rattle.gate_types.specs.Rows.{row_of}
use Rattle.gate_types.specs.Rising.{In}
use Rattle.gate_laws.proofs.Members.{got}
use Rattle.gate_laws.proofs.Rising.{Rising, rising}
use Rattle.gate_book_trait.specs.Reads.{live_builds, plans_of_items, builds_of_items}
use Rattle.gate_reads.specs.NextBuild.{under_number}
use Rattle.gate_reads.specs.Parts.{ahead_behind_one, AreBehind, IsTold, AreTold}
use Rattle.gate_reads.specs.Places.{IsBehind}
use Rattle.gate_reads.specs.declared.due.BookItem.{BookItem}
use Rattle.gate_reads.specs.declared.part.Part.{Part}
use Rattle.gate_reads.proofs.ToldParts.{plan_told, own_told, behind_told}
use Rattle.gate_reads.proofs.Trying.{first_some, first_none, longer_is}

-- ---- the first of some rows

pub record IsFirst (c : Settings) (s : State) (name : List ℕ) (ahead : List Entry) (row : ItemRow) (rows : List ItemRow)
    (q : Queue) (ps : List Place) : Type 0 where
  pub place : Place
  pub others : List Place
  pub places_are : ps ≡ place ∷ others
  pub here : IsBehind c s name ahead row q place
  pub behind : AreBehind c s name (ahead_behind_one ahead row) rows q others

pub first_behind : {c : Settings} {s : State} {name : List ℕ} {ahead : List Entry} {row : ItemRow} {rows : List ItemRow}
    {q : Queue} {ps : List Place} → AreBehind c s name ahead (row ∷ rows) q ps → IsFirst c s name ahead row rows q ps
first_behind {c} {s} {name} {ahead} {row} {rows} {q} {ps} h = by_items h.items h.places_are
  where
    no_row : row ∷ rows ≡ [] → ⊥
    no_row e = let none : suc (length rows) ≡ 0 = ap (λ (rs : List ItemRow). length rs) e in omega (arith, none)

    by_items : (is : List Item) → ps ≡ places_after s.builds h.before (map (place_of c s q) is) →
        IsFirst c s name ahead row rows q ps
    by_items [] e = absurd (no_row (h.rows_are ∙ ap (map (row_of s.builds)) e))
    by_items (i ∷ is) e =
        let p = with_ahead h.before (place_of c s q i) in
        let others = places_after s.builds (next_ahead s.builds p) (map (place_of c s q) is) in
        let rows_are = h.rows_are ∙ ap (map (row_of s.builds)) e in
        let row_is : row ≡ row_of s.builds p = ap (λ (rs : List ItemRow). get_or rs 0 row) rows_are in
        let there = subst (All (Contains (places c s q))) e h.there in
        record {
          place = p;
          others = others;
          places_are = e;
          here = record {
            queue_is = h.queue_is;
            there = All-head (Contains (places c s q)) p others there;
            row_is = row_is;
            ahead_is = h.ahead_is;
          };
          behind = record {
            before = next_ahead s.builds p;
            items = is;
            queue_is = h.queue_is;
            there = All-tail (Contains (places c s q)) p others there;
            places_are = refl;
            rows_are = ap (λ (rs : List ItemRow). drop 1 rs) rows_are;
            ahead_is = (λ k. ahead_behind_one (h.ahead_is k) (row_is k)) ∙ sym (longer_is s.builds p);
          };
        }

-- ---- what is left of a part

-- no build is due before the rows that are left
pub record Along (c : Settings) (s : State) (name : List ℕ) (q : Queue) (ps : List Place) (ahead : List Entry)
    (rows : List ItemRow) (builds : List Build) : Type 0 where
  pub left : List Place
  pub behind : AreBehind c s name ahead rows q left
  pub told : builds ≡ builds_of_items s rows
  pub rise : Rising (λ i. i.serial) rows
  pub due : slice_get (flat_map (builds_for s q) ps) 0 ≡ slice_get (flat_map (builds_for s q) left) 0

pub along_front : (c : Settings) (s : State) (name : List ℕ) (q : Queue) (ps : List Place) (ahead : List Entry)
    (part : Part) (builds : List Build) → AreBehind c s name ahead part.items q ps → AreTold s part →
    builds ≡ part.builds → Along c s name q ps ahead part.items builds
along_front c s name q ps ahead part builds h t e = record {
  left = ps;
  behind = h;
  told = e ∙ t.builds;
  rise = rising (λ (i : ItemRow). i.serial) part.items t.rise;
  due = refl;
}

-- the row at a place of a list, and those behind it
pub row_at : (rows items : List ItemRow) (k : ℕ) (row : ItemRow) → items ≡ rows → k < length items →
    row ≡ get_or items k row → In row rows × (drop k rows ≡ row ∷ drop (k + 1) rows)
row_at rows items k row e l r =
    let step : suc k ≡ k + 1 = omega arith in (
      subst (In row) e (got items k row (slice_get-get_or items k row l ∙ ap Some (sym r))),
      subst (λ is. drop k is ≡ row ∷ drop (k + 1) is) e
          (drop-cons items k row l ∙ (λ j. sym r j ∷ drop (step j) items)),
    )

-- what is told of the first that is left
pub told_first : {c : Settings} {s : State} {name : List ℕ} {q : Queue} {ps : List Place} {ahead : List Entry}
    {row : ItemRow} {rows : List ItemRow} {builds : List Build} → Along c s name q ps ahead (row ∷ rows) builds →
    (items : List ItemRow) (plans : List Plan) (told : BookItem) → In row items → plans ≡ plans_of_items s items →
    told.row ≡ row → told.jobs.now ≡ (plan_in plans row.serial).jobs → told.fast ≡ (plan_in plans row.serial).fast →
    told.builds.now ≡ take_while (λ b. b.serial == row.serial) builds → IsTold s told
told_first {s = s} {row = row} {rows = rows} {builds = builds} h items plans told m e r j f b =
    let plan = ap (λ ps. plan_in ps row.serial) e ∙ plan_told s items row m in
    let serial = ap (λ (i : ItemRow). i.serial) (sym r) in
    record {
      jobs = j ∙ (λ k. (plan k).jobs) ∙ (λ k. (plan_of s (serial k)).jobs);
      fast = f ∙ (λ k. (plan k).fast) ∙ (λ k. (plan_of s (serial k)).fast);
      builds = b ∙ own_told s row rows h.rise.0 builds h.told ∙ ap (live_builds s) serial;
    }

-- a build of it is the first that is due
pub along_here : {c : Settings} {s : State} {name : List ℕ} {q : Queue} {ps : List Place} {ahead : List Entry}
    {row : ItemRow} {rows : List ItemRow} {builds : List Build} → (h : Along c s name q ps ahead (row ∷ rows) builds) →
    (number : ℕ) (b : Build) →
    Some b ≡ option_map (under_number number) (slice_get (builds_for s q (first_behind h.behind).place) 0) →
    Some b ≡ option_map (under_number number) (slice_get (flat_map (builds_for s q) ps) 0)
along_here {s = s} {q = q} h number b f =
    let n = first_behind h.behind in
    first_some (under_number number) b (builds_for s q n.place) (flat_map (builds_for s q) n.others) f
    ∙ ap (option_map (under_number number)) (sym (h.due ∙ ap (λ (bs : List Build). slice_get bs 0)
    (ap (flat_map (builds_for s q)) n.places_are ∙ flat_map-cons (builds_for s q) n.place n.others)))

-- where it has none, the others are left
pub along_next : {c : Settings} {s : State} {name : List ℕ} {q : Queue} {ps : List Place} {ahead : List Entry}
    {row : ItemRow} {rows : List ItemRow} {builds : List Build} → (h : Along c s name q ps ahead (row ∷ rows) builds) →
    (number : ℕ) (longer : List Entry) (others : List Build) →
    None ≡ option_map (under_number number) (slice_get (builds_for s q (first_behind h.behind).place) 0) →
    longer ≡ ahead_behind_one ahead row →
    others ≡ drop (prefix_len (λ b. b.serial == row.serial) builds) builds → Along c s name q ps longer rows others
along_next {c} {s} {name} {q} {row = row} {rows = rows} {builds = builds} h number longer others f a o =
    let n = first_behind h.behind in
    record {
      left = n.others;
      behind = subst (λ es. AreBehind c s name es rows q n.others) (sym a) n.behind;
      told = o ∙ behind_told s row rows h.rise.0 builds h.told;
      rise = h.rise.1;
      due = h.due ∙ ap (λ (bs : List Build). slice_get bs 0)
          (ap (flat_map (builds_for s q)) n.places_are ∙ flat_map-cons (builds_for s q) n.place n.others)
          ∙ first_none (under_number number) (builds_for s q n.place) (flat_map (builds_for s q) n.others) f;
    }

-- at the end no build is due
pub along_end : {c : Settings} {s : State} {name : List ℕ} {q : Queue} {ps : List Place} {ahead : List Entry}
    {rows : List ItemRow} {builds : List Build} → Along c s name q ps ahead rows builds → rows ≡ [] →
    slice_get (flat_map (builds_for s q) ps) 0 ≡ None
along_end {s = s} {q = q} h e = h.due ∙ by_left h.left (sym h.behind.rows_are ∙ e)
  where
    by_left : (ls : List Place) → map (row_of s.builds) ls ≡ [] → slice_get (flat_map (builds_for s q) ls) 0 ≡ None
    by_left [] k = refl
    by_left (p ∷ ls) k =
        let none : suc (length (map (row_of s.builds) ls)) ≡ 0 = ap (λ (rs : List ItemRow). length rs) k in
        absurd (omega (arith, none))
