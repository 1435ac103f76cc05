-- Going along a queue, line by line.
use Rattle.std.proofs.Common.{◌≡◌, ℕ, Bool, true, false, not, ◌&&◌, ◌||◌, cond, Option, Some, None, List, [], ◌∷◌}
use Rattle.std.proofs.Common.{◌++◌, map, refl, sym, ap, ◌∙◌, subst}
use Rattle.std.specs.Prelude.{flat_map, decimal}
use Rattle.gate_types.specs.declared.config.Job.{Job}
use Rattle.gate_types.specs.declared.records.Build.{Build}
use Rattle.gate_types.specs.declared.records.Change.{Change}
use Rattle.gate_types.specs.declared.records.Entry.{Entry}
use Rattle.gate_types.specs.declared.records.Item.{Item as ItemRow}
use Rattle.gate_types.specs.declared.records.Need.{Need}
use Rattle.gate_types.specs.declared.records.Plan.{Plan}
use Rattle.gate_types.specs.Settings.{Settings}
use Rattle.gate_types.specs.State.{Item, Queue, State, known_change, plan_of, known_or_closed, need_of}
use Rattle.gate_types.specs.Line.{Place, item_entry}
use Rattle.gate_types.specs.Slot.{is_blocked, has_failure, cut_slot}
use Rattle.gate_types.specs.Standing.{next_ahead, places}
use Rattle.gate_types.specs.Columns.{right, left, row, number_or_dash}
use Rattle.gate_types.specs.Status.{slot_word, item_row}
use Rattle.gate_types.specs.Rows.{item_rows}
use Rattle.gate_types.specs.Lawful.{IsLawful}
use Rattle.gate_laws.proofs.Members.{contains_in, in_contains}
use Rattle.gate_book_trait.specs.Reads.{queue_named, first_above, live_builds}
use Rattle.gate_reads.specs.Places.{IsBehind, are_met_among}
use Rattle.gate_reads.proofs.Walking.{IsLeft, IsNext, places_from, step_along, end_along}
use Rattle.gate_reads.proofs.Trying.{place_next, with_row, longer_is}
use Rattle.gate_reads.proofs.OwnBuilds.{all_count, slots_are}
use Rattle.gate_reads.proofs.KnownPlaces.{there_too, jobs_at, fast_at, needs_at, blocked_is}
use Rattle.gate_texts.specs.Lines.{standing_word_by, item_line}
use Rattle.gate_texts.proofs.Pieces.{one_more, all_there}

-- up to this serial the lines stand in the text; these changes are ahead of what is left
pub record Shown (c : Settings) (s : State) (q : Queue) (above : ℕ) (ahead : List Entry) (text : List ℕ) : Type 0 where
  pub items : List Item
  pub rest : List Item
  pub ahead_is : ahead ≡ map item_entry items
  pub behind : IsLeft c s q above items rest
  pub text_is : text ++ flat_map (item_row s.builds) (places_from c s q items rest)
      ≡ flat_map (item_row s.builds) (places c s q)

pub shown_front : (c : Settings) (s : State) (q : Queue) (ahead : List Entry) (text : List ℕ) →
    IsLeft c s q 0 [] q.items → ahead ≡ [] → text ≡ [] → Shown c s q 0 ahead text
shown_front c s q ahead text l a t = record {
  items = [];
  rest = q.items;
  ahead_is = a;
  behind = l;
  text_is = ap (λ l. l ++ flat_map (item_row s.builds) (places c s q)) t;
}

pub shown_end : (c : Settings) (s : State) (q : Queue) (above : ℕ) (ahead : List Entry) (text : List ℕ) →
    Shown c s q above ahead text → first_above above (item_rows c s q) ≡ None →
    text ≡ flat_map (item_row s.builds) (places c s q)
shown_end c s q above ahead text h e =
    all_there (item_row s.builds) (places_from c s q h.items h.rest) text (flat_map (item_row s.builds) (places c s q))
    h.text_is (ap (places_from c s q h.items) (end_along c s q above h.items h.rest h.behind e))

pub next_row : (c : Settings) (s : State) (q : Queue) (above : ℕ) (ahead : List Entry) (text : List ℕ) (row : ItemRow) →
    (h : Shown c s q above ahead text) → first_above above (item_rows c s q) ≡ Some row →
    IsNext c s q h.items h.rest row
next_row c s q above ahead text row h e = step_along c s q above h.items h.rest row h.behind e

pub behind_next : {c : Settings} {s : State} {q : Queue} {above : ℕ} {ahead : List Entry} {text : List ℕ}
    {row : ItemRow} (name : List ℕ) → queue_named s name ≡ Some q → (h : Shown c s q above ahead text) →
    (n : IsNext c s q h.items h.rest row) → IsBehind c s name ahead row q (place_next n)
behind_next {c} {s} {q} name e h n = record {
  queue_is = e;
  there = in_contains (places c s q) (place_next n) n.there;
  row_is = n.row_is;
  ahead_is = h.ahead_is;
}

pub shown_next : {c : Settings} {s : State} {q : Queue} {above : ℕ} {ahead : List Entry} {text : List ℕ}
    {row : ItemRow} → (h : Shown c s q above ahead text) → (n : IsNext c s q h.items h.rest row) →
    (serial : ℕ) (longer : List Entry) (line new : List ℕ) → serial ≡ row.serial → longer ≡ with_row row ahead →
    line ≡ item_row s.builds (place_next n) → new ≡ text ++ line → Shown c s q serial longer new
shown_next {c} {s} {q} {text = text} h n serial longer line new es ea el et = record {
  items = next_ahead s.builds (place_next n);
  rest = n.after;
  ahead_is = ea ∙ (λ k. with_row (n.row_is k) (h.ahead_is k)) ∙ sym (longer_is s.builds (place_next n));
  behind = subst (λ m. IsLeft c s q m (next_ahead s.builds (place_next n)) n.after) (sym es) n.left;
  text_is = one_more (item_row s.builds) (place_next n)
      (places_from c s q (next_ahead s.builds (place_next n)) n.after) text line new
      (flat_map (item_row s.builds) (places c s q))
      (ap (λ is. text ++ flat_map (item_row s.builds) (places_from c s q h.items is)) (sym n.rest_is) ∙ h.text_is)
      el et;
}

-- the line of an item, by what a book tells
pub item_told : {c : Settings} {s : State} {name : List ℕ} {ahead : List Entry} {i : ItemRow} {q : Queue} {p : Place} →
    IsLawful c s → IsBehind c s name ahead i q p → (known : Option Change) (needs : List Need) (builds : List Build)
    (plan : Plan) (jobs : List Job) (blocked cut : Bool) → known ≡ known_change s i.change →
    needs ≡ map (need_of s) (known_or_closed known).needs → builds ≡ live_builds s i.serial →
    plan ≡ plan_of s i.serial → jobs ≡ plan.jobs → blocked ≡ not (are_met_among ahead needs) →
    cut ≡ plan.fast && not blocked && i.failing → item_line i blocked cut builds jobs ≡ item_row s.builds p
item_told {c} {s} {name} {ahead} {i} {q} {p} lawful at known needs builds plan jobs blocked cut k n b o j m u =
    let there = contains_in (places c s q) p at.there in
    let here = there_too c s name q p at.queue_is there in
    let own = b ∙ ap (λ (r : ItemRow). live_builds s r.serial) at.row_is in
    let jobs_are = j ∙ jobs_at c s p i plan here at.row_is o in
    let stands = m ∙ blocked_is p ahead needs at.ahead_is (needs_at c s q p i known needs there at.row_is k n) in
    let cuts = u ∙ (λ d. fast_at c s p i plan here at.row_is o d && not (stands d) && (at.row_is d).failing)
    ∙ cut_by p.fast (is_blocked p) (has_failure s.builds p) in
    λ d. row (
    right 6 (decimal (at.row_is d).serial) ∷ right 9 (decimal (at.row_is d).change) ∷
    right 4 (decimal (at.row_is d).revision) ∷ right 6 (number_or_dash (at.row_is d).ahead) ∷
    left 7 (standing_word_by (stands d) (at.row_is d).failing) ∷
    map (λ h. h.name ++ 61 ∷ slot_word (cond (cuts d)
    (cut_slot (slots_are s p builds h own (all_count c s lawful p here) d))
    (slots_are s p builds h own (all_count c s lawful p here) d))) (jobs_are d))
  where
    cut_by : (f b h : Bool) → f && not b && (b || h) ≡ f && not b && h
    cut_by true true h = refl
    cut_by true false h = refl
    cut_by false b h = refl
