-- The builds that run, told one after another.
use Rattle.std.proofs.Common.{◌≡◌, ℕ, suc, ◌+◌, ◌≤◌, Bool, true, false, cond, Some, None, List, [], ◌∷◌, ◌++◌, map}
use Rattle.std.proofs.Common.{take, drop, length, refl, sym, ap, ◌∙◌, subst, append_assoc, append-nil, arith}
use Rattle.std.specs.Prelude.{nat_lt, flat_map, codes, decimal, string_bytes}
use Rattle.std.proofs.lemmas.Bool.{ltb-true, ltb-false}
use Rattle.std.proofs.lemmas.List.{take_all, take-append-le, length-append}
use Rattle.std.proofs.lemmas.List.Concat.{flat_map-cons}
use Rattle.gate_types.specs.declared.records.Build.{Build}
use Rattle.gate_types.specs.declared.records.Item.{Item as ItemRow}
use Rattle.gate_types.specs.Settings.{Settings}
use Rattle.gate_types.specs.State.{Item, Queue, State}
use Rattle.gate_types.specs.Standing.{next_ahead}
use Rattle.gate_types.specs.JsonText.{joined}
use Rattle.gate_types.specs.Rows.{item_rows}
use Rattle.gate_archive.specs.RunningBuilds.{running_of, running_piece, running_builds, running_object, running_text}
use Rattle.gate_book_trait.specs.Reads.{first_above, live_builds}
use Rattle.gate_reads.proofs.Queues.{IsThere}
use Rattle.gate_reads.proofs.Walking.{IsLeft, place_behind, step_along, end_along}
use Rattle.gate_texts.specs.Listed.{with_entry}
use Rattle.gate_texts.specs.Running.{running_among, running_in, OfBuilds, listed_with, running_told}
use Rattle.gate_texts.specs.declared.running.Running.{Running}
use Rattle.gate_texts.proofs.Entries.{AreEntries, joined_more, array_is}
use Rattle.gate_types.specs.Limits.{most_listed}

pub are_running : AreEntries running_piece
are_running = record { begins = λ b. refl; behind = behind }
  where
    behind : (b : Build) (rest : List ℕ) → running_piece b rest ≡ running_piece b [] ++ rest
    behind b rest = simp append_assoc

-- as it is written
pub running_grouped : (b : Build) →
    codes "{\"build\":" ++ ((decimal b.number ++ (codes ",\"change\":" ++ (decimal b.change ++ (codes ",\"job\":\""
    ++ (b.job ++ (codes "\",\"order\":" ++ (decimal b.serial ++ (codes ",\"queue\":\"" ++ (b.queue
    ++ (codes "\",\"revision\":" ++ decimal b.revision)))))))))) ++ codes "}") ≡ running_piece b []
running_grouped b = simp append_assoc

-- ---- one more

first_more : (builds : List Build) (b : Build) (count : ℕ) (list : List ℕ) → count ≡ length builds →
    list ≡ joined (map running_piece (take most_listed builds)) [] →
    listed_with count list (running_piece b []) ≡ joined (map running_piece (take most_listed (builds ++ b ∷ []))) []
first_more builds b count list n l = by_count (nat_lt count most_listed) refl
  where
    text : List Build → List ℕ
    text bs = joined (map running_piece bs) []

    long : length (builds ++ b ∷ []) ≡ length builds + 1
    long = length-append builds (b ∷ [])

    by_count : (t : Bool) → nat_lt count most_listed ≡ t →
        cond t (with_entry list (running_piece b [])) list ≡ text (take most_listed (builds ++ b ∷ []))
    by_count true e =
        let less = ltb-true count most_listed e in
        let more = long in
        ap (λ s. with_entry s (running_piece b [])) (l ∙ ap text (take_all most_listed builds (omega (arith, n, less))))
        ∙ sym (joined_more are_running builds b)
        ∙ ap text (sym (take_all most_listed (builds ++ b ∷ []) (omega (arith, n, less, more))))
    by_count false e =
        let full : most_listed ≤ count = ltb-false count most_listed e in
        l ∙ ap text (sym (take-append-le most_listed builds (b ∷ []) (omega (arith, n, full))))

pub of_one_more : (r new : Running) (builds : List Build) (b : Build) → OfBuilds r builds →
    string_bytes new.list ≡ listed_with r.count (string_bytes r.list) (running_piece b []) →
    new.count ≡ r.count + 1 → OfBuilds new (builds ++ b ∷ [])
of_one_more r new builds b h l n = record {
  list = l ∙ first_more builds b r.count (string_bytes r.list) h.count h.list;
  count = n ∙ ap (λ m. m + 1) h.count ∙ sym (length-append builds (b ∷ []));
}

-- ---- those of a queue

-- up to this serial the builds were told; these are left
pub record Along (c : Settings) (s : State) (q : Queue) (above : ℕ) (before : List Build) (r : Running) : Type 0 where
  pub items : List Item
  pub rest : List Item
  pub done : List Build
  pub behind : IsLeft c s q above items rest
  pub is_of : OfBuilds r done
  pub left : done ++ flat_map (λ i. running_of s i.serial) rest ≡ before ++ running_in s q

pub along_front : (c : Settings) (s : State) (q : Queue) (before : List Build) (r : Running) →
    IsLeft c s q 0 [] q.items → OfBuilds r before → Along c s q 0 before r
along_front c s q before r l t = record {
  items = [];
  rest = q.items;
  done = before;
  behind = l;
  is_of = t;
  left = refl;
}

pub along_end : (c : Settings) (s : State) (q : Queue) (above : ℕ) (before : List Build) (r : Running) →
    Along c s q above before r → first_above above (item_rows c s q) ≡ None → OfBuilds r (before ++ running_in s q)
along_end c s q above before r h e =
    subst (OfBuilds r) (sym (append-nil h.done)
    ∙ ap (λ is. h.done ++ flat_map (λ (i : Item). running_of s i.serial) is)
    (sym (end_along c s q above h.items h.rest h.behind e))
    ∙ h.left) h.is_of

pub along_next : (c : Settings) (s : State) (q : Queue) (above : ℕ) (before : List Build) (r new : Running)
    (row : ItemRow) (serial : ℕ) (builds : List Build) → Along c s q above before r →
    first_above above (item_rows c s q) ≡ Some row → serial ≡ row.serial → builds ≡ live_builds s row.serial →
    ((done : List Build) → OfBuilds r done → OfBuilds new (done ++ running_among builds)) → Along c s q serial before new
along_next c s q above before r new row serial builds h e es eb f =
    let n = step_along c s q above h.items h.rest row h.behind e in
    let own : running_among builds ≡ running_of s n.item.serial =
    ap running_among (eb ∙ ap (λ (i : ItemRow). live_builds s i.serial) n.row_is) in
    record {
      items = next_ahead s.builds (place_behind c s q h.items n.item);
      rest = n.after;
      done = h.done ++ running_among builds;
      behind = subst (λ m. IsLeft c s q m (next_ahead s.builds (place_behind c s q h.items n.item)) n.after)
          (sym es) n.left;
      is_of = f h.done h.is_of;
      left = append_assoc h.done (running_among builds) (flat_map (λ (i : Item). running_of s i.serial) n.after)
          ∙ ap (λ bs. h.done ++ bs) (ap (λ bs. bs ++ flat_map (λ (i : Item). running_of s i.serial) n.after) own
          ∙ sym (flat_map-cons (λ (i : Item). running_of s i.serial) n.item n.after)
          ∙ ap (flat_map (λ (i : Item). running_of s i.serial)) (sym n.rest_is))
          ∙ h.left;
    }

-- ---- those of all queues

-- the builds of the queues before this one were told
pub record Before (s : State) (k : ℕ) (r : Running) : Type 0 where
  pub done : List Build
  pub is_of : OfBuilds r done
  pub left : done ++ flat_map (running_in s) (drop k s.queues) ≡ running_builds s

pub before_next : {c : Settings} {s : State} {k : ℕ} {name : List ℕ} → (there : IsThere c s k name) →
    (r new : Running) → Before s k r →
    ((done : List Build) → OfBuilds r done → OfBuilds new (done ++ running_in s there.queue)) → Before s (k + 1) new
before_next {s = s} {k = k} there r new h f =
    let step : k + 1 ≡ suc k = omega arith in
    record {
      done = h.done ++ running_in s there.queue;
      is_of = f h.done h.is_of;
      left = ap (λ m. (h.done ++ running_in s there.queue) ++ flat_map (running_in s) (drop m s.queues)) step
          ∙ append_assoc h.done (running_in s there.queue) (flat_map (running_in s) (drop (suc k) s.queues))
          ∙ ap (λ bs. h.done ++ bs) (sym (flat_map-cons (running_in s) there.queue (drop (suc k) s.queues))
          ∙ ap (flat_map (running_in s)) (sym there.here))
          ∙ h.left;
    }

pub before_end : (s : State) (k : ℕ) (r : Running) → Before s k r → drop k s.queues ≡ [] → OfBuilds r (running_builds s)
before_end s k r h e =
    subst (OfBuilds r) (sym (append-nil h.done) ∙ ap (λ qs. h.done ++ flat_map (running_in s) qs) (sym e) ∙ h.left) h.is_of

-- the text
pub running_is : (s : State) (r : Running) (text : List ℕ) → OfBuilds r (running_builds s) →
    text ≡ running_told (string_bytes r.list) r.count [] → text ≡ running_text s
running_is s r text h t = t
    ∙ (λ i. running_object
    (λ z. array_is are_running (take most_listed (running_builds s)) (string_bytes r.list) z h.list i) (h.count i) [])
