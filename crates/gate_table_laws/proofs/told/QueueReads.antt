-- What is asked of queues, landings and reports, of the file's rows and of a content.
use Rattle.std.proofs.Common.{◌≡◌, ℕ, suc, ◌+◌, Bool, true, false, cond, Option, Some, None, List, [], ◌∷◌, map}
use Rattle.std.proofs.Common.{length, refl, sym, ap, ◌∙◌, inl, inr, arith}
use Rattle.std.specs.Prelude.{nat_lt, filter, find, fold, option_map}
use Rattle.std.specs.Option.{option_map_or}
use Rattle.std.specs.List.Sorted.{IsStrictlyIncreasing}
use Rattle.std.proofs.lemmas.Bool.{lt-ltb, ltb-true, ltb-false}
use Rattle.gate_types.specs.declared.records.Landing.{Landing}
use Rattle.gate_types.specs.declared.records.Report.{Report}
use Rattle.gate_types.specs.declared.rows.LandingRow.{LandingRow}
use Rattle.gate_types.specs.Forms.{IsLawfulContent}
use Rattle.gate_types.specs.Names.{same_name}
use Rattle.gate_types.specs.Once.{Content}
use Rattle.gate_types.specs.Rows.{numbered_reports}
use Rattle.gate_types.specs.Settings.{Settings}
use Rattle.gate_types.specs.State.{Queue, State}
use Rattle.gate_types.specs.Tables.{QueueRows, numbered_landings, tables}
use Rattle.gate_types.specs.Keys.{place_of_landing, place_of_report}
use Rattle.gate_types.specs.Rising.{In}
use Rattle.gate_schema.specs.Rows.{QueueRow, Stored}
use Rattle.gate_rows.specs.Matches.{Matches, landings_of, of_queue, placed, reports_of}
use Rattle.gate_book_trait.specs.Reads as content
use Rattle.gate_book_trait.proofs.ReadLemmas as read
use Rattle.gate_found_rows.specs.Asked as file
use Rattle.gate_laws.proofs.Members.{every, filter_none, found}
use Rattle.gate_laws.proofs.Rising.{Rising, rising}
use Rattle.gate_table_laws.proofs.told.Lists.{filtered_same, mapped_same, permuted_same, pick, same_greatest}

-- ---- places from 1 on

-- as many places as rows, from the one after n
abbrev places_from : {X : Type 0} → ℕ → List X → List ℕ
places_from n [] = []
places_from n (x ∷ xs) = suc n ∷ places_from (suc n) xs

-- the places of numbered landings
landing_places : (n : ℕ) (ls : List Landing) →
    map place_of_landing (numbered_landings n ls) ≡ places_from n ls
landing_places n [] = refl
landing_places n (l ∷ ls) = ap (λ ms. suc n ∷ ms) (landing_places (suc n) ls)

-- and of numbered reports
report_places : (n : ℕ) (rs : List Report) → map place_of_report (numbered_reports n rs) ≡ places_from n rs
report_places n [] = refl
report_places n (r ∷ rs) = ap (λ ms. suc n ∷ ms) (report_places (suc n) rs)

-- the next place is the greater
next_picked : (n : ℕ) → pick n (suc n) ≡ suc n
next_picked n = ap (λ t. cond t (suc n) n) (lt-ltb n (suc n) (omega arith))

-- the last place is how many there are
last_place : {X : Type 0} (n : ℕ) (xs : List X) → fold pick n (places_from n xs) ≡ n + length xs
last_place n [] = omega arith
last_place n (x ∷ xs) =
    let rest = last_place (suc n) xs in
    ap (λ m. fold pick m (places_from (suc n) xs)) (next_picked n) ∙ omega arith

-- none is below a serial
none_below : (serial n : ℕ) (ls : List Landing) → ((l : Landing) → In l ls → nat_lt l.serial serial ≡ false) →
    filter (λ (r : LandingRow). nat_lt r.landing.serial serial) (numbered_landings n ls) ≡ []
none_below serial n [] h = refl
none_below serial n (l ∷ ls) h =
    let rest = filter (λ (r : LandingRow). nat_lt r.landing.serial serial) (numbered_landings (suc n) ls) in
    ap (λ t. cond t ((record { place = suc n; landing = l }) ∷ rest) rest) (h l (inl refl))
    ∙ none_below serial (suc n) ls (λ k m. h k (inr m))

-- the last place below a serial is how many are below it
last_below : (serial n : ℕ) (ls : List Landing) → Rising (λ (l : Landing). l.serial) ls →
    fold pick n (map place_of_landing
    (filter (λ (r : LandingRow). nat_lt r.landing.serial serial) (numbered_landings n ls))) ≡
    n + length (filter (λ (l : Landing). nat_lt l.serial serial) ls)
last_below serial n [] up = omega arith
last_below serial n (l ∷ ls) up = by_serial (nat_lt l.serial serial) refl (last_below serial (suc n) ls up.1)
  where
    rows : List LandingRow
    rows = filter (λ (r : LandingRow). nat_lt r.landing.serial serial) (numbered_landings (suc n) ls)

    below : List Landing
    below = filter (λ (k : Landing). nat_lt k.serial serial) ls

    above : nat_lt l.serial serial ≡ false → (k : Landing) → In k ls → nat_lt k.serial serial ≡ false
    above e k m = by_test (nat_lt k.serial serial) refl
      where
        by_test : (t : Bool) → nat_lt k.serial serial ≡ t → t ≡ false
        by_test true d =
            let low = ltb-true k.serial serial d in
            let high = ltb-false l.serial serial e in
            let rise = up.0 k m in
            absurd (omega (arith, low, high, rise))
        by_test false d = refl

    by_serial : (t : Bool) → nat_lt l.serial serial ≡ t →
        fold pick (suc n) (map place_of_landing rows) ≡ suc n + length below →
        fold pick n (map place_of_landing (cond t ((record { place = suc n; landing = l }) ∷ rows) rows)) ≡
        n + length (cond t (l ∷ below) below)
    by_serial true e rest =
        ap (λ m. fold pick m (map place_of_landing rows)) (next_picked n) ∙ omega (arith, rest)
    by_serial false e rest =
        ap (λ l. fold pick n (map place_of_landing l)) (none_below serial (suc n) ls (above e))
        ∙ zero_more ∙ sym (ap (λ l. n + length l) (filter_none (λ (k : Landing). nat_lt k.serial serial) ls (above e)))
      where
        zero_more : n ≡ n + 0
        zero_more = omega arith

-- ---- the rows of a queue

-- the window of the queue of a name
window_placed : (c : Settings) (s : State) (name : List ℕ) (n : ℕ) (qs : List Queue) →
    option_map (λ (q : QueueRow). q.window)
    (find (λ (q : QueueRow). same_name q.name name) (placed n (map (read.rows_of_queue c s) qs))) ≡
    option_map (λ (q : Queue). q.window) (find (λ (q : Queue). same_name q.name name) qs)
window_placed c s name n [] = refl
window_placed c s name n (q ∷ qs) = by_name (same_name q.name name) (window_placed c s name (suc n) qs)
  where
    others : Option QueueRow
    others = find (λ (r : QueueRow). same_name r.name name) (placed (suc n) (map (read.rows_of_queue c s) qs))

    by_name : (t : Bool) → option_map (λ (r : QueueRow). r.window) others ≡
        option_map (λ (r : Queue). r.window) (find (λ (r : Queue). same_name r.name name) qs) →
        option_map (λ (r : QueueRow). r.window)
        (cond t (Some (record { name = q.name; place = n; window = q.window })) others) ≡
        option_map (λ (r : Queue). r.window) (cond t (Some q) (find (λ (r : Queue). same_name r.name name) qs))
    by_name true e = refl
    by_name false e = e

-- its reports
abbrev pub reports_in : State → List ℕ → List Report
reports_in s name = option_map_or (λ (q : Queue). q.reports) (content.queue_named s name) []

module _ (c : Settings) (x : Content) (b : Stored) (told : Matches b (tables c x)) where
  -- the landings of a queue, numbered
  landing_rows : (name : List ℕ) →
      of_queue (λ q. q.landings) name (tables c x).queues ≡ numbered_landings 0 (content.landings_in x.state name)
  landing_rows name =
      ap (λ o. option_map_or (λ (r : QueueRows). r.landings) o []) (read.named_is c x name)
      ∙ by_queue (content.queue_named x.state name)
    where
      by_queue : (o : Option Queue) →
          option_map_or (λ (r : QueueRows). r.landings) (option_map (read.rows_of_queue c x.state) o) [] ≡
          numbered_landings 0 (option_map_or (λ (q : Queue). q.landings) o [])
      by_queue None = refl
      by_queue (Some q) = refl

  -- its reports, numbered
  pub report_rows : (name : List ℕ) →
      of_queue (λ q. q.reports) name (tables c x).queues ≡ numbered_reports 0 (reports_in x.state name)
  report_rows name =
      ap (λ o. option_map_or (λ (r : QueueRows). r.reports) o []) (read.named_is c x name)
      ∙ by_queue (content.queue_named x.state name)
    where
      by_queue : (o : Option Queue) →
          option_map_or (λ (r : QueueRows). r.reports) (option_map (read.rows_of_queue c x.state) o) [] ≡
          numbered_reports 0 (option_map_or (λ (q : Queue). q.reports) o [])
      by_queue None = refl
      by_queue (Some q) = refl

  -- the last landing is how many there are
  pub landings_count : (name : List ℕ) → file.last_landing b name ≡ length (content.landings_in x.state name)
  landings_count name =
      let rows = of_queue (λ q. q.landings) name (tables c x).queues in
      let here = landings_of name b.landings in
      same_greatest (map place_of_landing here) (map place_of_landing rows)
      (mapped_same place_of_landing here rows (permuted_same here rows (told.queues_are.landings_are name)))
      ∙ ap (λ l. file.greatest (map place_of_landing l)) (landing_rows name)
      ∙ ap file.greatest (landing_places 0 (content.landings_in x.state name))
      ∙ last_place 0 (content.landings_in x.state name) ∙ omega arith

  -- the last report is how many there are
  pub reports_are : (name : List ℕ) → file.last_report b name ≡ content.reports_in x.state name
  reports_are name =
      let rows = of_queue (λ q. q.reports) name (tables c x).queues in
      let here = reports_of name b.reports in
      same_greatest (map place_of_report here) (map place_of_report rows)
      (mapped_same place_of_report here rows (permuted_same here rows (told.queues_are.reports_are name)))
      ∙ ap (λ l. file.greatest (map place_of_report l)) (report_rows name)
      ∙ ap file.greatest (report_places 0 (reports_in x.state name))
      ∙ last_place 0 (reports_in x.state name) ∙ by_queue (content.queue_named x.state name)
    where
      by_queue : (o : Option Queue) → 0 + length (option_map_or (λ (q : Queue). q.reports) o []) ≡
          option_map_or (λ (q : Queue). length q.reports) o 0
      by_queue None = omega arith
      by_queue (Some q) = omega arith

  -- the window of a queue
  pub window_is : (name : List ℕ) → file.stored_window_of b name ≡ content.window_of x.state name
  window_is name =
      ap (λ l. option_map (λ (q : QueueRow). q.window) (find (λ (q : QueueRow). same_name q.name name) l)) told.queues_are.places
      ∙ window_placed c x.state name 0 x.state.queues

  -- how many landings have a lower serial
  pub landing_before_is : IsLawfulContent c x → (name : List ℕ) (serial : ℕ) →
      file.landing_before b name serial ≡ content.landings_before x.state name serial
  landing_before_is lawful name serial =
      let t = λ (r : LandingRow). nat_lt r.landing.serial serial in
      let rows = of_queue (λ q. q.landings) name (tables c x).queues in
      let here = landings_of name b.landings in
      same_greatest (map place_of_landing (filter t here)) (map place_of_landing (filter t rows))
      (mapped_same place_of_landing (filter t here) (filter t rows)
      (filtered_same t here rows (permuted_same here rows (told.queues_are.landings_are name))))
      ∙ ap (λ l. file.greatest (map place_of_landing (filter t l))) (landing_rows name)
      ∙ last_below serial 0 (content.landings_in x.state name) (by_queue (content.queue_named x.state name) refl)
      ∙ omega arith
    where
      by_queue : (o : Option Queue) → content.queue_named x.state name ≡ o →
          Rising (λ (l : Landing). l.serial) (option_map_or (λ (q : Queue). q.landings) o [])
      by_queue None e = tt
      by_queue (Some q) e =
          let at = found (λ (q : Queue). same_name q.name name) x.state.queues q e in
          rising (λ (l : Landing). l.serial) q.landings
          (every (λ (q : Queue). IsStrictlyIncreasing (map (λ (l : Landing). l.serial) q.landings)) x.state.queues
          lawful.lawful.sound.landings_rise q at.0)
