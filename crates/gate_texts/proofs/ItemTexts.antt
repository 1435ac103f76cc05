-- The text of an item, from what is told of it by key.
use Rattle.std.proofs.Common.{◌≡◌, ℕ, Bool, true, false, not, ◌&&◌, ◌||◌, cond, Option, Some, None, List, [], ◌∷◌}
use Rattle.std.proofs.Common.{◌++◌, map, length, refl, sym, ap, ◌∙◌, append_assoc}
use Rattle.std.specs.Prelude.{◌==◌, find, option_map, codes, string_bytes}
use Rattle.std.specs.Option.{option_or}
use Rattle.gate_types.specs.declared.config.Job.{Job}
use Rattle.gate_types.specs.declared.records.Build.{Build}
use Rattle.gate_types.specs.declared.records.Item.{Item as ItemRow}
use Rattle.gate_types.specs.declared.records.Verdict.{Verdict}
use Rattle.gate_types.specs.Settings.{Settings, are_sound}
use Rattle.gate_types.specs.State.{State}
use Rattle.gate_types.specs.Once.{Content}
use Rattle.gate_types.specs.Forms.{IsLawfulContent}
use Rattle.gate_types.specs.JsonText.{Piece, joined, plain, array}
use Rattle.gate_types.specs.Line.{Place}
use Rattle.gate_types.specs.Slot.{is_blocked, has_failure, is_cut, cut_slot}
use Rattle.gate_types.specs.Standing.{places, all_places}
use Rattle.gate_types.specs.History.{verdict_word}
use Rattle.gate_types.specs.Rows.{row_of}
use Rattle.gate_types.specs.Lawful.{IsSound}
use Rattle.gate_laws.proofs.Members.{found, map_map, flat_same, to_flat}
use Rattle.gate_laws.proofs.Alone.{map-flat}
use Rattle.gate_book_trait.proofs.Finding.{find_map}
use Rattle.gate_book_trait.specs.Reads.{queued_of, item_at, live_builds}
use Rattle.gate_book_trait.specs.declared.rows.QueuedItem.{QueuedItem}
use Rattle.gate_archive.specs.OrNull.{or_null}
use Rattle.gate_archive.specs.ItemText.{queued_at, left_at, told_queued, told_left, place_at, job_object, job_piece}
use Rattle.gate_archive.specs.ItemText.{jobs_piece, builds_of, last_builds, summary_piece, item_object, item_text_of}
use Rattle.gate_archive.specs.ItemText.{item_text}
use Rattle.gate_archive.specs.declared.rows.BuildSummary.{BuildSummary}
use Rattle.gate_archive.specs.declared.rows.LeftItem.{LeftItem}
use Rattle.gate_reads.proofs.Found.{some_before, none_before, found_itself}
use Rattle.gate_reads.proofs.KnownPlaces.{place_facts}
use Rattle.gate_reads.proofs.OwnBuilds.{all_count, slots_are}
use Rattle.gate_reads.proofs.Queues.{named_itself}
use Rattle.gate_reads.proofs.Stood.{Stood, stood, stood_in, stood_there, queued_as, serial_of, change_of, change_once}
use Rattle.gate_reads.proofs.Stood.{queued_is, item_is, queued_are}
use Rattle.gate_reads.proofs.Walking.{lawful_front}
use Rattle.gate_texts.specs.Items.{job_told, is_cut_by_key, jobs_by_key, verdict_text, told_summary, item_told, IsToldOf}
use Rattle.gate_texts.specs.Values.{written}
use Rattle.gate_texts.specs.declared.item.WrittenItem.{WrittenItem}
use Rattle.gate_texts.proofs.AheadByKey.{blocked_by_key}
use Rattle.gate_texts.proofs.Entries.{AreEntries, joined_behind, array_is, name_is}
use Rattle.gate_types.specs.Limits.{most_listed}
use Rattle.gate_types.specs.Rising.{In}

-- ---- the item of a serial

abbrev has_serial : ℕ → Stood → Bool
has_serial n x = serial_of x == n

queued_at_is : (c : Settings) (s : State) (n : ℕ) →
    queued_at c s n ≡ option_map (queued_as s) (find (has_serial n) (stood c s))
queued_at_is c s n =
    ap (find (λ (k : QueuedItem). k.item.serial == n)) (queued_are c s)
    ∙ find_map (queued_as s) (λ k. k.item.serial == n) (stood c s)

places_are : (c : Settings) (s : State) → all_places c s ≡ map (λ x. x.place) (stood c s)
places_are c s =
    flat_same (places c s) (λ q. map (λ (x : Stood). x.place) (stood_in c s q)) s.queues
    (λ q m. sym (map_map (λ (x : Stood). x.place) (λ p. record { queue = q; place = p }) (places c s q)
    ∙ itself (places c s q)))
    ∙ sym (map-flat (λ (x : Stood). x.place) (stood_in c s) s.queues)
  where
    itself : (ps : List Place) → map (λ (p : Place). p) ps ≡ ps
    itself [] = refl
    itself (p ∷ ps) = ap (λ l. p ∷ l) (itself ps)

place_at_is : (c : Settings) (s : State) (n : ℕ) →
    place_at c s n ≡ option_map (λ x. x.place) (find (has_serial n) (stood c s))
place_at_is c s n =
    ap (find (λ (p : Place). p.item.serial == n)) (places_are c s)
    ∙ find_map (λ (x : Stood). x.place) (λ p. p.item.serial == n) (stood c s)

-- it is that of its change
pub by_change : (c : Settings) (s : State) → IsSound c s → (n : ℕ) (row : ItemRow) → Some row ≡ item_at c s n →
    queued_of c s row.change ≡ queued_at c s n
by_change c s h n row e =
    let it = some_before (λ x. row_of s.builds x.place) (find (has_serial n) (stood c s)) row
    (sym (item_is c s n) ∙ sym e) in
    let m = (found (has_serial n) (stood c s) it.0 it.1).0 in
    ap (λ (r : ItemRow). queued_of c s r.change) (sym it.2)
    ∙ queued_is c s (change_of it.0)
    ∙ ap (option_map (queued_as s)) (found_itself change_of (stood c s) it.0 m (change_once c s h (change_of it.0)))
    ∙ sym (queued_at_is c s n ∙ ap (option_map (queued_as s)) it.1)

-- ---- its jobs

pub jobs_are : (builds : List Build) (p : Place) → AreEntries (job_piece builds p)
jobs_are builds p = record { begins = λ j. refl; behind = behind }
  where
    behind : (j : Job) (rest : List ℕ) → job_piece builds p j rest ≡ job_piece builds p j [] ++ rest
    behind j rest = simp append_assoc

pub jobs_told_are : (cut : Bool) (builds : List Build) → AreEntries (job_told cut builds)
jobs_told_are cut builds = record { begins = λ j. refl; behind = behind }
  where
    behind : (j : Job) (rest : List ℕ) → job_told cut builds j rest ≡ job_told cut builds j [] ++ rest
    behind j rest = simp append_assoc

cut_by : (f b h : Bool) → f && not b && (b || h) ≡ f && not b && h
cut_by true true h = refl
cut_by true false h = refl
cut_by false b h = refl

jobs_at_place : (c : Settings) (x : Content) → are_sound c ≡ true → IsLawfulContent c x → (y : Stood) →
    In y (stood c x.state) → (rest : List ℕ) →
    jobs_by_key c x.state (queued_as x.state y) rest ≡ jobs_piece x.state.builds y.place rest
jobs_at_place c x a lawful y m rest =
    let s = x.state in
    let p = y.place in
    let there = stood_there c s y m in
    let facts = place_facts c s y.queue p there.1 in
    let here = to_flat (places c s) s.queues y.queue p there.0 there.1 in
    let named = named_itself c s a lawful.lawful.sound y.queue there.0 in
    let rise = (lawful_front c x lawful y.queue.name y.queue named).rise in
    let blocked = blocked_by_key c s a lawful.lawful.sound y m rise in
    let cuts : is_cut_by_key c s (queued_as s y) ≡ is_cut s.builds p =
    (λ d. sym facts.fast d && not (blocked d) && (is_blocked p || has_failure s.builds p))
    ∙ cut_by p.fast (is_blocked p) (has_failure s.builds p) in
    let counted = all_count c s lawful.lawful p here in
    array_is (jobs_are s.builds p) p.jobs _ rest
    (λ d. joined (map (λ j. job_object j (cond (cuts d)
    (cut_slot (slots_are s p (live_builds s p.item.serial) j refl counted d))
    (slots_are s p (live_builds s p.item.serial) j refl counted d))) (sym facts.jobs d)) [])

pub jobs_are_told : (c : Settings) (x : Content) → are_sound c ≡ true → IsLawfulContent c x → (n : ℕ)
    (k : QueuedItem) → queued_at c x.state n ≡ Some k → (rest : List ℕ) →
    jobs_by_key c x.state k rest ≡ or_null (jobs_piece x.state.builds) (place_at c x.state n) rest
jobs_are_told c x a lawful n k e rest =
    let s = x.state in
    let it = some_before (queued_as s) (find (has_serial n) (stood c s)) k (sym (queued_at_is c s n) ∙ e) in
    let m = (found (has_serial n) (stood c s) it.0 it.1).0 in
    ap (λ (j : QueuedItem). jobs_by_key c s j rest) (sym it.2)
    ∙ jobs_at_place c x a lawful it.0 m rest
    ∙ ap (λ (o : Option Place). or_null (jobs_piece s.builds) o rest)
    (sym (place_at_is c s n ∙ ap (option_map (λ (z : Stood). z.place)) it.1))

-- ---- what is told

pub queued_told : (c : Settings) (x : Content) → are_sound c ≡ true → IsLawfulContent c x → (n : ℕ) (k : QueuedItem)
    (t : WrittenItem) → Some k ≡ queued_at c x.state n → t.queue ≡ k.queue → t.change ≡ k.item.change →
    t.revision ≡ k.item.revision → t.verdict ≡ None → string_bytes t.jobs ≡ jobs_by_key c x.state k [] →
    IsToldOf c x.state n t
queued_told c x a lawful n k t e q ch r v j = record {
  told = ap (λ o. option_or (option_map told_queued o) (option_map told_left (left_at x.state n))) (sym e)
      ∙ (λ i. Some (record { queue = sym q i; change = sym ch i; revision = sym r i; verdict = sym v i }));
  jobs = j ∙ jobs_are_told c x a lawful n k (sym e) [];
}

pub left_told : (c : Settings) (s : State) (n : ℕ) (l : LeftItem) (t : WrittenItem) → None ≡ queued_at c s n →
    Some l ≡ left_at s n → t.queue ≡ l.queue → t.change ≡ l.report.change → t.revision ≡ l.report.revision →
    t.verdict ≡ Some l.report.verdict → string_bytes t.jobs ≡ codes "null" → IsToldOf c s n t
left_told c s n l t e f q ch r v j = record {
  told = (λ i. option_or (option_map told_queued (sym e i)) (option_map told_left (sym f i)))
      ∙ (λ i. Some (record { queue = sym q i; change = sym ch i; revision = sym r i; verdict = sym v i }));
  jobs = j ∙ ap (λ (o : Option Place). or_null (jobs_piece s.builds) o [])
      (sym (place_at_is c s n ∙ ap (option_map (λ (z : Stood). z.place))
      (none_before (queued_as s) (find (has_serial n) (stood c s)) (sym (queued_at_is c s n) ∙ sym e))));
}

-- ---- the text

pub summaries_are : AreEntries summary_piece
summaries_are = record { begins = λ b. refl; behind = behind }
  where
    behind : (b : BuildSummary) (rest : List ℕ) → summary_piece b rest ≡ summary_piece b [] ++ rest
    behind b rest = simp append_assoc

array_behind : {X : Type 0} {f : X → Piece} → AreEntries f → (xs : List X) (rest : List ℕ) →
    array (map f xs) rest ≡ array (map f xs) [] ++ rest
array_behind {f = f} h xs rest =
    ap (λ l. 91 ∷ l) (joined_behind h xs (93 ∷ rest)
    ∙ sym (ap (λ l. l ++ rest) (joined_behind h xs (93 ∷ [])) ∙ append_assoc (joined (map f xs) []) (93 ∷ []) rest))

jobs_behind : (builds : List Build) (o : Option Place) (text rest : List ℕ) →
    text ≡ or_null (jobs_piece builds) o [] → written text rest ≡ or_null (jobs_piece builds) o rest
jobs_behind builds None text rest e = ap (λ l. l ++ rest) e
jobs_behind builds (Some p) text rest e = ap (λ l. l ++ rest) e ∙ sym (array_behind (jobs_are builds p) p.jobs rest)

verdict_is : (v : Option Verdict) (rest : List ℕ) →
    written (verdict_text v) rest ≡ or_null (λ w. plain (verdict_word w)) v rest
verdict_is None rest = refl
verdict_is (Some v) rest = name_is (Some (verdict_word v)) rest

pub item_is_told : (c : Settings) (s : State) (n : ℕ) (t : WrittenItem) (last : List BuildSummary)
    (builds text : List ℕ) (kept : ℕ) → IsToldOf c s n t → last ≡ last_builds s n most_listed →
    builds ≡ joined (map summary_piece last) [] → kept ≡ length (builds_of s n) → text ≡ item_told n t builds kept [] →
    Some text ≡ item_text c s n
item_is_told c s n t last builds text kept h l b k e =
    let all : builds ≡ joined (map summary_piece (last_builds s n most_listed)) [] =
    b ∙ ap (λ bs. joined (map summary_piece bs) []) l in
    ap Some (e ∙ (λ i. item_object n (told_summary t)
    (λ r. array_is summaries_are (last_builds s n most_listed) builds r all i) (k i)
    (λ r. jobs_behind s.builds (place_at c s n) (string_bytes t.jobs) r h.jobs i) (λ r. verdict_is t.verdict r i) []))
    ∙ sym (ap (option_map (item_text_of c s n)) h.told)
