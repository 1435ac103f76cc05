-- How lines of records are written one by one, while their rows are given.
use Rattle.std.proofs.Common.{◌≡◌, ◌≤◌, ◌<◌, ◌+◌, ◌-◌, ℕ, List, [], ◌∷◌, ◌++◌, Option, Some, None, Ok, Err, Result}
use Rattle.std.proofs.Common.{map, take, length, refl, sym, ap, subst, ◌∙◌, arith, append_assoc, append-nil}
use Rattle.std.proofs.Common.{length-append, IsTrue}
use Rattle.std.proofs.lemmas.List.{take-append-le, take_all}
use Rattle.std.proofs.Math.Seq.{take-append-add}
use Rattle.std.proofs.KnownBytes.{Appends-trans}
use Rattle.std.specs.Io.KnownBytes.{Appends}
use Rattle.sqlite.proofs.Callers.{EndsIn, IsPlain, begins_shown, command_of, given_begin}
use Rattle.sqlite.specs.Command.{Command}
use Rattle.sqlite.specs.Command.TheVariants.{Select}
use Rattle.sqlite.specs.Effect.{Database}
use Rattle.sqlite.specs.Given.{HasGiven}
use Rattle.sqlite.specs.Held.{Held, state}
use Rattle.sqlite.specs.Listing.{reads_listing, understood}
use Rattle.sqlite.specs.Order.{Row}
use Rattle.sqlite.specs.Query.{Query}
use Rattle.sqlite.specs.State.{HasCleanDisk, IsUnchanged, State, Survives}
use Rattle.sqlite_resolve.specs.declared.compiled.Compiled.{Compiled}
use Rattle.sqlite_resolve.specs.declared.error.CompileError.{CompileError}
use Rattle.sqlite_trees.specs.declared.store.Store.{Ghosts}
use Rattle.gate_types.specs.Tap.{inside, Took, WritesFront}
use Rattle.gate_types.specs.declared.tap.Tap.{Tap}
use Rattle.gate_found_rows.specs.Finds.{Finds, IsPlainQuery, OnlyReads, Stays}
use Rattle.gate_found_rows.specs.Reads.{IsOnlyRead}
use Rattle.gate_found_rows.proofs.StayLemmas.{shown_finds}
use Rattle.gate_queue_queries.specs.Streamed.{ReadsOn, StreamsRows, body, lines_of_records}

-- ---- rows that are given

-- a row that follows those of some records is that of the next
next_is : {X : Type 0} (shown : X → Row) (done rest : List X) (row : Row) (tail : List Row) → (map shown done ++ row ∷ []) ++ tail ≡ map shown (done ++ rest)
    → (x : X) × (more : List X) × (rest ≡ x ∷ more) × (row ≡ shown x)
next_is shown [] [] row tail is = absurd cc
next_is shown [] (x ∷ more) row tail is = (x, more, refl, cc)
next_is shown (d ∷ done) rest row tail is = next_is shown done rest row tail cc

-- where the rows are those of some records alone, there are no more
none_is : {X : Type 0} (shown : X → Row) (done rest : List X) → map shown done ≡ map shown (done ++ rest) → rest ≡ []
none_is shown [] [] is = refl
none_is shown [] (x ∷ more) is = absurd cc
none_is shown (d ∷ done) rest is = none_is shown done rest cc

-- the rows of a record more
more_shown : {X : Type 0} (shown : X → Row) (done : List X) (x : X) → map shown done ++ shown x ∷ [] ≡ map shown (done ++ x ∷ [])
more_shown shown [] x = refl
more_shown shown (d ∷ done) x = ap (λ l. shown d ∷ l) (more_shown shown done x)

-- a query with no WITH ends
ends_so : (q : Query) (names : List (List ℕ)) (c : Command) (db : Database) (params : Row) → c ≡ Select (record { lets = []; body = q }) names → EndsIn c db params
ends_so q names c db params is = subst (λ (c : Command). EndsIn c db params) (sym is) tt

-- what has gone by
unchanged_refl : (s : State) → IsTrue s.is_open → IsUnchanged s s
unchanged_refl s up = (record { was_open = up; is_open = up; now_is = refl; committed_is = refl; mode = refl }, record { changes = refl; last_rowid = refl }, refl)

-- the rows so far begin what the query finds
given_finds : {S : Type 0} (g : Ghosts S) (sql : List ℕ) (params : Row) (h : Held S) (given : List Row) (q : Query) (names : List (List ℕ)) → IsPlainQuery (understood (state g h).now.schema sql) q names
    → IsTrue (state g h).is_open → HasGiven g sql params h given → (tail : List Row) × Finds sql params (state g h).now (given ++ tail)
given_finds g sql params h given q names plain up gave =
    let s = state g h in
    let shown = begins_shown sql params s s given (given_begin g sql params h given gave) (unchanged_refl s up)
    (λ c db it from. ends_so q names c.command db _ (subst (λ (r : Result Compiled CompileError). IsPlainQuery r q names) it.is plain).0) in
    (shown.0, shown_finds sql params s s s (given ++ shown.0) refl shown.1)

-- the query stands at the next record, or behind the last
abbrev pub StandsAt : {S X : Type 0} → Ghosts S → List ℕ → Row → (X → Row) → Held S → List X → List X → Option X → Type 0
StandsAt g sql params shown h done rest (Some x) = (more : List _) × (rest ≡ x ∷ more) × HasGiven g sql params h (map shown (done ++ x ∷ []))
StandsAt g sql params shown h done rest None = rest ≡ []

-- where a record is read, it is the next
pub reads_next : {S X : Type 0} (g : Ghosts S) (sql : List ℕ) (params : Row) (shown : X → Row) (first : State) (old new : Held S) (done rest : List X) (next : Option X)
    → StreamsRows sql params first shown (done ++ rest) → (state g old).now ≡ first.now → IsUnchanged (state g old) (state g new)
    → ReadsOn g sql params shown old new (map shown done) next → StandsAt g sql params shown new done rest next
reads_next g sql params shown first old new done rest None streams was same reads =
    none_is shown done rest (streams.found (map shown done) (shown_finds sql params first (state g old) (state g new) (map shown done) was reads))
reads_next {X = X} g sql params shown first old new done rest (Some x) streams was same reads =
    let now_is : (state g new).now ≡ first.now = same.0.now_is ∙ was in
    let plain = subst (λ (d : Database). IsPlainQuery (understood d.schema sql) streams.query streams.names) (sym now_is) streams.plain in
    let finds = given_finds g sql params new (map shown done ++ reads.0 ∷ []) streams.query streams.names plain same.0.is_open reads.1 in
    let are = streams.found _ (subst (λ (d : Database). Finds sql params d ((map shown done ++ reads.0 ∷ []) ++ finds.0)) now_is finds.1) in
    let at = next_is shown done rest reads.0 finds.0 are in
    let is : x ≡ at.0 = reads.2 at.0 at.3 in
    (at.1, at.2 ∙ ap (λ y. y ∷ at.1) (sym is), subst (HasGiven g sql params new) (ap (λ (r : Row). map shown done ++ r ∷ []) (at.3 ∙ ap shown (sym is)) ∙ more_shown shown done x) reads.1)

-- ---- the query, begun on the connection

-- a plain text that is a query is just that
pub query_of : (r : Result Compiled CompileError) (q : Query) (names : List (List ℕ)) → command_of r ≡ Select (record { lets = []; body = q }) names → IsPlain r → IsPlainQuery r q names
query_of (Ok c) q names is plain = (is, plain.0, plain.1)
query_of (Err e) q names is plain = absurd cc

-- and a plain query is a plain text
pub plain_of : (r : Result Compiled CompileError) (q : Query) (names : List (List ℕ)) → IsPlainQuery r q names → IsPlain r
plain_of (Ok c) q names h = (h.1, h.2)
plain_of (Err e) q names h = absurd h

-- what it streams, it streams of tables that are the same
pub streams_at : {X : Type 0} (sql : List ℕ) (params : Row) (shown : X → Row) (xs : List X) (first start : State) → start.now ≡ first.now → StreamsRows sql params first shown xs → StreamsRows sql params start shown xs
streams_at sql params shown xs first start is it = record {
  query = it.query;
  names = it.names;
  plain = subst (λ (d : Database). IsPlainQuery (understood d.schema sql) it.query it.names) (sym is) it.plain;
  unlisted = ap (λ (d : Database). reads_listing d.schema sql) is ∙ it.unlisted;
  found = λ rows finds. it.found rows (subst (λ (d : Database). Finds sql params d rows) is finds);
}

-- what is asked by a query that only reads is only read
pub read_by : (sql : List ℕ) (old new : State) → OnlyReads sql → (HasCleanDisk new → HasCleanDisk old) → (HasCleanDisk new → OnlyReads sql → Stays old new)
    → (HasCleanDisk new → OnlyReads sql → Survives old new (λ _. ⊥)) → IsOnlyRead old new
read_by sql old new reads clean stays crash = record { clean = clean; stays = λ h. stays h reads; crash = λ h. crash h reads }

-- ---- the text, cut at a record

-- the lines of more records
pub lines_more : {X : Type 0} (line : ℕ → X → List ℕ) (n : ℕ) (xs ys : List X) → lines_of_records line n (xs ++ ys) ≡ lines_of_records line n xs ++ lines_of_records line (n + length xs) ys
lines_more line n [] ys = let e : n ≡ n + 0 = omega arith in ap (λ m. lines_of_records line m ys) e
lines_more line n (x ∷ xs) ys =
    let e : n + 1 + length xs ≡ n + length (x ∷ xs) = omega arith in
    ap (λ l. line n x ++ l) (lines_more line (n + 1) xs ys ∙ ap (λ m. lines_of_records line (n + 1) xs ++ lines_of_records line m ys) e)
    ∙ sym (append_assoc (line n x) (lines_of_records line (n + 1) xs) _)

-- with the line of a record more
text_more : {X : Type 0} (head : List ℕ) (line : ℕ → X → List ℕ) (done : List X) (x : X) (count : ℕ) → length done ≡ count →
    (head ++ lines_of_records line 0 done) ++ line count x ≡ head ++ lines_of_records line 0 (done ++ x ∷ [])
text_more head line done x count counted =
    let at : count ≡ 0 + length done = omega (arith, counted) in
    append_assoc head (lines_of_records line 0 done) (line count x)
    ∙ ap (λ l. head ++ l) (ap (λ n. lines_of_records line 0 done ++ line n x) at ∙ ap (λ l. lines_of_records line 0 done ++ l) (sym (append-nil (line (0 + length done) x))) ∙ sym (lines_more line 0 done (x ∷ [])))

-- of those that fit, what is left behind the first of them
fits : {X : Type 0} (most : ℕ) (done rest : List X) → length done ≤ most → take most (done ++ rest) ≡ done ++ take (most - length done) rest
fits most done rest low =
    let k : most ≡ length done + (most - length done) = omega (arith, low) in
    ap (λ m. take m (done ++ rest)) k ∙ take-append-add done rest (most - length done)

-- the text behind the first of them
body_cut : {X : Type 0} (head : List ℕ) (line : ℕ → X → List ℕ) (most : ℕ) (done rest : List X) → length done ≤ most →
    body head line most (done ++ rest) ≡ (head ++ lines_of_records line 0 done) ++ lines_of_records line (0 + length done) (take (most - length done) rest)
body_cut head line most done rest low =
    ap (λ l. head ++ lines_of_records line 0 l) (fits most done rest low) ∙ ap (λ l. head ++ l) (lines_more line 0 done _) ∙ sym (append_assoc head (lines_of_records line 0 done) _)

-- ---- what a writer took

-- some first bytes, or all
abbrev pub WritesSome : Option (List ℕ) → Option (List ℕ) → List ℕ → Type 0
WritesSome old new bytes = (n : ℕ) × (n ≤ length bytes) × Appends old new (take n bytes)

-- a text is the beginning of a longer one
pub whole_some : (a b : Option (List ℕ)) (xs ys : List ℕ) → Appends a b xs → WritesSome a b (xs ++ ys)
whole_some a b xs ys w =
    (length xs, (omega (arith, length-append xs ys)), subst (Appends a b) (sym (take-append-le (length xs) xs ys (omega arith) ∙ take_all (length xs) xs (omega arith))) w)

-- and so a front of one that is longer
pub whole_front : (a b : Option (List ℕ)) (xs ys : List ℕ) → 0 < length ys → Appends a b xs → WritesFront a b (xs ++ ys)
unfolding whole_some
whole_front a b xs ys some w = (length xs, (omega (arith, some, length-append xs ys)), (whole_some a b xs ys w).2)

-- and so are some bytes of it
pub sooner_some : (a b : Option (List ℕ)) (xs ys : List ℕ) → WritesSome a b xs → WritesSome a b (xs ++ ys)
sooner_some a b xs ys (n, low, w) =
    (n, (omega (arith, low, length-append xs ys)), subst (Appends a b) (sym (take-append-le n xs ys low)) w)

-- some bytes behind a text are some of both
pub later_some : (a b c : Option (List ℕ)) (xs ys : List ℕ) → Appends a b xs → WritesSome b c ys → WritesSome a c (xs ++ ys)
later_some a b c xs ys p (n, low, w) =
    (length xs + n, (omega (arith, low, length-append xs ys)), subst (Appends a c) (sym (take-append-add xs ys n)) (Appends-trans a b c xs (take n ys) p w))

-- a front is some bytes
pub front_some : (a b : Option (List ℕ)) (xs : List ℕ) → WritesFront a b xs → WritesSome a b xs
front_some a b xs (n, low, w) = (n, (omega (arith, low)), w)

-- some bytes are a front of a longer text
pub some_front : (a b : Option (List ℕ)) (xs ys : List ℕ) → 0 < length ys → WritesSome a b xs → WritesFront a b (xs ++ ys)
some_front a b xs ys some (n, low, w) =
    (n, (omega (arith, some, low, length-append xs ys)), subst (Appends a b) (sym (take-append-le n xs ys low)) w)

-- ---- the lines, written one by one

-- the writer has taken the text up to a record, and the query stands at it
pub record IsWriting {S W X : Type 0} (g : Ghosts S) (sql : List ℕ) (params : Row) (shown : X → Row) (line : ℕ → X → List ℕ) (head : List ℕ) (held : W → Option (List ℕ)) (old now : Tap W) (h : Held S)
    (count : ℕ) (next : Option X) (xs : List X) : Type 0 where
  pub done : List X
  pub rest : List X
  pub split : xs ≡ done ++ rest
  pub counted : length done ≡ count
  pub taken : Took held old now (head ++ lines_of_records line 0 done)
  pub stands : StandsAt g sql params shown h done rest next

module _ {S W X : Type 0} (g : Ghosts S) (sql : List ℕ) (params : Row) (shown : X → Row) (line : ℕ → X → List ℕ) (head : List ℕ) (held : W → Option (List ℕ)) (old : Tap W) where
  -- the first record is read, and the head is written
  pub begins_writing : (new : Tap W) (was now : Held S) (xs : List X) (next : Option X) → StreamsRows sql params (state g was) shown xs
      → IsUnchanged (state g was) (state g now) → ReadsOn g sql params shown was now [] next → Took held old new head → IsWriting g sql params shown line head held old new now 0 next xs
  begins_writing new was now xs next streams same reads took = record {
    done = [];
    rest = xs;
    split = refl;
    counted = refl;
    taken = subst (Took held old new) (sym (append-nil head)) took;
    stands = reads_next g sql params shown (state g was) was now [] xs next streams refl same reads;
  }

  -- a line is written, and the next record is read
  pub writes_on : (mid new : Tap W) (first : State) (was now : Held S) (count : ℕ) (x : X) (next : Option X) (xs : List X) → StreamsRows sql params first shown xs
      → IsUnchanged first (state g was) → IsUnchanged (state g was) (state g now) → IsWriting g sql params shown line head held old mid was count (Some x) xs → Took held mid new (line count x)
      → ((given : List Row) → HasGiven g sql params was given → ReadsOn g sql params shown was now given next) → IsWriting g sql params shown line head held old new now (count + 1) next xs
  writes_on mid new first was now count x next xs streams before same it took reads =
      let done = it.done ++ x ∷ [] in
      let more = it.stands.0 in
      let split : xs ≡ done ++ more = it.split ∙ ap (λ l. it.done ++ l) it.stands.1 ∙ sym (append_assoc it.done (x ∷ []) more) in
      record {
        done = done;
        rest = more;
        split = split;
        counted = length-append it.done (x ∷ []) ∙ ap (λ n. n + 1) it.counted;
        taken = subst (Took held old new) (text_more head line it.done x count it.counted) (Appends-trans _ _ _ _ _ it.taken took);
        stands = reads_next g sql params shown first was now done more next (subst (StreamsRows sql params first shown) split streams) before.0.now_is same (reads _ it.stands.2);
      }

  -- the text with a record to come, cut behind its line
  text_at : (most : ℕ) (done : List X) (x : X) (more : List X) (count : ℕ) (xs : List X) → count < most → length done ≡ count → xs ≡ done ++ x ∷ more
      → ((head ++ lines_of_records line 0 done) ++ line count x) ++ lines_of_records line (0 + length (done ++ x ∷ [])) (take (most - length (done ++ x ∷ [])) more) ≡ body head line most xs
  text_at most done x more count xs low counted split =
      let within : length (done ++ x ∷ []) ≤ most = omega (arith, low, counted, length-append done (x ∷ [])) in
      ap (λ l. l ++ lines_of_records line (0 + length (done ++ x ∷ [])) (take (most - length (done ++ x ∷ [])) more)) (text_more head line done x count counted)
      ∙ sym (body_cut head line most (done ++ x ∷ []) more within) ∙ ap (body head line most) (append_assoc done (x ∷ []) more ∙ sym split)

  -- so it is where it stops in a line
  pub cut_in_line : (most : ℕ) (mid new : Tap W) (now : Held S) (count : ℕ) (x : X) (xs : List X) → count < most → IsWriting g sql params shown line head held old mid now count (Some x) xs
      → WritesSome (held (inside mid)) (held (inside new)) (line count x) → WritesSome (held (inside old)) (held (inside new)) (body head line most xs)
  cut_in_line most mid new now count x xs low it cut =
      subst (WritesSome (held (inside old)) (held (inside new))) (text_at most it.done x it.stands.0 count xs low it.counted (it.split ∙ ap (λ l. it.done ++ l) it.stands.1))
      (sooner_some _ _ _ _ (later_some _ _ _ (head ++ lines_of_records line 0 it.done) (line count x) it.taken cut))

  -- or behind it
  pub stops_behind : (most : ℕ) (mid new : Tap W) (now : Held S) (count : ℕ) (x : X) (xs : List X) → count < most → IsWriting g sql params shown line head held old mid now count (Some x) xs
      → Took held mid new (line count x) → WritesSome (held (inside old)) (held (inside new)) (body head line most xs)
  stops_behind most mid new now count x xs low it took =
      subst (WritesSome (held (inside old)) (held (inside new))) (text_at most it.done x it.stands.0 count xs low it.counted (it.split ∙ ap (λ l. it.done ++ l) it.stands.1))
      (whole_some _ _ _ _ (Appends-trans _ _ _ _ _ it.taken took))

  -- all of it is written where as many are as may be, or none is to come
  pub ends_with : (most : ℕ) (new : Tap W) (now : Held S) (count : ℕ) (next : Option X) (xs : List X) (it : IsWriting g sql params shown line head held old new now count next xs) → take most xs ≡ it.done
      → Took held old new (body head line most xs) × (count ≡ length (take most xs))
  ends_with most new now count next xs it all =
      (subst (Took held old new) (ap (λ l. head ++ lines_of_records line 0 l) (sym all)) it.taken, sym it.counted ∙ ap length (sym all))

  pub ends_none : (most : ℕ) (new : Tap W) (now : Held S) (count : ℕ) (xs : List X) → count ≤ most → IsWriting g sql params shown line head held old new now count None xs
      → Took held old new (body head line most xs) × (count ≡ length (take most xs))
  ends_none most new now count xs low it =
      ends_with most new now count None xs it
      (let within : length it.done ≤ most = omega (arith, low, it.counted) in
      ap (take most) (it.split ∙ ap (λ l. it.done ++ l) it.stands ∙ append-nil it.done) ∙ take_all most it.done within)

  pub ends_full : (most : ℕ) (new : Tap W) (now : Held S) (next : Option X) (xs : List X) → IsWriting g sql params shown line head held old new now most next xs
      → Took held old new (body head line most xs) × (most ≡ length (take most xs))
  ends_full most new now next xs it =
      ends_with most new now most next xs it
      (let low : length it.done ≤ most = omega (arith, it.counted) in
      let none : most - length it.done ≡ 0 = omega (arith, it.counted) in
      ap (take most) it.split ∙ fits most it.done it.rest low ∙ ap (λ n. it.done ++ take n it.rest) none ∙ append-nil it.done)
