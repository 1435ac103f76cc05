-- The lines of deliveries, and their writing.
use Rattle.std.proofs.Common.{◌≡◌, ℕ, zero, ◌+◌, ◌<◌, List, [], ◌∷◌, ◌++◌, length, take, drop, get_or, Option, None}
use Rattle.std.proofs.Common.{Some, Result, Ok, Err, sym, ap, subst, ◌∙◌, arith, append_assoc, append-nil}
use Rattle.std.proofs.Common.{length-append, take-append-drop}
use Rattle.std.specs.Prelude.{option_map}
use Rattle.std.specs.Io.KnownBytes.{Appends}
use Rattle.std.proofs.KnownBytes.{Appends-nil}
use Rattle.std.proofs.lemmas.List.Concat.{flat_map-append}
use Rattle.std.proofs.lemmas.List.{take_more}
use Rattle.gate_types.specs.Tap.{Took, TookFront, WritesFront}
use Rattle.gate_types.specs.declared.records.Id.{Id}
use Rattle.gate_types.specs.declared.records.Kept.{Kept}
use Rattle.gate_types.specs.declared.tap.Tap.{Tap}
use Rattle.gate_types.proofs.TapLemmas.{writes_later, writes_sooner}
use Rattle.gate_archive.specs.Feed.{feed_line, feed_lines, behind, fed}
use Rattle.gate_archive.specs.Writes.{TookSome, WritesFeed}
use Rattle.gate_archive.specs.declared.fault.FeedFault.{FeedFault}
use Rattle.gate_archive.specs.declared.fault.FeedFault.TheVariants as fault
use Rattle.gate_book.specs.Past.{BreaksOffFeed, LeavesKeptLines, WritesKeptLines}

-- the lines up to a delivery, and its own
pub feed_next : (ks : List Kept) (i : ℕ) (k : Kept) → i < length ks → k ≡ get_or ks i k →
    feed_lines (take (i + 1) ks) ≡ feed_lines (take i ks) ++ feed_line k
feed_next ks i k l at =
    ap feed_lines (take_more ks i k l)
    ∙ flat_map-append feed_line (take i ks) (get_or ks i k ∷ [])
    ∙ ap (λ t. feed_lines (take i ks) ++ t) (append-nil (feed_line (get_or ks i k)))
    ∙ ap (λ x. feed_lines (take i ks) ++ feed_line x) (sym at)

-- the lines up to a place, and those behind
pub feed_split : (ks : List Kept) (i : ℕ) → feed_lines ks ≡ feed_lines (take i ks) ++ feed_lines (drop i ks)
feed_split ks i = ap feed_lines (sym (take-append-drop i ks)) ∙ flat_map-append feed_line (take i ks) (drop i ks)

-- nothing written is a front of a line
pub nothing_of_line : (a : Option (List ℕ)) (k : Kept) → WritesFront a a (feed_line k)
nothing_of_line a k = (zero, omega (arith, length-append {A = ℕ}), Appends-nil a)

-- the lines up to a delivery, and a front of its own
pub feed_cut : (a b c : Option (List ℕ)) (ks : List Kept) (i : ℕ) (k : Kept) → i < length ks → k ≡ get_or ks i k →
    Appends a b (feed_lines (take i ks)) → WritesFront b c (feed_line k) → WritesFront a c (feed_lines ks)
feed_cut a b c ks i k l at p f =
    subst (WritesFront a c) (sym (feed_split ks (i + 1)))
    (writes_sooner a c (feed_lines (take (i + 1) ks)) (feed_lines (drop (i + 1) ks))
    (subst (WritesFront a c) (sym (feed_next ks i k l at)) (writes_later a b c _ _ p f)))

-- the parts of the text
pub feed_parts : (front : List ℕ) (ks : List Kept) (i : ℕ) →
    front ++ feed_lines ks ≡ (front ++ feed_lines (take i ks)) ++ feed_lines (drop i ks)
feed_parts front ks i =
    ap (λ t. front ++ t) (feed_split ks i) ∙ sym (append_assoc front (feed_lines (take i ks)) (feed_lines (drop i ks)))

module _ {W : Type 0} (held : W → Option (List ℕ)) where
  -- a front of the first part, and what the fault leaves of the writer
  pub first_cut : (t0 t1 : Tap W) (xs ys all : List ℕ) (f : FeedFault) → all ≡ xs ++ ys → TookFront held t0 t1 xs →
      BreaksOffFeed t1 f → LeavesKeptLines held t0 t1 all f
  first_cut t0 t1 xs ys all fault.NoDelivery e p h = h
  first_cut t0 t1 xs ys all fault.Unavailable e p h = absurd h
  first_cut t0 t1 xs ys all fault.Broken e p h = (subst (WritesFront _ _) (sym e) (writes_sooner _ _ xs ys p), h)
  first_cut t0 t1 xs ys all fault.Write e p h = (subst (WritesFront _ _) (sym e) (writes_sooner _ _ xs ys p), h)

  -- the first part, and a front of the other
  pub rest_cut : (t0 t1 t2 : Tap W) (xs ys all : List ℕ) (f : FeedFault) → all ≡ xs ++ ys → Took held t0 t1 xs →
      TookFront held t1 t2 ys → BreaksOffFeed t2 f → LeavesKeptLines held t0 t2 all f
  rest_cut t0 t1 t2 xs ys all fault.NoDelivery e p q h = h
  rest_cut t0 t1 t2 xs ys all fault.Unavailable e p q h = absurd h
  rest_cut t0 t1 t2 xs ys all fault.Broken e p q h = (subst (WritesFront _ _) (sym e) (writes_later _ _ _ xs ys p q), h)
  rest_cut t0 t1 t2 xs ys all fault.Write e p q h = (subst (WritesFront _ _) (sym e) (writes_later _ _ _ xs ys p q), h)

-- ---- of a content

module _ {W : Type 0} (held : W → Option (List ℕ)) (t0 t1 : Tap W) where
  some_taken : (text : List ℕ) → TookFront held t0 t1 text → TookSome held t0 t1 text
  some_taken text (n, short, w) = (n, omega (arith, short), w)

  -- what is written of deliveries that are there
  pub of_feed : (kept : List Kept) (after : Option Id) (most : ℕ) (front : List ℕ) (ks : List Kept)
      (r : Result ℕ FeedFault) → behind after kept ≡ Some ks →
      WritesKeptLines held t0 t1 (front ++ feed_lines (take most ks)) (length (take most ks)) r →
      WritesFeed kept after most front held t0 t1 r
  of_feed kept after most front ks (Ok n) e h =
      record { told = take most ks; are = ap (option_map (λ x. take most x)) e; taken = (h.0, h.1) }
  of_feed kept after most front ks (Err fault.NoDelivery) e h = absurd h
  of_feed kept after most front ks (Err fault.Unavailable) e h = tt
  of_feed kept after most front ks (Err fault.Broken) e h =
      record { told = take most ks; are = ap (option_map (λ x. take most x)) e; taken = some_taken _ h.0 }
  of_feed kept after most front ks (Err fault.Write) e h =
      record { told = take most ks; are = ap (option_map (λ x. take most x)) e; taken = some_taken _ h.0 }

-- where no delivery has the id, none is asked for
pub none_behind : (kept : List Kept) (after : Option Id) (most : ℕ) → behind after kept ≡ None → fed after most kept ≡ None
none_behind kept after most e = ap (option_map (λ ks. take most ks)) e
