-- The text of deliveries is their lines and an end.
use Rattle.std.proofs.Common.{◌≡◌, ◌<◌, ℕ, List, [], ◌∷◌, ◌++◌, Option, length, codes, decimal, sym, subst, arith}
use Rattle.std.proofs.Common.{append_assoc, length-append}
use Rattle.std.proofs.lemmas.List.{take-append-le, take_all}
use Rattle.std.specs.Io.KnownBytes.{Appends}
use Rattle.gate_types.proofs.TapLemmas.{writes_later}
use Rattle.gate_types.specs.Columns.{row}
use Rattle.gate_types.specs.Tap.{inside, Took, TookFront}
use Rattle.gate_types.specs.declared.records.Id.{Id}
use Rattle.gate_types.specs.declared.records.Kept.{Kept}
use Rattle.gate_types.specs.declared.tap.Tap.{Tap}
use Rattle.gate_archive.specs.Feed.{feed_lines}
use Rattle.gate_archive.specs.Writes.{TookSome, OfFeed, OfFeedText, LeavesFeed, LeavesFeedText}
use Rattle.gate_archive.specs.declared.fault.FeedFault.{FeedFault}
use Rattle.gate_archive.specs.declared.fault.FeedFault.TheVariants as fault
use Rattle.gate_types.specs.Limits.{most_listed}

-- the last line of a text with n deliveries
abbrev pub end_line : ℕ → List ℕ
end_line n = row (codes "end" ∷ decimal n ∷ [])

-- some first bytes of two texts are a beginning of these and a third that isn't empty
cut_before : {W : Type 0} (held : W → Option (List ℕ)) (old new : Tap W) (front lines end : List ℕ) → 0 < length end → TookSome held old new (front ++ lines)
    → TookFront held old new (front ++ (lines ++ end))
cut_before held old new front lines end some (n, fits, took) =
    subst (TookFront held old new) (append_assoc front lines end)
    ((n, omega (arith, length-append (front ++ lines) end, fits, some), subst (Appends (held (inside old)) (held (inside new))) (sym (take-append-le n (front ++ lines) end fits)) took))

-- an end isn't empty
some_end : (n : ℕ) → 0 < length (end_line n)
some_end n = omega (arith, length-append (codes "end" ++ 32 ∷ decimal n) (10 ∷ []))

-- a writer that took some first bytes of the lines took a beginning of the text
cut_text : {W : Type 0} (kept : List Kept) (after : Option Id) (front : List ℕ) (held : W → Option (List ℕ)) (old new : Tap W)
    → OfFeed kept after most_listed front (λ told. TookSome held old new) → OfFeedText kept after front (TookFront held old new)
cut_text kept after front held old new it = record {
  told = it.told;
  are = it.are;
  taken = cut_before held old new front (feed_lines it.told) (end_line (length it.told)) (some_end (length it.told)) it.taken;
}

-- what a fault of the lines leaves is a beginning of the text
pub leaves_text : {W : Type 0} (kept : List Kept) (after : Option Id) (front : List ℕ) (held : W → Option (List ℕ)) (old new : Tap W) (f : FeedFault)
    → LeavesFeed kept after most_listed front held old new f → LeavesFeedText kept after front held old new f
leaves_text kept after front held old new fault.NoDelivery it = it
leaves_text kept after front held old new fault.Unavailable it = it
leaves_text kept after front held old new fault.Broken it = cut_text kept after front held old new it
leaves_text kept after front held old new fault.Write it = cut_text kept after front held old new it

-- lines that were taken whole, and how many they are
abbrev pub WholeLines : {W : Type 0} → List Kept → Option Id → List ℕ → (W → Option (List ℕ)) → Tap W → Tap W → ℕ → Type 0
WholeLines kept after front held old new n = OfFeed kept after most_listed front (λ told text. Took held old new text × (n ≡ length told))

-- whole lines are some first bytes of them
pub no_end : {W : Type 0} (kept : List Kept) (after : Option Id) (front : List ℕ) (held : W → Option (List ℕ)) (old new : Tap W) (n : ℕ)
    → WholeLines kept after front held old new n → OfFeedText kept after front (TookFront held old new)
no_end kept after front held old new n it =
    let text = front ++ feed_lines it.told in
    cut_text kept after front held old new (record {
      told = it.told;
      are = it.are;
      taken = (length text, omega arith, subst (Appends (held (inside old)) (held (inside new))) (sym (take_all (length text) text (omega arith))) it.taken.0);
    })

-- whole lines, and a beginning of the end, are a beginning of the text
pub cut_end : {W : Type 0} (kept : List Kept) (after : Option Id) (front : List ℕ) (held : W → Option (List ℕ)) (old mid new : Tap W) (n : ℕ)
    → WholeLines kept after front held old mid n → TookFront held mid new (end_line n) → OfFeedText kept after front (TookFront held old new)
cut_end kept after front held old mid new n it took = record {
  told = it.told;
  are = it.are;
  taken = subst (TookFront held old new) (append_assoc front (feed_lines it.told) (end_line (length it.told)))
      (writes_later _ _ _ _ _ it.taken.0 (subst (λ m. TookFront held mid new (end_line m)) it.taken.1 took));
}
