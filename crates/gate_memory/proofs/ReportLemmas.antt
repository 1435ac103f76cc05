-- The index of a queue's reports.
use Rattle.std.proofs.Common.{◌≡◌, ℕ, ◌+◌, ◌≤◌, ◌⊎◌, inl, inr, ⊎_elim, List, [], ◌∷◌, length, take, drop, sym, ap}
use Rattle.std.proofs.Common.{◌∙◌, eqb-true, arith}
use Rattle.std.specs.Prelude.{◌-◌, min}
use Rattle.std.proofs.lemmas.List.{take_all, length-drop}
use Rattle.std.specs.List.{AllByRecursion}
use Rattle.gate_types.specs.declared.rows.ReportRow.{ReportRow}
use Rattle.gate_types.specs.State.{put_by}
use Rattle.gate_types.specs.Keys.{place_of_report}
use Rattle.gate_types.specs.Rising.{In}
use Rattle.gate_types.proofs.PlainLemmas.{below_or}
use Rattle.gate_book_trait.proofs.Finding.{in_weaker, all_in, rest_none}
use Rattle.gate_memory.specs.declared.pairs.Pair.{Pair}
use Rattle.gate_memory.specs.Pairs.{pair_key, IsFit}
use Rattle.gate_memory.specs.Reports.{TellsReports, is_of_serial, indexed_report}
use Rattle.gate_memory.proofs.PairLemmas.{same_pair, seconds_of, second_in}
use Rattle.gate_memory.proofs.CollectLemmas.{AreTold}
use Rattle.gate_memory.proofs.BuildLemmas.{all_put, in_put, still_in}

-- a report put, and its entry
pub tells_report_put : (entries : List Pair) (r : ReportRow) (rows : List ReportRow) → AllByRecursion IsFit entries →
    IsFit (indexed_report r) → TellsReports entries rows →
    TellsReports (put_by pair_key (indexed_report r) entries) (put_by place_of_report r rows)
tells_report_put entries r rows fit small told =
    all_put (λ x. In (indexed_report x) (put_by pair_key (indexed_report r) entries)) place_of_report r rows
    (in_put pair_key (indexed_report r) entries)
    (in_weaker (λ x. In (indexed_report x) entries) (λ x. In (indexed_report x) (put_by pair_key (indexed_report r) entries))
    (λ x h. still_in pair_key (indexed_report r) (indexed_report x) entries
    (λ e. same_pair (indexed_report x) (indexed_report r) (all_in IsFit entries (indexed_report x) fit h) small e) h)
    rows told)

-- each report of a serial has its place in the index
pub reports_are_told : (n : ℕ) (entries : List Pair) (rows : List ReportRow) → TellsReports entries rows →
    AreTold place_of_report (is_of_serial n) rows (seconds_of n entries)
reports_are_told n entries [] told = tt
reports_are_told n entries (r ∷ rs) told =
    ((λ e. second_in n (indexed_report r) entries (eqb-true r.report.serial n e) told.0), reports_are_told n entries rs told.1)

-- ---- some of a list

-- two places of which one row is the first, or none
drop_same : {X : Type 0} (i k : ℕ) (xs : List X) → (i ≡ k) ⊎ ((length xs ≤ i) × (length xs ≤ k)) → drop i xs ≡ drop k xs
drop_same i k xs h = ⊎_elim (λ e. ap (λ n. drop n xs) e) (λ t. rest_none xs i t.0 ∙ sym (rest_none xs k t.1)) h

take_same : {X : Type 0} (i k : ℕ) (xs : List X) → (i ≡ k) ⊎ ((length xs ≤ i) × (length xs ≤ k)) → take i xs ≡ take k xs
take_same i k xs h = ⊎_elim (λ e. ap (λ n. take n xs) e) (λ t. take_all i xs t.0 ∙ sym (take_all k xs t.1)) h

-- a part of a list from a place on, of so many rows as there are, and no more than asked for
pub page_is : {X : Type 0} (xs : List X) (from most start count : ℕ) → start ≡ min from (length xs) →
    count ≡ min (length xs - start) most → take (start + count - start) (drop start xs) ≡ take most (drop from xs)
page_is xs from most start count s n =
    take_same (start + count - start) most (drop start xs) counted
    ∙ ap (take most) (drop_same start from xs begun)
  where
    begun : (start ≡ from) ⊎ ((length xs ≤ start) × (length xs ≤ from))
    begun = ⊎_elim (λ l. inl (omega (arith, s, l))) (λ l. inr (omega (arith, s, l), l)) (below_or from (length xs))

    counted : (start + count - start ≡ most) ⊎ ((length (drop start xs) ≤ start + count - start) × (length (drop start xs) ≤ most))
    counted = let left = length-drop start xs in
        ⊎_elim (λ l. inl (omega (arith, n, l))) (λ l. inr (omega (arith, n, l, left), omega (arith, l, left))) (below_or most (length xs - start))
