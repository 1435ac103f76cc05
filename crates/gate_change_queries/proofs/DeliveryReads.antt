-- What the text of the read of a kept delivery asks, and what it finds.
use Rattle.std.proofs.Common.{◌≡◌, ◌≢◌, ◌≤◌, ℕ, true, List, [], ◌∷◌, codes, filter, length, map, ap, refl, sym, ◌∙◌}
use Rattle.std.specs.List.{All, AllPairs, AllPass}
use Rattle.std.specs.Prelude.{IsUtf8}
use Rattle.std.proofs.lemmas.List.Elements.{filter_passes}
use Rattle.std.proofs.lemmas.Str.{IsUtf8-from_is_utf8}
use Rattle.std.proofs.lemmas.Slice.Eq.{bytes_eq-Decides}
use Rattle.sqlite.specs.Listing.{understood}
use Rattle.sqlite.specs.Order.{Row}
use Rattle.sqlite.specs.Program.{overlay}
use Rattle.sqlite.specs.Query.{Query}
use Rattle.sqlite.specs.State.{State}
use Rattle.sqlite.specs.Term.{col, eval_all}
use Rattle.sqlite.specs.declared.types.Value.TheVariants.{Blob as Octets}
use Rattle.sqlite_keyed.proofs.RuleLemmas.{first_of_both, second_of_both}
use Rattle.sqlite_tied.proofs.RuleLemmas.{and_true}
use Rattle.sqlite_tied.specs.Compute.{everything}
use Rattle.gate_types.specs.Forms.{is_kept_in_form}
use Rattle.gate_types.specs.Names.{same_name}
use Rattle.gate_types.specs.declared.records.Id.{Id}
use Rattle.gate_types.specs.declared.records.Kept.{Kept}
use Rattle.gate_schema.specs.Rows.{Stored, kept_columns}
use Rattle.gate_schema.proofs.QueryLemmas.{over_table, passes}
use Rattle.gate_schema.proofs.Statements.{Asks, key_is, no_limit}
use Rattle.gate_schema.proofs.ValueLemmas.{equal_blobs}
use Rattle.gate_found_rows.specs.Finds.{Finds}
use Rattle.gate_found_rows.specs.Reads.{IsStoredIn}
use Rattle.gate_found_rows.specs.Shown.{kept_shown}
use Rattle.gate_found_rows.specs.Whole.{IsWhole}
use Rattle.gate_schema.proofs.ListedQueries.{listed_few}
use Rattle.gate_schema.proofs.RowLemmas.{told_behind}
use Rattle.gate_found_rows.proofs.ReadLemmas.{answers}
use Rattle.gate_found_rows.proofs.ShownLemmas.{few_pass, pass_filter}

abbrev pub delivery_sql : List ℕ
delivery_sql = codes "SELECT said, reply FROM delivery WHERE id = ?1"

abbrev pub delivery_query : Query
delivery_query = over_table 21 (key_is 1 ∷ []) (col 1 2 ∷ col 1 3 ∷ []) [] no_limit

pub delivery_asks : Asks delivery_sql delivery_query (codes "said" ∷ codes "reply" ∷ [])
unfolding understood everything
delivery_asks = ((refl, (refl, refl)), refl)

-- the id of these bytes
abbrev id_of : List ℕ → Id
id_of bytes = record { 0 = bytes }

-- an id is its bytes
pub same_id : (i j : Id) → same_name i.0 j.0 ≡ true → i ≡ j
same_id i j h = ap id_of ((bytes_eq-Decides i.0 j.0).0 h)

-- the ids of kept deliveries differ, so at most one has an id
one_kept : (id : Id) (ks : List Kept) → AllPairs (λ (k l : Kept). k.id ≢ l.id) ks → length (filter (λ (k : Kept). same_name k.id.0 id.0) ks) ≤ 1
one_kept id ks differ = few_pass (λ (k l : Kept). k.id ≢ l.id) (λ (k : Kept). same_name k.id.0 id.0) (λ k l one other apart. apart (same_id k.id id one ∙ sym (same_id l.id id other))) ks differ

-- what is kept under an id
pub delivery_found : (s : State) (b : Stored) (id : Id) (rows : List Row) → IsStoredIn s b → IsWhole b → Finds delivery_sql (Octets id.0 ∷ []) s.now rows
    → rows ≡ map kept_shown (filter (λ (k : Kept). same_name k.id.0 id.0) b.kept)
delivery_found s b id rows shows whole finds =
    let params = Octets id.0 ∷ [] in
    listed_few kept_columns kept_shown 21 (key_is 1 ∷ []) (col 1 2 ∷ col 1 3 ∷ []) no_limit params (λ (k : Kept). same_name k.id.0 id.0)
    (λ v k is. told_behind (passes (key_is 1 ∷ []) (Octets id.0 ∷ [])) v _ _ (same_name k.id.0 id.0) (λ w. rw equal_blobs (and_true (same_name k.id.0 id.0))) is)
    (λ v k is. told_behind (λ v. eval_all (col 1 2 ∷ col 1 3 ∷ []) ((Octets id.0 ∷ []) ∷ v ∷ [])) v _ _ (kept_shown k) (λ w. refl) is)
    (overlay s.now.trees []) b.kept rows shows.stands.delivery (one_kept id b.kept whole.ids_differ)
    (answers s delivery_sql delivery_query (codes "said" ∷ codes "reply" ∷ []) params rows delivery_asks shows.schema_is finds)

-- ---- a kept delivery in form

-- what a reader of the row asks of it
pub record KeptForm (k : Kept) : Type 0 where
  pub said : IsUtf8 k.said
  pub reply : IsUtf8 k.reply

-- it is so of a row in form
pub kept_form : (k : Kept) → is_kept_in_form k ≡ true → KeptForm k
kept_form k form = record {
  said = IsUtf8-from_is_utf8 k.said (first_of_both _ _ (second_of_both _ _ (first_of_both _ _ form)));
  reply = IsUtf8-from_is_utf8 k.reply (first_of_both _ _ (second_of_both _ _ form));
}

-- the kept deliveries of an id have it, and are in form
pub kept_as : (id : Id) (ks : List Kept) → AllPass is_kept_in_form ks
    → All (λ (k : Kept). (k.id ≡ id) × (is_kept_in_form k ≡ true)) (filter (λ (k : Kept). same_name k.id.0 id.0) ks)
kept_as id ks all i k within =
    (same_id _ id (filter_passes (λ (k : Kept). same_name k.id.0 id.0) ks i k within), pass_filter is_kept_in_form (λ (k : Kept). same_name k.id.0 id.0) ks all i k within)
