-- The last edit of an accepted delivery keeps its reply.
use Rattle.std.proofs.Common.{◌≡◌, ◌<◌, ℕ, List, [], ◌∷◌, ◌++◌, length, ap, ◌∙◌, arith}
use Rattle.std.proofs.lemmas.List.{map-id, length_push}
use Rattle.std.proofs.lemmas.List.Sums.{fold_push}
use Rattle.gate_types.specs.declared.records.Id.{Id}
use Rattle.gate_types.specs.declared.records.Kept.{Kept}
use Rattle.gate_types.specs.declared.edits.Edit.{Edit}
use Rattle.gate_types.specs.declared.edits.Edit.TheVariants as edit
use Rattle.gate_types.specs.declared.deliveries.Reply.{Reply}
use Rattle.gate_types.specs.ReplyText.{reply_text}
use Rattle.gate_types.specs.Settings.{Settings}
use Rattle.gate_types.specs.State.{State}
use Rattle.gate_types.specs.Once.{Content}
use Rattle.gate_types.specs.Tables.{Tables, tables, edited_tables, Leads}
use Rattle.gate_reads.specs.Moves.{in_state}
use Rattle.gate_core.specs.Ruled.{kept_on}

-- a reply that is kept leaves the other tables
keep_edited : (t : Tables) (k : Kept) → edited_tables t (edit.Keep k) ≡ record t { kept = t.kept ++ k ∷ [] }
keep_edited t k = λ i. record t { queues = map-id t.queues i; kept = t.kept ++ k ∷ [] }

-- with it the edits lead to the next content
pub keep_leads : (c : Settings) (x : Content) (u : State) (id : Id) (said text : List ℕ) (r : Reply)
    (edits : List Edit) → text ≡ reply_text r → Leads c x edits (in_state x u) →
    Leads c x (edits ++ edit.Keep (record { id = id; said = said; reply = text }) ∷ []) (kept_on x u id said r)
keep_leads c x u id said text r edits e leads =
    let k : Kept = record { id = id; said = said; reply = text } in
    fold_push edited_tables (tables c x) edits (edit.Keep k)
    ∙ ap (λ t. edited_tables t (edit.Keep k)) leads
    ∙ keep_edited (tables c (in_state x u)) k
    ∙ (λ i. record (tables c (in_state x u)) {
      kept = x.kept ++ record { id = id; said = said; reply = e i } ∷ [];
    })

pub some_edits : (edits : List Edit) (e : Edit) → 0 < length (edits ++ e ∷ [])
some_edits edits e = let n = length_push edits e in omega (arith, n)
