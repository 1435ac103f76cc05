-- A delivery that touches an item as it is told to is under way there; and what settling then leads to.
use Rattle.std.proofs.Common.{◌≡◌, true, false, not, None, List, [], ◌∷◌, ◌++◌, inl, refl, sym, ap, ◌∙◌, subst}
use Rattle.std.proofs.Common.{append-nil}
use Rattle.std.specs.Prelude.{Contains}
use Rattle.std.specs.Option.{option_map_or}
use Rattle.gate_types.specs.declared.edits.Edit.{Edit}
use Rattle.gate_types.specs.declared.deliveries.Delivery.{Delivery}
use Rattle.gate_types.specs.declared.deliveries.Reply.{Reply}
use Rattle.gate_types.specs.Names.{same_name}
use Rattle.gate_types.specs.Settings.{Settings, are_sound}
use Rattle.gate_types.specs.State.{State}
use Rattle.gate_types.specs.Step.{raw_step, accepted}
use Rattle.gate_types.specs.Rows.{item_of, item_rows}
use Rattle.gate_types.specs.Once.{Content}
use Rattle.gate_types.specs.Forms.{IsLawfulContent}
use Rattle.gate_types.specs.Tables.{tables, fold_all, Leads}
use Rattle.gate_types.specs.Rising.{In}
use Rattle.gate_laws.specs.Touch.{touched_by, is_stale}
use Rattle.gate_reads.specs.Moves.{row_by_columns, tables_by, swept, in_state, Moves}
use Rattle.gate_reads.specs.Touches.{IsTouched}
use Rattle.gate_reads.specs.declared.touched.TouchedItem.{TouchedItem}
use Rattle.gate_laws.proofs.Members.{from_map, to_right, in_split, contains_in}
use Rattle.gate_walk.proofs.TouchedQueue.{has_touched}
use Rattle.gate_walk.proofs.Deliveries.{a_walk_is_enough}
use Rattle.gate_settling.specs.Touching.{Touching, AreToldOf}
use Rattle.gate_settling.proofs.ColumnLemmas.{columns_of, columns_found, tables_are_by, tables_by_own, others_stay}
use Rattle.gate_settling.proofs.SeamLemmas.{settled_queue_leads}
use Rattle.gate_settling.proofs.StandingLemmas.{queue_of_name}
use Rattle.gate_settling.proofs.WalkLemmas.{settles_one}

-- the delivery, under way
pub touching : (c : Settings) (x : Content) (d : Delivery) (r : Reply) (t : State) (k : TouchedItem) →
    are_sound c ≡ true → IsLawfulContent c x → raw_step c x.state d ≡ accepted r t → is_stale r ≡ false →
    IsTouched c x.state d k →
    (h : Touching c x k) × (h.after ≡ t)
touching c x d r t k w lawful e acts touches =
    let s = x.state in
    let a = has_touched c s d k.queue touches.queue in
    let q = a.queue in
    let sound = lawful.lawful.sound in
    let there = subst (In q) (sym a.queues) (to_right a.before (q ∷ a.after) q (inl refl)) in
    let named = queue_of_name c s k.queue q w sound there a.named in
    let stored = subst (λ rows. Contains rows k.item) (ap (λ o. option_map_or (item_rows c s) o []) named)
    touches.there in
    let j = from_map (row_by_columns (columns_of c s)) q.items k.item
    (subst (In k.item) (columns_found c s sound q there) (contains_in (item_rows c s q) k.item stored)) in
    let inside = subst (λ i. In i q.items) (ap item_of j.2) j.1 in
    let split = in_split q.items (item_of k.item) inside in (
      record {
        delivery = d;
        reply = r;
        after = t;
        queues_ahead = a.before;
        queue = q;
        queues_behind = a.after;
        items_ahead = split.0;
        items_behind = split.1;
        sound = w;
        lawful = lawful;
        is_accepted = e;
        queues = a.queues;
        items = split.2;
        on_item = touches.on;
        acts = acts;
        named = a.named;
        stored = stored;
        event = touches.event;
        figures = touches.figures;
      },
      refl,
    )

-- behind the raw edits, the walk's settle all
pub settled_some : {c : Settings} {x : Content} {k : TouchedItem} (h : Touching c x k) (t : State)
    (raw edits : List Edit) → h.after ≡ t → Moves x raw t → AreToldOf h edits →
    Leads c x (raw ++ edits) (in_state x (swept c t))
settled_some {c = c} {x = x} {k = k} h t raw edits same moves a =
    let leads = settled_queue_leads c x h.after k.queue raw a.walk.told (tables_by_own c x h.lawful.lawful.sound)
    (subst (Moves x raw) (sym same) moves) (settles_one h a.walk a.walked) in
    subst (λ es. Leads c x (raw ++ es) (in_state x (swept c t))) (sym a.told)
    (subst (λ u. Leads c x (raw ++ a.walk.told) (in_state x (swept c u))) same leads)

-- where nothing is touched, they have settled all by themselves
pub settled_none : (c : Settings) (x : Content) (d : Delivery) (r : Reply) (t : State) (raw : List Edit) →
    are_sound c ≡ true → IsLawfulContent c x → raw_step c x.state d ≡ accepted r t → touched_by c x.state d ≡ None →
    Moves x raw t → Leads c x (raw ++ []) (in_state x (swept c t))
settled_none c x d r t raw w lawful e none moves =
    let s = x.state in
    let v = swept c t in
    let cols = columns_of c s in
    ap (fold_all (tables c x)) (append-nil raw)
    ∙ ap (λ z. fold_all z raw) (tables_by_own c x lawful.lawful.sound)
    ∙ moves cols
    ∙ ap (λ u. tables_by cols (in_state x u)) (sym (a_walk_is_enough.untouched c s d r t lawful.lawful e none))
    ∙ sym (tables_are_by c (in_state x v) cols (λ q m. others_stay c s d r t w lawful.lawful e q m
    (ap (λ f. option_map_or (λ name. not (same_name q.name name)) f true) none)))
