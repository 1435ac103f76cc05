-- What a gate over a book answers to what is asked, and what serving a request comes to.
use Rattle.std.proofs.Common.{◌≡◌, ◌≢◌, true≢false, ℕ, Bool, true, false, List, [], ◌∷◌, ◌++◌, Option, Some, None}
use Rattle.std.proofs.Common.{Result, Ok, Err, refl, sym, ap, ◌∙◌, subst}
use Rattle.std.specs.Prelude.{⊤, if◌then◌else◌, ◌==◌}
use Rattle.gate_types.specs.declared.records.Id.{Id}
use Rattle.gate_types.specs.declared.deliveries.Delivery.{Delivery}
use Rattle.gate_types.specs.declared.deliveries.Answer.{Answer}
use Rattle.gate_types.specs.declared.deliveries.Answer.TheVariants.{Said, Refused}
use Rattle.gate_types.specs.declared.deliveries.Refusal.{Refusal}
use Rattle.gate_types.specs.declared.deliveries.Refusal.TheVariants as refusal
use Rattle.gate_types.specs.Settings.{Settings}
use Rattle.gate_types.specs.Once.{Content, next_content, answer_of, is_unavailable}
use Rattle.gate_types.specs.Forms.{IsLawfulContent}
use Rattle.gate_types.specs.Gated.{Gated}
use Rattle.gate_wire.specs.declared.door.Door.{Door}
use Rattle.gate_wire.specs.Reading.{says}
use Rattle.gate_core.specs.Answered.{Answered, call, spared}
use Rattle.gate_core.specs.declared.gate.Gate.{Gate}
use Rattle.gate_core.specs.Replies.{call_read}
use Rattle.gate_core.specs.Held.{IsOver, Goes}
use Rattle.gate_core.specs.Holding.{GateHolds, OfGate, OfBook, IsKeptGate, book_of, settings_of}
use Rattle.gate_core.proofs.HoldingLemmas.{over_kept}
use Rattle.gate_http.specs.declared.respond.AnswerIfAny.{AnswerIfAny}
use Rattle.gate_http.specs.declared.respond.AnswerIfAny.TheVariants as told
use Rattle.gate_http.specs.declared.response.Form.{Form}
use Rattle.gate_http.specs.declared.served.Served.{Served}
use Rattle.gate_http.specs.declared.served.Served.TheVariants.{Answered as AnsweredBy}
use Rattle.gate_http.specs.Asked.{Asked, delivery, media_of, told_status, tells_unavailable, Streamed}
use Rattle.gate_http.specs.Response.{fault_in, told_in, stream_in, failure_in}
use Rattle.gate_http.specs.Way.{Way, silence, refusal as refusing, question, stream, Request, way_of}
use Rattle.gate_http.specs.Exchange.{IsRequestRead, OfRead, Comes, Recalled, recited, missing, failed, OfLines}
use Rattle.gate_http.specs.Answer.{answer_read, answer_to, calls_asked, gate_after, calls_made, served_as, answer}
use Rattle.gate_http.specs.Answer.{AnswersBy, stream_of, stream_status, is_503}
use Rattle.gate_http.specs.Serving.{CrashLeaves, GateLeaves, Responds, Recalls, Serves, ServesStream, ServesAs}

-- an answer by its mark
abbrev marked : Bool → Answer → Answer
marked u a = if u then Refused refusal.Unavailable else a

-- the answer to a call, by its mark
by_mark : (c : Settings) (x : Content) (id : Id) (d : Delivery) (u : Bool)
    → answer_of c x (call id d u) ≡ marked u (answer_of c x (call id d false))
by_mark c x id d true = refl
by_mark c x id d false = refl

-- what is told to what is read of a delivery, by its mark
abbrev told_read : Bool → Gated → Result (Id × Delivery) Refusal → AnswerIfAny
told_read u g r = if u then told.Answer (Refused refusal.Unavailable) else told.Answer (answer_read g r)

-- an answer by its mark is told
as_told : (u : Bool) (g : Gated) (r : Result (Id × Delivery) Refusal)
    → told.Answer (marked u (answer_read g r)) ≡ told_read u g r
as_told true g r = refl
as_told false g r = refl

-- an answer to a request for lines
answers_so : (form : Form) (g after : Gated) (wanted : Streamed) (served : Served) (status : ℕ) (text : List ℕ)
    → served ≡ AnsweredBy status → AnsweredBy status ≡ served_as (status == 503) g (stream wanted)
    → text ≡ answer form (status == 503) g (stream wanted) → after ≡ g
    → AnswersBy form g (stream wanted) served text after
answers_so form g after wanted served status text e is said stays = record {
  status = subst (λ s. s ≡ served_as (is_503 s) g (stream wanted)) (sym e) is;
  said = subst (λ s. text ≡ answer form (is_503 s) g (stream wanted)) (sym e) said;
  stands = stays;
}

-- the answer with lines
found_answers : (form : Form) (g after : Gated) (wanted : Streamed) (served : Served) (Takes : List ℕ → Type 0)
    (t : Option (List ℕ)) → stream_of g.content wanted ≡ t → served ≡ AnsweredBy 200 → OfLines form Takes t → after ≡ g
    → (text : List ℕ) × Takes text × AnswersBy form g (stream wanted) served text after
found_answers form g after wanted served Takes None at e h stays = absurd h
found_answers form g after wanted served Takes (Some t) at e h stays = (
  stream_in form wanted (Some t),
  h,
  answers_so form g after wanted served 200 (stream_in form wanted (Some t)) e
      (ap (λ o. AnsweredBy (stream_status o)) (sym at)) (ap (stream_in form wanted) (sym at)) stays,
)

module _ {B : Type 0} (trusted : B → Type 0) (holds : B → Settings → Content → Type 0)
    (leaves : B → Settings → List Content → Type 0) where
  -- a gate that was handed a call
  after_call : (c : Settings) (gate : Gate B) (left leaving : List Content → Type 0) (g : Gated) (id : Id)
      (d : Delivery)
      (a : Answer) → settings_of gate ≡ c → g.settings ≡ c
      → Answered c g.content (call id d (is_unavailable a)) a (GateHolds holds gate) left leaving
      → (after : Gated) × IsOver holds gate after
      × ((a ≡ marked (is_unavailable a) (answer_read g (Ok (id, d))))
      × (after ≡ gate_after g (call id d (is_unavailable a) ∷ [])))
  after_call c gate left leaving g id d a same e h =
      let k = call id d (is_unavailable a) in (
        gate_after g (k ∷ []),
        record {
          settings = e ∙ sym same;
          held = subst (λ s. GateHolds holds gate (next_content s g.content k)) (sym e) h.content;
          lawful = subst (λ s. IsLawfulContent s (next_content g.settings g.content k)) (sym same)
              (subst (λ s. IsLawfulContent c (next_content s g.content k)) (sym e) h.lawful);
        },
        (
          subst (λ s. a ≡ answer_of s g.content k) (sym e) h.answer
              ∙ by_mark g.settings g.content id d (is_unavailable a),
          refl,
        ),
      )

  -- what a gate responds to a delivery, by what was read of it
  abbrev RespondsRead : Gate B → Result (Id × Delivery) Refusal → Answer → Gate B → Type 0
  RespondsRead old r a new =
      Goes trusted holds old new (λ g after.
      (a ≡ marked (is_unavailable a) (answer_read g r)) × (after ≡ gate_after g (call_read (is_unavailable a) r)))
      × OfGate trusted holds old new (λ x. GateLeaves leaves old new x (call_read (is_unavailable a) r))

  -- the same, by the delivery's bytes
  by_bytes : (old new : Gate B) (door : Door) (body : List ℕ) (r : Result (Id × Delivery) Refusal) (a : Answer)
      → says door body ≡ r → RespondsRead old r a new
      → Responds trusted holds leaves old (delivery door body) (told.Answer a) new
  by_bytes old new door body r a said h =
      let here : RespondsRead old (says door body) a new = subst (λ q. RespondsRead old q a new) (sym said) h in
      record {
        answers = record {
          settings = here.0.settings;
          trusted_before = here.0.trusted_before;
          passes = λ t g over.
              let p = here.0.passes t g over in
              (p.0, p.1, (ap told.Answer p.2.0 ∙ as_told (is_unavailable a) g (says door body), p.2.1));
        };
        crash = here.1;
      }

  -- to a delivery that was handed to its book
  pub responds_delivered : (old new : Gate B) (door : Door) (body : List ℕ) (id : Id) (d : Delivery) (a : Answer)
      → says door body ≡ Ok (id, d) → settings_of new ≡ settings_of old
      → (trusted (book_of new) → trusted (book_of old))
      → OfGate trusted holds old new (λ x.
      Answered (settings_of old) x (call id d (is_unavailable a)) a (GateHolds holds new)
      (leaves (book_of old) (settings_of old)) (leaves (book_of new) (settings_of old)))
      → Responds trusted holds leaves old (delivery door body) (told.Answer a) new
  responds_delivered old new door body id d a said settings before answered =
      by_bytes old new door body (Ok (id, d)) a said (
        record {
          settings = settings;
          trusted_before = before;
          passes = λ t g over.
              let c = settings_of old in
              after_call c new (leaves (book_of old) c) (leaves (book_of new) c) g id d a settings over.settings
              (answered t g.content over.held over.lawful);
        },
        λ t x held lawful.
            (answered t x held lawful).crash,
      )

  -- what nothing was done for stands
  stands : (old : Gate B) (P : Gated → Gated → Type 0) → ((g : Gated) → P g g) → Goes trusted holds old old P
  stands old P at = record { settings = refl; trusted_before = λ t. t; passes = λ t g over. (g, over, at g) }

  -- a call that was answered `unavailable` by a gate that did nothing
  survives : (c : Settings) (x : Content) (r : Result (Id × Delivery) Refusal) (left : List Content → Type 0)
      → ((ys : List Content) (y : Content) → left ys → left (ys ++ y ∷ []))
      → CrashLeaves c x (call_read true r) left left
  survives c x (Ok d) left more = record {
    acted = λ e. absurd (true≢false (sym e));
    stood = λ e. absurd (true≢false e);
    failed = λ e ys l. more ys (spared c x (call d.0 d.1 true)) l;
  }
  survives c x (Err e) left more = λ ys l. l

  -- the gate after a call that was answered so
  unmoved : (g : Gated) (r : Result (Id × Delivery) Refusal) → g ≡ gate_after g (call_read true r)
  unmoved g (Ok x) = refl
  unmoved g (Err e) = refl

  -- to a delivery that is refused before it is handed on, by whether that is for want of memory
  refused_by : (old : Gate B) (door : Door) (body : List ℕ) (e : Refusal) (u : Bool)
      → ((c : Settings) (ys : List Content) (y : Content) → leaves (book_of old) c ys →
      leaves (book_of old) c (ys ++ y ∷ []))
      → is_unavailable (Refused e) ≡ u → (e ≢ refusal.Unavailable → says door body ≡ Err e)
      → Responds trusted holds leaves old (delivery door body) (told.Answer (Refused e)) old
  refused_by old door body refusal.Unavailable true more is said =
      by_bytes old old door body (says door body) (Refused refusal.Unavailable) refl (
        stands old _ (λ g. (refl, unmoved g (says door body))),
        λ t x held lawful.
            let c = settings_of old in survives c x (says door body) (leaves (book_of old) c) (more c),
      )
  refused_by old door body e false more is said =
      let other : e ≢ refusal.Unavailable = λ same. true≢false (sym (ap (λ q. is_unavailable (Refused q)) same) ∙ is) in
      let calm : RespondsRead old (Err e) (Refused e) old =
      (stands old _ (λ g. (sym (ap (λ u. marked u (Refused e)) is), refl)), λ t x held lawful. λ ys l. l) in
      by_bytes old old door body (Err e) (Refused e) (said other) calm
  refused_by old door body e true more is said = absurd (true≢false (sym is))

  pub responds_refused : (old : Gate B) (door : Door) (body : List ℕ) (e : Refusal)
      → ((c : Settings) (ys : List Content) (y : Content) → leaves (book_of old) c ys →
      leaves (book_of old) c (ys ++ y ∷ []))
      → (e ≢ refusal.Unavailable → says door body ≡ Err e)
      → Responds trusted holds leaves old (delivery door body) (told.Answer (Refused e)) old
  responds_refused old door body e more said =
      refused_by old door body e (is_unavailable (Refused e)) more refl said

  -- this is told of the gate over a content
  abbrev IsTold : Settings → Content → Asked → AnswerIfAny → Type 0
  IsTold c x asked t = t ≡ answer_to (tells_unavailable t) (record { settings = c; content = x }) asked

  -- to what only reads
  pub responds_kept : (old new : Gate B) (asked : Asked) (t : AnswerIfAny) → ((u : Bool) → calls_asked u asked ≡ [])
      → settings_of new ≡ settings_of old → IsKeptGate trusted holds leaves old new
      → OfGate trusted holds old new (λ x. IsTold (settings_of old) x asked t)
      → Responds trusted holds leaves old asked t new
  responds_kept old new asked a none settings kept answered =
      let u = tells_unavailable a in
      record {
        answers = record {
          settings = settings;
          trusted_before = kept.book.trusted_before;
          passes = λ t g over. (
            g,
            over_kept trusted holds leaves old new settings kept t g over,
            (
              subst (λ s. IsTold s g.content asked a) (sym over.settings)
                  (answered t g.content over.held over.lawful),
              ap (gate_after g) (sym (none u)),
            ),
          );
        };
        crash = λ t x held lawful.
            subst (λ ks. GateLeaves leaves old new x ks)
            (sym (none u)) (kept.book.leaves_on t (settings_of old) x held.book);
      }

  -- to what is told without the book
  pub responds_unmoved : (old : Gate B) (asked : Asked) (t : AnswerIfAny) → ((u : Bool) → calls_asked u asked ≡ [])
      → ((g : Gated) → t ≡ answer_to (tells_unavailable t) g asked) → Responds trusted holds leaves old asked t old
  responds_unmoved old asked t none at =
      let u = tells_unavailable t in
      record {
        answers = stands old _ (λ g. (at g, ap (gate_after g) (sym (none u))));
        crash = λ t x held lawful.
            subst (λ ks. GateLeaves leaves old old x ks)
            (sym (none u)) (λ ys l. l);
      }

  -- a request that is answered by HTTP alone leaves all as it was
  serves_nothing : (form : Form) (old : Gate B) (w : Way) (served : Served) (text : List ℕ)
      → calls_made (is_503 served) w ≡ [] → ((g : Gated) → AnswersBy form g w served text g)
      → Serves trusted holds leaves form old old w served text
  serves_nothing form old w served text none at = record {
    answers = stands old _ at;
    crash = λ t x held lawful.
        subst (λ ks. GateLeaves leaves old old x ks) (sym none)
        (λ ys l. l);
  }

  -- the status of `unavailable` is no other answer's
  by_status : (t : AnswerIfAny) → (told_status t == 503) ≡ tells_unavailable t
  by_status told.NoItem = refl
  by_status (told.Answer (Said text)) = refl
  by_status (told.Answer (Refused refusal.BadJson)) = refl
  by_status (told.Answer (Refused refusal.BadDelivery)) = refl
  by_status (told.Answer (Refused refusal.WrongDoor)) = refl
  by_status (told.Answer (Refused refusal.IdReused)) = refl
  by_status (told.Answer (Refused refusal.UnknownChange)) = refl
  by_status (told.Answer (Refused refusal.UnknownRevision)) = refl
  by_status (told.Answer (Refused refusal.UnknownProject)) = refl
  by_status (told.Answer (Refused refusal.ProjectChanged)) = refl
  by_status (told.Answer (Refused refusal.Submitting)) = refl
  by_status (told.Answer (Refused refusal.NoOrder)) = refl
  by_status (told.Answer (Refused refusal.UnknownBuild)) = refl
  by_status (told.Answer (Refused refusal.Idle)) = refl
  by_status (told.Answer (Refused refusal.TooManyNeeds)) = refl
  by_status (told.Answer (Refused refusal.Exhausted)) = refl
  by_status (told.Answer (Refused refusal.Unavailable)) = refl

  -- an answer that tells of it
  told_by : (g after : Gated) (asked : Asked) (t : AnswerIfAny) (u : Bool) → u ≡ tells_unavailable t
      → (t ≡ answer_to (tells_unavailable t) g asked) × (after ≡ gate_after g (calls_asked (tells_unavailable t) asked))
      → (t ≡ answer_to u g asked) × (after ≡ gate_after g (calls_asked u asked))
  told_by g after asked t u e h =
      subst (λ v. (t ≡ answer_to v g asked) × (after ≡ gate_after g (calls_asked v asked))) (sym e) h

  -- what a question comes to
  serves_question : (form : Form) (asked : Asked) (old new : Gate B) (served : Served) (t : AnswerIfAny)
      → Responds trusted holds leaves old asked t new → served ≡ AnsweredBy (told_status t)
      → Serves trusted holds leaves form old new (question asked) served (told_in form (media_of asked) t)
  serves_question form asked old new served a r status =
      let e : is_503 served ≡ tells_unavailable a = ap is_503 status ∙ by_status a in
      record {
        answers = record {
          settings = r.answers.settings;
          trusted_before = r.answers.trusted_before;
          passes = λ t g over.
              let p = r.answers.passes t g over in
              let q = told_by g p.0 asked a (is_503 served) e p.2 in (
                p.0,
                p.1,
                record {
                  status = status ∙ ap (λ b. AnsweredBy (told_status b)) q.0;
                  said = ap (told_in form (media_of asked)) q.0;
                  stands = q.1;
                },
              );
        };
        crash = λ t x held lawful.
            subst (λ u. GateLeaves leaves old new x (calls_asked u asked)) (sym e) (r.crash t x held lawful);
      }

  -- ---- lines

  -- what is so of the lines of what a book held, where that stays
  pub recalls : (old new : Gate B) (wanted : Streamed) (P : Option (List ℕ) → Type 0)
      → settings_of new ≡ settings_of old → IsKeptGate trusted holds leaves old new
      → OfBook trusted holds old new (λ x. P (stream_of x wanted))
      → Recalls trusted holds leaves old wanted P new
  recalls old new wanted P settings kept told = record {
    answers = record {
      settings = settings;
      trusted_before = kept.book.trusted_before;
      passes = λ t g over. (
        g,
        over_kept trusted holds leaves old new settings kept t g over,
        (told t g.content over.held.book over.lawful, refl),
      );
    };
    crash = λ t x held lawful. kept.book.leaves_on t (settings_of old) x held.book;
  }

  -- what a request for lines comes to
  serves_told : (form : Form) (old new : Gate B) (wanted : Streamed) (served : Served) (Takes : List ℕ → Type 0)
      (P : Option (List ℕ) → Type 0) → Recalls trusted holds leaves old wanted P new
      → ((g after : Gated) → P (stream_of g.content wanted) → after ≡ g
      → (text : List ℕ) × Takes text × AnswersBy form g (stream wanted) served text after)
      → ServesStream trusted holds leaves form old new wanted served Takes
  serves_told form old new wanted served Takes P r by = record {
    answers = record {
      settings = r.answers.settings;
      trusted_before = r.answers.trusted_before;
      passes = λ t g over.
          let p = r.answers.passes t g over in (p.0, p.1, by g p.0 p.2.0 p.2.1);
    };
    crash = r.crash;
  }

  -- where there are some
  pub serves_found : (form : Form) (old new : Gate B) (wanted : Streamed) (served : Served) (Takes : List ℕ → Type 0)
      → served ≡ AnsweredBy 200 → Recalls trusted holds leaves old wanted (OfLines form Takes) new
      → ServesStream trusted holds leaves form old new wanted served Takes
  serves_found form old new wanted served Takes e r =
      serves_told form old new wanted served Takes (OfLines form Takes) r (λ g after h stays.
      found_answers form g after wanted served Takes (stream_of g.content wanted) refl e h stays)

  serves_recalled : (form : Form) (old new : Gate B) (wanted : Streamed) (served : Served) (Takes : List ℕ → Type 0)
      → Recalled (Recalls trusted holds leaves) form old wanted Takes new served
      → ServesStream trusted holds leaves form old new wanted served Takes
  serves_recalled form old new wanted served Takes (recited e r) =
      serves_found form old new wanted served Takes e r
  serves_recalled form old new wanted served Takes (missing e r takes) =
      serves_told form old new wanted served Takes (λ text. text ≡ None) r (λ g after h stays. (
        stream_in form wanted None,
        takes,
        answers_so form g after wanted served 404 (stream_in form wanted None) e
            (ap (λ o. AnsweredBy (stream_status o)) (sym h)) (ap (stream_in form wanted) (sym h)) stays,
      ))
  serves_recalled form old new wanted served Takes (failed e r takes) =
      serves_told form old new wanted served Takes (λ text. ⊤) r (λ g after h stays. (
        failure_in form,
        takes,
        answers_so form g after wanted served 503 (failure_in form) e refl refl stays,
      ))

  -- ---- any request

  -- what any request comes to
  pub serves_as : (form : Form) (w : Way) (old new : Gate B) (served : Served) (Takes : List ℕ → Type 0)
      → Comes (Responds trusted holds leaves) (Recalls trusted holds leaves) form w old Takes new served
      → ServesAs trusted holds leaves form old new w served Takes
  serves_as form silence old new served Takes (status, takes, stays) = (
    [],
    takes,
    subst (λ n. Serves trusted holds leaves form old n silence served []) (sym stays)
        (serves_nothing form old silence served [] refl
        (λ g. record { status = status; said = refl; stands = refl })),
  )
  serves_as form (refusing f x) old new served Takes (status, takes, stays) = (
    fault_in form f x,
    takes,
    subst (λ n. Serves trusted holds leaves form old n (refusing f x) served (fault_in form f x))
        (sym stays) (serves_nothing form old (refusing f x) served (fault_in form f x) refl
        (λ g. record { status = status; said = refl; stands = refl })),
  )
  serves_as form (question asked) old new served Takes (t, r, status, takes) = (
    told_in form (media_of asked) t,
    takes,
    serves_question form asked old new served t r status,
  )
  serves_as form (stream wanted) old new served Takes h = serves_recalled form old new wanted served Takes h

  -- what a request that was read comes to
  pub serves_read : (form : Form) (from left : Option (List ℕ)) (old new : Gate B) (served : Served)
      (Takes : List ℕ → Type 0)
      → OfRead from left (λ w.
      Comes (Responds trusted holds leaves) (Recalls trusted holds leaves) form w old Takes new served)
      → (r : Request) × IsRequestRead from left r × ServesAs trusted holds leaves form old new (way_of r) served Takes
  serves_read form from left old new served Takes h =
      (h.0, h.1, serves_as form (way_of h.0) old new served Takes h.2)

  -- of what a text is so, something weaker is
  pub serves_weaker : (form : Form) (w : Way) (old new : Gate B) (served : Served) (P Q : List ℕ → Type 0)
      → ((text : List ℕ) → P text → Q text) → ServesAs trusted holds leaves form old new w served P
      → ServesAs trusted holds leaves form old new w served Q
  serves_weaker form silence old new served P Q weaker h = (h.0, weaker h.0 h.1, h.2)
  serves_weaker form (refusing f x) old new served P Q weaker h = (h.0, weaker h.0 h.1, h.2)
  serves_weaker form (question asked) old new served P Q weaker h = (h.0, weaker h.0 h.1, h.2)
  serves_weaker form (stream wanted) old new served P Q weaker h = record {
    answers = record {
      settings = h.answers.settings;
      trusted_before = h.answers.trusted_before;
      passes = λ t g over.
          let p = h.answers.passes t g over in (p.0, p.1, (p.2.0, weaker p.2.0 p.2.1, p.2.2));
    };
    crash = h.crash;
  }
