-- Connections, one after another: the gate after them, and the faults that were told.
use Rattle.std.proofs.Common.{◌≡◌, ◌≤◌, ℕ, ◌+◌, Bool, true, false, List, [], ◌∷◌, ◌++◌, length, Option, None, Some}
use Rattle.std.proofs.Common.{Result, Ok, Err, IfOk, IfErr, arith, refl, sym, ap, ◌∙◌, subst, append-nil}
use Rattle.std.proofs.Common.{length-append}
use Rattle.std.specs.Prelude.{IsErrOf, OnOk}
use Rattle.std.specs.Result.{result_and}
use Rattle.std.specs.Io.KnownBytes.{Appends, Keeps, append_known}
use Rattle.std.specs.Io.Buffered.{writer_contents, writer_buffer, writer_inner}
use Rattle.std.specs.declared.io.buffered.BufWriter.{BufWriter}
use Rattle.std.proofs.KnownBytes.{Appends-trans}
use Rattle.std.proofs.lemmas.List.Concat.{flat_map-append}
use Rattle.std.proofs.lemmas.List.Sums.{fold-append}
use Rattle.gate_types.specs.declared.records.Id.{Id}
use Rattle.gate_types.specs.declared.deliveries.Delivery.{Delivery}
use Rattle.gate_types.specs.declared.deliveries.Refusal.{Refusal}
use Rattle.gate_types.specs.declared.tap.Tap.{Tap}
use Rattle.gate_types.specs.Settings.{Settings}
use Rattle.gate_types.specs.Tap.{inside, has_failed, Took, TookFront}
use Rattle.gate_types.specs.Once.{Call, Content, next_content}
use Rattle.gate_types.specs.Gated.{Gated}
use Rattle.gate_types.proofs.TapLemmas.{writes_later}
use Rattle.gate_wire.specs.Reading.{says}
use Rattle.gate_http.specs.declared.request_fault.RequestFault.{RequestFault}
use Rattle.gate_http.specs.declared.request_fault.RequestFault.TheVariants as fault
use Rattle.gate_core.specs.declared.gate.Gate.{Gate}
use Rattle.gate_core.specs.Held.{Goes}
use Rattle.gate_core.specs.Holding.{book_of}
use Rattle.gate_core.specs.Left.{LeavesBy}
use Rattle.gate_core.specs.Replies.{call_read}
use Rattle.gate_core.proofs.LeftLemmas.{leaves_call, leaves_more_calls, leaves_none}
use Rattle.gate_core.proofs.ReplyLemmas.{goes_nowhere, goes_on}
use Rattle.gate_http.specs.declared.served.Served.{Served}
use Rattle.gate_http.specs.declared.served.Served.TheVariants.{Answered}
use Rattle.gate_http.specs.Asked.{delivery, page, build, change, item, Streamed}
use Rattle.gate_http.specs.declared.response.Form.TheVariants as form
use Rattle.gate_http.specs.Way.{Way, silence, refusal, question, stream, Request, way_of}
use Rattle.gate_http.specs.Answer.{calls_made, gate_after, is_503}
use Rattle.gate_http.specs.Serving.{CrashLeaves, Serves, ServesStream, ServesBy}
use Rattle.gate_http.specs.RequestFaults.{request_fault_text}
use Rattle.gate_http.specs.Connections.{CalledOver, fault_line, fault_lines, FaultsAreTold}

-- ---- calls

-- what was read of a delivery is at most one call
one_read : (u : Bool) (r : Result (Id × Delivery) Refusal) → length (call_read u r) ≤ 1
one_read u (Ok x) = omega arith
one_read u (Err e) = omega arith

-- a request is at most one
one_call : (u : Bool) (w : Way) → length (calls_made u w) ≤ 1
one_call u silence = omega arith
one_call u (refusal f x) = omega arith
one_call u (question (delivery door body)) = one_read u (says door body)
one_call u (question (page p)) = omega arith
one_call u (question (build text)) = omega arith
one_call u (question (change text)) = omega arith
one_call u (question (item text)) = omega arith
one_call u (stream wanted) = omega arith

-- calls, and then others
more_calls : {B : Type 0} (leaves : B → Settings → List Content → Type 0) (m n : ℕ) (old mid new : Gate B)
    (g h after : Gated) → CalledOver leaves m old mid g h → CalledOver leaves n mid new h after →
    CalledOver leaves (m + n) old new g after
more_calls leaves m n old mid new g h after (first, left) (next, later) = (
  record {
    calls = first.calls ++ next.calls;
    few = omega (arith, first.few, next.few, length-append first.calls next.calls);
    stands = next.stands ∙ ap (λ x. gate_after x next.calls) first.stands
        ∙ ap (λ x. record g { content = x })
        (sym (fold-append (next_content g.settings) g.content first.calls next.calls));
  },
  leaves_more_calls leaves old mid new g h first.calls next.calls first.stands left later,
)

module _ {B : Type 0} (trusted : B → Type 0) (holds : B → Settings → Content → Type 0)
    (leaves : B → Settings → List Content → Type 0) where
  -- a gate that nothing was asked of
  pub uncalled : (n : ℕ) (old new : Gate B) → new ≡ old → Goes trusted holds old new (CalledOver leaves n old new)
  uncalled n old new stays = goes_nowhere trusted holds old new (CalledOver leaves n old new) stays
      (λ g. (
        record { calls = []; few = omega arith; stands = refl },
        subst (λ b. LeavesBy leaves old b g []) (sym stays) (leaves_none leaves old g),
      ))

  -- what a crash leaves after at most one call
  called_leaves : (old new : Gate B) (g : Gated) (ks : List Call) → length ks ≤ 1 →
      CrashLeaves g.settings g.content ks (leaves (book_of old) g.settings) (leaves (book_of new) g.settings) →
      LeavesBy leaves old new g ks
  called_leaves old new g [] few h = h
  called_leaves old new g (k ∷ []) few h = leaves_call leaves old new g k h
  called_leaves old new g (k ∷ l ∷ ks) few h = absurd (omega (arith, few))

  -- a request was served
  served_once : (old new : Gate B) (w : Way) (served : Served) (text : List ℕ)
      → Serves trusted holds leaves form.Response old new w served text
      → Goes trusted holds old new (CalledOver leaves 1 old new)
  served_once old new w served text s = record {
    settings = s.answers.settings;
    trusted_before = s.answers.trusted_before;
    passes = λ t g over.
        let p = s.answers.passes t g over in
        let calls = calls_made (is_503 served) w in
        let few = one_call (is_503 served) w in (
          p.0,
          p.1,
          (
            record { calls = calls; few = few; stands = p.2.stands },
            called_leaves old new g calls few
                (subst (λ c. CrashLeaves c g.content calls (leaves (book_of old) c) (leaves (book_of new) c))
                (sym over.settings) (s.crash t g.content over.held over.lawful)),
          ),
        );
  }

  -- lines were asked for
  recalled_once : (old new : Gate B) (wanted : Streamed) (served : Served) (Takes : List ℕ → Type 0)
      → ServesStream trusted holds leaves form.Response old new wanted served Takes
      → Goes trusted holds old new (CalledOver leaves 1 old new)
  recalled_once old new wanted served Takes s = record {
    settings = s.answers.settings;
    trusted_before = s.answers.trusted_before;
    passes = λ t g over.
        let p = s.answers.passes t g over in (
          p.0,
          p.1,
          (
            record { calls = []; few = omega arith; stands = p.2.2.stands },
            subst (λ c. CrashLeaves c g.content [] (leaves (book_of old) c) (leaves (book_of new) c))
                (sym over.settings) (s.crash t g.content over.held over.lawful),
          ),
        );
  }

  -- either was
  done_once : (old new : Gate B) (w : Way) (served : Served) (Takes : List ℕ → Type 0)
      → ServesBy trusted holds leaves old new w served Takes
      → Goes trusted holds old new (CalledOver leaves 1 old new)
  done_once old new silence served Takes h = served_once old new silence served h.0 h.2
  done_once old new (refusal f x) served Takes h = served_once old new (refusal f x) served h.0 h.2
  done_once old new (question asked) served Takes h = served_once old new (question asked) served h.0 h.2
  done_once old new (stream wanted) served Takes h = recalled_once old new wanted served Takes h

  -- however it was served
  pub called_once : (Read : Request → Type 0) (Wrote Broke Begun : List ℕ → Type 0)
      (old new : Gate B) (r : Result Served RequestFault)
      → IfOk r (λ served. (q : Request) × Read q × ServesBy trusted holds leaves old new (way_of q) served Wrote)
      → (IsErrOf r fault.Write → (q : Request) × Read q × (served : Served)
      × ServesBy trusted holds leaves old new (way_of q) served Broke)
      → (IsErrOf r fault.Read → new ≡ old) → (IsErrOf r fault.NoMemory → new ≡ old)
      → (IsErrOf r fault.Store → (q : Request) × Read q × (wanted : Streamed) × (way_of q ≡ stream wanted)
      × ServesBy trusted holds leaves old new (stream wanted) (Answered 200) Begun)
      → Goes trusted holds old new (CalledOver leaves 1 old new)
  called_once Read Wrote Broke Begun old new (Ok served) ok write read memory store =
      done_once old new (way_of ok.0) served Wrote ok.2
  called_once Read Wrote Broke Begun old new (Err fault.Write) ok write read memory store =
      let w = write refl in done_once old new (way_of w.0) w.2 Broke w.3
  called_once Read Wrote Broke Begun old new (Err fault.Read) ok write read memory store =
      uncalled 1 old new (read refl)
  called_once Read Wrote Broke Begun old new (Err fault.NoMemory) ok write read memory store =
      uncalled 1 old new (memory refl)
  called_once Read Wrote Broke Begun old new (Err fault.Store) ok write read memory store =
      let s = store refl in recalled_once old new s.2 (Answered 200) Begun s.4

  -- at most so many are at most more
  pub called_within : (m n : ℕ) (old new : Gate B) → m ≤ n → Goes trusted holds old new (CalledOver leaves m old new)
      → Goes trusted holds old new (CalledOver leaves n old new)
  called_within m n old new most h = record {
    settings = h.settings;
    trusted_before = h.trusted_before;
    passes = λ t g over.
        let p = h.passes t g over in
        let called = p.2.0 in
        let few : length called.calls ≤ n = omega (arith, called.few, most) in
        (p.0, p.1, (record { calls = called.calls; few = few; stands = called.stands }, p.2.1));
  }

  -- one connection more
  pub called_on : (n : ℕ) (old mid new : Gate B) → Goes trusted holds old mid (CalledOver leaves n old mid)
      → Goes trusted holds mid new (CalledOver leaves 1 mid new)
      → Goes trusted holds old new (CalledOver leaves (n + 1) old new)
  called_on n old mid new first next =
      goes_on trusted holds old mid new (CalledOver leaves n old mid) (CalledOver leaves 1 mid new)
      (CalledOver leaves (n + 1) old new) first next (more_calls leaves n 1 old mid new)

-- ---- responses

-- what a buffer took is in what is behind it, once the buffer is empty
passed_on : (a b o : Option (List ℕ)) (text buffer : List ℕ) → Appends a b text → Keeps b (append_known o buffer)
    → buffer ≡ [] → Appends a o text
passed_on None b o text buffer p q e = tt
passed_on (Some x) None o text buffer p q e = absurd p
passed_on (Some x) (Some y) None text buffer p q e = absurd q
passed_on (Some x) (Some y) (Some z) text buffer p q e =
    sym (append-nil z) ∙ ap (λ w. z ++ w) (sym e) ∙ q ∙ p

-- a response that was sent
pub sent_whole : {W A U : Type 0} (held : W → Option (List ℕ)) (Read : Request → Type 0)
    (Does : Request → Served → (List ℕ → Type 0) → Type 0)
    (weaker : (r : Request) (s : Served) (P Q : List ℕ → Type 0) → ((text : List ℕ) → P text → Q text)
    → Does r s P → Does r s Q)
    (a b : Option (List ℕ)) (new : BufWriter W A) (sink : W)
    (served : Result Served RequestFault) (sent : Result U RequestFault)
    → IfOk served (λ s. (r : Request) × Read r × Does r s (Appends a b))
    → Keeps b (writer_contents held new) → OnOk sent (writer_buffer new ≡ []) → sink ≡ writer_inner new
    → OnOk (result_and served sent) ((r : Request) × Read r × (s : Served) × Does r s (Appends a (held sink)))
sent_whole held Read Does weaker a b new sink (Ok s) (Ok u) h keeps empty at = (
  h.0,
  h.1,
  s,
  weaker h.0 s (Appends a b) (Appends a (held sink))
      (λ text p. subst (λ w. Appends a (held w) text) (sym at)
      (passed_on a b (held (writer_inner new)) text (writer_buffer new) p keeps empty)) h.2,
)
sent_whole held Read Does weaker a b new sink (Ok s) (Err e) h keeps empty at = tt
sent_whole held Read Does weaker a b new sink (Err e) sent h keeps empty at = tt

-- the fault of what failed
abbrev fault_in : {T : Type 0} → Result T RequestFault → RequestFault
fault_in (Ok u) = fault.Store
fault_in (Err e) = e

-- what broke off before it was sent
pub broke_off : {T : Type 0} (Why : Type 0) (served : Result Served RequestFault) (sent : Result T RequestFault)
    → (IsErrOf served fault.Store → Why) → IfErr sent (λ e. e ≡ fault.Write)
    → IsErrOf (result_and served sent) fault.Store → Why
broke_off Why (Err e) sent why write is = why (ap Err (ap fault_in is))
broke_off Why (Ok s) (Ok u) why write is = cc
broke_off Why (Ok s) (Err fault.Store) why write is = cc
broke_off Why (Ok s) (Err fault.Write) why write is = cc
broke_off Why (Ok s) (Err fault.Read) why write is = cc
broke_off Why (Ok s) (Err fault.NoMemory) why write is = cc

-- ---- faults

module _ {T : Type 0} (held : T → Option (List ℕ)) where
  -- faults, and then one more
  both_told : (old mid new : Tap T) (faults : List RequestFault) (f : RequestFault) → has_failed mid ≡ false
      → FaultsAreTold held old mid faults → FaultsAreTold held mid new (f ∷ []) → FaultsAreTold held old new (faults ++ f ∷ [])
  both_told old mid new faults f unfailed first next =
      let joined = sym (flat_map-append (λ g. fault_line (request_fault_text g)) faults (f ∷ [])) in record {
        whole = λ e. subst (Took held old new) joined (Appends-trans (held (inside old)) (held (inside mid))
            (held (inside new)) (fault_lines faults) (fault_lines (f ∷ [])) (first.whole unfailed) (next.whole e));
        cut = λ e. subst (TookFront held old new) joined (writes_later (held (inside old)) (held (inside mid))
            (held (inside new)) (fault_lines faults) (fault_lines (f ∷ [])) (first.whole unfailed) (next.cut e));
      }

  -- at most so many faults were told
  abbrev pub Tells : ℕ → Tap T → Tap T → Type 0
  Tells n old new = (faults : List RequestFault) × (length faults ≤ n) × FaultsAreTold held old new faults

  -- one connection more, without a fault
  pub told_still : (n : ℕ) (old new : Tap T) → Tells n old new → Tells (n + 1) old new
  told_still n old new h = (h.0, omega (arith, h.1), h.2)

  told_by : (n : ℕ) (old mid new : Tap T) (f : RequestFault) (failed : Bool) → has_failed mid ≡ failed → Tells n old mid
      → (has_failed mid ≡ false → FaultsAreTold held mid new (f ∷ [])) → (has_failed mid ≡ true → new ≡ mid)
      → Tells (n + 1) old new
  told_by n old mid new f false is h told silent = (
    h.0 ++ f ∷ [],
    omega (arith, h.1, length-append h.0 (f ∷ [])),
    both_told old mid new h.0 f is h.2 (told is),
  )
  told_by n old mid new f true is h told silent =
      subst (λ t. Tells (n + 1) old t) (sym (silent is)) (told_still n old mid h)

  -- one connection more, with a fault
  pub told_on : (n : ℕ) (old mid new : Tap T) (f : RequestFault) → Tells n old mid
      → (has_failed mid ≡ false → FaultsAreTold held mid new (f ∷ [])) → (has_failed mid ≡ true → new ≡ mid)
      → Tells (n + 1) old new
  told_on n old mid new f h told silent = told_by n old mid new f (has_failed mid) refl h told silent
