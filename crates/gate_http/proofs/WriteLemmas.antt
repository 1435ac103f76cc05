-- An answer that was written, or only begun.
use Rattle.std.proofs.Common.{◌≡◌, List, ℕ, Option, Result, Ok, Err, IfOk, OnErr, refl}
use Rattle.std.specs.Prelude.{IsErrOf}
use Rattle.gate_http.specs.declared.response.Extent.{Extent}
use Rattle.gate_http.specs.declared.request_fault.RequestFault.{RequestFault}
use Rattle.gate_http.specs.declared.request_fault.RequestFault.TheVariants as request
use Rattle.gate_http.specs.declared.fault.HttpFault.{HttpFault}
use Rattle.gate_http.specs.declared.respond.AnswerIfAny.{AnswerIfAny}
use Rattle.gate_http.specs.declared.response.Form.{Form}
use Rattle.gate_http.specs.declared.served.Served.{Served}
use Rattle.gate_http.specs.declared.served.Served.TheVariants.{Answered}
use Rattle.gate_http.specs.Asked.{Asked, media_of, told_status}
use Rattle.gate_http.specs.Faults.{fault_status}
use Rattle.gate_http.specs.Response.{fault_in, told_in}
use Rattle.gate_http.specs.Way.{Way, refusal, question}
use Rattle.gate_http.specs.Exchange.{Responding, Recalling, Comes, OfRead}
use Rattle.gate_http.proofs.ExchangeLemmas.{Reads, read_as}

-- it was written
pub written_whole : (P : Served → Type 0) (answered : Served) (T : Type 0) (r : Result Served RequestFault)
    → ((served : Served) → served ≡ answered → T → P served) → IfOk r (λ served. (served ≡ answered) × T) → IfOk r P
written_whole P answered T (Ok served) by h = by served h.0 h.1
written_whole P answered T (Err e) by h = tt

-- a beginning of it was
pub written_front : (P : Served → Type 0) (answered : Served) (T : Type 0) (r : Result Served RequestFault)
    → ((served : Served) → served ≡ answered → T → P served) → OnErr r T → IsErrOf r request.Write
    → (served : Served) × P served
written_front P answered T (Ok served) by h e = cc
written_front P answered T (Err f) by h e = (answered, by answered refl h)

-- it was written for a request that was read
pub read_whole : (from left : Option (List ℕ)) (w : Way) (P : Way → Served → Type 0) (r : Result Served RequestFault)
    → Reads from left w → IfOk r (P w) → IfOk r (λ served. OfRead from left (λ v. P v served))
read_whole from left w P (Ok served) reads h = read_as from left w (λ v. P v served) reads h
read_whole from left w P (Err e) reads h = tt

module _ {S : Type 0} (responds : Responding S) (recalls : Recalling S) (form : Form) where
  -- an answer of HTTP's own
  pub refused_whole : (old : S) (f : HttpFault) (x : Extent) (Takes : List ℕ → Type 0)
      (r : Result Served RequestFault)
      → IfOk r (λ served. (served ≡ Answered (fault_status f)) × Takes (fault_in form f x))
      → IfOk r (Comes responds recalls form (refusal f x) old Takes old)
  refused_whole old f x Takes r h =
      written_whole (Comes responds recalls form (refusal f x) old Takes old) (Answered (fault_status f))
      (Takes (fault_in form f x)) r (λ served e takes. (e, takes, refl)) h

  -- its beginning
  pub refused_front : (old : S) (f : HttpFault) (x : Extent) (Takes : List ℕ → Type 0)
      (r : Result Served RequestFault)
      → OnErr r (Takes (fault_in form f x)) → IsErrOf r request.Write
      → (served : Served) × Comes responds recalls form (refusal f x) old Takes old served
  refused_front old f x Takes r h e =
      written_front (Comes responds recalls form (refusal f x) old Takes old) (Answered (fault_status f))
      (Takes (fault_in form f x)) r (λ served e takes. (e, takes, refl)) h e

  -- what is told
  pub told_whole : (old new : S) (asked : Asked) (t : AnswerIfAny) (Takes : List ℕ → Type 0) (r : Result Served RequestFault)
      → responds old asked t new
      → IfOk r (λ served. (served ≡ Answered (told_status t)) × Takes (told_in form (media_of asked) t))
      → IfOk r (Comes responds recalls form (question asked) old Takes new)
  told_whole old new asked t Takes r said h =
      written_whole (Comes responds recalls form (question asked) old Takes new) (Answered (told_status t))
      (Takes (told_in form (media_of asked) t)) r (λ served e takes. (t, said, e, takes)) h

  -- its beginning
  pub told_front : (old new : S) (asked : Asked) (t : AnswerIfAny) (Takes : List ℕ → Type 0) (r : Result Served RequestFault)
      → responds old asked t new → OnErr r (Takes (told_in form (media_of asked) t)) → IsErrOf r request.Write
      → (served : Served) × Comes responds recalls form (question asked) old Takes new served
  told_front old new asked t Takes r said h e =
      written_front (Comes responds recalls form (question asked) old Takes new) (Answered (told_status t))
      (Takes (told_in form (media_of asked) t)) r (λ served e takes. (t, said, e, takes)) h e

  -- ---- for a request that was read

  -- what came of it
  pub comes_read : (from left : Option (List ℕ)) (w : Way) (old new : S) (Takes : List ℕ → Type 0)
      (r : Result Served RequestFault) → Reads from left w → IfOk r (Comes responds recalls form w old Takes new)
      → IfOk r (λ served. OfRead from left (λ v. Comes responds recalls form v old Takes new served))
  comes_read from left w old new Takes r reads h =
      read_whole from left w (λ v served. Comes responds recalls form v old Takes new served) r reads h

  -- its beginning
  pub comes_begun : (from left : Option (List ℕ)) (w : Way) (old new : S) (Takes : List ℕ → Type 0) → Reads from left w
      → (served : Served) × Comes responds recalls form w old Takes new served
      → OfRead from left (λ v. (served : Served) × Comes responds recalls form v old Takes new served)
  comes_begun from left w old new Takes reads h =
      read_as from left w (λ v. (served : Served) × Comes responds recalls form v old Takes new served) reads h

  -- an answer of HTTP's own
  pub refused_read : (from left : Option (List ℕ)) (old : S) (f : HttpFault) (x : Extent) (Takes : List ℕ → Type 0)
      (r : Result Served RequestFault) → Reads from left (refusal f x)
      → IfOk r (λ served. (served ≡ Answered (fault_status f)) × Takes (fault_in form f x))
      → IfOk r (λ served. OfRead from left (λ v. Comes responds recalls form v old Takes old served))
  refused_read from left old f x Takes r reads h =
      comes_read from left (refusal f x) old old Takes r reads (refused_whole old f x Takes r h)

  -- its beginning
  pub refused_begun : (from left : Option (List ℕ)) (old : S) (f : HttpFault) (x : Extent) (Takes : List ℕ → Type 0)
      (r : Result Served RequestFault) → Reads from left (refusal f x)
      → OnErr r (Takes (fault_in form f x)) → IsErrOf r request.Write
      → OfRead from left (λ v. (served : Served) × Comes responds recalls form v old Takes old served)
  refused_begun from left old f x Takes r reads h e =
      comes_begun from left (refusal f x) old old Takes reads (refused_front old f x Takes r h e)
