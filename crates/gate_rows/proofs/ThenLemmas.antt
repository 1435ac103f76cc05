-- Changes one after the other.
use Rattle.std.proofs.Common.{◌≡◌, ℕ, ◌+◌, ◌<◌, zero, suc, List, [], ◌∷◌, ◌++◌, take, length, get_or, refl, sym, ap}
use Rattle.std.proofs.Common.{subst, ◌∙◌, inl, arith, append-nil, Bool, cond, filter, true, false, not, eqb, nat_eq}
use lib.Pointwise.{pointwise}
use mathlib.Core.List.{append_assoc}
use Rattle.sqlite.specs.State.{KeepsCommit, State, Survives}
use Rattle.gate_types.specs.declared.config.Job.{Job}
use Rattle.gate_schema.specs.Rows.{AreNamed, Changes, IsReady, JobRow, NeedRow, Stands, Stored}
use Rattle.gate_schema.specs.Edits.{job_rows, need_rows, add_jobs, add_needs, drop_needs, put_needs, standing_needs}

pub changes_then : (first second third : State) (f g : Stored → Stored) → Changes first second f → Changes second third g → Changes first third (λ b. g (f b))
changes_then first second third f g one two = record { ready = two.ready; named = λ b named. two.named (f b) (one.named b named); stands = λ b named stands. two.stands (f b) (one.named b named) (one.stands b named stands) }

pub changes_same : (old new : State) (f g : Stored → Stored) → ((b : Stored) → f b ≡ g b) → Changes old new f → Changes old new g
changes_same old new f g same h = record {
  ready = h.ready;
  named = λ b named. subst AreNamed (same b) (h.named b named);
  stands = λ b named stands. subst (Stands new.now.trees) (same b) (h.stands b named stands);
}

pub no_needs : (s : State) → IsReady s → Changes s s (add_needs [])
no_needs s ready = changes_same s s (λ b. b) (add_needs []) (λ b. ap (λ l. record b { needs = l }) (sym (append-nil b.needs))) (record { ready = ready; named = λ b named. named; stands = λ b named stands. stands })

next_need : (change n i : ℕ) (xs : List ℕ) (x : ℕ) → i < length xs → x ≡ get_or xs i x → need_rows change n (take (suc i) xs) ≡ need_rows change n (take i xs) ++ (record { change = change; place = n + i; needed = x }) ∷ []
next_need change n i [] x within is = absurd (omega arith)
next_need change n zero (y ∷ ys) x within is = let e : n ≡ n + 0 = omega arith in ap (λ z. (record { change = change; place = n; needed = z }) ∷ []) (sym is) ∙ ap (λ m. (record { change = change; place = m; needed = x }) ∷ []) e
next_need change n (suc i) (y ∷ ys) x within is =
    let e : suc n + i ≡ n + suc i = omega arith in
    ap (λ l. (record { change = change; place = n; needed = y }) ∷ l) (next_need change (suc n) i ys x (omega arith) is ∙ ap (λ m. need_rows change (suc n) (take i ys) ++ (record { change = change; place = m; needed = x }) ∷ []) e)

-- one need more
pub needs_more : (first old new : State) (change i : ℕ) (xs : List ℕ) (x : ℕ) → i < length xs → x ≡ get_or xs i x
    → Changes first old (add_needs (need_rows change 0 (take i xs))) → Changes old new (add_needs ((record { change = change; place = i; needed = x }) ∷ []))
    → Changes first new (add_needs (need_rows change 0 (take (i + 1) xs)))
needs_more first old new change i xs x within is one two =
    let e : suc i ≡ i + 1 = omega arith in
    let z : 0 + i ≡ i = omega arith in
    let last : NeedRow = record { change = change; place = i; needed = x } in
    let rows : need_rows change 0 (take i xs) ++ last ∷ [] ≡ need_rows change 0 (take (i + 1) xs) =
    ap (λ m. need_rows change 0 (take i xs) ++ (record { change = change; place = m; needed = x }) ∷ []) (sym z) ∙ sym (next_need change 0 i xs x within is) ∙ ap (λ m. need_rows change 0 (take m xs)) e in
    changes_same first new _ _ (λ b. ap (λ l. record b { needs = l }) (append_assoc b.needs (need_rows change 0 (take i xs)) (last ∷ []) ∙ ap (λ l. b.needs ++ l) rows))
    (changes_then first old new (add_needs (need_rows change 0 (take i xs))) (add_needs (last ∷ [])) one two)

module _ (old : State) (n : ℕ) (needs : List ℕ) (same : Bool)
    (found : (b : Stored) → Stands old.now.trees b → same ≡ pointwise nat_eq (standing_needs n b.needs) needs) where
  -- needs put, as it was found whether they stand
  put_as : (b : Stored) → Stands old.now.trees b → (c : Bool) → same ≡ c
      → record b { needs = cond c b.needs (filter (λ (y : NeedRow). not (eqb y.change n)) b.needs ++ need_rows n 0 needs) } ≡ put_needs n needs b
  put_as b stands c is = ap (λ c. record b { needs = cond c b.needs (filter (λ (y : NeedRow). not (eqb y.change n)) b.needs ++ need_rows n 0 needs) }) (sym is ∙ found b stands)

  -- they stand: nothing is written
  pub needs_kept : (new : State) → same ≡ true → Changes old new (λ b. b) → Changes old new (put_needs n needs)
  needs_kept new is one = record {
    ready = one.ready;
    named = λ b named. named;
    stands = λ b named stands. subst (Stands new.now.trees) (put_as b stands true is) (one.stands b named stands);
  }

  -- they don't: they are put in place of those that do
  pub needs_renewed : (mid new : State) → same ≡ false → Changes old mid (λ b. b) → Changes mid new (λ b. add_needs (need_rows n 0 needs) (drop_needs n b)) → Changes old new (put_needs n needs)
  needs_renewed mid new is one two = record {
    ready = two.ready;
    named = λ b named. named;
    stands = λ b named stands. subst (Stands new.now.trees) (put_as b stands false is) (two.stands b named (one.stands b named stands));
  }

pub no_jobs : (s : State) → IsReady s → Changes s s (add_jobs [])
no_jobs s ready = changes_same s s (λ b. b) (add_jobs []) (λ b. ap (λ l. record b { jobs = l }) (sym (append-nil b.jobs))) (record { ready = ready; named = λ b named. named; stands = λ b named stands. stands })

next_job : (serial n i : ℕ) (xs : List Job) (x : Job) → i < length xs → x ≡ get_or xs i x → job_rows serial n (take (suc i) xs) ≡ job_rows serial n (take i xs) ++ (record { serial = serial; place = n + i; job = x }) ∷ []
next_job serial n i [] x within is = absurd (omega arith)
next_job serial n zero (y ∷ ys) x within is = let e : n ≡ n + 0 = omega arith in ap (λ z. (record { serial = serial; place = n; job = z }) ∷ []) (sym is) ∙ ap (λ m. (record { serial = serial; place = m; job = x }) ∷ []) e
next_job serial n (suc i) (y ∷ ys) x within is =
    let e : suc n + i ≡ n + suc i = omega arith in
    ap (λ l. (record { serial = serial; place = n; job = y }) ∷ l) (next_job serial (suc n) i ys x (omega arith) is ∙ ap (λ m. job_rows serial (suc n) (take i ys) ++ (record { serial = serial; place = m; job = x }) ∷ []) e)

-- one job more
pub jobs_more : (first old new : State) (serial i : ℕ) (xs : List Job) (x : Job) → i < length xs → x ≡ get_or xs i x
    → Changes first old (add_jobs (job_rows serial 0 (take i xs))) → Changes old new (add_jobs ((record { serial = serial; place = i; job = x }) ∷ []))
    → Changes first new (add_jobs (job_rows serial 0 (take (i + 1) xs)))
jobs_more first old new serial i xs x within is one two =
    let e : suc i ≡ i + 1 = omega arith in
    let z : 0 + i ≡ i = omega arith in
    let last : JobRow = record { serial = serial; place = i; job = x } in
    let rows : job_rows serial 0 (take i xs) ++ last ∷ [] ≡ job_rows serial 0 (take (i + 1) xs) =
    ap (λ m. job_rows serial 0 (take i xs) ++ (record { serial = serial; place = m; job = x }) ∷ []) (sym z) ∙ sym (next_job serial 0 i xs x within is) ∙ ap (λ m. job_rows serial 0 (take m xs)) e in
    changes_same first new _ _ (λ b. ap (λ l. record b { jobs = l }) (append_assoc b.jobs (job_rows serial 0 (take i xs)) (last ∷ []) ∙ ap (λ l. b.jobs ++ l) rows))
    (changes_then first old new (add_jobs (job_rows serial 0 (take i xs))) (add_jobs (last ∷ [])) one two)

pub kept_then : (first second third : State) → KeepsCommit first second → KeepsCommit second third → KeepsCommit first third
kept_then first second third one two = record { was_open = λ up. one.was_open (two.was_open up); committed = λ up. two.committed up ∙ one.committed (two.was_open up) }

pub survives_itself : (s : State) → Survives s s (λ _. ⊥)
survives_itself s = record { clean = omega arith; shield = λ h. h; counts = omega arith; limit = refl; closes = λ clean up. inl up; crash = λ clean db may. inl may }
