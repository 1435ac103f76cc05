-- What `take` comes to.
use Rattle.std.proofs.Common.{◌≡◌, ℕ, true, ◌+◌, ◌<◌, Option, Some, None, List, [], ◌∷◌, ◌++◌, cond, refl, sym, ap}
use Rattle.std.proofs.Common.{◌∙◌, arith, inl, inr}
use Rattle.std.specs.Prelude.{nat_lt, nat_le, option_map}
use Rattle.std.specs.Option.{option_map_or}
use Rattle.std.proofs.lemmas.Bool.{ne_eqb, le-ltb, leb-true}
use Rattle.std.proofs.lemmas.Option.{none-some}
use Rattle.gate_types.specs.declared.records.Build.{Build}
use Rattle.gate_types.specs.declared.edits.Edit.TheVariants as edit
use Rattle.gate_types.specs.declared.edits.Counter.TheVariants as counter
use Rattle.gate_types.specs.declared.deliveries.Reply.TheVariants as reply
use Rattle.gate_types.specs.declared.deliveries.Refusal.TheVariants as refusal
use Rattle.gate_types.specs.Settings.{Settings}
use Rattle.gate_types.specs.State.{State, put_by}
use Rattle.gate_types.specs.Choice.{choose}
use Rattle.gate_types.specs.Step.{raw_take, accepted, refused, with_build}
use Rattle.gate_types.specs.Once.{Content}
use Rattle.gate_types.specs.Lawful.{IsSound}
use Rattle.gate_types.specs.Rising.{In}
use Rattle.gate_laws.proofs.Members.{every}
use Rattle.gate_laws.proofs.Chosen.{chosen}
use Rattle.gate_reads.specs.Moves.{Moves}
use Rattle.gate_reads.specs.NextBuild.{under_number}
use Rattle.gate_ruling.proofs.Folded.{by_parts}

-- the choice has the next number
next_number : (c : Settings) (s : State) (b : Build) → choose c s ≡ Some b → b.number ≡ s.counters.build + 1
next_number c s b h = ap (λ (x : Build). x.number) (sym (chosen c s b h).same)

-- a build that was found under the next number is the choice
pub choice : (c : Settings) (s : State) (n : ℕ) (b : Build) → Some b ≡ option_map (under_number n) (choose c s) →
    n ≡ s.counters.build + 1 → choose c s ≡ Some b
choice c s n b h e = by_choice (choose c s) refl h
  where
    by_choice : (o : Option Build) → choose c s ≡ o → Some b ≡ option_map (under_number n) o → o ≡ Some b
    by_choice None f g = absurd (none-some b (sym g))
    by_choice (Some a) f g =
        (λ i. Some (record a { number = (next_number c s a f ∙ sym e) i })) ∙ sym g

-- under whatever number it was found, there is a choice
pub some_choice : (c : Settings) (s : State) (n : ℕ) (b : Build) → Some b ≡ option_map (under_number n) (choose c s) →
    (a : Build) × (choose c s ≡ Some a) × (a.number ≡ s.counters.build + 1)
some_choice c s n b h = by_choice (choose c s) refl h
  where
    by_choice : (o : Option Build) → choose c s ≡ o → Some b ≡ option_map (under_number n) o →
        (a : Build) × (choose c s ≡ Some a) × (a.number ≡ s.counters.build + 1)
    by_choice None f g = absurd (none-some b (sym g))
    by_choice (Some a) f g = (a, f, next_number c s a f)

pub taken_raw : (c : Settings) (s : State) (b : Build) → choose c s ≡ Some b →
    raw_take c s ≡ accepted (reply.Build b) (with_build b s)
taken_raw c s b h = ap (λ o. option_map_or (λ x. accepted (reply.Build x) (with_build x s)) o (refused refusal.Idle)) h

-- a row behind all others
put_behind : (b : Build) (bs : List Build) → ((y : Build) → In y bs → y.number < b.number) →
    put_by (λ (y : Build). y.number) b bs ≡ bs ++ b ∷ []
put_behind b [] h = refl
put_behind b (y ∷ ys) h =
    let below = h y (inl refl) in
    ap (λ t. cond t (b ∷ ys) (cond (nat_lt b.number y.number) (b ∷ y ∷ ys) (y ∷ put_by (λ (x : Build). x.number) b ys)))
    (ne_eqb b.number y.number (λ e. omega (arith, below, e)))
    ∙ ap (λ t. cond t (b ∷ y ∷ ys) (y ∷ put_by (λ (x : Build). x.number) b ys))
    (le-ltb b.number y.number (omega (arith, below)))
    ∙ ap (λ l. y ∷ l) (put_behind b ys (λ z m. h z (inr m)))

pub taken_moves : (c : Settings) (x : Content) (b : Build) → IsSound c x.state → choose c x.state ≡ Some b →
    Moves x (edit.PutBuild b ∷ edit.SetCounter counter.Build b.number ∷ []) (with_build b x.state)
taken_moves c x b sound h =
    let s = x.state in
    let number = next_number c s b h in
    by_parts x (edit.PutBuild b ∷ edit.SetCounter counter.Build b.number ∷ []) (with_build b s) (record {
      changes = refl;
      queues = λ columns. refl;
      plans = refl;
      builds = put_behind b s.builds (λ y m.
          let top = leb-true y.number s.counters.build
          (every (λ z. nat_le z.number s.counters.build ≡ true) s.builds sound.builds_are_drawn y m) in
          omega (arith, top, number));
      counters = refl;
      kept = refl;
    })
