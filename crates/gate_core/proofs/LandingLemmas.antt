-- What lands by a call, from what is true of one delivery.
use Rattle.std.proofs.Common.{◌≡◌, ℕ, Bool, true, false, ◌&&◌, None, inl, inr, refl, sym, ap, ◌∙◌, subst, true≢false}
use Rattle.std.specs.Prelude.{◌⊎◌, if◌then◌else◌, Contains}
use Rattle.std.proofs.lemmas.Bool.{eqb-true}
use Rattle.gate_types.specs.declared.deliveries.Answer.{Answer}
use Rattle.gate_types.specs.declared.deliveries.Answer.TheVariants as answer
use Rattle.gate_types.specs.declared.deliveries.Delivery.{Delivery}
use Rattle.gate_types.specs.declared.deliveries.Delivery.TheVariants as delivery
use Rattle.gate_types.specs.declared.deliveries.Reply.{Reply}
use Rattle.gate_types.specs.declared.deliveries.Refusal.TheVariants as refusal
use Rattle.gate_types.specs.Settings.{Settings, are_sound}
use Rattle.gate_types.specs.State.{State}
use Rattle.gate_types.specs.SubmitOrder.{Order, orders}
use Rattle.gate_types.specs.Step.{Stepped, step, accepted, refused}
use Rattle.gate_types.specs.Lawful.{IsLawful}
use Rattle.gate_types.specs.Forms.{IsLawfulContent}
use Rattle.gate_types.specs.Once.{Content, Call, kept_for, may_act, is_accepted, content_after, next_content, acts}
use Rattle.gate_types.specs.Once.{answer_of}
use Rattle.gate_laws.specs.Orders.{answers_order, IsStillShown, AShownOrderStays, is_order_shown}
use Rattle.gate_laws.specs.Orders.{OnlyShownOrdersAreAnswered}
use Rattle.gate_core.specs.Landing.{LandsRightly}

-- a call acts, and its delivery's state is the next one; or it doesn't, and nothing changes
abbrev Goes : Settings → Content → Call → Type 0
Goes c x k =
    ((r : Reply) × (t : State) × (step c x.state k.delivery ≡ accepted r t) × ((next_content c x k).state ≡ t) ×
    (acts c x k ≡ true))
    ⊎ ((next_content c x k).state ≡ x.state)

goes_by : (c : Settings) (x : Content) (k : Call) (b : Bool) (st : Stepped) → may_act x k ≡ b →
    step c x.state k.delivery ≡ st → Goes c x k
goes_by c x k false st m e = inr (ap (λ b. (if b then content_after x k (step c x.state k.delivery) else x).state) m)
goes_by c x k true (accepted r t) m e =
    inl (r, t, e, (λ i. (if m i then content_after x k (e i) else x).state), (λ i. m i && is_accepted (e i)))
goes_by c x k true (refused r) m e = inr (λ i. (if m i then content_after x k (e i) else x).state)

goes : (c : Settings) (x : Content) (k : Call) → Goes c x k
goes c x k = goes_by c x k (may_act x k) (step c x.state k.delivery) refl refl

-- a shown order stays, unless the call answered it
stays_by : AShownOrderStays → (c : Settings) (x : Content) (k : Call) (o : Order) → are_sound c ≡ true →
    IsLawful c x.state → Contains (orders c x.state) o → acts c x k && answers_order k.delivery o.item.serial ≡ false →
    Goes c x k → IsStillShown c (next_content c x k).state o
stays_by law c x k o sound lawful there other (inl (r, t, e, next, on)) =
    subst (λ s. IsStillShown c s o) (sym next)
    (law c x.state k.delivery r t o sound lawful e there (sym (ap (λ b. b && answers_order k.delivery o.item.serial) on) ∙ other))
stays_by law c x k o sound lawful there other (inr same) =
    subst (λ s. IsStillShown c s o) (sym same) (record { order = o; shown = there; queue = refl; item = refl })

-- what a call under a new id is answered whose delivery is refused so
refused_so : (c : Settings) (x : Content) (k : Call) (u : Bool) → k.unavailable ≡ u → kept_for k.id x.kept ≡ None →
    step c x.state k.delivery ≡ refused refusal.NoOrder →
    (answer_of c x k ≡ answer.Refused refusal.NoOrder) ⊎ (answer_of c x k ≡ answer.Refused refusal.Unavailable)
refused_so c x k true m none e = inr (rw m refl)
refused_so c x k false m none e = inl (rw (m, none, e) refl)

-- an order that isn't shown can't be answered
unshown_step : OnlyShownOrdersAreAnswered → (c : Settings) (x : Content) (d : Delivery) (n : ℕ) →
    is_order_shown c x.state n ≡ false → answers_order d n ≡ true → step c x.state d ≡ refused refusal.NoOrder
unshown_step law c x (delivery.Landed number) n unshown on =
    ap (λ m. step c x.state (delivery.Landed m)) (eqb-true number n on) ∙ law.of_landed c x.state n unshown
unshown_step law c x (delivery.Refused number) n unshown on =
    ap (λ m. step c x.state (delivery.Refused m)) (eqb-true number n on) ∙ law.of_refused c x.state n unshown
unshown_step law c x (delivery.Revision m name r message) n unshown on = absurd (true≢false (sym on))
unshown_step law c x (delivery.Approved m r) n unshown on = absurd (true≢false (sym on))
unshown_step law c x (delivery.Withdrawn m r) n unshown on = absurd (true≢false (sym on))
unshown_step law c x (delivery.Closed m r) n unshown on = absurd (true≢false (sym on))
unshown_step law c x (delivery.Take worker) n unshown on = absurd (true≢false (sym on))
unshown_step law c x (delivery.Result m e) n unshown on = absurd (true≢false (sym on))

-- so what lands by a call is right
pub lands_rightly : AShownOrderStays → OnlyShownOrdersAreAnswered → (c : Settings) (x : Content) (k : Call) (a : Answer) →
    are_sound c ≡ true → IsLawfulContent c x → IsLawfulContent c (next_content c x k) → a ≡ answer_of c x k →
    LandsRightly c x k a
lands_rightly stay only c x k a sound before after e = record {
  once = after.lawful.sound.landed_differ;
  evidence = after.lawful.sound.landings_are_shown;
  stays = λ o there other. stays_by stay c x k o sound before.lawful there other (goes c x k);
  unshown = λ none n unshown on.
      subst (λ b. (b ≡ answer.Refused refusal.NoOrder) ⊎ (b ≡ answer.Refused refusal.Unavailable)) (sym e)
      (refused_so c x k k.unavailable refl none (unshown_step only c x k.delivery n unshown on));
}
