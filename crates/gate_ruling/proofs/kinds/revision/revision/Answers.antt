use Rattle.std.proofs.Common.{◌≡◌, ◌∙◌, ◌≤◌, true, false, refl, sym, ap, subst, arith, rules}
use Rattle.std.proofs.lemmas.Grind.{common_steps}
use Rattle.std.specs.Prelude.{nat_le, ◌||◌, not, length}
use Rattle.std.specs.Option.{option_map_or}
use Rattle.gate_types.specs.declared.deliveries.Delivery.TheVariants as delivery
use Rattle.gate_types.specs.declared.records.Verdict.TheVariants as verdict
use Rattle.gate_types.specs.declared.records.Change.{Change}
use Rattle.gate_types.specs.declared.records.Stage.TheVariants as stage
use Rattle.gate_types.specs.Names.{same_name}
use Rattle.gate_types.specs.Needs.{needs}
use Rattle.gate_types.specs.Settings.{Settings}
use Rattle.gate_types.specs.State.{known_change, is_landed}
use Rattle.gate_types.specs.SubmitOrder.{is_submitting}
use Rattle.gate_types.specs.Step.{leave, revised, has_project, is_known_and}
use Rattle.gate_types.specs.Limits.{most_needs}
use Rattle.gate_book_trait.proofs.KeptLemmas.{then}
use Rattle.gate_book_trait.proofs.ReadingLemmas.{is_read_under}
use Rattle.gate_ruling.proofs.GivenUp.{given_up, submitting_so}
use Rattle.gate_ruling.proofs.Closed.{revision_raw}
use Rattle.gate_ruling.proofs.kinds.revision.revision.Goals as goal

pub returns : goal.returns
returns g c = is_read_under (λ trusted x holds lawful.
    let s = c.args.config.now in
    let n = c.args.change in
    let r = c.args.revision in
    let name = c.args.project.now in
    let message = c.args.message.now in
    let d = delivery.Revision n name r message in
    let two = c.in_ok-left.ensures.kept.trusted_before trusted in
    let one = c.in_ok-place.ensures.kept.trusted_before two in
    let at_one = c.in_ok-known.ensures.kept.holds_on one _ x holds in
    let at_two = c.in_ok-place.ensures.kept.holds_on two _ x at_one in
    let known : c.in_ok-known.known ≡ known_change x.state n = c.in_ok-known.ensures.found one s x holds lawful in
    let there : has_project s name ≡ true = sym c.has_project.ensures ∙ c.if-not-has_project.false in
    let own : is_known_and x.state n (λ k. not (same_name k.project name)) ≡ false =
    ap (λ o. option_map_or (λ (k : Change). not (same_name k.project name)) o false) (sym known)
    ∙ sym c.is_of_another.ensures ∙ c.if-is_of_another.false in
    let late : is_known_and x.state n (λ k. nat_le r k.revision || is_landed k) ≡ false =
    ap (λ o. option_map_or (λ (k : Change). nat_le r k.revision || is_landed k) o false) (sym known)
    ∙ sym c.is_late.ensures ∙ c.if-is_late.false in
    let so = c.in_ok-place.ensures.found two x at_one lawful in
    let free : is_submitting s x.state n ≡ false =
    submitting_so s x.state n c.in_ok-place.place so ∙ sym c.is_submitting.ensures ∙ c.if-is_submitting.false in
    let base : c.as_str.result.now ≡ s.base = c.as_str.ensures.value ∙ ap (λ (v : Settings). v.base) c.config.view_is in
    let texts : needs c.as_str.result.now c.as_str-2.result.now ≡ needs s.base message =
    (λ i. needs (base i) (c.as_str-2.ensures.value i)) in
    let few : length (needs s.base message) ≤ most_needs = subst (λ l. length l ≤ most_needs) texts c.in-Ok.ensures.few in
    let listed : c.from_vec.result ≡ needs s.base message = c.from_vec.ensures ∙ c.in-Ok.ensures.ok ∙ texts in
    let k : Change = record {
      number = n;
      project = c.in_ok-copy.field-0;
      revision = r;
      stage = stage.Open;
      needs = c.from_vec.result;
    } in
    let is : k ≡ record { number = n; project = name; revision = r; stage = stage.Open; needs = needs s.base message } =
    (λ i. record {
      number = n;
      project = c.in_ok-copy.ensures i;
      revision = r;
      stage = stage.Open;
      needs =
          listed i;
    }) in
    let touched = c.in_ok-left.ensures.touched trusted x at_two lawful n so free in
    record {
      after = revised k x.state;
      accepted = revision_raw s x.state n name r message there own late free few k is;
      acts = refl;
      touches = given_up s x.state d n verdict.Superseded c.in_ok-left.left.touched touched refl refl (λ i. refl);
      moves = c.in_ok-edits.ensures x (leave verdict.Superseded n x.state) lawful.lawful.sound.changes_rise
          (c.in_ok-left.ensures.moves trusted x at_two lawful n so free);
      makes_ready = tt;
    })
    (then (then c.in_ok-known.ensures.kept c.in_ok-place.ensures.kept) c.in_ok-left.ensures.kept) (search rules)

pub returns-in_err-place : goal.returns-in_err-place
returns-in_err-place g c =
    is_read_under (search rules) (then c.in_ok-known.ensures.kept c.in_err-place.ensures.kept) (search rules)

pub returns-then-is_submitting : goal.returns-then-is_submitting
returns-then-is_submitting g c =
    is_read_under (search rules) (then c.in_ok-known.ensures.kept c.in_ok-place.ensures.kept) (search rules)

pub returns-in-Err-TooManyNeeds : goal.returns-in-Err-TooManyNeeds
returns-in-Err-TooManyNeeds g c = is_read_under (λ trusted x holds lawful. grind (arith, common_steps))
    (then c.in_ok-known.ensures.kept c.in_ok-place.ensures.kept) (search rules)

pub returns-in_err-left : goal.returns-in_err-left
returns-in_err-left g c = is_read_under (search rules)
    (then (then c.in_ok-known.ensures.kept c.in_ok-place.ensures.kept) c.in_err-left.ensures.kept) (search rules)

pub returns-in_err-copy : goal.returns-in_err-copy
returns-in_err-copy g c = is_read_under (search rules)
    (then (then c.in_ok-known.ensures.kept c.in_ok-place.ensures.kept) c.in_ok-left.ensures.kept) (search rules)

pub returns-in_err-edits : goal.returns-in_err-edits
returns-in_err-edits g c = is_read_under (search rules)
    (then (then c.in_ok-known.ensures.kept c.in_ok-place.ensures.kept) c.in_ok-left.ensures.kept) (search rules)
