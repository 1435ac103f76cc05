use Rattle.std.proofs.Common.{◌≡◌, ◌∙◌, [], ◌∷◌, ◌++◌, filter, not, sym, ap, append_assoc}
use Rattle.std.specs.Prelude.{nat_lt}
use Rattle.std.proofs.lemmas.Result.{IfOk-weaker}
use Rattle.gate_types.specs.declared.records.Ready.{Ready}
use Rattle.gate_admission.specs.Seen.{with_approval}
use Rattle.gate_admission.proofs.ready.with_approval.Goals as goal

pub returns : goal.returns
returns c =
    let rs = c.args.ready.items in
    let a = c.in-Some.approval in
    let row : Ready = record { approval = a; change = c.args.change } in
    let before = filter (λ (r : Ready). nat_lt r.approval a) rs in
    let behind = filter (λ (r : Ready). not (nat_lt r.approval a)) rs in
    let first : c.in_ok-all.all.items ≡ before =
    c.in_ok-all.ensures ∙ (λ i. c.new.ensures.items i ++ filter (λ (r : Ready). nat_lt r.approval a)
    (c.as_slice.ensures.value i)) in
    let second : c.push.new.self.items ≡ before ++ row ∷ [] = c.in_ok-push.ensures.items
    ∙ ap (λ l. l ++ row ∷ []) first in
    IfOk-weaker c.push_behind.result _ _
    (λ all e. e ∙ (λ i. second i ++ filter (λ (r : Ready). not (nat_lt r.approval a)) (c.as_slice-2.ensures.value i))
    ∙ append_assoc before (row ∷ []) behind ∙ sym (ap (λ o. with_approval o c.args.change rs) c.in-Some.is))
    c.push_behind.ensures
