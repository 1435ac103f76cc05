-- What a gate holds is of its form before the first delivery, and stays so.
use Rattle.std.specs.Prelude.{true, ◌≡◌, ◌≤◌, List, [], map, length}
use Rattle.std.specs.List.{AllPass}
use Rattle.gate_types.specs.Settings.{Settings, are_sound}
use Rattle.gate_types.specs.declared.records.Build.{Build}
use Rattle.gate_types.specs.JsonText.{entry, array}
use Rattle.gate_types.specs.declared.deliveries.Delivery.{Delivery}
use Rattle.gate_types.specs.declared.deliveries.Reply.{Reply}
use Rattle.gate_types.specs.State.{State, start}
use Rattle.gate_types.specs.Step.{step, accepted}
use Rattle.gate_types.specs.Once.{Call, Content, empty, next_content, once}
use Rattle.gate_types.specs.Lawful.{IsSound, IsLawful}
use Rattle.gate_types.specs.Forms.{are_settings_in_form, is_delivery_in_form, is_reply_in_form, is_build_in_form}
use Rattle.gate_types.specs.Forms.{is_call_in_form, IsInForm, HasFewRows, IsContentInForm, IsLawfulContent}

-- the state before the first delivery is in form
abbrev pub StartIsInForm : Type 0
StartIsInForm = (c : Settings) → are_sound c ≡ true → are_settings_in_form c ≡ true → IsInForm c (start c)

-- an accepted delivery in form leaves a lawful state in form
abbrev pub StepIsInForm : Type 0
StepIsInForm = (c : Settings) (s : State) (d : Delivery) (r : Reply) (t : State) →
    are_sound c ≡ true → are_settings_in_form c ≡ true → IsLawful c s → IsInForm c s → is_delivery_in_form d ≡ true →
    step c s d ≡ accepted r t → IsInForm c t

-- so is its reply
abbrev pub ReplyIsInForm : Type 0
ReplyIsInForm = (c : Settings) (s : State) (d : Delivery) (r : Reply) (t : State) →
    are_sound c ≡ true → are_settings_in_form c ≡ true → IsLawful c s → IsInForm c s → is_delivery_in_form d ≡ true →
    step c s d ≡ accepted r t → is_reply_in_form c r ≡ true

-- a sound state in form has few rows
abbrev pub RowsAreFew : Type 0
RowsAreFew = (c : Settings) (s : State) → IsSound c s → IsInForm c s → HasFewRows s

-- the text of what was ahead of a build in form is short
abbrev pub AheadIsShort : Type 0
AheadIsShort = (c : Settings) (b : Build) → is_build_in_form c b ≡ true → length (array (map entry b.ahead) []) ≤ 40000

-- the content before the first call is in form
abbrev pub EmptyIsInForm : Type 0
EmptyIsInForm = (c : Settings) → are_sound c ≡ true → are_settings_in_form c ≡ true → IsContentInForm c (empty c)

-- a call in form leaves it so
abbrev pub NextContentIsInForm : Type 0
NextContentIsInForm = (c : Settings) (x : Content) (k : Call) →
    are_sound c ≡ true → are_settings_in_form c ≡ true → IsLawful c x.state → IsContentInForm c x →
    is_call_in_form k ≡ true → IsContentInForm c (next_content c x k)

-- so a call in form leaves a lawful content lawful, from which further calls may follow
abbrev pub NextContentIsLawful : Type 0
NextContentIsLawful = (c : Settings) (x : Content) (k : Call) →
    are_sound c ≡ true → are_settings_in_form c ≡ true → is_call_in_form k ≡ true →
    IsLawfulContent c x → IsLawfulContent c (next_content c x k)

-- any list of calls in form, from the empty gate, leaves a content in form
abbrev pub RunIsInForm : Type 0
RunIsInForm = (c : Settings) (calls : List Call) →
    are_sound c ≡ true → are_settings_in_form c ≡ true → AllPass is_call_in_form calls →
    IsContentInForm c (once c (empty c) calls)
