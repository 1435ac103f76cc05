use Rattle.std.proofs.Common.{◌≡◌, ◌∙◌, ◌+◌, cond, sym, ap, arith}
use Rattle.std.specs.Prelude.{find, option_copied}
use Rattle.std.proofs.lemmas.Option.{same_Some, none-some}
use Rattle.gate_types.specs.Names.{same_name}
use Rattle.gate_types.specs.Window.{bounds_by}
use Rattle.gate_reads.specs.Windows.{window_now}
use Rattle.gate_settling.specs.Touching.{delivered}
use Rattle.gate_settling.proofs.LeftLemmas.{reports_now}
use Rattle.gate_settling.proofs.BegunLemmas.{set_there, window_is, reports_are, few_reports, is_for}
use Rattle.gate_settling.proofs.begun.begun.Goals as goal
use Rattle.gate_settling.proofs.begun.begun.Goals.{then-is_out, else-is_out}

pub returns-in_default : goal.returns-in_default
returns-in_default c x h =
    let queues = c.args.config.now.queues in
    let asked = c.queue.ensures ∙ ap (λ n. find (λ q. same_name q.name n) queues) c.as_str.ensures.value in
    set_there h (sym asked ∙ ap option_copied c.in_default.is)

pub returns-in_default-window : goal.returns-in_default-window
returns-in_default-window c x h = none-some h.queue.window (sym c.in_default-window.is ∙ h.figures.window ∙ window_is h)

pub returns-then-before-ge-LAST_NUMBER : goal.returns-then-before-ge-LAST_NUMBER
returns-then-before-ge-LAST_NUMBER c x h =
    let many = h.figures.reports ∙ reports_are h in
    let few = few_reports h in
    let no_fewer = c.if-before-ge-LAST_NUMBER.true in
    absurd (omega (arith, many, few, no_fewer))

pub returns : goal.returns
returns c x h =
    let k = c.args.touched.now in
    let before = k.figures.reports in
    let many = h.figures.reports ∙ reports_are h in
    let window = same_Some c.in-Some-window.window h.queue.window
    (sym c.in-Some-window.is ∙ h.figures.window ∙ window_is h) in
    let reports : c.if-is_out.reports ≡ reports_now k.event before = elim c.if-is_out.branch [
      | then-is_out w ↦ w.reports-is ∙ sym (ap (λ b. cond b (before + 1) before)
          (sym c.is_out.ensures ∙ w.if-is_out.true))
      | else-is_out w ↦ w.reports-is ∙ sym (ap (λ b. cond b (before + 1) before)
          (sym c.is_out.ensures ∙ w.if-is_out.false))
    ] in
    let queues = c.args.config.now.queues in
    let asked = c.queue.ensures ∙ ap (λ n. find (λ q. same_name q.name n) queues) c.as_str.ensures.value in
    let set = sym asked ∙ ap option_copied c.in-Some.is in
    c.in_ok-start.ensures.for_a_delivery (delivered h) (is_for h _ _ set
    (c.window_now.ensures ∙ ap (window_now k.event (bounds_by c.in-Some.settings.now)) window)
    (reports ∙ ap (reports_now k.event) many) c.starting_point.ensures.serial c.starting_point.ensures.ahead
    c.starting_point.ensures.out)
