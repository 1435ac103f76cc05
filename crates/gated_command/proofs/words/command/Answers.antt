use Rattle.std.proofs.Common.{ap, inr, map, sym, refl, true, ◌≡◌, ◌∙◌}
use Rattle.std.specs.Prelude.{None, is_some}
use Rattle.std.proofs.lemmas.Bool.{true≢false}
use Rattle.std.proofs.lemmas.Result.{err_from_is_err_and}
use Rattle.clap.specs.Words.{kind_of, takes, fault_of, is_simple_and_free}
use Rattle.gated_command.specs.CommandLine.{asked, gated}
use Rattle.gated_command.proofs.UsageLemmas.{kind_explains, matched_asks}
use Rattle.gated_command.proofs.words.command.Goals as goal

pub returns-in_err-try_get_matches_from-clause-err : goal.returns-in_err-try_get_matches_from-clause-err
returns-in_err-try_get_matches_from-clause-err g c =
    let p = err_from_is_err_and c.from_residual-in_err-try_get_matches_from.result c.from_residual-in_err-try_get_matches_from.ensures.1 in
    rw p.1 (λ taken _. ap kind_of p.2 ∙ c.in_err-try_get_matches_from.ensures.passes (ap (λ a. takes a (map g.S.AsStr.text c.args.words.now)) c.in_ok-app.ensures ∙ taken))

-- the definitions of this command line are simple
free : is_simple_and_free gated ≡ true
free = refl

pub returns-in_err-try_get_matches_from-clause-kinds : goal.returns-in_err-try_get_matches_from-clause-kinds
returns-in_err-try_get_matches_from-clause-kinds g c =
    let p = err_from_is_err_and c.from_residual-in_err-try_get_matches_from.result c.from_residual-in_err-try_get_matches_from.ensures.1 in
    rw p.1 (kind_explains _ (map g.S.AsStr.text c.args.words.now) _ p.0 p.2 c.in_ok-app.ensures
    (c.in_err-try_get_matches_from.ensures.kinds (ap is_simple_and_free c.in_ok-app.ensures ∙ free)))

pub returns-in-Some-clause-ok : goal.returns-in-Some-clause-ok
returns-in-Some-clause-ok g c = record {
  taken = ap (λ a. fault_of a (map g.S.AsStr.text c.args.words.now)) (sym c.in_ok-app.ensures) ∙ c.in_ok-try_get_matches_from.ensures.kinds (ap is_simple_and_free c.in_ok-app.ensures ∙ free);
  named = c.in-Some.ensures ∙ matched_asks _ _ _ c.in_ok-app.ensures c.in_ok-try_get_matches_from.ensures.matches;
}

pub returns-in_ok-error-in-None-clause-kinds : goal.returns-in_ok-error-in-None-clause-kinds
returns-in_ok-error-in-None-clause-kinds g c =
    inr (c.in_ok-error-in-None.ensures.kind, sym (c.in-None.ensures ∙ matched_asks _ _ _ c.in_ok-app.ensures c.in_ok-try_get_matches_from.ensures.matches))

pub returns-in_ok-error-in-None-clause-err : goal.returns-in_ok-error-in-None-clause-err
returns-in_ok-error-in-None-clause-err g c _ named =
    let unasked : asked (map g.S.AsStr.text c.args.words.now) ≡ None =
    sym (c.in-None.ensures ∙ matched_asks _ _ _ c.in_ok-app.ensures c.in_ok-try_get_matches_from.ensures.matches) in
    absurd (true≢false (sym named ∙ ap is_some unasked))
