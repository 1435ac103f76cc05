-- Which errors of a command line ask for help, and which refuse it.
use Rattle.std.proofs.Common.{◌≡◌, Bool, true, false, not, List, [], ◌∷◌, refl, sym, subst, ap, inl, inr, arith, ◌∙◌}
use Rattle.std.specs.Prelude.{◌⊎◌, is_none, option_and_then}
use Rattle.std.specs.List.{list_any, list_all}
use Rattle.std.proofs.lemmas.Bool.{and_parts, or_parts, false≢true, true≢false}
use Rattle.clap.specs.Words.{App, HasKind, HasMatchesOf, Text, kind_of, IsAmong, Kinds, fault_of, subcommand_rows_of}
use Rattle.clap.specs.declared.parser.matches.ArgMatches.{ArgMatches}
use Rattle.clap.specs.declared.error.Error.{Error}
use Rattle.clap.specs.declared.error.kind.ErrorKind.{ErrorKind}
use Rattle.clap.specs.declared.error.kind.ErrorKind.TheVariants as kind
use Rattle.gated_command.specs.CommandLine.{gated, asked, said_of, is_help, is_refused, may_be_refused, may_ask_help}
use Rattle.gated_command.specs.CommandLine.{IsExplained}

-- what the matches of words say is what the words ask for
pub matched_asks : (a : App) (words : List Text) (m : ArgMatches) → a ≡ gated → HasMatchesOf a words m
    → option_and_then said_of (subcommand_rows_of m) ≡ asked words
matched_asks a words m is has = ap (option_and_then said_of) (subst (λ a. HasMatchesOf a words m) is has refl).1

-- an error that is one of the words' is explained by them
pub kind_explains : (a : App) (words : List Text) (e f : Error) → f ≡ e → a ≡ gated → HasKind (fault_of a words) e → IsExplained words f
kind_explains a words e f same is h =
    inl (subst (HasKind (fault_of gated words)) (sym same) (subst (λ a. HasKind (fault_of a words) e) is h))

pub among_any : (p : ErrorKind → Bool) (k : ErrorKind) (ks : Kinds) → IsAmong k ks → p k ≡ true → list_any p ks ≡ true
among_any p k [] h e = absurd h
among_any p k (x ∷ xs) (inl h) e =
    let here : p x ≡ true = subst (λ k. p k ≡ true) h e in grind (arith, here)
among_any p k (x ∷ xs) (inr h) e =
    let later : list_any p xs ≡ true = among_any p k xs h e in grind (arith, later)

none_and_some : (p : ErrorKind → Bool) (ks : Kinds) → list_all (λ k. not (p k)) ks ≡ true → list_any p ks ≡ true → ⊥
none_and_some p [] all any = absurd (false≢true any)
none_and_some p (x ∷ xs) all any =
    let (here, rest) = and_parts (not (p x)) (list_all (λ k. not (p k)) xs) all in
    none_and_some p xs rest (grind (arith, here, any))

-- an error that asks for help is found in the words
pub help_is_found : (words : List Text) (e : Error) → IsExplained words e → is_help (kind_of e) ≡ true → may_ask_help words ≡ true
help_is_found words e (inl (inl memory)) h = absurd (false≢true (ap is_help (sym memory) ∙ h))
help_is_found words e (inl (inr among)) h = among_any is_help (kind_of e) _ among h
help_is_found words e (inr missing) h = absurd (false≢true (ap is_help (sym missing.0) ∙ h))

-- words that are refused ask for no help
pub refused_is_no_help : (words : List Text) (e : Error) → IsExplained words e → is_refused words ≡ true → is_help (kind_of e) ≡ true → ⊥
refused_is_no_help words e why refused h =
    none_and_some is_help (fault_of gated words) (and_parts _ _ refused).1 (help_is_found words e why h)

-- where nothing is refused an error is help or want of memory
pub help_or_memory : (words : List Text) (e : Error) → IsExplained words e → may_be_refused words ≡ false
    → (is_help (kind_of e) ≡ true) ⊎ (kind_of e ≡ kind.OutOfMemory)
help_or_memory words e (inl (inl memory)) fine = inr memory
help_or_memory words e (inl (inr among)) fine = inl (only_help among)
  where
    by_cases : (b : Bool) → (not b ≡ true → ⊥) → b ≡ true
    by_cases true f = refl
    by_cases false f = absurd (f refl)

    only_help : IsAmong (kind_of e) (fault_of gated words) → is_help (kind_of e) ≡ true
    only_help among = by_cases (is_help (kind_of e)) (λ n.
        let found = among_any (λ k. not (is_help k)) (kind_of e) (fault_of gated words) among n in
        true≢false (sym found ∙ (or_parts _ _ fine).0))
help_or_memory words e (inr missing) fine =
    let named : is_none (asked words) ≡ true = ap is_none missing.1 in
    absurd (true≢false (sym named ∙ (or_parts _ _ fine).1))

-- either an error asks for help, or it doesn't
pub help_or_not : (k : ErrorKind) → (is_help k ≡ true) ⊎ (is_help k ≡ false)
help_or_not k = by_cases (is_help k) refl
  where
    by_cases : (b : Bool) → is_help k ≡ b → (is_help k ≡ true) ⊎ (is_help k ≡ false)
    by_cases true e = inl e
    by_cases false e = inr e
