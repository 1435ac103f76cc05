-- The text of a build, its array in it.
use Rattle.std.proofs.Common.{◌≡◌, ℕ, List, [], ◌∷◌, ◌++◌, map, ap, ◌∙◌}
use Rattle.std.specs.Prelude.{if◌then◌else◌, codes, decimal}
use Rattle.gate_types.specs.declared.records.Build.{Build}
use Rattle.gate_types.specs.BuildText.{build_text, outcome_word}
use Rattle.gate_types.specs.JsonText.{entry, array}
use Rattle.gate_wire.proofs.ReplyLemmas.{front, grouped, joined-end}

-- what stands behind the number of the build
abbrev pub behind_number : Build → List ℕ
behind_number b =
    codes ",\"change\":" ++ (decimal b.change ++ (codes ",\"job\":\"" ++ (b.job ++ (codes "\",\"live\":"
    ++ ((if b.live then codes "true" else codes "false") ++ (codes ",\"outcome\":\"" ++ (outcome_word b.outcome
    ++ (codes "\",\"queue\":\"" ++ (b.queue ++ (codes "\",\"revision\":"
    ++ (decimal b.revision ++ codes "}")))))))))))

pub build_written : (b : Build) (ahead text : List ℕ) → ahead ≡ array (map entry b.ahead) [] →
    text ≡ front b.after ahead b.number → text ++ behind_number b ≡ build_text b
build_written b ahead text e begun =
    ap (λ l. l ++ behind_number b) (begun ∙ ap (λ l. front b.after l b.number) e)
    ∙ ap (λ l. codes "{\"after\":" ++ l) (grouped (decimal b.after) (codes ",\"ahead\":") (array (map entry b.ahead) [])
    (codes ",\"build\":") (decimal b.number) (behind_number b))
    ∙ ap (λ l. codes "{\"after\":" ++ (decimal b.after ++ (codes ",\"ahead\":" ++ 91 ∷ l)))
    (joined-end b.ahead (codes ",\"build\":" ++ (decimal b.number ++ behind_number b)))
