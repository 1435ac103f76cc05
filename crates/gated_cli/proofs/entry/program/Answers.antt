use Rattle.std.proofs.Common.{ap, map, sym, inl, inr, refl, arith, ◌∙◌}
use Rattle.clap.specs.Words.{kind_of}
use Rattle.gated_cli.specs.Doing.{streams}
use Rattle.gated_command.proofs.UsageLemmas.{help_or_not, help_is_found, refused_is_no_help, help_or_memory}
use Rattle.gated_cli.proofs.entry.program.Goals as goal

pub returns-in-Err-clause-done : goal.returns-in-Err-clause-done
returns-in-Err-clause-done g c ended = elim (help_or_not (kind_of c.in-Err.usage)) [
  | inl help ↦ elim (c.explained.ensures.help help) [
    | inl given ↦ inr (help_is_found (map g.S.AsStr.text c.args.words.now) c.in-Err.usage c.in-Err.ensures.kinds help, refl, given.1)
    | inr failed ↦ absurd (omega (arith, sym ended ∙ failed.0))
  ]
  | inr other ↦ absurd (omega (arith, sym ended ∙ (c.explained.ensures.refused other).0))
]

pub returns-in-Err-clause-fault : goal.returns-in-Err-clause-fault
returns-in-Err-clause-fault g c ended = elim (help_or_not (kind_of c.in-Err.usage)) [
  | inl help ↦ elim (c.explained.ensures.help help) [
    | inl given ↦ absurd (omega (arith, sym given.0 ∙ ended))
    | inr failed ↦ (
      failed.1,
      inr (
        help_is_found (map g.S.AsStr.text c.args.words.now) c.in-Err.usage c.in-Err.ensures.kinds help,
        (
          refl,
          elim failed.3 [
            | inl memory ↦ inl (memory.0, ap (streams g.R.Read.remaining g.W.Write.contents c.args.input.now) memory.1)
            | inr write ↦ inr write
          ],
        ),
        failed.2,
      ),
    )
  ]
  | inr other ↦ absurd (omega (arith, sym ended ∙ (c.explained.ensures.refused other).0))
]

pub returns-in-Err-clause-refused : goal.returns-in-Err-clause-refused
returns-in-Err-clause-refused g c refused =
    let none = refused_is_no_help (map g.S.AsStr.text c.args.words.now) c.in-Err.usage c.in-Err.ensures.kinds refused in
    elim (help_or_not (kind_of c.in-Err.usage)) [
      | inl help ↦ absurd (none help)
      | inr other ↦ (c.explained.ensures.refused other).0
    ]

pub returns-in-Err-clause-told : goal.returns-in-Err-clause-told
returns-in-Err-clause-told g c ended fine = elim (help_or_memory (map g.S.AsStr.text c.args.words.now) c.in-Err.usage c.in-Err.ensures.kinds fine) [
  | inl help ↦ elim (c.explained.ensures.help help) [
    | inl given ↦ absurd (omega (arith, sym given.0 ∙ ended))
    | inr failed ↦ absurd (omega (arith, sym failed.0 ∙ ended))
  ]
  | inr memory ↦ c.explained.ensures.memory memory
]
