-- By computing.
use Rattle.std.proofs.Common.{refl, [], rules, All, codes}
use Rattle.std.proofs.lemmas.List.Elements.{All-cons, All-nil}
use Rattle.matchit.proofs.OnLiterals.{matchit_on_literals}
use Rattle.httparse.proofs.OnLiterals.{httparse_on_literals}
use Rattle.httparse.specs.Grammar.{Field, IsField, lf}
use Rattle.gate_http.specs.Laws.{posted_request}
use Rattle.gate_http.specs.Head.{front_of, head_from}
use Rattle.gate_http.specs.Routes.{routes, with_route, route_of}
use Rattle.gate_http.proofs.laws.the_post_is_read.Goals as goal

one_field : All IsField posted_request.fields
unfolding httparse_on_literals
one_field =
    let field : Field = record { name = codes "content-length"; raw = codes "\t02 "; end = lf } in
    let is : IsField field = record { name = search rules; raw = search rules } in
    All-cons IsField field [] is (All-nil IsField)

pub returns : goal.returns
unfolding matchit_on_literals httparse_on_literals routes with_route route_of front_of head_from
returns c = (
  (
    [],
    (
      record {
        method = search rules;
        target = search rules;
        target_text = search rules;
        minor = search rules;
        fields = one_field;
      },
      refl,
    ),
    search rules,
  ),
  refl,
  refl,
  refl,
)
