-- By computing.
use Rattle.std.proofs.Common.{refl}
use Rattle.std.specs.Fmt.{digits}
use Rattle.gate_http.specs.Response.{head_text, status_line, head_line, stream_head}
use Rattle.gate_http.proofs.laws.the_example_is_answered.Goals as goal

pub returns : goal.returns
unfolding digits head_text status_line head_line stream_head
returns c = (refl, refl, refl, refl, refl, refl)
