-- By computing.
use Rattle.std.proofs.Common.{refl}
use Rattle.std.specs.Fmt.{digits}
use Rattle.gate_http.specs.Response.{status_line, head_line, stream_head}
use Rattle.gate_http.proofs.response.stream_head.Goals as goal

pub returns : goal.returns
unfolding digits status_line head_line stream_head
returns c = refl
