use Rattle.std.proofs.Common.{codes}
use Rattle.gate_http.specs.Response.{head_line}
use Rattle.gate_http.proofs.ResponseLemmas.{put_three}
use Rattle.gate_http.proofs.response.put_line.Goals as goal

pub returns-clause-items : goal.returns-clause-items
unfolding head_line
returns-clause-items c =
    put_three c.args.room.now.items c.put.new.room.items c.put-2.new.room.items c.put-3.new.room.items
    c.args.name.now c.args.value.now (codes "\r\n") c.put.ensures.items c.put-2.ensures.items c.put-3.ensures.items
