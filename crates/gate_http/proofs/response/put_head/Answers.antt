use Rattle.std.proofs.Common.{codes, decimal}
use Rattle.gate_http.specs.Response.{head_text, head_line, status_line}
use Rattle.gate_http.proofs.ResponseLemmas.{put_all}
use Rattle.gate_http.proofs.response.put_head.Goals as goal

pub returns : goal.returns
unfolding head_text
returns c =
    put_all c.args.room.now.items c.put_status_line.new.room.items c.put_line.new.room.items c.put_line-2.new.room.items
    c.put.new.room.items c.put-2.new.room.items
    (status_line c.args.status) (head_line (codes "Content-Type: ") c.args.kind.now)
    (head_line (codes "Content-Length: ") (decimal c.args.len)) c.args.allow.now (codes "Connection: close\r\n\r\n")
    c.requires.empty c.put_status_line.ensures.items c.put_line.ensures.items
    (rw c.format.ensures.text at c.put_line-2.ensures.items) c.put.ensures.items c.put-2.ensures.items
