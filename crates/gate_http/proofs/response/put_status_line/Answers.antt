use Rattle.std.proofs.Common.{codes, decimal}
use Rattle.gate_http.specs.Response.{status_line, phrase}
use Rattle.gate_http.proofs.ResponseLemmas.{put_five}
use Rattle.gate_http.proofs.response.put_status_line.Goals as goal

pub returns-clause-items : goal.returns-clause-items
unfolding status_line
returns-clause-items c =
    put_five c.args.room.now.items c.put.new.room.items c.put-2.new.room.items c.put-3.new.room.items
    c.put-4.new.room.items c.put-5.new.room.items
    (codes "HTTP/1.1 ") (decimal c.args.status) (codes " ") (phrase c.args.status) (codes "\r\n")
    c.put.ensures.items (rw c.format.ensures.text at c.put-2.ensures.items) c.put-3.ensures.items
    (rw c.phrase_of.ensures.value at c.put-4.ensures.items) c.put-5.ensures.items
