use Rattle.std.proofs.Common.{arith}
use Rattle.gate_memory.proofs.queues.QueueTable.apply.Goals as goal

pub returns-in-PutReport-clause-room : goal.returns-in-PutReport-clause-room
returns-in-PutReport-clause-room c n room =
    let a = room.items in
    let b = room.entries in
    let d = room.landings in
    record {
      items = omega (arith, a);
      entries = omega (arith, b);
      landings = omega (arith, d);
      reports = c.put-in-PutReport.ensures.room n room.reports;
    }
