use Rattle.std.proofs.Common.{◌∙◌, ap, sym}
use Rattle.gate_types.specs.Tables.{Tables}
use Rattle.gate_archive.specs.Feed.{behind}
use Rattle.gate_book.specs.Memory.{Held}
use Rattle.gate_book.proofs.FeedLemmas.{of_feed, none_behind}
use Rattle.gate_book.proofs.archive.MemBookArchive.deliveries.Goals as goal
use Rattle.gate_book.proofs.archive.MemBookArchive.deliveries.Goals.{in-Some, in-None}

pub returns-clause-found : goal.returns-clause-found
returns-clause-found g c _ s x held lawful =
    let after = c.args.after in
    let kept = ap (λ (t : Tables). behind after t.kept) (ap (λ (m : Held). m.tables) (c.self.view_is ∙ held)) in
    elim c.match-behind.branch [
      | in-Some w ↦ rw (w.w-is, w.result-is) (of_feed g.W.Write.contents c.args.w.now w.write_feed.new.w x.kept after
          c.args.most c.args.front.now w.in-Some.kept.now w.write_feed.result (sym kept ∙ w.in-Some.ensures.there)
          w.write_feed.ensures)
      | in-None w ↦ rw (w.w-is, w.result-is) (none_behind x.kept after c.args.most (sym kept ∙ w.in-None.ensures.missing))
    ]
