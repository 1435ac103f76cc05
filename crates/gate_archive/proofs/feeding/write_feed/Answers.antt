use Rattle.std.proofs.Common.{subst, ◌∙◌}
use Rattle.gate_types.specs.Tap.{TookFront}
use Rattle.gate_archive.proofs.TextOfLines.{leaves_text, no_end, cut_end}
use Rattle.gate_archive.proofs.feeding.write_feed.Goals as goal

pub returns-in-Err-clause-found : goal.returns-in-Err-clause-found
returns-in-Err-clause-found g c = λ t s x h l.
    leaves_text x.kept c.args.after c.args.front.now g.W.Write.contents c.args.w.now c.deliveries.new.w c.in-Err.fault (c.in-Err.ensures.found t s x h l)

pub returns-in_default-clause-found : goal.returns-in_default-clause-found
returns-in_default-clause-found g c = λ t s x h l.
    no_end x.kept c.args.after c.args.front.now g.W.Write.contents c.args.w.now c.deliveries.new.w c.in-Ok.count (c.in-Ok.ensures.found t s x h l)

pub returns-clause-found : goal.returns-clause-found
returns-clause-found g c = λ t s x h l.
    cut_end x.kept c.args.after c.args.front.now g.W.Write.contents c.args.w.now c.deliveries.new.w c.write_all.new.self c.in-Ok.count (c.in-Ok.ensures.found t s x h l)
    (subst (TookFront g.W.Write.contents c.deliveries.new.w c.write_all.new.self) (c.as_bytes.ensures.value ∙ c.in-Ok-feed_end.ensures) c.in-Err-write_all.ensures.err)
