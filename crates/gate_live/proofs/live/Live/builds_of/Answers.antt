use Rattle.std.proofs.Common.{◌≡◌, List, sym, subst}
use Rattle.gate_types.specs.Once.{Content}
use Rattle.gate_types.specs.Settings.{Settings}
use Rattle.gate_types.specs.declared.records.Build.{Build}
use Rattle.gate_memory.specs.TableReads.{builds_of_rows}
use Rattle.gate_book_trait.specs.Reads as read
use Rattle.gate_book_trait.proofs.ReadLemmas.{weaker_if}
use Rattle.gate_live.specs.HeldBuilds.{AreBuildsOf, known_of}
use Rattle.gate_live.specs.Parts.{Agrees, Parts}
use Rattle.gate_live.proofs.live.Live.builds_of.Goals as goal

pub returns : goal.returns
returns c =
    let items = c.args.items.now in
    weaker_if (λ (found : List Build). (all : List Build) → AreBuildsOf (known_of c.self.inside.builds) all → found ≡ builds_of_rows all items)
    (λ (found : List Build). (k : Settings) (x : Content) → Agrees c.args.self.now k x → found ≡ read.builds_of_items x.state items)
    (λ found told k x agrees. told x.state.builds (subst (λ (p : Parts). AreBuildsOf p.builds x.state.builds) (sym c.self.view_is) agrees.builds))
    c.of_items.result c.of_items.ensures
