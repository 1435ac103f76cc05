use Rattle.std.proofs.Common.{List, ◌++◌, take}
use Rattle.gate_types.specs.declared.records.Build.{Build}
use Rattle.gate_texts.specs.Running.{running_among, OfBuilds}
use Rattle.gate_texts.proofs.running.push_builds.Given as goal

abbrev pub invariant-loop-build : goal.invariant-loop-build
invariant-loop-build l = (before : List Build) → OfBuilds l.fn.running before →
    OfBuilds l.running (before ++ running_among (take l.build-index l.builds))
