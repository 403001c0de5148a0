use Rattle.std.proofs.Common.{◌≡◌, ◌-◌, length}
use Rattle.job.proofs.Openings.{Filling}
use Rattle.job.proofs.opening.fill.Given as goal

abbrev pub invariant-loop-patterns : goal.invariant-loop-patterns
invariant-loop-patterns l = (l.reader.job.now ≡ l.job) × Filling l.job l.patterns l.reader.at

abbrev pub decreases-loop-patterns : goal.decreases-loop-patterns
decreases-loop-patterns l = length l.job - l.reader.at
