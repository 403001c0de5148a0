use Rattle.std.proofs.Common.{◌≤◌, ◌*◌}
use Rattle.test_searchers.proofs.masks.starts.Given as goal

abbrev pub invariant-loop-start : goal.invariant-loop-start
invariant-loop-start l = l.same ≤ 17 * l.start-counter
