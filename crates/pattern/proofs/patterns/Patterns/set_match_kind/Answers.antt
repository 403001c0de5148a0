use Rattle.std.proofs.Common.{rules}
use Rattle.pattern.proofs.patterns.Patterns.set_match_kind.Goals as goal

pub invariant_of-self-inside : goal.invariant_of-self-inside
invariant_of-self-inside c = rw c.set_kind.ensures (search rules)
