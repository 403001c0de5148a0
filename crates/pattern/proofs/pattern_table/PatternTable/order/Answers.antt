use Rattle.std.proofs.Common.{rules}
use Rattle.pattern.specs.Contents.{contents}
use Rattle.pattern.proofs.Trying.{ordered}
use Rattle.pattern.proofs.pattern_table.PatternTable.order.Goals as goal

pub returns-in-LeftmostFirst-clause-order : goal.returns-in-LeftmostFirst-clause-order
returns-in-LeftmostFirst-clause-order c = ordered (contents c.args.self.now) _ (search rules)

pub returns-in-LeftmostLongest-clause-order : goal.returns-in-LeftmostLongest-clause-order
returns-in-LeftmostLongest-clause-order c = ordered (contents c.args.self.now) _ (search rules)
