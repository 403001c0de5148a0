use Rattle.std.proofs.Common.{◌≡◌}
use Rattle.rules.specs.Search.{found}
use Rattle.finder.proofs.plain.PlainFinder.find.Given as goal

abbrev pub invariant-loop-start : goal.invariant-loop-start
invariant-loop-start l = found l.self.book.value l.text l.start ≡ found l.self.book.value l.text l.at
