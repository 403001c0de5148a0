use Rattle.std.proofs.Common.{◌≡◌}
use Rattle.rules.specs.Book.{shortest}
use Rattle.rules.specs.Search.{found}
use Rattle.rabinkarp.specs.Hash.{hash_of, window}
use Rattle.rabinkarp.proofs.rabinkarp.RabinKarpFinder.find.Given as goal

abbrev pub invariant-loop-start : goal.invariant-loop-start
invariant-loop-start l = record {
  hash : l.hash ≡ hash_of (window l.text (shortest l.self.book.value) l.start);
  same : found l.self.book.value l.text l.at ≡ found l.self.book.value l.text l.start;
}
