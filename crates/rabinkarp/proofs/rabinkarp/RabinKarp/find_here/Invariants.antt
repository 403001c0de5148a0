use Rattle.std.proofs.Common.{◌≡◌, drop}
use Rattle.rules.specs.Search.{found_within}
use Rattle.rabinkarp.proofs.Bucket.{first_of}
use Rattle.rabinkarp.proofs.rabinkarp.RabinKarp.find_here.Given as goal

abbrev pub invariant-loop-id : goal.invariant-loop-id
invariant-loop-id l = found_within l.self.book.value l.text 1 l.start ≡ first_of l.self.book.value l.text l.start (drop l.id-index l.id-items)
