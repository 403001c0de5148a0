use Rattle.std.proofs.Common.{ℕ, ◌<◌, get_or}
use Rattle.rules.specs.Search.{OccursAt}
use Rattle.pattern.specs.Order.{order_in}
use Rattle.finder.proofs.plain.Plain.find_here.Given as goal

abbrev pub invariant-loop-i : goal.invariant-loop-i
invariant-loop-i l = (j : ℕ) → j < l.i → OccursAt l.self.book.value l.text (get_or (order_in l.self.book.value) j 0) l.start → ⊥
