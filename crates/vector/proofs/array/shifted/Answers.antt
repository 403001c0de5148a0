use Rattle.std.proofs.Common.{rules}
use Rattle.vector.proofs.Simd.{made_row}
use Rattle.vector.proofs.array.shifted.Goals as goal

pub returns : goal.returns
returns c = made_row c.from_fn.ensures.items (search rules)
