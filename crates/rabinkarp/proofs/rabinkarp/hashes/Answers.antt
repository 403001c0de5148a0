use Rattle.std.proofs.Common.{◌≡◌, get_or, subst, arith}
use Rattle.rabinkarp.specs.Prefixes.{prefix_hash}
use Rattle.rabinkarp.proofs.rabinkarp.hashes.Goals as goal

pub returns : goal.returns
returns c = λ i l.
    let order = c.order-id-items.ensures.order in
    let at = order.all i l in
    subst (λ n. get_or c.loop-id.hashes n 0 ≡ prefix_hash c.args.book.now n) at.2 (c.loop-id.invariant.hashed at.0 (omega (arith, order.long, at.1, c.loop-id-test.false)))
