use Rattle.std.proofs.Common.{◌≡◌, arith}
use Rattle.rules.specs.Book.{Book}
use Rattle.pattern.proofs.Shortest.{shortest_pos}
use Rattle.teddy.proofs.Made.{mask_is, placed_is}
use Rattle.teddy.proofs.teddy.Teddy.new.Goals as goal

pub invariant_of-result : goal.invariant_of-result
invariant_of-result c =
    let b : Book = c.new-rabinkarp.result.book.value in
    let e : c.book-closed.result.now ≡ b = c.book-closed.ensures in
    let table = c.assign-assigned.result in
    let known = rw e at c.assign-assigned.ensures.known in
    let count = rw e at c.clamped.ensures in
    record {
      sound = record {
        some = omega (arith, count, shortest_pos b c.new-rabinkarp.result.within.some);
        few = omega (arith, count);
        placed = placed_is b table known c.new-buckets.result (rw e at c.new-buckets.ensures);
        first = mask_is b table known 0 c.new.result record { lo = rw e at c.new.ensures.lo; hi = rw e at c.new.ensures.hi };
        second = mask_is b table known 1 c.new-2.result record { lo = rw e at c.new-2.ensures.lo; hi = rw e at c.new-2.ensures.hi };
        third = mask_is b table known 2 c.new-3.result record { lo = rw e at c.new-3.ensures.lo; hi = rw e at c.new-3.ensures.hi };
        fourth = mask_is b table known 3 c.new-4.result record { lo = rw e at c.new-4.ensures.lo; hi = rw e at c.new-4.ensures.hi };
      };
    }
