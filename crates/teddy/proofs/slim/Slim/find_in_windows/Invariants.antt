use Rattle.std.proofs.Common.{ℕ, ◌+◌, ◌-◌, ◌*◌, ◌≤◌}
use Rattle.rules.specs.Limits.{mask_buckets}
use Rattle.teddy.specs.Windows.{Recalled}
use Rattle.teddy.proofs.Hits.{run, Clear, InLane, InVain}
use Rattle.teddy.proofs.slim.Slim.find_in_windows.Given as goal

-- no pattern occurs before the window, and what the masks admitted since some place is recalled
abbrev pub invariant-find : goal.invariant-find
invariant-find g l =
    let b = l.self.teddy.rabinkarp.book.value in
    record {
      low : l.from + l.back ≤ l.at;
      high : l.at ≤ l.end;
      clear : Clear b l.text l.from (mask_buckets * (l.at - l.back));
      seen : (low : ℕ) × Recalled g.V.Vector.lanes (run b l.masks.count g.V.Vector.count l.text low) l.at l.seen;
    }

abbrev pub decreases-find : goal.decreases-find
decreases-find g l = l.end - l.at

-- nor at the bits of the lanes below k
abbrev pub invariant-verify : goal.invariant-verify
invariant-verify g l = Clear l.self.teddy.rabinkarp.book.value l.text l.from (mask_buckets * (l.at - l.back) + 64 * l.k)

-- where one occurs at a bit of this lane, that is still to come
abbrev pub invariant-verify64 : goal.invariant-verify64
invariant-verify64 g l = InLane l.self.teddy.rabinkarp.book.value l.text (mask_buckets * (l.at - l.back) + 64 * l.k) l.rest

abbrev pub decreases-verify64 : goal.decreases-verify64
decreases-verify64 g l = l.rest

abbrev pub invariant-verify_bucket : goal.invariant-verify_bucket
invariant-verify_bucket g l = InVain l.self.teddy.rabinkarp.book.value l.text l.id-items l.start l.id-index
