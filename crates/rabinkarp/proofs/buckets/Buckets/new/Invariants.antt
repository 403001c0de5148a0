use Rattle.std.proofs.Common.{◌≡◌, ℕ, ◌+◌, ◌≤◌, length, get_or, take}
use Rattle.rules.specs.Limits.{max_patterns, hash_buckets}
use Rattle.rabinkarp.proofs.Filling.{filled}
use Rattle.rabinkarp.proofs.buckets.Buckets.new.Given as goal

abbrev pub invariant-loop-k : goal.invariant-loop-k
invariant-loop-k l = record {
  all : take l.filled l.ids ≡ filled l.keys l.order l.k 0;
  count : l.filled ≡ length (filled l.keys l.order l.k 0);
  room : length l.ids ≡ max_patterns;
  long : length l.starts ≡ hash_buckets + 1;
  started : (j : ℕ) → j ≤ l.k → get_or l.starts j 0 ≡ length (filled l.keys l.order j 0);
}

abbrev pub invariant-loop-id : goal.invariant-loop-id
invariant-loop-id l = record {
  all : take l.filled l.ids ≡ filled l.keys l.order l.k l.id-index;
  count : l.filled ≡ length (filled l.keys l.order l.k l.id-index);
  room : length l.ids ≡ max_patterns;
}
