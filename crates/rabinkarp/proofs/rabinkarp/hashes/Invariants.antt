use Rattle.std.proofs.Common.{◌≡◌, ℕ, ◌<◌, length, get_or}
use Rattle.rules.specs.Limits.{max_patterns}
use Rattle.rabinkarp.specs.Prefixes.{prefix_hash}
use Rattle.rabinkarp.proofs.rabinkarp.hashes.Given as goal

abbrev pub invariant-loop-id : goal.invariant-loop-id
invariant-loop-id l = record {
  long : length l.hashes ≡ max_patterns;
  hashed : (j : ℕ) → j < l.id-index → get_or l.hashes (get_or l.id-items j 0) 0 ≡ prefix_hash l.book (get_or l.id-items j 0);
}
