use Rattle.std.proofs.Common.{◌≡◌, ℕ, ◌<◌, ◌≤◌, length, get_or}
use Rattle.rules.specs.Limits.{max_patterns}
use Rattle.rules.specs.Book.{count_of}
use Rattle.teddy.specs.Buckets.{groups_of}
use Rattle.teddy.proofs.bucket.assign.Given as goal

abbrev pub invariant-loop-id : goal.invariant-loop-id
invariant-loop-id l = record {
  long : length l.buckets ≡ max_patterns;
  known : (j : ℕ) → j < l.id-index → get_or l.buckets (get_or l.id-items j 0) 0 ≡ (groups_of l.book).bucket (get_or l.id-items j 0);
  past : (i : ℕ) → count_of l.book ≤ i → get_or l.buckets i 0 ≡ 0;
}
