-- entering b p      the refusal that the pattern p meets, in checking order
-- checking b c      the refusal of a book that is to be closed and searched with c masks
-- Checks b at c r   what the call before closing answers, at the place at
-- Ready b c         the book b may be closed and searched with c masks: it has a pattern, and c is from 1 to max_masks and at most the shortest length
use Rattle.std.specs.Prelude.{◌≡◌, ℕ, ◌+◌, ◌<◌, ◌≤◌, cond, List, length, Some, None, Option, Result, MatchOption, MatchResult, ◌==◌, nat_le, nat_lt}
use Rattle.rules.specs.declared.fault.Fault.{Fault}
use Rattle.rules.specs.declared.fault.Refusal.{Refusal}
use Rattle.rules.specs.declared.fault.Refusal.TheVariants.{EmptyPattern, TooManyPatterns, TooManyBytes, NoPatterns, BadMaskCount}
use Rattle.rules.specs.Limits.{max_patterns, max_bytes, max_masks}
use Rattle.rules.specs.Book.{Book, count_of, total, shortest, permits}
use Rattle.rules.specs.Faults.{refused}

abbrev pub entering : Book → List ℕ → Option Refusal
entering b p =
    cond (length p == 0) (Some EmptyPattern)
    (cond (nat_le max_patterns (count_of b)) (Some TooManyPatterns)
    (cond (nat_lt max_bytes (total b + length p)) (Some TooManyBytes) None))

abbrev pub checking : Book → ℕ → Option Refusal
checking b c =
    cond (count_of b == 0) (Some NoPatterns)
    (cond (permits b c) None (Some BadMaskCount))

abbrev pub Checks : Book → ℕ → ℕ → Result (Unit {0}) Fault → Type 0
Checks b at c r = MatchResult r (λ _. checking b c ≡ None) (λ e. MatchOption (checking b c) ⊥ (λ x. e ≡ refused at x))

pub record Ready (b : Book) (c : ℕ) : Type 0 where
  pub filled : 0 < count_of b
  pub some : 1 ≤ c
  pub few : c ≤ max_masks
  pub fits : c ≤ shortest b
