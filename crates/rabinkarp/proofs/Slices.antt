-- The buckets as slices of the table that holds them all.
use Rattle.std.proofs.Common.{◌≡◌, ℕ, zero, suc, ◌+◌, ◌-◌, ◌<◌, ◌≤◌, List, [], ◌++◌, length, take, drop, sym, refl, ap, ◌∙◌, append_assoc, arith, length-append}
use Rattle.std.specs.List.{between}
use Rattle.std.proofs.lemmas.Grind.{get_or_default_zero, get_or-set_at, take-set_at, length_at_push}
use Rattle.std.proofs.lemmas.List.{append-nil, take-take, take_at, drop_at, get_or-set_other, length-set}
use Rattle.std.proofs.lemmas.Slice.{between_is}
use Rattle.rules.specs.Limits.{hash_buckets}
use Rattle.rabinkarp.specs.Buckets.{in_bucket}
use Rattle.rabinkarp.proofs.Filling.{key_of, below, below_next, filled, filled_below, filled_first, filled_with, filled_without, filled_next, filled_few, filled_room}

-- the buckets below b come first
after : (key : ℕ → ℕ) (order : List ℕ) (b d : ℕ) → (rest : List ℕ) × (below key order (b + d) ≡ below key order b ++ rest)
after key order b zero = ([], ap (below key order) (let e : b + 0 ≡ b = omega arith in e) ∙ sym (append-nil (below key order b)))
after key order b (suc d) =
    let r = after key order b d in
    let e : b + suc d ≡ (b + d) + 1 = omega arith in (
      r.0 ++ in_bucket key order (b + d),
      ap (below key order) e ∙ (below_next key order (b + d) ∙ (ap (λ q. q ++ in_bucket key order (b + d)) r.1 ∙ append_assoc (below key order b) r.0 (in_bucket key order (b + d)))),
    )

module _ (keys order : List ℕ) where
  pub filled_rises : (k : ℕ) → length (filled keys order k 0) ≤ length (filled keys order (k + 1) 0)
  filled_rises k =
      let key = key_of keys in
      omega (arith, ap length (filled_below keys order k), ap length (filled_below keys order (k + 1)), ap length (below_next key order k), length-append (below key order k) (in_bucket key order k))

  -- the buckets up to k, and what comes behind them
  behind : (k : ℕ) → k < hash_buckets → (rest : List ℕ) × (filled keys order hash_buckets 0 ≡ below (key_of keys) order (k + 1) ++ rest)
  behind k l =
      let r = after (key_of keys) order (k + 1) (hash_buckets - (k + 1)) in
      let top : hash_buckets ≡ k + 1 + (hash_buckets - (k + 1)) = omega arith in
      (r.0, filled_below keys order hash_buckets ∙ (ap (below (key_of keys) order) top ∙ r.1))

  pub filled_within : (k : ℕ) → k < hash_buckets → length (filled keys order (k + 1) 0) ≤ length (filled keys order hash_buckets 0)
  filled_within k l =
      let r = behind k l in
      omega (arith, ap length (filled_below keys order (k + 1)), ap length r.1, length-append (below (key_of keys) order (k + 1)) r.0)

  -- the table begins with the ids of all buckets
  pub filled_bucket : (ids : List ℕ) (k : ℕ) → take (length (filled keys order hash_buckets 0)) ids ≡ filled keys order hash_buckets 0 → k < hash_buckets
      → between (length (filled keys order k 0)) (length (filled keys order (k + 1) 0)) ids ≡ in_bucket (key_of keys) order k
  filled_bucket ids k all l =
      let key = key_of keys in
      let s = length (below key order k) in
      let e = length (below key order (k + 1)) in
      let xs = filled keys order hash_buckets 0 in
      let r = behind k l in
      let short : e ≤ length xs = omega (arith, ap length (filled_below keys order (k + 1)), filled_within k l) in
      let front : take e ids ≡ below key order (k + 1) = sym (take-take e (length xs) ids short) ∙ (ap (take e) (all ∙ r.1) ∙ take_at (below key order (k + 1)) r.0 e refl) in
      ap (λ i. between i (length (filled keys order (k + 1) 0)) ids) (ap length (filled_below keys order k))
      ∙ (ap (λ i. between s i ids) (ap length (filled_below keys order (k + 1)))
      ∙ (between_is ids s e ∙ (ap (drop s) (front ∙ below_next key order k) ∙ drop_at (below key order k) (in_bucket key order k) s refl)))

-- what the loops that fill the buckets ask
pub ruleset bucketing = (filled_first, filled_with, filled_without, filled_next, filled_few, filled_room, filled_rises, filled_bucket, get_or_default_zero, get_or-set_at, get_or-set_other, length-set, take-set_at, length_at_push)
