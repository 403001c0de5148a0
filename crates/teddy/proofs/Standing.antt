-- The buckets and the masks follow their rules.
use Rattle.std.proofs.Common.{◌≡◌, ℕ, zero, suc, ◌-◌, ◌/◌, ◌%◌, ◌<◌, ◌↔◌, List, [], ◌∷◌, length, get_or, sym, refl, ap, inr, ⊎_elim, arith}
use lib.Bits.{bit_and}
use Rattle.std.proofs.lemmas.Nat.Bits.{bit_at_and, bit_at-zero}
use Rattle.teddy.specs.Bits.{IsSet}
use Rattle.vector.specs.Lanes.{lane, row}
use Rattle.vector.proofs.Rows.{lane_row}
use Rattle.rules.specs.Limits.{mask_buckets}
use Rattle.rules.specs.Book.{Book, pattern}
use Rattle.teddy.specs.Buckets.{Alike, front, leader, Groups}
use Rattle.teddy.specs.Masks.{byte_of, marks, low_mask, high_mask}
use Rattle.teddy.specs.Rules.{Bears, BucketsStand, MasksStand}
use Rattle.teddy.proofs.Fronts.{decides_alike, unlike, leader_same}
use Rattle.teddy.proofs.Marking.{marked_bits}

-- the first of an order that is alike is the leader
leader_first : (b : Book) (p ids : List ℕ) (i : ℕ) → i < length ids → Alike (pattern b (get_or ids i 0)) p (front b)
    → ((j : ℕ) → j < i → Alike (pattern b (get_or ids j 0)) p (front b) → ⊥) → leader b ids p ≡ get_or ids i 0
leader_first b p [] i h same before = absurd (omega arith)
leader_first b p (x ∷ xs) zero h same before = rw ((decides_alike (pattern b x) p (front b)).1 same) refl
leader_first b p (x ∷ xs) (suc i) h same before =
    rw (unlike (pattern b x) p (front b) (before 0 (omega arith))) (leader_first b p xs i (omega arith) same (λ j l. before (suc j) (omega arith)))

pub buckets_stand : BucketsStand
buckets_stand b ids = record {
  joins = λ j i lt h same. ap (λ l. mask_buckets - 1 - l % mask_buckets) (leader_same b (pattern b (get_or ids i 0)) (pattern b (get_or ids j 0)) ids (λ k l. sym (same k l)));
  opens = λ i h before. ap (λ l. mask_buckets - 1 - l % mask_buckets) (leader_first b (pattern b (get_or ids i 0)) ids i h (λ k l. refl) before);
}

-- a bit of x & y is one of both
pub and_set : (x y b : ℕ) → (IsSet (bit_and x y) b ↔ (IsSet x b × IsSet y b))
and_set x y b = ((λ s. (omega (arith, s, bit_at_and x y b), omega (arith, s, bit_at_and x y b))), (λ s. omega (arith, s.0, s.1, bit_at_and x y b)))

-- a nybble's entry has exactly the buckets that bear it
bears : (g : Groups) (part : ℕ → ℕ) (j n k : ℕ) → n < 16 → (IsSet (lane (row 16 (λ m. marks g.bucket (λ i. part (byte_of g.book j i)) m g.ids)) n) k ↔ Bears g part j n k)
bears g part j n k h =
    let nybble : ℕ → ℕ = λ i. part (byte_of g.book j i) in
    let set = marked_bits g.bucket nybble n g.ids 0 k in
    rw (lane_row 16 (λ m. marks g.bucket nybble m g.ids) n h) ((λ s. ⊎_elim (λ z. absurd (omega (arith, z, bit_at-zero k))) (λ r. r) (set.0 s)), (λ s. set.1 (inr s)))

pub masks_stand : MasksStand
unfolding low_mask high_mask
masks_stand g j k x h =
    let both = and_set (lane (low_mask g j) (x % 16)) (lane (high_mask g j) (x / 16)) k in
    let low = bears g (λ y. y % 16) j (x % 16) k (omega arith) in
    let high = bears g (λ y. y / 16) j (x / 16) k (omega arith) in (
      (λ s. (low.0 (both.0 s).0, high.0 (both.0 s).1)),
      (λ a. both.1 (low.1 a.0, high.1 a.1)),
    )
