-- The shortest length is that of no longer pattern, and not 0.
use Rattle.std.proofs.Common.{ℕ, zero, suc, ◌-◌, ◌^◌, ◌<◌, ◌≤◌, min, List, [], ◌∷◌, length, get_or, fold, arith, rules}
use Rattle.rules.specs.Book.{Book, count_of, size, shortest}

below : (ps : List (List ℕ)) (a : ℕ) → fold (λ m p. min m (length p)) a ps ≤ a
below [] a = omega arith
below (p ∷ ps) a = omega (arith, below ps (min a (length p)))

least : (ps : List (List ℕ)) (a k : ℕ) → k < length ps → fold (λ m p. min m (length p)) a ps ≤ length (get_or ps k [])
least [] a k h = search rules
least (p ∷ ps) a zero h = omega (arith, below ps (min a (length p)))
least (p ∷ ps) a (suc k) h = least ps (min a (length p)) k (omega arith)

pub shortest_le : (b : Book) (k : ℕ) → k < count_of b → shortest b ≤ size b k
shortest_le b k h = least b.patterns (2 ^ 64 - 1) k h

positive : (ps : List (List ℕ)) (a : ℕ) → 0 < a → ((k : ℕ) → k < length ps → 0 < length (get_or ps k [])) → 0 < fold (λ m p. min m (length p)) a ps
positive [] a h f = h
positive (p ∷ ps) a h f = let z = f 0 (omega arith) in positive ps (min a (length p)) (omega (arith, z)) (λ k l. f (suc k) (omega arith))

pub shortest_pos : (b : Book) → ((k : ℕ) → k < count_of b → 0 < size b k) → 0 < shortest b
shortest_pos b f = positive b.patterns (2 ^ 64 - 1) (omega arith) f
