-- What the membership tests give. n is the number of lanes, means the lanes of a vector.
-- repeated n t           the sixteen bytes t in each half
-- members n lo hi xs     lane by lane, the buckets that the tables lo and hi admit for the byte of xs
-- admitted n means m xs  the same for a mask
use Rattle.std.specs.Prelude.{ℕ, ◌+◌, ◌*◌, ◌/◌, ◌%◌, List, bit_and}
use Rattle.vector.specs.Lanes.{lane, row}
use Rattle.teddy.specs.declared.mask.Mask.{Mask}

abbrev pub repeated : ℕ → List ℕ → List ℕ
repeated n t = row n (λ i. lane t (i % 16))

unfoldable pub members : ℕ → List ℕ → List ℕ → List ℕ → List ℕ
members n lo hi xs = row n (λ i. bit_and (lane lo (i / 16 * 16 + lane xs i % 16)) (lane hi (i / 16 * 16 + lane xs i / 16)))

abbrev pub admitted : {A : Type 0} → ℕ → (A → List ℕ) → Mask A → List ℕ → List ℕ
admitted n means m xs = members n (means m.lo) (means m.hi) xs
