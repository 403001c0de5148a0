-- Laws of `row`.
use Rattle.std.specs.Prelude.{◌≡◌, ℕ, ◌<◌, List, length}
use Rattle.std.proofs.Common.{◌∙◌, arith}
use Rattle.std.proofs.lemmas.List.FromFn.{length-map-range_with_len, get_or-map-range_with_len, fill_by_all}
use Rattle.vector.specs.Lanes.{lane, row}

pub length-row : (n : ℕ) (f : ℕ → ℕ) → length (row n f) ≡ n
unfolding row
length-row n f = length-map-range_with_len f 0 n

pub lane_row : (n : ℕ) (f : ℕ → ℕ) (i : ℕ) → i < n → lane (row n f) i ≡ f i
unfolding row
lane_row n f i h = get_or-map-range_with_len f 0 n i i 0 h (omega arith)

pub row_is : (n : ℕ) (f : ℕ → ℕ) (xs : List ℕ) → length xs ≡ n → ((k : ℕ) → k < n → lane xs k ≡ f k) → xs ≡ row n f
unfolding row
row_is n f xs e h = fill_by_all f xs n 0 e h

-- rows whose lanes are equal
pub row_ext : (n : ℕ) (f g : ℕ → ℕ) → ((i : ℕ) → i < n → f i ≡ g i) → row n f ≡ row n g
row_ext n f g h = row_is n g (row n f) (length-row n f) (λ k lt. lane_row n f k lt ∙ h k lt)
