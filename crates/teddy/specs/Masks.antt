-- The masks of patterns in buckets, as byte tables: at each nybble the buckets that it is admitted for, a bit each.
-- byte_of b j i                byte j of the pattern i; 0 past its end
-- marks bucket nybble n ids    the number in which the bit `bucket i` is set for each i of ids whose nybble is n
-- low_mask g j                 mask j, by low nybbles
-- high_mask g j                mask j, by high nybbles
use Rattle.std.specs.Prelude.{ℕ, ◌/◌, ◌%◌, ◌^◌, cond, List, fold, ◌==◌, bit_or, slice_index}
use Rattle.vector.specs.Lanes.{row}
use Rattle.rules.specs.Book.{Book, pattern}
use Rattle.teddy.specs.Buckets.{Groups}

abbrev pub byte_of : Book → ℕ → ℕ → ℕ
byte_of b j i = slice_index (pattern b i) j

abbrev pub marks : (ℕ → ℕ) → (ℕ → ℕ) → ℕ → List ℕ → ℕ
marks bucket nybble n ids = fold (λ m i. bit_or m (cond (nybble i == n) (2 ^ bucket i) 0)) 0 ids

unfoldable pub low_mask : Groups → ℕ → List ℕ
low_mask g j = row 16 (λ n. marks g.bucket (λ i. byte_of g.book j i % 16) n g.ids)

unfoldable pub high_mask : Groups → ℕ → List ℕ
high_mask g j = row 16 (λ n. marks g.bucket (λ i. byte_of g.book j i / 16) n g.ids)
