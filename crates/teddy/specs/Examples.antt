-- Worked examples of the definitions that searches stand on: what is found, what bytes hash to, and what is shifted in.
-- first ps, longest ps   the books of the patterns ps, of either kind
-- at i s e               the match of the pattern i from s to e
-- Lines                  the examples, together
use Rattle.std.specs.Prelude.{◌≡◌, ℕ, ◌+◌, List, [], ◌∷◌, Some, None, codes}
use Rattle.rules.specs.declared.primitives.Match.{Match}
use Rattle.rules.specs.declared.primitives.MatchKind.TheVariants.{LeftmostFirst, LeftmostLongest}
use Rattle.rules.specs.Book.{Book, Within}
use Rattle.rules.specs.Search.{found}
use Rattle.rules.specs.Listing.{listing}
use Rattle.rabinkarp.specs.Hash.{hash_of, leading, moved}
use Rattle.vector.specs.Lanes.{row, shifted_in}

abbrev pub first : List (List ℕ) → Book
first ps = record { kind = LeftmostFirst; patterns = ps }

abbrev pub longest : List (List ℕ) → Book
longest ps = record { kind = LeftmostLongest; patterns = ps }

abbrev pub at : ℕ → ℕ → ℕ → Match
at i s e = record { pattern = i; start = s; end = e }

pub record Lines : Type 0 where
  pub one : found (first (codes "DC-40" ∷ codes "DC-40-R" ∷ [])) (codes "2 DC-40-R") 0 ≡ Some (at 0 2 7)
  pub two : found (longest (codes "DC-40" ∷ codes "DC-40-R" ∷ [])) (codes "2 DC-40-R") 0 ≡ Some (at 1 2 9)
  pub three : listing (longest (codes "AB" ∷ codes "BCDE" ∷ [])) (codes "ABCDE") ≡ at 0 0 2 ∷ []
  pub four : (found (first (codes "AC" ∷ [])) (codes "BA") 0 ≡ None) × (found (longest (codes "AC" ∷ [])) (codes "BA") 0 ≡ None) × (hash_of (codes "AC") ≡ 197) × (hash_of (codes "BA") ≡ 197)
  pub five : (listing (first (codes "AA" ∷ [])) (codes "AAAA") ≡ at 0 0 2 ∷ at 0 2 4 ∷ []) × (listing (longest (codes "AA" ∷ [])) (codes "AAAA") ≡ at 0 0 2 ∷ at 0 2 4 ∷ [])
  pub six : (found (first (codes "RM" ∷ codes "RM" ∷ [])) (codes "RM") 0 ≡ Some (at 0 0 2)) × (found (longest (codes "RM" ∷ codes "RM" ∷ [])) (codes "RM") 0 ≡ Some (at 0 0 2))
  pub seven : (b : Book) → Within b → (from : ℕ) → found b [] from ≡ None
  pub eight : (found (first (codes "DC-40" ∷ [])) (codes "DC-4") 0 ≡ None) × (found (longest (codes "DC-40" ∷ [])) (codes "DC-4") 0 ≡ None)
  pub nine : (found (first (codes "AA" ∷ [])) (codes "AAAA") 1 ≡ Some (at 0 1 3)) × (found (first (codes "AA" ∷ [])) (codes "AAAA") 4 ≡ None) × (found (first (codes "AA" ∷ [])) (codes "AAAA") 5 ≡ None)
  pub nine_longest : (found (longest (codes "AA" ∷ [])) (codes "AAAA") 1 ≡ Some (at 0 1 3)) × (found (longest (codes "AA" ∷ [])) (codes "AAAA") 4 ≡ None) × (found (longest (codes "AA" ∷ [])) (codes "AAAA") 5 ≡ None)
  pub ten : (hash_of (codes "AB") ≡ 196) × (moved 196 (leading 2) 65 67 ≡ 199) × (hash_of (codes "BC") ≡ 199)
  pub eleven : shifted_in 2 16 (row 16 (λ i. i)) (row 16 (λ i. 100 + i)) ≡ 114 ∷ 115 ∷ 0 ∷ 1 ∷ 2 ∷ 3 ∷ 4 ∷ 5 ∷ 6 ∷ 7 ∷ 8 ∷ 9 ∷ 10 ∷ 11 ∷ 12 ∷ 13 ∷ []
