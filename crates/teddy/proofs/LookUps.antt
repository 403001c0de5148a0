-- Looking a nybble up in a table, in each lane.
use Rattle.std.proofs.Common.{◌≡◌, ℕ, ◌+◌, ◌-◌, ◌*◌, ◌/◌, ◌%◌, ◌<◌, ◌≤◌, cond, ltb, ◌⊎◌, List, [], ◌∷◌, ◌++◌, length, refl, sym, ◌∙◌, ⊎_elim, arith}
use Rattle.std.specs.List.{flat_map}
use Rattle.std.proofs.lemmas.List.{append-nil, get_or_append_left, get_or-append_right}
use Rattle.std.proofs.lemmas.Bool.{cases_lt}
use lib.Bits.{and_mask}
use Rattle.std.proofs.lemmas.Bool.Decides.{nat_tests}
use Rattle.vector.specs.Lanes.{lane, row, splatted, loaded, anded, shifted_right_4, shuffled}
use Rattle.teddy.specs.Members.{repeated, members}
use Rattle.vector.proofs.Rows.{lane_row, row_ext}

pub low_nybbles : (n : ℕ) (xs : List ℕ) → anded n xs (splatted n 15) ≡ row n (λ i. lane xs i % 16)
low_nybbles n xs = row_ext n _ _ (λ i h. rw (lane_row n (λ _. 15) i h) (and_mask (lane xs i) 4))

pub high_nybbles : (n : ℕ) (xs : List ℕ) → ((i : ℕ) → lane xs i < 256) → anded n (shifted_right_4 n xs) (splatted n 15) ≡ row n (λ i. lane xs i / 16)
high_nybbles n xs b =
    row_ext n _ _
    (λ i h. rw (lane_row n (λ _. 15) i h, lane_row n (λ j. lane xs j / 16) i h) (and_mask (lane xs i / 16) 4 ∙ omega (arith, b i)))

-- a shuffle by indices that are all below 16
pub lane_shuffled : (n : ℕ) (t : List ℕ) (g : ℕ → ℕ) (i : ℕ) → i < n → g i < 16 → lane (shuffled n t (row n g)) i ≡ lane t (i / 16 * 16 + g i)
lane_shuffled n t g i lt small =
    lane_row n (λ j. cond (ltb (lane (row n g) j) 16) (lane t (j / 16 * 16 + lane (row n g) j)) 0) i lt ∙ rw (lane_row n g i lt) (grind (arith, nat_tests))

-- both nybbles are looked up
pub looked_up : (n : ℕ) (lo hi xs : List ℕ) → ((i : ℕ) → lane xs i < 256)
    → members n lo hi xs ≡ anded n (shuffled n lo (row n (λ i. lane xs i % 16))) (shuffled n hi (row n (λ i. lane xs i / 16)))
unfolding members
looked_up n lo hi xs b =
    row_ext n _ _ (λ i lt. rw (lane_shuffled n lo (λ j. lane xs j % 16) i lt (omega arith), lane_shuffled n hi (λ j. lane xs j / 16) i lt (omega (arith, b i))) refl)

-- sixteen bytes twice fill both halves
twice_at : (t : List ℕ) (i : ℕ) → length t ≡ 16 → i < 32 → lane t (i % 16) ≡ lane (flat_map (λ x. x) (t ∷ t ∷ [])) (0 + i)
twice_at t i long lt =
    let z : 0 + i ≡ i = omega arith in
    let nil : t ++ [] ≡ t = append-nil t in
    ⊎_elim
    (λ (l : i < 16). let e : i % 16 ≡ i = omega arith in rw (z, nil, e) (sym (get_or_append_left t t 0 i (omega arith))))
    (λ (r : 16 ≤ i). let e : i % 16 ≡ i - 16 = omega arith in rw (z, nil, e) (sym (get_or-append_right t t 16 i 0 long r)))
    (cases_lt i 16)

pub in_halves : (n : ℕ) (t : List ℕ) → (n ≡ 16) ⊎ (n ≡ 32) → length t ≡ 16 → repeated n t ≡ loaded n (flat_map (λ x. x) (t ∷ t ∷ [])) 0
in_halves n t wide long =
    let most : n ≤ 32 = ⊎_elim (λ e. omega arith) (λ e. omega arith) wide in
    row_ext n _ _ (λ i lt. twice_at t i long (omega arith))
