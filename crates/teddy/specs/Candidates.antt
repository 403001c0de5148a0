-- What one window gives, from what its masks admit and what they admitted in the window before. n is the number of lanes, means the
-- lanes of a vector, count how many masks are used: 1, 2 or 3, and all four for any other number.
-- all_admitted n means m xs   what each of the masks m admits of the window xs
-- lanes_of means seen         the lanes of seen
-- met n a p                   the lanes in which the masks meet. a is what they admit here, p what the first three admitted in the window
--                             before: each mask but the last is shifted to the last one's lane
-- candidates n means m seen xs   the candidates of the window xs
-- kept count k old new        what the k-th mask leaves for the next window: what it admits here, unless it is the last one in use or lies
--                             behind it: then it leaves old
-- seen_after n means m seen xs   what the first three masks leave so
-- Tests n means m seen xs r seen'   the window xs was tested: r has its candidates, and seen' what each mask leaves for the next window
use Rattle.std.specs.Prelude.{◌≡◌, ℕ, zero, suc, cond, List, ◌==◌}
use Rattle.vector.specs.Lanes.{shifted_in, anded}
use Rattle.teddy.specs.declared.mask.Mask.{Mask}
use Rattle.teddy.specs.declared.candidate.Masks.{Masks}
use Rattle.teddy.specs.declared.candidate.Seen.{Seen}
use Rattle.teddy.specs.Members.{admitted}

abbrev pub all_admitted : {A : Type 0} → ℕ → (A → List ℕ) → Masks (Mask A) → List ℕ → Masks (List ℕ)
all_admitted n means m xs =
    record { count = m.count; first = admitted n means m.first xs; second = admitted n means m.second xs; third = admitted n means m.third xs; fourth = admitted n means m.fourth xs }

abbrev pub lanes_of : {A : Type 0} → (A → List ℕ) → Seen A → Seen (List ℕ)
lanes_of means seen = record { first = means seen.first; second = means seen.second; third = means seen.third }

unfoldable pub met : ℕ → Masks (List ℕ) → Seen (List ℕ) → List ℕ
met n a p =
    cond (a.count == 1) a.first
    (cond (a.count == 2) (anded n (shifted_in 1 n a.first p.first) a.second)
    (cond (a.count == 3) (anded n (anded n (shifted_in 2 n a.first p.first) (shifted_in 1 n a.second p.second)) a.third)
    (anded n (anded n (anded n (shifted_in 3 n a.first p.first) (shifted_in 2 n a.second p.second)) (shifted_in 1 n a.third p.third)) a.fourth)))

abbrev pub candidates : {A : Type 0} → ℕ → (A → List ℕ) → Masks (Mask A) → Seen A → List ℕ → List ℕ
candidates n means m seen xs = met n (all_admitted n means m xs) (lanes_of means seen)

abbrev pub kept : ℕ → ℕ → List ℕ → List ℕ → List ℕ
kept count zero old new = new
kept count (suc k) old new = cond (count == suc k) old (kept count k old new)

abbrev pub seen_after : {A : Type 0} → ℕ → (A → List ℕ) → Masks (Mask A) → Seen A → List ℕ → Seen (List ℕ)
seen_after n means m seen xs = record {
  first = kept m.count 1 (means seen.first) (admitted n means m.first xs);
  second = kept m.count 2 (means seen.second) (admitted n means m.second xs);
  third = kept m.count 3 (means seen.third) (admitted n means m.third xs);
}

pub record Tests {A : Type 0} (n : ℕ) (means : A → List ℕ) (m : Masks (Mask A)) (seen : Seen A) (xs : List ℕ) (r : A) (seen' : Seen A) : Type 0 where
  pub found : means r ≡ candidates n means m seen xs
  pub first : means seen'.first ≡ (seen_after n means m seen xs).first
  pub second : means seen'.second ≡ (seen_after n means m seen xs).second
  pub third : means seen'.third ≡ (seen_after n means m seen xs).third
