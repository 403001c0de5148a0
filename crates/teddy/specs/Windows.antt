-- The windows of a run follow one another through a text. The statement of `Masks::window` is `Exact`: in any run, where seen recalls
-- the window before, the result shows exactly the candidates, and then seen recalls this window for the one behind. A blank `Seen`
-- recalls the window before the first one, of which no byte was loaded. So a search misses no candidate, window after window.
-- Run                 patterns in buckets whose masks are used, how many of these, how many lanes a window has, the text, and the place
--                     of the first byte that was loaded
-- Candidate r s k     the place s is a candidate for the bucket k: for each j below the mask count mask j admits k for the byte j
--                     further on, if that was loaded
-- Shows r at xs       of the window at a place: bit k of lane i of xs is set exactly if the place that lies as many bytes before the
--                     lane's as there are masks but one is a candidate for k
-- Recalls r at j xs   of the window before a place: bit k of lane i of xs is set exactly if mask j admits k for the lane's byte, or that
--                     was not loaded
-- Recalled means r at seen   the same of what is seen of each mask, so far as a later mask is used, the run having begun there or before
-- MaskOf n means v g j       the vectors of v hold mask j of g
-- MasksOf n means m g        the vectors of m hold the masks of g, of which one to max_masks are used
-- IsRun n means m t r        r is a run through the text t with the masks m. n is the number of lanes, means the lanes of a vector
-- IsBlank n means seen       seen recalls the window before the first one of any run: nothing of it was loaded
-- Exact n means m t at seen x seen'   what `window` gives at a place: the candidates x, and seen' of seen
use Rattle.std.specs.Prelude.{◌≡◌, ℕ, ◌+◌, ◌-◌, ◌<◌, ◌≤◌, ◌↔◌, List}
use Rattle.rules.specs.Limits.{max_masks, mask_buckets}
use Rattle.vector.specs.Lanes.{lane}
use Rattle.teddy.specs.Bits.{IsSet}
use Rattle.teddy.specs.Buckets.{Groups}
use Rattle.teddy.specs.Masks.{low_mask, high_mask}
use Rattle.teddy.specs.Rules.{Admits}
use Rattle.teddy.specs.Members.{repeated}
use Rattle.teddy.specs.declared.mask.Mask.{Mask}
use Rattle.teddy.specs.declared.candidate.Masks.{Masks}
use Rattle.teddy.specs.declared.candidate.Seen.{Seen}

pub record Run : Type 0 where
  pub groups : Groups
  pub masks : ℕ
  pub lanes : ℕ
  pub text : List ℕ
  pub low : ℕ

abbrev pub Candidate : Run → ℕ → ℕ → Type 0
Candidate r s k = (j : ℕ) → j < r.masks → r.low ≤ s + j → Admits r.groups j k (lane r.text (s + j))

abbrev pub Shows : Run → ℕ → List ℕ → Type 0
Shows r at xs = (i k s : ℕ) → i < r.lanes → k < mask_buckets → s + (r.masks - 1) ≡ at + i → (IsSet (lane xs i) k ↔ Candidate r s k)

abbrev pub Recalls : Run → ℕ → ℕ → List ℕ → Type 0
Recalls r at j xs = (i k x : ℕ) → i < r.lanes → k < mask_buckets → x + r.lanes ≡ at + i → (IsSet (lane xs i) k ↔ (r.low ≤ x → Admits r.groups j k (lane r.text x)))

pub record Recalled {A : Type 0} (means : A → List ℕ) (r : Run) (at : ℕ) (seen : Seen A) : Type 0 where
  pub started : r.low ≤ at
  pub first : 1 < r.masks → Recalls r at 0 (means seen.first)
  pub second : 2 < r.masks → Recalls r at 1 (means seen.second)
  pub third : 3 < r.masks → Recalls r at 2 (means seen.third)

pub record MaskOf {A : Type 0} (n : ℕ) (means : A → List ℕ) (v : Mask A) (g : Groups) (j : ℕ) : Type 0 where
  pub lo : means v.lo ≡ repeated n (low_mask g j)
  pub hi : means v.hi ≡ repeated n (high_mask g j)

pub record MasksOf {A : Type 0} (n : ℕ) (means : A → List ℕ) (m : Masks (Mask A)) (g : Groups) : Type 0 where
  pub some : 0 < m.count
  pub few : m.count ≤ max_masks
  pub first : MaskOf n means m.first g 0
  pub second : MaskOf n means m.second g 1
  pub third : MaskOf n means m.third g 2
  pub fourth : MaskOf n means m.fourth g 3

pub record IsRun {A : Type 0} (n : ℕ) (means : A → List ℕ) (m : Masks (Mask A)) (t : List ℕ) (r : Run) : Type 0 where
  pub lanes : r.lanes ≡ n
  pub masks : r.masks ≡ m.count
  pub text : r.text ≡ t
  pub tables : MasksOf n means m r.groups

pub record IsBlank {A : Type 0} (n : ℕ) (means : A → List ℕ) (seen : Seen A) : Type 0 where
  pub recalls : (r : Run) → r.lanes ≡ n → Recalled means r r.low seen

pub record Exact {A : Type 0} (n : ℕ) (means : A → List ℕ) (m : Masks (Mask A)) (t : List ℕ) (at : ℕ) (seen : Seen A) (x : A) (seen' : Seen A) : Type 0 where
  pub shows : (r : Run) → IsRun n means m t r → Recalled means r at seen → Shows r at (means x)
  pub recalls : (r : Run) → IsRun n means m t r → Recalled means r at seen → Recalled means r (at + n) seen'
