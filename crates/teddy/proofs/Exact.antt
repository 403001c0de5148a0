-- The bits of a window's candidates are exactly the places that are candidates.
use Rattle.std.proofs.Common.{◌≡◌, ℕ, zero, suc, ◌+◌, ◌-◌, ◌*◌, ◌/◌, ◌%◌, ◌<◌, ◌≤◌, true, false, cond, eqb, ltb, ◌⊎◌, ◌↔◌, List, sym, ap, ◌∙◌, subst, ⊎_elim, below_none, below_more, arith}
use lib.Bits.{bit_and}
use Rattle.std.proofs.lemmas.Bool.{cases_lt, cond-false, ne_eqb}
use Rattle.std.proofs.lemmas.Bool.Decides.{nat_tests}
use Rattle.std.proofs.lemmas.Nat.Bits.{bit_at_ones}
use Rattle.rules.specs.Limits.{max_masks, mask_buckets}
use Rattle.vector.specs.Lanes.{lane, splatted, loaded, anded, shifted_in}
use Rattle.vector.proofs.Rows.{lane_row}
use Rattle.teddy.specs.Bits.{IsSet}
use Rattle.teddy.specs.Masks.{low_mask, high_mask}
use Rattle.teddy.specs.Rules.{Admits}
use Rattle.teddy.specs.Members.{repeated, members, admitted}
use Rattle.teddy.specs.declared.mask.Mask.{Mask}
use Rattle.teddy.specs.declared.candidate.Masks.{Masks}
use Rattle.teddy.specs.declared.candidate.Seen.{Seen}
use Rattle.teddy.specs.Candidates.{met, candidates, kept, seen_after}
use Rattle.teddy.specs.Windows.{Run, Shows, Recalls, Recalled, MaskOf, IsRun, IsBlank, Exact}
use Rattle.teddy.proofs.Standing.{and_set, masks_stand}

-- what a mask leaves where a later one follows
newer : (count k : ℕ) (z old new : List ℕ) → k < count → z ≡ kept count k old new → z ≡ new
newer count zero z old new lt e = e
newer count (suc k) z old new lt e =
    newer count k z old new (omega arith) (e ∙ cond-false (eqb count (suc k)) old (kept count k old new) (ne_eqb count (suc k) (λ q. omega arith)))

-- the lanes of one more mask, for what holds of each mask below c
module _ (n i k : ℕ) (P : ℕ → Type 0) where
  below_one : (xs : List ℕ) → (IsSet (lane xs i) k ↔ P 0) → (IsSet (lane xs i) k ↔ ((j : ℕ) → j < 1 → P j))
  below_one xs a = ((λ s. below_more P 0 (below_none P) (a.0 s)), (λ all. a.1 (all 0 (omega arith))))

  anded_below : (c : ℕ) (xs ys : List ℕ) → i < n → (IsSet (lane xs i) k ↔ ((j : ℕ) → j < c → P j)) → (IsSet (lane ys i) k ↔ P c) → (IsSet (lane (anded n xs ys) i) k ↔ ((j : ℕ) → j < c + 1 → P j))
  anded_below c xs ys lt p q =
      let a = and_set (lane xs i) (lane ys i) k in
      rw (lane_row n (λ j. bit_and (lane xs j) (lane ys j)) i lt)
      ((λ s. below_more P c (p.0 (a.0 s).0) (q.0 (a.0 s).1)), (λ all. a.1 (p.1 (λ j l. all j (omega arith)), q.1 (all c (omega arith)))))

module _ (r : Run) (at : ℕ) where
  -- the lanes xs have what mask j admits for each byte of the window
  abbrev Sees : ℕ → List ℕ → Type 0
  Sees j xs = (i k : ℕ) → i < r.lanes → k < mask_buckets → (IsSet (lane xs i) k ↔ Admits r.groups j k (lane r.text (at + i)))

  -- the byte x of the text, tested only if it was loaded
  Tested : ℕ → ℕ → ℕ → Type 0
  Tested j k x = r.low ≤ x → Admits r.groups j k (lane r.text x)

  module _ (le : r.low ≤ at) where
    seen_set : (j : ℕ) (xs : List ℕ) → Sees j xs → (i k x : ℕ) → i < r.lanes → k < mask_buckets → x ≡ at + i → (IsSet (lane xs i) k ↔ Tested j k x)
    unfolding Tested
    seen_set j xs sees i k x lt small e =
        let a = subst (λ y. IsSet (lane xs i) k ↔ Admits r.groups j k (lane r.text y)) (sym e) (sees i k lt small) in
        ((λ s _. a.0 s), (λ t. a.1 (t (omega arith))))

    -- shifted by d: lane i speaks of the byte d before
    shifted_set : (d j : ℕ) (xs p : List ℕ) → d ≤ r.lanes → Sees j xs → Recalls r at j p → (i k x : ℕ) → i < r.lanes → k < mask_buckets → x + d ≡ at + i
        → (IsSet (lane (shifted_in d r.lanes xs p) i) k ↔ Tested j k x)
    unfolding Tested
    shifted_set d j xs p dn sees keeps i k x lt small e =
        rw (lane_row r.lanes (λ m. cond (ltb m d) (lane p (r.lanes - d + m)) (lane xs (m - d))) i lt)
        (⊎_elim
        (λ (l : i < d). let t : ltb i d ≡ true = grind (arith, nat_tests) in rw t (keeps (r.lanes - d + i) k x (omega arith) small (omega arith)))
        (λ (g : d ≤ i). let t : ltb i d ≡ false = grind (arith, nat_tests) in rw t (seen_set j xs sees (i - d) k x (omega arith) small (omega arith)))
        (cases_lt i d))

    -- what a window sees is what the next one recalls
    recalls : (j : ℕ) (p : List ℕ) → Sees j p → Recalls r (at + r.lanes) j p
    recalls j p sees i k x lt small e =
        let y : x ≡ at + i = omega arith in
        let a = subst (λ z. IsSet (lane p i) k ↔ Admits r.groups j k (lane r.text z)) (sym y) (sees i k lt small) in
        ((λ s _. a.0 s), (λ t. a.1 (t (omega arith))))

    -- a, b, d, f are what four masks admit in the window, and p, q, s what the first three admitted in the one before; c masks are used
    module _ (wide : 4 ≤ r.lanes) (a b d f p q s : List ℕ) (sa : Sees 0 a) (sb : Sees 1 b) (sd : Sees 2 d) (sf : Sees 3 f) where
      meets : (c : ℕ) → 0 < c → c ≤ max_masks → (1 < c → Recalls r at 0 p) → (2 < c → Recalls r at 1 q) → (3 < c → Recalls r at 2 s) → (i k x : ℕ) → i < r.lanes → k < mask_buckets → x + (c - 1) ≡ at + i
          → (IsSet (lane (met r.lanes record { count = c; first = a; second = b; third = d; fourth = f } record { first = p; second = q; third = s }) i) k ↔ ((j : ℕ) → j < c → Tested j k (x + j)))
      unfolding Tested met
      meets zero pos few rp rq rs i k x lt small e = absurd (omega arith)
      meets (suc zero) pos few rp rq rs i k x lt small e = below_one r.lanes i k (λ j. Tested j k (x + j)) a (seen_set 0 a sa i k (x + 0) lt small (omega arith))
      meets (suc (suc zero)) pos few rp rq rs i k x lt small e =
          let P : ℕ → Type 0 = λ j. Tested j k (x + j) in
          anded_below r.lanes i k P 1 _ _ lt
          (below_one r.lanes i k P _ (shifted_set 1 0 a p (omega arith) sa (rp (omega arith)) i k (x + 0) lt small (omega arith)))
          (seen_set 1 b sb i k (x + 1) lt small (omega arith))
      meets (suc (suc (suc zero))) pos few rp rq rs i k x lt small e =
          let P : ℕ → Type 0 = λ j. Tested j k (x + j) in
          anded_below r.lanes i k P 2 _ _ lt
          (anded_below r.lanes i k P 1 _ _ lt
          (below_one r.lanes i k P _ (shifted_set 2 0 a p (omega arith) sa (rp (omega arith)) i k (x + 0) lt small (omega arith)))
          (shifted_set 1 1 b q (omega arith) sb (rq (omega arith)) i k (x + 1) lt small (omega arith)))
          (seen_set 2 d sd i k (x + 2) lt small (omega arith))
      meets (suc (suc (suc (suc zero)))) pos few rp rq rs i k x lt small e =
          let P : ℕ → Type 0 = λ j. Tested j k (x + j) in
          anded_below r.lanes i k P 3 _ _ lt
          (anded_below r.lanes i k P 2 _ _ lt
          (anded_below r.lanes i k P 1 _ _ lt
          (below_one r.lanes i k P _ (shifted_set 3 0 a p (omega arith) sa (rp (omega arith)) i k (x + 0) lt small (omega arith)))
          (shifted_set 2 1 b q (omega arith) sb (rq (omega arith)) i k (x + 1) lt small (omega arith)))
          (shifted_set 1 2 d s (omega arith) sd (rs (omega arith)) i k (x + 2) lt small (omega arith)))
          (seen_set 3 f sf i k (x + 3) lt small (omega arith))
      meets (suc (suc (suc (suc (suc c))))) pos few rp rq rs i k x lt small e = absurd (omega arith)

-- ---- what the vectors of a mask admit
repeated_at : (n : ℕ) (t xs : List ℕ) (i x : ℕ) → (n ≡ 16) ⊎ (n ≡ 32) → i < n → x < 16 → xs ≡ repeated n t → lane xs (i / 16 * 16 + x) ≡ lane t x
repeated_at n t xs i x wide lt small e =
    let within : i / 16 * 16 + x < n = ⊎_elim (λ w. omega arith) (λ w. omega arith) wide in
    let low : (i / 16 * 16 + x) % 16 ≡ x = omega arith in
    ap (λ l. lane l (i / 16 * 16 + x)) e ∙ (lane_row n (λ k. lane t (k % 16)) (i / 16 * 16 + x) within ∙ ap (lane t) low)

sees : (r : Run) (at j : ℕ) {A : Type 0} (means : A → List ℕ) (v : Mask A) → (r.lanes ≡ 16) ⊎ (r.lanes ≡ 32) → ((i : ℕ) → lane r.text i < 256)
    → MaskOf r.lanes means v r.groups j → Sees r at j (admitted r.lanes means v (loaded r.lanes r.text at))
unfolding members
sees r at j means v wide fit of i k lt small =
    let n = r.lanes in
    let lo = means v.lo in
    let hi = means v.hi in
    let x = lane r.text (at + i) in
    let xs = loaded n r.text at in
    rw (
      lane_row n (λ m. bit_and (lane lo (m / 16 * 16 + lane xs m % 16)) (lane hi (m / 16 * 16 + lane xs m / 16))) i lt,
      lane_row n (λ m. lane r.text (at + m)) i lt,
      repeated_at n (low_mask r.groups j) lo i (x % 16) wide lt (omega arith) of.lo,
      repeated_at n (high_mask r.groups j) hi i (x / 16) wide lt (omega (arith, fit (at + i))) of.hi,
    ) (masks_stand r.groups j k x (fit (at + i)))

-- ---- a window
module _ {A : Type 0} (n : ℕ) (means : A → List ℕ) (m : Masks (Mask A)) (t : List ℕ) (at : ℕ) (seen : Seen A) (x : A) (seen' : Seen A) (wide : (n ≡ 16) ⊎ (n ≡ 32)) (fit : (i : ℕ) → lane t i < 256)
    (found : means x ≡ candidates n means m seen (loaded n t at))
    (first : means seen'.first ≡ (seen_after n means m seen (loaded n t at)).first) (second : means seen'.second ≡ (seen_after n means m seen (loaded n t at)).second)
    (third : means seen'.third ≡ (seen_after n means m seen (loaded n t at)).third) where
  module _ (r : Run) (is : IsRun n means m t r) (old : Recalled means r at seen) where
    seen_of : (v : Mask A) (j : ℕ) → MaskOf n means v r.groups j → Sees r at j (admitted n means v (loaded n t at))
    seen_of v j of =
        rw (← is.lanes, ← is.text) (sees r at j means v (rw is.lanes wide) (rw is.text fit) (rw (← is.lanes) at of))

    new : (j k : ℕ) (v : Mask A) (z o : List ℕ) → k < r.masks → z ≡ kept m.count k o (admitted n means v (loaded n t at)) → MaskOf n means v r.groups j → Recalls r (at + n) j z
    new j k v z o lt e of =
        rw (← is.lanes) (recalls r at old.started j z (subst (Sees r at j) (sym (newer m.count k z o _ (omega (arith, is.masks)) e)) (seen_of v j of)))

    exact_recalls : Recalled means r (at + n) seen'
    exact_recalls = record {
      started = omega (arith, old.started);
      first = λ l. new 0 1 m.first _ _ l first is.tables.first;
      second = λ l. new 1 2 m.second _ _ l second is.tables.second;
      third = λ l. new 2 3 m.third _ _ l third is.tables.third;
    }

    exact_shows : Shows r at (means x)
    unfolding Tested
    exact_shows i k s lt small e =
        let four : 4 ≤ r.lanes = ⊎_elim (λ w. omega (arith, is.lanes)) (λ w. omega (arith, is.lanes)) wide in
        let bits = meets r at old.started four _ _ _ _ (means seen.first) (means seen.second) (means seen.third)
        (seen_of m.first 0 is.tables.first) (seen_of m.second 1 is.tables.second) (seen_of m.third 2 is.tables.third) (seen_of m.fourth 3 is.tables.fourth)
        m.count is.tables.some is.tables.few (λ l. old.first (omega (arith, is.masks))) (λ l. old.second (omega (arith, is.masks))) (λ l. old.third (omega (arith, is.masks)))
        i k s lt small (omega (arith, e, is.masks)) in
        rw (found, is.masks) (rw is.lanes at bits)

  pub exact : Exact n means m t at seen x seen'
  exact = record { shows = exact_shows; recalls = exact_recalls }

-- ---- before the first window nothing was loaded
none_recalled : (r : Run) (j : ℕ) (p : List ℕ) → p ≡ splatted r.lanes 255 → Recalls r r.low j p
none_recalled r j p e i k x lt small f = (
  (λ _ le. absurd (omega arith)),
  (λ _. subst (λ q. IsSet (lane q i) k) (sym e) (rw (lane_row r.lanes (λ _. 255) i lt) (bit_at_ones 8 k small))),
)

pub blank : {A : Type 0} (n : ℕ) (means : A → List ℕ) (seen : Seen A)
    → means seen.first ≡ splatted n 255 → means seen.second ≡ splatted n 255 → means seen.third ≡ splatted n 255 → IsBlank n means seen
blank n means seen first second third = record {
  recalls = λ r e. record {
    started = omega arith;
    first = λ _. none_recalled r 0 _ (rw e first);
    second = λ _. none_recalled r 1 _ (rw e second);
    third = λ _. none_recalled r 2 _ (rw e third);
  };
}
