-- From the candidates that were tried to what a search answers. A bit of a run of windows is a place and a bucket: bit 8 * s + k is that
-- of the bucket k at the place s.
use Rattle.std.proofs.Common.{◌≡◌, ℕ, ◌+◌, ◌-◌, ◌*◌, ◌/◌, ◌%◌, ◌<◌, ◌≤◌, true, eqb, List, length, get_or, Some, None, sym, refl, ap, ◌∙◌, subst, ⊎_elim, below_more, arith}
use Rattle.std.proofs.ByRecursion.{All-get_or, kept_by_passes}
use Rattle.std.proofs.lemmas.Bool.{eqb-true, cases_lt}
use Rattle.std.proofs.lemmas.Grind.{get_or_default_zero}
use Rattle.rules.specs.Limits.{mask_buckets}
use Rattle.rules.specs.Book.{Book, pattern, shortest}
use Rattle.rules.specs.Search.{OccursAt, id_of, hit, found}
use Rattle.rules.specs.Places.{Chosen}
use Rattle.rules.proofs.Rule.{settled, found_unique}
use Rattle.pattern.specs.Order.{order_in}
use Rattle.pattern.proofs.Shortest.{shortest_le}
use Rattle.pattern.proofs.Trying.{reading_order}
use Rattle.finder.proofs.Choosing.{chosen_first}
use Rattle.rabinkarp.specs.Buckets.{in_bucket}
use Rattle.rabinkarp.proofs.Members.{bucket_all, bucket_preferred}
use Rattle.vector.specs.Lanes.{lane, lane64, all_zero}
use Rattle.teddy.specs.Bits.{IsSet, Taken}
use Rattle.teddy.specs.Buckets.{front, bucket_of, groups_of}
use Rattle.teddy.specs.Masks.{byte_of}
use Rattle.teddy.specs.Rules.{Bears}
use Rattle.teddy.specs.Windows.{Run, Candidate, Shows}
use Rattle.teddy.proofs.Fronts.{leader_same}
use Rattle.teddy.proofs.Lanes64.{bit_64, none_in_zero, none_in_zeros}

-- the bucket of a pattern, and the ids of a bucket
abbrev pub key_in : Book → ℕ → ℕ
key_in b = bucket_of b (order_in b)

abbrev pub ids_in : Book → ℕ → List ℕ
ids_in b k = in_bucket (key_in b) (order_in b) k

-- the run through the text t over the book b, with c masks and n lanes, of which the place low is the first that was loaded
abbrev pub run : Book → ℕ → ℕ → List ℕ → ℕ → Run
run b c n t low = record { groups = groups_of b; masks = c; lanes = n; text = t; low = low }

-- a pattern occurs at the place and in the bucket of the bit x
abbrev pub Sits : Book → List ℕ → ℕ → Type 0
Sits b t x = (i : ℕ) × OccursAt b t i (x / mask_buckets) × (key_in b i ≡ x % mask_buckets)

-- no pattern does at the bits below x, from the place at on
pub record Clear (b : Book) (t : List ℕ) (at x : ℕ) : Type 0 where
  pub none : (y : ℕ) → mask_buckets * at ≤ y → y < x → Sits b t y → ⊥

-- of the 64 bits from x on, n has each at which a pattern does
pub record InLane (b : Book) (t : List ℕ) (x n : ℕ) : Type 0 where
  pub set : (j : ℕ) → j < 64 → Sits b t (x + j) → IsSet n j

-- the first n of ids were tried in vain at the place s
pub record InVain (b : Book) (t ids : List ℕ) (s n : ℕ) : Type 0 where
  pub none : (j : ℕ) → j < n → OccursAt b t (get_or ids j 0) s → ⊥

pub one_more : (b : Book) (t ids : List ℕ) (s n : ℕ) → InVain b t ids s n → (OccursAt b t (get_or ids n 0) s → ⊥) → InVain b t ids s (n + 1)
one_more b t ids s n v none = record { none = below_more (λ j. OccursAt b t (get_or ids j 0) s → ⊥) n v.none none }

id_key : (key : ℕ → ℕ) (ids : List ℕ) (k j : ℕ) → j < length (in_bucket key ids k) → key (get_or (in_bucket key ids k) j 0) ≡ k
id_key key ids k j l =
    eqb-true (key (get_or (in_bucket key ids k) j 0)) k (All-get_or (λ m. eqb (key m) k ≡ true) (in_bucket key ids k) j 0 l (kept_by_passes (λ m. eqb (key m) k) ids))

module _ (b : Book) (t : List ℕ) where
  -- ---- the bits of a 64-bit lane
  module _ (x n bit rest : ℕ) (took : Taken n bit rest) (lane : InLane b t x n) where
    -- one that was tried in vain may go
    pub bit_gone : (Sits b t (x + bit) → ⊥) → InLane b t x rest
    bit_gone none = record { set = λ j lt s. ⊎_elim (λ (e : j ≡ bit). absurd (none (subst (λ i. Sits b t (x + i)) e s))) (λ r. r) (took.others j (lane.set j lt s)) }

    -- and below the lowest there is none
    pub bit_clear : (at : ℕ) → Clear b t at x → Clear b t at (x + bit)
    bit_clear at clear = record {
      none = λ y lo hi s.
          ⊎_elim
          (λ (l : y < x). clear.none y lo l s)
          (λ (r : x ≤ y).
          let e : x + (y - x) ≡ y = omega arith in
          took.lowest (y - x) (omega arith) (lane.set (y - x) (omega (arith, took.within)) (subst (Sits b t) (sym e) s)))
          (cases_lt y x);
    }

  -- a lane of which no bit is left
  pub lane_clear : (at x n : ℕ) → n ≡ 0 → InLane b t x n → Clear b t at x → Clear b t at (x + 64)
  lane_clear at x n zero lane clear = record {
    none = λ y lo hi s.
        ⊎_elim
        (λ (l : y < x). clear.none y lo l s)
        (λ (r : x ≤ y).
        let e : x + (y - x) ≡ y = omega arith in
        none_in_zero n (y - x) zero (lane.set (y - x) (omega arith) (subst (Sits b t) (sym e) s)))
        (cases_lt y x);
  }

  -- ---- patterns and buckets
  -- patterns that occur at one place share their bucket
  shares : (i j s : ℕ) → OccursAt b t i s → OccursAt b t j s → key_in b i ≡ key_in b j
  shares i j s x y =
      ap (λ l. mask_buckets - 1 - l % mask_buckets) (leader_same b (pattern b i) (pattern b j) (order_in b)
      (λ k l. ap (λ v. v % 16) (sym (x.stands.1 k (omega (arith, shortest_le b i x.known))) ∙ y.stands.1 k (omega (arith, shortest_le b j y.known)))))

  -- a place at which a pattern occurs is a candidate for its bucket
  candidate_of : (c n low i s : ℕ) → c ≤ front b → OccursAt b t i s → Candidate (run b c n t low) s (key_in b i)
  candidate_of c n low i s few here j jl tested =
      let at = (reading_order b).all i here.known in
      let byte : get_or t (s + j) 0 ≡ byte_of b j i = here.stands.1 j (omega (arith, shortest_le b i here.known)) in
      let bears : (part : ℕ → ℕ) → Bears (groups_of b) part j (part (get_or t (s + j) 0)) (key_in b i) =
      λ part. (at.0, at.1, ap (key_in b) at.2, ap part (ap (byte_of b j) at.2 ∙ sym byte)) in
      (bears (λ y. y % 16), bears (λ y. y / 16))

  sits : (i s : ℕ) → OccursAt b t i s → Sits b t (mask_buckets * s + key_in b i)
  sits i s here =
      let place : s ≡ (mask_buckets * s + key_in b i) / mask_buckets = omega arith in
      (i, subst (OccursAt b t i) place here, omega arith)

  -- ---- a window, whose lanes are xs
  module _ (c n low at : ℕ) (xs : List ℕ) (few : c ≤ front b) (starts : c - 1 ≤ at) (shows : Shows (run b c n t low) at xs) where
    shown : (x : ℕ) → mask_buckets * (at - (c - 1)) ≤ x → x < mask_buckets * (at - (c - 1)) + mask_buckets * n → Sits b t x → IsSet (lane xs (x / mask_buckets - (at - (c - 1)))) (x % mask_buckets)
    shown x lo hi s =
        (shows (x / mask_buckets - (at - (c - 1))) (x % mask_buckets) (x / mask_buckets) (omega arith) (omega arith) (omega arith)).1
        (subst (λ k. Candidate (run b c n t low) (x / mask_buckets) k) s.2 (candidate_of c n low s.0 (x / mask_buckets) few s.1))

    -- its 64-bit lanes have what sits there
    pub in_lane : (k : ℕ) → 8 * k + 8 ≤ n → ((i : ℕ) → lane xs i < 256) → InLane b t (mask_buckets * (at - (c - 1)) + 64 * k) (lane64 xs k)
    in_lane k within bytes = record {
      set = λ j lt s.
          let base = at - (c - 1) in
          let x = mask_buckets * base + 64 * k + j in
          let e : x / mask_buckets - base ≡ (64 * k + j) / 8 = omega arith in
          let m : x % mask_buckets ≡ (64 * k + j) % 8 = omega arith in
          bit_64 xs k j bytes lt ∙ rw (← e, ← m) (shown x (omega arith) (omega arith) s);
    }

    -- and where all lanes are 0 there is nothing
    pub window_clear : (from : ℕ) → all_zero xs ≡ true → Clear b t from (mask_buckets * (at - (c - 1))) → Clear b t from (mask_buckets * (at - (c - 1)) + mask_buckets * n)
    window_clear from zero clear = record {
      none = λ y lo hi s.
          ⊎_elim
          (λ (l : y < mask_buckets * (at - (c - 1))). clear.none y lo l s)
          (λ (r : mask_buckets * (at - (c - 1)) ≤ y). none_in_zeros xs (y / mask_buckets - (at - (c - 1))) (y % mask_buckets) zero (shown y r hi s))
          (cases_lt y (mask_buckets * (at - (c - 1))));
    }

  -- ---- answers
  -- nothing sits below x, and no pattern fits behind
  pub none_found : (at x : ℕ) → mask_buckets * (length t + 1) ≤ x + mask_buckets * shortest b → Clear b t at x → None ≡ found b t at
  none_found at x end clear =
      found_unique b t at None
      (λ o h le.
      let i = id_of o in
      let s = sits i o.start h.here in
      clear.none (mask_buckets * o.start + key_in b i) (omega arith) (omega (arith, h.here.stands.0, shortest_le b i h.here.known)) s)

  module _ (k s : ℕ) where
    -- all of the bucket k were tried in vain
    pub tried : (x : ℕ) → x / mask_buckets ≡ s → x % mask_buckets ≡ k → ((j : ℕ) → j < length (ids_in b k) → OccursAt b t (get_or (ids_in b k) j 0) s → ⊥) → Sits b t x → ⊥
    tried x place bucket none z =
        let at = bucket_all b (key_in b) k z.0 z.1.known (z.2 ∙ bucket) in
        none at.0 at.1 (subst (λ m. OccursAt b t m s) (sym at.2) (subst (OccursAt b t z.0) place z.1))

    -- its id at i is the first that occurs at s, and nothing sits below
    pub hit_found : (at x i : ℕ) → at ≤ s → mask_buckets * s ≤ x → Clear b t at x → i < length (ids_in b k) → OccursAt b t (get_or (ids_in b k) i 0) s
        → ((j : ℕ) → j < i → OccursAt b t (get_or (ids_in b k) j 0) s → ⊥)
        → Some (hit b (get_or (ids_in b k) i 0) s) ≡ found b t at
    hit_found at x i le within clear il here before =
        let ids = ids_in b k in
        let m = get_or ids i 0 in
        let has : (j : ℕ) → OccursAt b t j s → (a : ℕ) × (a < length ids) × (get_or ids a 0 ≡ j) =
        λ j o. bucket_all b (key_in b) k j o.known (shares j m s o here ∙ id_key (key_in b) (order_in b) k i il) in
        let chosen : Chosen b t s (hit b m s) = record { occurs = here; start = refl; end = refl; first = chosen_first b t ids s i has (bucket_preferred b (key_in b) k) before } in
        found_unique b t at (Some (hit b m s))
        (settled b t at s (Some (hit b m s)) le chosen
        (λ j q lo lt o. clear.none (mask_buckets * q + key_in b j) (omega arith) (omega arith) (sits j q o))
        (λ e. absurd (let z : ◌≡◌ {A = ℕ} 0 1 = cc in omega arith)))

pub ruleset trying = (one_more, get_or_default_zero)
