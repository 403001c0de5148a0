-- The longest order that the specs define is one.
use Rattle.std.proofs.Common.{◌≡◌, ℕ, zero, suc, ◌+◌, ◌<◌, ◌≤◌, cond, leb, List, [], ◌∷◌, ◌++◌, All, length, get_or, take, refl, sym, ap, ◌∙◌, subst, inl, inr, arith}
use Rattle.std.specs.List.{insert}
use Rattle.std.proofs.lemmas.Bool.{cases_lt, cond-true, cond-false, le-leb, lt-leb}
use Rattle.std.proofs.lemmas.List.{take_more, take_all, length_push}
use Rattle.std.proofs.lemmas.List.Elements.{All-nil, All-cons, All-head, All-tail, All-weaker, All-get_or}
use Rattle.rules.specs.Book.{Book, count_of, pattern, size}
use Rattle.rules.specs.Entered.{enter}
use Rattle.pattern.specs.Order.{inserted, longest_to, LongestOrder}
use Rattle.pattern.proofs.Entering.{size_old, size_new, entered_order}

-- an id goes behind the first ids, where these are at least as long and the others shorter
pub inserted_at : (b : Book) (n : ℕ) (ids : List ℕ) (at : ℕ) → at ≤ length ids → ((k : ℕ) → k < at → size b n ≤ size b (get_or ids k 0)) → ((k : ℕ) → at ≤ k → k < length ids → size b (get_or ids k 0) < size b n) → inserted b n ids ≡ insert ids at n
inserted_at b n [] zero le longer shorter = refl
inserted_at b n [] (suc at) le longer shorter = absurd (omega (arith, le))
inserted_at b n (i ∷ ids) zero le longer shorter = cond-false {A = List ℕ} (leb (size b n) (size b i)) _ _ (lt-leb (size b n) (size b i) (shorter 0 (omega arith) (omega arith)))
inserted_at b n (i ∷ ids) (suc at) le longer shorter =
    cond-true {A = List ℕ} (leb (size b n) (size b i)) _ _ (le-leb (size b n) (size b i) (longer 0 (omega arith)))
    ∙ ap (λ is. i ∷ is) (inserted_at b n ids at (omega (arith, le)) (λ k h. longer (suc k) (omega (arith, h))) (λ k h m. shorter (suc k) (omega (arith, h)) (omega (arith, m))))

-- where that is, in ids by falling length, for a pattern of l bytes
record Point (b : Book) (l : ℕ) (ids : List ℕ) : Type 0 where
  at : ℕ
  bound : at ≤ length ids
  longer : (k : ℕ) → k < at → l ≤ size b (get_or ids k 0)
  shorter : (k : ℕ) → at ≤ k → k < length ids → size b (get_or ids k 0) < l

point : (b : Book) (l : ℕ) (ids : List ℕ) → ((i j : ℕ) → i < j → j < length ids → size b (get_or ids j 0) ≤ size b (get_or ids i 0)) → Point b l ids
point b l [] falling = record { at = 0; bound = omega arith; longer = λ k h. absurd (omega (arith, h)); shorter = λ k h m. absurd (omega (arith, m)) }
point b l (i ∷ ids) falling = elim (cases_lt (size b i) l) [
  | inl lt ↦ record { at = 0; bound = omega arith; longer = λ k h. absurd (omega (arith, h)); shorter = λ k h m. all_shorter lt k m }
  | inr le ↦
      let p = point b l ids (λ k j h m. falling (suc k) (suc j) (omega (arith, h)) (omega (arith, m))) in
      record { at = suc p.at; bound = omega (arith, p.bound); longer = λ k h. longer_cons p.at le p.longer k h; shorter = λ k h m. shorter_cons p.at p.shorter k h m }
]
  where
    all_shorter : size b i < l → (k : ℕ) → k < length (i ∷ ids) → size b (get_or (i ∷ ids) k 0) < l
    all_shorter lt zero m = lt
    all_shorter lt (suc k) m = omega (arith, lt, falling 0 (suc k) (omega arith) m)

    longer_cons : (at : ℕ) → l ≤ size b i → ((k : ℕ) → k < at → l ≤ size b (get_or ids k 0)) → (k : ℕ) → k < suc at → l ≤ size b (get_or (i ∷ ids) k 0)
    longer_cons at le h zero m = le
    longer_cons at le h (suc k) m = h k (omega (arith, m))

    shorter_cons : (at : ℕ) → ((k : ℕ) → at ≤ k → k < length ids → size b (get_or ids k 0) < l) → (k : ℕ) → suc at ≤ k → k < length (i ∷ ids) → size b (get_or (i ∷ ids) k 0) < l
    shorter_cons at h zero g m = absurd (omega (arith, g))
    shorter_cons at h (suc k) g m = h k (omega (arith, g)) (omega (arith, m))

-- only the sizes of the ids count
inserted_all : (P : ℕ → Type 0) (b : Book) (n : ℕ) (ids : List ℕ) → P n → All P ids → All P (inserted b n ids)
inserted_all P b n [] here all = All-cons P n [] here (All-nil P)
inserted_all P b n (i ∷ ids) here all = elim (cases_lt (size b i) (size b n)) [
  | inl lt ↦ subst (All P) (sym (cond-false {A = List ℕ} (leb (size b n) (size b i)) _ _ (lt-leb (size b n) (size b i) lt))) (All-cons P n (i ∷ ids) here all)
  | inr le ↦ subst (All P) (sym (cond-true {A = List ℕ} (leb (size b n) (size b i)) _ _ (le-leb (size b n) (size b i) le))) (All-cons P i (inserted b n ids) (All-head P i ids all) (inserted_all P b n ids here (All-tail P i ids all)))
]

below : (b : Book) (n : ℕ) → All (λ i. i < n) (longest_to b n)
below b zero = All-nil (λ i. i < 0)
below b (suc n) = inserted_all (λ i. i < suc n) b n (longest_to b n) (omega arith) (All-weaker (λ i. i < n) (λ i. i < suc n) (λ i h. omega (arith, h)) (longest_to b n) (below b n))

inserted_same : (b c : Book) (n : ℕ) (ids : List ℕ) → size c n ≡ size b n → All (λ i. size c i ≡ size b i) ids → inserted c n ids ≡ inserted b n ids
inserted_same b c n [] e all = refl
inserted_same b c n (i ∷ ids) e all =
    let here = All-head (λ i. size c i ≡ size b i) i ids all in
    let rest = inserted_same b c n ids e (All-tail (λ i. size c i ≡ size b i) i ids all) in
    (λ x. cond (leb (e x) (here x)) (i ∷ rest x) (n ∷ i ∷ ids))

pub longest_same : (b c : Book) (n : ℕ) → ((k : ℕ) → k < n → size c k ≡ size b k) → longest_to c n ≡ longest_to b n
longest_same b c zero same = refl
longest_same b c (suc n) same =
    ap (inserted c n) (longest_same b c n (λ k h. same k (omega (arith, h))))
    ∙ inserted_same b c n (longest_to b n) (same n (omega arith)) (All-weaker (λ i. i < n) (λ i. size c i ≡ size b i) (λ i h. same i (omega (arith, h))) (longest_to b n) (below b n))

-- one pattern more goes to that place
pub longest_enter : (b : Book) (p : List ℕ) (at : ℕ) → at ≤ length (longest_to b (count_of b)) → ((k : ℕ) → k < at → length p ≤ size b (get_or (longest_to b (count_of b)) k 0)) → ((k : ℕ) → at ≤ k → k < length (longest_to b (count_of b)) → size b (get_or (longest_to b (count_of b)) k 0) < length p)
    → longest_to (enter b p) (count_of (enter b p)) ≡ insert (longest_to b (count_of b)) at (count_of b)
longest_enter b p at le longer shorter =
    let n = count_of b in
    let ids = longest_to b n in
    let c = enter b p in
    let more : count_of c ≡ suc n = omega (arith, length_push b.patterns p) in
    let old : (k : ℕ) → k < length ids → size c (get_or ids k 0) ≡ size b (get_or ids k 0) = λ k h. size_old b p (get_or ids k 0) (All-get_or (λ i. i < n) ids k 0 h (below b n)) in
    ap (longest_to c) more
    ∙ ap (inserted c n) (longest_same b c n (size_old b p))
    ∙ inserted_at c n ids at le (λ k h. omega (arith, longer k h, size_new b p, old k (omega (arith, le)))) (λ k h l. omega (arith, shorter k h l, size_new b p, old k l))

abbrev Ordered : Book → Type 0
Ordered b = LongestOrder b (longest_to b (count_of b))

next : (b : Book) (p : List ℕ) → Ordered b → Ordered (enter b p)
next b p o =
    let ids = longest_to b (count_of b) in
    let at = point b (length p) ids o.falling in
    subst (LongestOrder (enter b p)) (sym (longest_enter b p at.at at.bound at.longer at.shorter)) (entered_order b ids p at.at o at.bound at.longer at.shorter)

-- the book of the first n patterns
abbrev firsts : Book → ℕ → Book
firsts b n = record { kind = b.kind; patterns = take n b.patterns }

firsts_order : (b : Book) (n : ℕ) → n ≤ count_of b → Ordered (firsts b n)
firsts_order b zero le = record {
  long = refl;
  known = λ k h. absurd (omega (arith, h));
  once = λ k h. absurd (omega (arith, h));
  falling = λ i j lt h. absurd (omega (arith, h));
  rising = λ i j h. absurd (omega (arith, h.1));
}
firsts_order b (suc n) le =
    let more : take (suc n) b.patterns ≡ take n b.patterns ++ pattern b n ∷ [] = (let e : suc n ≡ n + 1 = omega arith in ap (λ k. take k b.patterns) e) ∙ take_more b.patterns n [] (omega (arith, le)) in
    subst Ordered (λ i. record { kind = b.kind; patterns = sym more i }) (next (firsts b n) (pattern b n) (firsts_order b n (omega (arith, le))))

pub longest_order : (b : Book) → LongestOrder b (longest_to b (count_of b))
longest_order b = subst Ordered (λ i. record { kind = b.kind; patterns = take_all (count_of b) b.patterns (omega arith) i }) (firsts_order b (count_of b) (omega arith))
