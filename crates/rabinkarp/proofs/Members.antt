-- What a bucket of a book has: ids of the book, each whose key it is, a preferred one before the others.
use Rattle.std.proofs.Common.{◌≡◌, ℕ, zero, suc, ◌%◌, ◌<◌, Bool, true, cond, eqb, List, [], ◌∷◌, length, get_or, filter, sym, refl, ap, ◌∙◌, subst, inl, inr, arith}
use Rattle.std.specs.List.{AllByRecursion}
use Rattle.std.proofs.ByRecursion.{All-get_or, All-from_get_or, all_kept_by}
use Rattle.std.proofs.lemmas.Bool.{cases_Bool, eq-eqb, cond-true, cond-false}
use Rattle.rules.specs.Limits.{hash_buckets}
use Rattle.rules.specs.Book.{Book, count_of, Preferred}
use Rattle.pattern.specs.Order.{order_in}
use Rattle.pattern.proofs.Trying.{reading_order}
use Rattle.rabinkarp.specs.Buckets.{in_bucket}
use Rattle.rabinkarp.specs.Prefixes.{prefix_hash, hash_bucket, bucket_in}

-- what a filter keeps is in the order of the whole
Pairs : (ℕ → ℕ → Type 0) → List ℕ → Type 0
Pairs R xs = (i j : ℕ) → i < j → j < length xs → R (get_or xs i 0) (get_or xs j 0)

pairs-cons : (R : ℕ → ℕ → Type 0) (x : ℕ) (ys : List ℕ) → AllByRecursion (R x) ys → Pairs R ys → Pairs R (x ∷ ys)
unfolding Pairs
pairs-cons R x ys a h zero zero lt l = absurd (omega arith)
pairs-cons R x ys a h zero (suc j) lt l = All-get_or (R x) ys j 0 (omega arith) a
pairs-cons R x ys a h (suc i) zero lt l = absurd (omega arith)
pairs-cons R x ys a h (suc i) (suc j) lt l = h i j (omega arith) (omega arith)

pairs_kept : (R : ℕ → ℕ → Type 0) (p : ℕ → Bool) (xs : List ℕ) → Pairs R xs → Pairs R (filter p xs)
unfolding Pairs
pairs_kept R p [] h = λ i j lt l. absurd (omega arith)
pairs_kept R p (x ∷ xs) h =
    let rest = pairs_kept R p xs (λ i j lt l. h (suc i) (suc j) (omega arith) (omega arith)) in
    let all = all_kept_by p (R x) xs (All-from_get_or (R x) xs 0 (λ k kl. h 0 (suc k) (omega arith) (omega arith))) in
    elim (cases_Bool (p x)) [
      | inl e ↦ subst (Pairs R) (sym (cond-true (p x) (x ∷ filter p xs) (filter p xs) e)) (pairs-cons R x (filter p xs) all rest)
      | inr e ↦ subst (Pairs R) (sym (cond-false (p x) (x ∷ filter p xs) (filter p xs) e)) rest
    ]

-- and it has each one that passes
has_kept : (p : ℕ → Bool) (xs : List ℕ) (j : ℕ) → j < length xs → p (get_or xs j 0) ≡ true → (k : ℕ) × (k < length (filter p xs)) × (get_or (filter p xs) k 0 ≡ get_or xs j 0)
has_kept p [] j l e = absurd (omega arith)
has_kept p (x ∷ xs) zero l e =
    let q = cond-true (p x) (x ∷ filter p xs) (filter p xs) e in
    (0, omega (arith, ap length q), ap (λ ys. get_or ys 0 0) q)
has_kept p (x ∷ xs) (suc j) l e =
    let r = has_kept p xs j (omega arith) e in
    elim (cases_Bool (p x)) [
      | inl t ↦
          let q = cond-true (p x) (x ∷ filter p xs) (filter p xs) t in
          (suc r.0, omega (arith, ap length q, r.1), ap (λ ys. get_or ys (suc r.0) 0) q ∙ r.2)
      | inr f ↦
          let q = cond-false (p x) (x ∷ filter p xs) (filter p xs) f in
          (r.0, omega (arith, ap length q, r.1), ap (λ ys. get_or ys r.0 0) q ∙ r.2)
    ]

-- equal keys keep equal ids
same_kept : (f g : ℕ → ℕ) (k : ℕ) (xs : List ℕ) → ((i : ℕ) → i < length xs → f (get_or xs i 0) ≡ g (get_or xs i 0)) → in_bucket f xs k ≡ in_bucket g xs k
same_kept f g k [] h = refl
same_kept f g k (x ∷ xs) h =
    ap (λ n. cond (eqb n k) (x ∷ in_bucket f xs k) (in_bucket f xs k)) (h 0 (omega arith))
    ∙ ap (λ q. cond (eqb (g x) k) (x ∷ q) q) (same_kept f g k xs (λ i l. h (suc i) (omega arith)))

module _ (b : Book) (key : ℕ → ℕ) (k : ℕ) where
  pub bucket_known : (i : ℕ) → i < length (in_bucket key (order_in b) k) → get_or (in_bucket key (order_in b) k) i 0 < count_of b
  bucket_known i l =
      let known : ℕ → Type 0 = λ id. id < count_of b in
      All-get_or known (in_bucket key (order_in b) k) i 0 l (all_kept_by (λ id. eqb (key id) k) known (order_in b) (All-from_get_or known (order_in b) 0 (reading_order b).known))

  pub bucket_all : (id : ℕ) → id < count_of b → key id ≡ k → (i : ℕ) × (i < length (in_bucket key (order_in b) k)) × (get_or (in_bucket key (order_in b) k) i 0 ≡ id)
  bucket_all id l e =
      let at = (reading_order b).all id l in
      let r = has_kept (λ x. eqb (key x) k) (order_in b) at.0 at.1 (eq-eqb (key (get_or (order_in b) at.0 0)) k (ap key at.2 ∙ e)) in
      (r.0, r.1, r.2 ∙ at.2)

  pub bucket_preferred : (i j : ℕ) → i < j → j < length (in_bucket key (order_in b) k) → Preferred b (get_or (in_bucket key (order_in b) k) i 0) (get_or (in_bucket key (order_in b) k) j 0)
  unfolding Pairs
  bucket_preferred = pairs_kept (Preferred b) (λ id. eqb (key id) k) (order_in b) (reading_order b).preferred

  pub bucket_same : (other : ℕ → ℕ) → ((id : ℕ) → id < count_of b → key id ≡ other id) → in_bucket key (order_in b) k ≡ in_bucket other (order_in b) k
  bucket_same other h = same_kept key other k (order_in b) (λ i l. h (get_or (order_in b) i 0) ((reading_order b).known i l))

-- the buckets by the hashes
pub placed_by : (b : Book) (hs : List ℕ) (k : ℕ) → ((i : ℕ) → i < count_of b → get_or hs i 0 ≡ prefix_hash b i) → in_bucket (λ i. get_or hs i 0 % hash_buckets) (order_in b) k ≡ bucket_in b k
unfolding bucket_in
placed_by b hs k hashed = bucket_same b (λ i. get_or hs i 0 % hash_buckets) k (hash_bucket b) (λ i known. ap (λ n. n % hash_buckets) (hashed i known))
