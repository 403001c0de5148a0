-- The ids while the buckets are filled, one after another.
-- below key order n      the ids of the buckets below n
-- filled keys order b i  the ids while the bucket b is filled, once the first i of the order were looked at
use Rattle.std.proofs.Common.{◌≡◌, ℕ, zero, suc, ◌+◌, ◌%◌, ◌<◌, ◌≤◌, Bool, cond, eqb, ltb, List, [], ◌∷◌, ◌++◌, length, get_or, take, count_by, sym, refl, ap, ◌∙◌, append_assoc, add-one, arith, length-append}
use Rattle.std.proofs.lemmas.List.Sums.{sum_by-cons, sum_by-take-le, length-filter, count_by-le-length, count_by_more_yes}
use Rattle.std.proofs.lemmas.Bool.Decides.{nat_tests}
use Rattle.std.proofs.lemmas.List.Elements.{filter_more}
use Rattle.std.proofs.lemmas.List.{append-nil, take_all}
use Rattle.std.proofs.lemmas.Bool.{eq-eqb, ne_eqb, cond-true, cond-false}
use Rattle.rules.specs.Limits.{hash_buckets}
use Rattle.rabinkarp.specs.Buckets.{in_bucket}

unfoldable pub below : (ℕ → ℕ) → List ℕ → ℕ → List ℕ
below key order zero = []
below key order (suc k) = below key order k ++ in_bucket key order k

one_split : (k b : ℕ) → cond (ltb k (suc b)) 1 0 ≡ cond (ltb k b) 1 0 + cond (eqb k b) 1 0
one_split k b = grind (arith, nat_tests)

module _ (key : ℕ → ℕ) where
  count_split : (b : ℕ) (xs : List ℕ) → count_by (λ x. ltb (key x) (suc b)) xs ≡ count_by (λ x. ltb (key x) b) xs + count_by (λ x. eqb (key x) b) xs
  count_split b [] = refl
  count_split b (x ∷ xs) =
      omega (arith, sum_by-cons (λ y. cond (ltb (key y) (suc b)) 1 0) x xs, sum_by-cons (λ y. cond (ltb (key y) b) 1 0) x xs, sum_by-cons (λ y. cond (eqb (key y) b) 1 0) x xs, count_split b xs, one_split (key x) b)

  count_none : (xs : List ℕ) → count_by (λ x. ltb (key x) 0) xs ≡ 0
  count_none [] = refl
  count_none (x ∷ xs) = let z : ◌≡◌ {A = ℕ} (cond (ltb (key x) 0) 1 0) 0 = grind (arith, nat_tests) in omega (arith, sum_by-cons (λ y. cond (ltb (key y) 0) 1 0) x xs, count_none xs, z)

  length-below : (order : List ℕ) (b : ℕ) → length (below key order b) ≡ count_by (λ x. ltb (key x) b) order
  unfolding below
  length-below order zero = sym (count_none order)
  length-below order (suc b) = omega (arith, length-append (below key order b) (in_bucket key order b), length-below order b, length-filter (λ x. eqb (key x) b) order, count_split b order)

  room : (order : List ℕ) (b i : ℕ) → i < length order → key (get_or order i 0) ≡ b → length (below key order b) + length (in_bucket key (take i order) b) < length order
  room order b i il e =
      let p : ℕ → Bool = λ x. eqb (key x) b in
      omega (arith, length-below order b, length-filter p (take i order), count_by_more_yes p order i 0 il (eq-eqb (key (get_or order i 0)) b e), sum_by-take-le (λ x. cond (eqb (key x) b) 1 0) order (i + 1), count_split b order, count_by-le-length (λ x. ltb (key x) (suc b)) order)

pub below_next : (key : ℕ → ℕ) (order : List ℕ) (b : ℕ) → below key order (b + 1) ≡ below key order b ++ in_bucket key order b
unfolding below
below_next key order b = rw (add-one)

-- the bucket of an id by its key
abbrev pub key_of : List ℕ → ℕ → ℕ
key_of keys id = get_or keys id 0 % hash_buckets

unfoldable pub filled : List ℕ → List ℕ → ℕ → ℕ → List ℕ
filled keys order b i = below (key_of keys) order b ++ in_bucket (key_of keys) (take i order) b

module _ (keys order : List ℕ) where
  pub filled_below : (b : ℕ) → filled keys order b 0 ≡ below (key_of keys) order b
  unfolding filled
  filled_below b = append-nil (below (key_of keys) order b)

  pub filled_first : filled keys order 0 0 ≡ []
  unfolding filled below
  filled_first = refl

  pub filled_with : (b i : ℕ) → i < length order → get_or keys (get_or order i 0) 0 % hash_buckets ≡ b → filled keys order b (i + 1) ≡ filled keys order b i ++ get_or order i 0 ∷ []
  unfolding filled
  filled_with b i l e =
      let id = get_or order i 0 in
      let one : in_bucket (key_of keys) (take (i + 1) order) b ≡ in_bucket (key_of keys) (take i order) b ++ id ∷ [] =
      filter_more (λ y. eqb (key_of keys y) b) order i 0 l ∙ ap (λ q. in_bucket (key_of keys) (take i order) b ++ q) (cond-true (eqb (key_of keys id) b) (id ∷ []) [] (eq-eqb (key_of keys id) b e)) in
      ap (λ q. below (key_of keys) order b ++ q) one ∙ sym (append_assoc (below (key_of keys) order b) (in_bucket (key_of keys) (take i order) b) (id ∷ []))

  pub filled_without : (b i : ℕ) → i < length order → (get_or keys (get_or order i 0) 0 % hash_buckets ≡ b → ⊥) → filled keys order b (i + 1) ≡ filled keys order b i
  unfolding filled
  filled_without b i l ne =
      let id = get_or order i 0 in
      let same : in_bucket (key_of keys) (take (i + 1) order) b ≡ in_bucket (key_of keys) (take i order) b =
      filter_more (λ y. eqb (key_of keys y) b) order i 0 l ∙ (ap (λ q. in_bucket (key_of keys) (take i order) b ++ q) (cond-false (eqb (key_of keys id) b) (id ∷ []) [] (ne_eqb (key_of keys id) b ne)) ∙ append-nil (in_bucket (key_of keys) (take i order) b)) in
      ap (λ q. below (key_of keys) order b ++ q) same

  -- a bucket that has looked at all is done
  pub filled_next : (b i : ℕ) → length order ≤ i → filled keys order b i ≡ filled keys order (b + 1) 0
  unfolding filled
  filled_next b i le = ap (λ q. below (key_of keys) order b ++ in_bucket (key_of keys) q b) (take_all i order le) ∙ (sym (below_next (key_of keys) order b) ∙ sym (append-nil (below (key_of keys) order (b + 1))))

  -- the buckets have no more ids than the order
  pub filled_few : (b : ℕ) → length (filled keys order b 0) ≤ length order
  filled_few b = let key = key_of keys in omega (arith, ap length (filled_below b), length-below key order b, count_by-le-length (λ x. ltb (key x) b) order)

  -- while one of a bucket is still to come there is room
  pub filled_room : (b i : ℕ) → i < length order → get_or keys (get_or order i 0) 0 % hash_buckets ≡ b → length (filled keys order b i) < length order
  unfolding filled
  filled_room b i l e = omega (arith, length-append (below (key_of keys) order b) (in_bucket (key_of keys) (take i order) b), room (key_of keys) order b i l e)
