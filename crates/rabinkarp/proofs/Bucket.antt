-- What is found at a place, by the bucket of the hash of its window.
-- first_of b t s ids  the match of the first of the ids whose pattern occurs in t at s
use Rattle.std.proofs.Common.{◌≡◌, ℕ, zero, suc, ◌+◌, ◌%◌, ◌<◌, ◌≤◌, Bool, false, cond, ltb, ◌&&◌, List, [], ◌∷◌, length, get_or, drop, Some, None, Decides, Option, sym, refl, ap, ◌∙◌, subst, inl, inr, arith, below_more}
use Rattle.std.proofs.lemmas.Bool.{cases_Bool, cond-true, cond-false}
use Rattle.std.proofs.lemmas.Bool.Decides.{Decides-ltb, Decides-and, not_from_Decides}
use Rattle.std.proofs.lemmas.Grind.{get_or_default_zero}
use Rattle.std.proofs.lemmas.List.{drop_more, drop_all}
use Rattle.rules.specs.declared.primitives.Match.{Match}
use Rattle.rules.specs.Limits.{hash_buckets}
use Rattle.rules.specs.Book.{Book, count_of, pattern, shortest}
use Rattle.rules.specs.Search.{OccursAt, standing, hit, found_within}
use Rattle.rules.specs.Places.{AnswersAt}
use Rattle.rules.proofs.Rule.{stands_decided}
use Rattle.pattern.specs.Order.{order_in}
use Rattle.finder.proofs.Choosing.{TriedAt, chosen, none}
use Rattle.rabinkarp.specs.Hash.{hash_of, window}
use Rattle.rabinkarp.specs.Buckets.{in_bucket}
use Rattle.rabinkarp.specs.Prefixes.{prefix_hash, hash_bucket, bucket_in}
use Rattle.rabinkarp.proofs.Members.{bucket_known, bucket_all, bucket_preferred}
use Rattle.rabinkarp.proofs.Prefixes.{standing_hash}
use Rattle.rabinkarp.proofs.Found.{answers_here}

-- whether the pattern i occurs in t at s
pub occurring : Book → List ℕ → ℕ → ℕ → Bool
occurring b t s i = ltb i (count_of b) && standing (pattern b i) t s

abbrev pub first_of : Book → List ℕ → ℕ → List ℕ → Option Match
first_of b t s [] = None
first_of b t s (i ∷ ids) = cond (occurring b t s i) (Some (hit b i s)) (first_of b t s ids)

occurs_decided : (b : Book) (t : List ℕ) (s i : ℕ) → Decides (occurring b t s i) (OccursAt b t i s)
unfolding occurring
occurs_decided b t s i =
    let stands = stands_decided (pattern b i) t s in
    let both = Decides-and (ltb i (count_of b)) (standing (pattern b i) t s) (Decides-ltb i (count_of b)) stands in
    (λ e. let h = both.0 e in record { known = h.0; stands = h.1 }, λ o. both.1 (o.known, o.stands))

module _ (b : Book) (t : List ℕ) (s : ℕ) (ids : List ℕ) where
  pub first_occurs : (i : ℕ) → i < length ids → OccursAt b t (get_or ids i 0) s → first_of b t s (drop i ids) ≡ Some (hit b (get_or ids i 0) s)
  first_occurs i l o =
      let id = get_or ids i 0 in
      ap (first_of b t s) (drop_more ids i 0 l) ∙ cond-true (occurring b t s id) (Some (hit b id s)) (first_of b t s (drop (i + 1) ids)) ((occurs_decided b t s id).1 o)

  passes : (i : ℕ) → i < length ids → occurring b t s (get_or ids i 0) ≡ false → first_of b t s (drop i ids) ≡ first_of b t s (drop (i + 1) ids)
  passes i l e =
      let id = get_or ids i 0 in
      ap (first_of b t s) (drop_more ids i 0 l) ∙ cond-false (occurring b t s id) (Some (hit b id s)) (first_of b t s (drop (i + 1) ids)) e

  pub first_passes : (i : ℕ) → i < length ids → (OccursAt b t (get_or ids i 0) s → ⊥) → first_of b t s (drop i ids) ≡ first_of b t s (drop (i + 1) ids)
  first_passes i l absent =
      let test = occurs_decided b t s (get_or ids i 0) in
      elim (cases_Bool (occurring b t s (get_or ids i 0))) [
        | inl e ↦ absurd (absent (test.0 e))
        | inr e ↦ passes i l e
      ]

  pub first_end : (i : ℕ) → length ids ≤ i → first_of b t s (drop i ids) ≡ None
  first_end i le = ap (first_of b t s) (drop_all i ids le)

  module _ (tried : TriedAt b t s ids) where
    from : (n i : ℕ) → i + n ≡ length ids → ((j : ℕ) → j < i → OccursAt b t (get_or ids j 0) s → ⊥) → AnswersAt b t s (first_of b t s (drop i ids))
    from zero i long before = subst (AnswersAt b t s) (sym (first_end i (omega arith))) (none tried (λ j l. before j (omega arith)))
    from (suc n) i long before =
        let id = get_or ids i 0 in
        let l : i < length ids = omega arith in
        let test = occurs_decided b t s id in
        elim (cases_Bool (occurring b t s id)) [
          | inl e ↦ subst (AnswersAt b t s) (sym (first_occurs i l (test.0 e))) (chosen tried i id refl (test.0 e) before (hit b id s) refl)
          | inr e ↦ subst (AnswersAt b t s) (sym (passes i l e)) (from n (i + 1) (omega arith) (below_more (λ j. OccursAt b t (get_or ids j 0) s → ⊥) i before (not_from_Decides (occurring b t s id) test e)))
        ]

    -- the first that occurs is the answer
    first_answers : AnswersAt b t s (first_of b t s ids)
    first_answers = from (length ids) 0 (omega arith) (λ j l. absurd (omega arith))

pub found_in_bucket : (b : Book) (t : List ℕ) (s : ℕ) → s ≤ length t → found_within b t 1 s ≡ first_of b t s (bucket_in b (hash_of (window t (shortest b) s) % hash_buckets))
unfolding bucket_in
found_in_bucket b t s le =
    let h = hash_of (window t (shortest b) s) in
    let ids = in_bucket (hash_bucket b) (order_in b) (h % hash_buckets) in
    answers_here b t s le (first_of b t s ids) (first_answers b t s ids record {
      all = λ j o. bucket_all b (hash_bucket b) (h % hash_buckets) j o.known (ap (λ n. n % hash_buckets) (standing_hash b t j s o.known o.stands));
      preferred = bucket_preferred b (hash_bucket b) (h % hash_buckets);
    })

-- a pattern with another hash does not occur there
pub other_hash : (b : Book) (t : List ℕ) (s : ℕ) (ids : List ℕ) (i : ℕ) → i < length ids → (prefix_hash b (get_or ids i 0) ≡ hash_of (window t (shortest b) s) → ⊥) → first_of b t s (drop i ids) ≡ first_of b t s (drop (i + 1) ids)
other_hash b t s ids i l ne = first_passes b t s ids i l (λ o. ne (standing_hash b t (get_or ids i 0) s o.known o.stands))

-- the ids of a bucket are known
pub known_in : (b : Book) (k i : ℕ) → i < length (bucket_in b k) → get_or (bucket_in b k) i 0 < count_of b
unfolding bucket_in
known_in b k = bucket_known b (hash_bucket b) k

pub ruleset first_in_bucket = (found_in_bucket, first_occurs, first_passes, other_hash, known_in, get_or_default_zero)
