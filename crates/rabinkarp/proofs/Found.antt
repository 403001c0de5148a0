-- A search from a place on, by what is found at that place and what is found behind it.
use Rattle.std.proofs.Common.{◌≡◌, ℕ, suc, ◌+◌, ◌-◌, ◌<◌, ◌≤◌, true, List, length, is_some, Some, None, Option, refl, sym, ap, ◌∙◌, subst, arith}
use Rattle.std.proofs.lemmas.Grind.{common_steps}
use Rattle.rules.specs.declared.primitives.Match.{Match}
use Rattle.rules.specs.Book.{Book, count_of, shortest}
use Rattle.rules.specs.Search.{id_of, Answers, choice, hit_or, found_within, found}
use Rattle.rules.specs.Places.{AnswersAt}
use Rattle.rules.proofs.Rule.{found_answers, found_unique}
use Rattle.finder.proofs.Places.{passed_found}
use Rattle.pattern.proofs.Shortest.{shortest_le, shortest_pos}
use Rattle.rabinkarp.proofs.Windows.{rolling}

module _ (b : Book) (s : ℕ) where
  hit-or_other : (i : Option ℕ) (other : Option Match) → is_some (hit_or b s i None) ≡ true → hit_or b s i other ≡ hit_or b s i None
  hit-or_other None other e = absurd (cc)
  hit-or_other (Some i) other e = refl

  no_hit : (i : Option ℕ) (other : Option Match) → hit_or b s i None ≡ None → hit_or b s i other ≡ other
  no_hit None other e = refl
  no_hit (Some i) other e = absurd (cc)

module _ (b : Book) (t : List ℕ) (s : ℕ) where
  here : found_within b t 1 s ≡ hit_or b s (choice b t s (count_of b)) None
  unfolding found_within
  here = refl

  both : s ≤ length t → found b t s ≡ hit_or b s (choice b t s (count_of b)) (found b t (s + 1))
  unfolding found found_within
  both le =
      ap (λ n. found_within b t n s) (let e : length t + 1 - s ≡ suc (length t - s) = omega arith in e)
      ∙ ap (λ n. hit_or b s (choice b t s (count_of b)) (found_within b t n (s + 1))) (let e : length t - s ≡ length t + 1 - (s + 1) = omega arith in e)

  pub found_here : s ≤ length t → is_some (found_within b t 1 s) ≡ true → found b t s ≡ found_within b t 1 s
  found_here le e = both le ∙ (hit-or_other b s (choice b t s (count_of b)) (found b t (s + 1)) (sym (ap (λ r. is_some r) here) ∙ e) ∙ sym here)

  pub found_behind : s ≤ length t → found_within b t 1 s ≡ None → found b t s ≡ found b t (s + 1)
  found_behind le e = both le ∙ no_hit b s (choice b t s (count_of b)) (found b t (s + 1)) (sym here ∙ e)

  -- where no pattern has room
  pub found_short : length t < s + shortest b → found b t s ≡ None
  found_short l = sym (found_unique b t s None (λ o h le. omega (arith, shortest_le b (id_of o) h.here.known, h.here.stands.0)))

module _ (b : Book) (t : List ℕ) (s : ℕ) (le : s ≤ length t) where
  whole : (i : Option ℕ) → found b t s ≡ hit_or b s i (found b t (s + 1)) → (r : Option Match) → AnswersAt b t s r → hit_or b s i None ≡ r
  whole None e None h = refl
  whole (Some i) e None h = absurd (h i (subst (Answers b t s) e (found_answers b t s)).0.here)
  whole None e (Some m) h =
      let is : Some m ≡ found b t s = passed_found b t s s m record { begun = omega arith; none = λ i k a z o. omega arith } h in
      let later : Answers b t (s + 1) (Some m) = subst (Answers b t (s + 1)) (sym (is ∙ e)) (found_answers b t (s + 1)) in
      absurd (omega (arith, later.1, h.start))
  whole (Some i) e (Some m) h = sym e ∙ sym (passed_found b t s s m record { begun = omega arith; none = λ i k a z o. omega arith } h)

  -- what is to be answered at the one place is found there
  pub answers_here : (r : Option Match) → AnswersAt b t s r → found_within b t 1 s ≡ r
  answers_here r h = here b t s ∙ whole (choice b t s (count_of b)) (both b t s le) r h

-- the last place at which the shortest pattern has room
pub found_last : (b : Book) (t : List ℕ) (s : ℕ) → s + shortest b ≡ length t → found b t s ≡ found_within b t 1 s
found_last b t s e = both b t s (omega arith) ∙ (ap (hit_or b s (choice b t s (count_of b))) (found_short b t (s + 1) (omega arith)) ∙ sym (here b t s))

pub ruleset place_by_place = (found_here, found_behind, found_short, found_last, shortest_pos, rolling, common_steps)
