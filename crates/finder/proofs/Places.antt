-- A search that goes place by place.
use Rattle.std.proofs.Common.{◌≡◌, ℕ, ◌+◌, ◌<◌, ◌≤◌, List, length, Some, None, subst, inl, inr, arith}
use Rattle.std.proofs.lemmas.Bool.{cases_lt}
use Rattle.rules.specs.declared.primitives.Match.{Match}
use Rattle.rules.specs.Book.{Book, Within, count_of}
use Rattle.rules.specs.Search.{id_of, OccursAt, found}
use Rattle.rules.specs.Places.{Chosen, AnswersAt}
use Rattle.rules.proofs.Rule.{settled, behind, found_answers, found_unique}

-- from the place at on, nothing occurs before the place s
pub record Passed (b : Book) (t : List ℕ) (at s : ℕ) : Type 0 where
  pub begun : at ≤ s
  pub none : (i k : ℕ) → at ≤ k → k < s → OccursAt b t i k → ⊥

pub passed_more : (b : Book) (t : List ℕ) (at s : ℕ) → Passed b t at s → AnswersAt b t s None → Passed b t at (s + 1)
passed_more b t at s p here = record {
  begun = omega (arith, p.begun);
  none = λ i k le lt o. elim (cases_lt k s) [
    | inl l ↦ p.none i k le l o
    | inr g ↦ here i (subst (OccursAt b t i) (let e : k ≡ s = omega arith in e) o)
  ];
}

-- the first place where something is found has the answer
pub passed_found : (b : Book) (t : List ℕ) (at s : ℕ) (m : Match) → Passed b t at s → Chosen b t s m → Some m ≡ found b t at
passed_found b t at s m p here = found_unique b t at (Some m) (settled b t at s (Some m) p.begun here p.none (λ e. absurd (cc)))

-- where a pattern stands, a search from that place on finds the preferred one
pub found_here : (b : Book) (t : List ℕ) (s : ℕ) (m : Match) → Chosen b t s m → Some m ≡ found b t s
found_here b t s m here = found_unique b t s (Some m) (settled b t s s (Some m) (omega arith) here (λ i k le lt. absurd (omega arith)) (λ e. absurd (cc)))

-- where none stands, it finds what a search from the next place on does
pub found_next : (b : Book) (t : List ℕ) (s : ℕ) → AnswersAt b t s None → found b t (s + 1) ≡ found b t s
found_next b t s none = found_unique b t s (found b t (s + 1)) (behind b t s (found b t (s + 1)) none (found_answers b t (s + 1)))

-- from the end of the text on, it finds none
pub found_end : (b : Book) (t : List ℕ) (s : ℕ) → Within b → length t ≤ s → None ≡ found b t s
found_end b t s w end = found_unique b t s None (λ o h le. let some = w.some (id_of o) h.here.known in omega (arith, h.here.stands.0))

-- a book without patterns finds nothing
pub found_empty : (b : Book) (t : List ℕ) (at : ℕ) → count_of b ≡ 0 → None ≡ found b t at
found_empty b t at e = found_unique b t at None (λ o h le. omega (arith, e, h.here.known))
