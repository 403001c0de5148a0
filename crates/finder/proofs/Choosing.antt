-- The first pattern in the order of trying that occurs at a place is the preferred one.
use Rattle.std.proofs.Common.{◌≡◌, ℕ, ◌<◌, List, length, get_or, refl, sym, ap, ◌∙◌, subst, inl, inr}
use Rattle.std.proofs.lemmas.Bool.{cases_order}
use Rattle.std.proofs.lemmas.List.{get_or_default}
use Rattle.rules.specs.declared.primitives.Match.{Match}
use Rattle.rules.specs.Book.{Book, Preferred}
use Rattle.rules.specs.Search.{OccursAt, hit}
use Rattle.rules.specs.Places.{Chosen}
use Rattle.rules.proofs.Rule.{preferred_self}

-- an id that is read at a place of a list, in an equal list
pub read : {xs ids : List ℕ} {i x : ℕ} → x ≡ get_or xs i x → i < length xs → xs ≡ ids → x ≡ get_or ids i 0
read {xs} {ids} {i} {x} is l e = is ∙ (get_or_default xs i x 0 l ∙ ap (λ q. get_or q i 0) e)

-- an order in which a preferred id stands before the others, and that has each id that can occur at a place
pub chosen_first : (b : Book) (t ids : List ℕ) (s i : ℕ) → ((j : ℕ) → OccursAt b t j s → (k : ℕ) × (k < length ids) × (get_or ids k 0 ≡ j)) → ((k j : ℕ) → k < j → j < length ids → Preferred b (get_or ids k 0) (get_or ids j 0)) → ((j : ℕ) → j < i → OccursAt b t (get_or ids j 0) s → ⊥) → (j : ℕ) → OccursAt b t j s → Preferred b (get_or ids i 0) j
chosen_first b t ids s i has preferred before j here =
    let at = has j here in
    elim (cases_order i at.0) [
      | inl e ↦ subst (Preferred b (get_or ids i 0)) (ap (λ k. get_or ids k 0) e ∙ at.2) (preferred_self b.kind b (get_or ids i 0))
      | inr (inl l) ↦ subst (Preferred b (get_or ids i 0)) at.2 (preferred i at.0 l at.1)
      | inr (inr g) ↦ absurd (before at.0 g (subst (λ k. OccursAt b t k s) (sym at.2) here))
    ]

-- ids that are tried in turn at the place s of the text t
pub record TriedAt (b : Book) (t : List ℕ) (s : ℕ) (ids : List ℕ) : Type 0 where
  pub all : (j : ℕ) → OccursAt b t j s → (k : ℕ) × (k < length ids) × (get_or ids k 0 ≡ j)
  pub preferred : (k j : ℕ) → k < j → j < length ids → Preferred b (get_or ids k 0) (get_or ids j 0)

module _ {b : Book} {t : List ℕ} {s : ℕ} {ids : List ℕ} (o : TriedAt b t s ids) where
  -- the match of the first that occurs
  pub chosen : (i x : ℕ) → x ≡ get_or ids i 0 → OccursAt b t x s → ((j : ℕ) → j < i → OccursAt b t (get_or ids j 0) s → ⊥) → (m : Match) → m ≡ hit b x s → Chosen b t s m
  chosen i x at here before m is = subst (Chosen b t s) (sym is) record {
    occurs = here;
    start = refl;
    end = refl;
    first = λ j other. subst (λ k. Preferred b k j) (sym at) (chosen_first b t ids s i o.all o.preferred before j other);
  }

  -- where none of them occurs, no pattern does
  pub none : ((j : ℕ) → j < length ids → OccursAt b t (get_or ids j 0) s → ⊥) → (j : ℕ) → OccursAt b t j s → ⊥
  none before j here =
      let at = o.all j here in
      before at.0 at.1 (subst (λ k. OccursAt b t k s) (sym at.2) here)
