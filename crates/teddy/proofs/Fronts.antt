-- The first pattern of an order with given low nybbles.
use Rattle.std.proofs.Common.{◌≡◌, ℕ, zero, suc, ◌%◌, Bool, true, false, eqb, List, [], ◌∷◌, get_or, MatchBool, Decides, sym, refl, arith}
use Rattle.std.proofs.lemmas.Bool.Decides.{Decides-eqb, Decides-below_and, same_from_decides}
use Rattle.rules.specs.Book.{Book, pattern}
use Rattle.teddy.specs.Buckets.{Alike, alike, front, leader}

pub decides_alike : (p q : List ℕ) (n : ℕ) → Decides (alike p q n) (Alike p q n)
decides_alike p q n =
    Decides-below_and (λ k. eqb (get_or p k 0 % 16) (get_or q k 0 % 16)) (λ k. get_or p k 0 % 16 ≡ get_or q k 0 % 16) (alike p q) (λ k. Decides-eqb (get_or p k 0 % 16) (get_or q k 0 % 16)) refl (λ _. refl) n

pub unlike : (p q : List ℕ) (n : ℕ) → (Alike p q n → ⊥) → alike p q n ≡ false
unlike p q n none = same_from_decides (alike p q n) false (decides_alike p q n) ((λ e. cc), (λ s. absurd (none s)))

-- a test's answer, by the fact that it tests
pub alike_is : (p q : List ℕ) (n : ℕ) (r : Bool) → MatchBool r (Alike p q n) (Alike p q n → ⊥) → r ≡ alike p q n
alike_is p q n true same = sym ((decides_alike p q n).1 same)
alike_is p q n false none = sym (unlike p q n none)

alike_same : (x p q : List ℕ) (n : ℕ) → Alike p q n → alike x p n ≡ alike x q n
alike_same x p q zero e = refl
alike_same x p q (suc n) e = rw (e n (omega arith), alike_same x p q n (λ k l. e k (omega arith))) refl

-- the leader depends on the low nybbles alone
pub leader_same : (b : Book) (p q ids : List ℕ) → Alike p q (front b) → leader b ids p ≡ leader b ids q
leader_same b p q [] e = refl
leader_same b p q (x ∷ xs) e = grind (arith, alike_same (pattern b x) p q (front b) e, leader_same b p q xs e)
