-- One scan, and the ledger's texts.
use Rattle.std.proofs.Common.{◌≡◌, ℕ, ◌+◌, ◌<◌, ◌≤◌, List, ◌++◌, All, length, get_or, take, replicate, Ok, Err, Result, sym, refl, ap, ◌∙◌, subst, arith}
use Rattle.std.proofs.lemmas.List.{take_at, length_push}
use Rattle.std.proofs.lemmas.List.Elements.{All-from_recursion}
use Rattle.std.proofs.lemmas.List.Sums.{sum_by_push}
use Rattle.std.proofs.lemmas.Bool.Decides.{nat_tests}
use Rattle.std.proofs.lemmas.Grind.{common_steps}
use Rattle.rules.specs.declared.primitives.Match.{Match}
use Rattle.rules.specs.declared.fault.Refusal.{Refusal}
use Rattle.rules.specs.Limits.{max_patterns}
use Rattle.rules.specs.Book.{Book, Within, count_of}
use Rattle.rules.specs.Search.{id_of, Occurs}
use Rattle.rules.specs.Listing.{listing}
use Rattle.rules.specs.Faults.{placed, numbered, told}
use Rattle.intake.specs.Ledger.{State, starts, accepts, hits_with, hits_of, scan_answer, hits_after}
use Rattle.intake.specs.History.{Holding, Counted, Keeps}
use Rattle.rules.proofs.Listings.{listing_covers, rest_short}

-- what `hits_of` is once one more text is accepted
pub hits_of_more : (s : State) (t : List ℕ) (i : ℕ) → hits_of (accepts s t) i ≡ hits_of s i + hits_with i (listing s.book t)
hits_of_more s t i = sum_by_push (λ u. hits_with i (listing s.book u)) s.texts t

-- an answer and its fault
pub told_placed : {X : Type 0} (at : ℕ) (r : Result X Refusal) → told (placed at r) ≡ numbered r
told_placed at (Ok x) = refl
told_placed at (Err k) = refl

pub hits_placed : (at : ℕ) (b : Book) (t : List ℕ) (hs : List Match) (r : Result ℕ Refusal) → hits_after b t hs (placed at r) ≡ hits_after b t hs r
hits_placed at b t hs (Ok x) = refl
hits_placed at b t hs (Err k) = refl

-- an accepted text's hits, as many as the scan answers
pub accepted : (b : Book) (n : ℕ) (t : List ℕ) (room k : ℕ) → Ok k ≡ scan_answer b n t room → k ≡ length (listing b t)
accepted b n t room k h = grind (arith, nat_tests)

-- each is of a pattern that the table of tallies has
pub listing_ids : (b : Book) (t : List ℕ) → Within b → All (λ m. id_of m < max_patterns) (listing b t)
listing_ids b t w k d l = let h = All-from_recursion (Occurs b t) (listing b t) (listing_covers b w t).occur k d l in omega (arith, h.here.known, w.few)

-- a text has no more hits than bytes
pub listing_short : (b : Book) (t : List ℕ) → Within b → length (listing b t) ≤ length t
listing_short b t w = omega (arith, rest_short b w t 0)

-- the front of a list that the listing was written to
pub written_front : (b : Book) (t : List ℕ) (hs : List Match) (n : ℕ) → n ≡ length (listing b t) → take n (listing b t ++ hs) ≡ listing b t
written_front b t hs n long = take_at (listing b t) hs n (sym long)

-- a new table of tallies, and one more text
zero_at : (n i : ℕ) → ◌≡◌ {A = ℕ} (get_or (replicate n 0) i 0) 0
zero_at n i = grind (arith, common_steps)

pub keeps_none : (b : Book) (m : Holding) → m.book ≡ b → m.accepted ≡ 0 → m.tallies ≡ replicate max_patterns 0 → Keeps (starts b) m
keeps_none b m same none zeros = record {
  book = same;
  count = none;
  tallies = λ i l. ap (λ xs. get_or xs i 0) zeros ∙ zero_at max_patterns i;
}

pub keeps_more : (s : State) (m m' : Holding) (t : List ℕ) → Counted m t m' → Keeps s m → Keeps (accepts s t) m'
keeps_more s m m' t c k = record {
  book = c.book ∙ k.book;
  count = omega (arith, c.count, k.count, length_push s.texts t);
  tallies = λ i l.
      c.tallies i (subst (λ b. i < count_of b) (sym k.book) l)
      ∙ (λ j. k.tallies i l j + hits_with i (listing (k.book j) t))
      ∙ sym (hits_of_more s t i);
}
