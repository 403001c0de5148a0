-- Laws of a scan, most of which docs/PROOFS.md names. No proof of a call needs them: they are cases of what the calls' contracts say.
use Rattle.std.proofs.Common.{◌≡◌, ℕ, ◌<◌, ◌≤◌, List, length, Ok, Err, Result, MatchResult, IfErr, sym, refl, ap, subst, arith}
use Rattle.std.proofs.lemmas.Bool.Decides.{nat_tests}
use Rattle.rules.specs.declared.primitives.Match.{Match}
use Rattle.rules.specs.declared.fault.Fault.{Fault}
use Rattle.rules.specs.declared.fault.Refusal.{Refusal}
use Rattle.rules.specs.Limits.{max_text, max_texts}
use Rattle.rules.specs.Book.{Book, Within}
use Rattle.rules.specs.Listing.{listing}
use Rattle.rules.specs.Faults.{placed, told}
use Rattle.intake.specs.Ledger.{starts, hits_of, scan_answer, hits_after, ask_scan, told_scan}
use Rattle.intake.specs.History.{Past, then, Holding, used_by, Counted, Served}
use Rattle.intake.specs.Intakes.{Scans}
use Rattle.intake.proofs.Scans.{accepted}
use Rattle.intake.proofs.Histories.{served_scan}

-- no text, no hits
pub hits_of_none : (b : Book) (i : ℕ) → hits_of (starts b) i ≡ 0
hits_of_none b i = refl

-- a refusal leaves the list
pub hits_refused : (b : Book) (t : List ℕ) (hs : List Match) (k : Refusal) → hits_after {X = ℕ} b t hs (Err k) ≡ hs
hits_refused b t hs k = refl

-- a fault is at the place that was handed in
pub placed_at : (at : ℕ) (x : Result ℕ Refusal) (r : Result ℕ Fault) → r ≡ placed at x → IfErr r (λ f. f.place ≡ at)
placed_at at x r e = subst (λ y. IfErr y (λ f. f.place ≡ at)) (sym e) (here x)
  where
    here : (x : Result ℕ Refusal) → IfErr (placed at x) (λ f. f.place ≡ at)
    here (Ok n) = tt
    here (Err k) = refl

-- an intake that scans has served the scan
pub serves_scan : (p : Past) (m : Holding) (at : ℕ) (t : List ℕ) (hs : List Match) (r : Result ℕ Fault) (hs' : List Match) (m' : Holding) → Within m.book → Scans m at t hs r hs' m' → Served p m → Served (then p (ask_scan t hs) (told_scan (told r) hs')) m'
serves_scan p m at t hs r hs' m' w d s = served_scan p at t hs hs' r m m' w d.answer d.hits d.after s

-- a refusal alters nothing
pub scan_refused : (m : Holding) (at : ℕ) (t : List ℕ) (hs : List Match) (r : Result ℕ Fault) (f : Fault) → r ≡ Err f → r ≡ placed at (scan_answer m.book (used_by m) t (length hs)) → Scans m at t hs r hs m
scan_refused m at t hs r f e answer = record {
  book = refl;
  answer = answer;
  hits = sym (ap (hits_after m.book t hs) e);
  after = subst (λ y. MatchResult y (λ _. Counted m t m) (λ _. m ≡ m)) (sym e) refl;
}

-- what is known of a text that is accepted: k are its hits, of n texts that were accepted before, in a list with so much room
pub record Accepted (b : Book) (n : ℕ) (t : List ℕ) (room k : ℕ) : Type 0 where
  pub hits : k ≡ length (listing b t)
  pub short : length t ≤ max_text
  pub few : n < max_texts
  pub fits : length (listing b t) ≤ room

pub accepted_scan : (b : Book) (n : ℕ) (t : List ℕ) (room k : ℕ) → Ok k ≡ scan_answer b n t room → Accepted b n t room k
accepted_scan b n t room k h = record {
  hits = accepted b n t room k h;
  short = grind (arith, nat_tests);
  few = grind (arith, nat_tests);
  fits = grind (arith, nat_tests);
}

pub accepted_at : (at : ℕ) (b : Book) (n : ℕ) (t : List ℕ) (room k : ℕ) → Ok k ≡ placed at (scan_answer b n t room) → Accepted b n t room k
accepted_at at b n t room k e = accepted_scan b n t room k (unplaced (scan_answer b n t room) e)
  where
    unplaced : (r : Result ℕ Refusal) → Ok k ≡ placed at r → Ok k ≡ r
    unplaced (Ok x) is = ap Ok (let s : k ≡ x = cc in s)
    unplaced (Err f) is = cc
