-- The texts of a job, scanned one after another over a book.
-- line n m          a hit m of the text n
-- scanned b n t     what a scan of the text t with room for max_hits hits answers once n texts were accepted
-- accepted b n is   the texts of the records is that are accepted once n texts were: those up to the first that is no text or is refused
-- ended b n is s    the fault of the first record that is no text or whose text is refused; s where there is none
-- lines_of b n ts   the hits of the texts ts, numbered from n on
use Rattle.std.specs.Prelude.{ℕ, suc, List, [], ◌∷◌, ◌++◌, map, is_ok, Some, Ok, Err, Option, Result, if◌then◌else◌}
use Rattle.rules.specs.declared.fault.Fault.{Fault}
use Rattle.rules.specs.declared.fault.Refusal.{Refusal}
use Rattle.rules.specs.declared.fault.Refusal.TheVariants.{AfterText}
use Rattle.rules.specs.declared.primitives.Match.{Match}
use Rattle.rules.specs.Limits.{max_hits}
use Rattle.rules.specs.Book.{Book}
use Rattle.rules.specs.Listing.{listing}
use Rattle.intake.specs.Ledger.{scan_answer}
use Rattle.rules.specs.Faults.{refused}
use Rattle.job.specs.Format.{a_pattern, kind_first, kind_longest, a_text}
use Rattle.job.specs.Reading.{Item}
use Rattle.account.specs.declared.account.Line.{Line}

abbrev pub line : ℕ → Match → Line
line n m = record { text = n; hit = m }

abbrev pub scanned : Book → ℕ → List ℕ → Result ℕ Refusal
scanned b n t = scan_answer b n t max_hits

abbrev pub accepted : Book → ℕ → List Item → List (List ℕ)
accepted b n [] = []
accepted b n (i ∷ is) = elim i.entry [
  | a_pattern p ↦ []
  | kind_first ↦ []
  | kind_longest ↦ []
  | a_text t ↦ if is_ok (scanned b n t) then t ∷ accepted b (suc n) is else []
]

abbrev pub ended : Book → ℕ → List Item → Option Fault → Option Fault
ended b n [] s = s
ended b n (i ∷ is) s = elim i.entry [
  | a_pattern p ↦ Some (refused i.place AfterText)
  | kind_first ↦ Some (refused i.place AfterText)
  | kind_longest ↦ Some (refused i.place AfterText)
  | a_text t ↦ elim (scanned b n t) [ Ok k ↦ ended b (suc n) is s | Err r ↦ Some (refused i.place r) ]
]

abbrev pub lines_of : Book → ℕ → List (List ℕ) → List Line
lines_of b n [] = []
lines_of b n (t ∷ ts) = map (line n) (listing b t) ++ lines_of b (suc n) ts
