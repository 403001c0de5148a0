-- What a whole job comes to: the hits of its texts, and their summary or the fault that ended it.
-- TextOrEnd is s           the first of the records is is a text; or there are none, and no fault s
-- EndsForMemory b r ls f   f is want of memory, at the place 0, and ls are the hits of the first texts of the reading r, so many as were
--                          accepted by then; behind these a text comes next, or the end, since nothing else wants memory
-- EndsAt b r ls f          f is the fault at which the texts of the reading r end, and ls are the hits of those before; or want of memory
-- TextsServed b r ls a     the texts of the reading r were scanned from the first on, ls are their hits, and a is what the intake holds
--                          then, or the fault that ended it
-- Summed b ts s            the summary s is that of the texts ts: their number, and each pattern's hits in them
-- Sums b r ls end          ls are the hits of the texts of the reading r over the book b, and end is their summary, or the fault that ended it
-- SumsOr o r ls end        so it is over the book that was opened; where o is a fault, there are no lines, and end is that fault
-- Accounts job ls end      the account of a job: its lines, and the summary or the fault at its end
use Rattle.std.specs.Prelude.{◌≡◌, ℕ, ◌<◌, ◌≤◌, true, ◌⊎◌, List, [], ◌∷◌, length, take, drop, Some, None, Ok, Err, vec_items, Option, Result, MatchResult, slice_index}
use Rattle.rules.specs.declared.fault.Fault.{Fault}
use Rattle.rules.specs.declared.fault.Refusal.TheVariants.{Memory}
use Rattle.rules.specs.Book.{Book, count_of}
use Rattle.intake.specs.Ledger.{hits_of}
use Rattle.intake.specs.History.{Holding, Keeps}
use Rattle.rules.specs.Faults.{refused}
use Rattle.job.specs.Reading.{Item, Reading, reading}
use Rattle.job.specs.Texts.{is_text, texts}
use Rattle.job.specs.Opening.{opened}
use Rattle.job.specs.Memory.{MemoryFault}
use Rattle.account.specs.declared.account.Line.{Line}
use Rattle.account.specs.declared.account.Summary.{Summary}
use Rattle.account.specs.Texts.{accepted, ended, lines_of}

-- memory is wanted for the book that is shared, for the list of a text's hits, for the lines of a text before it is scanned, and for the tallies at the end
abbrev pub TextOrEnd : List Item → Option Fault → Type 0
TextOrEnd [] s = s ≡ None
TextOrEnd (i ∷ is) s = is_text i.entry ≡ true

pub record EndsForMemory (b : Book) (r : Reading) (ls : List Line) (f : Fault) : Type 0 where
  pub fault : f ≡ refused 0 Memory
  pub many : ℕ
  pub within : many ≤ length (accepted b 0 r.items)
  pub next : TextOrEnd (drop many r.items) r.stop
  pub lines : ls ≡ lines_of b 0 (take many (accepted b 0 r.items))

abbrev pub EndsAt : Book → Reading → List Line → Fault → Type 0
EndsAt b r ls f = ((ended b 0 r.items r.stop ≡ Some f) × (ls ≡ lines_of b 0 (accepted b 0 r.items))) ⊎ EndsForMemory b r ls f

abbrev pub TextsServed : Book → Reading → List Line → Result Holding Fault → Type 0
TextsServed b r ls (Ok m) =
    (ended b 0 r.items r.stop ≡ None)
    × Keeps (record { book = b; texts = accepted b 0 r.items }) m
    × (ls ≡ lines_of b 0 (accepted b 0 r.items))
TextsServed b r ls (Err f) = EndsAt b r ls f

pub record Summed (b : Book) (ts : List (List ℕ)) (s : Summary) : Type 0 where
  pub texts : s.texts ≡ length ts
  pub many : length (vec_items s.tallies) ≡ count_of b
  pub tallies : (i : ℕ) → i < count_of b → slice_index (vec_items s.tallies) i ≡ hits_of (record { book = b; texts = ts }) i

abbrev pub Sums : Book → Reading → List Line → Result Summary Fault → Type 0
Sums b r ls (Ok s) = (ended b 0 r.items r.stop ≡ None) × (ls ≡ lines_of b 0 (accepted b 0 r.items)) × Summed b (accepted b 0 r.items) s
Sums b r ls (Err f) = EndsAt b r ls f

abbrev pub SumsOr : Result Book Fault → Reading → List Line → Result Summary Fault → Type 0
SumsOr (Ok b) r ls end = Sums b r ls end
SumsOr (Err f) r ls end = (end ≡ Err f) × (ls ≡ [])

-- or it ends for want of memory for a pattern before the texts, and has no lines
abbrev pub Accounts : List ℕ → List Line → Result Summary Fault → Type 0
Accounts job ls end = SumsOr (opened job) (texts (reading job 0)) ls end ⊎ ((ls ≡ []) × MatchResult end (λ _. ⊥) (MemoryFault job))
