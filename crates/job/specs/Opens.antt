-- Which book a job opens to, or which fault comes: of a job that is records in a row, and then nothing or a record that is refused.
-- patterns_of es     the patterns before the first text, in their order
-- last_kind k es     the last kind before the first text; k where there is none
-- book_in es         the book of these
-- NoText es          none of the records es is a text
-- BeginWith es xs e  the records es begin with the records xs, none of which is a text, and then e
-- ClosedAt es s at   the book of the records es, behind which reading stops at the fault s, is closed at a place if no pattern is refused
-- OpensTo es s b     b is the book of these records, within the bounds, with a pattern, and there is a place where it is closed
-- FirstFault es s f  f is the first fault of these records, up to the first text, or else to the end
-- OpensAs job es s   the job opens to exactly that book, and what comes instead is exactly the first fault
-- OpensSo            so does every job of at most max_job bytes that is such records, and then nothing or one that is refused so
-- TooLong            a longer job is refused for just that, at the place 0
use Rattle.std.specs.Prelude.{◌≡◌, ℕ, ◌<◌, ◌≤◌, ◌↔◌, false, List, [], ◌∷◌, ◌++◌, All, length, Some, None, Ok, Err, Option}
use Rattle.rules.specs.declared.fault.Fault.{Fault}
use Rattle.rules.specs.declared.fault.Refusal.{Refusal}
use Rattle.rules.specs.declared.fault.Refusal.TheVariants.{NoPatterns, JobTooLong}
use Rattle.rules.specs.declared.primitives.MatchKind.{MatchKind}
use Rattle.rules.specs.declared.primitives.MatchKind.TheVariants.{LeftmostFirst, LeftmostLongest}
use Rattle.rules.specs.Limits.{max_job}
use Rattle.rules.specs.Book.{Book, count_of, Within}
use Rattle.rules.specs.Faults.{refused}
use Rattle.pattern.specs.Entering.{entering}
use Rattle.job.specs.Format.{Entry, a_pattern, kind_first, kind_longest, a_text}
use Rattle.job.specs.Texts.{is_text}
use Rattle.job.specs.Opening.{opened}
use Rattle.job.specs.Written.{job_of, Stopped}

abbrev pub patterns_of : List Entry → List (List ℕ)
patterns_of [] = []
patterns_of (a_pattern p ∷ es) = p ∷ patterns_of es
patterns_of (kind_first ∷ es) = patterns_of es
patterns_of (kind_longest ∷ es) = patterns_of es
patterns_of (a_text t ∷ es) = []

abbrev pub last_kind : MatchKind → List Entry → MatchKind
last_kind k [] = k
last_kind k (a_pattern p ∷ es) = last_kind k es
last_kind k (kind_first ∷ es) = last_kind LeftmostFirst es
last_kind k (kind_longest ∷ es) = last_kind LeftmostLongest es
last_kind k (a_text t ∷ es) = k

abbrev pub book_in : List Entry → Book
book_in es = record { kind = last_kind LeftmostFirst es; patterns = patterns_of es }

abbrev pub NoText : List Entry → Type 0
NoText es = All (λ e. is_text e ≡ false) es

pub record BeginWith (es xs : List Entry) (e : Entry) : Type 0 where
  pub others : List Entry
  pub parts : es ≡ xs ++ e ∷ others
  pub before : NoText xs

pub data ClosedAt (es : List Entry) (s : Option Fault) (at : ℕ) : Type 0 where
  -- at the first text
  at_text : (xs : List Entry) (t : List ℕ) → BeginWith es xs (a_text t) → at ≡ length (job_of xs) → ClosedAt es s at
  -- without a text, at the job's end
  at_end : NoText es → s ≡ None → at ≡ length (job_of es) → ClosedAt es s at

pub record OpensTo (es : List Entry) (s : Option Fault) (b : Book) : Type 0 where
  pub book : b ≡ book_in es
  pub within : Within b
  pub some : 0 < count_of b
  pub closed : (at : ℕ) × ClosedAt es s at

pub data FirstFault (es : List Entry) (s : Option Fault) (f : Fault) : Type 0 where
  -- a pattern before the texts is refused, all before it being entered; the place is its own
  pattern_refused : (xs : List Entry) (p : List ℕ) (k : Refusal) → BeginWith es xs (a_pattern p) → Within (book_in xs)
      → entering (book_in xs) p ≡ Some k → f ≡ refused (length (job_of xs)) k → FirstFault es s f
  -- the book is closed, and has no pattern
  no_patterns : (at : ℕ) → ClosedAt es s at → count_of (book_in es) ≡ 0 → f ≡ refused at NoPatterns → FirstFault es s f
  -- all patterns are entered, there is no text, and what stands behind the records is refused
  stopped : NoText es → Within (book_in es) → s ≡ Some f → FirstFault es s f

pub record OpensAs (job : List ℕ) (es : List Entry) (s : Option Fault) : Type 0 where
  pub book : (b : Book) → (opened job ≡ Ok b) ↔ OpensTo es s b
  pub fault : (f : Fault) → (opened job ≡ Err f) ↔ FirstFault es s f

abbrev pub OpensSo : Type 0
OpensSo =
    (es : List Entry) (rest : List ℕ) (s : Option Fault) → Stopped rest (length (job_of es)) s
    → length (job_of es ++ rest) ≤ max_job → OpensAs (job_of es ++ rest) es s

abbrev pub TooLong : Type 0
TooLong = (job : List ℕ) → max_job < length job → opened job ≡ Err (refused 0 JobTooLong)
