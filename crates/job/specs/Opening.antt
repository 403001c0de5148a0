-- The book of a job: its records up to the first text are taken into an open book, which is closed there, or else at the job's end.
-- entered_or b at p r   the open book b with the pattern p entered, or the refusal r of it at a place
-- takes b at e          the open book b after the record e at a place before the texts, or the refusal of that record
-- and_then d f          what comes of the answer d by the step f; a fault stays
-- fill b is             the open book b after all of the records is, or the first refusal
-- closes b at           the open book b closed at a place, or the refusal of a book without patterns
-- closed_at b is s n    the open book b closed at the first of the texts is; without one at the end n, unless reading stopped at the fault s
-- opening b r n         the book of a job of n bytes, b being the open book so far and r what is left to read; or the first fault
-- read_book job         the book of what is read of a job, or the first fault up to its first text
-- opened job            the same of a job that may be too long
use Rattle.std.specs.Prelude.{ℕ, List, [], ◌∷◌, length, Some, None, Ok, Err, Option, Result, ◌==◌, nat_lt, if◌then◌else◌}
use Rattle.rules.specs.declared.fault.Fault.{Fault}
use Rattle.rules.specs.declared.fault.Refusal.{Refusal}
use Rattle.rules.specs.declared.fault.Refusal.TheVariants.{NoPatterns, JobTooLong}
use Rattle.rules.specs.declared.primitives.MatchKind.TheVariants.{LeftmostFirst, LeftmostLongest}
use Rattle.rules.specs.Limits.{max_job}
use Rattle.rules.specs.Book.{Book, count_of}
use Rattle.rules.specs.Entered.{enter}
use Rattle.rules.specs.Faults.{refused}
use Rattle.pattern.specs.Contents.{empty, of_kind}
use Rattle.pattern.specs.Entering.{entering}
use Rattle.job.specs.Format.{Entry, a_pattern, kind_first, kind_longest, a_text}
use Rattle.job.specs.Reading.{Item, Reading, reading}
use Rattle.job.specs.Texts.{heading, texts_from}

abbrev pub entered_or : Book → ℕ → List ℕ → Option Refusal → Result Book Fault
entered_or b at p None = Ok (enter b p)
entered_or b at p (Some r) = Err (refused at r)

abbrev pub takes : Book → ℕ → Entry → Result Book Fault
takes b at (a_pattern p) = entered_or b at p (entering b p)
takes b at kind_first = Ok (of_kind LeftmostFirst b)
takes b at kind_longest = Ok (of_kind LeftmostLongest b)
takes b at (a_text t) = Ok b

abbrev pub and_then : Result Book Fault → (Book → Result Book Fault) → Result Book Fault
and_then (Ok b) f = f b
and_then (Err e) f = Err e

abbrev pub fill : Book → List Item → Result Book Fault
fill b [] = Ok b
fill b (i ∷ is) = and_then (takes b i.place i.entry) (λ c. fill c is)

abbrev pub closes : Book → ℕ → Result Book Fault
closes b at = if count_of b == 0 then Err (refused at NoPatterns) else Ok b

abbrev pub closed_at : Book → List Item → Option Fault → ℕ → Result Book Fault
closed_at b (i ∷ is) s n = closes b i.place
closed_at b [] (Some f) n = Err f
closed_at b [] None n = closes b n

abbrev pub opening : Book → Reading → ℕ → Result Book Fault
opening b r n = and_then (fill b (heading r.items)) (λ c. closed_at c (texts_from r.items) r.stop n)

abbrev pub read_book : List ℕ → Result Book Fault
read_book job = opening empty (reading job 0) (length job)

abbrev pub opened : List ℕ → Result Book Fault
opened job = if nat_lt max_job (length job) then Err (refused 0 JobTooLong) else read_book job
