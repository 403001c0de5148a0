-- What a search of a job comes to.
-- text_of e              the text that a record holds
-- text_in s              the text that a step reads
-- text_of_first is       the text of the first record
-- first_text job         the first text of a job
-- text_for b x t         the text t for the searcher x over the book b, if b permits x, and if there is one
-- hit_in b place t       what the search of the text t comes to, or why there is none to be searched
-- in_book d x t place    the refusal of d, where closing the book answered d; else what the search comes to
-- outcome job place x    the hit in a job's first text, or else why there is none: the first refusal up to that text goes first
-- WantsMemory job        memory is wanted for a job: a pattern before its first text is to be entered, before which nothing is refused
-- FailsWith job d e      e is the reason that the defined answer d gives, or want of memory, for a job that wants some
-- Small m                the id, the start and the end of a match are within the bounds of a book and a job
use Rattle.std.specs.Prelude.{◌≡◌, ℕ, ◌<◌, ◌≤◌, ◌⊎◌, List, [], ◌∷◌, Some, None, Ok, Err, Option, Result, ok_or, if◌then◌else◌}
use Rattle.rules.specs.declared.fault.Fault.{Fault}
use Rattle.rules.specs.declared.fault.Refusal.TheVariants.{BadMaskCount, Memory}
use Rattle.rules.specs.declared.primitives.Match.{Match}
use Rattle.rules.specs.Limits.{max_patterns, max_job}
use Rattle.rules.specs.Book.{Book}
use Rattle.rules.specs.Search.{id_of, found}
use Rattle.job.specs.Format.{Entry, a_pattern, kind_first, kind_longest, a_text, Step, over, bad, good}
use Rattle.job.specs.Reading.{Item, reading}
use Rattle.job.specs.Texts.{texts}
use Rattle.job.specs.Opening.{opened}
use Rattle.job.specs.Memory.{MemoryFault}
use Rattle.host.specs.declared.miss.Miss.{Miss}
use Rattle.host.specs.declared.miss.Miss.TheVariants.{Refused, NoText, NoHit}
use Rattle.host.specs.declared.searcher.SearcherKind.{SearcherKind}
use Rattle.host.specs.Searchers.{permits}

abbrev pub text_of : Entry → Option (List ℕ)
text_of (a_pattern p) = None
text_of kind_first = None
text_of kind_longest = None
text_of (a_text t) = Some t

abbrev pub text_in : Step → Option (List ℕ)
text_in over = None
text_in (bad r) = None
text_in (good e next) = text_of e

abbrev pub text_of_first : List Item → Option (List ℕ)
text_of_first [] = None
text_of_first (i ∷ is) = text_of i.entry

abbrev pub first_text : List ℕ → Option (List ℕ)
first_text job = text_of_first (texts (reading job 0)).items

-- the mask count is checked when the book is closed, after all else
abbrev pub text_for : Book → SearcherKind → Option (List ℕ) → Result (List ℕ) Miss
text_for b x t = if permits b x then ok_or t NoText else Err (Refused BadMaskCount)

abbrev pub hit_in : Book → ℕ → Result (List ℕ) Miss → Result Match Miss
hit_in b place (Ok t) = ok_or (found b t place) NoHit
hit_in b place (Err e) = Err e

abbrev pub in_book : Result Book Fault → SearcherKind → Option (List ℕ) → ℕ → Result Match Miss
in_book (Ok b) x t place = hit_in b place (text_for b x t)
in_book (Err f) x t place = Err (Refused f.refusal)

abbrev pub outcome : List ℕ → ℕ → SearcherKind → Result Match Miss
outcome job place x = in_book (opened job) x (first_text job) place

-- a searcher wants some, too, but a book that is searched has such a pattern
abbrev pub WantsMemory : List ℕ → Type 0
WantsMemory job = (f : Fault) × MemoryFault job f

abbrev pub FailsWith : List ℕ → Result Match Miss → Miss → Type 0
FailsWith job d e = (d ≡ Err e) ⊎ (WantsMemory job × (e ≡ Refused Memory))

pub record Small (m : Match) : Type 0 where
  pub id : id_of m < max_patterns
  pub start : m.start ≤ max_job
  pub end : m.end ≤ max_job
