-- What a host is answered.
-- called s c n            the searcher of a call with the number s, the mask count c and a buffer of n bytes, if the call is in order
-- call_hit job place x    the hit, or else why there is none
-- by_number r             the answer r, its reason by its number
-- answer job place x      the hit, or else the number that is answered instead of it
-- code d                  the number that the answer d has: 0 for a hit
-- buffer_after d old      the bytes of the buffer then: those of the hit, else the old ones
-- SmallAnswer d           the numbers of a hit are small, so that four bytes hold each
-- Replies j p x r old new the number r, and a buffer that held old and then new, are those of the answer, or of want of memory
use Rattle.std.specs.Prelude.{◌≡◌, ℕ, ◌⊎◌, List, IsSome, Some, None, Ok, Err, Option, Result, ◌==◌, if◌then◌else◌}
use Rattle.rules.specs.declared.primitives.Match.{Match}
use Rattle.host.specs.declared.miss.Miss.{Miss}
use Rattle.host.specs.declared.miss.Miss.TheVariants.{Miscalled}
use Rattle.host.specs.declared.searcher.SearcherKind.{SearcherKind}
use Rattle.host.specs.Searchers.{searcher_of}
use Rattle.host.specs.Misses.{no_memory, number_of}
use Rattle.host.specs.Outcomes.{outcome, WantsMemory, Small}
use Rattle.host.specs.MatchBytes.{answer_bytes, match_bytes}

abbrev pub called : ℕ → ℕ → ℕ → Option SearcherKind
called s c n = if n == answer_bytes then searcher_of s c else None

abbrev pub call_hit : List ℕ → ℕ → Option SearcherKind → Result Match Miss
call_hit job place None = Err Miscalled
call_hit job place (Some x) = outcome job place x

abbrev pub by_number : Result Match Miss → Result Match ℕ
by_number (Ok m) = Ok m
by_number (Err e) = Err (number_of e)

abbrev pub answer : List ℕ → ℕ → Option SearcherKind → Result Match ℕ
answer job place x = by_number (call_hit job place x)

abbrev pub code : Result Match ℕ → ℕ
code (Ok m) = 0
code (Err n) = n

abbrev pub buffer_after : Result Match ℕ → List ℕ → List ℕ
buffer_after (Ok m) old = match_bytes m
buffer_after (Err n) old = old

abbrev pub SmallAnswer : Result Match ℕ → Type 0
SmallAnswer (Ok m) = Small m
SmallAnswer (Err n) = Unit {0}

-- want of memory comes only of a call that is in order and wants some, and writes nothing
abbrev pub Replies : List ℕ → ℕ → Option SearcherKind → ℕ → List ℕ → List ℕ → Type 0
Replies job place x r old new =
    ((r ≡ code (answer job place x)) × (new ≡ buffer_after (answer job place x) old))
    ⊎ (IsSome x × WantsMemory job × (r ≡ no_memory) × (new ≡ old))
