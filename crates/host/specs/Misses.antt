-- What a host is answered in place of a hit. A refusal has the number that is reported of it.
-- no_hit        the number for a text without a hit
-- miscalled     the number for another searcher number, or a buffer of another length
-- no_text       the number for a job without a text
-- no_memory     the number for want of memory
-- number_of e   the number for the reason e
use Rattle.std.specs.Prelude.{ℕ}
use Rattle.rules.specs.declared.fault.Refusal.TheVariants.{Memory}
use Rattle.rules.specs.Refusals.{number}
use Rattle.host.specs.declared.miss.Miss.{Miss}
use Rattle.host.specs.declared.miss.Miss.TheVariants.{Miscalled, Refused, NoText, NoHit}

abbrev pub no_hit : ℕ
no_hit = 100

abbrev pub miscalled : ℕ
miscalled = 101

abbrev pub no_text : ℕ
no_text = 102

abbrev pub no_memory : ℕ
no_memory = 103

abbrev pub number_of : Miss → ℕ
number_of Miscalled = miscalled
number_of (Refused Memory) = no_memory
number_of (Refused r) = number r
number_of NoText = no_text
number_of NoHit = no_hit
