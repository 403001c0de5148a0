-- The constants of the code are the numbers of the specs.
use Rattle.std.proofs.Common.{◌≡◌, refl}
use Rattle.host.specs.Misses.{no_hit, miscalled, no_text, no_memory}
use Rattle.host.specs.MatchBytes.{answer_bytes}
use Rattle.host.specs.declared.miss.TheConstants.{NO_HIT, MISCALLED, NO_TEXT, NO_MEMORY}
use Rattle.host.specs.declared.match_bytes.TheConstants.{ANSWER_BYTES}

no_hit_is : NO_HIT ≡ no_hit
no_hit_is = refl

miscalled_is : MISCALLED ≡ miscalled
miscalled_is = refl

no_text_is : NO_TEXT ≡ no_text
no_text_is = refl

no_memory_is : NO_MEMORY ≡ no_memory
no_memory_is = refl

answer_is : ANSWER_BYTES ≡ answer_bytes
answer_is = refl
