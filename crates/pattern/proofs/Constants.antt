-- The constants of the code are the numbers of the rules.
use Rattle.std.proofs.Common.{◌≡◌, refl}
use Rattle.rules.specs.Limits.{max_patterns, max_bytes, max_masks}
use Rattle.pattern.specs.declared.patterns.TheConstants.{MAX_PATTERNS, MAX_BYTES, MAX_MASKS}

patterns_is : MAX_PATTERNS ≡ max_patterns
patterns_is = refl

bytes_is : MAX_BYTES ≡ max_bytes
bytes_is = refl

masks_is : MAX_MASKS ≡ max_masks
masks_is = refl
