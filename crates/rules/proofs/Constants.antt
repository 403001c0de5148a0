-- The constants of the code are the numbers of the rules.
use Rattle.std.proofs.Common.{◌≡◌, refl}
use Rattle.rules.specs.Limits.{greatest_index}
use Rattle.rules.specs.declared.primitives.TheConstants.{GREATEST_INDEX}

greatest_is : GREATEST_INDEX ≡ greatest_index
greatest_is = refl
