-- The constants of the code are the numbers of the rules.
use Rattle.std.proofs.Common.{◌≡◌, refl}
use Rattle.rules.specs.Limits.{max_hits}
use Rattle.account.specs.declared.scans.TheConstants.{MAX_HITS}

hits_is : MAX_HITS ≡ max_hits
hits_is = refl
