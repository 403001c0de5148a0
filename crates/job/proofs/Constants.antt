-- The constant of the code is the number of the rules.
use Rattle.std.proofs.Common.{◌≡◌, refl}
use Rattle.rules.specs.Limits.{max_job}
use Rattle.job.specs.declared.opening.TheConstants.{MAX_JOB}

job_is : MAX_JOB ≡ max_job
job_is = refl
