use Rattle.std.proofs.Common.{refl}
use Rattle.intake.proofs.Histories.{serves_none}
use Rattle.intake.proofs.intake.Intake.new.Goals as goal

pub returns-clause-served : goal.returns-clause-served
returns-clause-served g c = serves_none _ _ refl refl c.new.ensures
