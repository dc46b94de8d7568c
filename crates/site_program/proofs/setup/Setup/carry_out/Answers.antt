use Rattle.site_program.proofs.Carrying.{lifted_got}
use Rattle.site_program.proofs.setup.Setup.carry_out.Goals as goal

pub returns-in-Get-clause-carried : goal.returns-in-Get-clause-carried
returns-in-Get-clause-carried g c = rw c.in-Get.is (lifted_got _ _ _ _ _ _ c.get.ensures.carried)
