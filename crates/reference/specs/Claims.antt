-- What is claimed of the reference machine; `proofs/Theorems.antt` has the proofs.
use Rattle.reference.specs.StepClaims.{StepClaims}
use Rattle.reference.specs.CallClaims.{CallClaims}
use Rattle.reference.specs.MeetingClaims.{MeetingClaims}

pub record Claims : Type 1 where
  pub steps : StepClaims
  pub calls : CallClaims
  pub meetings : MeetingClaims
