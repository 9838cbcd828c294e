use Rattle.aas_constraint_laws.proofs.Bridge.{law}
use Rattle.aas_constraint_laws.proofs.law_of_place.Goals as goal

pub returns : goal.returns
returns c = law
