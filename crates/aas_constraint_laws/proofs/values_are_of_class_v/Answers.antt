use Rattle.aas_constraint_laws.proofs.ClassVRows.{values_are_of_class_v}
use Rattle.aas_constraint_laws.proofs.values_are_of_class_v.Goals as goal

pub returns : goal.returns
returns c = values_are_of_class_v
