use Rattle.aas_value_update.proofs.Judged as law
use Rattle.aas_value_update.proofs.shapes_are_judged.Goals as goal

pub returns-clause-shape : goal.returns-clause-shape
returns-clause-shape c = law.shape_is_judged

pub returns-clause-misfit : goal.returns-clause-misfit
returns-clause-misfit c = law.first_misfit_is_found
