use Rattle.aas_form.specs.ReferenceTo.{reference_to}
use Rattle.aas_form.proofs.Keys.{is_reference}
use Rattle.aas_form.proofs.NotFound.{found_answer, refused_answer, missing_answer}
use Rattle.aas_form.proofs.reference_form.reference_of.Goals as goal

pub returns-in-Ok-reference-clause-found : goal.returns-in-Ok-reference-clause-found
returns-in-Ok-reference-clause-found c =
    is_reference (reference_to c.args.submodel.now c.args.path.now.steps) _ c.in-Ok.ensures.there c.in-Ok-reference.ensures

pub returns-in-Ok-reference-clause-missing : goal.returns-in-Ok-reference-clause-missing
returns-in-Ok-reference-clause-missing c = found_answer _ _ _ c.in-Ok.ensures.missing

pub returns-in-Err-reference-clause-missing : goal.returns-in-Err-reference-clause-missing
returns-in-Err-reference-clause-missing c = refused_answer _ _ c.in-Ok.ensures.missing

pub returns-in-Err-clause-missing : goal.returns-in-Err-clause-missing
returns-in-Err-clause-missing c = missing_answer _ _ c.in-Err.ensures.missing
