use Rattle.aas_form.proofs.Keys.{found_reference, document_reference}
use Rattle.aas_form.proofs.reference_form.look.Goals as goal

pub returns-then-is_empty-clause-there : goal.returns-then-is_empty-clause-there
returns-then-is_empty-clause-there c = document_reference c.args.submodel.now c.args.path.now.steps (c.is_empty.ensures.0 c.if-is_empty.true)

pub returns-clause-there : goal.returns-clause-there
returns-clause-there c = found_reference c.args.submodel.now c.args.path.now.steps _ c.in_ok-at.ensures.found
