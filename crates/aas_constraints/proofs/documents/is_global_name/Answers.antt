use Rattle.aas_constraints.proofs.Folded.{same_folded}
use Rattle.aas_constraints.proofs.documents.is_global_name.Goals as goal

pub returns : goal.returns
returns c = same_folded c.args.name.now c.as_str.result.now c.eq_ignore_ascii_case.result c.as_str.ensures.bytes c.as_str.ensures.characters c.eq_ignore_ascii_case.ensures.test
