use Rattle.aas_template.proofs.Walks.{kids_below}
use Rattle.aas_template.proofs.laws.siblings_differ_below.Goals as goal

pub returns : goal.returns
returns c = kids_below c.args.element.now c.requires
