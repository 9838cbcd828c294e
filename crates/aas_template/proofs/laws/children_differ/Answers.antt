use Rattle.aas_template.proofs.Walks.{kids_differ}
use Rattle.aas_template.proofs.laws.children_differ.Goals as goal

pub returns : goal.returns
returns c = kids_differ c.args.element.now c.requires.below c.requires.named
