use Rattle.std.proofs.Common.{◌∙◌}
use Rattle.aas_store.proofs.Shelves.{count_is}
use Rattle.aas_store.proofs.shelf.Shelf.len.Goals as goal

pub returns : goal.returns
returns g c = c.len.ensures ∙ count_is c.self.inside.entries c.self.invariant c.args.self.now c.self.view_is
