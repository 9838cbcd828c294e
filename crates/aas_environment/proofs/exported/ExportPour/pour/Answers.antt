use Rattle.std.proofs.Common.{◌++◌, codes}
use Rattle.aas_json_mapping.specs.Trees.{environments}
use Rattle.aas_json_spelling.specs.Spells.{canonical_text}
use Rattle.aas_out.specs.declared.pouring.Pouring.TheVariants.{Going}
use Rattle.aas_out.proofs.Adding.{adds_both, adds_same, outcome_puts}
use Rattle.aas_environment.specs.Environments.{environment_of}
use Rattle.aas_environment.proofs.exported.ExportPour.pour.Goals as goal

pub returns : goal.returns
returns g c =
    let t = g.O.Out.told c.args.out.now in
    let u = g.O.Out.told c.pour_environment-told.new.out in
    let v = g.O.Out.told c.add.new.out in
    let text = canonical_text environments (environment_of (g.S.Store.documents c.self.inside.store.now)) in
    rw c.outcome.ensures
    (outcome_puts c.add.result t v c.args.self.now
    (adds_same Going c.add.result t v (text ++ codes "\n") c.args.self.now
    (adds_both Going c.pour_environment-told.result c.add.result t u v text
    (codes "\n") c.pour_environment-told.ensures c.add.ensures)
    c.self.view_is))
