use Rattle.std.proofs.Common.{sym, ap, ◌∙◌}
use Rattle.std.specs.FinMap as map
use Rattle.aas_repo_values.proofs.Updated.{submodel_missing}
use Rattle.aas_repo_values.proofs.updating.stored_submodel.Goals as goal

pub returns-in-Ok-None-clause-lost : goal.returns-in-Ok-None-clause-lost
returns-in-Ok-None-clause-lost g c = λ other p v.
    let d = g.S.Store.documents c.args.store.now in
    submodel_missing d c.args.id.now p v
    (sym (c.in-Ok-None.ensures ∙ ap (map.get d.submodels) c.as_str.ensures.bytes) ∙ c.in-Ok-None.field-0-is)
