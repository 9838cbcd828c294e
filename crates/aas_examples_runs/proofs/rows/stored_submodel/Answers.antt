use Rattle.std.proofs.Common.{◌∙◌, sym}
use Rattle.aas_examples_runs.proofs.rows.stored_submodel.Goals as goal

pub returns-in-Some : goal.returns-in-Some
returns-in-Some c =
    let valid = c.store.ensures.valid.submodels _ c.in-Some.submodel (sym c.in_ok-submodel.ensures ∙ c.in-Some.is) in
    c.valid_submodels_are_storable.ensures c.in-Some.submodel valid.valid valid.few
