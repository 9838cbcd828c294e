use Rattle.std.proofs.Common.{[], sym, ap, ◌∙◌}
use Rattle.std.specs.FinMap as map
use Rattle.std.specs.Option.{option_map_or}
use Rattle.std.proofs.lemmas.Result.{IfOk-weaker}
use Rattle.aas_out.proofs.Adding.{adds_same}
use Rattle.aas_answer.specs.Answers.{submodel_metadata_text}
use Rattle.aas_answer.specs.Listed.{submodel_text}
use Rattle.aas_answer.proofs.Entries.{adds_none}
use Rattle.aas_answer.proofs.Pages.{told_of_head}
use Rattle.aas_answer.proofs.Stored.{no_head}
use Rattle.aas_answer.proofs.document_pages.pour_submodel_told.Goals as goal

pub returns-in-None : goal.returns-in-None
returns-in-None g c =
    let found = map.get (g.S.Store.documents c.args.store.now).submodels c.args.id.now in
    adds_none (submodel_text c.args.form) found c.args.so_far
    (g.O.Out.told c.args.out.now) (sym c.in_ok-submodel-in-Value.ensures ∙ c.in-None.is)

pub returns-in-Some-submodel_head : goal.returns-in-Some-submodel_head
returns-in-Some-submodel_head g c =
    let found = map.get (g.S.Store.documents c.args.store.now).submodels c.args.id.now in
    let t = g.O.Out.told c.args.out.now in
    let u = g.O.Out.told c.pour_metadata.new.out in
    IfOk-weaker c.pour_metadata.result _ _
    (λ state told. adds_same c.args.so_far state t u _ _ told
    (told_of_head submodel_metadata_text [] found c.in-Some-submodel_head.head.now c.in-Some-submodel_head.ensures
    ∙ ap (λ form. option_map_or (submodel_text form) found []) (sym c.in-Metadata.is)))
    c.pour_metadata.ensures

pub returns-in-None-submodel_head : goal.returns-in-None-submodel_head
returns-in-None-submodel_head g c =
    let found = map.get (g.S.Store.documents c.args.store.now).submodels c.args.id.now in
    adds_none (submodel_text c.args.form) found c.args.so_far
    (g.O.Out.told c.args.out.now) (no_head found c.in-None-submodel_head.ensures)

pub returns-in-None-submodel_head-2 : goal.returns-in-None-submodel_head-2
returns-in-None-submodel_head-2 g c =
    let found = map.get (g.S.Store.documents c.args.store.now).submodels c.args.id.now in
    adds_none (submodel_text c.args.form) found c.args.so_far
    (g.O.Out.told c.args.out.now) (no_head found c.in-None-submodel_head-2.ensures)
