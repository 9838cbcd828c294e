use Rattle.std.proofs.Common.{◌∷◌, []}
use Rattle.aas_out.proofs.Adding.{adds_both}
use Rattle.aas_json_write_members.specs.Heads.{names_behind, submodel_fields}
use Rattle.aas_json_write_members.specs.Members.{fields_text}
use Rattle.aas_json_write_members.proofs.documents.end_submodel.Goals as goal

pub returns : goal.returns
returns g c =
    adds_both c.args.pen.state c.put_list-meant.result.state c.end_object.result (g.O.TextEnd.told c.args.out.now)
    (g.O.TextEnd.told c.put_list-meant.new.out) (g.O.TextEnd.told c.end_object.new.out)
    (fields_text c.args.pen.later (submodel_fields c.args.submodel.now names_behind)) (125 ∷ [])
    c.put_list-meant.ensures.text c.end_object.ensures
