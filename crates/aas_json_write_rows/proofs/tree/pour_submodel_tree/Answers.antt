use Rattle.std.proofs.Common.{map}
use Rattle.serde_json.specs.Written.{compact_text}
use Rattle.aas_json_mapping.specs.Elements.{spell_element}
use Rattle.aas_json_write_members.proofs.Heads.{canonical}
use Rattle.aas_out.proofs.Adding.{adds_same}
use Rattle.aas_json_write_rows.proofs.Documents.{submodel_put}
use Rattle.aas_json_write_rows.proofs.Whole.{elements_put}
use Rattle.aas_json_write_rows.proofs.tree.pour_submodel_tree.Goals as goal

pub returns : goal.returns
returns g c =
    let s = c.args.submodel.now in
    let elements = elements_put s.kids c.put_list-elements.ensures in
    adds_same c.args.so_far c.end_submodel.result
    (g.O.TextEnd.told c.args.out.now) (g.O.TextEnd.told c.end_submodel.new.out) _ _
    (submodel_put s (map (λ e. compact_text (spell_element e)) s.kids) c.args.so_far
    c.begin_submodel-before.result.state c.put_list-elements.result.state c.end_submodel.result
    (g.O.TextEnd.told c.args.out.now) (g.O.TextEnd.told c.begin_submodel-before.new.out)
    (g.O.TextEnd.told c.put_list-elements.new.out) (g.O.TextEnd.told c.end_submodel.new.out)
    c.begin_submodel-before.result.later c.put_list-elements.result.later
    c.begin_submodel-before.ensures.text c.begin_submodel-before.ensures.later
    elements.0 elements.1 c.end_submodel.ensures)
    (canonical s)
