use Rattle.std.proofs.Common.{map, ap, ◌∙◌, sym}
use Rattle.serde_json.specs.View.{members_view}
use Rattle.aas_value_update.specs.Forms.{part_of}
use Rattle.aas_value_update.proofs.OneForm.{apart_of}
use Rattle.aas_value_patch.specs.Counted.{found}
use Rattle.aas_value_patch.proofs.Children.{names_are}
use Rattle.aas_value_patch.proofs.Items.{size}
use Rattle.aas_value_patch.proofs.parents.names_fit.Goals as goal

pub returns : goal.returns
returns c = λ differ order.
    let ms = members_view c.args.members.now.entries in
    names_are c.args.kids.now ms c.count_found.result c.len.result
    (c.count_found.ensures ∙ ap (λ ks. found (map part_of ks) ms) c.as_slice.ensures)
    (c.len.ensures.len ∙ sym (size c.args.members.now.entries)) (apart_of c.args.kids.now differ) order
