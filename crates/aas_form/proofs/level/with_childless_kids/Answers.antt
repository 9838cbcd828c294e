use Rattle.std.proofs.Common.{List, ap, arith}
use Rattle.aas_model.specs.declared.element.Element.{Element, out-Element, roll-Element}
use Rattle.aas_path_trees.specs.Children.{kids_of}
use Rattle.aas_form.specs.CoreForm.{childless}
use Rattle.aas_form.proofs.InPlace.{filled_map}
use Rattle.aas_form.proofs.level.with_childless_kids.Goals as goal

pub returns : goal.returns
returns c = let e = c.args.element in
    ap (λ (ks : List Element). roll-Element (record (out-Element e) { kids = ks }))
    (filled_map childless (kids_of e) c.take_children.new.kids c.as_mut_slice.result.now c.as_mut_slice.ensures.value (omega arith) c.take_children.ensures)
