use Rattle.std.proofs.Common.{get_or, ap, arith}
use Rattle.aas_model.specs.declared.element.Element.{Element}
use Rattle.aas_path_trees.specs.Children.{with_kids}
use Rattle.aas_form.specs.CoreForm.{childless}
use Rattle.aas_form.proofs.InPlace.{ended, turn}
use Rattle.aas_form.proofs.level.take_children.Goals as goal

pub loop-kid-preserved : goal.loop-kid-preserved
loop-kid-preserved c =
    let l = c.loop-kid in
    let kid : Element = get_or l.kids l.kid-index c.kid-item.result in
    turn childless c.args.kids.now l.kids l.kid-index kid (with_kids kid c.new-none.result) (omega arith)
    (ap (get_or l.kids l.kid-index) c.kid-item.is) (ap (with_kids kid) c.new-none.ensures) l.invariant

pub returns : goal.returns
returns c = ended childless c.args.kids.now c.loop-kid.kids c.loop-kid.kid-index (omega arith) c.loop-kid.invariant
