use Rattle.std.proofs.Common.{◌≡◌, ◌<◌, ◌∙◌, length, get_or, ap, arith}
use Rattle.aas_model.specs.declared.element.Element.{Element}
use Rattle.aas_template.specs.Walk.{gathered}
use Rattle.aas_template.proofs.Gathered.{groups_grown, groups_stay}
use Rattle.aas_template.proofs.groups.group_by_template.Goals as goal
use Rattle.aas_template.proofs.groups.group_by_template.Goals.{in-Some+in_ok-add-in-Some, in-None}

pub loop-instance-preserved : goal.loop-instance-preserved
loop-instance-preserved c =
    let ts = c.args.templates.now in
    let ks = c.args.instances.now in
    let i = c.loop-instance.instance-index in
    let k : Element = c.instance-item.result in
    let lt : i < length ks = omega arith in
    let at : k ≡ get_or ks i k = ap (λ (x : Element). x) c.instance-item.is in
    elim c.match-place_of.branch [
      | in-Some+in_ok-add-in-Some w ↦
          ap (λ v. gathered v.items) w.groups-is
          ∙ groups_grown (gathered c.loop-instance.groups.items) (gathered w.add.new.groups.items) ts ks i k w.in-Some.place lt at w.in-Some.ensures.within w.in-Some.ensures.belongs
          c.loop-instance.invariant w.in_ok-add-in-Some.ensures
      | in-None w ↦ ap (λ v. gathered v.items) w.groups-is ∙ c.loop-instance.invariant ∙ groups_stay ts ks i k lt at w.in-None.ensures.belongs
    ]
