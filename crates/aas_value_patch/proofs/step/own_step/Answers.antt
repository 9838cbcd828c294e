use Rattle.std.proofs.Common.{map, sym, ap, subst}
use Rattle.serde_json.specs.View.{view}
use Rattle.aas_model.specs.declared.element.Element.{out-Element}
use Rattle.aas_model.specs.declared.payload.Payload.{Payload}
use Rattle.aas_path_trees.specs.Children.{is_list_payload}
use Rattle.aas_value.specs.ValueForm.{shows_children}
use Rattle.aas_value_update.specs.Forms.{part_of}
use Rattle.aas_value_patch.specs.Steps.{Stepped}
use Rattle.aas_value_patch.proofs.Walk.{kids_differ}
use Rattle.aas_value_patch.proofs.step.own_step.Goals as goal

pub returns-in-Entity : goal.returns-in-Entity
returns-in-Entity c = λ order ordered.
    let e = c.args.element.now in
    subst (λ (x : Payload). Stepped c.entity_step.result x (map part_of (out-Element e).kids) (view c.args.sent.now))
    (sym c.in-Entity.is)
    (c.entity_step.ensures
    (kids_differ e order (ap shows_children c.in-Entity.is) (ap is_list_payload c.in-Entity.is)) ordered)

pub returns-in-SubmodelElementCollection : goal.returns-in-SubmodelElementCollection
returns-in-SubmodelElementCollection c = λ order ordered.
    let e = c.args.element.now in
    subst (λ (x : Payload).
    Stepped c.collection_step.result x (map part_of (out-Element e).kids) (view c.args.sent.now))
    (sym c.in-SubmodelElementCollection.is)
    (c.collection_step.ensures
    (kids_differ e order (ap shows_children c.in-SubmodelElementCollection.is)
    (ap is_list_payload c.in-SubmodelElementCollection.is))
    ordered)
