use Rattle.std.proofs.Common.{◌≡◌, ◌++◌, drop, map}
use Rattle.serde_json.specs.Data.{no_members}
use Rattle.aas_json_members.specs.Array.{items_of}
use Rattle.aas_json_members.specs.Object.{members_of}
use Rattle.aas_value.specs.Children.{annotation_value, forms_of, put_children}
use Rattle.aas_value.specs.Parts.{children}
use Rattle.aas_value.specs.ValueForm.{part_of}
use Rattle.aas_value.proofs.form.+value.Given as goal

-- what is put already, and what is left to put

abbrev pub invariant-named_values-loop-kid : goal.invariant-named_values-loop-kid
invariant-named_values-loop-kid l =
    put_children (children (map (part_of l.extent) (drop l.kid-index l.kids))) (members_of l.object)
    ≡ put_children (children (map (part_of l.extent) l.kids)) no_members

abbrev pub invariant-ordered_values-loop-kid : goal.invariant-ordered_values-loop-kid
invariant-ordered_values-loop-kid l =
    items_of l.array ++ forms_of (children (map (part_of l.extent) (drop l.kid-index l.kids)))
    ≡ forms_of (children (map (part_of l.extent) l.kids))

abbrev pub invariant-annotation_values-loop-kid : goal.invariant-annotation_values-loop-kid
invariant-annotation_values-loop-kid l =
    items_of l.array ++ forms_of (map annotation_value (children (map (part_of l.extent) (drop l.kid-index l.kids))))
    ≡ forms_of (map annotation_value (children (map (part_of l.extent) l.kids)))
