use Rattle.std.proofs.Common.{◌≡◌, List, length, map, drop}
use Rattle.aas_model_names.specs.declared.kind.Kind.{Kind}
use Rattle.aas_constraint_rules.specs.Sites.{Own}
use Rattle.aas_value_update.specs.Forms.{part_of}
use Rattle.aas_value.specs.Parts.{children}
use Rattle.aas_value_update.specs.Shape.{sendable, among}
use Rattle.aas_value_patch.specs.Gathered.{AllInOrder, AllOrdered, SoFar, Reached}
use Rattle.aas_value_patch.specs.Sent.{sent_by}
use Rattle.aas_value_patch.proofs.gather.+gather.Given as goal

abbrev pub invariant-gather_all-loop-place : goal.invariant-gather_all-loop-place
invariant-gather_all-loop-place l = record {
  order : AllOrdered (sent_by l.fn.sent (children (map part_of l.kid-items)))
      → AllOrdered (sent_by l.sent (children (map part_of (drop l.place l.kid-items))));
  shape : (o : Own) → AllInOrder l.kid-items → AllOrdered (sent_by l.fn.sent (children (map part_of l.kid-items)))
      → among o 0 (map sendable l.kid-items) (sent_by l.fn.sent (children (map part_of l.kid-items)))
      ≡ among o l.place (map sendable (drop l.place l.kid-items))
      (sent_by l.sent (children (map part_of (drop l.place l.kid-items))));
  rows : AllInOrder l.kid-items → AllOrdered (sent_by l.fn.sent (children (map part_of l.kid-items)))
      → (seen : List Kind) → length seen ≡ l.fn.rank
      → SoFar seen l.fn.rows
      → Reached l.kid-items (sent_by l.fn.sent (children (map part_of l.kid-items))) seen l.fn.rows
      (drop l.place l.kid-items) (sent_by l.sent (children (map part_of (drop l.place l.kid-items)))) l.rank l.rows;
}
