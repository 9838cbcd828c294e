use Rattle.std.proofs.Common.{◌≡◌, ◌+◌, ◌≤◌, map, drop}
use Rattle.serde_json.specs.View.{members_view}
use Rattle.aas_value_update.specs.Forms.{part_of}
use Rattle.aas_value_patch.specs.Counted.{found}
use Rattle.aas_value_patch.proofs.parents.count_found.Given as goal

abbrev pub invariant-loop-kid : goal.invariant-loop-kid
invariant-loop-kid l = record {
  counted : l.count + found (map part_of (drop l.kid-index l.kids)) (members_view l.members.entries)
      ≡ found (map part_of l.kids)
      (members_view l.members.entries);
  small : l.count ≤ l.kid-index;
}
