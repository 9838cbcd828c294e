use Rattle.std.proofs.Common.{◌+◌, ◌*◌}
use Rattle.serde_json.specs.Data.{depth, members_depth}
use Rattle.serde_json.specs.View.{view, members_view}
use Rattle.aas_reference.proofs.read.+reference.Given as goal

abbrev pub decreases-reference_of : goal.decreases-reference_of
decreases-reference_of l = 3 * depth (view l.value.now)

abbrev pub decreases-reference_in : goal.decreases-reference_in
decreases-reference_in l = 3 * members_depth (members_view l.members.now.entries) + 2

abbrev pub decreases-referred_member : goal.decreases-referred_member
decreases-referred_member l = 3 * members_depth (members_view l.members.now.entries) + 1
