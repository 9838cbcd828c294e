use Rattle.std.proofs.Common.{◌+◌, ◌*◌}
use Rattle.aas_canonical_read.proofs.elements.+element.Given as goal

abbrev pub decreases-read_element : goal.decreases-read_element
decreases-read_element l = 6 * l.left

abbrev pub decreases-read_children : goal.decreases-read_children
decreases-read_children l = 6 * l.left + 1

abbrev pub decreases-read_collection : goal.decreases-read_collection
decreases-read_collection l = 6 * l.below + 2

abbrev pub decreases-read_element_list : goal.decreases-read_element_list
decreases-read_element_list l = 6 * l.below + 2

abbrev pub decreases-read_operation : goal.decreases-read_operation
decreases-read_operation l = 6 * l.below + 2

abbrev pub decreases-read_entity : goal.decreases-read_entity
decreases-read_entity l = 6 * l.below + 2

abbrev pub decreases-read_variables : goal.decreases-read_variables
decreases-read_variables l = 6 * l.below + 3

abbrev pub decreases-read_of_kind : goal.decreases-read_of_kind
decreases-read_of_kind l = 6 * l.below + 3

abbrev pub decreases-read_from_id_short : goal.decreases-read_from_id_short
decreases-read_from_id_short l = 6 * l.below + 4

abbrev pub decreases-read_from_start : goal.decreases-read_from_start
decreases-read_from_start l = 6 * l.below + 5
