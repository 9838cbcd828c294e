use Rattle.std.proofs.Common.{ℕ, ◌+◌, ◌*◌, drop}
use Rattle.serde_json.specs.Data.{Members, depth, items_depth, members_depth}
use Rattle.serde_json.specs.View.{view, items_view, members_view}
use Rattle.aas_json_table.specs.Table.{one}
use Rattle.aas_json_table.specs.Canonical.{canonical_items}
use Rattle.aas_json_read.specs.Own.{sort_under}
use Rattle.aas_json_read.specs.Children.{AddsItems}
use Rattle.aas_json_read.proofs.elements.+element.Given as goal

abbrev pub decreases-child_of : goal.decreases-child_of
decreases-child_of l = 8 * depth (view l.value.now) + 1

abbrev pub decreases-element_of : goal.decreases-element_of
decreases-element_of l = 8 * depth (view l.value.now)

-- this step of what is done among the members of an object
abbrev among : Members → ℕ → ℕ
among ms step = 8 * members_depth ms + step

abbrev pub decreases-variable_in : goal.decreases-variable_in
decreases-variable_in l = among (members_view l.members.now.entries) 6

abbrev pub decreases-element_in : goal.decreases-element_in
decreases-element_in l = among (members_view l.members.now.entries) 6

abbrev pub decreases-kids_in : goal.decreases-kids_in
decreases-kids_in l = among (members_view l.members.now.entries) 5

abbrev pub decreases-variables_in : goal.decreases-variables_in
decreases-variables_in l = among (members_view l.members.now.entries) 4

abbrev pub decreases-children_after : goal.decreases-children_after
decreases-children_after l = among (members_view l.members.now.entries) 3

abbrev pub decreases-items_after : goal.decreases-items_after
decreases-items_after l = 8 * items_depth (items_view l.items.now.items) + 2

-- what was added, before what is left, is what all items say
abbrev pub invariant-items_after-loop-item : goal.invariant-items_after-loop-item
invariant-items_after-loop-item l =
    AddsItems l.role l.fn.before l.all (canonical_items (items_view (drop l.item-index l.item-items)) (one (sort_under l.role))) (canonical_items (items_view l.item-items) (one (sort_under l.role)))
