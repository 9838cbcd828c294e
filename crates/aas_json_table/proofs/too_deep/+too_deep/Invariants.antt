use Rattle.std.proofs.Common.{◌≡◌, drop}
use Rattle.serde_json.specs.View.{items_view, members_view}
use Rattle.aas_json_table.specs.TooDeep.{too_deep_items, too_deep_members, too_deep_all}
use Rattle.aas_json_table.specs.Seen.{rows_in, member_type_of, levels_of}
use Rattle.aas_json_table.proofs.too_deep.+too_deep.Given as goal

abbrev pub invariant-too_deep_items-loop-place : goal.invariant-too_deep_items-loop-place
invariant-too_deep_items-loop-place l =
    too_deep_items (items_view (drop l.place l.items.items)) (member_type_of l.member_type) l.place (levels_of l.left) ≡ too_deep_items (items_view l.items.items) (member_type_of l.member_type) 0 (levels_of l.left)

abbrev pub invariant-too_deep_members-loop-name : goal.invariant-too_deep_members-loop-name
invariant-too_deep_members-loop-name l =
    too_deep_members (members_view l.name-iterator) (rows_in l.rows) (levels_of l.left) ≡ too_deep_members (members_view l.members.entries) (rows_in l.rows) (levels_of l.left)

abbrev pub invariant-too_deep_all-loop-name : goal.invariant-too_deep_all-loop-name
invariant-too_deep_all-loop-name l =
    too_deep_all (members_view l.name-iterator) (levels_of l.left) ≡ too_deep_all (members_view l.members.entries) (levels_of l.left)
