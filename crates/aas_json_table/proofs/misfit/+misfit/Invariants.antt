use Rattle.std.proofs.Common.{◌≡◌, drop}
use Rattle.serde_json.specs.View.{items_view, members_view}
use Rattle.aas_json_table.specs.Misfit.{misfit_items, misfit_members, misfit_all}
use Rattle.aas_json_table.specs.Seen.{rows_in, member_type_of}
use Rattle.aas_json_table.proofs.misfit.+misfit.Given as goal

abbrev pub invariant-misfit_items-loop-place : goal.invariant-misfit_items-loop-place
invariant-misfit_items-loop-place l =
    misfit_items (items_view (drop l.place l.items.items)) (member_type_of l.member_type) l.place ≡ misfit_items (items_view l.items.items) (member_type_of l.member_type) 0

abbrev pub invariant-misfit_members-loop-name : goal.invariant-misfit_members-loop-name
invariant-misfit_members-loop-name l =
    misfit_members (members_view l.name-iterator) (rows_in l.rows) ≡ misfit_members (members_view l.members.entries) (rows_in l.rows)

abbrev pub invariant-misfit_all-loop-name : goal.invariant-misfit_all-loop-name
invariant-misfit_all-loop-name l = misfit_all (members_view l.name-iterator) ≡ misfit_all (members_view l.members.entries)
