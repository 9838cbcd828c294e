use Rattle.std.proofs.Common.{option_and_then, ap, sym, ◌∙◌}
use Rattle.serde_json.specs.View.{members_view}
use Rattle.aas_json_table.specs.Canonical.{canonical}
use Rattle.aas_json_members.proofs.Lookup.{canonical_member_is, found_depth}
use Rattle.aas_json_members.proofs.members.member.Goals as goal

pub returns-clause-canonical : goal.returns-clause-canonical
returns-clause-canonical c = λ f. canonical_member_is c.args.name.now f (members_view c.args.members.now.entries) ∙ ap (option_and_then (canonical f)) (sym c.member.ensures)

pub returns-clause-depth : goal.returns-clause-depth
returns-clause-depth c = found_depth c.args.name.now (members_view c.args.members.now.entries) c.member.result c.member.ensures
