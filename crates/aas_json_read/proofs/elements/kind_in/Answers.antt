use Rattle.std.proofs.Common.{sym, ◌∙◌}
use Rattle.serde_json.specs.View.{members_view}
use Rattle.aas_json_read.proofs.ModelTypes.{found_name, no_rows, rows_are, rows_are_none}
use Rattle.aas_json_read.proofs.elements.kind_in.Goals as goal

pub returns-then-may_have-clause-rows : goal.returns-then-may_have-clause-rows
returns-then-may_have-clause-rows c = rows_are c.args.role (members_view c.args.members.now.entries) c.in-Some.kind (sym c.may_have.ensures ∙ c.if-may_have.true) c.in-Some.ensures

pub returns-then-may_have-clause-name : goal.returns-then-may_have-clause-name
returns-then-may_have-clause-name c = found_name (members_view c.args.members.now.entries) c.in-Some.kind c.in-Some.ensures

pub returns-else-may_have-clause-rows : goal.returns-else-may_have-clause-rows
returns-else-may_have-clause-rows c = rows_are_none c.args.role (members_view c.args.members.now.entries) c.in-Some.kind (sym c.may_have.ensures ∙ c.if-may_have.false) c.in-Some.ensures

pub returns-in-None-clause-rows : goal.returns-in-None-clause-rows
returns-in-None-clause-rows c = no_rows c.args.role (members_view c.args.members.now.entries) c.in-None.ensures
