use Rattle.std.proofs.Common.{rules}
use Rattle.aas_json_write_members.specs.declared.stops.Stop.TheVariants as stop
use Rattle.aas_json_write_members.proofs.Shown.{put_nothing, puts_before, puts_last}
use Rattle.aas_json_write_members.proofs.elements.CanonicalMembersMembers.put_part.Goals as goal

pub returns-in-Some-Annotations : goal.returns-in-Some-Annotations
returns-in-Some-Annotations g c = puts_before _ _ stop.Annotations (search rules)
    (put_nothing (record { state = c.args.so_far; later = c.args.later }) _)

pub returns-in-Some-InoutputVariables : goal.returns-in-Some-InoutputVariables
returns-in-Some-InoutputVariables g c = puts_before _ _ stop.InoutputVariables (search rules) c.put_described.ensures

pub returns-in-Some-InputVariables : goal.returns-in-Some-InputVariables
returns-in-Some-InputVariables g c = puts_before _ _ stop.InputVariables (search rules)
    (put_nothing (record { state = c.args.so_far; later = c.args.later }) _)

pub returns-in-Some-OutputVariables : goal.returns-in-Some-OutputVariables
returns-in-Some-OutputVariables g c = puts_before _ _ stop.OutputVariables (search rules) c.put_typed.ensures

pub returns-in-Some-Statements : goal.returns-in-Some-Statements
returns-in-Some-Statements g c = puts_before _ _ stop.Statements (search rules) c.put_meant.ensures

pub returns-in-Some-Value : goal.returns-in-Some-Value
returns-in-Some-Value g c = puts_before _ _ stop.Value (search rules) c.put_supplemental.ensures

pub returns-in-None : goal.returns-in-None
returns-in-None g c = puts_last _ _ (search rules) c.put_value.ensures
