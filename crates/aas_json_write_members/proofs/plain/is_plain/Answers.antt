use Rattle.json.proofs.Printed.Plain.{escape_on_plain}
use Rattle.aas_json_write_members.proofs.plain.is_plain.Goals as goal

pub returns-else-text-lt4 : goal.returns-else-text-lt4
returns-else-text-lt4 c = escape_on_plain c.is_plain_by_lanes.result c.args.text.now c.is_plain_by_lanes.ensures
