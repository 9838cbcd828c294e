use Rattle.std.proofs.Common.{ap, option_map}
use Rattle.std.specs.Str.{chars}
use Rattle.aas_json_table.specs.Spelled.{text_of}
use Rattle.aas_json_write_members.specs.Keys.{name_in}
use Rattle.aas_json_write_members.proofs.Putting.{put_missing}
use Rattle.aas_json_write_members.proofs.pen.put_optional_str.Goals as goal

pub returns-in-None : goal.returns-in-None
returns-in-None g c =
    put_missing text_of c.args.pen (g.O.TextEnd.told c.args.out.now) (name_in c.args.key.now)
    (option_map (λ s. chars s.now) c.args.value) (ap (option_map (λ s. chars s.now)) c.in-None.is)
