use Rattle.serde_json.specs.Written.{compact_text}
use Rattle.aas_json_write_members.specs.Keys.{name_in}
use Rattle.aas_json_write_members.proofs.Putting.{put_value}
use Rattle.aas_json_write_members.proofs.pen.put_one.Goals as goal

pub returns : goal.returns
returns g c =
    put_value c.args.pen.later c.args.pen.state c.add_key-named.result c.pour.result (g.O.TextEnd.told c.args.out.now)
    (g.O.TextEnd.told c.add_key-named.new.out) (g.O.TextEnd.told c.pour.new.out) (name_in c.args.key.now)
    (compact_text (g.P.Poured.spell c.args.value.now)) c.add_key-named.ensures c.pour.ensures
