use Rattle.serde_json.specs.Data.{boolean}
use Rattle.serde_json.specs.Written.{compact_text}
use Rattle.aas_json_write_members.specs.Keys.{name_in}
use Rattle.aas_json_write_members.proofs.Putting.{put_missing, put_present, put_value}
use Rattle.aas_json_write_members.proofs.pen.put_optional_flag.Goals as goal

pub returns-in-Some : goal.returns-in-Some
returns-in-Some g c =
    put_present boolean c.args.value c.in-Some.flag c.in-Some.is
    (put_value c.args.pen.later c.args.pen.state c.add_key-named.result c.add_flag.result
    (g.O.TextEnd.told c.args.out.now) (g.O.TextEnd.told c.add_key-named.new.out) (g.O.TextEnd.told c.add_flag.new.out)
    (name_in c.args.key.now) (compact_text (boolean c.in-Some.flag)) c.add_key-named.ensures c.add_flag.ensures)

pub returns-in-None : goal.returns-in-None
returns-in-None g c =
    put_missing boolean c.args.pen (g.O.TextEnd.told c.args.out.now) (name_in c.args.key.now) c.args.value c.in-None.is
