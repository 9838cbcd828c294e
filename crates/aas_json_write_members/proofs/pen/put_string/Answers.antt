use Rattle.std.proofs.Common.{refl}
use Rattle.json.specs.Print.{quoted}
use Rattle.aas_json_write_members.specs.Keys.{name_in}
use Rattle.aas_json_write_members.proofs.Putting.{put_value, quoted_put}
use Rattle.aas_json_write_members.proofs.pen.put_string.Goals as goal

pub returns : goal.returns
returns g c =
    put_value c.args.pen.later c.args.pen.state c.add_key-named.result c.add_text.result
    (g.O.TextEnd.told c.args.out.now) (g.O.TextEnd.told c.add_key-named.new.out) (g.O.TextEnd.told c.add_text.new.out)
    (name_in c.args.key.now) (quoted c.args.value.now) c.add_key-named.ensures
    (quoted_put c.add_key-named.result c.add_text-opened.result c.add_escaped-valued.result c.add_text.result
    (g.O.TextEnd.told c.add_key-named.new.out) (g.O.TextEnd.told c.add_text-opened.new.out)
    (g.O.TextEnd.told c.add_escaped-valued.new.out) (g.O.TextEnd.told c.add_text.new.out)
    c.args.value.now _ refl c.add_text-opened.ensures c.add_escaped-valued.ensures c.add_text.ensures)
