use Rattle.std.proofs.Common.{refl}
use Rattle.aas_json_write_members.proofs.Putting.{name_put}
use Rattle.aas_json_write_members.proofs.pen.add_any_name.Goals as goal

pub returns : goal.returns
returns g c =
    name_put c.args.pen.later c.args.pen.state c.add_text-opened.result c.add_escaped-escaped.result c.add_text.result
    (g.O.TextEnd.told c.args.out.now) (g.O.TextEnd.told c.add_text-opened.new.out)
    (g.O.TextEnd.told c.add_escaped-escaped.new.out) (g.O.TextEnd.told c.add_text.new.out) c.args.name.now _ _
    c.before_name.ensures refl c.add_text-opened.ensures c.add_escaped-escaped.ensures c.add_text.ensures
