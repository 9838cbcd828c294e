use Rattle.std.proofs.Common.{refl}
use Rattle.aas_json_write_members.proofs.Putting.{quoted_put}
use Rattle.aas_json_write_members.proofs.quoted.add_quoted.Goals as goal

pub returns : goal.returns
returns g c =
    quoted_put c.args.so_far c.add_text-opened.result c.add_escaped-escaped.result c.add_text.result
    (g.O.TextEnd.told c.args.out.now) (g.O.TextEnd.told c.add_text-opened.new.out)
    (g.O.TextEnd.told c.add_escaped-escaped.new.out) (g.O.TextEnd.told c.add_text.new.out)
    c.args.text.now _ refl c.add_text-opened.ensures c.add_escaped-escaped.ensures c.add_text.ensures
