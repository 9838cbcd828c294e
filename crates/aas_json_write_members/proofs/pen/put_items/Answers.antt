use Rattle.std.proofs.Common.{◌∷◌, [], false}
use Rattle.aas_out.proofs.Adding.{adds_both}
use Rattle.aas_json_write_members.specs.Keys.{name_in}
use Rattle.aas_json_write_members.proofs.Putting.{items_left, put_value}
use Rattle.aas_json_write_members.proofs.pen.put_items.Goals as goal

pub returns : goal.returns
returns g c =
    let items = items_left g.P.Poured.spell false c.args.items.now in
    put_value c.args.pen.later c.args.pen.state c.add_key-named.result c.pour_items.result
    (g.O.TextEnd.told c.args.out.now) (g.O.TextEnd.told c.add_key-named.new.out)
    (g.O.TextEnd.told c.pour_items.new.out) (name_in c.args.key.now) (91 ∷ items) c.add_key-named.ensures
    (adds_both c.add_key-named.result c.add_text-opened.result c.pour_items.result
    (g.O.TextEnd.told c.add_key-named.new.out) (g.O.TextEnd.told c.add_text-opened.new.out)
    (g.O.TextEnd.told c.pour_items.new.out) (91 ∷ []) items c.add_text-opened.ensures c.pour_items.ensures)
