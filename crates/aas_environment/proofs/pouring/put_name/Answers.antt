use Rattle.std.proofs.Common.{◌++◌, codes}
use Rattle.aas_out.proofs.Adding.{adds_both, adds_same}
use Rattle.aas_environment.specs.Members.{name_text}
use Rattle.aas_environment.proofs.Written.{plain_name}
use Rattle.aas_environment.proofs.pouring.put_name.Goals as goal

pub returns : goal.returns
returns g c =
    let t = g.O.TextEnd.told c.args.out.now in
    let u = g.O.TextEnd.told c.add_text-opened.new.out in
    let v = g.O.TextEnd.told c.add_text-named.new.out in
    let w = g.O.TextEnd.told c.add_text.new.out in
    let name = c.name_of.result.now in
    adds_same c.args.so_far c.add_text.result t w (codes "\"" ++ (name ++ codes "\":")) (name_text c.args.collection)
    (adds_both c.args.so_far c.add_text-opened.result c.add_text.result t u w
    (codes "\"") (name ++ codes "\":") c.add_text-opened.ensures
    (adds_both c.add_text-opened.result c.add_text-named.result c.add_text.result u v w name
    (codes "\":") c.add_text-named.ensures c.add_text.ensures))
    (plain_name c.args.collection name c.name_of.ensures)
