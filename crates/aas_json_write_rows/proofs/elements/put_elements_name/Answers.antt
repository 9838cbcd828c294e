use Rattle.std.proofs.Common.{[], ◌∷◌, ◌++◌}
use Rattle.std.specs.Prelude.{codes}
use Rattle.json.specs.Print.{quoted, escape_byte}
use Rattle.serde_json.specs.Written.{comma_if}
use Rattle.aas_out.proofs.Adding.{adds_both, adds_same}
use Rattle.aas_json_write_rows.proofs.elements.put_elements_name.Goals as goal

pub returns : goal.returns
unfolding escape_byte
returns g c =
    adds_both c.args.pen.state c.add_text-comma.result c.add_text.result (g.O.TextEnd.told c.args.out.now)
    (g.O.TextEnd.told c.add_text-comma.new.out) (g.O.TextEnd.told c.add_text.new.out)
    (comma_if c.args.pen.later) (quoted (codes "submodelElements") ++ 58 ∷ 91 ∷ [])
    (adds_same c.args.pen.state c.add_text-comma.result (g.O.TextEnd.told c.args.out.now)
    (g.O.TextEnd.told c.add_text-comma.new.out) c.comma_of.result.now
    (comma_if c.args.pen.later) c.add_text-comma.ensures c.comma_of.ensures)
    c.add_text.ensures
