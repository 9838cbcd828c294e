use Rattle.std.proofs.Common.{[], ◌∷◌, ◌++◌, subst, List, ℕ}
use Rattle.aas_out.specs.Adds.{Adds}
use Rattle.json.specs.Print.{quoted}
use Rattle.serde_json.specs.Written.{comma_if}
use Rattle.aas_json_write_members.specs.Members.{stop_name}
use Rattle.aas_out.proofs.Adding.{adds_both}
use Rattle.aas_json_write_rows.proofs.stops.put_name.Goals as goal

pub returns : goal.returns
returns g c =
    adds_both c.args.so_far c.add_text-comma.result c.add_text.result (g.O.TextEnd.told c.args.out.now)
    (g.O.TextEnd.told c.add_text-comma.new.out) (g.O.TextEnd.told c.add_text.new.out)
    (comma_if c.args.later) (quoted (stop_name c.args.stop) ++ 58 ∷ 91 ∷ [])
    (subst (λ (t : List ℕ). Adds c.args.so_far c.add_text-comma.result
    (g.O.TextEnd.told c.args.out.now) (g.O.TextEnd.told c.add_text-comma.new.out) t)
    c.comma_of.ensures c.add_text-comma.ensures)
    (subst (λ (t : List ℕ). Adds c.add_text-comma.result c.add_text.result
    (g.O.TextEnd.told c.add_text-comma.new.out) (g.O.TextEnd.told c.add_text.new.out) t)
    c.name_of.ensures c.add_text.ensures)
