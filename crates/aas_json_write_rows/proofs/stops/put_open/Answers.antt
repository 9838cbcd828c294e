use Rattle.std.proofs.Common.{[], ◌∷◌, subst, List, ℕ}
use Rattle.aas_out.specs.Adds.{Adds}
use Rattle.aas_json_write_members.specs.Members.{opening}
use Rattle.aas_out.proofs.Adding.{adds_both}
use Rattle.aas_json_write_rows.proofs.stops.put_open.Goals as goal

pub returns : goal.returns
returns g c =
    adds_both c.args.so_far c.add_text-before.result c.add_text.result (g.O.TextEnd.told c.args.out.now)
    (g.O.TextEnd.told c.add_text-before.new.out) (g.O.TextEnd.told c.add_text.new.out) (opening c.args.stop) (123 ∷ [])
    (subst (λ (t : List ℕ). Adds c.args.so_far c.add_text-before.result
    (g.O.TextEnd.told c.args.out.now) (g.O.TextEnd.told c.add_text-before.new.out) t)
    c.opening_of.ensures c.add_text-before.ensures)
    c.add_text.ensures
