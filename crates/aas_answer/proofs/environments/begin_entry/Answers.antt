use Rattle.std.proofs.Common.{◌++◌, List, ℕ, sym, ap, ◌∙◌}
use Rattle.std.specs.Prelude.{codes}
use Rattle.aas_out.proofs.Adding.{adds_both, adds_same}
use Rattle.aas_answer.specs.Arrays.{before_entry, name_of}
use Rattle.aas_answer.proofs.Arrays.{begun_is}
use Rattle.aas_answer.proofs.environments.begin_entry.Goals as goal

pub returns : goal.returns
returns g c =
    let t = g.O.Out.told c.args.out.now in
    let u = g.O.Out.told c.add_text-comma.new.out in
    let v = g.O.Out.told c.add_text-opened.new.out in
    let w = g.O.Out.told c.add_text-named.new.out in
    let x = g.O.Out.told c.add_text-2.new.out in
    let comma = c.comma_of.result.now in
    let name = c.name_of.result.now in
    let k = c.args.collection in
    let any = c.args.array.any in
    adds_same c.args.array.state c.add_text-2.result t x
    (comma ++ (codes "\"" ++ (name ++ codes "\":["))) (before_entry c.args.later (name_of k) any)
    (adds_both c.args.array.state c.add_text-comma.result c.add_text-2.result t u x comma
    (codes "\"" ++ (name ++ codes "\":[")) c.add_text-comma.ensures
    (adds_both c.add_text-comma.result c.add_text-opened.result c.add_text-2.result u v x
    (codes "\"") (name ++ codes "\":[") c.add_text-opened.ensures
    (adds_both c.add_text-opened.result c.add_text-named.result c.add_text-2.result v w x name
    (codes "\":[") c.add_text-named.ensures c.add_text-2.ensures)))
    (ap (λ (comma : List ℕ). comma ++ (codes "\"" ++ (name ++ codes "\":["))) c.comma_of.ensures
    ∙ begun_is k c.args.later name c.name_of.ensures
    ∙ ap (before_entry c.args.later (name_of k)) (sym c.if-array.false))
