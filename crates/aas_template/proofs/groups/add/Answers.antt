use Rattle.std.proofs.Common.{[], ◌∷◌}
use Rattle.std.proofs.lemmas.Result.{on_ok_weaker}
use Rattle.aas_template.proofs.Gathered.{gathered_more}
use Rattle.aas_template.proofs.groups.add.Goals as goal

pub returns : goal.returns
returns c =
    on_ok_weaker c.put.result (λ added before there.
    gathered_more c.args.groups.now.items c.args.place c.index_mut.result.now c.put.new.group before (c.args.element.now ∷ []) c.requires c.index_mut.ensures.value added there)
    c.put.ensures
