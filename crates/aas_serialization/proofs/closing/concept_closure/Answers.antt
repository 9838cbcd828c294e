use Rattle.std.proofs.lemmas.Result.{IfOk-weaker}
use Rattle.aas_serialization.specs.Chosen.{roots_of}
use Rattle.aas_serialization.proofs.Closings.{closing_first}
use Rattle.aas_serialization.proofs.closing.concept_closure.Goals as goal

pub returns : goal.returns
returns g c =
    let m = g.S.Store.documents c.args.store.now in
    let shells = c.args.shells.now in
    let submodels = c.args.submodels.now in
    IfOk-weaker c.follow_cases.result _ _
    (λ ids is. is (roots_of m shells submodels)
    (closing_first m shells submodels c.nothing-taken.result c.take_shells.new.taken c.take_submodels.new.taken c.nothing-taken.ensures.ids c.nothing-taken.ensures.waiting c.in_ok-take_shells.ensures c.in_ok-take_submodels.ensures))
    c.follow_cases.ensures
