use Rattle.std.proofs.Common.{Some, None, cond, sym, ap, ◌∙◌, arith}
use Rattle.std.specs.FinMap as map
use Rattle.aas_store.specs.Spots.{step_of}
use Rattle.aas_resolve.proofs.TooFar.{named_by}
use Rattle.aas_resolve.proofs.resolution.child_named.Goals as goal

pub returns-in_err-spot : goal.returns-in_err-spot
returns-in_err-spot g c =
    let o = map.get (g.S.Store.documents c.args.store.now).submodels c.args.id.now in
    named_by o c.args.at c.args.key.now c.is_list_at.result (step_of c.in_ok-step.step) c.rank_of.result None
    c.from_residual-in_err-spot.result c.is_list_at.ensures c.rank_of.ensures c.in_ok-step.ensures
    c.in_err-spot.ensures tt c.from_residual-in_err-spot.ensures

pub returns-then-admits : goal.returns-then-admits
returns-then-admits g c =
    let o = map.get (g.S.Store.documents c.args.store.now).submodels c.args.id.now in
    let spot = c.in_ok-spot.spot in
    named_by o c.args.at c.args.key.now c.is_list_at.result (step_of c.in_ok-step.step) c.rank_of.result
    (Some spot) (Some spot) c.is_list_at.ensures c.rank_of.ensures
    c.in_ok-step.ensures c.in_ok-spot.ensures (omega arith)
    (sym (ap (λ b. cond b (Some spot) None) (sym c.admits.ensures ∙ c.if-admits.true)))

pub returns-else-admits : goal.returns-else-admits
returns-else-admits g c =
    let o = map.get (g.S.Store.documents c.args.store.now).submodels c.args.id.now in
    let spot = c.in_ok-spot.spot in
    named_by o c.args.at c.args.key.now c.is_list_at.result (step_of c.in_ok-step.step) c.rank_of.result
    (Some spot) None c.is_list_at.ensures c.rank_of.ensures c.in_ok-step.ensures c.in_ok-spot.ensures (omega arith)
    (sym (ap (λ b. cond b (Some spot) None) (sym c.admits.ensures ∙ c.if-admits.false)))
