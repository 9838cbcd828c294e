use Rattle.std.proofs.Common.{[], ◌∷◌, ◌++◌, ap, ◌∙◌}
use Rattle.aas_constraints.specs.Walk.{above_of}
use Rattle.aas_model.specs.declared.path.Path.{Path}
use Rattle.aas_resolve.proofs.Sites.{element_done, ended, turn_of_path}
use Rattle.aas_resolve.proofs.dangling_references.+elements.Goals as goal

pub add_in-returns-clause-found : goal.add_in-returns-clause-found
add_in-returns-clause-found g t c =
    element_done (g.S.Store.documents c.args.store.now) c.args.id.now
    c.add_below.result c.args.found.now c.add_at.new.found c.add_below.new.found
    c.args.path.now.steps c.args.element.now c.in_ok-add_at.ensures c.add_below.ensures.found

pub add_below-loop-place-preserved : goal.add_below-loop-place-preserved
add_below-loop-place-preserved g t c =
    turn_of_path (g.S.Store.documents c.args.store.now) c.args.id.now
    c.args.found.now c.loop-place.found c.add_in.new.found
    c.args.path.now.steps c.loop-place.path.steps c.push.new.self c.add_in.new.path.steps c.remove.new.self c.len.result
    (above_of c.args.above) c.as_slice-kid-items.result.now c.loop-place.place c.kid-item.result
    c.loop-place.invariant.0 c.loop-place-test.true c.kid-item.is
    (c.in_ok-push.ensures.ok ∙ ap (λ s. c.loop-place.path.steps ++ s ∷ []) c.in_ok-step_to.ensures)
    (ap (λ (q : Path). q.steps) c.in_ok-add_in.ensures.path) c.len.ensures c.remove.ensures.rest
    c.in_ok-add_in.ensures.found c.loop-place.invariant.1

pub add_below-returns-clause-found : goal.add_below-returns-clause-found
add_below-returns-clause-found g t c =
    ended (g.S.Store.documents c.args.store.now) c.args.id.now c.args.found.now
    c.loop-place.found c.args.path.now.steps c.loop-place.path.steps
    (above_of c.args.above) c.args.kids.now c.as_slice-kid-items.result.now c.loop-place.place
    c.loop-place.invariant.0 c.as_slice-kid-items.ensures c.loop-place-test.false c.loop-place.invariant.1
