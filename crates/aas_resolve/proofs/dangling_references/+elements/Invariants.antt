use Rattle.std.proofs.Common.{◌≡◌, Bool}
use Rattle.aas_constraints.specs.Walk.{above_of}
use Rattle.aas_resolve.proofs.Sites.{Reached}
use Rattle.aas_resolve.proofs.dangling_references.+elements.Given as goal

abbrev pub invariant-add_below-loop-place : goal.invariant-add_below-loop-place
invariant-add_below-loop-place g l =
    (l.path.steps ≡ l.initial.path.steps)
    × ((t : Bool) → Reached (g.S.Store.documents l.store) l.id l.initial.found l.found l.path.steps t
    (above_of l.above) l.kid-items l.place)
