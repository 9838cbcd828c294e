use Rattle.std.proofs.Common.{◌≡◌, ◌+◌, None, drop}
use Rattle.aas_resolve.specs.Resolved.{along, child_of}
use Rattle.aas_resolve.proofs.resolution.target_along.Given as goal

abbrev pub invariant-loop-place : goal.invariant-loop-place
invariant-loop-place g l =
    let child = child_of (g.S.Store.documents l.store) l.collection l.id in
    along child l.collection 1 None l.keys ≡ along child l.collection (l.place + 1) l.at (drop l.place l.keys)
