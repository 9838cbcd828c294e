use Rattle.std.proofs.Common.{arith}
use Rattle.std.proofs.lemmas.List.FromFn.{map-range_with_len_more}
use Rattle.aas_demo.specs.Demo.{property_at}
use Rattle.aas_demo.proofs.demo.properties.Goals as goal

pub loop-place-preserved : goal.loop-place-preserved
loop-place-preserved c = let n = c.loop-place.place in grind (arith, c.in_ok-push.ensures.ok, c.loop-place.invariant, c.in_ok-property_at.ensures, map-range_with_len_more property_at 0 n n (omega arith))
