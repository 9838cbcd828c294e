use Rattle.std.proofs.Common.{arith}
use Rattle.std.proofs.lemmas.List.FromFn.{sum_by-map-range_with_len_more}
use Rattle.aas_demo.specs.Demo.{number_of}
use Rattle.aas_demo.proofs.demo.sum_of.Goals as goal

pub loop-place-preserved : goal.loop-place-preserved
loop-place-preserved c = let n = c.loop-place.place in grind (arith, sum_by-map-range_with_len_more (λ number. number) number_of 0 n n (omega arith))
