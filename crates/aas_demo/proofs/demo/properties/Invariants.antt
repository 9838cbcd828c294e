use Rattle.std.proofs.Common.{◌≡◌, map}
use Rattle.std.specs.List.{range_with_len}
use Rattle.aas_demo.specs.Demo.{property_at}
use Rattle.aas_demo.proofs.demo.properties.Given as goal

abbrev pub invariant-loop-place : goal.invariant-loop-place
invariant-loop-place l = l.properties ≡ map property_at (range_with_len 0 l.place)
