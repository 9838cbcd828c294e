use Rattle.std.proofs.Common.{◌≡◌, drop}
use Rattle.aas_target.specs.Routes.{method_among}
use Rattle.aas_target.proofs.method.method_among.Given as goal

abbrev pub invariant-loop-method : goal.invariant-loop-method
invariant-loop-method l = method_among l.name (drop l.method-index l.methods) ≡ method_among l.name l.methods
