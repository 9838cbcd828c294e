use Rattle.std.proofs.Common.{◌≡◌, drop}
use Rattle.aas_target.specs.Query.{parameter_among}
use Rattle.aas_target.proofs.query.parameter_among.Given as goal

abbrev pub invariant-loop-parameter : goal.invariant-loop-parameter
invariant-loop-parameter l = parameter_among l.name (drop l.parameter-index l.listed) ≡ parameter_among l.name l.listed
