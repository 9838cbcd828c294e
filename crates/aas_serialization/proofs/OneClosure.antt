-- There is exactly one set of what is taken along.
use Rattle.aas_serialization.specs.Closure.{concept_closure_is, same_closure}
use Rattle.aas_serialization.specs.Laws.{ClosuresAreOne}

pub closures_are_one : ClosuresAreOne
closures_are_one m roots = (concept_closure_is m roots, same_closure m roots)
