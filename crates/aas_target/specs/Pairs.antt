-- What one pair of a query does to what is given: it is passed over if its parameter isn't listed.
use Rattle.std.specs.Prelude.{◌≡◌, Option, Some, None}
use Rattle.aas_target.specs.Given.{Takes}
use Rattle.aas_target.specs.Query.{Setting}
use Rattle.aas_target.specs.declared.given.Given.{Given}
use Rattle.aas_target.specs.declared.parameter.Parameter.{Parameter}

abbrev pub TakesIfListed : Given → Option Setting → Given → Type 0
TakesIfListed g None more = more ≡ g
TakesIfListed g (Some s) more = Takes g s more

-- it has this parameter, and can't be taken
abbrev pub IsRefused : Given → Option Setting → Parameter → Type 0
IsRefused g None p = ⊥
IsRefused g (Some s) p = ((more : Given) → ¬ Takes g s more) × (p ≡ s.0)
