-- Which paths can be written (IDTA-01002-3-0, idShortPath): an idShort, and behind it idShorts and places.
use Rattle.std.specs.Prelude.{◌<◌, ◌^◌, List, [], ◌∷◌}
use Rattle.std.specs.List.{AllByRecursion}
use Rattle.aas_lexical.specs.Names.{id_short}
use Rattle.aas_model.specs.declared.path.PathStep.{PathStep}
use Rattle.aas_model.specs.declared.path.PathStep.TheVariants.{Name, Place}

-- that a place has at most 9 digits is this profile's own rule
abbrev pub StepKeepsRule : PathStep → Type 0
StepKeepsRule (Name n) = id_short n
StepKeepsRule (Place i) = i < 10 ^ 9

abbrev pub KeepsRule : List PathStep → Type 0
KeepsRule [] = ⊥
KeepsRule (Name n ∷ p) = id_short n × AllByRecursion StepKeepsRule p
KeepsRule (Place i ∷ p) = ⊥
