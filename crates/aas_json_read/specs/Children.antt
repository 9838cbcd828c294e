-- Children that are read behind others.
use Rattle.std.specs.Prelude.{◌≡◌, ◌++◌, List, true, map, Option}
use Rattle.std.specs.List.{list_all}
use Rattle.serde_json.specs.Data.{Data, Items}
use Rattle.aas_json_table.specs.Spelled.{list_of, onto}
use Rattle.aas_json_mapping.specs.Elements.{spelled_child}
use Rattle.aas_model.specs.declared.element.Element.{Element}
use Rattle.aas_model.specs.declared.element.Role.{Role}
use Rattle.aas_json_read.specs.Own.{spell_under, seen, suits}

-- all that was before, and behind it children of a role, which before the rest are spelled by the items
pub record AddsItems (r : Role) (before all : List Element) (rest items : Items) : Type 0 where
  pub more : List Element
  pub after : all ≡ before ++ more
  pub says : onto (map (λ e. spell_under r (spelled_child e)) more) rest ≡ items
  pub places : list_all (λ e. suits r (seen e)) more ≡ true

-- the same, where an attribute spells them
pub record AddsChildren (r : Role) (before all : List Element) (attribute : Option Data) : Type 0 where
  pub more : List Element
  pub after : all ≡ before ++ more
  pub says : list_of (λ e. spell_under r (spelled_child e)) more ≡ attribute
  pub places : list_all (λ e. suits r (seen e)) more ≡ true
