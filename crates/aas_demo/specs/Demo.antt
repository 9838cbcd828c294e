-- What `demo` imports: the environment of one submodel, `urn:demo`, whose children are so many properties of whole numbers. This profile's own rule.
use Rattle.std.specs.Prelude.{ℕ, ◌+◌, ◌*◌, ◌%◌, List, [], ◌∷◌, ◌++◌, codes, decimal, map, sum_by, Some, None}
use Rattle.std.specs.List.{range_with_len}
use Rattle.aas_model.specs.Common.{head_with, no_attributes, no_semantics}
use Rattle.aas_model.specs.declared.common.Common.{Common}
use Rattle.aas_model.specs.declared.documents.Environment.{Environment}
use Rattle.aas_model.specs.declared.documents.Submodel.{Submodel}
use Rattle.aas_model.specs.declared.element.Element.{Element, roll-Element}
use Rattle.aas_model.specs.declared.element.Role.TheVariants.{Member}
use Rattle.aas_model.specs.declared.payload.Payload.TheVariants.{Property}
use Rattle.aas_model_names.specs.declared.value_type.ValueType.TheVariants.{Int}

-- ---- nothing is said besides what must be

abbrev pub common_with : List ℕ → Common
common_with id_short = record no_attributes { id_short = Some id_short }

-- ---- property by property, counted from 0

abbrev pub number_of : ℕ → ℕ
number_of place = place * 37 % 1000 + 1

abbrev pub property_at : ℕ → Element
property_at place = roll-Element (record {
  common = common_with (codes "P" ++ decimal place);
  payload = Property Int (Some (decimal (number_of place))) None;
  role = Member;
  kids = [];
})

-- ---- so many of them

abbrev pub submodel_of : ℕ → Submodel
submodel_of count = record {
  head = head_with (codes "urn:demo");
  kind = None;
  semantics = no_semantics;
  qualifiers = [];
  kids = map property_at (range_with_len 0 count);
}

abbrev pub environment_of : ℕ → Environment
environment_of count = record { shells = []; submodels = submodel_of count ∷ []; concepts = [] }

abbrev pub numbers : ℕ → List ℕ
numbers count = map number_of (range_with_len 0 count)

abbrev pub sum_of : ℕ → ℕ
sum_of count = sum_by (λ number. number) (numbers count)
