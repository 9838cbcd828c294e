-- What has no attributes but those that it must have. IDTA-01001-3-0, the classes Identifiable, Referable, HasExtensions,
-- HasDataSpecification, HasSemantics and Qualifiable, whose other attributes are optional.
use Rattle.std.specs.Prelude.{ℕ, List, [], None}
use Rattle.aas_model.specs.declared.common.Common.{Common}
use Rattle.aas_model.specs.declared.common.Head.{Head}
use Rattle.aas_model.specs.declared.reference.Semantics.{Semantics}

abbrev pub no_semantics : Semantics
no_semantics = record { semantic_id = None; supplemental_semantic_ids = [] }

-- an element that says nothing of itself
abbrev pub no_attributes : Common
no_attributes = record {
  id_short = None;
  category = None;
  description = [];
  display_name = [];
  extensions = [];
  embedded_data_specifications = [];
  semantics = no_semantics;
  qualifiers = [];
}

-- a document that says nothing of itself but its identifier
abbrev pub head_with : List ℕ → Head
head_with id = record {
  id = id;
  administration = None;
  id_short = None;
  category = None;
  description = [];
  display_name = [];
  extensions = [];
  embedded_data_specifications = [];
}
