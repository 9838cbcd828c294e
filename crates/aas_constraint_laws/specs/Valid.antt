-- Valid documents.
use Rattle.std.specs.Prelude.{Bool, IsTrue}
use Rattle.aas_json_table.specs.TooDeep.{limits}
use Rattle.aas_json_mapping.specs.Whole.{is_whole_submodel, is_whole_shell, is_whole_concept}
use Rattle.aas_constraint_rules.specs.Faults.{Document, submodel, shell, concept, HasNoFault}

abbrev pub is_whole : Document → Bool
is_whole (submodel d) = is_whole_submodel limits d
is_whole (shell d) = is_whole_shell limits d
is_whole (concept d) = is_whole_concept limits d

-- A document is valid: it is whole within the limits, so that it can be written and read, and it has no fault.
pub record IsValid (x : Document) : Type 0 where
  pub whole : IsTrue (is_whole x)
  pub faultless : HasNoFault x
