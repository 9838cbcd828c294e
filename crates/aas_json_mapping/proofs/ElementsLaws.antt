-- The laws of elements: the five facts from which all others follow.
use Rattle.aas_json_table.specs.Table.{element}
use Rattle.aas_json_spelling.proofs.Laws.{Laws}
use Rattle.aas_json_mapping.specs.Shape.{IsShaped}
use Rattle.aas_json_mapping.specs.Trees.{elements}
use Rattle.aas_json_mapping.proofs.ElementsWhole.{whole_parts, element_facts}
use Rattle.aas_json_mapping.proofs.Found.{found}

pub elements_laws : Laws elements IsShaped
elements_laws = record {
  shaped = λ l e w. (whole_parts l e w).shape;
  good = element_facts.good;
  back = element_facts.back;
  same = element_facts.same;
  found = found element;
}
