use Rattle.std.proofs.Common.{◌≡◌, flat_map, drop}
use Rattle.std.specs.List.{list_all}
use Rattle.aas_constraint_rules.specs.Decided.{is_string}
use Rattle.aas_constraint_parts.proofs.strings.are_strings.Given as goal

abbrev pub invariant-loop-item : goal.invariant-loop-item
invariant-loop-item g l = list_all is_string (flat_map g.T.HoldsTexts.texts l.items) ≡ list_all is_string (flat_map g.T.HoldsTexts.texts (drop l.item-index l.items))
