use Rattle.std.proofs.Common.{◌≡◌, map, take, drop}
use Rattle.aas_constraint_rules.specs.Texts.{all_differ, all_differ_after}
use Rattle.aas_constraint_parts.specs.Repeats.{HasTexts}
use Rattle.aas_constraint_parts.proofs.names.qualifiers_differ.Given as goal

abbrev pub invariant-loop-qualifier : goal.invariant-loop-qualifier
invariant-loop-qualifier l = record {
  known : HasTexts l.types (map (λ x. x.qualifier_type) (take l.qualifier-index l.qualifiers));
  rest : all_differ (map (λ x. x.qualifier_type) l.qualifiers) ≡ all_differ_after (map (λ x. x.qualifier_type) (take l.qualifier-index l.qualifiers)) (map (λ x. x.qualifier_type) (drop l.qualifier-index l.qualifiers));
}
