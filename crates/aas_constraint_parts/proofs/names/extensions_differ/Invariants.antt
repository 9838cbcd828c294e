use Rattle.std.proofs.Common.{◌≡◌, map, take, drop}
use Rattle.aas_constraint_rules.specs.Texts.{all_differ, all_differ_after}
use Rattle.aas_constraint_parts.specs.Repeats.{HasTexts}
use Rattle.aas_constraint_parts.proofs.names.extensions_differ.Given as goal

abbrev pub invariant-loop-extension : goal.invariant-loop-extension
invariant-loop-extension l = record {
  known : HasTexts l.names (map (λ x. x.name) (take l.extension-index l.extensions));
  rest : all_differ (map (λ x. x.name) l.extensions) ≡ all_differ_after (map (λ x. x.name) (take l.extension-index l.extensions)) (map (λ x. x.name) (drop l.extension-index l.extensions));
}
