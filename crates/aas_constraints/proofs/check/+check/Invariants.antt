use Rattle.std.proofs.Common.{◌≡◌, [], map, filter_map, take, drop}
use Rattle.std.specs.Bool.{OnFalse}
use Rattle.std.specs.Option.{option_copied}
use Rattle.aas_constraint_rules.specs.Rules.{name_of, semantics_of, first_some}
use Rattle.aas_constraint_parts.specs.Repeats.{HasTexts}
use Rattle.aas_constraint_rules.specs.Sites.{own_of}
use Rattle.aas_constraints.specs.Walk.{above_of, found_among}
use Rattle.aas_constraints.proofs.check.+check.Given as goal

abbrev pub invariant-check_among-loop-place : goal.invariant-check_among-loop-place
invariant-check_among-loop-place l = record {
  names : OnFalse l.differ (HasTexts l.names (filter_map name_of (map own_of (take l.place l.kid-items))));
  lead : option_copied l.lead ≡ first_some (map semantics_of (map own_of (take l.place l.kid-items)));
  rest : found_among l.scope l.in_template (above_of l.above) [] l.kid-items ≡ found_among l.scope l.in_template (above_of l.above) (map own_of (take l.place l.kid-items)) (drop l.place l.kid-items);
}
