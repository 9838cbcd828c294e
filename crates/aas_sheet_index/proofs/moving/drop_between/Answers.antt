use Rattle.std.proofs.Common.{rules}
use Rattle.std.proofs.lemmas.Fn.{filter_same}
use Rattle.aas_sheet_index.specs.Moving.{stays}
use Rattle.aas_sheet_index.proofs.moving.drop_between.Goals as goal

pub returns-else-end-first-le-FEW : goal.returns-else-end-first-le-FEW
returns-else-end-first-le-FEW c =
    filter_same _ (stays c.args.first c.args.end) _ (λ x b f' k. search rules) _ _ c.retain.ensures.filtered
