use Rattle.std.proofs.Common.{get_or}
use Rattle.std.proofs.lemmas.Option.{slice_get-get_or}
use Rattle.aas_template.proofs.Themselves.{first_below}
use Rattle.aas_template.proofs.walk.conforms.Goals as goal

pub difference_among-requires-clause-below : goal.difference_among-requires-clause-below
difference_among-requires-clause-below c =
    λ k d lt. first_below c.args.template.now c.requires k (get_or c.args.template.now.kids k d) (slice_get-get_or c.args.template.now.kids k d lt)
