use Rattle.std.proofs.Common.{inr, refl, rules}
use Rattle.aas_api.proofs.segments.identifier.Goals as goal

pub returns-in-Err-BadIdentifier-clause-err : goal.returns-in-Err-BadIdentifier-clause-err
returns-in-Err-BadIdentifier-clause-err c = inr (refl, c.id_from_segment.ensures.bad (search rules))
