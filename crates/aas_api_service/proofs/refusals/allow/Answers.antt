use Rattle.std.proofs.Common.{rules}
use Rattle.std.proofs.lemmas.Str.{chars-nil}
use Rattle.aas_api_service.proofs.refusals.allow.Goals as goal

pub returns-in_default : goal.returns-in_default
returns-in_default c = search (rules, chars-nil)
