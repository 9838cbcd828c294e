use Rattle.std.proofs.Common.{rules}
use Rattle.std.proofs.lemmas.Str.{chars-nil}
use Rattle.aas_api_service.proofs.replies.open_reply.Goals as goal

pub returns-clause-reply : goal.returns-clause-reply
returns-clause-reply c = search (rules, chars-nil)
