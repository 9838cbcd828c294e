use Rattle.std.proofs.Common.{refl}
use Rattle.std.specs.Fmt.{digits}
use Rattle.aas_http.specs.ReplyText.{reply_text}
use Rattle.aas_session.specs.Refusals.{storage_fault}
use Rattle.aas_session.proofs.refusals.storage_fault.Goals as goal

pub returns : goal.returns
unfolding storage_fault reply_text digits
returns c = refl
