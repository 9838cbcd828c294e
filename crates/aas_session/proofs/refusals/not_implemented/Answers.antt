use Rattle.std.proofs.Common.{refl}
use Rattle.std.specs.Fmt.{digits}
use Rattle.aas_http.specs.ReplyText.{reply_text}
use Rattle.aas_session.specs.Refusals.{not_implemented}
use Rattle.aas_session.proofs.refusals.not_implemented.Goals as goal

pub returns : goal.returns
unfolding not_implemented reply_text digits
returns c = refl
