use Rattle.std.proofs.Common.{refl}
use Rattle.std.specs.Fmt.{digits}
use Rattle.aas_http.specs.ReplyText.{reply_text}
use Rattle.aas_session.specs.Refusals.{bad_request}
use Rattle.aas_session.proofs.refusals.bad_request.Goals as goal

pub returns : goal.returns
unfolding bad_request reply_text digits
returns c = refl
