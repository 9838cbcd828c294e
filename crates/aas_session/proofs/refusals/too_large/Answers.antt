use Rattle.std.proofs.Common.{refl}
use Rattle.std.specs.Fmt.{digits}
use Rattle.aas_http.specs.ReplyText.{reply_text}
use Rattle.aas_session.specs.Refusals.{too_large}
use Rattle.aas_session.proofs.refusals.too_large.Goals as goal

pub returns : goal.returns
unfolding too_large reply_text digits
returns c = refl
