use Rattle.std.proofs.Common.{refl}
use Rattle.std.specs.Fmt.{digits}
use Rattle.aas_http.specs.ReplyText.{reply_text}
use Rattle.aas_session.specs.Refusals.{out_of_memory}
use Rattle.aas_session.proofs.refusals.out_of_memory.Goals as goal

pub returns : goal.returns
unfolding out_of_memory reply_text digits
returns c = refl
