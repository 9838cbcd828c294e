use Rattle.std.proofs.Common.{sym}
use Rattle.aas_page.proofs.Plain.{percent_decode_plain}
use Rattle.aas_page.proofs.segment.percent_decoded.Goals as goal

pub returns-in-None : goal.returns-in-None
returns-in-None c = sym (percent_decode_plain c.args.segment.now c.in-None.ensures)
