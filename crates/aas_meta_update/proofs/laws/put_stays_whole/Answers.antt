use Rattle.aas_meta_update.proofs.StaysWhole.{put_stays_whole}
use Rattle.aas_meta_update.proofs.laws.put_stays_whole.Goals as goal

pub returns : goal.returns
returns c = put_stays_whole
