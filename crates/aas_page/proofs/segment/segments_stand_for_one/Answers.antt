use Rattle.aas_page.proofs.Coding.{stands_for_one}
use Rattle.aas_page.proofs.segment.segments_stand_for_one.Goals as goal

pub returns : goal.returns
returns c = stands_for_one
