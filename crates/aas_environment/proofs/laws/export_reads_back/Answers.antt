use Rattle.aas_environment.proofs.ReadBack as back
use Rattle.aas_environment.proofs.laws.export_reads_back.Goals as goal

pub returns : goal.returns
returns c = back.export_reads_back
