use Rattle.aas_store.proofs.overlay.+gather.Given as goal

abbrev pub decreases-gather : goal.decreases-gather
decreases-gather g l = l.count
