use Rattle.aas_value_patch.proofs.Walk.{counted_below}
use Rattle.aas_value_patch.proofs.gather.+count.Goals as goal

pub rank_behind-returns : goal.rank_behind-returns
rank_behind-returns t c =
    counted_below c.ranks_behind.result c.args.element.now
    c.args.rank c.in_ok-next_rank.field-0 c.in_ok-next_rank.ensures
    c.ranks_behind.ensures
