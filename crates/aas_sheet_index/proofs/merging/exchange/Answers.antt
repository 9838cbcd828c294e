use Rattle.std.proofs.Common.{◌-◌}
use Rattle.std.proofs.lemmas.List.Sorted.{IsPermutation-put_mid}
use Rattle.aas_sheet_index.proofs.Merged.{exchanged}
use Rattle.aas_sheet_index.proofs.merging.exchange.Goals as goal

pub returns-clause-parts : goal.returns-clause-parts
returns-clause-parts c =
    exchanged c.args.ranks.now c.rotate_left.new.self c.args.first c.args.middle
    c.args.end c.requires.low c.requires.high c.rotate_left.ensures.after

pub returns-clause-same : goal.returns-clause-same
returns-clause-same c =
    IsPermutation-put_mid c.args.first
    (c.args.end - c.args.first) c.args.ranks.now c.rotate_left.new.self c.rotate_left.ensures.permutation
