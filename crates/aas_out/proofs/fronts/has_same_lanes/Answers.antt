use Rattle.aas_out.proofs.Loads.{same_from_lanes}
use Rattle.aas_out.proofs.fronts.has_same_lanes.Goals as goal

pub returns : goal.returns
returns g c =
    same_from_lanes c.args.bytes.now c.args.piece.now c.args.at g.row.N c.requires.bytes c.requires.piece c.requires.few
