use Rattle.std.proofs.Common.{Some}
use Rattle.std.proofs.lemmas.Map.Text.{btree_map_updates_str}
use Rattle.aas_template.proofs.index.put.Goals as goal

pub returns-in-Ok : goal.returns-in-Ok
returns-in-Ok c = btree_map_updates_str c.args.text.now c.args.places.now c.insert.new.self (Some c.args.place) c.in-Ok.ensures.updates
