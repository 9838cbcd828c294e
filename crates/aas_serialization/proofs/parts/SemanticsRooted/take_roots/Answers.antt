use Rattle.std.specs.Option.{option_to_list}
use Rattle.aas_serialization.proofs.Along.{along_both}
use Rattle.aas_serialization.proofs.parts.SemanticsRooted.take_roots.Goals as goal

pub returns : goal.returns
returns g c =
    along_both (g.S.Store.documents c.args.store.now) c.args.taken.now c.take_option.new.taken c.take_list.new.taken
    (option_to_list c.args.self.now.semantic_id) c.args.self.now.supplemental_semantic_ids c.in_ok-take_option.ensures c.in_ok-take_list.ensures
