use Rattle.aas_model_names.proofs.Names.{found_exactly}
use Rattle.aas_model_names.proofs.named.Named.from_name.Goals as goal

pub returns : goal.returns
returns g c = found_exactly g.Self.Named.name_of g.Self.Named.all g.met.Self.Named.found c.args.s.now _ c.first_named.ensures
