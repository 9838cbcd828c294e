use Rattle.aas_json_members.proofs.Words.{word_is}
use Rattle.aas_json_members.proofs.members.value_named.Goals as goal

pub returns : goal.returns
returns g c = word_is g.V.Named.name_of g.V.Named.all g.met.V.Named.found c.args.name.now c.from_name.result c.from_name.ensures
