use Rattle.std.proofs.Common.{◌∙◌}
use Rattle.aas_json_table.proofs.NameLemmas.{has-is_some}
use Rattle.aas_json_table.proofs.table.names.is_name.Goals as goal

pub returns : goal.returns
returns g c = c.is_some.ensures ∙ has-is_some g.V.Named.name_of g.V.Named.all g.met.V.Named.found c.args.text.now c.from_name.result c.from_name.ensures
