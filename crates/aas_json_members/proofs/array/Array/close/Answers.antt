use Rattle.std.proofs.Common.{ap, sym, ◌∙◌}
use Rattle.serde_json.specs.Data.{array}
use Rattle.serde_json.proofs.Views.{view-Array}
use Rattle.aas_json_members.specs.Array.{items_of}
use Rattle.aas_json_members.proofs.Lists.{onto_none}
use Rattle.aas_json_members.proofs.array.Array.close.Goals as goal

pub returns : goal.returns
returns c = c.new.ensures ∙ view-Array c.args.self.values ∙ ap array (sym (onto_none (items_of c.args.self)))
