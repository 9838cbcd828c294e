use Rattle.std.proofs.Common.{map, sym, ◌∙◌}
use Rattle.aas_value_update.specs.Forms.{part_of}
use Rattle.aas_value_patch.proofs.Attributes.{list_is}
use Rattle.aas_value_patch.proofs.parents.list_in.Goals as goal

pub returns : goal.returns
returns c = λ list.
    list_is c.args.list.now c.in_ok-copy.field-0 (map part_of c.args.kids.now) c.args.items list c.in_ok-copy.ensures
    (sym c.items_fit.ensures ∙ c.if-not-items_fit.false)
