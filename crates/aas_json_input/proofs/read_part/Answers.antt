use Rattle.std.proofs.Common.{◌≡◌, None, subst}
use Rattle.serde_json.specs.View.{view}
use Rattle.aas_json_table.specs.Table.{Sort, one}
use Rattle.aas_json_table.specs.Misfit.{misfit}
use Rattle.aas_json_input.proofs.FaultLemmas.{says_something}
use Rattle.aas_json_input.proofs.read_part.Goals as goal

pub unreachable-requires : goal.unreachable-requires
unreachable-requires g c =
    let Fits : Sort → Type 0 = λ s. misfit (one s) (view c.args.value.now) ≡ None in
    says_something g.P.Part.sort (view c.args.value.now) (subst Fits c.requires c.in_ok-check_value.ensures.0) (rw c.in-Ok-None.field-0-is at c.in-Ok-None.ensures)
