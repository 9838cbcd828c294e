use Rattle.std.proofs.Common.{option_map, ap, ◌∙◌}
use Rattle.std.proofs.lemmas.List.{take_rest}
use Rattle.aas_target.specs.Seen.{found_of}
use Rattle.aas_target.proofs.Long.{resource_at_more}
use Rattle.aas_target.proofs.found.resource_at.Goals as goal

pub returns-in_err-segments_of-in-47 : goal.returns-in_err-segments_of-in-47
returns-in_err-segments_of-in-47 c =
    ap (option_map found_of) c.from_residual.ensures
    ∙ resource_at_more c.args.path.now (rw take_rest at c.in_err-segments_of-in-47.ensures.none)
