use Rattle.std.proofs.Common.{sym, ◌∙◌}
use Rattle.aas_environment.proofs.Blamed.{own_in}
use Rattle.aas_environment.proofs.blame.blame.Goals as goal

pub faulty-requires : goal.faulty-requires
faulty-requires c =
    own_in c.args.environment.now c.in-Some-2.document c.in-Some-2.why (sym c.in_ok-document-2.ensures ∙ c.in-Some-2.is)
