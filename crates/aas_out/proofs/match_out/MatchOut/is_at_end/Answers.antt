use Rattle.std.proofs.lemmas.Bool.{OnTrue_from, eqb-true}
use Rattle.aas_out.proofs.Meeting.{all_utf8}
use Rattle.aas_out.proofs.match_out.MatchOut.is_at_end.Goals as goal

pub returns-clause-utf8 : goal.returns-clause-utf8
returns-clause-utf8 c =
    let self = c.args.self.now in
    OnTrue_from _ _ (λ all. all_utf8 self.bytes.now self.met (eqb-true _ _ all) self.utf8)
