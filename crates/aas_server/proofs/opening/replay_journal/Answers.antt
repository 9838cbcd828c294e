use Rattle.aas_server.proofs.Early.{replay_cause}
use Rattle.aas_server.proofs.opening.replay_journal.Goals as goal

pub returns-in-Err-clause-cause : goal.returns-in-Err-clause-cause
returns-in-Err-clause-cause g c = λ payloads kept.
    replay_cause payloads c.in-Err.fault _ (c.in-Err.ensures.replayed payloads kept)
