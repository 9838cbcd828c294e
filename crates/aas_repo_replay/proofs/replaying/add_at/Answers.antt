use Rattle.aas_repo_replay.proofs.Walked.{next_done, stop_done}
use Rattle.aas_repo_replay.proofs.replaying.add_at.Goals as goal

pub returns-in-Ok-true-clause-done : goal.returns-in-Ok-true-clause-done
returns-in-Ok-true-clause-done g c = λ payloads kept done.
    let given = rw c.in-Some.is at (c.in_ok-next.ensures.given payloads done.n kept done.at) in
    let adds = rw (c.in-Ok-true.field-0-test, c.as_slice.ensures.value) at c.in-Ok-true.ensures.added in
    next_done payloads c.args.gate c.in-Some.next _ _ _ _ done c.clear.ensures.items given adds

pub returns-in-Ok-false-clause-done : goal.returns-in-Ok-false-clause-done
returns-in-Ok-false-clause-done g c = λ payloads kept done.
    let given = rw c.in-Some.is at (c.in_ok-next.ensures.given payloads done.n kept done.at) in
    let nothing = rw (c.in-Ok-false.field-0-test, c.as_slice.ensures.value) at c.in-Ok-false.ensures.added in (
      done.n,
      stop_done payloads c.args.gate c.in-Some.next _ _ _ _ done c.clear.ensures.items given nothing
          (c.add.ensures.unchanged (λ added. cc)),
      done.at.at_is,
    )
