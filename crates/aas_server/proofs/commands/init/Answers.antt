use Rattle.std.proofs.Common.{refl, inl, inr, rules}
use Rattle.std.specs.Prelude.{codes}
use Rattle.aas_server.specs.Answer.{already_there, disk_failed, done, line}
use Rattle.aas_server.specs.Status.{exit_code}
use Rattle.aas_server.proofs.Given.{made_status, says_line, there_status}
use Rattle.aas_server.proofs.commands.init.Goals as goal

pub returns-in-Ok-clause-does : goal.returns-in-Ok-clause-does
returns-in-Ok-clause-does g c = let C = g.C.Link in (
  done (line (codes "initialised")),
  inl (refl, record { files = c.in-Ok.ensures.made; images = c.in-Ok.ensures.images }),
  says_line (done (line (codes "initialised"))) (exit_code c.end_with.result)
      (C.state c.args.console.now) (C.state c.end_with.new.link)
      (λ e. cc) c.end_with.ensures.given c.end_with.ensures.front c.end_with.ensures.gives.calls.rose c.end_with.ensures.statuses,
)

pub returns-in-Err-AlreadyThere-clause-does : goal.returns-in-Err-AlreadyThere-clause-does
returns-in-Err-AlreadyThere-clause-does g c = let C = g.C.Link in (
  already_there,
  inr (inl (refl, search rules, search rules)),
  says_line already_there (exit_code c.end_with-in-Err-AlreadyThere.result)
      (C.state c.args.console.now)
      (C.state c.end_with-in-Err-AlreadyThere.new.link)
      (λ e. cc) c.end_with-in-Err-AlreadyThere.ensures.given
      c.end_with-in-Err-AlreadyThere.ensures.front c.end_with-in-Err-AlreadyThere.ensures.gives.calls.rose
      c.end_with-in-Err-AlreadyThere.ensures.statuses,
)

pub returns-in-Err-Failed-clause-does : goal.returns-in-Err-Failed-clause-does
returns-in-Err-Failed-clause-does g c = let C = g.C.Link in (
  disk_failed,
  inr (inr (refl, search rules)),
  says_line disk_failed (exit_code c.end_with-in-Err-Failed.result)
      (C.state c.args.console.now)
      (C.state c.end_with-in-Err-Failed.new.link)
      (λ e. cc) c.end_with-in-Err-Failed.ensures.given
      c.end_with-in-Err-Failed.ensures.front c.end_with-in-Err-Failed.ensures.gives.calls.rose
      c.end_with-in-Err-Failed.ensures.statuses,
)

pub returns-in-Ok-clause-statuses : goal.returns-in-Ok-clause-statuses
returns-in-Ok-clause-statuses g c = made_status (exit_code c.end_with.result) c.end_with.ensures.statuses

pub returns-in-Err-AlreadyThere-clause-statuses : goal.returns-in-Err-AlreadyThere-clause-statuses
returns-in-Err-AlreadyThere-clause-statuses g c =
    there_status (exit_code c.end_with-in-Err-AlreadyThere.result) c.end_with-in-Err-AlreadyThere.ensures.statuses
