use Rattle.std.proofs.Common.{Err, ap, sym, ⊎_elim, arith}
use Rattle.aas_environment.specs.Environments.{export_text}
use Rattle.aas_server.proofs.Exported.{says_cut, says_exported, says_too_long}
use Rattle.aas_server.proofs.telling.ExportReport.give.Goals as goal

pub returns-in-Ok-clause-says : goal.returns-in-Ok-clause-says
returns-in-Ok-clause-says g c =
    let C = g.C.Link in
    says_exported (export_text c.args.repo.now.documents)
    (C.state c.args.console.now) (C.state c.export.new.link)
    (λ long. let wrong = c.in-Ok.ensures.too_long.1 long in absurd (cc)) c.in-Ok.ensures.given.1

pub returns-in-Err-Failed-clause-says : goal.returns-in-Err-Failed-clause-says
returns-in-Err-Failed-clause-says g c =
    let C = g.C.Link in
    says_cut (export_text c.args.repo.now.documents) (C.state c.args.console.now)
    (C.state c.export.new.link)
    (λ long. let wrong = c.in-Err-Failed.ensures.too_long.1 long in absurd (cc))
    (c.in-Err-Failed.ensures.front (ap (λ why. Err why) c.in-Err-Failed.field-0-is))
    (c.in-Err-Failed.ensures.gives.calls.rose (ap (λ why. Err why) c.in-Err-Failed.field-0-is))

pub returns-in-Err-TooLong-clause-says : goal.returns-in-Err-TooLong-clause-says
returns-in-Err-TooLong-clause-says g c =
    let C = g.C.Link in
    says_too_long (export_text c.args.repo.now.documents) _ (C.state c.args.console.now)
    (C.state c.export.new.link) (C.state c.end_with.new.link)
    (c.in-Err-TooLong.ensures.too_long.0 (ap (λ why. Err why) c.in-Err-TooLong.field-0-is))
    (ap C.state
    (c.in-Err-TooLong.ensures.untouched (ap (λ why. Err why) c.in-Err-TooLong.field-0-is)))
    c.end_with.ensures.given c.end_with.ensures.front c.end_with.ensures.gives.calls.rose c.end_with.ensures.statuses

pub returns-in-Err-TooLong-clause-statuses : goal.returns-in-Err-TooLong-clause-statuses
returns-in-Err-TooLong-clause-statuses g c =
    ⊎_elim (λ three. (1, omega arith, sym three)) (λ eleven. (6, omega arith, sym eleven)) c.end_with.ensures.statuses
