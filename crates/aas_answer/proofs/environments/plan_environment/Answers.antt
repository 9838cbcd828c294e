use Rattle.std.proofs.Common.{◌≡◌, ◌⊎◌, Err, sym, subst}
use Rattle.aas_command.specs.declared.refusal.Refusal.{Refusal}
use Rattle.aas_command.specs.declared.refusal.Refusal.TheVariants as refused
use Rattle.aas_serialization.specs.Chosen.{gathered}
use Rattle.aas_answer.specs.Answers.{Answer, of_gathered}
use Rattle.aas_answer.proofs.Gathered.{environment_planned, environment_refused}
use Rattle.aas_answer.proofs.environments.plan_environment.Goals as goal

pub returns-in-Ok-clause-planned : goal.returns-in-Ok-clause-planned
returns-in-Ok-clause-planned g c =
    environment_planned (g.S.Store.documents c.args.store.now) c.args.shells.now
    c.args.submodels.now c.args.concepts c.in-Ok.chosen c.in-Ok.ensures

pub returns-in-Err-clause-refused : goal.returns-in-Err-clause-refused
returns-in-Err-clause-refused g c =
    let d = g.S.Store.documents c.args.store.now in
    let asked : Answer = of_gathered (gathered d c.args.shells.now c.args.submodels.now c.args.concepts) in
    subst (λ (r : Refusal). (r ≡ refused.NoMemory) ⊎ (asked ≡ Err r)) (sym c.refusal_of.ensures)
    (environment_refused d c.args.shells.now c.args.submodels.now c.args.concepts c.in-Err.fault c.in-Err.ensures)
