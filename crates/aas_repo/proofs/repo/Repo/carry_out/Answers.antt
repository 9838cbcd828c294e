use Rattle.std.proofs.Common.{true, refl, ap, ◌∙◌, subst, Ok, Err}
use Rattle.aas_command.specs.declared.refusal.Refusal.TheVariants.{NoMemory, StorageFault}
use Rattle.aas_store.specs.Documents.{Documents}
use Rattle.aas_repo.specs.Acts.{ComesOut}
use Rattle.aas_repo.specs.Decisions.{has_room_for}
use Rattle.aas_repo.specs.Held.{Held}
use Rattle.aas_repo.specs.Tasks.{command_of}
use Rattle.aas_repo.proofs.Acted.{held, keeps, refuses, tears}
use Rattle.aas_repo.proofs.repo.Repo.carry_out.Goals as goal

pub returns-in-Ok-clause-acts : goal.returns-in-Ok-clause-acts
returns-in-Ok-clause-acts g c =
    let K = g.K.Keeper in
    let laws = g.met.K.Keeper in
    let inside = c.self.inside in
    keeps K.stands_for K.state laws.room_by_payloads laws.room_limit (command_of c.args.task)
    (held (g.S.Store.documents inside.store) inside.keeper inside.stopped) _
    (held (g.S.Store.documents c.take.new.store) c.keep.new.self inside.stopped)
    c.self.view_is c.in-Made.frame c.done_of-done.result c.done_of-done.ensures
    c.in-Made.ensures.taken c.in-Ok.ensures.kept c.in-Ok.ensures.in_turn

pub returns-in-Made-clause-acts : goal.returns-in-Made-clause-acts
returns-in-Made-clause-acts g c =
    let K = g.K.Keeper in
    let laws = g.met.K.Keeper in
    let inside = c.self.inside in
    tears K.stands_for K.state laws.room_by_payloads laws.room_limit (command_of c.args.task)
    (held (g.S.Store.documents inside.store) inside.keeper inside.stopped) _
    (held (g.S.Store.documents c.take.new.store) c.keep.new.self true)
    c.self.view_is c.in-Made.frame c.in-Made.ensures.taken c.in-Err.ensures.in_turn

pub returns-in-Refused-clause-acts : goal.returns-in-Refused-clause-acts
returns-in-Refused-clause-acts g c =
    let K = g.K.Keeper in
    let laws = g.met.K.Keeper in
    let inside = c.self.inside in
    let taken = c.in-Refused.ensures.taken in
    refuses K.stands_for K.state laws.room_by_payloads laws.room_limit (command_of c.args.task)
    (held (g.S.Store.documents inside.store) inside.keeper inside.stopped) _
    (held (g.S.Store.documents c.take.new.store) inside.keeper inside.stopped)
    c.self.view_is c.in-Refused.refusal
    (ap (λ (d : Documents). held d inside.keeper inside.stopped) taken.0) taken.1 (λ left. taken.2)

pub returns-clause-acts : goal.returns-clause-acts
returns-clause-acts g c =
    let K = g.K.Keeper in
    let laws = g.met.K.Keeper in
    let inside = c.self.inside in
    refuses K.stands_for K.state laws.room_by_payloads laws.room_limit (command_of c.args.task)
    (held (g.S.Store.documents inside.store) inside.keeper inside.stopped) _
    (held (g.S.Store.documents c.take.new.store) inside.keeper inside.stopped)
    c.self.view_is NoMemory (ap (λ (d : Documents). held d inside.keeper inside.stopped) c.in-NoMemory.ensures.taken)
    (λ is. absurd (cc)) (λ left. absurd (left refl))

pub returns-in-Ok-clause-outcome : goal.returns-in-Ok-clause-outcome
returns-in-Ok-clause-outcome g c =
    subst (λ (old : Held _).
    ComesOut (has_room_for (g.K.Keeper.state old.keeper).has_room (command_of c.args.task)) old.documents (command_of c.args.task)
    (g.S.Store.documents c.take.new.store) (Ok c.done_of-done.result)) c.self.view_is
    (c.done_of-done.ensures, c.in-Made.ensures.taken.2)

pub returns-in-Made-clause-outcome : goal.returns-in-Made-clause-outcome
returns-in-Made-clause-outcome g c =
    subst (λ (old : Held _).
    ComesOut (has_room_for (g.K.Keeper.state old.keeper).has_room (command_of c.args.task)) old.documents (command_of c.args.task)
    (g.S.Store.documents c.take.new.store) (Err StorageFault)) c.self.view_is
    (λ is. c.in-Made.ensures.taken.2, λ not. absurd (not refl))

pub returns-in-Refused-clause-outcome : goal.returns-in-Refused-clause-outcome
returns-in-Refused-clause-outcome g c =
    subst (λ (old : Held _).
    ComesOut (has_room_for (g.K.Keeper.state old.keeper).has_room (command_of c.args.task)) old.documents (command_of c.args.task)
    (g.S.Store.documents c.take.new.store) (Err c.in-Refused.refusal)) c.self.view_is
    (λ is. absurd (c.in-Refused.ensures.taken.1 is), λ not left. c.in-Refused.ensures.taken.2)

pub returns-clause-outcome : goal.returns-clause-outcome
returns-clause-outcome g c = (λ is. absurd (cc), λ not left. absurd (left refl))

pub returns-in-Refused-clause-unchanged : goal.returns-in-Refused-clause-unchanged
returns-in-Refused-clause-unchanged g c = λ not.
    let inside = c.self.inside in
    ap (λ (d : Documents). held d inside.keeper inside.stopped) c.in-Refused.ensures.taken.0 ∙ c.self.view_is

pub returns-clause-unchanged : goal.returns-clause-unchanged
returns-clause-unchanged g c = λ not.
    let inside = c.self.inside in
    ap (λ (d : Documents). held d inside.keeper inside.stopped) c.in-NoMemory.ensures.taken ∙ c.self.view_is
