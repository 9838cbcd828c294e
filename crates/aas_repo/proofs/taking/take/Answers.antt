use Rattle.std.proofs.Common.{subst}
use Rattle.aas_repo.specs.Decisions.{IsEncoded}
use Rattle.aas_repo.specs.Tasks.{command_of}
use Rattle.aas_repo.proofs.Taken.{made_is_taken, refused_is_taken}
use Rattle.aas_repo.proofs.taking.take.Goals as goal

pub returns-in-Made-clause-taken : goal.returns-in-Made-clause-taken
returns-in-Made-clause-taken g c =
    let encoded = subst (IsEncoded (command_of c.args.task)) c.in-Ok.is c.requires.encoded in
    made_is_taken (g.K.Keeper.state c.args.keeper.now).has_room _ _ (command_of c.args.task)
    c.in-Ok.frame c.len.result c.room-has_room.result encoded.0
    c.len.ensures.value c.room-has_room.ensures.value
    c.room-has_room.ensures.limit encoded.1 c.in-Made.ensures.decision

pub returns-in-Refused-clause-taken : goal.returns-in-Refused-clause-taken
returns-in-Refused-clause-taken g c =
    let encoded = subst (IsEncoded (command_of c.args.task)) c.in-Ok.is c.requires.encoded in
    refused_is_taken (g.K.Keeper.state c.args.keeper.now).has_room _ _ (command_of c.args.task)
    c.in-Ok.frame c.len.result c.room-has_room.result c.in-Refused.refusal
    encoded.0 c.len.ensures.value c.room-has_room.ensures.value
    c.room-has_room.ensures.limit c.in-Refused.ensures.decision

pub take_without_frame-requires-clause-fault : goal.take_without_frame-requires-clause-fault
take_without_frame-requires-clause-fault g c = subst (IsEncoded (command_of c.args.task)) c.in-Err.is c.requires.encoded

pub returns-in-Err-clause-taken : goal.returns-in-Err-clause-taken
returns-in-Err-clause-taken g c = c.take_without_frame.ensures.taken (g.K.Keeper.state c.args.keeper.now).has_room
