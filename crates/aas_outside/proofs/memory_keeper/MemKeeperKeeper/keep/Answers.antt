use Rattle.std.proofs.Common.{ap, ◌∙◌, ◌++◌, ◌∷◌, [], List, ℕ}
use Rattle.aas_outside.specs.MemKeeper.{MemKeeperState}
use Rattle.aas_outside.proofs.Kept.{one_kept}
use Rattle.aas_outside.proofs.memory_keeper.MemKeeperKeeper.keep.Goals as goal

pub returns-clause-in_turn : goal.returns-clause-in_turn
returns-clause-in_turn c = λ payloads settled. one_kept c.args.self.now c.push.new.self payloads c.args.frame.now
    (ap (λ (k : MemKeeperState). k.payloads) c.push.ensures
    ∙ ap (λ (k : MemKeeperState). k.payloads ++ c.payload.result.now ∷ []) c.self.view_is
    ∙ ap (λ (l : List ℕ). c.args.self.now.payloads ++ l ∷ []) c.payload.ensures)
    settled.told
