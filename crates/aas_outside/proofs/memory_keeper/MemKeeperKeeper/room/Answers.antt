use Rattle.std.proofs.Common.{ap, ◌≡◌, ◌-◌, ◌+◌, ◌*◌, length, arith, ◌∙◌, ℕ}
use Rattle.std.specs.Prelude.{nat_le}
use Rattle.aas_outside.specs.MemKeeper.{MemKeeperState, has_room_behind}
use Rattle.aas_outside.proofs.Pieces.{room_is}
use Rattle.aas_outside.proofs.memory_keeper.MemKeeperKeeper.room.Goals as goal

pub returns-then-n-clause-value : goal.returns-then-n-clause-value
returns-then-n-clause-value c =
    let at = c.self.inside in
    let used : c.len.result + 5 * c.len-2.result ≡ length at.bytes.items + 5 * length at.lengths.items =
    omega (arith, c.len.ensures, c.len-2.ensures, at.bytes.ok.0, at.lengths.ok.0) in
    ap (λ (n : ℕ). nat_le (c.args.n + 5) (at.capacity - n)) used
    ∙ room_is at.lengths.items at.bytes.items at.capacity c.args.n c.self.invariant.0 c.self.invariant.1 (omega arith)
    ∙ ap (λ (k : MemKeeperState). has_room_behind k.capacity k.payloads c.args.n) c.self.view_is
