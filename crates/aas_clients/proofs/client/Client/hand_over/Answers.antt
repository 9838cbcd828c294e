use Rattle.std.proofs.Common.{◌≡◌, ◌⊎◌, inr, true, length, arith}
use Rattle.std.proofs.Math.Logic.{∥∥₁_map}
use Rattle.aas_clients.specs.Fronts.{AreRefused, IsUnfinished, IsUnfinishedBelow}
use Rattle.aas_clients.proofs.Kept.{part_last, unfinished_here}
use Rattle.aas_clients.proofs.client.Client.hand_over.Goals as goal

pub hands-requires-clause-part : goal.hands-requires-clause-part
hands-requires-clause-part g c =
    let self = c.args.self.now in
    let bytes = self.inbox.bytes.items in
    let short = c.in-Awaits.ensures.front in
    let all : c.len-size.result ≡ length bytes = omega (arith, c.len-size.ensures, self.inbox.bytes.ok.0) in
    let why : AreRefused bytes ⊎ ((self.has_ended ≡ true) × ∥ IsUnfinished bytes ∥₁) =
    inr (
      c.if-self.true,
      ∥∥₁_map short.1 (λ (below : IsUnfinishedBelow c.in-Awaits.field-0 bytes).
          unfinished_here c.in-Awaits.field-0 bytes short.0 below),
    ) in
    rw c.front.ensures.same (part_last bytes self.has_ended c.len-size.result all why)
