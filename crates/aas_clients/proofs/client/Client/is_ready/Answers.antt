use Rattle.std.proofs.Common.{inr}
use Rattle.std.proofs.Math.Logic.{∥∥₁_map}
use Rattle.aas_clients.specs.Fronts.{IsUnfinishedBelow}
use Rattle.aas_clients.proofs.Kept.{unfinished_here}
use Rattle.aas_clients.proofs.client.Client.is_ready.Goals as goal

pub returns-in-Some-clause-not_yet : goal.returns-in-Some-clause-not_yet
returns-in-Some-clause-not_yet g c =
    let bytes = c.args.self.now.inbox.bytes.items in λ open_end. inr (
      open_end,
      ∥∥₁_map c.in-Some.ensures.1 (λ (below : IsUnfinishedBelow c.in-Some.field-0 bytes).
          unfinished_here c.in-Some.field-0 bytes c.in-Some.ensures.0 below),
    )
