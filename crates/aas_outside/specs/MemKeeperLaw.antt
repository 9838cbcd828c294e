-- That the payloads of a keeper in memory decide whether there is room,
-- and that there is none for a payload that has no frame.
use Rattle.std.specs.Prelude.{◌≡◌, ◌<◌, ◌+◌, ◌^◌, ℕ, List, IsTrue, nat_le, nat_lt}
use Rattle.std.proofs.Common.{ap, sym}
use Rattle.std.proofs.lemmas.Bool.{and_parts}
use Rattle.std.proofs.lemmas.Bool.Decides.{Decides-ltb}
use Rattle.aas_outside.specs.MemKeeper.{MemKeeperState, frame_size, frames_size, has_room_behind}

pub room_law : (keeper : MemKeeperState) (payloads : List (List ℕ)) (n : ℕ) → payloads ≡ keeper.payloads
    → has_room_behind keeper.capacity keeper.payloads n ≡ has_room_behind keeper.capacity payloads n
room_law keeper payloads n is = ap (λ (p : List (List ℕ)). has_room_behind keeper.capacity p n) (sym is)

pub limit_law : (keeper : MemKeeperState) (payloads : List (List ℕ)) (n : ℕ)
    → IsTrue (has_room_behind keeper.capacity payloads n) → n < 2 ^ 32
limit_law keeper payloads n room =
    (Decides-ltb n (2 ^ 32)).0
    (and_parts (nat_lt n (2 ^ 32)) (nat_le (frames_size payloads + frame_size n) keeper.capacity) room).0
