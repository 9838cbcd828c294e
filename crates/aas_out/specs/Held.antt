-- What an end over a link holds that the link wasn't given yet.
use Rattle.std.specs.Prelude.{◌≡◌, ℕ, List, [], drop}
use Rattle.aas_out.specs.declared.buffered.BufferOut.{BufferOut}

abbrev pub held_by : {L : Type 0} → BufferOut L → List ℕ
held_by out = drop out.given out.held.now.items

-- all of it was given, and there is room
pub record HoldsNothing {L : Type 0} (out : BufferOut L) : Type 0 where
  pub given : out.given ≡ 0
  pub held : out.held.now.items ≡ []
