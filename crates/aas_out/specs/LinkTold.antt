-- What an end over a link tells. This profile's own rule.
use Rattle.std.specs.Prelude.{ℕ, List, Option, None}
use Rattle.std.specs.Io.KnownBytes.{append_known}
use Rattle.aas_outside.specs.Link.{LinkState}
use Rattle.aas_outside.specs.Surroundings.{Surroundings}
use Rattle.aas_out.specs.declared.buffered.BufferOut.{BufferOut}
use Rattle.aas_out.specs.Held.{held_by}
use Rattle.aas_out.specs.Told.{Told}

-- What putting bytes doesn't change.
pub record LinkKept : Type 0 where
  -- which link it is
  pub reference : ℕ
  -- the bytes that are left to take
  pub left : Option (List ℕ)
  pub surroundings : Surroundings

abbrev pub link_kept : ℕ → Option (List ℕ) → Surroundings → LinkKept
link_kept reference left surroundings = record { reference = reference; left = left; surroundings = surroundings }

-- What is put is what was sent, and it isn't counted.
abbrev pub link_told : Option (List ℕ) → ℕ → LinkKept → Told LinkKept
link_told sent faults kept = record { sent = sent; gone = sent; count = None; faults = faults; kept = kept }

-- The same, where bytes are held that the link wasn't given yet.
abbrev pub holding_told : Option (List ℕ) → List ℕ → ℕ → LinkKept → Told LinkKept
holding_told sent held faults kept =
    record { sent = append_known sent held; gone = sent; count = None; faults = faults; kept = kept }

-- What an end tells that gathers what is put for a link, by what the link tells.
abbrev pub told_by : {L : Type 0} → (L → LinkState) → BufferOut L → Told LinkKept
told_by state out =
    let link = state out.link.now in
    holding_told link.sent (held_by out) link.faults (link_kept out.link.ghost_name link.left link.surroundings)
