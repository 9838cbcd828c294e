-- What an end that bytes are put into tells, and what putting bytes adds to it. This profile's own rule.
use Rattle.std.specs.Prelude.{◌≡◌, ◌+◌, ◌≤◌, ◌^◌, ℕ, List, ◌++◌, length, min, Option, Some, None, option_map}
use Rattle.std.specs.Prelude.{Result, MatchResult}
use Rattle.std.specs.Io.KnownBytes.{append_known}
use Rattle.aas_outside.specs.Faults.{Rose}

pub record Told (Kept : Type 0) : Type 0 where
  -- the bytes put, where the end tells them
  pub sent : Option (List ℕ)
  -- those of them that have left the end, where it tells them
  pub gone : Option (List ℕ)
  -- how many bytes were put, where the end tells it; 2^64 stands for every greater number
  pub count : Option ℕ
  -- how many calls have failed
  pub faults : ℕ
  -- what no call changes
  pub kept : Kept

-- 2^64 stands for every greater number
abbrev pub capped : ℕ → ℕ
capped n = min n (2 ^ 64)

-- Known bytes stay, and maybe others come behind them.
abbrev pub Grows : Option (List ℕ) → Option (List ℕ) → Type 0
Grows old new = (more : List ℕ) × (new ≡ append_known old more)

-- These bytes were put behind the others.
pub record Wrote {Kept : Type 0} (old new : Told Kept) (text : List ℕ) : Type 0 where
  pub sent : new.sent ≡ append_known old.sent text
  pub count : option_map capped new.count ≡ option_map (λ n. capped (n + length text)) old.count
  pub later : old.faults ≤ new.faults
  pub gone : Grows old.gone new.gone
  pub kept : new.kept ≡ old.kept

-- A front of the text was put, and the count of faults rose.
pub record WroteFront {Kept : Type 0} (old new : Told Kept) (text : List ℕ) : Type 0 where
  pub front : List ℕ
  pub rest : List ℕ
  pub parts : text ≡ front ++ rest
  pub wrote : Wrote old new front
  pub rose : Rose old.faults new.faults

-- all of the text, or at Err a front of it
abbrev pub Puts : {Kept T E : Type 0} → Told Kept → Told Kept → Result T E → List ℕ → Type 0
Puts old new result text = MatchResult result (λ _. Wrote old new text) (λ _. WroteFront old new text)

-- what an end tells that counts, and never fails
abbrev pub counted : ℕ → Told (Unit {0})
counted count = record { sent = None; gone = None; count = Some count; faults = 0; kept = tt }
