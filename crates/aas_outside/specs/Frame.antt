-- A payload as it is kept. This profile's own rule.
use Rattle.std.specs.Prelude.{ℕ, ◌-◌, List, [], ◌∷◌, ◌++◌, length, take, drop}
use Rattle.std.specs.Int.{to_be_bytes, w32}

-- the length in four bytes, greatest first, then the payload, then a zero byte
abbrev pub frame_bytes : List ℕ → List ℕ
frame_bytes payload = to_be_bytes w32 (length payload) ++ payload ++ 0 ∷ []

-- what stands between the length and the last byte
abbrev pub payload_of : List ℕ → List ℕ
payload_of bytes = take (length bytes - 5) (drop 4 bytes)
