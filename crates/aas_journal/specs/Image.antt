-- What a file of records stands for. This profile's own rule.
use Rattle.std.specs.Prelude.{◌≡◌, ◌≢◌, ◌⊎◌, ℕ, ◌+◌, ◌<◌, ◌^◌, List, [], ◌∷◌, ◌++◌, All, codes}
use Rattle.std.specs.Prelude.{length, sum_by, take}
use Rattle.std.specs.Int.{to_be_bytes, w32}

-- a file begins with one of these
abbrev pub IsHeader : List ℕ → Type 0
IsHeader bytes = (bytes ≡ codes "AASJ0001") ⊎ (bytes ≡ codes "AASJ0002")

-- for each payload an open gate, which is the byte 1, its length in four bytes, greatest first, and itself
abbrev pub records : List (List ℕ) → List ℕ
records [] = []
records (payload ∷ payloads) = 1 ∷ (to_be_bytes w32 (length payload) ++ (payload ++ records payloads))

-- the place of the gate behind the first n payloads
abbrev pub gate_of : List (List ℕ) → ℕ → ℕ
gate_of payloads n = 8 + sum_by (λ payload. 5 + length payload) (take n payloads)

-- The file is a header, the records of these payloads, a gate of this byte, and this rest.
pub record HasGate (file : List ℕ) (payloads : List (List ℕ)) (gate : ℕ) (rest : List ℕ) : Type 0 where
  pub header : List ℕ
  pub known : IsHeader header
  pub is : file ≡ header ++ (records payloads ++ gate ∷ rest)
  pub short : All (λ payload. length payload < 2 ^ 32) payloads

-- Behind the records of these payloads stands a closed gate, which is any other byte, and then anything.
pub record IsImage (file : List ℕ) (payloads : List (List ℕ)) : Type 0 where
  pub gate : ℕ
  pub rest : List ℕ
  pub has : HasGate file payloads gate rest
  pub closed : gate ≢ 1
