-- A repository that takes requests one by one. This profile's own rule.
use Rattle.std.specs.Prelude.{◌≡◌, ℕ, Bool, List, [], ◌∷◌, ◌++◌}

-- the documents, and the payloads of the commands that were accepted
pub record Repository (D : Type 0) : Type 0 where
  pub documents : D
  pub records : List (List ℕ)

-- What a request comes to: its reply, the documents after it, and the payload of its command, where one is accepted.
pub record Outcome (D Reply : Type 0) : Type 0 where
  pub reply : Reply
  pub documents : D
  pub kept : List (List ℕ)

-- A command is accepted, and this is its payload.
abbrev pub HasCommand : {D Reply : Type 0} → Outcome D Reply → Type 0
HasCommand outcome = (payload : List ℕ) × (outcome.kept ≡ payload ∷ [])

-- Behind these payloads there is room for one of so many bytes. A keeper has such a rule of its own.
abbrev pub Room : Type 0
Room = List (List ℕ) → ℕ → Bool

-- In this repository the message comes to this outcome.
abbrev pub Rule : Type 0 → Type 0 → Type 0 → Type 1
Rule D Message Reply = Repository D → Message → Outcome D Reply → Type 0

-- the repository after a request
abbrev pub after : {D Reply : Type 0} → Repository D → Outcome D Reply → Repository D
after repository outcome = record { documents = outcome.documents; records = repository.records ++ outcome.kept }
