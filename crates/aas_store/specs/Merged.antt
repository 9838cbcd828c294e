-- Two lists of entries as one, and two maps.
use Rattle.std.specs.Prelude.{◌≡◌, ◌+◌, ◌≤◌, ℕ, T, List, ◌++◌, length, vec_capacity, vec_len}
use Rattle.std.specs.Cmp.Lexicographic.{slice_cmp}
use Rattle.std.specs.FinMap as map
use Rattle.std.specs.List.{fold}
use Rattle.std.specs.Option.{option_or}
use Rattle.std.specs.Ordering.{nat_cmp}
use Rattle.std.specs.declared.vec.Vec.{Vec}
use Rattle.aas_store.specs.Documents.{Identifier, Map}

abbrev pub IsInOrder : {D : Type 0} → List (Identifier × D) → Type 0
IsInOrder entries = T (map.is_sorted (slice_cmp nat_cmp) entries)

-- the document of an identifier in a merged list is the newer list's, or the older's where it has none
pub record IsMerged {D : Type 0} (older newer merged : List (Identifier × D)) : Type 0 where
  pub in_order : IsInOrder merged
  pub found : (id : Identifier) → map.find (slice_cmp nat_cmp) id merged ≡ option_or (map.find (slice_cmp nat_cmp) id newer) (map.find (slice_cmp nat_cmp) id older)

-- the same of maps
abbrev pub IsOverlaid : {D : Type 0} → (older newer both : Map D) → Type 0
IsOverlaid older newer both = (id : Identifier) → map.get both id ≡ option_or (map.get newer id) (map.get older id)

-- a list with no items has room for those of two maps
pub record IsRoomFor {D X A : Type 0} (older newer : Map D) (room : Vec X A) : Type 0 where
  pub empty : vec_len room ≡ 0
  pub fits : map.len older + map.len newer ≤ vec_capacity room

-- with each document put under its identifier, in their order
abbrev pub with_each : {D : Type 0} → (D → Identifier) → Map D → List D → Map D
with_each id_of m documents = fold (λ m d. map.insert m (id_of d) d) m documents

-- so many documents are taken from the end of a list, and stand under their identifiers
pub record IsGathered {D : Type 0} (id_of : D → Identifier) (old new : List D) (count : ℕ) (gathered : Map D) : Type 0 where
  pub taken : List D
  pub old_is : old ≡ new ++ taken
  pub as_many : length taken ≡ count
  pub holds : gathered ≡ with_each id_of map.empty taken
