-- The index of a column of sides: the ranks of those that have an idShort, by its short key, then by level, then by its
-- bytes, then by rank. So the child of a name is the first rank behind its parent's that has its level and its idShort.
-- The index knows no parent, and stays in order when rows move together. This profile's own rule.
use Rattle.std.specs.Prelude.{◌≡◌, ℕ, ◌++◌, ◌≤◌, ◌^◌, ◌==◌, ◌&&◌, not, nat_lt, get_or, if◌then◌else◌, Bool, false, List}
use Rattle.std.specs.Prelude.{[], ◌∷◌, length, slice_get, take, Option, Some, None}
use Rattle.std.specs.Cmp.Lexicographic.{slice_cmp}
use Rattle.std.specs.Int.{from_be_bytes, w64}
use Rattle.std.specs.List.{All, list_any}
use Rattle.std.specs.List.Sorted.{IsSorted}
use Rattle.std.specs.Option.{is_some}
use Rattle.std.specs.Ordering.{nat_cmp, ordering_then}
use Rattle.std.specs.Str.{encode_utf8_all}
use Rattle.std.specs.declared.cmp.Ordering.{Ordering}
use Rattle.aas_sheet_index.specs.Sides.{AreMeasured, HaveLevels}
use Rattle.aas_sheet_index.specs.declared.side.Side.{Side}

abbrev pub name_bytes : Option (List ℕ) → List ℕ
name_bytes None = []
name_bytes (Some n) = encode_utf8_all n

abbrev pub capped : ℕ → ℕ
capped n = if nat_lt n 255 then n else 255

-- the level, the length of the idShort and its first six bytes,
-- each in a byte of one number: most idShorts differ in it
abbrev pub short_key : ℕ → List ℕ → ℕ
short_key level name =
    from_be_bytes w64
    (capped level ∷ capped (length name) ∷ get_or name 0 0 ∷ get_or name 1 0
    ∷ get_or name 2 0 ∷ get_or name 3 0 ∷ get_or name 4 0 ∷ get_or name 5 0 ∷ [])

-- by what an idShort of a level stands in its place
abbrev pub key : ℕ → List ℕ → List ℕ
key level name = short_key level name ∷ level ∷ name

-- the same of a side, by the short key that it keeps
abbrev pub key_of : Option Side → List ℕ
key_of None = []
key_of (Some s) = s.short_key ∷ s.level ∷ name_bytes s.id_short

-- the short key that a side keeps is that of its level and its idShort
abbrev pub IsKeyed : Side → Type 0
IsKeyed s = s.short_key ≡ short_key s.level (name_bytes s.id_short)

abbrev pub AreKeyed : List Side → Type 0
AreKeyed ss = All IsKeyed ss

-- by what a rank stands in its place, but for the rank itself
abbrev pub key_at : List Side → ℕ → List ℕ
key_at ss r = key_of (slice_get ss r)

-- how one key and rank stand to another
abbrev pub compared : List ℕ → ℕ → List ℕ → ℕ → Ordering
compared a m b n = ordering_then (slice_cmp nat_cmp a b) (nat_cmp m n)

abbrev pub order : List Side → ℕ → ℕ → Ordering
order ss r q = compared (key_at ss r) r (key_at ss q) q

abbrev pub has_name : Option Side → Bool
has_name None = false
has_name (Some s) = is_some s.id_short

abbrev pub is_between : ℕ → ℕ → ℕ → Bool
is_between first end r = not (nat_lt r first) && nat_lt r end

-- the ranks from first on, up to end, that have an idShort
abbrev pub Listed : List Side → ℕ → ℕ → List ℕ → Type 0
Listed ss first end ranks =
    (r : ℕ) → list_any (λ q. q == r) ranks ≡ (is_between first end r && has_name (slice_get ss r))

-- the part of an index that names the sides from first on
pub record IsPart (ss : List Side) (first : ℕ) (ranks : List ℕ) : Type 0 where
  pub ordered : IsSorted (order ss) ranks
  pub listed : Listed ss first (length ss) ranks

-- a rank has 32 bits
pub record IsIndex (ss : List Side) (ranks : List ℕ) : Type 0 where
  pub few : length ss ≤ 2 ^ 31
  pub part : IsPart ss 0 ranks

-- sides that have their sizes, with their index
pub record IsColumn (ss : List Side) (ranks : List ℕ) : Type 0 where
  pub index : IsIndex ss ranks
  pub sized : AreMeasured ss
  pub levels : HaveLevels ss
  pub keyed : AreKeyed ss

-- ranks with those of the sides from first on behind
pub record Enlarged (ss : List Side) (first : ℕ) (old new : List ℕ) (added : ℕ) : Type 0 where
  pub fresh : List ℕ
  pub is : new ≡ old ++ fresh
  pub long : added ≡ length fresh
  pub part : IsPart ss first fresh

-- the first of some sides have an index, and the ranks of the others, the last of all, wait to be put into it
pub record Waiting (ss : List Side) (count : ℕ) (ranks : List ℕ) (added : ℕ) : Type 0 where
  pub kept : List ℕ
  pub fresh : List ℕ
  pub is : ranks ≡ kept ++ fresh
  pub long : added ≡ length fresh
  pub index : IsPart (take count ss) 0 kept
  pub part : IsPart ss count fresh
