-- A piece of a file that was read. This profile's own rule.
use Rattle.std.specs.Prelude.{◌≡◌, ℕ, ◌+◌, ◌-◌, Bool, ◌&&◌, nat_le, nat_lt, if◌then◌else◌, List, [], length, take, drop}
use Rattle.aas_outside_disk.specs.declared.part.Part.{Part}
use Rattle.aas_outside_disk.specs.Files.{Files, file, same_part}

pub record PieceState : Type 0 where
  pub part : Part
  -- the place of its first byte in the file
  pub at : ℕ
  pub bytes : List ℕ

-- how many bytes a piece has at most
abbrev pub piece_bytes : ℕ
piece_bytes = 65536

-- a range of one byte or more lies in the piece
abbrev pub lies_in : PieceState → Part → ℕ → ℕ → Bool
lies_in piece part at count =
    nat_lt 0 count
    && (same_part part piece.part && (nat_le piece.at at && nat_le (at + count) (piece.at + length piece.bytes)))

-- the bytes of a range that lies in the piece
abbrev pub bytes_at : PieceState → ℕ → ℕ → List ℕ
bytes_at piece at count = take count (drop (at - piece.at) piece.bytes)

-- its bytes are those that reads give
abbrev pub IsRead : Files → PieceState → Type 0
IsRead files piece = piece.bytes ≡ take (length piece.bytes) (drop piece.at (file piece.part files))

-- as much as a piece can have from this place on
abbrev pub piece_at : Files → Part → ℕ → PieceState
piece_at files part at = record { part = part; at = at; bytes = take piece_bytes (drop at (file part files)) }

-- The piece after a read: the one before it, where the range lies in it; else the one that begins with the range, where
-- a piece is longer than the range; else none.
abbrev pub piece_after : Files → PieceState → Part → ℕ → ℕ → PieceState
piece_after files piece part at count =
    if lies_in piece part at count
    then piece
    else (if nat_lt 0 count && nat_lt count piece_bytes then piece_at files part at else record piece { bytes = [] })
