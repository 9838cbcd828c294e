-- What stands in a piece, and what it answers.
use Rattle.std.proofs.Common.{◌≡◌, ◌∙◌, ◌<◌, ◌≤◌, ◌-◌, ◌+◌, ◌++◌, Bool, true, false, List, [], ℕ, length, min, take}
use Rattle.std.proofs.Common.{drop, Option, Some, None, refl, sym, ap, subst, arith, length-append, length-drop}
use Rattle.std.specs.Option.{ForSome}
use Rattle.std.specs.Prelude.{◌&&◌, if◌then◌else◌, nat_le, nat_lt, IfSome}
use Rattle.std.proofs.lemmas.Bool.{and_from, and_parts, leb-true, lt-ltb, true≢false}
use Rattle.std.proofs.lemmas.List.{drop-drop, drop-take, take-append-le, take-take, take_all, take_min}
use Rattle.aas_outside_disk.specs.declared.part.Part.{Part}
use Rattle.aas_outside_disk.specs.Files.{Files, file, same_part}
use Rattle.aas_outside_disk.specs.Piece.{IsRead, PieceState, bytes_at, lies_in, piece_after, piece_at, piece_bytes}
use Rattle.aas_outside_disk.proofs.Follows.{same_part-true}

abbrev as_piece : Part → ℕ → List ℕ → PieceState
as_piece part at bytes = record { part = part; at = at; bytes = bytes }

-- what was read into the front of the storage is the piece
pub front_read : (part : Part) (at count len : ℕ) (front rest items bytes : List ℕ) → length front ≡ count → count ≤ len
    → front ≡ take count (drop at bytes)
    → as_piece part at (take count (take len ((front ++ rest) ++ drop (length (front ++ rest)) items)))
    ≡ as_piece part at (take count (drop at bytes))
front_read part at count len front rest items bytes whole within told =
    ap
    (as_piece part at)
    (take-take count len _ within
    ∙ take-append-le count (front ++ rest) _ (omega (arith, whole, length-append front rest))
    ∙ take-append-le count front rest (omega (arith, whole)) ∙ take_all count front (omega (arith, whole)) ∙ told)

second_of : {X : Type 0} (first second : Bool) (x y z : X) → first ≡ false → second ≡ true
    → (if first then x else (if second then y else z)) ≡ y
second_of true second x y z out is = absurd (true≢false out)
second_of false true x y z out is = refl
second_of false false x y z out is = absurd (true≢false (sym is))

-- a piece that was read with the range has as much as a piece can have
pub fetched : (seen now : Option Files) (old new : PieceState) (part : Part) (at count size most : ℕ)
    → lies_in old part at count ≡ false
    → 0 < count → count < piece_bytes → most ≡ min (size - at) piece_bytes
    → IfSome seen (λ files. size ≡ length (file part files))
    → now ≡ seen → IfSome now (λ files. new ≡ as_piece part at (take most (drop at (file part files))))
    → IfSome seen (λ files. new ≡ piece_after files old part at count)
fetched None now old new part at count size most out some short most_is size_is same read = tt
fetched (Some files) now old new part at count size most out some short most_is size_is same read =
    let bytes = drop at (file part files) in
    let is_read : Files → Type 0 = λ f. new ≡ as_piece part at (take most (drop at (file part f))) in
    let all : most ≡ min piece_bytes (length bytes) =
    omega (arith, most_is, size_is, length-drop at (file part files)) in
    let can = nat_lt 0 count && nat_lt count piece_bytes in
    let begun : can ≡ true = and_from _ _ (lt-ltb 0 count some) (lt-ltb count piece_bytes short) in
    subst (λ (told : Option Files). IfSome told is_read) same read
    ∙ ap (as_piece part at) (ap (λ (n : ℕ). take n bytes) all ∙ take_min piece_bytes bytes)
    ∙ sym (second_of (lies_in old part at count) can old (piece_at files part at) (record old { bytes = [] }) out begun)

-- where a range lies in a piece it is a part of it
module _ (piece : PieceState) (part : Part) (at count : ℕ) (lies : true ≡ lies_in piece part at count) where
  abbrev begins_before : Bool
  begins_before = nat_le piece.at at

  abbrev ends_before : Bool
  ends_before = nat_le (at + count) (piece.at + length piece.bytes)

  placed : (same_part part piece.part && (begins_before && ends_before)) ≡ true
  placed = (and_parts (nat_lt 0 count) (same_part part piece.part && (begins_before && ends_before)) (sym lies)).1

  tests : (same_part part piece.part ≡ true) × (begins_before && ends_before ≡ true)
  tests = and_parts (same_part part piece.part) (begins_before && ends_before) placed

  begins : piece.at ≤ at
  begins = leb-true piece.at at (and_parts begins_before ends_before tests.1).0

  ends : at + count ≤ piece.at + length piece.bytes
  ends = leb-true (at + count) (piece.at + length piece.bytes) (and_parts begins_before ends_before tests.1).1

  -- and is what a read gives
  given_by : (files : Files) → IsRead files piece → bytes_at piece at count ≡ take count (drop at (file part files))
  given_by files read =
      let from = at - piece.at in
      let rest = length piece.bytes - from in
      let bytes = file piece.part files in
      let whole : length piece.bytes ≡ from + rest = omega (arith, begins, ends) in
      let place : piece.at + from ≡ at = omega (arith, begins) in
      ap (λ (l : List ℕ). take count (drop from l)) (read ∙ ap (λ (n : ℕ). take n (drop piece.at bytes)) whole)
      ∙ ap (λ (l : List ℕ). take count l) (drop-take from rest (drop piece.at bytes))
      ∙ take-take count rest (drop from (drop piece.at bytes)) (omega (arith, begins, ends))
      ∙ ap (λ (l : List ℕ). take count l) (drop-drop from piece.at bytes)
      ∙ ap (λ (n : ℕ). take count (drop n bytes)) place
      ∙ ap (λ (p : Part). take count (drop at (file p files))) (sym (same_part-true part piece.part tests.0))

  pub given : (seen : Option Files) → ForSome seen (λ files. IsRead files piece)
      → IfSome seen (λ files. bytes_at piece at count ≡ take count (drop at (file part files)))
  given None read = tt
  given (Some files) read = given_by files (read files refl)
