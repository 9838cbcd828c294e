-- The fields of a payload, each by its place.
use Rattle.std.proofs.Common.{ℕ, zero, suc, ◌<◌, ◌≤◌, List, [], ◌∷◌, length, get_or, length-append, arith}
use Rattle.std.specs.Borrow.{Bor}
use Rattle.std.specs.Int.{to_be_bytes, w32}
use Rattle.std.specs.List.{flat_map}
use Rattle.std.specs.Str.{IsUtf8}
use Rattle.aas_json_spelling.specs.Lists.{Each}
use Rattle.aas_command.specs.Commands.{bytes_of, field, tagged}
use Rattle.aas_command.specs.Encoding.{IsFaultOf, lent}
use Rattle.aas_command.specs.declared.encoding.EncodeFault.{EncodeFault}
use Rattle.aas_command.specs.declared.encoding.EncodeFault.TheVariants.{TooLong, NoMemory}

-- what all contents are, each is
pub utf8_at : (contents : List (Bor (List ℕ))) (i : ℕ) (d : Bor (List ℕ))
    → Each IsUtf8 (lent contents) → i < length contents → IsUtf8 (get_or contents i d).now
utf8_at [] i d all within = absurd (omega arith)
utf8_at (c ∷ contents) zero d all within = all.0
utf8_at (c ∷ contents) (suc i) d all within = utf8_at contents i d all.1 (omega arith)

no_longer : (contents : List (Bor (List ℕ))) (i : ℕ) (d : Bor (List ℕ))
    → i < length contents → length (get_or contents i d).now ≤ length (flat_map field (lent contents))
no_longer [] i d within = absurd (omega arith)
no_longer (c ∷ contents) zero d within = omega (
  arith,
  length-append (field c.now) (flat_map field (lent contents)),
  length-append (to_be_bytes w32 (length c.now)) c.now,
)
no_longer (c ∷ contents) (suc i) d within =
    omega (arith, length-append (field c.now) (flat_map field (lent contents)), no_longer contents i d (omega arith))

-- where one content is too long, the payload is
pub too_long_at : (tag : ℕ) (contents : List (Bor (List ℕ))) (i : ℕ) (d : Bor (List ℕ)) (fault : EncodeFault)
    → i < length contents → IsFaultOf (get_or contents i d).now fault
    → IsFaultOf (bytes_of (tagged tag (lent contents))) fault
too_long_at tag contents i d TooLong within long = omega (arith, no_longer contents i d within, long)
too_long_at tag contents i d NoMemory within any = any
