-- Bytes without a `%` stand for themselves.
use Rattle.std.proofs.Common.{◌≡◌, ℕ, suc, List, [], ◌∷◌, None, ap, ◌∙◌, arith}
use Rattle.std.proofs.lemmas.Bool.{eq-eqb}
use Rattle.memchr.specs.Find.{IsFirstByte, is_byte}
use Rattle.percent_encoding.specs.Percent.{percent_decode}
use Rattle.percent_encoding.proofs.PercentLemmas.{percent_decode-nil, percent_decode_not_percent}

pub percent_decode_plain : (bs : List ℕ) → IsFirstByte (is_byte 37) bs None → percent_decode bs ≡ bs
percent_decode_plain [] none = percent_decode-nil
percent_decode_plain (b ∷ bs) none =
    percent_decode_not_percent b bs (λ percent. none 0 (omega arith) (omega arith) (eq-eqb b 37 percent))
    ∙ ap (λ rest. b ∷ rest) (percent_decode_plain bs (λ k _ inside passes. none (suc k) (omega arith) (omega arith) passes))
