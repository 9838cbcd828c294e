-- What a list of identifiers stands for.
use Rattle.std.specs.Prelude.{ℕ, T, List, map, ⊤}
use Rattle.std.specs.Cmp.Lexicographic.{slice_cmp}
use Rattle.std.specs.FinMap as fin
use Rattle.std.specs.Ordering.{nat_cmp}
use Rattle.std.specs.Str.{encode_utf8_all}

-- identifiers as their UTF-8 bytes
abbrev pub marks : List (List ℕ) → List (List ℕ × ⊤)
marks ids = map (λ id. (encode_utf8_all id, tt)) ids

-- in byte order, each once
abbrev pub AreInOrder : List (List ℕ) → Type 0
AreInOrder ids = T (fin.is_sorted (slice_cmp nat_cmp) (marks ids))
