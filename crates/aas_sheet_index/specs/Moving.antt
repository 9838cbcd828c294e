-- Where ranks go when the sides that stand behind the others, from count on up to total, come into the place of those
-- from first to end.
use Rattle.std.specs.Prelude.{ℕ, ◌+◌, ◌-◌, ◌==◌, ◌||◌, not, nat_lt, Bool, List, map, if◌then◌else◌}
use Rattle.std.specs.List.{filter}

abbrev pub stays : ℕ → ℕ → ℕ → Bool
stays first end r = nat_lt r first || not (nat_lt r end)

abbrev pub moved : ℕ → ℕ → ℕ → ℕ → ℕ → ℕ
moved first end count total r =
    if nat_lt r end then r else if nat_lt r count then r - (end - first) + (total - count) else r - (count - first)

abbrev pub renumbered : ℕ → ℕ → ℕ → ℕ → List ℕ → List ℕ
renumbered first end count total ranks = map (moved first end count total) (filter (stays first end) ranks)

-- all but the rank
abbrev pub is_other : ℕ → ℕ → Bool
is_other rank r = not (r == rank)
