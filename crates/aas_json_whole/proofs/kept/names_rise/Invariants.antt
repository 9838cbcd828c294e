use Rattle.std.proofs.Common.{◌≡◌, ◌∷◌, drop, map}
use Rattle.aas_json_spelling.specs.Kept.{are_rising}
use Rattle.aas_json_whole.specs.KeptData.{name_of}
use Rattle.aas_json_whole.proofs.kept.names_rise.Given as goal

-- the pair before and those that are left
abbrev pub invariant-loop-pair : goal.invariant-loop-pair
invariant-loop-pair l =
    are_rising (map name_of (l.before ∷ drop l.pair-index l.rest))
    ≡ are_rising (map name_of (l.initial.before ∷ l.rest))
