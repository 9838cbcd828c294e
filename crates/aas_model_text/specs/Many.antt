-- What a list ends as, once a slice of all its items was lent.
use Rattle.std.specs.Prelude.{List, ◌++◌, length, take, drop}

-- the items ws, cut to the length of xs, and filled up to it from xs
abbrev pub filled : {X : Type 0} → List X → List X → List X
filled xs ws = take (length xs) (ws ++ drop (length ws) xs)
