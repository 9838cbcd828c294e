-- Words on texts and on what may be absent.
use Rattle.std.specs.Prelude.{ℕ, Bool, true, not, ◌&&◌, List, [], ◌∷◌, ◌++◌, bytes_eq, Option, Some, None}
use Rattle.std.specs.List.{list_any}

-- what is there, as a list
abbrev pub as_list : {X : Type 0} → Option X → List X
as_list None = []
as_list (Some x) = x ∷ []

-- text is one of texts
abbrev pub is_among : List ℕ → List (List ℕ) → Bool
is_among text texts = list_any (bytes_eq text) texts

-- no text stands at two places, where those of before stand earlier
abbrev pub all_differ_after : List (List ℕ) → List (List ℕ) → Bool
all_differ_after before [] = true
all_differ_after before (text ∷ more) = not (is_among text before) && all_differ_after (before ++ text ∷ []) more

abbrev pub all_differ : List (List ℕ) → Bool
all_differ texts = all_differ_after [] texts
