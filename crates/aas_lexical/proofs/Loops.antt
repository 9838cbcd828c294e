-- What is known of a loop that cuts as long as something is found.
use Rattle.std.proofs.Common.{◌≡◌, ℕ, ◌<◌, List, length, Option, Some, None}
use Rattle.aas_lexical_forms.specs.Cut.{cut_many}
use Rattle.aas_lexical_forms.proofs.Cuts.{Cuts}
use Rattle.aas_lexical_forms.proofs.Repeat.{Nonempty, Shrinks-cut, cut_many_turn, cut_many_end}

-- each turn leaves less, and nothing else of what the loop cuts; and where nothing is found, it cuts nothing
abbrev pub Loops : (List ℕ → Option (List ℕ)) → Type 0
Loops p =
    ((t rest : List ℕ) → p t ≡ Some rest → (length rest < length t) × (cut_many p t ≡ cut_many p rest))
    × ((t : List ℕ) → p t ≡ None → cut_many p t ≡ t)

pub loops : {A Next : List ℕ → Type 0} {p : List ℕ → Option (List ℕ)} → Cuts A Next p → Nonempty A → Loops p
loops {A} {Next} {p} a n =
    let less = Shrinks-cut a n in
    (λ t rest e. (less.shrinks t rest e, cut_many_turn less t rest e), λ t e. cut_many_end p t e)
