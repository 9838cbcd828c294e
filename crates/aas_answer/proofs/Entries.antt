-- Pages, as they are poured entry by entry.
use Rattle.std.proofs.Common.{◌≡◌, ℕ, ◌+◌, List, [], ◌++◌, nat_lt, take, slice_get, Option, Some, None, sym, ap, ◌∙◌}
use Rattle.std.specs.Option.{option_map_or}
use Rattle.serde_json.specs.Written.{comma_if}
use Rattle.aas_out.specs.Adds.{Adds}
use Rattle.aas_out.specs.Told.{Told}
use Rattle.aas_out.specs.declared.pouring.Pouring.{Pouring}
use Rattle.aas_out.proofs.Adding.{adds_both, adds_nothing, adds_same}
use Rattle.aas_answer.proofs.Pages.{joined, joined_next}

-- one more entry, behind a comma where it isn't the first
pub entry_added : {X K : Type 0} (text : X → List ℕ) (xs : List X)
    (k : ℕ) (x : X) (comma : List ℕ) (s a b r : Pouring) (t u v w : Told K)
    → slice_get xs k ≡ Some x → Adds s a t u (joined text (take k xs))
    → comma ≡ comma_if (nat_lt 0 k) → Adds a b u v comma → Adds b r v w (text x)
    → Adds s r t w (joined text (take (k + 1) xs))
entry_added text xs k x comma s a b r t u v w at so_far is behind told =
    let old = joined text (take k xs) in
    adds_same s r t w ((old ++ comma) ++ text x) (joined text (take (k + 1) xs))
    (adds_both s b r t v w (old ++ comma) (text x) (adds_both s a b t u v old comma so_far behind) told)
    (ap (λ c. (old ++ c) ++ text x) is ∙ sym (joined_next text xs k x at))

-- what isn't there adds nothing
pub adds_none : {X K : Type 0} (text : X → List ℕ) (found : Option X) (s : Pouring) (t : Told K)
    → found ≡ None → Adds s s t t (option_map_or text found [])
adds_none text found s t none =
    adds_same s s t t [] (option_map_or text found []) (adds_nothing s t) (ap (λ o. option_map_or text o []) (sym none))
