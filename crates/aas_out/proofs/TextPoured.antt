-- A text in memory is what was poured.
use Rattle.std.proofs.Common.{◌≡◌, ℕ, List, [], ◌++◌, ap, ◌∙◌}
use Rattle.std.proofs.lemmas.Option.{same_Some}
use Rattle.aas_out.specs.Adds.{Adds}
use Rattle.aas_out.specs.TextTold.{text_told}
use Rattle.aas_out.specs.declared.pouring.Pouring.{Pouring}
use Rattle.aas_out.specs.declared.pouring.Pouring.TheVariants.{Going, Stopped}

-- where nothing was put before, and the pouring went on
pub text_poured : (old text : List ℕ) (before now : ℕ) (after : Pouring) (poured : List ℕ)
    → Adds Going after (text_told old before) (text_told text now) poured → old ≡ [] → after ≡ Going → text ≡ poured
unfolding Adds
text_poured old text before now Going poured h none going =
    same_Some text (old ++ poured) h.sent ∙ ap (λ o. o ++ poured) none
text_poured old text before now Stopped poured h none going = absurd (cc)
