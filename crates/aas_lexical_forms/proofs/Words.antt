-- What `strip_prefix` gives is what the cut gives.
use Rattle.std.proofs.Common.{◌≡◌, ◌≢◌, ℕ, List, ◌++◌, Option, Some, None, refl, sym, ap, ◌∙◌, Bor}
use Rattle.std.specs.Option.{option_map, MatchOption}
use Rattle.aas_lexical_forms.specs.Cut.{after_word}
use Rattle.aas_lexical_forms.proofs.Cuts.{word-sound, word-full}

none_left : (word text : List ℕ) (o : Option (List ℕ)) → after_word word text ≡ o → ((rest : List ℕ) → text ≢ word ++ rest) → None ≡ o
none_left word text None e k = refl
none_left word text (Some rest) e k = absurd (k rest (word-sound word text rest e))

pub stripped : (word text : List ℕ) (r : Option (Bor (List ℕ))) → MatchOption r ((rest : List ℕ) → text ≢ word ++ rest) (λ x. text ≡ word ++ x.now) → option_map (λ (x : Bor (List ℕ)). x.now) r ≡ after_word word text
stripped word text None h = none_left word text (after_word word text) refl h
stripped word text (Some x) h = sym (ap (after_word word) h ∙ word-full word x.now)
