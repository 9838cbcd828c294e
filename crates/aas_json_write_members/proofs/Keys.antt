-- Keys: a comma, a name in quotes, a colon.
use Rattle.std.proofs.Common.{◌≡◌, ℕ, true, List, [], ◌∷◌, ◌++◌, bytes_eq, drop, sym, ap, ◌∙◌, append_assoc}
use Rattle.std.proofs.lemmas.Slice.Eq.{bytes_eq-Decides}
use Rattle.json.specs.Print.{escape, quoted}
use Rattle.aas_lemmas.proofs.Truth.{and_left, and_right}
use Rattle.aas_json_write_members.specs.Keys.{is_key, name_in}
use Rattle.aas_json_write_members.specs.Members.{is_plain}
use Rattle.aas_json_write_members.proofs.Quoting.{plain_stands}

-- what stands behind the comma
abbrev pub named : List ℕ → List ℕ
named key = quoted (name_in key) ++ 58 ∷ []

pub key_parts : (key : List ℕ) → is_key key ≡ true → key ≡ 44 ∷ named key
key_parts key is =
    (bytes_eq-Decides key (44 ∷ 34 ∷ (name ++ 34 ∷ 58 ∷ []))).0 (and_left _ (is_plain name) is)
    ∙ ap (λ t. 44 ∷ 34 ∷ (t ++ 34 ∷ 58 ∷ []))
    (sym (plain_stands name (and_right (bytes_eq key (44 ∷ 34 ∷ (name ++ 34 ∷ 58 ∷ []))) _ is)))
    ∙ ap (λ t. 44 ∷ 34 ∷ t) (sym (append_assoc (escape name) (34 ∷ []) (58 ∷ [])))
  where
    name : List ℕ
    name = name_in key

pub behind_comma : (key : List ℕ) → is_key key ≡ true → drop 1 key ≡ named key
behind_comma key is = ap (drop 1) (key_parts key is)
