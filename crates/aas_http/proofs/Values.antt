-- What is found of the values of one name.
use Rattle.std.proofs.Common.{◌≡◌, ◌<◌, ℕ, Bool, true, false, ◌||◌, List, [], ◌∷◌, length, Option, None, refl, ap}
use Rattle.std.proofs.Common.{◌∙◌, arith}
use Rattle.std.specs.Prelude.{nat_lt, bytes_eq, codes}
use Rattle.http1.specs.Fields.{Header, values_named}
use Rattle.aas_http.specs.BodyLength.{length_of_values, body_length}
use Rattle.aas_http.specs.NotImplemented.{is_not_implemented}

pub length_of_several : (values : List (List ℕ)) → 1 < length values → None ≡ length_of_values values
length_of_several [] h = absurd (omega arith)
length_of_several (v ∷ []) h = absurd (omega arith)
length_of_several (v ∷ w ∷ more) h = refl

pub said : (fields : List Header) (values : List (List ℕ)) (found : Option ℕ)
    → values ≡ values_named (codes "content-length") fields → found ≡ length_of_values values
    → found ≡ body_length fields
unfolding body_length
said fields values found same is = is ∙ ap length_of_values same

pub left_out : (method : List ℕ) (fields : List Header) (values : List (List ℕ)) (coded head connect : Bool)
    → values ≡ values_named (codes "transfer-encoding") fields
    → coded ≡ nat_lt 0 (length values) → head ≡ bytes_eq method (codes "HEAD")
    → connect ≡ bytes_eq method (codes "CONNECT") → ((coded || head) || connect) ≡ is_not_implemented method fields
unfolding is_not_implemented
left_out method fields values coded head connect same is h k =
    or_assoc coded head connect ∙ cc
  where
    or_assoc : (a b c : Bool) → ((a || b) || c) ≡ (a || (b || c))
    or_assoc true b c = refl
    or_assoc false b c = refl
