-- No resource has a path of more segments than the longest: where there are more or fewer texts than segments, they don't fit.
use Rattle.std.proofs.Common.{◌≡◌, ◌≢◌, ℕ, ◌<◌, ◌≤◌, suc, true, false, cond, ◌==◌, List, [], ◌∷◌, None, option_map, length, drop, refl, ap, arith, lit≤}
use Rattle.form_urlencoded.specs.Form.{split}
use Rattle.aas_target.specs.declared.found.TheConstants.{MOST_SEGMENTS}
use Rattle.aas_target.specs.declared.routes.Resource.{Resource}
use Rattle.aas_target.specs.declared.routes.Resource.TheVariants.{Shells}
use Rattle.aas_target.specs.Routes.{Segment, Texts, row_of, fits, with_text, texts_of, first_with, first_within_shell, other_resources, submodel_resources, resource_with, resource_at}

pub texts_of_others : (segments : List Segment) (texts : List (List ℕ)) → length segments ≢ length texts → None ≡ texts_of segments texts
texts_of_others [] [] differ = absurd (differ refl)
texts_of_others [] (text ∷ texts) differ = refl
texts_of_others (segment ∷ segments) [] differ = refl
texts_of_others (segment ∷ segments) (text ∷ texts) differ =
    let none : None ≡ texts_of segments texts = texts_of_others segments texts (λ same. differ (ap suc same)) in
    elim (fits segment text) as (λ b. None ≡ cond b (option_map {T = Texts} (with_text segment text) (texts_of segments texts)) None)
    [ true ↦ ap (option_map {T = Texts} (with_text segment text)) none | false ↦ refl ]

-- not through a shell
few_segments : (resource : Resource) → length (row_of resource).segments ≤ 5
few_segments Shells = lit≤ tt
few_segments _ = lit≤ tt

first_with_more : (resources : List Resource) (texts : List (List ℕ)) → 5 < length texts → None ≡ first_with resources texts
first_with_more [] texts more = refl
first_with_more (resource ∷ others) texts more =
    let few = few_segments resource in
    let none : None ≡ texts_of (row_of resource).segments texts = texts_of_others (row_of resource).segments texts (λ same. omega arith) in
    rw (← none) (first_with_more others texts more)

first_within_shell_more : (texts : List (List ℕ)) → MOST_SEGMENTS < length texts → None ≡ first_within_shell texts
first_within_shell_more [] more = refl
first_within_shell_more (name ∷ []) more = refl
first_within_shell_more (name ∷ shell ∷ texts) more =
    let none : None ≡ first_with submodel_resources texts = first_with_more submodel_resources texts (omega arith) in
    grind (arith, none)

resource_with_more : (texts : List (List ℕ)) → MOST_SEGMENTS < length texts → None ≡ resource_with texts
unfolding resource_with
resource_with_more texts more =
    let others : None ≡ first_with other_resources texts = first_with_more other_resources texts (omega arith) in
    let submodels : None ≡ first_with submodel_resources texts = first_with_more submodel_resources texts (omega arith) in
    let within : None ≡ first_within_shell texts = first_within_shell_more texts more in
    rw (← others, ← submodels, ← within)

pub resource_at_more : (path : List ℕ) → MOST_SEGMENTS < length (split 47 (drop 1 path)) → None ≡ resource_at path
unfolding resource_at
resource_at_more [] more = refl
resource_at_more (byte ∷ bytes) more =
    elim (byte == 47) as (λ b. None ≡ cond b (resource_with (split 47 bytes)) None)
    [ true ↦ resource_with_more (split 47 bytes) more | false ↦ refl ]
