-- The first lost keys of several references, one thing that holds references after another.
use Rattle.std.proofs.Common.{◌≡◌, ℕ, ◌+◌, ◌<◌, List, [], ◌∷◌, ◌++◌, length, drop, get_or, flat_map, Result, Ok, Err}
use Rattle.std.proofs.Common.{refl, sym, ap, ◌∙◌, append_assoc}
use Rattle.std.specs.Prelude.{OnOk}
use Rattle.std.proofs.lemmas.List.Elements.{filter_map-append}
use Rattle.aas_lemmas.proofs.Lists.{drop_at}
use Rattle.aas_model.specs.declared.reference.Reference.{Reference}
use Rattle.aas_store.specs.Documents.{Documents}
use Rattle.aas_resolve.specs.Dangling.{dangling_key, dangling_keys}

module _ (m : Documents) where
  keys_append : (xs ys : List Reference) → dangling_keys m (xs ++ ys) ≡ dangling_keys m xs ++ dangling_keys m ys
  keys_append xs ys = filter_map-append (dangling_key m) xs ys

  -- those of xs were added, and then those of ys
  pub both : (old now new : List ℕ) (xs ys : List Reference)
      → now ≡ old ++ dangling_keys m xs → new ≡ now ++ dangling_keys m ys → new ≡ old ++ dangling_keys m (xs ++ ys)
  both old now new xs ys first second =
      second ∙ ap (λ l. l ++ dangling_keys m ys) first
      ∙ append_assoc old (dangling_keys m xs) (dangling_keys m ys) ∙ ap (λ l. old ++ l) (sym (keys_append xs ys))

  -- the same where the second call's result is the answer, for references that are xs and then ys
  pub both_of : {A E : Type 0} (r : Result A E) (old now new : List ℕ) (xs ys all : List Reference)
      → all ≡ xs ++ ys → now ≡ old ++ dangling_keys m xs
      → OnOk r (new ≡ now ++ dangling_keys m ys) → OnOk r (new ≡ old ++ dangling_keys m all)
  both_of (Ok x) old now new xs ys all is first second =
      both old now new xs ys first second ∙ ap (λ rs. old ++ dangling_keys m rs) (sym is)
  both_of (Err e) old now new xs ys all is first second = tt

  -- those of references that are others
  pub all_of : {A E : Type 0} (r : Result A E) (old new : List ℕ) (xs all : List Reference)
      → all ≡ xs → OnOk r (new ≡ old ++ dangling_keys m xs) → OnOk r (new ≡ old ++ dangling_keys m all)
  all_of (Ok x) old new xs all is added = added ∙ ap (λ rs. old ++ dangling_keys m rs) (sym is)
  all_of (Err e) old new xs all is added = tt

  -- ---- a loop over things that hold references

  -- those of the things before place i were added
  abbrev pub SoFar : {X : Type 0} → (X → List Reference) → List ℕ → List ℕ → List X → ℕ → Type 0
  SoFar held start now items i =
      start ++ dangling_keys m (flat_map held items) ≡ now ++ dangling_keys m (flat_map held (drop i items))

  pub one_more : {X : Type 0} (held : X → List Reference) (start now new : List ℕ) (items : List X) (i : ℕ) (x : X)
      → i < length items → x ≡ get_or items i x
      → new ≡ now ++ dangling_keys m (held x) → SoFar held start now items i → SoFar held start new items (i + 1)
  one_more held start now new items i x lt at added so_far =
      let rest = dangling_keys m (flat_map held (drop (i + 1) items)) in
      so_far ∙ ap (λ xs. now ++ dangling_keys m (flat_map held xs)) (drop_at items i x lt at)
      ∙ ap (λ l. now ++ l) (keys_append (held x) (flat_map held (drop (i + 1) items)))
      ∙ sym (append_assoc now (dangling_keys m (held x)) rest) ∙ ap (λ l. l ++ rest) (sym added)

-- a list of references as things that hold one each
pub singly : (rs : List Reference) → rs ≡ flat_map (λ r. r ∷ []) rs
singly [] = refl
singly (r ∷ rs) = ap (λ l. r ∷ l) (singly rs)
