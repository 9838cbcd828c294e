-- The segments of a path and its texts, from a place on to their ends.
use Rattle.std.proofs.Common.{◌≡◌, map, IsSome, Some, None, Option, ℕ, zero, suc, ◌+◌, ◌-◌, ◌<◌, ◌≤◌, true, false, cond, List, [], ◌∷◌, option_map, length, drop, get_or, refl, sym, ap, subst, ◌∙◌, ⊎_elim, arith}
use Rattle.std.proofs.lemmas.Bool.{cases_Bool, cases_eq, cond-true, cond-false, false≢true}
use Rattle.std.proofs.lemmas.List.{drop_more, drop_all, length-map}
use Rattle.aas_target.specs.Routes.{Segment, Texts, fits, no_texts, with_text, texts_of}
use Rattle.aas_target.proofs.Long.{texts_of_others}

module _ {A B : Type 0} (f : A → Segment) (g : B → List ℕ) where
  abbrev pub texts_from : ℕ → List A → List B → Option Texts
  texts_from i ss ts = texts_of (map f (drop i ss)) (map g (drop i ts))

  -- a path that lacks those from a place on lacks all
  pub none_from : (i : ℕ) (ss : List A) (ts : List B) → texts_from i ss ts ≡ None → None ≡ texts_of (map f ss) (map g ts)
  none_from zero ss ts none = sym none
  none_from (suc i) [] [] none = cc
  none_from (suc i) [] (t ∷ ts) none = refl
  none_from (suc i) (s ∷ ss) [] none = refl
  none_from (suc i) (s ∷ ss) (t ∷ ts) none =
      let rest : None ≡ texts_of (map f ss) (map g ts) = none_from i ss ts none in
      elim (fits (f s) (g t)) as (λ b. None ≡ cond b (option_map {T = Texts} (with_text (f s) (g t)) (texts_of (map f ss) (map g ts))) None)
      [ true ↦ ap (option_map {T = Texts} (with_text (f s) (g t))) rest | false ↦ refl ]

  pub same_lengths : (ss : List A) (ts : List B) → IsSome (texts_of (map f ss) (map g ts)) → length ss ≡ length ts
  same_lengths ss ts is = ⊎_elim
      (λ same. same)
      (λ differ. absurd (false≢true (subst IsSome (sym (texts_of_others (map f ss) (map g ts) (λ same. differ (simp length-map at same)))) is)))
      (cases_eq (length ss) (length ts))

  pub texts_from_end : (ss : List A) (ts : List B) → length ss ≡ length ts → texts_from (length ss) ss ts ≡ Some no_texts
  texts_from_end ss ts same = rw (drop_all (length ss) ss (omega arith), drop_all (length ss) ts (omega arith)) refl

  pub texts_from_place : (i : ℕ) (ss : List A) (ts : List B) (a : A) (b : B) → i < length ss → i < length ts
      → texts_from i ss ts
      ≡ cond (fits (f (get_or ss i a)) (g (get_or ts i b))) (option_map {T = Texts} (with_text (f (get_or ss i a)) (g (get_or ts i b))) (texts_from (i + 1) ss ts)) None
  texts_from_place i ss ts a b in_segments in_texts = rw (drop_more ss i a in_segments, drop_more ts i b in_texts) refl

  -- a text that doesn't fit its segment
  pub none_at : (i : ℕ) (ss : List A) (ts : List B) (a : A) (b : B) → i < length ss → i < length ts
      → fits (f (get_or ss i a)) (g (get_or ts i b)) ≡ false → None ≡ texts_of (map f ss) (map g ts)
  none_at i ss ts a b in_segments in_texts unfit =
      none_from i ss ts (texts_from_place i ss ts a b in_segments in_texts ∙ cond-false _ _ _ unfit)

  -- one segment more
  pub texts_from_before : (n : ℕ) (ss : List A) (ts : List B) (a : A) (b : B) (t : Texts) → IsSome (texts_of (map f ss) (map g ts)) → 0 < n → n ≤ length ss
      → texts_from n ss ts ≡ Some t → texts_from (n - 1) ss ts ≡ Some (with_text (f (get_or ss (n - 1) a)) (g (get_or ts (n - 1) b)) t)
  texts_from_before n ss ts a b t is some inside later =
      let same : length ss ≡ length ts = same_lengths ss ts is in
      let next : n ≡ n - 1 + 1 = omega arith in
      let segment = f (get_or ss (n - 1) a) in
      let text = g (get_or ts (n - 1) b) in
      ⊎_elim
      (λ fit. texts_from_place (n - 1) ss ts a b (omega arith) (omega arith) ∙ cond-true _ _ _ fit ∙ ap (option_map {T = Texts} (with_text segment text)) (rw next at later))
      (λ unfit. absurd (false≢true (subst IsSome (sym (none_at (n - 1) ss ts a b (omega arith) (omega arith) unfit)) is)))
      (cases_Bool (fits segment text))
