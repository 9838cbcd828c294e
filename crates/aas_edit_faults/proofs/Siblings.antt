-- Siblings without faults: one changed, one taken out, one behind them.
use Rattle.std.proofs.Common.{◌≡◌, ℕ, zero, suc, ◌<◌, Bool, List, [], ◌∷◌, ◌++◌, length, take, map, Option, Some, slice_get, slice_set, sym, ap, ap₂, ◌∙◌, arith}
use Rattle.std.specs.Prelude.{remove}
use Rattle.std.proofs.lemmas.List.{append-nil, length-map, length-take-le}
use Rattle.std.proofs.lemmas.Option.{slice_get_within}
use Rattle.aas_lemmas.proofs.Lists.{append_one}
use Rattle.aas_model.specs.declared.element.Element.{Element}
use Rattle.aas_constraint_rules.specs.Faults.{fault}
use Rattle.aas_constraint_rules.specs.Rules.{name_of, semantics_of}
use Rattle.aas_constraint_rules.specs.Sites.{Own, own_of, step_to}
use Rattle.aas_constraint_rules.proofs.Elements.{under_fault}
use Rattle.aas_edit_faults.proofs.Earlier.{Allows, allows_fewer, allows_other, still_none_own, allows_more}
use Rattle.aas_edit_faults.proofs.Level.{broken_at, faults_among, faults_below, faults_in, among_none, among_cons, among_append}
use Rattle.aas_edit_faults.proofs.Level.{none_own, none_below, none_in, none_first, none_later, none_among}

-- the siblings before the child at i
abbrev pub before : List Own → List Element → ℕ → List Own
before b ks i = b ++ map own_of (take i ks)

module _ (t : Bool) (a : Option Own) where
  -- what has no fault after the siblings b has none after c
  still_none : (b c : List Own) (ks : List Element) → Allows a b c → faults_among t a b ks ≡ [] → faults_among t a c ks ≡ []
  still_none b c [] allows e = among_none t a c
  still_none b c (k ∷ ks) allows e =
      let here = none_first t a b k ks e in
      let own = none_own t a b k here in
      none_among t a c k ks (none_in t a c k (still_none_own t a b c (own_of k) allows own) (none_below t a b k here))
      (still_none (b ++ own_of k ∷ []) (c ++ own_of k ∷ []) ks (allows_more t a b c (own_of k) allows own) (none_later t a b k ks e))

  -- a child of siblings without faults has none
  pub none_at : (b : List Own) (ks : List Element) (i : ℕ) (k : Element) → faults_among t a b ks ≡ [] → slice_get ks i ≡ Some k
      → faults_in t a (before b ks i) k ≡ []
  none_at b [] i k e at = absurd (cc)
  none_at b (x ∷ ks) zero k e at =
      let same : x ≡ k = cc in ap₂ (λ c y. faults_in t a c y) (append-nil b) (sym same) ∙ none_first t a b x ks e
  none_at b (x ∷ ks) (suc i) k e at =
      ap (λ c. faults_in t a c k) (sym (append_one b (own_of x) (map own_of (take i ks))))
      ∙ none_at (b ++ own_of x ∷ []) ks i k (none_later t a b x ks e) at

  -- with another child for one of the same name and the same semanticId there are the faults of that child
  pub one_changed : (b : List Own) (ks : List Element) (i : ℕ) (k w : Element) → faults_among t a b ks ≡ [] → slice_get ks i ≡ Some k
      → name_of (own_of w) ≡ name_of (own_of k) → semantics_of (own_of w) ≡ semantics_of (own_of k)
      → faults_among t a b (slice_set ks i w) ≡ faults_among t a (before b ks i) (w ∷ [])
  one_changed b [] i k w e at name semantics = absurd (cc)
  one_changed b (x ∷ ks) zero k w e at name semantics =
      let same : k ≡ x = cc in
      let allows = allows_other a b (own_of x) (own_of w) (name ∙ ap (λ y. name_of (own_of y)) same) (semantics ∙ ap (λ y. semantics_of (own_of y)) same) in
      among_append t a b (w ∷ []) ks
      ∙ ap (λ l. faults_among t a b (w ∷ []) ++ l) (still_none (b ++ own_of x ∷ []) (b ++ own_of w ∷ []) ks allows (none_later t a b x ks e))
      ∙ append-nil (faults_among t a b (w ∷ []))
      ∙ ap (λ c. faults_among t a c (w ∷ [])) (sym (append-nil b))
  one_changed b (x ∷ ks) (suc i) k w e at name semantics =
      let step = step_to a (length b) (own_of x) in
      among_cons t a b x (slice_set ks i w)
      ∙ ap (λ fs. map (under_fault step) fs ++ faults_among t a (b ++ own_of x ∷ []) (slice_set ks i w)) (none_first t a b x ks e)
      ∙ one_changed (b ++ own_of x ∷ []) ks i k w (none_later t a b x ks e) at name semantics
      ∙ ap (λ c. faults_among t a c (w ∷ [])) (append_one b (own_of x) (map own_of (take i ks)))

  -- without one of them there are none
  pub one_out : (b : List Own) (ks : List Element) (i : ℕ) → faults_among t a b ks ≡ [] → faults_among t a b (remove ks i) ≡ []
  one_out b [] zero e = e
  one_out b [] (suc i) e = e
  one_out b (x ∷ ks) zero e = still_none (b ++ own_of x ∷ []) b ks (allows_fewer a b (own_of x)) (none_later t a b x ks e)
  one_out b (x ∷ ks) (suc i) e = none_among t a b x (remove ks i) (none_first t a b x ks e) (one_out (b ++ own_of x ∷ []) ks i (none_later t a b x ks e))

  -- with one more behind them there are the faults of that one
  pub one_more : (ks : List Element) (w : Element) → faults_among t a [] ks ≡ []
      → faults_among t a [] (ks ++ w ∷ []) ≡ faults_among t a (map own_of ks) (w ∷ [])
  one_more ks w e = among_append t a [] ks (w ∷ []) ∙ ap (λ l. l ++ faults_among t a (map own_of ks) (w ∷ [])) e

  pub so_many_before : (ks : List Element) (i : ℕ) (k : Element) → slice_get ks i ≡ Some k → length (before [] ks i) ≡ i
  so_many_before ks i k at =
      let within : i < length ks = slice_get_within ks i k at in
      length-map (take i ks) own_of ∙ length-take-le i ks (omega (arith, within))

  -- with another child of the same attributes there are the faults of all below it
  pub one_changed_below : (ks : List Element) (i : ℕ) (k w : Element) → faults_among t a [] ks ≡ [] → slice_get ks i ≡ Some k → own_of w ≡ own_of k
      → faults_among t a [] (slice_set ks i w) ≡ map (under_fault (step_to a i (own_of k))) (faults_below t w)
  one_changed_below ks i k w e at same =
      let b = before [] ks i in
      let own : broken_at t a b (own_of w) ≡ [] = ap (broken_at t a b) same ∙ none_own t a b k (none_at [] ks i k e at) in
      let step = step_to a (length b) (own_of w) in
      one_changed [] ks i k w e at (ap name_of same) (ap semantics_of same)
      ∙ among_cons t a b w []
      ∙ ap (λ l. map (under_fault step) (faults_in t a b w) ++ l) (among_none t a (b ++ own_of w ∷ []))
      ∙ append-nil (map (under_fault step) (faults_in t a b w))
      ∙ ap₂ (λ s (ns : List ℕ). map (under_fault s) (map (fault []) ns ++ faults_below t w))
      (ap₂ (λ n o. step_to a n o) (so_many_before ks i k at) same) own
