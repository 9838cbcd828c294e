-- A place at which the earlier siblings break nothing is as one without them.
use Rattle.std.proofs.Common.{◌≡◌, ℕ, Bool, true, false, not, ◌||◌, cond, List, [], ◌∷◌, ◌++◌, length, map, filter, flat_map, Option, Some, None, refl, sym, ap, ap₂, ◌∙◌, subst}
use Rattle.std.specs.List.{AllByRecursion}
use Rattle.std.proofs.lemmas.List.{append-nil}
use Rattle.aas_lemmas.proofs.Lists.{append_one}
use Rattle.aas_model.specs.declared.element.Element.{Element}
use Rattle.aas_model.specs.declared.path.Fault.{Fault}
use Rattle.aas_model.specs.declared.path.PathStep.{PathStep}
use Rattle.aas_reference.specs.Rules.{Rule}
use Rattle.aas_constraint_rules.specs.Faults.{fault, faults_at}
use Rattle.aas_constraint_rules.specs.Rules.{ElementSentence, local, placed, holds, rules, name_of, semantics_of, agree, is_repeat, stands_in_operation}
use Rattle.aas_constraint_rules.specs.Sites.{Own, own_of, Site, sites, step_to, stands_in_list, tree_of}
use Rattle.aas_constraint_rules.proofs.Elements.{tree_out, under_fault}
use Rattle.aas_constraint_laws.specs.Law.{behind}
use Rattle.aas_constraint_laws.proofs.Places.{each_passes}
use Rattle.aas_constraint_laws.proofs.Siblings.{neither}
use Rattle.aas_edit_faults.proofs.Earlier.{first_of, if_then, is_placed, placed_among}
use Rattle.aas_edit_faults.proofs.Level.{at_root, broken_at, faults_among, faults_below, faults_in, among_cons, among_none}

-- the earlier siblings b break nothing of o
pub record BreakNothing (a : Option Own) (b : List Own) (o : Own) : Type 0 where
  pub name : is_repeat b (name_of o) ≡ false
  pub semantics : stands_in_list a ≡ true → agree (first_of b) (semantics_of o) ≡ true

-- ---- where there are no faults they break nothing

pub break_nothing : (t : Bool) (a : Option Own) (b : List Own) (o : Own) → broken_at t a b o ≡ [] → BreakNothing a b o
unfolding broken_at
break_nothing t a b o e =
    let all = each_passes (λ s. holds s (at_root t a b o)) rules e in
    let from_22 = all.1.1.1.1.1 in
    let from_114 = from_22.1.1.1.1.1 in
    let of_134 = from_114.1.1.1.1.1.1.1.1.1.1.1.1.1.1.1.0 in
    record {
      name = neither (stands_in_operation a) (is_repeat b (name_of o)) from_22.0 of_134;
      semantics = if_then (stands_in_list a) (agree (first_of b) (semantics_of o)) from_114.0;
    }

-- another one of the same name and the same semanticId
pub break_nothing_of : (a : Option Own) (b : List Own) (o u : Own) → name_of u ≡ name_of o → semantics_of u ≡ semantics_of o → BreakNothing a b o → BreakNothing a b u
break_nothing_of a b o u name semantics nothing = record {
  name = ap (is_repeat b) name ∙ nothing.name;
  semantics = λ in_list. ap (agree (first_of b)) semantics ∙ nothing.semantics in_list;
}

-- ---- then it is as if they weren't there

no_repeat : (n : Option (List ℕ)) → is_repeat [] n ≡ false
no_repeat None = refl
no_repeat (Some n) = refl

same_if : (p q : Bool) → (p ≡ true → q ≡ true) → (not p || q) ≡ (not p || true)
same_if true q h = h refl
same_if false q h = refl

-- the same holds at two places
abbrev AreAlike : Site → Site → Rule ElementSentence → Type 0
AreAlike x y r = holds r.sentence x ≡ holds r.sentence y

module _ (t : Bool) (a : Option Own) (b : List Own) (o : Own) where
  abbrev here : Site
  here = at_root t a b o

  abbrev alone : Site
  alone = at_root t a [] o

  alike_from : (rs : List (Rule ElementSentence)) → AllByRecursion (AreAlike here alone) (placed_among rs) → AllByRecursion (AreAlike here alone) rs
  alike_from [] h = tt
  alike_from (r ∷ rs) h = let both = by_sentence r.sentence refl h in (both.0, alike_from rs both.1)
    where
      by_sentence : (s : ElementSentence) → r.sentence ≡ s → AllByRecursion (AreAlike here alone) (cond (is_placed s) (r ∷ placed_among rs) (placed_among rs))
          → AreAlike here alone r × AllByRecursion (AreAlike here alone) (placed_among rs)
      by_sentence (local s) e h = (subst (λ u. holds u here ≡ holds u alone) (sym e) refl, h)
      by_sentence (placed test) e h = h

  alike : BreakNothing a b o → AllByRecursion (AreAlike here alone) rules
  alike nothing =
      let repeat = nothing.name ∙ sym (no_repeat (name_of o)) in
      let of_22 = ap (λ x. stands_in_operation a || not x) repeat in
      let of_114 = same_if (stands_in_list a) (agree (first_of b) (semantics_of o)) nothing.semantics in
      let of_134 = ap (λ x. not (stands_in_operation a) || not x) repeat in
      alike_from rules (of_22, (refl, (refl, (refl, (of_114, (refl, (refl, (refl, (of_134, tt)))))))))

  pub broken_alone : BreakNothing a b o → broken_at t a b o ≡ broken_at t a [] o
  unfolding broken_at
  broken_alone nothing = ap (map (λ r. r.number)) (kept rules (alike nothing))
    where
      kept : (rs : List (Rule ElementSentence)) → AllByRecursion (AreAlike here alone) rs
          → filter (λ r. not (holds r.sentence here)) rs ≡ filter (λ r. not (holds r.sentence alone)) rs
      kept [] h = refl
      kept (r ∷ rs) h = ap₂ (λ x l. cond (not x) (r ∷ l) l) h.0 (kept rs h.1)

-- ---- the faults of one child

in_sites : (t : Bool) (a : Option Own) (b : List Own) (e : Element) → faults_in t a b e ≡ flat_map faults_at (sites t a b (tree_of e))
unfolding broken_at faults_among sites
in_sites t a b e = ap (λ u. flat_map faults_at (sites t a b u)) (sym (tree_out e))

behind_step : (p : List PathStep) (s : PathStep) (fs : List Fault) → map (behind p) (map (under_fault s) fs) ≡ map (behind (p ++ s ∷ [])) fs
behind_step p s [] = refl
behind_step p s (f ∷ fs) =
    ap₂ (λ steps l. record f { path = record { steps = steps } } ∷ l) (sym (append_one p s f.path.steps)) (behind_step p s fs)

pub child_alone : (t : Bool) (a : Option Own) (b : List Own) (p : List PathStep) (s : PathStep) (e : Element) → BreakNothing a b (own_of e) → step_to a (length b) (own_of e) ≡ s
    → map (behind p) (faults_among t a b (e ∷ [])) ≡ map (behind (p ++ s ∷ [])) (flat_map faults_at (sites t a [] (tree_of e)))
child_alone t a b p s e nothing step =
    ap (map (behind p))
    (among_cons t a b e []
    ∙ ap (λ l. map (under_fault (step_to a (length b) (own_of e))) (faults_in t a b e) ++ l) (among_none t a (b ++ own_of e ∷ []))
    ∙ append-nil (map (under_fault (step_to a (length b) (own_of e))) (faults_in t a b e))
    ∙ ap₂ (λ x fs. map (under_fault x) fs) step
    (ap (λ (ns : List ℕ). map (fault []) ns ++ faults_below t e) (broken_alone t a b (own_of e) nothing) ∙ in_sites t a [] e))
    ∙ behind_step p s (flat_map faults_at (sites t a [] (tree_of e)))
