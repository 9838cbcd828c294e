-- What a place wants of its earlier siblings: that none has its name, and in a list what the first semanticId among them is.
use Rattle.std.proofs.Common.{◌≡◌, ℕ, Bool, true, false, not, ◌||◌, cond, List, [], ◌∷◌, ◌++◌, map, filter, filter_map, Option, Some, None, refl, sym, ap, ◌∙◌, subst}
use Rattle.std.specs.List.{AllByRecursion, cons_option}
use Rattle.std.specs.Option.{option_or}
use Rattle.std.proofs.lemmas.Bool.{or_parts, or_from}
use Rattle.aas_model.specs.declared.reference.Reference.{Reference}
use Rattle.aas_reference.specs.Rules.{Rule, failing}
use Rattle.aas_reference.specs.Same.{IsSame}
use Rattle.aas_reference.proofs.Sameness.{same_tells}
use Rattle.aas_constraint_rules.specs.Rules.{ElementSentence, local, placed, holds, rules, name_of, semantics_of, first_some, agree, is_repeat, stands_in_operation}
use Rattle.aas_constraint_rules.specs.Sites.{Own, Site, stands_in_list}
use Rattle.aas_constraint_rules.specs.Texts.{is_among}
use Rattle.aas_constraint_laws.proofs.Places.{Passes, each_passes}
use Rattle.aas_constraint_laws.proofs.Siblings.{among_last}
use Rattle.aas_edit_faults.proofs.Level.{at_root, broken_at}

-- ---- names

-- ---- semanticIds

-- y may be the first semanticId where x was
abbrev Follows : Option Reference → Option Reference → Type 0
Follows x None = Unit {0}
Follows None (Some v) = ⊥
Follows (Some u) (Some v) = IsSame u v

follows_itself : (x : Option Reference) → Follows x x
follows_itself None = tt
follows_itself (Some u) = record { types = refl; keys = refl }

follows_agree : (x y z : Option Reference) → Follows x y → agree x z ≡ true → agree y z ≡ true
follows_agree x None z h e = refl
follows_agree None (Some v) z h e = absurd h
follows_agree (Some u) (Some v) None h e = refl
follows_agree (Some u) (Some v) (Some w) h e =
    let is = (same_tells u w).0 e in (same_tells v w).1 (record { types = sym h.types ∙ is.types; keys = sym h.keys ∙ is.keys })

follows_more : (x y z : Option Reference) → Follows x y → agree x z ≡ true → Follows (option_or x z) (option_or y z)
follows_more None None z h e = follows_itself z
follows_more None (Some v) z h e = absurd h
follows_more (Some u) None None h e = tt
follows_more (Some u) None (Some w) h e = (same_tells u w).0 e
follows_more (Some u) (Some v) z h e = h

follows_fewer : (x z : Option Reference) → Follows (option_or x z) x
follows_fewer None z = tt
follows_fewer (Some u) z = record { types = refl; keys = refl }

abbrev pub first_of : List Own → Option Reference
first_of b = first_some (map semantics_of b)

first_last : (b : List Own) (o : Own) → first_of (b ++ o ∷ []) ≡ option_or (first_of b) (semantics_of o)
first_last [] o = one (semantics_of o)
  where
    one : (z : Option Reference) → first_some (z ∷ []) ≡ z
    one None = refl
    one (Some u) = refl
first_last (x ∷ b) o = by_own (semantics_of x) (first_last b o)
  where
    by_own : (z : Option Reference) → first_of (b ++ o ∷ []) ≡ option_or (first_of b) (semantics_of o)
        → first_some (z ∷ map semantics_of (b ++ o ∷ [])) ≡ option_or (first_some (z ∷ map semantics_of b)) (semantics_of o)
    by_own None more = more
    by_own (Some u) more = refl

-- ---- what may stand after the siblings b under a may stand after c

pub record Allows (a : Option Own) (b c : List Own) : Type 0 where
  names : (n : List ℕ) → is_among n (filter_map name_of b) ≡ false → is_among n (filter_map name_of c) ≡ false
  semantics : stands_in_list a ≡ true → Follows (first_of b) (first_of c)

-- one sibling fewer
pub allows_fewer : (a : Option Own) (b : List Own) (o : Own) → Allows a (b ++ o ∷ []) b
allows_fewer a b o = record {
  names = λ n e. (or_parts (is_among n (filter_map name_of b)) (is_among n (cons_option (name_of o) [])) (sym (among_last n b o) ∙ e)).0;
  semantics = λ in_list. subst (λ x. Follows x (first_of b)) (sym (first_last b o)) (follows_fewer (first_of b) (semantics_of o));
}

-- another one with the same name and the same semanticId
pub allows_other : (a : Option Own) (b : List Own) (o u : Own) → name_of u ≡ name_of o → semantics_of u ≡ semantics_of o → Allows a (b ++ o ∷ []) (b ++ u ∷ [])
allows_other a b o u names semantics = record {
  names = λ n e. among_last n b u ∙ ap (λ m. is_among n (filter_map name_of b) || is_among n (cons_option m [])) names ∙ sym (among_last n b o) ∙ e;
  semantics = λ in_list.
      let is : first_of (b ++ o ∷ []) ≡ first_of (b ++ u ∷ []) = first_last b o ∙ ap (option_or (first_of b)) (sym semantics) ∙ sym (first_last b u) in
      subst (Follows (first_of (b ++ o ∷ []))) is (follows_itself (first_of (b ++ o ∷ [])));
}

-- ---- the sentences on earlier siblings

not_repeat : (b : List Own) (c : List Own) → ((n : List ℕ) → is_among n (filter_map name_of b) ≡ false → is_among n (filter_map name_of c) ≡ false) → (n : Option (List ℕ))
    → is_repeat b n ≡ false → is_repeat c n ≡ false
not_repeat b c h None e = refl
not_repeat b c h (Some n) e = h n e

or_not : (p q r : Bool) → (q ≡ false → r ≡ false) → p || not q ≡ true → p || not r ≡ true
or_not true q r h e = refl
or_not false true r h e = absurd (cc)
or_not false false r h e = ap not (h refl)

pub if_then : (p q : Bool) → not p || q ≡ true → p ≡ true → q ≡ true
if_then true q e is = e
if_then false q e is = absurd (cc)

then_if : (p q r : Bool) → (p ≡ true → q ≡ true → r ≡ true) → not p || q ≡ true → not p || r ≡ true
then_if true q r h e = h refl e
then_if false q r h e = refl

-- a row that holds at one place holds at another
abbrev Stays : Site → Site → Rule ElementSentence → Type 0
Stays x y r = holds r.sentence x ≡ true → holds r.sentence y ≡ true

abbrev pub is_placed : ElementSentence → Bool
is_placed (local s) = false
is_placed (placed test) = true

abbrev pub placed_among : List (Rule ElementSentence) → List (Rule ElementSentence)
placed_among rs = filter (λ r. is_placed r.sentence) rs

module _ (t : Bool) (a : Option Own) (b c : List Own) (o : Own) where
  abbrev here : Site
  here = at_root t a b o

  abbrev there : Site
  there = at_root t a c o

  -- a local sentence looks at the element alone
  stays_from : (rs : List (Rule ElementSentence)) → AllByRecursion (Stays here there) (placed_among rs) → AllByRecursion (Stays here there) rs
  stays_from [] h = tt
  stays_from (r ∷ rs) h = let both = by_sentence r.sentence refl h in (both.0, stays_from rs both.1)
    where
      by_sentence : (s : ElementSentence) → r.sentence ≡ s → AllByRecursion (Stays here there) (cond (is_placed s) (r ∷ placed_among rs) (placed_among rs))
          → Stays here there r × AllByRecursion (Stays here there) (placed_among rs)
      by_sentence (local s) e h = (subst (λ u. holds u here ≡ true → holds u there ≡ true) (sym e) (λ is. is), h)
      by_sentence (placed test) e h = h

  stays : Allows a b c → AllByRecursion (Stays here there) rules
  stays allows =
      let repeat = not_repeat b c allows.names (name_of o) in
      let of_22 = or_not (stands_in_operation a) (is_repeat b (name_of o)) (is_repeat c (name_of o)) repeat in
      let of_114 = then_if (stands_in_list a) (agree (first_some (map semantics_of b)) (semantics_of o)) (agree (first_some (map semantics_of c)) (semantics_of o))
      (λ in_list is. follows_agree (first_of b) (first_of c) (semantics_of o) (allows.semantics in_list) is) in
      let of_134 = or_not (not (stands_in_operation a)) (is_repeat b (name_of o)) (is_repeat c (name_of o)) repeat in
      stays_from rules (of_22, (λ e. e, (λ e. e, (λ e. e, (of_114, (λ e. e, (λ e. e, (λ e. e, (of_134, tt)))))))))

  none_fails : (rs : List (Rule ElementSentence)) → AllByRecursion (Passes (λ s. holds s there)) rs → failing (λ s. holds s there) rs ≡ []
  none_fails [] h = refl
  none_fails (r ∷ rs) h =
      let more : List (Rule ElementSentence) = filter (λ r. not (holds r.sentence there)) rs in
      ap (λ x. map (λ r. r.number) (cond (not x) (r ∷ more) more)) h.0 ∙ none_fails rs h.1

  pass_on : (rs : List (Rule ElementSentence)) → AllByRecursion (Stays here there) rs → AllByRecursion (Passes (λ s. holds s here)) rs → AllByRecursion (Passes (λ s. holds s there)) rs
  pass_on [] stay pass = tt
  pass_on (r ∷ rs) stay pass = (stay.0 pass.0, pass_on rs stay.1 pass.1)

  pub still_none_own : Allows a b c → broken_at t a b o ≡ [] → broken_at t a c o ≡ []
  unfolding broken_at
  still_none_own allows e = none_fails rules (pass_on rules (stays allows) (each_passes (λ s. holds s here) rules e))

  -- and so does what comes after both and o
  pub allows_more : Allows a b c → broken_at t a b o ≡ [] → Allows a (b ++ o ∷ []) (c ++ o ∷ [])
  unfolding broken_at
  allows_more allows e =
      let agrees : not (stands_in_list a) || agree (first_of b) (semantics_of o) ≡ true = (each_passes (λ s. holds s here) rules e).1.1.1.1.1.1.1.1.1.1.0 in record {
        names = λ n none.
            let own : is_among n (filter_map name_of b) || is_among n (cons_option (name_of o) []) ≡ false = sym (among_last n b o) ∙ none in
            among_last n c o ∙ or_from (is_among n (filter_map name_of c)) (is_among n (cons_option (name_of o) []))
            (allows.names n (or_parts (is_among n (filter_map name_of b)) (is_among n (cons_option (name_of o) [])) own).0)
            (or_parts (is_among n (filter_map name_of b)) (is_among n (cons_option (name_of o) [])) own).1;
        semantics = λ in_list.
            subst (λ x. Follows x (first_of (c ++ o ∷ []))) (sym (first_last b o))
            (subst (Follows (option_or (first_of b) (semantics_of o))) (sym (first_last c o))
            (follows_more (first_of b) (first_of c) (semantics_of o) (allows.semantics in_list)
            (if_then (stands_in_list a) (agree (first_of b) (semantics_of o)) agrees in_list)));
      }
