-- To which child of a template a child of an instance belongs.
use Rattle.std.proofs.Common.{◌≡◌, ℕ, zero, suc, ◌<◌, ◌≤◌, ◌==◌, Bool, true, false, not, ◌&&◌, ◌||◌, inl, inr, List, [], ◌∷◌, length, map, bytes_eq, slice_get, unwrap_or, Option, Some, None, IsSome, refl, sym, ap, ap₂, ◌∙◌, subst, arith}
use Rattle.std.specs.List.{list_any}
use Rattle.std.proofs.lemmas.Bool.{true≢false, and_parts, and_from, and_left, cases_eq, cases_lt, eq-eqb, ne_eqb, lt-ltb, ltb-true, or_cases, or_from, or_left, or_right, false_from_ne_true}
use Rattle.std.proofs.lemmas.Slice.Eq.{bytes_eq-Decides}
use Rattle.aas_model.specs.declared.element.Element.{Element}
use Rattle.std.proofs.Math.Bool.{and-true}
use Rattle.aas_path_trees.specs.Children.{id_short_of}
use Rattle.aas_path_trees.specs.Places.{Differ}
use Rattle.aas_constraint_rules.specs.Sites.{Own, own_of}
use Rattle.aas_template.specs.Belonging.{admits, admits_closer, belongs, id_short, is_numbered, may_repeat, same_role}
use Rattle.aas_template.specs.Index.{Cut, name_of}
use Rattle.aas_template.proofs.Texts.{cut_numbered, numbered_cut, same_cuts, whole}

-- ---- tests of the children

any_false : (p : Own → Bool) (ts : List Element) → ((j : ℕ) (t : Element) → slice_get ts j ≡ Some t → p (own_of t) ≡ false) → list_any p (map own_of ts) ≡ false
any_false p [] h = refl
any_false p (t ∷ ts) h = or_from _ _ (h zero t refl) (any_false p ts (λ j u is. h (suc j) u is))

any_true : (p : Own → Bool) (ts : List Element) (j : ℕ) (t : Element) → slice_get ts j ≡ Some t → p (own_of t) ≡ true → list_any p (map own_of ts) ≡ true
any_true p [] j t is h = absurd (cc)
any_true p (u ∷ ts) zero t is h = let same : u ≡ t = cc in or_left _ _ (ap (λ x. p (own_of x)) same ∙ h)
any_true p (u ∷ ts) (suc j) t is h = or_right _ _ (any_true p ts j t is h)

-- ---- what is admitted

-- an idShort that admits m is cut from it
pub admitted_cut : (t k : Own) → admits t k ≡ true → Cut (id_short k) (id_short t)
admitted_cut t k h =
    elim (or_cases (bytes_eq (id_short t) (id_short k)) _ (and_parts (same_role t.role k.role) _ h).1) [
      | inl e ↦ subst (Cut (id_short k)) (sym ((bytes_eq-Decides (id_short t) (id_short k)).0 e)) (whole (id_short k))
      | inr e ↦ cut_numbered (id_short k) (id_short t) (and_parts (may_repeat t) _ e).1
    ]

-- where the idShort of t is cut from that of k
pub admits_at : (t k : Own) (n : List ℕ) → id_short t ≡ n → Cut (id_short k) n → admits t k ≡ same_role t.role k.role && (bytes_eq n (id_short k) || may_repeat t)
admits_at t k n same cut =
    ap (λ x. same_role t.role k.role && (bytes_eq x (id_short k) || (may_repeat t && is_numbered x (id_short k)))) same
    ∙ ap (λ b. same_role t.role k.role && (bytes_eq n (id_short k) || (may_repeat t && b))) (numbered_cut (id_short k) n cut)
    ∙ ap (λ b. same_role t.role k.role && (bytes_eq n (id_short k) || b)) (and-true (may_repeat t))

-- none of the children admits k by an idShort longer than n
unfoldable pub NoneLonger : List Element → Own → ℕ → Type 0
NoneLonger ts k n = (j : ℕ) (t : Element) → slice_get ts j ≡ Some t → admits (own_of t) k ≡ true → length (name_of t) ≤ n

-- ---- to which it belongs

same_option : (a b : Option (List ℕ)) → IsSome a → IsSome b → unwrap_or a [] ≡ unwrap_or b [] → a ≡ b
same_option None b some more e = absurd (true≢false (sym some))
same_option (Some x) None some more e = absurd (true≢false (sym more))
same_option (Some x) (Some y) some more e = ap Some e

-- siblings with one idShort stand at one place
pub same_place : (ts : List Element) → Differ ts → (j i : ℕ) (t u : Element) → slice_get ts j ≡ Some t → slice_get ts i ≡ Some u → name_of t ≡ name_of u → j ≡ i
same_place ts differ j i t u is there e =
    differ.apart j i t u is there (same_option (id_short_of t) (id_short_of u) (differ.named j t is) (differ.named i u there) e)

-- to the child at place j, whose idShort n is the longest that admits k
pub belongs_there : (ts : List Element) (k : Own) (i : ℕ) (u : Element) (n : List ℕ) → Differ ts → slice_get ts i ≡ Some u → name_of u ≡ n → Cut (id_short k) n
    → admits (own_of u) k ≡ true → NoneLonger ts k (length n) → (j : ℕ) (t : Element) → slice_get ts j ≡ Some t → belongs (map own_of ts) (own_of t) k ≡ (j == i)
unfolding NoneLonger
belongs_there ts k i u n differ there named cut admitted longest j t is =
    elim (cases_eq j i) [
      | inl same ↦
          let one : t ≡ u = let both : Some t ≡ Some u = sym is ∙ ap (slice_get ts) same ∙ there in cc in
          let none : list_any (admits_closer (own_of t) k) (map own_of ts) ≡ false =
          any_false (admits_closer (own_of t) k) ts (λ l v at.
          false_from_ne_true _ (λ closer.
          let parts = and_parts _ _ closer in
          let le : length (name_of v) ≤ length n = longest l v at parts.0 in
          let lt : length (name_of t) < length (name_of v) = ltb-true _ _ parts.1 in
          let long : length (name_of t) ≡ length n = ap (λ e. length (name_of e)) one ∙ ap length named in
          omega arith))
          in
          ap₂ (λ a b. a && not b) (ap (λ e. admits (own_of e) k) one ∙ admitted) none ∙ sym (eq-eqb j i same)
      | inr other ↦
          false_from_ne_true _ (λ so.
          let parts = and_parts _ _ so in
          let le : length (name_of t) ≤ length n = longest j t is parts.0 in
          elim (cases_lt (length (name_of t)) (length n)) [
            | inl lt ↦
                let lt_u : length (name_of t) < length (name_of u) = subst (λ l. length (name_of t) < l) (sym (ap length named)) lt in
                let closer : admits_closer (own_of t) k (own_of u) ≡ true = and_from _ _ admitted (lt-ltb _ _ lt_u) in
                let some = any_true (admits_closer (own_of t) k) ts i u there closer in
                true≢false (sym parts.1 ∙ ap not some)
            | inr ge ↦
                let long : length (name_of t) ≡ length n = omega arith in
                let same : name_of t ≡ n = same_cuts (id_short k) (name_of t) n (admitted_cut (own_of t) k parts.0) cut long in
                other (same_place ts differ j i t u is there (same ∙ sym named))
          ]) ∙ sym (ne_eqb j i other)
    ]

-- to none, where none admits k
pub belongs_nowhere : (ts : List Element) (k : Own) → ((j : ℕ) (t : Element) → slice_get ts j ≡ Some t → admits (own_of t) k ≡ false)
    → (j : ℕ) (t : Element) → slice_get ts j ≡ Some t → belongs (map own_of ts) (own_of t) k ≡ false
belongs_nowhere ts k none j t is = and_left _ _ (none j t is)
