-- Children under their names.
use Rattle.std.proofs.Common.{◌≡◌, ℕ, ◌&&◌, Bool, true, false, List, [], ◌∷◌, Option, Some, None, is_some, refl, sym}
use Rattle.std.proofs.Common.{ap, ap₂, ◌∙◌}
use Rattle.std.specs.Prelude.{bytes_eq}
use Rattle.std.proofs.lemmas.Bool.{and_from}
use Rattle.std.specs.Str.{encode_utf8_all}
use Rattle.std.proofs.lemmas.Str.{encodes_same}
use Rattle.serde_json.specs.Data.{Data, put, Members, no_members}
use Rattle.serde_json.specs.Find.{get_member}
use Rattle.serde_json.proofs.Views.{get_member-put, get_member-put_other}
use Rattle.aas_value.specs.Children.{Child, put_child, put_children, named}
use Rattle.aas_value.specs.Parts.{is_called}
use Rattle.aas_value_update.proofs.Members.{same_name, name_itself}

-- no child has the name n
abbrev pub IsNew : List ℕ → List Child → Type 0
IsNew n [] = Unit {0}
IsNew n (c ∷ cs) = ¬ (c.name ≡ Some n) × IsNew n cs

-- each child has a name that no later one has
abbrev pub Apart : List Child → Type 0
Apart [] = Unit {0}
Apart (c ∷ cs) = ((n : List ℕ) × (c.name ≡ Some n) × IsNew n cs) × Apart cs

-- the same names, and values for the same children
abbrev pub Alike : List Child → List Child → Type 0
Alike [] [] = Unit {0}
Alike [] (d ∷ ds) = ⊥
Alike (c ∷ cs) [] = ⊥
Alike (c ∷ cs) (d ∷ ds) = ((c.name ≡ d.name) × (is_some c.form ≡ is_some d.form)) × Alike cs ds

put_other : (n : List ℕ) (o : Option (List ℕ)) (f : Option Data) (ms : Members)
    → ¬ (o ≡ Some n) → get_member (encode_utf8_all n) (put_child o f ms) ≡ get_member (encode_utf8_all n) ms
put_other n None f ms h = refl
put_other n (Some m) None ms h = refl
put_other n (Some m) (Some d) ms h = get_member-put_other (encode_utf8_all n) (encode_utf8_all m) d ms (λ e.
    h (ap (λ (x : List ℕ). Some x) (sym (encodes_same n m e))))

untouched : (n : List ℕ) (cs : List Child) (ms : Members)
    → IsNew n cs → get_member (encode_utf8_all n) (put_children cs ms) ≡ get_member (encode_utf8_all n) ms
untouched n [] ms h = refl
untouched n (c ∷ cs) ms h = untouched n cs (put_child c.name c.form ms) h.1 ∙ put_other n c.name c.form ms h.0

new_alike : (n : List ℕ) (cs ds : List Child) → Alike cs ds → IsNew n cs → IsNew n ds
new_alike n [] [] a h = tt
new_alike n [] (d ∷ ds) a h = absurd a
new_alike n (c ∷ cs) [] a h = absurd a
new_alike n (c ∷ cs) (d ∷ ds) a h = ((λ e. h.0 (a.0.0 ∙ e)), new_alike n cs ds a.1 h.1)

first_form : (n : List ℕ) (o q : Option (List ℕ)) (f g : Option Data) (ms ns : Members)
    → o ≡ Some n → q ≡ Some n → is_some f ≡ is_some g
    → get_member (encode_utf8_all n) (put_child o f ms) ≡ get_member (encode_utf8_all n) (put_child q g ns) → f ≡ g
first_form n None q f g ms ns i j s e = cc
first_form n (Some m) None f g ms ns i j s e = cc
first_form n (Some m) (Some l) None None ms ns i j s e = refl
first_form n (Some m) (Some l) None (Some d) ms ns i j s e = cc
first_form n (Some m) (Some l) (Some c) None ms ns i j s e = cc
first_form n (Some m) (Some l) (Some c) (Some d) ms ns i j s e =
    let mn : m ≡ n = cc in
    let ln : l ≡ n = cc in
    sym (get_member-put (encode_utf8_all n) c ms)
    ∙ ap (λ x. get_member (encode_utf8_all n) (put (encode_utf8_all x) c ms)) (sym mn)
    ∙ e ∙ ap (λ x. get_member (encode_utf8_all n) (put (encode_utf8_all x) d ns)) ln
    ∙ get_member-put (encode_utf8_all n) d ns

pub same_put : (cs ds : List Child) (ms ns : Members)
    → Apart cs → Alike cs ds → put_children cs ms ≡ put_children ds ns → cs ≡ ds
same_put [] [] ms ns a h e = refl
same_put [] (d ∷ ds) ms ns a h e = absurd h
same_put (c ∷ cs) [] ms ns a h e = absurd h
same_put (c ∷ cs) (d ∷ ds) ms ns a h e =
    let n = a.0.0 in
    let old = untouched n cs (put_child c.name c.form ms) a.0.2 in
    let new = untouched n ds (put_child d.name d.form ns) (new_alike n cs ds h.1 a.0.2) in
    let forms = first_form n c.name d.name c.form d.form ms ns a.0.1
    (sym h.0.0 ∙ a.0.1) h.0.1 (sym old ∙ ap (get_member (encode_utf8_all n)) e ∙ new) in
    let names = h.0.0 in
    ap₂ (λ x xs. x ∷ xs) (λ i. record { name = names i; form = forms i })
    (same_put cs ds (put_child c.name c.form ms) (put_child d.name d.form ns) a.1 h.1 e)

-- Objects of alike children that differ in names have the same values.
pub same_named : (cs ds : List Child) → Apart cs → Alike cs ds → named cs ≡ named ds → cs ≡ ds
same_named cs ds a h e =
    let ms : put_children cs no_members ≡ put_children ds no_members = cc in
    same_put cs ds no_members no_members a h ms

-- ---- members for a child

-- a name calls a child if it is the child's, and the child has a value
pub not_called : (n : List ℕ) (o : Option (List ℕ)) (f : Option Data) → ¬ (o ≡ Some n)
    → is_called (encode_utf8_all n) (record { name = o; form = f }) ≡ false
not_called n None f other = refl
not_called n (Some m) f other = by_test (bytes_eq (encode_utf8_all n) (encode_utf8_all m)) refl
  where
    by_test : (b : Bool) → bytes_eq (encode_utf8_all n) (encode_utf8_all m) ≡ b → b && is_some f ≡ false
    by_test true is =
        let same = encodes_same n m (same_name (encode_utf8_all n) (encode_utf8_all m) is) in
        absurd (other (ap (λ (k : List ℕ). Some k) (sym same)))
    by_test false is = refl

pub called_itself : (n : List ℕ) (o : Option (List ℕ)) (f : Option Data) → o ≡ Some n → is_some f ≡ true
    → is_called (encode_utf8_all n) (record { name = o; form = f }) ≡ true
called_itself n None f name there = cc
called_itself n (Some m) f name there =
    let same : m ≡ n = cc in
    and_from _ _
    (ap (λ k. bytes_eq (encode_utf8_all k) (encode_utf8_all m)) (sym same) ∙ name_itself (encode_utf8_all m)) there
