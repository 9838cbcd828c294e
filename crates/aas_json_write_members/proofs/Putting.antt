-- Members that are put one after another, and texts that are put piece by piece.
use Rattle.std.proofs.Common.{◌≡◌, ℕ, ◌+◌, ◌<◌, Bool, true, false, List, [], ◌∷◌, ◌++◌, length, get_or, drop, map}
use Rattle.std.proofs.Common.{Option, Some, None, option_map, refl, sym, ap, ap₂, ◌∙◌, append_assoc, subst}
use Rattle.std.proofs.lemmas.List.{append-nil, at_drop_more}
use Rattle.json.specs.Print.{escape, quoted}
use Rattle.std.specs.Str.{encode_utf8_all}
use Rattle.serde_json.specs.Data.{Data, no_items, no_members}
use Rattle.serde_json.specs.Written.{comma_if, compact_text, items_text, members_text}
use Rattle.aas_json_members.specs.Kept.{pairs_onto}
use Rattle.aas_json_spelling.specs.Kept.{spell_plain}
use Rattle.aas_model.specs.declared.plain.PlainPair.{PlainPair}
use Rattle.aas_json_table.specs.Rows.{sorted}
use Rattle.aas_json_table.specs.Spelled.{Attributes, attribute, spelled, onto, list_of}
use Rattle.aas_json_table.specs.Table.{Row}
use Rattle.aas_model.specs.declared.payload.Payload.{Payload}
use Rattle.aas_json_write_members.specs.Members.{Field, fields_text, later_after}
use Rattle.aas_json_write_members.specs.Puts.{BeginsObject, PutsFields, fields_by, own_fields}
use Rattle.aas_json_write_members.specs.declared.members.Pen.{Pen}
use Rattle.aas_json_write_members.proofs.Fields.{fields_text-append, later_after-append, members_are_fields}
use Rattle.aas_out.specs.Adds.{Adds}
use Rattle.aas_out.specs.Told.{Told}
use Rattle.aas_out.specs.declared.pouring.Pouring.{Pouring}
use Rattle.aas_out.proofs.Adding.{adds_both, adds_nothing, adds_same}

-- ---- strings

pub quoted_put : {K : Type 0} (s m t r : Pouring) (a b c d : Told K) (text bytes : List ℕ) → bytes ≡ text
    → Adds s m a b (34 ∷ []) → Adds m t b c (escape bytes) → Adds t r c d (34 ∷ []) → Adds s r a d (quoted text)
quoted_put s m t r a b c d text bytes same h g k =
    adds_same s r a d _ _
    (adds_both s m r a b d (34 ∷ []) (escape bytes ++ 34 ∷ []) h (adds_both m t r b c d (escape bytes) (34 ∷ []) g k))
    (ap (λ x. 34 ∷ (escape x ++ 34 ∷ [])) same)

pub name_put : {K : Type 0} (later : Bool) (s m t r : Pouring) (a b c d : Told K) (name opening bytes : List ℕ)
    → opening ≡ comma_if later ++ 34 ∷ [] → bytes ≡ name
    → Adds s m a b opening → Adds m t b c (escape bytes) → Adds t r c d (34 ∷ 58 ∷ [])
    → Adds s r a d (comma_if later ++ (quoted name ++ 58 ∷ []))
name_put later s m t r a b c d name opening bytes opened same h g k =
    adds_same s r a d _ _
    (adds_both s m r a b d opening (escape bytes ++ 34 ∷ 58 ∷ []) h
    (adds_both m t r b c d (escape bytes) (34 ∷ 58 ∷ []) g k))
    (ap₂ (λ x y. x ++ (escape y ++ 34 ∷ 58 ∷ [])) opened same
    ∙ append_assoc (comma_if later) (34 ∷ []) (escape name ++ 34 ∷ 58 ∷ [])
    ∙ ap (λ x. comma_if later ++ 34 ∷ x) (sym (append_assoc (escape name) (34 ∷ []) (58 ∷ []))))

-- ---- members

-- a member's name, and then its value
pub put_value : {K : Type 0} (later : Bool) (s m r : Pouring) (a b c : Told K) (n v : List ℕ)
    → Adds s m a b (comma_if later ++ (quoted n ++ 58 ∷ [])) → Adds m r b c v
    → PutsFields (record { state = s; later = later }) (record { state = r; later = true }) a c ((n, Some v) ∷ [])
put_value later s m r a b c n v h g = record {
  text = adds_same s r a c _ _ (adds_both s m r a b c (comma_if later ++ (quoted n ++ 58 ∷ [])) v h g) joined;
  later = refl;
}
  where
    joined : (comma_if later ++ (quoted n ++ 58 ∷ [])) ++ v ≡ (comma_if later ++ (quoted n ++ 58 ∷ v)) ++ []
    joined =
        append_assoc (comma_if later) (quoted n ++ 58 ∷ []) v
        ∙ ap (λ t. comma_if later ++ t) (append_assoc (quoted n) (58 ∷ []) v)
        ∙ sym (append-nil (comma_if later ++ (quoted n ++ 58 ∷ v)))

-- a member that isn't there
pub put_none : {K : Type 0} (p : Pen) (a : Told K) (n : List ℕ) → PutsFields p p a a ((n, None) ∷ [])
put_none p a n = record { text = adds_nothing p.state a; later = refl }

-- a member that may be there
pub put_missing : {K A : Type 0} (spell : A → Data) (p : Pen) (a : Told K) (n : List ℕ) (o : Option A)
    → o ≡ None → PutsFields p p a a ((n, option_map compact_text (option_map spell o)) ∷ [])
put_missing spell p a n o none =
    subst (λ v. PutsFields p p a a ((n, option_map compact_text (option_map spell v)) ∷ [])) (sym none) (put_none p a n)

pub put_present : {K A : Type 0} (spell : A → Data) {p q : Pen} {a b : Told K} {n : List ℕ} (o : Option A) (x : A)
    → o ≡ Some x → PutsFields p q a b ((n, Some (compact_text (spell x))) ∷ [])
    → PutsFields p q a b ((n, option_map compact_text (option_map spell o)) ∷ [])
put_present spell {p = p} {q = q} {a = a} {b = b} {n = n} o x some h =
    subst (λ v. PutsFields p q a b ((n, option_map compact_text (option_map spell v)) ∷ [])) (sym some) h

pub fields_both : {K : Type 0} {p m q : Pen} {a b c : Told K} {fs gs : List Field}
    → PutsFields p m a b fs → PutsFields m q b c gs → PutsFields p q a c (fs ++ gs)
fields_both {p = p} {m = m} {q = q} {a = a} {b = b} {c = c} {fs = fs} {gs = gs} h g = record {
  text =
      adds_same p.state q.state a c _ _
      (adds_both p.state m.state q.state a b c (fields_text p.later fs) (fields_text m.later gs) h.text g.text)
      (ap (λ l. fields_text p.later fs ++ fields_text l gs) h.later ∙ sym (fields_text-append p.later fs gs));
  later = g.later ∙ ap (λ l. later_after l gs) h.later ∙ sym (later_after-append p.later fs gs);
}

-- members of a kind's own, where the kind is known
pub put_own : {K : Type 0} {p q : Pen} {a b : Told K} (x : Payload) {y : Payload} (ns : List (List ℕ))
    → x ≡ y → PutsFields p q a b (own_fields y ns) → PutsFields p q a b (own_fields x ns)
put_own {p = p} {q = q} {a = a} {b = b} x ns is h = subst (λ z. PutsFields p q a b (own_fields z ns)) (sym is) h

-- members that are not there
pub put_lacking : {K : Type 0} (p : Pen) (a : Told K) (fs : List Field) (ns : List (List ℕ))
    → fs ≡ map (λ n. (n, None)) ns → PutsFields p p a a fs
put_lacking p a fs ns none = subst (λ gs. PutsFields p p a a gs) (sym none) (record {
  text = adds_same p.state p.state a a _ _ (adds_nothing p.state a) (sym (nothing ns));
  later = sym (still ns);
})
  where
    nothing : (ns : List (List ℕ)) → fields_text p.later (map (λ n. (n, None)) ns) ≡ []
    nothing [] = refl
    nothing (n ∷ ns) = nothing ns

    still : (ns : List (List ℕ)) → later_after p.later (map (λ n. (n, None)) ns) ≡ p.later
    still [] = refl
    still (n ∷ ns) = still ns

-- ---- objects

pub object_more : {K : Type 0} {s : Pouring} {m q : Pen} {a b c : Told K} {fs gs : List Field}
    → BeginsObject s m a b fs → PutsFields m q b c gs → BeginsObject s q a c (fs ++ gs)
object_more {s = s} {m = m} {q = q} {a = a} {b = b} {c = c} {fs = fs} {gs = gs} h g = record {
  text =
      adds_same s q.state a c _ _
      (adds_both s m.state q.state a b c (123 ∷ fields_text false fs) (fields_text m.later gs) h.text g.text)
      (ap (λ l. 123 ∷ (fields_text false fs ++ fields_text l gs)) h.later
      ∙ ap (λ t. 123 ∷ t) (sym (fields_text-append false fs gs)));
  later = g.later ∙ ap (λ l. later_after l gs) h.later ∙ sym (later_after-append false fs gs);
}

-- the object of these rows, ended
pub object_ended : {K : Type 0} (rows : List Row) (attributes : Attributes)
    {s : Pouring} {p : Pen} {a b : Told K} (r : Pouring) (c : Told K)
    → BeginsObject s p a b (fields_by (sorted rows) (attribute attributes)) → Adds p.state r b c (125 ∷ [])
    → Adds s r a c (compact_text (spelled rows attributes))
object_ended rows attributes {s = s} {p = p} {a = a} {b = b} r c h g =
    adds_same s r a c _ _
    (adds_both s p.state r a b c
    (123 ∷ fields_text false (fields_by (sorted rows) (attribute attributes))) (125 ∷ []) h.text g)
    (ap (λ t. 123 ∷ t) (sym (members_are_fields (sorted rows) (attribute attributes) false)))

-- ---- piece by piece

-- a front of a text was put, and the rest is still to put
pub record Front {K : Type 0} (s r : Pouring) (a b : Told K) (whole rest : List ℕ) : Type 0 where
  pub done : List ℕ
  pub parts : whole ≡ done ++ rest
  pub adds : Adds s r a b done

pub front_none : {K : Type 0} (s : Pouring) (a : Told K) (whole : List ℕ) → Front s s a a whole whole
front_none s a whole = record { done = []; parts = refl; adds = adds_nothing s a }

pub front_more : {K : Type 0} {s m : Pouring} {a b : Told K}
    {whole rest : List ℕ} (r : Pouring) (c : Told K) (piece next : List ℕ)
    → Front s m a b whole rest → Adds m r b c piece → rest ≡ piece ++ next
    → Front s r a c whole next
front_more {s = s} {m = m} {a = a} {b = b} r c piece next h g is = record {
  done = h.done ++ piece;
  parts = h.parts ∙ ap (λ t. h.done ++ t) is ∙ sym (append_assoc h.done piece next);
  adds = adds_both s m r a b c h.done piece h.adds g;
}

pub front_rest : {K : Type 0} {s m : Pouring} {a b : Told K} {whole rest : List ℕ} (r : Pouring) (c : Told K)
    → Front s m a b whole rest → Adds m r b c rest → Adds s r a c whole
front_rest {s = s} {m = m} {a = a} {b = b} {rest = rest} r c h g =
    adds_same s r a c _ _ (adds_both s m r a b c h.done rest h.adds g) (sym h.parts)

-- ---- lists

-- what is left to put of an array's items
abbrev pub items_left : {A : Type 0} → (A → Data) → Bool → List A → List ℕ
items_left spell later xs = items_text later (onto (map spell xs) no_items)

pub list_none : {A : Type 0} (spell : A → Data) (xs : List A)
    → xs ≡ [] → option_map compact_text (list_of spell xs) ≡ None
list_none spell [] none = refl
list_none spell (x ∷ xs) none = absurd (cc)

pub list_some : {A : Type 0} (spell : A → Data) (xs ys : List A)
    → (xs ≡ [] → ⊥) → ys ≡ xs → Some (91 ∷ items_left spell false ys) ≡ option_map compact_text (list_of spell xs)
list_some spell [] ys some same = absurd (some refl)
list_some spell (x ∷ xs) ys some same = ap (λ zs. Some (91 ∷ items_left spell false zs)) same

-- ---- items

pub item_first : {A : Type 0} (spell : A → Data) (later : Bool) (xs : List A) (i : ℕ) (x : A)
    → i < length xs → x ≡ get_or xs i x
    → items_left spell later (drop i xs)
    ≡ (comma_if later ++ compact_text (spell x)) ++ items_left spell true (drop (i + 1) xs)
item_first spell later xs i x below is =
    at_drop_more (items_left spell later) xs i x below
    ∙ ap (λ y. comma_if later ++ (compact_text (spell y) ++ items_left spell true (drop (i + 1) xs))) (sym is)
    ∙ sym (append_assoc (comma_if later) (compact_text (spell x)) (items_left spell true (drop (i + 1) xs)))

-- ---- pairs of kept data

-- what is left to put of a map's pairs
abbrev pub pairs_left : Bool → List PlainPair → List ℕ
pairs_left later ps = members_text later (pairs_onto ps no_members)

pub pair_first : (later : Bool) (ps : List PlainPair) (i : ℕ) (p : PlainPair) (name : List ℕ)
    → i < length ps → p ≡ get_or ps i p → name ≡ encode_utf8_all p.name
    → pairs_left later (drop i ps)
    ≡ ((comma_if later ++ (quoted name ++ 58 ∷ [])) ++ compact_text (spell_plain p.value))
    ++ pairs_left true (drop (i + 1) ps)
pair_first later ps i p name below is same =
    at_drop_more (pairs_left later) ps i p below
    ∙ ap (λ q. comma_if later ++ (quoted (encode_utf8_all q.name) ++ 58
    ∷ (compact_text (spell_plain q.value) ++ pairs_left true (drop (i + 1) ps))))
    (sym is)
    ∙ ap (λ n.
    comma_if later ++ (quoted n ++ 58 ∷ (compact_text (spell_plain p.value) ++ pairs_left true (drop (i + 1) ps))))
    (sym same)
    ∙ sym
    (grouped (comma_if later) (quoted name) (compact_text (spell_plain p.value)) (pairs_left true (drop (i + 1) ps)))
  where
    grouped : (a q v rest : List ℕ) → ((a ++ (q ++ 58 ∷ [])) ++ v) ++ rest ≡ a ++ (q ++ 58 ∷ (v ++ rest))
    grouped a q v rest =
        append_assoc (a ++ (q ++ 58 ∷ [])) v rest ∙ append_assoc a (q ++ 58 ∷ []) (v ++ rest)
        ∙ ap (λ t. a ++ t) (append_assoc q (58 ∷ []) (v ++ rest))
