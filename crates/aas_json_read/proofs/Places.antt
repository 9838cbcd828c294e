-- Where children stand: what a parent sees of them, and of itself.
use Rattle.std.proofs.Common.{◌≡◌, ℕ, List, [], ◌∷◌, ◌++◌, ◌&&◌, nat_le, Bool, true, map, refl, sym, ap, ◌∙◌, subst, true≢false, arith}
use Rattle.std.proofs.lemmas.List.{append-nil}
use Rattle.std.proofs.lemmas.Bool.{and_from}
use Rattle.std.specs.List.{list_all}
use Rattle.std.proofs.lemmas.Bool.{le-leb}
use Rattle.std.proofs.lemmas.List.{map-append}
use Rattle.aas_model_names.specs.declared.kind.Kind.{Kind}
use Rattle.aas_model_names.specs.declared.kind.Kind.TheVariants as kind
use Rattle.aas_json_spelling.specs.Lists.{Each}
use Rattle.aas_lemmas.proofs.Truth.{and_left, and_right}
use Rattle.aas_json_mapping.specs.Whole.{is_member, is_annotation, is_statement, is_variable, Placed, admits, rank, in_order, is_placed}
use Rattle.aas_json_mapping.specs.Shape.{IsShaped}
use Rattle.aas_json_mapping.proofs.Elements.{made, seen_at, seen_role}
use Rattle.aas_model.specs.Payload.{kind_of}
use Rattle.aas_model.specs.declared.common.Common.{Common}
use Rattle.aas_model.specs.declared.payload.Payload.{Payload}
use Rattle.aas_model.specs.declared.payload.Payload.TheVariants as p
use Rattle.aas_model.specs.declared.element.Element.{Element}
use Rattle.aas_model.specs.declared.element.Role.{Role}
use Rattle.aas_model.specs.declared.element.Role.TheVariants as role
use Rattle.aas_json_read.specs.Own.{seen, suits, FitUnder}

-- a child that suits a role has it, and all below it is placed
suited : (r s : Role) (d placed : Bool) → suits r (record { role = s; is_data = d; placed = placed }) ≡ true → (s ≡ r) × (placed ≡ true)
suited role.Member role.Member d placed e = (refl, e)
suited role.Annotation role.Annotation d placed e = (refl, and_right d placed e)
suited role.Statement role.Statement d placed e = (refl, e)
suited role.Input role.Input d placed e = (refl, e)
suited role.Output role.Output d placed e = (refl, e)
suited role.Inoutput role.Inoutput d placed e = (refl, e)
suited r s d placed e = absurd (true≢false (sym e))

pub has_role : (r : Role) (c : Placed) → suits r c ≡ true → c.role ≡ r
has_role r c e = (suited r c.role c.is_data c.placed e).0

-- ---- children that stand in order

-- a child may stand under its parent at a rank, and all below it is placed
record Stands (x : Payload) (n : ℕ) (c : Placed) : Type 0 where
  admitted : admits x c ≡ true
  at : rank c.role ≡ n
  placed : c.placed ≡ true

stands : (x : Payload) (r : Role) (c : Placed) → suits r c ≡ true → admits x c ≡ true → Stands x (rank r) c
stands x r c e admitted = let suit = suited r c.role c.is_data c.placed e in record { admitted = admitted; at = ap rank suit.0; placed = suit.1 }

each_is : {A B : Type 0} (P : B → Type 0) (test : B → Bool) (f : A → B) → ((b : B) → test b ≡ true → P b) → (xs : List A) → list_all (λ a. test (f a)) xs ≡ true → Each P (map f xs)
each_is P test f h [] e = tt
each_is P test f h (x ∷ xs) e = (h (f x) (and_left (test (f x)) _ e), each_is P test f h xs (and_right (test (f x)) _ e))

all_are : {A : Type 0} (P : A → Type 0) (test : A → Bool) → ((a : A) → P a → test a ≡ true) → (xs : List A) → Each P xs → list_all test xs ≡ true
all_are P test h [] each = refl
all_are P test h (x ∷ xs) each = and_from (test x) (list_all test xs) (h x each.0) (all_are P test h xs each.1)

each_with : {A : Type 0} (P : A → Type 0) (xs ys : List A) → Each P xs → Each P ys → Each P (xs ++ ys)
each_with P [] ys a b = b
each_with P (x ∷ xs) ys a b = (a.0, each_with P xs ys a.1 b)

each_so : {A : Type 0} (P Q : A → Type 0) → ((a : A) → P a → Q a) → (xs : List A) → Each P xs → Each Q xs
each_so P Q h [] each = tt
each_so P Q h (x ∷ xs) each = (h x each.0, each_so P Q h xs each.1)

abbrev ranks : List Placed → List ℕ
ranks cs = map (λ c. rank c.role) cs

-- none before this rank
abbrev IsFrom : ℕ → Placed → Type 0
IsFrom n c = nat_le n (rank c.role) ≡ true

from_itself : (n : ℕ) (c : Placed) → rank c.role ≡ n → IsFrom n c
from_itself n c e = le-leb n (rank c.role) (omega (arith, e))

ranks_from : (n : ℕ) (cs : List Placed) → Each (IsFrom n) cs → list_all (nat_le n) (ranks cs) ≡ true
ranks_from n [] each = refl
ranks_from n (c ∷ cs) each = and_from (nat_le n (rank c.role)) _ each.0 (ranks_from n cs each.1)

-- children of one rank come before others that are none before it
order_before : (n : ℕ) (xs ys : List Placed) → Each (λ c. rank c.role ≡ n) xs → Each (IsFrom n) ys → in_order (ranks ys) ≡ true → in_order (ranks (xs ++ ys)) ≡ true
order_before n [] ys at from e = e
order_before n (x ∷ xs) ys at from e =
    let later : Each (IsFrom n) (xs ++ ys) = each_with (IsFrom n) xs ys (each_so (λ c. rank c.role ≡ n) (IsFrom n) (from_itself n) xs at.1) from in
    and_from (list_all (nat_le (rank x.role)) (ranks (xs ++ ys))) (in_order (ranks (xs ++ ys)))
    (subst (λ m. list_all (nat_le m) (ranks (xs ++ ys)) ≡ true) (sym at.0) (ranks_from n (xs ++ ys) later)) (order_before n xs ys at.1 from e)

-- children that are admitted, in order and placed
record Standing (x : Payload) (cs : List Placed) : Type 0 where
  admitted : Each (λ c. admits x c ≡ true) cs
  order : in_order (ranks cs) ≡ true
  placed : Each (λ (c : Placed). c.placed ≡ true) cs

none_stand : (x : Payload) → Standing x []
none_stand x = record { admitted = tt; order = refl; placed = tt }

stand_before : (x : Payload) (n : ℕ) (xs ys : List Placed) → Each (Stands x n) xs → Each (IsFrom n) ys → Standing x ys → Standing x (xs ++ ys)
stand_before x n xs ys each from later = record {
  admitted = each_with (λ c. admits x c ≡ true) xs ys (each_so (Stands x n) (λ c. admits x c ≡ true) (λ c s. s.admitted) xs each) later.admitted;
  order = order_before n xs ys (each_so (Stands x n) (λ c. rank c.role ≡ n) (λ c s. s.at) xs each) from later.order;
  placed = each_with (λ (c : Placed). c.placed ≡ true) xs ys (each_so (Stands x n) (λ c. c.placed ≡ true) (λ c s. s.placed) xs each) later.placed;
}

placed_with : (r : Role) (c : Common) (x : Payload) (kids : List Element) → Standing x (map seen kids) → is_placed (made r c x kids) ≡ true
placed_with r c x kids s =
    let cs = map seen kids in
    ap (λ (y : Placed). y.placed) (seen_at r c x kids)
    ∙ and_from (list_all (admits x) cs && in_order (ranks cs)) (list_all (λ (d : Placed). d.placed) cs)
    (and_from (list_all (admits x) cs) (in_order (ranks cs)) (all_are (λ d. admits x d ≡ true) (admits x) (λ d e. e) cs s.admitted) s.order)
    (all_are (λ (d : Placed). d.placed ≡ true) (λ (d : Placed). d.placed) (λ d e. e) cs s.placed)

-- ---- each kind

one_role : (r : Role) (x : Payload) → ((c : Placed) → suits r c ≡ true → Stands x (rank r) c) → (kids : List Element) → list_all (λ e. suits r (seen e)) kids ≡ true → Standing x (map seen kids)
one_role r x h kids e =
    subst (Standing x) (append-nil (map seen kids)) (stand_before x (rank r) (map seen kids) [] (each_is (Stands x (rank r)) (suits r) seen h kids e) tt (none_stand x))

fits : (k : Kind) (r : Role) → ((x : Payload) → kind_of x ≡ k → (c : Placed) → suits r c ≡ true → admits x c ≡ true)
    → (kids : List Element) → list_all (λ e. suits r (seen e)) kids ≡ true → FitUnder k kids
fits k r admitted kids e c x s is = placed_with s c x kids (one_role r x (λ child suit. stands x r child suit (admitted x is child suit)) kids e)

annotation_admitted : (x : Payload) → kind_of x ≡ kind.AnnotatedRelationshipElement → (c : Placed) → suits role.Annotation c ≡ true → admits x c ≡ true
annotation_admitted (p.AnnotatedRelationshipElement first second) is c e = and_left (is_annotation c.role && c.is_data) c.placed e
annotation_admitted x is c e = cc

statement_admitted : (x : Payload) → kind_of x ≡ kind.Entity → (c : Placed) → suits role.Statement c ≡ true → admits x c ≡ true
statement_admitted (p.Entity t g ids) is c e = and_left (is_statement c.role) c.placed e
statement_admitted x is c e = cc

collected_admitted : (x : Payload) → kind_of x ≡ kind.SubmodelElementCollection → (c : Placed) → suits role.Member c ≡ true → admits x c ≡ true
collected_admitted p.SubmodelElementCollection is c e = and_left (is_member c.role) c.placed e
collected_admitted x is c e = cc

listed_admitted : (x : Payload) → kind_of x ≡ kind.SubmodelElementList → (c : Placed) → suits role.Member c ≡ true → admits x c ≡ true
listed_admitted (p.SubmodelElementList o s t v) is c e = and_left (is_member c.role) c.placed e
listed_admitted x is c e = cc

pub annotations_fit : (kids : List Element) → list_all (λ e. suits role.Annotation (seen e)) kids ≡ true → FitUnder kind.AnnotatedRelationshipElement kids
annotations_fit = fits kind.AnnotatedRelationshipElement role.Annotation annotation_admitted

pub statements_fit : (kids : List Element) → list_all (λ e. suits role.Statement (seen e)) kids ≡ true → FitUnder kind.Entity kids
statements_fit = fits kind.Entity role.Statement statement_admitted

pub collected_fit : (kids : List Element) → list_all (λ e. suits role.Member (seen e)) kids ≡ true → FitUnder kind.SubmodelElementCollection kids
collected_fit = fits kind.SubmodelElementCollection role.Member collected_admitted

pub listed_fit : (kids : List Element) → list_all (λ e. suits role.Member (seen e)) kids ≡ true → FitUnder kind.SubmodelElementList kids
listed_fit = fits kind.SubmodelElementList role.Member listed_admitted

-- ---- variables

variable_stands : (x : Payload) (r : Role) → kind_of x ≡ kind.Operation → is_variable r ≡ true → (c : Placed) → suits r c ≡ true → Stands x (rank r) c
variable_stands p.Operation r is variable c e = stands p.Operation r c e (ap is_variable (has_role r c e) ∙ variable)
variable_stands x r is variable c e = cc

stands_from : (x : Payload) (m n : ℕ) → nat_le m n ≡ true → (c : Placed) → Stands x n c → IsFrom m c
stands_from x m n e c s = ap (nat_le m) s.at ∙ e

pub variables_fit : (a b d : List Element) → list_all (λ e. suits role.Input (seen e)) a ≡ true → list_all (λ e. suits role.Output (seen e)) b ≡ true → list_all (λ e. suits role.Inoutput (seen e)) d ≡ true
    → FitUnder kind.Operation (a ++ (b ++ d))
variables_fit a b d e f g c x r is =
    let inputs = each_is (Stands x 0) (suits role.Input) seen (variable_stands x role.Input is refl) a e in
    let outputs = each_is (Stands x 1) (suits role.Output) seen (variable_stands x role.Output is refl) b f in
    let inoutputs = each_is (Stands x 2) (suits role.Inoutput) seen (variable_stands x role.Inoutput is refl) d g in
    let last = one_role role.Inoutput x (variable_stands x role.Inoutput is refl) d g in
    let later = stand_before x 1 (map seen b) (map seen d) outputs (each_so (Stands x 2) (IsFrom 1) (stands_from x 1 2 refl) (map seen d) inoutputs) last in
    let from = each_with (IsFrom 0) (map seen b) (map seen d) (each_so (Stands x 1) (IsFrom 0) (stands_from x 0 1 refl) (map seen b) outputs)
    (each_so (Stands x 2) (IsFrom 0) (stands_from x 0 2 refl) (map seen d) inoutputs) in
    let all = stand_before x 0 (map seen a) (map seen b ++ map seen d) inputs from later in
    let mapped : map seen a ++ (map seen b ++ map seen d) ≡ map seen (a ++ (b ++ d)) = ap (λ cs. map seen a ++ cs) (sym (map-append seen b d)) ∙ sym (map-append seen a (b ++ d)) in
    placed_with r c x (a ++ (b ++ d)) (subst (Standing x) mapped all)

-- ---- members

pub members_shaped : (kids : List Element) → list_all (λ e. suits role.Member (seen e)) kids ≡ true → Each IsShaped kids
members_shaped [] e = tt
members_shaped (k ∷ kids) e =
    let first = and_left (suits role.Member (seen k)) _ e in (
      record { role = ap is_member (sym (seen_role k)) ∙ and_left (is_member (seen k).role) (seen k).placed first; placed = and_right (is_member (seen k).role) (seen k).placed first },
      members_shaped kids (and_right (suits role.Member (seen k)) _ e),
    )
