-- Which child of a template a child of an instance belongs to: that with the longest of the idShorts that admit it. This profile's own rule.
use Rattle.std.specs.Prelude.{ℕ, ◌==◌, nat_le, nat_lt, Bool, true, false, not, ◌&&◌, ◌||◌, List, [], ◌∷◌, length}
use Rattle.std.specs.Prelude.{bytes_eq, unwrap_or}
use Rattle.std.specs.List.{list_all, list_any}
use Rattle.aas_model.specs.declared.element.Role.{Role}
use Rattle.aas_model.specs.declared.element.Role.TheVariants.{Member, Annotation, Statement, Input, Output, Inoutput}
use Rattle.aas_constraint_rules.specs.Sites.{Own}
use Rattle.aas_template.specs.Cardinality.{cardinality, is_many}
use Rattle.aas_template.specs.declared.cardinality.Cardinality.TheVariants.{One}

-- the idShort; it is there in a valid submodel, but for the children of a list
abbrev pub id_short : Own → List ℕ
id_short o = unwrap_or o.common.id_short []

abbrev pub same_role : Role → Role → Bool
same_role Member Member = true
same_role Annotation Annotation = true
same_role Statement Statement = true
same_role Input Input = true
same_role Output Output = true
same_role Inoutput Inoutput = true
same_role _ _ = false

-- an ASCII digit or _
abbrev pub is_numbering : ℕ → Bool
is_numbering c = (nat_le 48 c && nat_le c 57) || (c == 95)

-- a text is another one, followed by such characters alone
abbrev pub is_numbered : List ℕ → List ℕ → Bool
is_numbered [] m = list_all is_numbering m
is_numbered (c ∷ n) [] = false
is_numbered (c ∷ n) (d ∷ m) = (c == d) && is_numbered n m

-- outside lists an element belongs once where nothing is stated
abbrev pub may_repeat : Own → Bool
may_repeat t = is_many (cardinality One t.common.qualifiers)

-- t, of a template, admits the child k of an instance: k has the idShort of t, or where t may repeat that idShort with a number
abbrev pub admits : Own → Own → Bool
admits t k =
    same_role t.role k.role &&
    (bytes_eq (id_short t) (id_short k) || (may_repeat t && is_numbered (id_short t) (id_short k)))

-- u admits k too, by a longer idShort
abbrev pub admits_closer : Own → Own → Own → Bool
admits_closer t k u = admits u k && nat_lt (length (id_short t)) (length (id_short u))

-- t admits k, and none of its siblings ts by a longer idShort
abbrev pub belongs : List Own → Own → Own → Bool
belongs ts t k = admits t k && not (list_any (admits_closer t k) ts)
