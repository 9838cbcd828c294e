-- How many elements of an instance may belong to an element of its template: the qualifier SMT/Cardinality of the submodel templates of the IDTA, which
-- older ones call Cardinality or Multiplicity. This profile's own rule where a template says nothing of it.
use Rattle.std.specs.Prelude.{ℕ, ◌==◌, nat_le, Bool, true, false, ◌||◌, if◌then◌else◌, List, codes, bytes_eq, Option}
use Rattle.std.specs.Prelude.{Some, None, option_and_then, unwrap_or}
use Rattle.std.specs.List.{find}
use Rattle.std.specs.Str.{encode_utf8_all}
use Rattle.aas_model.specs.declared.parts.Qualifier.{Qualifier}
use Rattle.aas_template.specs.declared.cardinality.Cardinality.{Cardinality}
use Rattle.aas_template.specs.declared.cardinality.Cardinality.TheVariants.{One, ZeroToOne, ZeroToMany, OneToMany}

-- the text is this word, given in UTF-8
unfoldable pub is_word : List ℕ → List ℕ → Bool
is_word text word = bytes_eq (encode_utf8_all text) word

-- the types of a qualifier that states a cardinality
abbrev pub states_cardinality : Qualifier → Bool
states_cardinality q =
    is_word q.qualifier_type (codes "SMT/Cardinality") || is_word q.qualifier_type (codes "Cardinality")
    || is_word q.qualifier_type (codes "Multiplicity")

abbrev pub cardinality_named : List ℕ → Option Cardinality
cardinality_named n =
    if is_word n (codes "One") then Some One
    else if is_word n (codes "ZeroToOne") then Some ZeroToOne
    else if is_word n (codes "ZeroToMany") then Some ZeroToMany
    else if is_word n (codes "OneToMany") then Some OneToMany
    else None

-- what the first qualifier of these types states, if its value names a cardinality
abbrev pub stated_by : Option Qualifier → Option Cardinality
stated_by q = option_and_then (λ x. option_and_then cardinality_named x.value) q

abbrev pub stated : List Qualifier → Option Cardinality
stated qs = stated_by (find states_cardinality qs)

-- what is stated, or the cardinality that holds where nothing is
abbrev pub cardinality : Cardinality → List Qualifier → Cardinality
cardinality without qs = unwrap_or (stated qs) without

abbrev pub allows : Cardinality → ℕ → Bool
allows One n = n == 1
allows ZeroToOne n = nat_le n 1
allows ZeroToMany n = true
allows OneToMany n = nat_le 1 n

-- more than one element may belong to it
abbrev pub is_many : Cardinality → Bool
is_many One = false
is_many ZeroToOne = false
is_many ZeroToMany = true
is_many OneToMany = true
