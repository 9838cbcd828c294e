-- What a store holds: for each of the three collections a finite map from identifiers to documents
-- (IDTA-01002-3-0, the repository interfaces). An identifier stands as its UTF-8 bytes, and a map lists it in their
-- order.
use Rattle.std.specs.Prelude.{ℕ, Bool, true, List, [], Option, Some, None}
use Rattle.std.specs.Str.{encode_utf8_all}
use Rattle.std.specs.List.{find, fold}
use Rattle.std.specs.Ordering.{nat_cmp, is_lt}
use Rattle.std.specs.Cmp.Lexicographic.{slice_cmp}
use Rattle.std.specs.FinMap as map
use Rattle.aas_model.specs.declared.documents.Concept.{Concept}
use Rattle.aas_model.specs.declared.documents.Environment.{Environment}
use Rattle.aas_model.specs.declared.documents.Shell.{Shell}
use Rattle.aas_model.specs.declared.documents.Submodel.{Submodel}
use Rattle.aas_model_names.specs.declared.collection.Collection.{Collection}
use Rattle.aas_model_names.specs.declared.collection.Collection.TheVariants.{Shells, Submodels, Concepts}

abbrev pub Identifier : Type 0
Identifier = List ℕ

abbrev pub Map : Type 0 → Type 0
Map X = map.FinMap (slice_cmp nat_cmp) X

pub record Documents : Type 0 where
  pub shells : Map Shell
  pub submodels : Map Submodel
  pub concepts : Map Concept

abbrev pub empty : Documents
empty = record { shells = map.empty; submodels = map.empty; concepts = map.empty }

abbrev pub count : Collection → Documents → ℕ
count Shells d = map.len d.shells
count Submodels d = map.len d.submodels
count Concepts d = map.len d.concepts

abbrev pub has : Collection → Identifier → Documents → Bool
has Shells id d = map.contains_key d.shells id
has Submodels id d = map.contains_key d.submodels id
has Concepts id d = map.contains_key d.concepts id

-- the identifiers of a collection, in their order
abbrev pub ids : Collection → Documents → List Identifier
ids Shells d = map.keys d.shells
ids Submodels d = map.keys d.submodels
ids Concepts d = map.keys d.concepts

abbrev pub without : Collection → Identifier → Documents → Documents
without Shells id d = record d { shells = map.remove d.shells id }
without Submodels id d = record d { submodels = map.remove d.submodels id }
without Concepts id d = record d { concepts = map.remove d.concepts id }

-- whether an identifier is above another; each is where there is no other
abbrev pub is_above : Option Identifier → Identifier → Bool
is_above None id = true
is_above (Some a) id = is_lt (slice_cmp nat_cmp a id)

-- the first of the identifiers that is above another
abbrev pub first_above : Option Identifier → List Identifier → Option Identifier
first_above after ids = find (is_above after) ids

-- what a submodel is without its children
abbrev pub without_children : Submodel → Submodel
without_children s = record s { kids = [] }

-- ---- with a document put in under its own identifier, in the place of one that has it

abbrev pub with_shell : Documents → Shell → Documents
with_shell d s = record d { shells = map.insert d.shells (encode_utf8_all s.head.id) s }

abbrev pub with_submodel : Documents → Submodel → Documents
with_submodel d s = record d { submodels = map.insert d.submodels (encode_utf8_all s.head.id) s }

abbrev pub with_concept : Documents → Concept → Documents
with_concept d c = record d { concepts = map.insert d.concepts (encode_utf8_all c.head.id) c }

-- with each document of an environment put in, its shells first, then its submodels and its concept descriptions, each
-- list in its order
abbrev pub with_all : Documents → Environment → Documents
with_all d e = fold with_concept (fold with_submodel (fold with_shell d e.shells) e.submodels) e.concepts
