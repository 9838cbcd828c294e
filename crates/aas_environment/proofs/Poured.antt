-- The text of an environment is put piece by piece.
use Rattle.std.proofs.Common.{◌≡◌, ◌≢◌, ℕ, Bool, true, false, ◌||◌, List, [], ◌++◌, Option, Some, None, refl, sym}
use Rattle.std.proofs.Common.{ap, ◌∙◌}
use Rattle.std.specs.Prelude.{codes}
use Rattle.std.specs.Option.{option_map_or}
use Rattle.serde_json.specs.Data.{array}
use Rattle.serde_json.specs.Written.{comma_if, compact_text}
use Rattle.aas_json_mapping.specs.Trees.{environments}
use Rattle.aas_json_spelling.specs.Spells.{canonical_text}
use Rattle.aas_model.specs.declared.documents.Environment.{Environment}
use Rattle.aas_model_names.specs.declared.collection.Collection.{Collection}
use Rattle.aas_model_names.specs.declared.collection.Collection.TheVariants.{Concepts, Shells, Submodels}
use Rattle.aas_out.specs.Adds.{Adds}
use Rattle.aas_out.specs.Told.{Told}
use Rattle.aas_out.specs.declared.pouring.Pouring.{Pouring}
use Rattle.aas_out.proofs.Adding.{adds_both, adds_nothing, adds_same}
use Rattle.aas_store.specs.Documents.{Documents, Identifier, count, first_above, ids}
use Rattle.aas_environment.specs.Environments.{environment_of}
use Rattle.aas_environment.specs.Members.{has_member, member_text, name_text, spellings}
use Rattle.aas_environment.proofs.Written.{UpTo, all_done, at_first, document_text, not_there, one_more}
use Rattle.aas_environment.proofs.Written.{text_whole, there}

-- ---- the array of a collection

-- so far, up to the document of an identifier
pub record Underway {K : Type 0} (c : Collection) (d : Documents) (so_far state : Pouring)
    (told now : Told K) (later : Bool) (after : Option Identifier) : Type 0 where
  pub poured : List ℕ
  pub up_to : UpTo c d (codes "[") poured later after
  pub adds : Adds so_far state told now poured

module _ {K : Type 0} (c : Collection) (d : Documents) (so_far : Pouring) (told : Told K) where
  pub begun : (state : Pouring) (now : Told K)
      → Adds so_far state told now (codes "[") → Underway c d so_far state told now false None
  begun state now adds = record { poured = codes "["; up_to = at_first c d (codes "["); adds = adds }

  pub more : (later : Bool) (after : Option Identifier)
      (id : Identifier) (comma : List ℕ) (s a b : Pouring) (t u v : Told K)
      → first_above after (ids c d) ≡ Some id
      → Underway c d so_far s told t later after → comma ≡ comma_if later → Adds s a t u comma
      → Adds a b u v (document_text c d id)
      → Underway c d so_far b told v true (Some id)
  more later after id comma s a b t u v is so separated behind told_then = record {
    poured = (so.poured ++ comma) ++ document_text c d id;
    up_to =
        one_more c d (codes "[") so.poured (so.poured ++ comma) ((so.poured ++ comma) ++ document_text c d id)
        later after id is (ap (λ t. so.poured ++ t) separated) refl so.up_to;
    adds =
        adds_both so_far a b told u v (so.poured ++ comma) (document_text c d id)
        (adds_both so_far s a told t u so.poured comma so.adds behind) told_then;
  }

  pub ended : (later : Bool) (after : Option Identifier) (s r : Pouring) (t u : Told K)
      → first_above after (ids c d) ≡ None
      → Underway c d so_far s told t later after → Adds s r t u (codes "]")
      → Adds so_far r told u (compact_text (array (spellings c (environment_of d))))
  ended later after s r t u is so closed =
      adds_same so_far r told u (so.poured ++ codes "]") (compact_text (array (spellings c (environment_of d))))
      (adds_both so_far s r told t u so.poured (codes "]") so.adds closed)
      (all_done c d [] (codes "[") so.poured (so.poured ++ codes "]") later after is refl refl so.up_to)

-- ---- the members

pub no_member : {K : Type 0} (later : Bool) (c : Collection) (d : Documents) (s : Pouring) (t : Told K)
    → count c d ≡ 0 → Adds s s t t (member_text later c (environment_of d))
no_member later c d s t none =
    adds_same s s t t [] (member_text later c (environment_of d)) (adds_nothing s t)
    (ap (λ o. option_map_or (λ list. comma_if later ++ (name_text c ++ compact_text list)) o [])
    (sym (not_there c d none)))

pub a_member : {K : Type 0} (later : Bool) (c : Collection)
    (d : Documents) (comma : List ℕ) (s a b r : Pouring) (t u v w : Told K)
    → count c d ≢ 0 → comma ≡ comma_if later
    → Adds s a t u comma → Adds a b u v (name_text c)
    → Adds b r v w (compact_text (array (spellings c (environment_of d))))
    → Adds s r t w (member_text later c (environment_of d))
a_member later c d comma s a b r t u v w some is behind named listing =
    let list = compact_text (array (spellings c (environment_of d))) in
    adds_same s r t w (comma ++ (name_text c ++ list)) (member_text later c (environment_of d))
    (adds_both s a r t u w comma (name_text c ++ list) behind (adds_both a b r u v w (name_text c) list named listing))
    (ap (λ comma. comma ++ (name_text c ++ list)) is
    ∙ ap (λ o. option_map_or (λ list. comma_if later ++ (name_text c ++ compact_text list)) o [])
    (sym (there c d some)))

pub all_members : {K : Type 0} (e : Environment) (shells concepts : Bool) (s a b p q r : Pouring) (t u v w x y : Told K)
    → shells ≡ has_member Shells e → concepts ≡ (shells || has_member Concepts e)
    → Adds s a t u (codes "{") → Adds a b u v (member_text false Shells e)
    → Adds b p v w (member_text shells Concepts e) → Adds p q w x (member_text concepts Submodels e)
    → Adds q r x y (codes "}")
    → Adds s r t y (canonical_text environments e)
all_members e shells concepts s a b p q r t u v w x y is then begun first second third closed =
    let last = member_text concepts Submodels e ++ codes "}" in
    let later = member_text shells Concepts e ++ last in
    adds_same s r t y (codes "{" ++ (member_text false Shells e ++ later)) (canonical_text environments e)
    (adds_both s a r t u y (codes "{") (member_text false Shells e ++ later) begun
    (adds_both a b r u v y (member_text false Shells e) later first
    (adds_both b p r v w y (member_text shells Concepts e) last second
    (adds_both p q r w x y (member_text concepts Submodels e) (codes "}") third closed))))
    (text_whole e shells concepts is then)
