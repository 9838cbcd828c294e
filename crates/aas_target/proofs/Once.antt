-- A query gives one thing alone, or one parameter is the first that is bad in it.
use Rattle.std.proofs.Common.{◌≡◌, inl, inr, ℕ, List, [], ◌∷◌, ◌++◌, Option, Some, None, Ok, sym, ap, ◌∙◌, subst, arith}
use Rattle.std.specs.Str.{chars}
use Rattle.serde_json.specs.Data.{Data}
use Rattle.aas_json_mapping.specs.Trees.{specific_asset_ids}
use Rattle.aas_json_spelling.specs.Mapped.{AnyShape, IsMapped}
use Rattle.aas_json_spelling.specs.Reading.{reading}
use Rattle.aas_json_spelling.specs.Reads.{ReadsBytes, ReadsIf}
use Rattle.aas_json_spelling.specs.Spells.{Trees}
use Rattle.aas_json_table.specs.TooDeep.{limits}
use Rattle.aas_model.specs.declared.parts.SpecificAssetId.{SpecificAssetId}
use Rattle.aas_page.specs.Segment.{IsCursor, IsIdentifierCode}
use Rattle.aas_page.proofs.Coding.{coded_once}
use Rattle.aas_reference.specs.Trees.{references}
use Rattle.aas_target.specs.Given.{Gains, IsFirstBad, Takes, TakesAll, nothing_given}
use Rattle.aas_target.specs.Laws.{QueriesSayOne}
use Rattle.aas_target.specs.Query.{Setting, settings_of}
use Rattle.aas_target.specs.Values.{IsLimit, IsPlaceCursor, IsTreeCode, extent_named, flag_named, level_named}
use Rattle.aas_target.specs.declared.given.Given.{Given}
use Rattle.aas_target.specs.declared.parameter.Parameter.{Parameter}
use Rattle.aas_target.specs.declared.parameter.Parameter.TheVariants as parameter
use Rattle.aas_target.proofs.Numbers.{one_limit, one_place}

-- ---- values

abbrev IsOnce : {A : Type 0} → (A → Type 0) → Type 0
IsOnce {A = A} IsValue = (x y : A) → IsValue x → IsValue y → x ≡ y

limit_once : (text : List ℕ) → IsOnce (IsLimit text)
limit_once text m n p q = one_limit text m n (omega (arith, p.2)) p.0 q

place_once : (text : List ℕ) → IsOnce (IsPlaceCursor text)
place_once text m n p q = one_place text m n (omega (arith, p.2)) p.0 q

cursor_once : (text : List ℕ) → IsOnce (IsCursor text)
cursor_once text a b x y =
    let bytes = coded_once text x.utf8 y.utf8 x.spells.are_bytes y.spells.are_bytes (inl x.coded) (inl y.coded) in
    x.spells.characters ∙ ap chars bytes ∙ sym y.spells.characters

identifier_once : (text : List ℕ) → IsOnce (IsIdentifierCode text)
identifier_once text a b x y =
    let bytes = coded_once text x.utf8 y.utf8 x.spells.are_bytes y.spells.are_bytes x.coded y.coded in
    x.spells.characters ∙ ap chars bytes ∙ sym y.spells.characters

reads_once : {A : Type 0} (trees : Trees A) → IsMapped trees AnyShape → (found : Option Data) (t u : A) → ReadsIf trees limits (Ok t) found
    → ReadsIf trees limits (Ok u) found → t ≡ u
reads_once trees mapped None t u (inl p) y = cc
reads_once trees mapped None t u (inr p) y = cc
reads_once trees mapped (Some j) t u x y =
    let same : Some (trees.spell t) ≡ Some (trees.spell u) = sym x.says ∙ y.says in
    mapped.said_once t u tt tt (cc)

tree_once : {A : Type 0} (trees : Trees A) → IsMapped trees AnyShape → (text : List ℕ) → IsOnce (IsTreeCode trees text)
tree_once trees mapped text t u x y =
    let same = coded_once text x.0 y.0 x.1 y.1 x.2 y.2 in
    reads_once trees mapped (reading y.0) t u (subst (λ json. ReadsBytes trees limits (Ok t) json) same x.3) y.3

-- ---- settings

gains_once : {A : Type 0} (IsValue : A → Type 0) → IsOnce IsValue → (old : Option A) (with_it : Option A → Given) (a b : Given)
    → Gains IsValue old with_it a → Gains IsValue old with_it b → a ≡ b
gains_once IsValue once old with_it a b x y = x.3 ∙ ap (λ v. with_it (Some v)) (once x.1 y.1 x.2 y.2) ∙ sym y.3

module _ (of_references : IsMapped references AnyShape) (of_ids : IsMapped specific_asset_ids AnyShape) where
  taken_once : (g : Given) (s : Setting) (a b : Given) → Takes g s a → Takes g s b → a ≡ b
  taken_once g (parameter.IdShort, text) a b x y =
      gains_once (λ t. t ≡ chars text) (λ t u p q. p ∙ sym q) g.id_short (λ t. record g { id_short = t }) a b x y
  taken_once g (parameter.AssetIds, text) a b x y =
      let with_id : SpecificAssetId → Given = λ i. record g { asset_ids = g.asset_ids ++ i ∷ [] } in
      x.2 ∙ ap with_id (tree_once specific_asset_ids of_ids text x.0 y.0 x.1 y.1) ∙ sym y.2
  taken_once g (parameter.SemanticId, text) a b x y =
      gains_once (IsTreeCode references text) (tree_once references of_references text) g.semantic_id
      (λ r. record g { semantic_id = r }) a b x y
  taken_once g (parameter.IsCaseOf, text) a b x y =
      gains_once (IsTreeCode references text) (tree_once references of_references text) g.is_case_of
      (λ r. record g { is_case_of = r }) a b x y
  taken_once g (parameter.Limit, text) a b x y =
      gains_once (IsLimit text) (limit_once text) g.limit (λ n. record g { limit = n }) a b x y
  taken_once g (parameter.After, text) a b x y =
      gains_once (IsCursor text) (cursor_once text) g.after (λ id. record g { after = id }) a b x y
  taken_once g (parameter.From, text) a b x y =
      gains_once (IsPlaceCursor text) (place_once text) g.from (λ n. record g { from = n }) a b x y
  taken_once g (parameter.Level, text) a b x y =
      gains_once (λ l. level_named text ≡ Some l) (λ l m p q. cc) g.level (λ l. record g { level = l }) a b x y
  taken_once g (parameter.Extent, text) a b x y =
      gains_once (λ e. extent_named text ≡ Some e) (λ e f p q. cc) g.extent (λ e. record g { extent = e }) a b x y
  taken_once g (parameter.AasIds, text) a b x y =
      let with_id : List ℕ → Given = λ i. record g { shells = g.shells ++ i ∷ [] } in
      x.2 ∙ ap with_id (identifier_once text x.0 y.0 x.1 y.1) ∙ sym y.2
  taken_once g (parameter.SubmodelIds, text) a b x y =
      let with_id : List ℕ → Given = λ i. record g { submodels = g.submodels ++ i ∷ [] } in
      x.2 ∙ ap with_id (identifier_once text x.0 y.0 x.1 y.1) ∙ sym y.2
  taken_once g (parameter.IncludeConceptDescriptions, text) a b x y =
      gains_once (λ b. flag_named text ≡ Some b) (λ b c p q. cc) g.concepts (λ b. record g { concepts = b }) a b x y

  all_once : (settings : List Setting) (g a b : Given) → TakesAll g settings a → TakesAll g settings b → a ≡ b
  all_once [] g a b x y = x ∙ sym y
  all_once (s ∷ later) g a b x y =
      let same = taken_once g s x.0 y.0 x.1 y.1 in
      all_once later y.0 a b (subst (λ h. TakesAll h later a) same x.2) y.2

  bad_once : (settings : List Setting) (g : Given) (p q : Parameter) → IsFirstBad g settings p → IsFirstBad g settings q → p ≡ q
  bad_once [] g p q x y = absurd x
  bad_once (s ∷ later) g p q (inl x) (inl y) = x.1 ∙ sym y.1
  bad_once (s ∷ later) g p q (inl x) (inr y) = absurd (x.0 y.0 y.1)
  bad_once (s ∷ later) g p q (inr x) (inl y) = absurd (y.0 x.0 x.1)
  bad_once (s ∷ later) g p q (inr x) (inr y) =
      let same = taken_once g s x.0 y.0 x.1 y.1 in
      bad_once later y.0 p q (subst (λ h. IsFirstBad h later p) same x.2) y.2

  never_both : (settings : List Setting) (g a : Given) (p : Parameter) → TakesAll g settings a → ¬ IsFirstBad g settings p
  never_both [] g a p x y = y
  never_both (s ∷ later) g a p x (inl y) = y.0 x.0 x.1
  never_both (s ∷ later) g a p x (inr y) =
      let same = taken_once g s x.0 y.0 x.1 y.1 in
      never_both later y.0 a p (subst (λ h. TakesAll h later a) same x.2) y.2

  pub one : QueriesSayOne
  one = record {
    gives = λ listed query. all_once (settings_of listed query) nothing_given;
    bad = λ listed query. bad_once (settings_of listed query) nothing_given;
    either = λ listed query. never_both (settings_of listed query) nothing_given;
  }
