-- What is shown of the trees of a sort whose spelling shows all of them, and what follows for lists and options of them. References have it from their own crate.
use Rattle.std.proofs.Common.{◌≡◌, nat_le, List, [], ◌∷◌, Bool, true, Option, Some, None, option_map, map, refl}
use Rattle.std.specs.List.{list_all}
use Rattle.std.proofs.lemmas.Bool.{leb-true, le-leb, and_from}
use Rattle.serde_json.specs.Data.{Data}
use Rattle.aas_json_table.specs.Table.{Sort, reference, one, many, kept, parts, model_types}
use Rattle.aas_json_table.specs.Rows.{sorted}
use Rattle.aas_json_table.specs.TooDeep.{Levels, enter}
use Rattle.aas_json_table.specs.Canonical.{are_there, canonical}
use Rattle.aas_json_table.specs.Spelled.{Attributes, attribute, spelled, list_of}
use Rattle.aas_model.specs.declared.plain.Plain.{Plain}
use Rattle.aas_model.specs.declared.reference.Reference.{Reference}
use Rattle.aas_json_spelling.specs.Lists.{Each, each_true}
use Rattle.aas_json_spelling.specs.Kept.{spell_kept, is_ordered, kept_depth}
use Rattle.aas_json_spelling.specs.Good.{Good}
use Rattle.aas_json_spelling.specs.Mapped.{AnyShape}
use Rattle.aas_json_spelling.specs.Values.{IsText}
use Rattle.aas_json_spelling.proofs.Exists.{IsSpelled, and_nothing}
use Rattle.aas_json_spelling.proofs.Laws.{Laws}
use Rattle.aas_json_spelling.proofs.Lists.{each_of}
use Rattle.aas_json_spelling.proofs.Rows.{rising}
use Rattle.aas_lemmas.proofs.Truth.{and_left, and_right}
use Rattle.aas_json_spelling.proofs.Objects.{Agree, AreGood}
use Rattle.aas_json_spelling.proofs.MemberTypes.{EachGood, none_good, list_good, list_back, same_options, same_lists, same_lists_of}
use Rattle.aas_json_spelling.proofs.Kept as kept_data
use Rattle.aas_reference.specs.Spelling.{spell_reference}
use Rattle.aas_reference.specs.Whole.{is_whole, whole_if_there}
use Rattle.aas_reference.proofs.Facts as references
use Rattle.aas_json_mapping.specs.Trees.{trees_by}
use Rattle.aas_json_mapping.specs.Whole.{whole_kept}
use Rattle.aas_json_mapping.proofs.Rows.{object_made, object_inside, part_rows, same_rows}

pub record Facts {A : Type 0} (s : Sort) (spell : A → Data) (whole : Levels → A → Bool) : Type 0 where
  -- what is whole spells what is good
  pub good : (l : Levels) (x : A) → whole l x ≡ true → Good l (one s) (Some (spell x))
  -- what spells what is good is whole
  pub back : (l : Levels) (x : A) → Good l (one s) (Some (spell x)) → whole l x ≡ true
  -- what spells the same is the same
  pub same : (x y : A) → spell x ≡ spell y → x ≡ y

-- the same of trees with a shape, which their spelling doesn't show
pub record ShapedFacts {A : Type 0} (s : Sort) (spell : A → Data) (whole : Levels → A → Bool) (Shape : A → Type 0)
    : Type 0 where
  pub good : (l : Levels) (x : A) → whole l x ≡ true → Good l (one s) (Some (spell x))
  pub back : (l : Levels) (x : A) → Shape x → Good l (one s) (Some (spell x)) → whole l x ≡ true
  pub same : (x y : A) → Shape x → Shape y → spell x ≡ spell y → x ≡ y

module _ {A : Type 0} {s : Sort} {spell : A → Data} {whole : Levels → A → Bool} {Shape : A → Type 0}
    (facts : ShapedFacts s spell whole Shape) where
  each_good : (l : Levels) (xs : List A) → list_all (whole l) xs ≡ true → EachGood l (one s) spell xs
  each_good l [] e = tt
  each_good l (x ∷ xs) e = (facts.good l x (and_left (whole l x) _ e), each_good l xs (and_right (whole l x) _ e))

  each_back : (l : Levels) (xs : List A) → Each Shape xs → EachGood l (one s) spell xs → list_all (whole l) xs ≡ true
  each_back l [] shape g = refl
  each_back l (x ∷ xs) shape g =
      and_from (whole l x) (list_all (whole l) xs) (facts.back l x shape.0 g.0) (each_back l xs shape.1 g.1)

  each_alone : (xs : List A) → Each Shape xs → Each (λ x. (y : A) → Shape y → spell x ≡ spell y → x ≡ y) xs
  each_alone [] shape = tt
  each_alone (x ∷ xs) shape = (λ y t e. facts.same x y shape.0 t e, each_alone xs shape.1)

  pub shaped_good : (l : Levels) (xs : List A) → list_all (whole l) xs ≡ true → Good l (many s) (list_of spell xs)
  shaped_good l xs e = list_good l spell s xs (each_good l xs e)

  pub shaped_back : (l : Levels) (xs : List A) → Each Shape xs → Good l (many s) (list_of spell xs)
      → list_all (whole l) xs ≡ true
  shaped_back l xs shape g = each_back l xs shape (list_back l spell s xs g)

  pub shaped_same : (xs ys : List A) → Each Shape xs → Each Shape ys → list_of spell xs ≡ list_of spell ys → xs ≡ ys
  shaped_same xs ys a b e = same_lists_of Shape spell xs ys (each_alone xs a) b e

module _ {A : Type 0} {s : Sort} {spell : A → Data} {whole : Levels → A → Bool} (facts : Facts s spell whole) where
  any_shape : ShapedFacts s spell whole AnyShape
  any_shape = record {
    good = facts.good;
    back = λ l x t g. facts.back l x g;
    same = λ x y t u e. facts.same x y e;
  }

  pub all_good : (l : Levels) (xs : List A) → list_all (whole l) xs ≡ true → Good l (many s) (list_of spell xs)
  all_good l xs e = shaped_good any_shape l xs e

  pub all_back : (l : Levels) (xs : List A) → Good l (many s) (list_of spell xs) → list_all (whole l) xs ≡ true
  all_back l xs g = shaped_back any_shape l xs (each_of AnyShape (λ x. tt) xs) g

  pub all_same : (xs ys : List A) → list_of spell xs ≡ list_of spell ys → xs ≡ ys
  all_same xs ys e = same_lists spell xs ys facts.same e

  pub if_same : (o p : Option A) → option_map spell o ≡ option_map spell p → o ≡ p
  if_same o p e = same_options spell o p (λ x y i j. facts.same x y) e

  -- the laws of the trees, where what a value says is spelled by one
  pub laws_of : ((j : Data) → IsText j → IsSpelled spell (canonical (one s) j))
      → Laws (trees_by s spell whole) AnyShape
  laws_of found = record {
    shaped = λ l x w. tt;
    good = facts.good;
    back = any_shape.back;
    same = any_shape.same;
    found = λ j u. and_nothing spell (canonical (one s) j) (found j u);
  }

-- ---- parts, which have no modelType

module _ (s : Sort) (l : Levels) (attributes : Attributes) (part : model_types s ≡ []) (entered : enter s l ≡ Some l) where
  pub part_good : are_there (parts s) (attribute attributes) ≡ true → AreGood l (parts s) (attribute attributes)
      → Good l (one s) (Some (spelled (parts s) attributes))
  part_good there good = object_made s l l (parts s) (attribute attributes) entered (part_rows s part _) there good

  pub part_back : Good l (one s) (Some (spelled (parts s) attributes)) → AreGood l (parts s) (attribute attributes)
  part_back good = object_inside s l l (parts s) (attribute attributes) entered (part_rows s part _) good

-- the facts of a part, from what holds of its attributes
pub part_facts : {A : Type 0} (s : Sort) (attributes : A → Attributes) (whole : Levels → A → Bool) → model_types s ≡ []
    → ((l : Levels) → enter s l ≡ Some l) → ((x : A) → are_there (parts s) (attribute (attributes x)) ≡ true)
    → rising (sorted (parts s)) ≡ true
    → ((l : Levels) (x : A) → whole l x ≡ true → AreGood l (parts s) (attribute (attributes x)))
    → ((l : Levels) (x : A) → AreGood l (parts s) (attribute (attributes x)) → whole l x ≡ true)
    → ((x y : A) → Agree (parts s) (attribute (attributes x)) (attribute (attributes y)) → x ≡ y)
    → Facts s (λ x. spelled (parts s) (attributes x)) whole
part_facts s attributes whole part entered there rise good back same = record {
  good = λ l x w. part_good s l (attributes x) part (entered l) (there x) (good l x w);
  back = λ l x g. back l x (part_back s l (attributes x) part (entered l) g);
  same = λ x y e. same x y (same_rows (parts s) (attributes x) (attributes y) rise e);
}

-- ---- references

pub reference_facts : Facts reference spell_reference is_whole
reference_facts = record { good = references.laws.good; back = λ l r g. references.laws.back l r tt g; same = λ r s e. references.laws.same r s tt tt e }

pub reference_if_good : (l : Levels) (o : Option Reference) → whole_if_there l o ≡ true → Good l (one reference) (option_map spell_reference o)
reference_if_good l None w = none_good l (one reference)
reference_if_good l (Some r) w = reference_facts.good l r w

pub reference_if_back : (l : Levels) (o : Option Reference) → Good l (one reference) (option_map spell_reference o) → whole_if_there l o ≡ true
reference_if_back l None g = refl
reference_if_back l (Some r) g = reference_facts.back l r g

-- ---- kept data

pub kept_good : (l : Levels) (ps : List Plain) → whole_kept l ps ≡ true → Good l kept (spell_kept ps)
kept_good l ps w = kept_data.whole_good ps l (record {
  order = and_left (each_true (map is_ordered ps)) _ w;
  low = leb-true (kept_depth ps) l.kept (and_right (each_true (map is_ordered ps)) _ w);
})

pub kept_back : (l : Levels) (ps : List Plain) → Good l kept (spell_kept ps) → whole_kept l ps ≡ true
kept_back l ps g =
    let whole = kept_data.whole_back ps l g in and_from (each_true (map is_ordered ps)) (nat_le (kept_depth ps) l.kept) whole.order (le-leb (kept_depth ps) l.kept whole.low)
