-- The laws of references: the five facts from which all others follow.
use Rattle.std.proofs.Common.{◌≡◌, nat_le, true, Option, Some, None, option_map, refl}
use Rattle.std.proofs.lemmas.Bool.{leb-true, le-leb}
use Rattle.serde_json.specs.Data.{Data}
use Rattle.aas_json_table.specs.Table.{one, reference}
use Rattle.aas_json_table.specs.TooDeep.{Levels}
use Rattle.aas_json_table.specs.Canonical.{canonical}
use Rattle.aas_model.specs.declared.reference.Reference.{Reference}
use Rattle.aas_lemmas.proofs.Truth.{and_left, and_right}
use Rattle.aas_json_spelling.specs.Mapped.{AnyShape}
use Rattle.aas_json_spelling.proofs.Exists.{IsSpelled}
use Rattle.aas_json_spelling.proofs.Laws.{Laws}
use Rattle.aas_reference.specs.Spelling.{spell_reference}
use Rattle.aas_reference.specs.Whole.{has_keys, reference_levels, is_whole}
use Rattle.aas_reference.specs.Trees.{references}
use Rattle.aas_reference.proofs.Levels.{Fits}
use Rattle.aas_reference.proofs.Spelled.{reference_good, same_reference}
use Rattle.aas_reference.proofs.Whole.{said_whole}
use Rattle.aas_reference.proofs.Exists.{some_reference}

pub fits_where_whole : (l : Levels) (r : Reference) → is_whole l r ≡ true → Fits l.references r
fits_where_whole l r e = (and_left (has_keys r) (nat_le (reference_levels r) l.references) e, leb-true (reference_levels r) l.references (and_right (has_keys r) (nat_le (reference_levels r) l.references) e))

pub whole_where_fits : (l : Levels) (r : Reference) → Fits l.references r → is_whole l r ≡ true
whole_where_fits l r f = rw (f.0, le-leb (reference_levels r) l.references f.1) refl

shaped : (o : Option Data) → IsSpelled spell_reference o → IsSpelled (λ (t : (r : Reference) × AnyShape r). spell_reference t.0) o
shaped o t = by_tree t.0 t.1
  where
    by_tree : (t : Option Reference) → o ≡ option_map spell_reference t → IsSpelled (λ (t : (r : Reference) × AnyShape r). spell_reference t.0) o
    by_tree None is = (None, is)
    by_tree (Some r) is = (Some (r, tt), is)

pub laws : Laws references AnyShape
laws = record {
  shaped = λ l r w. tt;
  good = λ l r w. reference_good r l (fits_where_whole l r w);
  back = λ l r s g. whole_where_fits l r (said_whole r l (spell_reference r) g.low g.again);
  same = λ r s a b e. same_reference r s e;
  found = λ j u. shaped (canonical (one reference) j) (some_reference j u);
}
