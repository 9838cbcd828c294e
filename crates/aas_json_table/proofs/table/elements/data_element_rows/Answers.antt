use Rattle.std.proofs.Common.{[], ◌∷◌, refl, option_map, sym, ap}
use Rattle.aas_model_names.specs.KindNames.{name_of}
use Rattle.aas_model_names.specs.declared.kind.Kind.TheVariants.{Property, MultiLanguageProperty, Range, File, Blob, ReferenceElement}
use Rattle.aas_json_table.specs.Rows.{sorted}
use Rattle.aas_json_table.specs.Table.{model_types, data_element}
use Rattle.aas_json_table.proofs.NameLemmas.{find_none}
use Rattle.aas_json_table.proofs.table.elements.data_element_rows.Goals as goal

pub returns-in-None : goal.returns-in-None
returns-in-None c = sym (ap (option_map sorted) (find_none name_of c.args.name.now (Property ∷ MultiLanguageProperty ∷ Range ∷ File ∷ Blob ∷ ReferenceElement ∷ []) (model_types data_element) refl (λ v e. let h = (c.in-None.ensures v).1 e in cc)))
