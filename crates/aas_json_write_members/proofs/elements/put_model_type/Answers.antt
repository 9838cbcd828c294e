use Rattle.std.proofs.Common.{subst, ◌∷◌, [], codes, Some}
use Rattle.serde_json.specs.Data.{string}
use Rattle.serde_json.specs.Written.{compact_text}
use Rattle.aas_model_names.specs.KindNames as kind
use Rattle.aas_model_names.specs.declared.kind.Kind.{Kind}
use Rattle.aas_json_write_members.specs.Puts.{PutsFields}
use Rattle.aas_json_write_members.proofs.elements.put_model_type.Goals as goal

pub returns : goal.returns
returns g c =
    subst (λ (k : Kind). PutsFields c.args.pen c.put_word.result (g.O.TextEnd.told c.args.out.now)
    (g.O.TextEnd.told c.put_word.new.out) ((codes "modelType", Some (compact_text (string (kind.name_of k)))) ∷ []))
    c.kind.ensures c.put_word.ensures
