use Rattle.std.proofs.Common.{◌≡◌, ℕ, ◌-◌, List, length, None, Ok, Result, inr, ap, ◌∙◌, subst}
use Rattle.std.specs.List.{last_or}
use Rattle.aas_command.specs.declared.command.Command.TheVariants.{ReplaceElement}
use Rattle.aas_model.specs.declared.element.Element.{Element}
use Rattle.aas_model.specs.declared.read_fault.ReadFault.{ReadFault}
use Rattle.aas_json_table.specs.TooDeep.{Levels, limits}
use Rattle.aas_json_spelling.specs.Reads.{ReadsBytes}
use Rattle.aas_json_mapping.specs.Trees.{elements}
use Rattle.aas_api.specs.declared.ask.Ask.TheVariants.{Act}
use Rattle.aas_api.specs.Asked.{Asked, has_last, if_same}
use Rattle.aas_api.proofs.elements.replace.Goals as goal

pub returns-in_ok-new-in-Ok : goal.returns-in_ok-new-in-Ok
returns-in_ok-new-in-Ok c =
    let result : Result Element ReadFault = Ok c.in-Ok.element in
    let with_levels : ℕ → Levels = λ n. record limits { elements = n } in
    let left : 31 - c.level.result ≡ 31 - length c.args.path.steps = c.level.ensures ∙ ap (λ n. 31 - n) c.len.ensures in
    let asks : List ℕ → Element → Asked =
    λ id e. if_same (has_last (last_or None c.args.path.steps) e) (Act (ReplaceElement id c.args.path e)) in
    let same : c.in_ok-new-in-Ok.field-0 ≡ c.in-Ok.element = c.in_ok-new-in-Ok.ensures in
    inr (
      result,
      subst (λ n. ReadsBytes elements (with_levels n) result c.args.body.now) left c.in-Ok.ensures,
      c.if_same.ensures ∙ ap (λ (id : List ℕ). asks id c.in_ok-new-in-Ok.field-0) c.submodel.view_is
          ∙ ap (asks c.args.submodel) same,
    )
