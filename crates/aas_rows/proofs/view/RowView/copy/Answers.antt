use Rattle.std.proofs.Common.{ℕ, List, Option, ap, ap₂, ◌∙◌}
use Rattle.aas_model.specs.declared.common.Common.{Common}
use Rattle.aas_model.specs.declared.element.Element.{Element, Element-F, out-roll-Element}
use Rattle.aas_model.specs.declared.payload.Payload.{Payload}
use Rattle.aas_rows.specs.Rows.{Line}
use Rattle.aas_rows.proofs.view.RowView.copy.Goals as goal

pub returns-clause-line : goal.returns-clause-line
returns-clause-line c =
    let line : Common → Payload → Line = λ m x. record { level = c.args.self.level; common = m; payload = x; role = c.args.self.role } in
    ap (λ (e : Element-F Element). record { level = c.args.self.level; common = e.common; payload = e.payload; role = e.role }) (out-roll-Element _)
    ∙ ap₂ line (ap₂ (λ (m : Common) (n : Option (List ℕ)). record m { id_short = n }) c.in_ok-common.ensures c.in_ok-common-2.ensures) c.in_ok-copy.ensures
