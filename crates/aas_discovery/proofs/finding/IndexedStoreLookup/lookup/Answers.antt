use Rattle.std.proofs.Common.{List, sym, ap, ◌∙◌, subst, map}
use Rattle.std.specs.Prelude.{filter}
use Rattle.std.specs.Option.{option_copied}
use Rattle.std.specs.Str.{encode_utf8_all}
use Rattle.std.proofs.lemmas.Result.{IfOk-weaker}
use Rattle.aas_model.specs.declared.parts.SpecificAssetId.{SpecificAssetId}
use Rattle.aas_page.specs.Pages.{first_page}
use Rattle.aas_discovery.specs.Finding.{HoldOneOf, has_all}
use Rattle.aas_discovery.proofs.Paged.{looked_up}
use Rattle.aas_discovery.proofs.finding.IndexedStoreLookup.lookup.Goals as goal

pub returns-in-Some : goal.returns-in-Some
returns-in-Some g c =
    let d = g.S.Store.documents c.args.self.now in
    let wanted = c.args.wanted.now in
    let holds : HoldOneOf d.shells wanted c.fewest.result.now = subst
    (λ (ws : List SpecificAssetId). HoldOneOf d.shells ws c.fewest.result.now)
    (sym c.in-Some.ensures.cases.0 ∙ c.as_slice.ensures) c.fewest.ensures in
    IfOk-weaker c.page_among.result _ _
    (λ page told.
    told ∙ ap (λ (ws : List SpecificAssetId). first_page c.args.limit
    (filter (has_all d.shells ws) (map encode_utf8_all c.above-ids.result.now))) c.as_slice-in-Some.ensures
    ∙ looked_up d wanted (option_copied c.args.after) c.args.limit c.fewest.result.now c.above-ids.result.now holds
    c.above-ids.ensures)
    c.page_among.ensures
