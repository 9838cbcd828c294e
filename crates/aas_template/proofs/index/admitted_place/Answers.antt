use Rattle.std.proofs.Common.{◌≡◌, ◌<◌, length, get_or, sym, ap, ◌∙◌, rules}
use Rattle.std.specs.Str.{chars}
use Rattle.std.proofs.lemmas.Str.{encodes-chars}
use Rattle.aas_model.specs.declared.element.Element.{Element}
use Rattle.aas_constraint_rules.specs.Sites.{own_of}
use Rattle.aas_template.proofs.Indexed.{admitted, known_place, not_admitted, refused_unknown}
use Rattle.aas_template.proofs.index.admitted_place.Goals as goal

pub bounds-templates-place : goal.bounds-templates-place
bounds-templates-place c = known_place c.args.templates.now c.args.places.now c.args.rest.now c.in-Some.place.now c.requires.known (sym c.in-Some.ensures.value)

pub offset_bounds-templates-place : goal.offset_bounds-templates-place
offset_bounds-templates-place c =
    let lt : c.in-Some.place.now < length c.args.templates.now =
    known_place c.args.templates.now c.args.places.now c.args.rest.now c.in-Some.place.now c.requires.known (sym c.in-Some.ensures.value) in
    search rules

pub returns-then-is_admitted : goal.returns-then-is_admitted
returns-then-is_admitted c =
    let u : Element = c.index-templates-place.result in
    let at : u ≡ get_or c.args.templates.now c.in-Some.place.now u = ap (λ (x : Element). x) c.index-templates-place.is in
    admitted c.args.templates.now c.args.places.now c.args.rest.now (own_of c.args.instance.now) c.in-Some.place.now u c.requires.known (sym c.in-Some.ensures.value) at
    c.requires.cut (sym c.is_admitted.ensures ∙ c.if-is_admitted.true)

pub returns-else-is_admitted : goal.returns-else-is_admitted
returns-else-is_admitted c =
    let u : Element = c.index-templates-place.result in
    let at : u ≡ get_or c.args.templates.now c.in-Some.place.now u = ap (λ (x : Element). x) c.index-templates-place.is in
    not_admitted c.args.templates.now c.args.places.now c.args.rest.now (own_of c.args.instance.now) c.in-Some.place.now u c.requires.known (encodes-chars c.args.rest.now c.utf8.rest)
    (sym c.in-Some.ensures.value) at c.requires.cut (sym c.is_admitted.ensures ∙ c.if-is_admitted.false)

pub returns-in-None : goal.returns-in-None
returns-in-None c =
    refused_unknown c.args.templates.now c.args.places.now c.args.rest.now (chars c.args.rest.now) (own_of c.args.instance.now) c.requires.known (encodes-chars c.args.rest.now c.utf8.rest)
    (sym c.in-None.ensures.value)
