use Rattle.std.proofs.Common.{List, is_some, refl, sym, ap, ◌∙◌}
use Rattle.std.specs.Str.{chars}
use Rattle.aas_path_trees.specs.ElementAt.{place_named, children_at}
use Rattle.aas_sheet_rows.specs.declared.row.Row.{Row}
use Rattle.aas_sheet_rows.proofs.Below.{spot_named}
use Rattle.aas_sheet_rows.proofs.Standing.{all_among, viewed}
use Rattle.aas_sheet_rows.proofs.sheet.Sheet.has_child.Goals as goal

pub returns-in_default : goal.returns-in_default
returns-in_default c =
    let t = c.self.inside in
    let d = c.args.self.now in
    let rs : List Row = c.as_slice-rows.result.now in
    let v = viewed t.head t.rows rs t.sides t.sides d c.self.invariant.0 c.self.view_is c.as_slice-rows.ensures refl in
    sym (ap (λ ks. is_some (place_named c.args.id_short.now ks))
    (c.in_default.ensures.rows d (all_among t.head rs t.sides d v.0 v.1)))

pub returns : goal.returns
returns c =
    let t = c.self.inside in
    let d = c.args.self.now in
    let ks = children_at d c.args.path.now.steps in
    let rs : List Row = c.as_slice-rows.result.now in
    let v = viewed t.head t.rows rs t.sides t.sides d c.self.invariant.0 c.self.view_is c.as_slice-rows.ensures refl in
    c.is_some.ensures
    ∙ ap is_some (c.child_among.ensures ks (c.in-Some.ensures.rows d (all_among t.head rs t.sides d v.0 v.1)))
    ∙ spot_named (chars c.as_str.result.now) ks c.in-Some.found.first
    ∙ ap (λ n. is_some (place_named n ks)) c.as_str.ensures.characters
