use Rattle.std.proofs.Common.{List, sym, ap, subst}
use Rattle.aas_sheet_index.specs.declared.side.Side.{Side}
use Rattle.aas_sheet_rows.specs.Found.{Among}
use Rattle.aas_path_trees.specs.ElementAt.{children_at}
use Rattle.aas_store.specs.Reads.{first_semantic_id}
use Rattle.aas_sheet_rows.proofs.Standing.{all_read}
use Rattle.aas_sheet_rows.proofs.sheet.Sheet.first_semantic_id.Goals as goal

pub returns-in-Some : goal.returns-in-Some
returns-in-Some c =
    let t = c.self.inside in
    let d = c.args.self.now in
    let ks = children_at d c.args.path.now.steps in
    let found = c.in-Some.found in
    c.first_semantic_id.ensures found.level ks
    (subst (λ (ss : List Side). Among c.as_slice-rows.result.now ss found.first found.end found.level ks)
    (sym c.as_slice-sides.ensures) (c.in-Some.ensures.rows d (all_read t.head t.rows
    c.as_slice-rows.result.now t.sides d c.self.invariant.0 c.self.view_is c.as_slice-rows.ensures)))

pub returns-in-None : goal.returns-in-None
returns-in-None c =
    let t = c.self.inside in
    let d = c.args.self.now in
    sym (ap first_semantic_id (c.in-None.ensures.rows d (all_read t.head t.rows
    c.as_slice-rows.result.now t.sides d c.self.invariant.0 c.self.view_is c.as_slice-rows.ensures)))
