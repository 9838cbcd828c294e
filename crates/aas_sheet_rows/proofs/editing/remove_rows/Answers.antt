use Rattle.std.proofs.Common.{◌≡◌, List, sym, subst}
use Rattle.std.specs.List.{remove_range}
use Rattle.aas_rows.specs.Rows.{sizes}
use Rattle.aas_sheet_index.specs.Sides.{levels, sizes_of}
use Rattle.aas_sheet_index.specs.declared.side.Side.{Side}
use Rattle.aas_sheet_rows.proofs.Columns.{removed_lines}
use Rattle.aas_sheet_index.proofs.Measures.{sized_measured}
use Rattle.aas_sheet_rows.proofs.editing.remove_rows.Goals as goal

pub returns-clause-lines : goal.returns-clause-lines
returns-clause-lines c = (removed_lines c.args.rows.now c.splice.new.items c.args.sides.now c.remove.new.self
    c.len-count.result c.args.first c.args.end c.len-count.ensures c.requires.long c.splice.ensures c.remove.ensures).0

pub returns-clause-long : goal.returns-clause-long
returns-clause-long c = (removed_lines c.args.rows.now c.splice.new.items c.args.sides.now c.remove.new.self
    c.len-count.result c.args.first c.args.end c.len-count.ensures c.requires.long c.splice.ensures c.remove.ensures).1

pub returns-clause-sized : goal.returns-clause-sized
returns-clause-sized c =
    subst (λ (ss : List Side). sizes_of ss ≡ sizes (levels ss)) (sym c.remove.ensures)
    (sized_measured (remove_range c.args.sides.now c.args.first c.args.end))
