use Rattle.std.proofs.Common.{Some, None, sym, ◌∙◌}
use Rattle.aas_store.proofs.Paths.{at_rank}
use Rattle.aas_sheet_rows.proofs.Below.{row_of_path}
use Rattle.aas_sheet_rows.proofs.sheet.Sheet.find_row.Goals as goal

pub returns-clause-found : goal.returns-clause-found
returns-clause-found c =
    row_of_path c.args.self.now c.args.path.now.steps c.in_ok-rank.rank
    (Some c.in-Some.row) c.in_ok-rank.ensures.value c.in-Some.ensures

pub unreachable-requires : goal.unreachable-requires
unreachable-requires c =
    let none = row_of_path c.args.self.now c.args.path.now.steps
    c.in_ok-rank.rank None c.in_ok-rank.ensures.value c.in-None.ensures in
    let there =
    (at_rank c.args.self.now c.args.path.now.steps c.in_ok-rank.rank (sym c.in_ok-rank.ensures.value)).found in
    let lost = sym none ∙ there in
    absurd (cc)
