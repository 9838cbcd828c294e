use Rattle.aas_store.proofs.Paths.{no_element}
use Rattle.aas_sheet_rows.proofs.sheet.Sheet.find.Goals as goal

pub returns-in-Err-clause-missing : goal.returns-in-Err-clause-missing
returns-in-Err-clause-missing c =
    (no_element c.args.self.now c.args.path.now.steps c.in-Err.ensures.value, c.in-Err.ensures.depth)
