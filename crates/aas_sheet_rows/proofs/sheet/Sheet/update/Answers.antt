use Rattle.aas_sheet_rows.proofs.sheet.Sheet.update.Goals as goal

pub update_from-requires : goal.update_from-requires
update_from-requires c = (c.args.path.now.steps, c.base_of-first.ensures, c.requires)

pub returns : goal.returns
returns c = c.update_from.ensures c.args.path.now.steps c.base_of-first.ensures c.requires
