use Rattle.std.proofs.Common.{subst, sym}
use Rattle.aas_real_ends.specs.Folder.{AreOpened}
use Rattle.aas_real_ends.proofs.Folders.{opened_with}
use Rattle.aas_real_ends.proofs.folder.Folder.open_alone.Goals as goal

pub returns-clause-opened : goal.returns-clause-opened
returns-clause-opened g c =
    let file = c.in_ok-file.file in
    subst (AreOpened g.O.File.StoredFile) (sym c.put.ensures)
    (opened_with g.O.File.StoredFile c.args.part file c.args.self.now c.in_ok-file.ensures c.requires)
