use Rattle.aas_real_ends.proofs.Folders.{opened_again}
use Rattle.aas_real_ends.proofs.folder.Folder.write_at.Goals as goal

pub returns-clause-opened : goal.returns-clause-opened
returns-clause-opened g c =
    opened_again g.O.File.StoredFile c.args.part c.in_ok-file.file
    c.write_at-written.new.self c.open.new.self c.take.new.self c.put.new.self
    c.write_at-written.ensures.name c.write_at-written.ensures.locked
    c.in_ok-file.ensures.open c.take.ensures.without c.put.ensures c.open.ensures.opened
