use Rattle.aas_real_ends.proofs.Folders.{opened_again}
use Rattle.aas_real_ends.proofs.folder.Folder.sync.Goals as goal

pub returns-clause-opened : goal.returns-clause-opened
returns-clause-opened g c =
    opened_again g.O.File.StoredFile c.args.part c.in_ok-file.file
    c.sync-synced.new.self c.open.new.self c.take.new.self c.put.new.self
    c.sync-synced.ensures.name c.sync-synced.ensures.locked c.in_ok-file.ensures.open
    c.take.ensures.without c.put.ensures c.open.ensures.opened
