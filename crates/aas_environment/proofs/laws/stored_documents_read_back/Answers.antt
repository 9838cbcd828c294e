use Rattle.aas_environment.proofs.ReadBack.{stored}
use Rattle.aas_environment.proofs.laws.stored_documents_read_back.Goals as goal

pub returns : goal.returns
returns g c =
    stored (g.S.Store.documents c.args.store.now) c.requires
    c.in_ok-_text._text.items c.in_ok-_text.ensures.text c.in_ok-_text.ensures.utf8
