use Rattle.aas_store.proofs.PutOver.{put_over}
use Rattle.aas_store.proofs.shelf.Shelf.lay_over.Goals as goal

pub returns : goal.returns
returns g c = λ documents is. put_over g.D.Identified.id_of documents c.args.self.now c.args.overlay.newer c.take_in.new.self is c.take_in.ensures
