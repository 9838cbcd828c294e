use Rattle.std.proofs.Common.{slice_get, sym}
use Rattle.aas_answer.specs.Plans.{entry_text}
use Rattle.aas_answer.proofs.Entries.{adds_none}
use Rattle.aas_answer.proofs.plans.pour_single.Goals as goal

pub returns-in-None : goal.returns-in-None
returns-in-None g c =
    adds_none (entry_text (g.S.Store.documents c.args.store.now) c.args.listing.now)
    (slice_get c.args.listing.now.ids 0) c.args.so_far (g.O.Out.told c.args.out.now) (sym c.in-None.ensures)
