use Rattle.aas_answer.specs.Plans.{entry_text}
use Rattle.aas_answer.proofs.Planned.{page_added}
use Rattle.aas_answer.proofs.plans.pour_page.Goals as goal

pub returns : goal.returns
returns g c =
    page_added (entry_text (g.S.Store.documents c.args.store.now) c.args.listing.now)
    c.args.listing.now.ids c.args.listing.now.cursor
    c.args.so_far c.pour_begin-begun.result c.pour_entries-told.result c.add_text.result
    (g.O.Out.told c.args.out.now) (g.O.Out.told c.pour_begin-begun.new.out)
    (g.O.Out.told c.pour_entries-told.new.out) (g.O.Out.told c.add_text.new.out)
    c.pour_begin-begun.ensures c.pour_entries-told.ensures c.add_text.ensures
