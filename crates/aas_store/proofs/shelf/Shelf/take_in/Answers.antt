use Rattle.std.proofs.Common.{List, arith, length, ap, ap₂, ◌∙◌}
use Rattle.std.specs.FinMap as fin
use Rattle.std.specs.FinMap.{get-from_sorted}
use Rattle.std.specs.Option.{option_or}
use Rattle.aas_store.specs.declared.shelf.Entry.{Entry}
use Rattle.aas_store.specs.Shelf.{pairs}
use Rattle.aas_store.proofs.Ordered.{order}
use Rattle.aas_store.proofs.Shelves.{count_is, found_is}
use Rattle.aas_store.proofs.shelf.Shelf.take_in.Goals as goal

pub merge-requires-clause-fits : goal.merge-requires-clause-fits
merge-requires-clause-fits g c =
    let older = count_is c.self.inside.entries c.self.invariant c.args.self.now c.self.view_is in
    let newer = count_is c.newer.inside.entries c.newer.invariant c.args.newer c.newer.view_is in
    omega (arith, c.requires.fits, older, newer, ap length c.replace-older.ensures.value)

pub returns : goal.returns
returns g c = λ id.
    get-from_sorted order (pairs c.merge.result) id c.merge.ensures.in_order ∙ c.merge.ensures.found id
    ∙ ap₂ option_or (found_is c.newer.inside.entries c.newer.invariant c.args.newer c.newer.view_is id)
    (ap (λ (es : List (Entry g.row.D.Denot)). fin.find order id (pairs es)) c.replace-older.ensures.value
    ∙ found_is c.self.inside.entries c.self.invariant c.args.self.now c.self.view_is id)
