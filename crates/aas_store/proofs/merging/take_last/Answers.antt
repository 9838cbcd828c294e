use Rattle.std.proofs.Common.{◌++◌, ◌∷◌, [], List, arith, ap, ◌∙◌, sym}
use Rattle.aas_store.proofs.Merges.{without_last}
use Rattle.aas_store.proofs.merging.take_last.Goals as goal

pub returns : goal.returns
returns g c =
    without_last c.args.items.now _ c.remove.result (omega (arith, c.len.ensures, c.requires)) c.remove.ensures.item
    ∙ ap (λ (xs : List g.row.T.Denot). xs ++ c.remove.result ∷ []) (sym c.remove.ensures.rest)
