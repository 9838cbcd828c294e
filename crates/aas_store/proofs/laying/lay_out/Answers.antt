use Rattle.std.proofs.Common.{◌≡◌, ◌<◌, ◌+◌, ◌-◌, ℕ, arith, length, map, reverse}
use Rattle.std.proofs.lemmas.Option.{slice_get_within}
use Rattle.aas_store.proofs.LaidOut.{laid_one, one_less, storable_left}
use Rattle.aas_store.proofs.laying.lay_out.Goals as goal

pub from_submodel-requires : goal.from_submodel-requires
from_submodel-requires g c =
    let l = c.loop-submodels in
    storable_left c.args.submodels l.submodels (map g.T.Table.kept (reverse l.tables.items)) (c.len-in-loop-submodels.result - 1) c.remove-submodel.result c.requires l.invariant.0 c.remove-submodel.ensures.item

pub loop-submodels-smaller : goal.loop-submodels-smaller
loop-submodels-smaller g c =
    let l = c.loop-submodels in
    let n : ℕ = c.len-in-loop-submodels.result - 1 in
    let within = slice_get_within l.submodels n c.remove-submodel.result c.remove-submodel.ensures.item in
    let last : n + 1 ≡ length l.submodels = omega (arith, within, c.len-in-loop-submodels.ensures) in
    let less = one_less l.submodels c.remove-submodel.new.self n c.remove-submodel.result last c.remove-submodel.ensures.item c.remove-submodel.ensures.rest in
    let smaller : length c.remove-submodel.new.self < length l.submodels = omega (arith, less) in
    smaller

pub loop-submodels-preserved : goal.loop-submodels-preserved
loop-submodels-preserved g c =
    let l = c.loop-submodels in
    let n : ℕ = c.len-in-loop-submodels.result - 1 in
    let put = c.push_reserved.ensures in
    let within = slice_get_within l.submodels n c.remove-submodel.result c.remove-submodel.ensures.item in
    let last : n + 1 ≡ length l.submodels = omega (arith, within, c.len-in-loop-submodels.ensures) in
    let less = one_less l.submodels c.remove-submodel.new.self n c.remove-submodel.result last c.remove-submodel.ensures.item c.remove-submodel.ensures.rest in (
      laid_one g.T.Table.kept c.args.submodels l.submodels c.remove-submodel.new.self l.tables.items c.push_reserved.new.self.items n c.remove-submodel.result c.in_ok-from_submodel.field-0 l.invariant.0 last
          c.remove-submodel.ensures.item c.remove-submodel.ensures.rest c.in_ok-from_submodel.ensures put.items,
      omega (arith, l.invariant.1, put.len, put.capacity, less),
    )
