use Rattle.std.proofs.Common.{◌≡◌, Some, slice_get, arith}
use Rattle.std.proofs.Math.ListN.{length-set}
use Rattle.aas_clients.specs.Places.{is_large, is_open}
use Rattle.aas_clients.proofs.Places.{at_place, count_one, count_set, keeps_set, only_set, right_set, stood_at}
use Rattle.aas_clients.proofs.table.Table.grow.Goals as goal

pub invariant_of-self : goal.invariant_of-self
invariant_of-self g c =
    let self = c.args.self.now in
    let places = self.places.items in
    let k = c.args.number in
    let here = c.requires.within in
    let old = c.index_mut.result.now in
    let new = c.grow.new.self in
    let was : slice_get places k ≡ Some old =
    at_place places k _ old self.places.ok.0 (omega (arith, here, self.places.ok.0)) c.index_mut.ensures.value in
    let changes = c.grow.ensures self.next (stood_at places k self.next _ old was self.right) in
    record {
      few = omega (arith, length-set places k new, self.few);
      few_open = count_set is_open places k old new 500 here was changes.opens self.few_open;
      few_large = omega (arith, count_one is_large places k new here, c.requires.few);
      right = right_set places k self.next self.next _ old new here was changes self.right;
    }

pub returns-clause-keeps : goal.returns-clause-keeps
returns-clause-keeps g c =
    let self = c.args.self.now in
    let places = self.places.items in
    let k = c.args.number in
    let here = c.requires.within in
    let old = c.index_mut.result.now in
    let was : slice_get places k ≡ Some old =
    at_place places k _ old self.places.ok.0 (omega (arith, here, self.places.ok.0)) c.index_mut.ensures.value in
    keeps_set places k self.next self.next old c.grow.new.self here was
    (c.grow.ensures self.next (stood_at places k self.next _ old was self.right))

pub returns-clause-only : goal.returns-clause-only
returns-clause-only g c = only_set c.args.self.now.places.items c.args.number c.grow.new.self
