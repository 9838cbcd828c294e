use Rattle.std.proofs.Common.{rules, ◌≡◌, true, false, List, subst, sym}
use Rattle.std.specs.List.Sorted.{IsPartitionPoint, IsPartitionedBy}
use Rattle.std.specs.Ordering.{is_le}
use Rattle.std.specs.Str.{encode_utf8_all}
use Rattle.std.proofs.lemmas.List.Sorted.{IsPartitionPoint-from_clause}
use Rattle.aas_store.specs.declared.shelf.Entry.{Entry}
use Rattle.aas_store.proofs.Ordered.{order}
use Rattle.aas_store.proofs.Shelves.{first_of_all, next_id, not_above_first}
use Rattle.aas_store.proofs.shelf.Shelf.count_up_to.Goals as goal

pub returns-in-None : goal.returns-in-None
returns-in-None g c = rw c.in-None.is (first_of_all c.args.self.now)

pub returns-in-Some : goal.returns-in-Some
returns-in-Some g c =
    let passes = λ (e : Entry g.row.D.Denot). is_le (order (encode_utf8_all e.id) c.in-Some.after.now) in
    let place = c.partition_point.result in
    let parted = subst (IsPartitionedBy passes) (sym c.as_slice-entries.ensures) (not_above_first c.self.inside.entries c.self.invariant c.args.self.now c.self.view_is c.in-Some.after.now) in
    let point = IsPartitionPoint-from_clause passes c.as_slice-entries.result.now place c.partition_point.ensures.partitioned parted (λ a r k called. search rules) in
    rw c.in-Some.is (next_id c.self.inside.entries c.self.invariant c.args.self.now c.self.view_is c.in-Some.after.now place
    (subst (λ (es : List (Entry g.row.D.Denot)). IsPartitionPoint (λ e. passes e ≡ true) (λ e. passes e ≡ false) es place) c.as_slice-entries.ensures point))
