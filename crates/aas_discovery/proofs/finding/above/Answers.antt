use Rattle.std.proofs.Common.{rules, ◌-◌, ℕ, List, length, drop, refl, sym, ap, ◌∙◌, map}
use Rattle.std.proofs.Common.{arith}
use Rattle.std.specs.FinMap as fin
use Rattle.std.specs.Ordering.{is_le}
use Rattle.std.specs.Str.{encode_utf8_all}
use Rattle.std.proofs.lemmas.List.{length-drop, take_all}
use Rattle.std.proofs.lemmas.List.Sorted.{IsPartitionPoint-from_clause}
use Rattle.aas_store.proofs.Above.{all_above_none}
use Rattle.aas_store.proofs.Ordered.{order}
use Rattle.aas_discovery.specs.Ids.{marks}
use Rattle.aas_discovery.proofs.Marks.{above_point, not_above_first}
use Rattle.aas_discovery.proofs.finding.above.Goals as goal

pub returns-in-None : goal.returns-in-None
returns-in-None c = rw c.in-None.is (sym (all_above_none (map encode_utf8_all c.args.ids.now)))

pub returns-in-Some : goal.returns-in-Some
returns-in-Some c =
    let ids = c.args.ids.now in
    let place = c.partition_point-place.result in
    let passes = λ (own : List ℕ). is_le (order (encode_utf8_all own) c.in-Some.after.now) in
    let parted = not_above_first ids c.requires (fin.from_sorted (marks ids)) refl c.in-Some.after.now in
    let point = IsPartitionPoint-from_clause passes ids place c.partition_point-place.ensures.partitioned parted
    (λ a r k called. search rules) in
    let long = length-drop place ids in
    rw c.in-Some.is
    (ap (map encode_utf8_all) (take_all (length ids - place) (drop place ids) (omega (arith, long)))
    ∙ above_point ids c.in-Some.after.now place point)
