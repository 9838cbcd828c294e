use Rattle.std.proofs.Common.{◌≡◌, ◌==◌, ◌∙◌, Bool, true, false, List, sym, subst, rules}
use Rattle.std.specs.Bool.{OnTrue}
use Rattle.std.specs.List.Sorted.{IsSorted}
use Rattle.aas_sheet_index.specs.Index.{order}
use Rattle.aas_sheet_index.specs.declared.side.Side.{Side}
use Rattle.std.specs.Ordering.{is_lt}
use Rattle.std.proofs.lemmas.Fn.{always_returns_same}
use Rattle.std.proofs.lemmas.List.Sorted.{list_any-IsPermutation}
use Rattle.aas_sheet_index.proofs.Ordered.{is_less, weak}
use Rattle.aas_sheet_index.proofs.listing.sorted_ranks.Goals as goal

pub returns-then-are_in_order : goal.returns-then-are_in_order
returns-then-are_in_order c =
    let ss : List Side = c.args.sides.now in
    let same : c.as_slice.result.now ≡ c.in_ok-ranks.ranks.items = search rules in
    record {
      ordered =
          subst (IsSorted (order ss)) same
          (in_order c.are_in_order.result c.if-are_in_order.true c.are_in_order.ensures);
      listed = c.in_ok-ranks.ensures;
    }
  where
    in_order : {A : Type 0} (b : Bool) → b ≡ true → OnTrue b A → A
    in_order true is a = a
    in_order false is a = absurd (cc)

pub returns : goal.returns
returns c = record {
  ordered =
      c.sort_unstable_by.ensures.sorted (is_less c.args.sides.now) (weak c.args.sides.now)
      (always_returns_same _ (λ a r. is_lt r ≡ is_less c.args.sides.now a.0.now a.1.0.now) _ (λ a r q k. search rules));
  listed = λ r.
      sym (list_any-IsPermutation (λ q. q == r) c.in_ok-ranks.ranks.items
      c.sort_unstable_by.new.self.items c.sort_unstable_by.ensures.permutation)
      ∙ c.in_ok-ranks.ensures r;
}
