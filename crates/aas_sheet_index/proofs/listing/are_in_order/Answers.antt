use Rattle.std.proofs.Common.{◌≡◌, Bool, true, false, List, ℕ, length, not, refl, rules}
use Rattle.std.specs.Bool.{MatchBool, OnTrue}
use Rattle.std.specs.List.{AllAdjacentBelow}
use Rattle.std.specs.List.Sorted.{IsSorted}
use Rattle.std.proofs.lemmas.Fn.{always_returns_same}
use Rattle.aas_sheet_index.specs.Index.{order}
use Rattle.aas_sheet_index.specs.declared.side.Side.{Side}
use Rattle.aas_sheet_index.proofs.Ordered.{is_less}
use Rattle.aas_sheet_index.proofs.listing.are_in_order.Goals as goal

isnt : (b : Bool) → true ≡ not b → b ≡ false
isnt true e = cc
isnt false e = refl

in_order : (ss : List Side) (ranks : List ℕ) (b : Bool) (Other : Type 0)
    → MatchBool b (AllAdjacentBelow (λ x y. true ≡ not (is_less ss y x)) ranks (length ranks)) Other
    → OnTrue b (IsSorted (order ss) ranks)
in_order ss ranks true Other each = λ k d low high. isnt _ (each k d high)
in_order ss ranks false Other some = tt

pub returns : goal.returns
returns c =
    in_order c.args.sides.now c.args.ranks.now c.is_sorted_by.result _
    (c.is_sorted_by.ensures.cases (λ x y. not (is_less c.args.sides.now y x))
    (always_returns_same _ (λ a r. r ≡ not (is_less c.args.sides.now a.1.0.now a.0.now)) _ (λ a r q k. search rules)))
