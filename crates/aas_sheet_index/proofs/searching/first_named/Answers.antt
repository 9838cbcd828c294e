use Rattle.std.proofs.Common.{◌≡◌, ◌+◌, ℕ, List, false, true, length, sym, ap, ◌∙◌, subst, arith}
use Rattle.std.specs.List.{AllWithin}
use Rattle.std.specs.Ordering.{is_lt}
use Rattle.std.specs.Str.{IsUtf8}
use Rattle.std.proofs.lemmas.Str.{encodes-chars}
use Rattle.aas_sheet_index.specs.Index.{compared, key, key_at, AreKeyed, IsPart}
use Rattle.aas_sheet_index.specs.Keys.{listed}
use Rattle.aas_sheet_index.specs.declared.order.Key.{Key}
use Rattle.aas_sheet_index.specs.declared.side.Side.{Side}
use Rattle.aas_sheet_index.proofs.Searched.{none_behind, none_other, none_past, some_there, Sought}
use Rattle.aas_sheet_index.proofs.searching.first_named.Goals as goal
use Rattle.aas_sheet_index.proofs.searching.first_named.Goals.{After-place_of_key-place}

-- what was looked for by a key that the code made
sought : (ss : List Side) (ranks : List ℕ) (k k' : ℕ) (name : List ℕ) (first place : ℕ) (made : Key)
    → IsPart ss 0 ranks → AreKeyed ss → IsUtf8 name → k' ≡ k → listed made ≡ key (k' + 1) name
    → AllWithin (λ r. is_lt (compared (key_at ss r) r (listed made) first) ≡ true) ranks 0 place
    → AllWithin (λ r. is_lt (compared (key_at ss r) r (listed made) first) ≡ false) ranks place (length ranks)
    → Sought ss ranks k name first place
sought ss ranks k k' name first place made index keyed utf8 is same before behind =
    let by : listed made ≡ key (k + 1) name = same ∙ ap (λ n. key (n + 1) name) is in record {
      index = index;
      keyed = keyed;
      spelled = encodes-chars name utf8;
      before = subst
          (λ (a : List ℕ). AllWithin (λ r. is_lt (compared (key_at ss r) r a first) ≡ true) ranks 0 place) by before;
      behind =
          subst (λ (a : List ℕ).
          AllWithin (λ r. is_lt (compared (key_at ss r) r a first) ≡ false) ranks place (length ranks))
          by behind;
    }

found : (c : After-place_of_key-place)
    → Sought c.args.sides.now c.args.ranks.now c.args.level c.args.name.now c.args.first c.place_of_key-place.result
found c =
    sought c.args.sides.now c.args.ranks.now c.args.level c.from.result c.args.name.now c.args.first
    c.place_of_key-place.result c.new-key.result c.requires.index c.requires.keyed c.utf8.name
    c.from.ensures c.new-key.ensures c.place_of_key-place.ensures.before c.place_of_key-place.ensures.behind

pub returns-then-place-ranks : goal.returns-then-place-ranks
returns-then-place-ranks c =
    let x = found (goal.at.returns-then-place-ranks c).After-place_of_key-place in
    none_past c.args.sides.now c.args.ranks.now c.args.level c.args.name.now
    c.args.first c.args.end c.place_of_key-place.result x c.if-place-ranks.true

pub returns-then-rank-end : goal.returns-then-rank-end
returns-then-rank-end c =
    none_behind c.args.sides.now c.args.ranks.now c.args.level
    c.args.name.now c.args.first c.args.end c.place_of_key-place.result
    (found (goal.at.returns-then-rank-end c).After-place_of_key-place) c.if-rank-end.true

pub returns-then-is_named_below : goal.returns-then-is_named_below
returns-then-is_named_below c =
    let x = found (goal.at.returns-then-is_named_below c).After-place_of_key-place in
    some_there c.args.sides.now c.args.ranks.now c.args.level c.args.name.now c.args.first
    c.args.end c.place_of_key-place.result x (omega (arith, c.if-place-ranks.false))
    c.index-sides-rank.result c.index-sides-rank.is (omega (arith, c.if-rank-end.false))
    (sym c.is_named_below.ensures.value ∙ c.if-is_named_below.true)

pub returns-else-is_named_below : goal.returns-else-is_named_below
returns-else-is_named_below c =
    none_other c.args.sides.now c.args.ranks.now c.args.level
    c.args.name.now c.args.first c.args.end c.place_of_key-place.result
    (found (goal.at.returns-else-is_named_below c).After-place_of_key-place) (omega (arith, c.if-place-ranks.false))
    c.index-sides-rank.result
    c.index-sides-rank.is c.is_named_below.result c.if-is_named_below.false c.is_named_below.ensures.bytes
