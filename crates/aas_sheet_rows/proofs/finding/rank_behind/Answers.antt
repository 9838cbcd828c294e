use Rattle.std.proofs.Common.{◌≡◌, ◌+◌, ◌-◌, ◌<◌, ◌≤◌, Some, length, ap, ◌∙◌, arith, rules}
use Rattle.aas_sheet_index.specs.declared.side.Side.{Side}
use Rattle.aas_sheet_rows.proofs.Found.{size_facts}
use Rattle.aas_sheet_rows.proofs.finding.rank_behind.Goals as goal

pub overflow_add-result : goal.overflow_add-result
overflow_add-result c =
    let side : Side = c.index-sides-rank.result in
    let f = size_facts c.args.rows.now c.args.sides.now c.args.rank
    side c.requires.table c.requires.within c.index-sides-rank.is in
    let same = ap (λ (s : Side). s.size) c.index-sides-rank.is in
    let inside : c.args.rank + side.size ≤ length c.args.sides.now = f.inside in
    rw (← same) (search rules)

pub returns-clause-value : goal.returns-clause-value
returns-clause-value c =
    let side : Side = c.index-sides-rank.result in
    let f = size_facts c.args.rows.now c.args.sides.now c.args.rank
    side c.requires.table c.requires.within c.index-sides-rank.is in
    let same = ap (λ (s : Side). s.size) c.index-sides-rank.is in
    let less : side.size ≡ c.args.rank + side.size - c.args.rank = omega arith in
    f.there ∙ ap (λ n. Some n) less ∙ ap (λ n. Some (c.args.rank + n - c.args.rank)) same

pub returns-clause-above : goal.returns-clause-above
returns-clause-above c =
    let side : Side = c.index-sides-rank.result in
    let f = size_facts c.args.rows.now c.args.sides.now c.args.rank
    side c.requires.table c.requires.within c.index-sides-rank.is in
    let some : 0 < side.size = f.some in
    let same = ap (λ (s : Side). s.size) c.index-sides-rank.is in
    omega arith

pub returns-clause-inside : goal.returns-clause-inside
returns-clause-inside c =
    let side : Side = c.index-sides-rank.result in
    let f = size_facts c.args.rows.now c.args.sides.now c.args.rank
    side c.requires.table c.requires.within c.index-sides-rank.is in
    let inside : c.args.rank + side.size ≤ length c.args.sides.now = f.inside in
    let same = ap (λ (s : Side). s.size) c.index-sides-rank.is in
    omega arith
