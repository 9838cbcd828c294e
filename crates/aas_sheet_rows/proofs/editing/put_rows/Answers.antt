use Rattle.std.proofs.Common.{◌≡◌, ◌≤◌, ◌^◌, ℕ, List, [], ◌∷◌, ◌++◌, length, sym, ap, ap₂, ◌∙◌, subst}
use Rattle.std.specs.List.{replace_range}
use Rattle.std.proofs.lemmas.List.{append-nil}
use Rattle.aas_model.specs.declared.element.Element.{Element}
use Rattle.aas_rows.specs.Rows.{rows, rows_of_all, sizes}
use Rattle.aas_sheet_index.specs.Sides.{levels, sizes_of}
use Rattle.aas_sheet_index.specs.declared.side.Side.{Side}
use Rattle.aas_sheet_rows.specs.Table.{lines_of}
use Rattle.aas_sheet_rows.specs.declared.row.Row.{Row}
use Rattle.aas_sheet_rows.proofs.Columns.{put_lines, put_long}
use Rattle.aas_sheet_index.proofs.Measures.{sized_measured}
use Rattle.aas_sheet_rows.proofs.Made.{laid_deep}
use Rattle.aas_sheet_rows.proofs.editing.put_rows.Goals as goal
use Rattle.aas_sheet_rows.proofs.editing.put_rows.Goals.{In_ok-lay_all, After-splice}

-- the rows that are laid out are those of the element
laid : (e : Element) (k : ℕ) (es₀ es : List Element) (rs₀ rs : List Row) (ss₀ ss : List Side) → es₀ ≡ []
    → es ≡ es₀ ++ e ∷ [] → rs₀ ≡ [] → lines_of rs ss ≡ lines_of rs₀ ss₀ ++ rows_of_all es k → lines_of rs ss ≡ rows e k
laid e k es₀ es rs₀ rs ss₀ ss none pushed empty are =
    are
    ∙ ap₂ (λ ls es. ls ++ rows_of_all es k) (ap (λ (rs : List Row). lines_of rs ss₀) empty)
    (pushed ∙ ap (λ (es : List Element). es ++ e ∷ []) none)
    ∙ append-nil (rows e k)

own : (c : In_ok-lay_all) → lines_of c.lay_all.new.rows c.lay_all.new.sides ≡ rows c.args.element c.args.level
own c =
    laid c.args.element c.args.level c.new-elements.result c.push.new.self
    c.new-more_rows.result c.lay_all.new.rows c.new-more_sides.result c.lay_all.new.sides
    c.new-elements.ensures c.in_ok-push.ensures.ok c.new-more_rows.ensures c.in_ok-lay_all.ensures.lines

pub replace-requires-clause-few : goal.replace-requires-clause-few
replace-requires-clause-few c =
    let k : ℕ = c.args.level in
    let long = put_long c.args.rows.now c.lay_all.new.rows c.args.sides.now c.lay_all.new.sides
    (rows c.args.element k) c.args.first c.args.end c.requires.long c.in_ok-lay_all.ensures.long
    (own (goal.at.replace-requires-clause-few c).In_ok-lay_all) in
    subst (λ (n : ℕ). n ≤ 2 ^ 31) (sym long) c.requires.few

pub replace-requires-clause-levels : goal.replace-requires-clause-levels
replace-requires-clause-levels c =
    let e : Element = c.args.element in
    let k : ℕ = c.args.level in
    laid_deep (e ∷ []) k c.lay_all.new.rows c.lay_all.new.sides c.requires.high c.in_ok-lay_all.ensures.long
    (own (goal.at.replace-requires-clause-levels c).In_ok-lay_all ∙ sym (append-nil (rows e k)))

-- the lines that are put, and the columns, which are of one length
put : (c : After-splice) → lines_of c.lay_all.new.rows c.lay_all.new.sides ≡ rows c.args.element c.args.level
    → (lines_of c.splice.new.items c.replace.new.self
    ≡ replace_range (lines_of c.args.rows.now c.args.sides.now) c.args.first c.args.end (rows c.args.element c.args.level))
    × (length c.splice.new.items ≡ length c.replace.new.self)
put c own =
    put_lines c.args.rows.now c.lay_all.new.rows c.append.new.items
    c.splice.new.items c.args.sides.now c.lay_all.new.sides c.replace.new.self
    (rows c.args.element c.args.level) c.len-count.result c.args.first c.args.end c.len-count.ensures
    c.requires.long c.in_ok-lay_all.ensures.long own
    c.in_ok-append.ensures.ok c.splice.ensures c.in-Ok.ensures.ok

pub returns-in-Ok-clause-lines : goal.returns-in-Ok-clause-lines
returns-in-Ok-clause-lines c =
    let at = goal.at.returns-in-Ok-clause-lines c in (put at.After-splice (own at.In_ok-lay_all)).0

pub returns-in-Ok-clause-sized : goal.returns-in-Ok-clause-sized
returns-in-Ok-clause-sized c =
    subst (λ (ss : List Side). sizes_of ss ≡ sizes (levels ss)) (sym c.in-Ok.ensures.ok)
    (sized_measured (replace_range c.args.sides.now c.args.first c.args.end c.lay_all.new.sides))

pub returns-in-Ok-clause-long : goal.returns-in-Ok-clause-long
returns-in-Ok-clause-long c =
    let at = goal.at.returns-in-Ok-clause-long c in (put at.After-splice (own at.In_ok-lay_all)).1
