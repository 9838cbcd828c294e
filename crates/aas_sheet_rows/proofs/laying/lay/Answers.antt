use Rattle.std.proofs.Common.{ℕ, List, [], ◌∷◌, ◌++◌, sym, ap, ap₂, ◌∙◌, subst}
use Rattle.std.proofs.lemmas.List.Elements.{All-append, All-cons, All-nil}
use Rattle.aas_model.specs.declared.element.Element.{Element, out-Element}
use Rattle.aas_rows.specs.Rows.{line_at}
use Rattle.aas_sheet_rows.specs.Table.{line_of, lines_of}
use Rattle.aas_sheet_rows.specs.declared.row.Row.{Row}
use Rattle.aas_sheet_index.specs.Index.{name_bytes, short_key, AreKeyed, IsKeyed}
use Rattle.aas_sheet_index.specs.declared.side.Side.{Side}
use Rattle.aas_sheet_rows.proofs.Laid.{lines_push}
use Rattle.aas_sheet_rows.proofs.laying.lay.Goals as goal

pub returns-clause-lines : goal.returns-clause-lines
returns-clause-lines c =
    let rs : List Row = c.args.rows.now in
    let ss : List Side = c.args.sides.now in
    let e : Element = c.args.tree.element in
    let k : ℕ = c.args.tree.level in
    let s : Side = c.new-2.result in
    let id_short = c.new-2.ensures.id_short ∙ c.take-id_short.ensures.value in
    ap₂ lines_of c.in_ok-push.ensures.ok c.in_ok-push-2.ensures.ok ∙ lines_push rs ss c.in_ok-row.row s c.requires
    ∙ ap (λ (r : Row). lines_of rs ss ++ line_of r s ∷ []) c.in_ok-row.ensures
    ∙ ap₂ (λ n l. lines_of rs ss
    ++ (record (line_at k e) { common = record (out-Element e).common { id_short = n }; level = l }) ∷ [])
    id_short c.new-2.ensures.level

pub returns-clause-keyed : goal.returns-clause-keyed
returns-clause-keyed c =
    let ss : List Side = c.args.sides.now in
    let s : Side = c.new-2.result in
    let made = c.new-2.ensures in
    let kept : IsKeyed s =
    made.short_key ∙ ap₂ (λ l n. short_key l (name_bytes n)) (sym made.level) (sym made.id_short) in
    λ keyed. subst AreKeyed (sym c.in_ok-push-2.ensures.ok)
    (All-append IsKeyed ss (s ∷ []) keyed (All-cons IsKeyed s [] kept (All-nil IsKeyed)))
