use Rattle.std.proofs.Common.{subst, sym, ◌∙◌, List, ℕ, Option, ◌∷◌, [], true≢false}
use Rattle.aas_json_write_members.specs.Keys.{name_in}
use Rattle.aas_json_write_members.specs.Puts.{PutsFields}
use Rattle.aas_json_write_members.proofs.Putting.{list_none, list_some, put_none}
use Rattle.aas_json_write_members.proofs.pen.put_list.Goals as goal

pub returns-then-is_empty : goal.returns-then-is_empty
returns-then-is_empty g c =
    subst (λ (o : Option (List ℕ)). PutsFields c.args.pen c.args.pen (g.O.TextEnd.told c.args.out.now)
    (g.O.TextEnd.told c.args.out.now) ((name_in c.args.key.now, o) ∷ []))
    (sym (list_none g.P.Poured.spell c.args.values.now (c.is_empty.ensures.0 c.if-is_empty.true)))
    (put_none c.args.pen (g.O.TextEnd.told c.args.out.now) (name_in c.args.key.now))

pub returns : goal.returns
returns g c =
    subst (λ (o : Option (List ℕ)). PutsFields c.args.pen c.put_items.result (g.O.TextEnd.told c.args.out.now)
    (g.O.TextEnd.told c.put_items.new.out) ((name_in c.args.key.now, o) ∷ []))
    (list_some g.P.Poured.spell c.args.values.now c.as_slice.result.now
    (λ e. true≢false (sym (c.is_empty.ensures.1 e) ∙ c.if-is_empty.false)) c.as_slice.ensures)
    c.put_items.ensures
