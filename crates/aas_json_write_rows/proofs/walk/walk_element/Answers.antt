use Rattle.std.proofs.Common.{◌<◌, ◌∙◌, List, [], false, ap, subst, sym}
use Rattle.std.proofs.lemmas.Option.{same_Some}
use Rattle.aas_out.proofs.Adding.{adds_nothing}
use Rattle.aas_rows.specs.Rows.{Line}
use Rattle.aas_json_write_members.specs.Members.{all_stops}
use Rattle.aas_json_write_rows.specs.Walk.{IsNested, remaining}
use Rattle.aas_json_write_rows.specs.declared.walk.OpenElement.{OpenElement}
use Rattle.aas_json_write_rows.proofs.Going.{fresh, stepped, falls}
use Rattle.aas_json_write_rows.proofs.walk.walk_element.Goals as goal

pub loop-walk-init : goal.loop-walk-init
loop-walk-init g c =
    let rows = g.R.Rows.lines c.args.rows.now in
    let there = c.requires.there in record {
      poured = [];
      parts =
          ap (λ (fs : List OpenElement). remaining c.args.show rows fs c.args.rank all_stops false)
          (sym c.new.ensures);
      adds = adds_nothing c.args.so_far (g.O.TextEnd.told c.args.out.now);
      kept = λ e. record {
        nested =
            subst (λ (fs : List OpenElement). IsNested rows 0 fs c.args.rank) (sym c.new.ensures)
            (λ r is. subst (λ (l : Line). 0 < l.level) (same_Some there.0 r (sym there.1 ∙ is)) there.2);
        passed = λ begun r is. fresh rows r.level _ _ begun;
      };
    }

pub loop-walk-smaller : goal.loop-walk-smaller
loop-walk-smaller g c =
    falls c.args.show (g.R.Rows.lines c.args.rows.now) c.loop-walk.walk c.step-state.new.walk
    (cc) c.step-state.ensures.less

pub loop-walk-preserved : goal.loop-walk-preserved
loop-walk-preserved g c =
    let rows = g.R.Rows.lines c.args.rows.now in
    let whole = remaining c.args.show rows [] c.args.rank all_stops false in
    let told = g.O.TextEnd.told in
    stepped c.args.show rows whole c.loop-walk.walk c.step-state.new.walk
    c.args.so_far c.loop-walk.state c.step-state.result
    (told c.args.out.now) (told c.loop-walk.out)
    (told c.step-state.new.out) c.loop-walk.invariant c.step-state.ensures.poured
