use Rattle.std.proofs.Common.{◌≡◌, ◌+◌, ◌<◌, ◌∷◌, not, [], Some, map, filter_map, option_map, take, drop, length, get_or, refl, sym, ap, ◌∙◌, subst, arith}
use Rattle.std.proofs.lemmas.Bool.{both_ways, OnFalse_at, OnFalse_from, OnTrue_at}
use Rattle.std.specs.Option.{option_copied}
use Rattle.aas_model.specs.declared.element.Element.{Element, out-Element}
use Rattle.aas_constraint_rules.specs.Sites.{step_to}
use Rattle.aas_constraint_rules.specs.Rules.{is_repeat, name_of}
use Rattle.aas_constraint_rules.specs.Faults.{fault}
use Rattle.aas_json_table.specs.Rows.{first_of}
use Rattle.aas_constraint_rules.proofs.Elements.{under_fault}
use Rattle.aas_constraint_parts.specs.Repeats.{HasTexts}
use Rattle.aas_constraint_rules.specs.Sites.{own_of}
use Rattle.aas_constraints.specs.Walk.{above_of, Knows, found_among}
use Rattle.aas_constraints.proofs.Lists.{taken_map}
use Rattle.aas_constraints.proofs.Walks.{turn, found_here, found_below, found_child, none_in_child, ended, lead_next, no_repeat_at}
use Rattle.aas_constraints.proofs.check.+check.Goals as goal
use Rattle.aas_constraints.proofs.check.+check.Goals.{check_among-then-not-differ+in_ok-is_repeat, check_among-else-not-differ}
use Rattle.aas_constraints.proofs.check.+check.Goals.{check_among-In_ok-fault}

pub check_in-returns-in-Some : goal.check_in-returns-in-Some
check_in-returns-in-Some t c = λ b knows.
    ap Some c.fault_here.ensures ∙ found_here c.args.scope c.args.in_template (above_of c.args.above) b c.args.e.now c.in-Some.number (sym c.in-Some.is ∙ c.in_ok-number.ensures b knows)

pub check_in-returns-in_ok-check_among-in-None : goal.check_in-returns-in_ok-check_among-in-None
check_in-returns-in_ok-check_among-in-None t c = λ b knows.
    c.in_ok-check_among-in-None.ensures ∙ found_below c.args.scope c.args.in_template (above_of c.args.above) b c.args.e.now (sym c.in-None.is ∙ c.in_ok-number.ensures b knows)

-- from the child at a place on, what is found in it is what counts first
turned : (t : _) (c : check_among-In_ok-fault t)
    → found_among c.args.scope c.args.in_template (above_of c.args.above) [] c.as_slice-kid-items.result.now
    ≡ first_of
    (option_map (under_fault (step_to (above_of c.args.above) c.loop-place.place (own_of c.kid-item.result)))
    c.in_ok-fault.field-0)
    (found_among c.args.scope c.args.in_template (above_of c.args.above)
    (map own_of (take (c.loop-place.place + 1) c.as_slice-kid-items.result.now))
    (drop (c.loop-place.place + 1) c.as_slice-kid-items.result.now))
turned t c =
    let ks = c.as_slice-kid-items.result.now in
    let i = c.loop-place.place in
    let k : Element = c.kid-item.result in
    let a = above_of c.args.above in
    let b = map own_of (take i ks) in
    let lt : i < length ks = omega arith in
    let at : k ≡ get_or ks i k = ap (λ (x : Element). x) c.kid-item.is in
    let same = c.as_slice.ensures ∙ sym c.as_slice-kid-items.ensures in
    let again : c.if-not-differ.is_repeat ≡ is_repeat b (name_of (own_of k)) = elim c.if-not-differ.branch [
      | check_among-then-not-differ+in_ok-is_repeat w ↦
          w.is_repeat-is ∙ w.in_ok-is_repeat.ensures.again b (OnFalse_at w.if-not-differ.true c.loop-place.invariant.names)
      | check_among-else-not-differ w ↦
          let apart = OnTrue_at w.if-not-differ.false c.names_rise-differ.ensures in
          w.is_repeat-is ∙ ap not w.if-not-differ.false ∙ sym (no_repeat_at _ ks i k lt at same apart)
    ] in
    let knows : Knows b (out-Element k).common.id_short c.if-not-differ.is_repeat (option_copied c.loop-place.lead) =
    record { names = again; semantics = c.loop-place.invariant.lead } in
    turn c.args.scope c.args.in_template a (found_among c.args.scope c.args.in_template a [] ks) ks i k lt at
    c.loop-place.invariant.rest
    ∙ ap (λ f. first_of (option_map (under_fault (step_to a i (own_of k))) f)
    (found_among c.args.scope c.args.in_template a (map own_of (take (i + 1) ks)) (drop (i + 1) ks)))
    (sym (c.in_ok-fault.ensures b knows))

pub check_among-returns-in-Some : goal.check_among-returns-in-Some
check_among-returns-in-Some t c =
    let a = above_of c.args.above in
    ap (λ p. Some (fault p c.in-Some.fault.number))
    (c.in_ok-insert.ensures.ok ∙ ap (λ s. s ∷ c.in-Some.fault.path.steps) c.in_ok-step_to.ensures)
    ∙ found_child _ _ _ (step_to a c.loop-place.place (own_of c.kid-item.result)) c.in-Some.fault
    (turned t (goal.at.check_among-returns-in-Some t c).In_ok-fault) (sym c.in-Some.is)
    ∙ ap (found_among c.args.scope c.args.in_template a []) c.as_slice-kid-items.ensures

pub check_among-returns : goal.check_among-returns
check_among-returns t c =
    let ks = c.as_slice-kid-items.result.now in
    let a = above_of c.args.above in
    ended c.args.scope c.args.in_template a (found_among c.args.scope c.args.in_template a [] ks) (map own_of (take c.loop-place.place ks)) ks c.loop-place.place c.loop-place-test.false c.loop-place.invariant.rest
    ∙ ap (found_among c.args.scope c.args.in_template a []) c.as_slice-kid-items.ensures

pub check_among-loop-place-preserved : goal.check_among-loop-place-preserved
check_among-loop-place-preserved t c =
    let ks = c.as_slice-kid-items.result.now in
    let i = c.loop-place.place in
    let k : Element = c.kid-item.result in
    let b = map own_of (take i ks) in
    let lt : i < length ks = omega arith in
    let at : k ≡ get_or ks i k = ap (λ (x : Element). x) c.kid-item.is in
    record {
      names = OnFalse_from _ _ (λ no. elim c.if-not-differ.branch [
        | check_among-then-not-differ+in_ok-is_repeat w ↦
            subst (λ set. HasTexts set (filter_map name_of (map own_of (take (i + 1) ks)))) (sym w.names-is)
            (subst (λ bs. HasTexts w.meet_name.new.set (filter_map name_of bs)) (sym (taken_map own_of ks i k lt at))
            (w.in_ok-is_repeat.ensures.has b (own_of k) refl (OnFalse_at no c.loop-place.invariant.names)))
        | check_among-else-not-differ w ↦ absurd (both_ways _ no w.if-not-differ.false)
      ]);
      lead = c.first_semantics-lead.ensures ∙ lead_next ks i k (option_copied c.loop-place.lead) lt at c.loop-place.invariant.lead;
      rest = none_in_child _ _ _ (step_to (above_of c.args.above) i (own_of k))
          (turned t (goal.at.check_among-loop-place-preserved t c).In_ok-fault) (sym c.in_default.is);
    }
