use Rattle.std.proofs.Common.{◌≡◌, List, [], ◌∷◌, ◌++◌, take, get_or, map, Some, refl, sym, ap, ◌∙◌, arith}
use Rattle.aas_constraint_rules.specs.Sites.{own_of, step_to}
use Rattle.aas_constraints.specs.Walk.{above_of}
use Rattle.aas_lemmas.proofs.Lists.{append_one}
use Rattle.aas_model.specs.declared.element.Element.{Element}
use Rattle.aas_model.specs.declared.path.Path.{Path}
use Rattle.aas_path_trees.specs.Children.{kids_of}
use Rattle.aas_form.proofs.Places.{ended, paths_among, paths_out, turn}
use Rattle.aas_form.proofs.path_form.+paths.Goals as goal

pub add_paths-returns : goal.add_paths-returns
add_paths-returns t c = λ u a b.
    let e = c.args.element.now in
    let rest = paths_among c.args.path.steps u (Some (own_of e)) [] (kids_of e) in
    c.in_ok-add_paths_below.ensures u
    ∙ ap (λ (l : List Path). l ++ rest) (c.in_ok-push.ensures.ok ∙ ap (λ q. c.args.paths.now ++ q ∷ []) c.in_ok-copy.ensures)
    ∙ append_one c.args.paths.now c.args.path rest ∙ ap (λ l. c.args.paths.now ++ l) (sym (paths_out c.args.path.steps u a b e))

pub add_paths_below-loop-place-init : goal.add_paths_below-loop-place-init
add_paths_below-loop-place-init t c = λ u. refl

pub add_paths_below-loop-place-preserved : goal.add_paths_below-loop-place-preserved
add_paths_below-loop-place-preserved t c = λ u.
    let ks = c.as_slice-kid-items.result.now in
    let i = c.loop-place.place in
    let k : Element = c.kid-item.result in
    let a = above_of c.args.above in
    let at : k ≡ get_or ks i k = ap (λ (x : Element). x) c.kid-item.is in
    let steps : c.push.new.self ≡ c.args.path.now.steps ++ step_to a i (own_of k) ∷ [] =
    c.in_ok-push.ensures.ok ∙ (λ j. (c.in_ok-below.ensures j).steps ++ c.in_ok-step_to.ensures j ∷ []) in
    turn c.args.paths.now c.loop-place.paths c.add_paths.new.paths c.args.path.now.steps c.push.new.self u a ks i k (omega arith) at steps
    (c.in_ok-add_paths.ensures u a (map own_of (take i ks))) (c.loop-place.invariant u)

pub add_paths_below-returns : goal.add_paths_below-returns
add_paths_below-returns t c = λ u.
    let a = above_of c.args.above in
    ended c.args.paths.now c.loop-place.paths c.args.path.now.steps u a c.as_slice-kid-items.result.now c.loop-place.place
    c.loop-place-test.false (c.loop-place.invariant u)
    ∙ ap (λ (ks : List Element). c.args.paths.now ++ paths_among c.args.path.now.steps u a [] ks) c.as_slice-kid-items.ensures
