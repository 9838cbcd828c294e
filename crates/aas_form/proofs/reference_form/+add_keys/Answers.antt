use Rattle.std.proofs.Common.{◌≡◌, ◌++◌, ◌∷◌, [], Bool, ap, sym, subst, ◌∙◌, arith}
use Rattle.std.specs.Prelude.{IfSome}
use Rattle.aas_model.specs.declared.element.Element.{Element}
use Rattle.aas_model.specs.declared.reference.Key.{Key}
use Rattle.aas_path_trees.specs.Children.{kids_of}
use Rattle.aas_path_trees.specs.ElementAt.{place_of}
use Rattle.aas_path_trees.proofs.OnePath.{child_at}
use Rattle.aas_form.specs.ReferenceTo.{element_key, keys_in}
use Rattle.aas_form.proofs.Keys.{no_keys_left, no_place, no_child, no_step, one_step}
use Rattle.aas_form.proofs.reference_form.+add_keys.Goals as goal

pub returns-in_default : goal.returns-in_default
returns-in_default t c = no_keys_left c.args.in_list c.args.path.now c.args.kids.now c.args.keys.now c.in_default.ensures.cases

pub returns-in_default-place_of : goal.returns-in_default-place_of
returns-in_default-place_of t c =
    let l = c.args.in_list in
    let s = c.in-Some.step.now in
    let ks = c.args.kids.now in
    let none = ap (place_of l s) (sym c.as_slice.ensures) ∙ sym c.in_default-place_of.ensures in
    no_step l c.args.path.now s c.in-Some.rest.now ks (λ more. c.args.keys.now ≡ c.args.keys.now ++ more) c.in-Some.ensures.cases.0 (no_place l s ks none)

pub returns-in_default-get : goal.returns-in_default-get
returns-in_default-get t c =
    let l = c.args.in_list in
    let s = c.in-Some.step.now in
    let ks = c.args.kids.now in
    let at = ap (place_of l s) (sym c.as_slice.ensures) ∙ sym c.in-Some-place_of.ensures in
    no_step l c.args.path.now s c.in-Some.rest.now ks (λ more. c.args.keys.now ≡ c.args.keys.now ++ more) c.in-Some.ensures.cases.0
    (no_child l s ks c.in-Some-place_of.place at (sym c.in_default-get.ensures))

pub add_keys-requires : goal.add_keys-requires
add_keys-requires t c = let shorter = c.in-Some.ensures.cases.1 in let measured = c.decreases in (omega arith, tt)

pub returns : goal.returns
returns t c =
    let l = c.args.in_list in
    let s = c.in-Some.step.now in
    let p = c.in-Some.rest.now in
    let ks = c.args.kids.now in
    let k : Element = c.in-Some-get.kid.now in
    let i = c.in-Some-place_of.place in
    let at = ap (place_of l s) (sym c.as_slice.ensures) ∙ sym c.in-Some-place_of.ensures in
    let key : c.push.new.self ≡ c.args.keys.now ++ element_key l (i, k) ∷ [] =
    c.in_ok-push.ensures.ok ∙ ap (λ (x : Key). c.args.keys.now ++ x ∷ []) c.in_ok-element_key.ensures in
    let below =
    subst (λ (b : Bool). IfSome (keys_in b p (kids_of k)) (λ more. c.add_keys.new.keys ≡ c.push.new.self ++ more)) c.is_list.ensures c.in_ok-add_keys.ensures in
    one_step l c.args.path.now s p ks (i, k) c.args.keys.now c.push.new.self c.add_keys.new.keys c.in-Some.ensures.cases.0
    (child_at l s ks i k at (sym c.in-Some-get.ensures)) key below
