use Rattle.std.proofs.Common.{◌-◌, ap, sym, ◌∙◌, arith}
use Rattle.aas_json_mapping.specs.Whole.{is_whole_child}
use Rattle.aas_json_whole.specs.Children.{elements_left}
use Rattle.aas_json_whole.proofs.Within.{by_children, disordered, lacking, none_left}
use Rattle.aas_json_whole.proofs.children.+element.Goals as goal

pub is_whole_child-returns-then-left-eq0 : goal.is_whole_child-returns-then-left-eq0
is_whole_child-returns-then-left-eq0 t c =
    sym (none_left c.args.element.now)
    ∙ ap (λ n. is_whole_child (elements_left n) c.args.element.now) (sym c.if-left-eq0.true)

pub is_whole_child-returns-then-not-has_whole_attributes : goal.is_whole_child-returns-then-not-has_whole_attributes
is_whole_child-returns-then-not-has_whole_attributes t c =
    sym (lacking c.args.element.now c.args.left
    (sym c.has_whole_attributes.ensures ∙ c.if-not-has_whole_attributes.true))

pub is_whole_child-returns-then-not-roles_rise : goal.is_whole_child-returns-then-not-roles_rise
is_whole_child-returns-then-not-roles_rise t c =
    sym (disordered c.args.element.now c.args.left (c.args.left - 1) (omega arith)
    (sym c.has_whole_attributes.ensures ∙ c.if-not-has_whole_attributes.false)
    (sym c.roles_rise.ensures ∙ c.if-not-roles_rise.true))

pub is_whole_child-returns : goal.is_whole_child-returns
is_whole_child-returns t c =
    c.are_whole_below.ensures
    ∙ by_children c.args.element.now c.args.left (c.args.left - 1) (omega arith)
    (sym c.has_whole_attributes.ensures ∙ c.if-not-has_whole_attributes.false)
    (sym c.roles_rise.ensures ∙ c.if-not-roles_rise.false)
