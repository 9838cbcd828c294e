use Rattle.std.proofs.Common.{◌∙◌, ◌++◌, ◌∷◌, [], subst, filter_map}
use Rattle.aas_constraint_rules.specs.Rules.{name_of}
use Rattle.aas_constraint_parts.specs.Repeats.{HasTexts}
use Rattle.aas_constraint_parts.proofs.Sets.{has_more, has_same}
use Rattle.aas_constraint_parts.proofs.names.meet_name.Goals as goal

pub returns-in_ok-meet-in-Some-clause-has : goal.returns-in_ok-meet-in-Some-clause-has
returns-in_ok-meet-in-Some-clause-has c = λ b o is has. has_more c.meet.new.set b o c.in-Some.text (is ∙ c.in-Some.is)
    (subst (λ t. HasTexts c.meet.new.set (filter_map name_of b ++ t ∷ [])) c.as_str.ensures.characters (c.in_ok-meet-in-Some.ensures.has (filter_map name_of b) has))

pub returns-in-None-clause-has : goal.returns-in-None-clause-has
returns-in-None-clause-has c = λ b o is has. has_same c.args.set.now b o (is ∙ c.in-None.is) has
