use Rattle.std.proofs.Common.{ℕ, List, rules}
use Rattle.aas_model.specs.declared.path.Path.{Path}
use Rattle.aas_question.specs.declared.question.Question.{Question}
use Rattle.aas_question.specs.declared.question.Question.TheVariants as question
use Rattle.aas_target.specs.Given.{extent_of, level_of}
use Rattle.aas_target.specs.Seen.{texts_of}
use Rattle.aas_target.specs.declared.given.Given.{Given}
use Rattle.aas_target.specs.declared.routes.Resource.TheVariants as resource
use Rattle.aas_api.proofs.ReadSegments.{shown_at}
use Rattle.aas_api.proofs.elements.get_element.Goals as goal

abbrev ask : List ℕ → Path → Given → Question
ask id path given = question.Element id path (level_of given) (extent_of given)

pub returns-in_err-shown : goal.returns-in_err-shown
returns-in_err-shown c =
    shown_at (texts_of c.args.texts) resource.Element c.args.query.now
    ask c.in_ok-id.id c.in_ok-path.path c.in_ok-id.ensures.ok
    c.in_ok-path.ensures.ok c.from_residual-in_err-shown.result (search rules)

pub returns : goal.returns
returns c =
    shown_at (texts_of c.args.texts) resource.Element c.args.query.now
    ask c.in_ok-id.id c.in_ok-path.path c.in_ok-id.ensures.ok
    c.in_ok-path.ensures.ok _ (search rules)
