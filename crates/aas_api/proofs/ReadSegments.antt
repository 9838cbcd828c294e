-- What is asked by segments that were read.
use Rattle.std.proofs.Common.{inl, inr, ℕ, List}
use Rattle.percent_encoding.specs.Percent.{percent_decode}
use Rattle.aas_model.specs.declared.path.Path.{Path}
use Rattle.aas_path.specs.PathText.{IsPath}
use Rattle.aas_question.specs.declared.question.Question.{Question}
use Rattle.aas_page.specs.Segment.{StandsFor}
use Rattle.aas_target.specs.Routes.{Texts}
use Rattle.aas_target.specs.declared.given.Given.{Given}
use Rattle.aas_target.specs.declared.routes.Resource.{Resource}
use Rattle.aas_api.specs.Asked.{Asked, AtElement, ById, OrNoMemory, Shows}

-- by an identifier
pub by_id : (segment : List ℕ) (Asks : List ℕ → Asked → Type 0) (id : List ℕ) → StandsFor segment id → (asked : Asked)
    → OrNoMemory (Asks id) asked → OrNoMemory (ById segment Asks) asked
by_id segment Asks id stands asked (inl none) = inl none
by_id segment Asks id stands asked (inr asks) = inr (inl (id, stands, asks))

-- a question, by the path of an element too
pub shown_at : (t : Texts) (resource : Resource) (query : List ℕ)
    (ask : List ℕ → Path → Given → Question) (id : List ℕ) (path : Path)
    → StandsFor t.id id → IsPath (percent_decode t.path) path.steps → (asked : Asked)
    → OrNoMemory (Shows resource query (ask id path)) asked
    → OrNoMemory (AtElement t (λ i p. Shows resource query (ask i p))) asked
shown_at t resource query ask id path stands writes asked (inl none) = inl none
shown_at t resource query ask id path stands writes asked (inr shows) =
    inr (inl (id, stands, inl (path, writes, shows)))
