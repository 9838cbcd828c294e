-- The three interfaces of the repository, each for documents of one type (IDTA-01002-3-0): which documents, and what is
-- done to one and asked of one and of all.
use Rattle.std.specs.Prelude.{ℕ, List}
use Rattle.aas_json_spelling.specs.Spells.{Trees}
use Rattle.aas_json_mapping.specs.Trees.{concepts, shells, submodels}
use Rattle.aas_model.specs.declared.documents.Concept.{Concept}
use Rattle.aas_model.specs.declared.documents.Shell.{Shell}
use Rattle.aas_model.specs.declared.documents.Submodel.{Submodel}
use Rattle.aas_command.specs.declared.command.Command.{Command}
use Rattle.aas_command.specs.declared.command.Command.TheVariants.{CreateShell, CreateSubmodel, CreateConcept}
use Rattle.aas_command.specs.declared.command.Command.TheVariants.{ReplaceShell, ReplaceSubmodel, ReplaceConcept}
use Rattle.aas_command.specs.declared.command.Command.TheVariants.{DeleteShell, DeleteSubmodel, DeleteConcept}
use Rattle.aas_question.specs.declared.question.Question.{Question}
use Rattle.aas_question.specs.declared.question.Question.TheVariants as question
use Rattle.aas_target.specs.Given.{extent_of, level_of, selection_of}
use Rattle.aas_target.specs.declared.given.Given.{Given}

pub record Interface (D : Type 0) : Type 1 where
  pub documents : Trees D
  pub id_of : D → List ℕ
  pub create : D → Command
  pub replace : D → Command
  pub delete : List ℕ → Command
  pub list : Given → Question
  pub get : List ℕ → Given → Question

abbrev pub shell_interface : Interface Shell
shell_interface = record {
  documents = shells;
  id_of = λ d. d.head.id;
  create = CreateShell;
  replace = ReplaceShell;
  delete = DeleteShell;
  list = λ g. question.Shells (selection_of g);
  get = λ id g. question.Shell id;
}

abbrev pub submodel_interface : Interface Submodel
submodel_interface = record {
  documents = submodels;
  id_of = λ d. d.head.id;
  create = CreateSubmodel;
  replace = ReplaceSubmodel;
  delete = DeleteSubmodel;
  list = λ g. question.Submodels (selection_of g) (level_of g) (extent_of g);
  get = λ id g. question.Submodel id (level_of g) (extent_of g);
}

abbrev pub concept_interface : Interface Concept
concept_interface = record {
  documents = concepts;
  id_of = λ d. d.head.id;
  create = CreateConcept;
  replace = ReplaceConcept;
  delete = DeleteConcept;
  list = λ g. question.Concepts (selection_of g);
  get = λ id g. question.Concept id;
}
