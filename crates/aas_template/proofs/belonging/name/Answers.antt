use Rattle.std.proofs.lemmas.Str.{chars-nil}
use Rattle.std.proofs.Common.{rules}
use Rattle.aas_template.proofs.belonging.name.Goals as goal

pub returns-in-None-clause-characters : goal.returns-in-None-clause-characters
returns-in-None-clause-characters c = search (rules, chars-nil)
