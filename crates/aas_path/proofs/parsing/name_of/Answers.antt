use Rattle.std.proofs.Common.{◌≡◌, IfOk, chars, ap, ◌∙◌, subst}
use Rattle.std.proofs.lemmas.Str.{chars-IsAscii}
use Rattle.aas_lexical.proofs.NamesAscii.{name_ascii}
use Rattle.aas_path.proofs.parsing.name_of.Goals as goal

pub returns-in-Ok : goal.returns-in-Ok
returns-in-Ok c =
    let name = c.args.name.now in
    subst (λ x. IfOk c.from_str.result (λ text. text ≡ x)) (ap chars c.in-Ok.ensures.cases.0 ∙ chars-IsAscii name (name_ascii name c.requires.0)) c.from_str.ensures.characters
