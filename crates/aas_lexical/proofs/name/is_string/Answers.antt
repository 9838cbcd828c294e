use Rattle.std.proofs.Common.{◌≡◌, rules, tests}
use Rattle.std.proofs.lemmas.Iterator.{YieldsList-from_chars}
use Rattle.std.proofs.lemmas.Iterator.Search.{all_from_yields_List}
use Rattle.std.specs.List.{list_all}
use Rattle.std.specs.Str.{chars}
use Rattle.aas_lexical.specs.Names.{is_string_character}
use Rattle.aas_lexical.proofs.name.is_string.Goals as goal

pub returns : goal.returns
returns c =
    let same : c.all.result ≡ list_all is_string_character (chars c.args.text.now) =
    all_from_yields_List is_string_character _ _ c.all.result c.all.ensures.ran (YieldsList-from_chars c.args.text.now c.utf8.text (cc)) (λ x b q k. search (rules, tests)) in
    rw same (search rules)
