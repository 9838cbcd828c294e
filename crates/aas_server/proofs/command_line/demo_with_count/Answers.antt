use Rattle.std.proofs.Common.{◌≡◌, [], ◌∷◌, codes, decimal, sym, ap, ◌∙◌, rules, lit<}
use Rattle.std.specs.Str.{chars}
use Rattle.aas_server.specs.CommandLine.{begins_with_dash}
use Rattle.aas_server.proofs.Words.{no_option_in_two}
use Rattle.aas_server.proofs.command_line.demo_with_count.Goals as goal

pub returns-in-Some : goal.returns-in-Some
unfolding chars
returns-in-Some c =
    let read : c.as_str.result.now ≡ codes "demo" = search rules in
    let word : c.args.word.now ≡ codes "demo" = sym c.as_str.ensures.characters ∙ ap chars read in
    let count : c.args.count.now ≡ decimal c.in-Some.count = c.in-Some.ensures.1 in
    let words : c.args.word.now ∷ c.args.count.now ∷ [] ≡ codes "demo" ∷ decimal c.in-Some.count ∷ [] = cc in (
      (c.in-Some.ensures.0, words),
      no_option_in_two c.args.word.now c.args.count.now c.in-Some.count 65536
          (lit< tt) (ap begins_with_dash word) c.in-Some.ensures.0 count,
    )
