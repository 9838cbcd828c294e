use Rattle.std.proofs.Common.{◌≡◌, false, [], ◌∷◌, codes, decimal, sym, ap, ◌∙◌, lit<}
use Rattle.std.specs.Str.{chars}
use Rattle.aas_server.specs.CommandLine.{begins_with_dash}
use Rattle.aas_server.proofs.Words.{no_option_in_three, no_options}
use Rattle.aas_server.proofs.command_line.with_two.Goals as goal

pub returns-in-Some : goal.returns-in-Some
unfolding chars
returns-in-Some c =
    let word : c.args.word.now ≡ codes "serve" = sym c.as_str.ensures.characters ∙ ap chars c.in-serve.is in
    let count : c.args.second.now ≡ decimal c.in-Some.count = c.in-Some.ensures.1 in
    let words : c.args.word.now ∷ c.args.first.now ∷ c.args.second.now ∷ []
    ≡ codes "serve" ∷ c.args.first.now ∷ decimal c.in-Some.count ∷ [] = cc in
    let first : begins_with_dash c.args.first.now ≡ false = sym c.is_option.ensures ∙ c.if-is_option.false in (
      (c.in-Some.ensures.0, (c.args.first.now, words)),
      no_options c.args.word.now c.args.first.now c.args.second.now c.in-Some.count 1000000
          (lit< tt) (ap begins_with_dash word) first c.in-Some.ensures.0 count,
    )

pub returns-in-conform : goal.returns-in-conform
unfolding chars
returns-in-conform c =
    let word : c.args.word.now ≡ codes "conform" = sym c.as_str.ensures.characters ∙ ap chars c.in-conform.is in
    let words : c.args.word.now ∷ c.args.first.now ∷ c.args.second.now ∷ []
    ≡ codes "conform" ∷ c.args.first.now ∷ c.args.second.now ∷ [] = cc in
    let first : begins_with_dash c.args.first.now ≡ false = sym c.is_option.ensures ∙ c.if-is_option.false in
    let second : begins_with_dash c.args.second.now ≡ false =
    sym c.is_option-else-is_option.ensures ∙ c.if-is_option-2.false in (
      words,
      no_option_in_three c.args.word.now c.args.first.now c.args.second.now (ap begins_with_dash word) first second,
    )
