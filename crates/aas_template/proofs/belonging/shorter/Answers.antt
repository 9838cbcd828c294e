use Rattle.std.proofs.Common.{◌≡◌, ◌++◌, ◌∙◌, length, sym, ap}
use Rattle.std.specs.Char.{encode_utf8}
use Rattle.std.specs.Str.{chars}
use Rattle.aas_template.proofs.Texts.{cut_text, ends_empty, ends_so}
use Rattle.aas_template.proofs.belonging.shorter.Goals as goal

pub returns-then-is_numbering-clause-text : goal.returns-then-is_numbering-clause-text
returns-then-is_numbering-clause-text c = c.as_str-rest.utf8

pub returns-then-is_numbering-clause-cut : goal.returns-then-is_numbering-clause-cut
returns-then-is_numbering-clause-cut c =
    let text = c.args.text.now in
    let rest = c.as_str-rest.result.now in
    let is : text ≡ rest ++ encode_utf8 c.in-Some.last =
    sym c.chars-characters.ensures.rest ∙ c.in-Some.ensures.steps ∙ ap (λ r. r ++ encode_utf8 c.in-Some.last) (sym c.as_str-rest.ensures) in
    record {
      last = c.in-Some.last;
      is = cut_text text rest c.in-Some.last c.utf8.text c.as_str-rest.utf8 is;
      numbers = sym c.is_numbering.ensures ∙ c.if-is_numbering.true;
    }

pub returns-else-is_numbering-clause-cut : goal.returns-else-is_numbering-clause-cut
returns-else-is_numbering-clause-cut c =
    let text = c.args.text.now in
    let rest = c.as_str-rest.result.now in
    let is : text ≡ rest ++ encode_utf8 c.in-Some.last =
    sym c.chars-characters.ensures.rest ∙ c.in-Some.ensures.steps ∙ ap (λ r. r ++ encode_utf8 c.in-Some.last) (sym c.as_str-rest.ensures) in
    ends_so (chars text) (chars rest) c.in-Some.last (cut_text text rest c.in-Some.last c.utf8.text c.as_str-rest.utf8 is)
    (sym c.is_numbering.ensures ∙ c.if-is_numbering.false)

pub returns-in-None-clause-cut : goal.returns-in-None-clause-cut
returns-in-None-clause-cut c = ends_empty c.args.text.now (ap length (sym c.chars-characters.ensures.rest) ∙ c.in-None.ensures.steps.0)
