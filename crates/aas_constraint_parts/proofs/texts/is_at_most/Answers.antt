use Rattle.std.proofs.Common.{◌≡◌, length, chars, rules, nat_le, ap}
use Rattle.std.proofs.lemmas.Str.{chars_from_encodes}
use Rattle.aas_constraint_parts.proofs.texts.is_at_most.Goals as goal

pub returns : goal.returns
returns c = let counted : c.count.result ≡ length (chars c.args.text.now) = search (rules, chars_from_encodes) in ap (λ n. nat_le n c.args.count) counted
