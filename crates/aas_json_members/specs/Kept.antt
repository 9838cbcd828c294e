-- The members of kept data.
use Rattle.std.specs.Prelude.{List, [], ◌∷◌}
use Rattle.std.specs.Str.{encode_utf8_all}
use Rattle.serde_json.specs.Data.{Members, member}
use Rattle.aas_model.specs.declared.plain.PlainPair.{PlainPair}
use Rattle.aas_json_spelling.specs.Kept.{spell_plain}

-- pairs, each spelled as a member, before other members
abbrev pub pairs_onto : List PlainPair → Members → Members
pairs_onto [] rest = rest
pairs_onto (p ∷ ps) rest = member (encode_utf8_all p.name) (spell_plain p.value) (pairs_onto ps rest)
