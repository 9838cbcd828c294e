use Rattle.std.proofs.Common.{subst, sym, List, ℕ, Some, ◌∷◌, []}
use Rattle.std.proofs.lemmas.Str.{encodes-chars}
use Rattle.serde_json.specs.Data.{string}
use Rattle.serde_json.specs.Written.{compact_text}
use Rattle.aas_json_write_members.specs.Keys.{name_in}
use Rattle.aas_json_write_members.specs.Puts.{PutsFields}
use Rattle.aas_json_write_members.proofs.pen.put_characters.Goals as goal

pub returns : goal.returns
returns g c =
    subst (λ (t : List ℕ). PutsFields c.args.pen c.put_string.result (g.O.TextEnd.told c.args.out.now)
    (g.O.TextEnd.told c.put_string.new.out) ((name_in c.args.key.now, Some (compact_text (string t))) ∷ []))
    (sym (encodes-chars c.args.text.now c.utf8.text)) c.put_string.ensures
