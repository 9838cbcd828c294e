use Rattle.std.proofs.Common.{codes, refl, sym, ap, ◌∙◌}
use Rattle.std.specs.Str.{chars}
use Rattle.aas_server.proofs.Words.{lone_word}
use Rattle.aas_server.proofs.command_line.lone.Goals as goal

pub returns-in-value : goal.returns-in-value
unfolding chars
returns-in-value c =
    lone_word c.args.word.now (codes "value") (sym c.as_str.ensures.characters ∙ ap chars c.in-value.is) refl

pub returns-in-pipe : goal.returns-in-pipe
unfolding chars
returns-in-pipe c =
    lone_word c.args.word.now (codes "pipe") (sym c.as_str.ensures.characters ∙ ap chars c.in-pipe.is) refl

pub returns-in-init : goal.returns-in-init
unfolding chars
returns-in-init c =
    lone_word c.args.word.now (codes "init") (sym c.as_str.ensures.characters ∙ ap chars c.in-init.is) refl

pub returns-in-check : goal.returns-in-check
unfolding chars
returns-in-check c =
    lone_word c.args.word.now (codes "check") (sym c.as_str.ensures.characters ∙ ap chars c.in-check.is) refl

pub returns-in-export : goal.returns-in-export
unfolding chars
returns-in-export c =
    lone_word c.args.word.now (codes "export") (sym c.as_str.ensures.characters ∙ ap chars c.in-export.is) refl

pub returns-in-import : goal.returns-in-import
unfolding chars
returns-in-import c =
    lone_word c.args.word.now (codes "import") (sym c.as_str.ensures.characters ∙ ap chars c.in-import.is) refl

pub returns-in-checkpoint : goal.returns-in-checkpoint
unfolding chars
returns-in-checkpoint c =
    lone_word c.args.word.now (codes "checkpoint") (sym c.as_str.ensures.characters ∙ ap chars c.in-checkpoint.is) refl
