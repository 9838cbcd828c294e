use Rattle.std.proofs.Common.{lit<}
use Rattle.std.proofs.lemmas.Str.Pattern.{starts_char}
use Rattle.aas_server.proofs.Words.{dash}
use Rattle.aas_server.proofs.command_line.is_option.Goals as goal

pub returns : goal.returns
returns c = dash c.args.word.now c.as_str.result.now c.starts_with.result c.as_str.ensures.bytes
    (starts_char 45 c.as_str.result.now c.starts_with.result c.starts_with.ensures.cases (lit< tt) (lit< tt))
