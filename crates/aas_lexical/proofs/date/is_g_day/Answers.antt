use Rattle.aas_lexical_forms.proofs.Cuts.{answered}
use Rattle.aas_lexical.specs.Dates.{g_day}
use Rattle.aas_lexical.specs.Cut.Dates.{after_g_day}
use Rattle.aas_lexical.proofs.DatesExact.{g_day_exact}
use Rattle.aas_lexical.proofs.date.is_g_day.Goals as goal

pub returns : goal.returns
returns c = answered g_day after_g_day c.args.text.now _ c.is_whole.result (g_day_exact c.args.text.now) c.after_g_day.ensures c.is_whole.ensures
