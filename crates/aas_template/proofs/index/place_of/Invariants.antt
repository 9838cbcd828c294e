use Rattle.std.proofs.Common.{length}
use Rattle.std.specs.Str.{IsUtf8, chars}
use Rattle.aas_constraint_rules.specs.Sites.{own_of}
use Rattle.aas_template.specs.Index.{Cut, name_of}
use Rattle.aas_template.proofs.Owners.{NoneLonger}
use Rattle.aas_template.proofs.index.place_of.Given as goal

abbrev pub invariant-cuts : goal.invariant-cuts
invariant-cuts l = record {
  utf8 : IsUtf8 l.rest;
  cut : Cut (name_of l.instance) (chars l.rest);
  longest : NoneLonger l.templates (own_of l.instance) (length (chars l.rest));
}

abbrev pub decreases-cuts : goal.decreases-cuts
decreases-cuts l = length (chars l.rest)
