use Rattle.std.proofs.Common.{◌≡◌, Some, slice_get}
use Rattle.aas_store.specs.Spots.{elements_of_all}
use Rattle.aas_store.specs.declared.lack.Lack.TheVariants.{NoElement, NoSubmodel}
use Rattle.aas_store.proofs.Paths.{is_not_missing, leads_nowhere}
use Rattle.aas_sheet_rows.proofs.Copied.{copied, no_other_lack, rank_within}
use Rattle.aas_sheet_rows.proofs.sheet.Sheet.element.Goals as goal

pub copy_of_rank-requires : goal.copy_of_rank-requires
copy_of_rank-requires c = rank_within c.args.self.now c.args.path.now.steps c.in-Ok.rank c.in-Ok.ensures.value

pub returns-in-Ok-clause-found : goal.returns-in-Ok-clause-found
returns-in-Ok-clause-found c =
    copied c.args.self.now c.args.path.now.steps c.in-Ok.rank
    c.in-Ok.ensures.value c.copy_of_rank.result c.copy_of_rank.ensures

pub returns-in-Ok-clause-there : goal.returns-in-Ok-clause-there
returns-in-Ok-clause-there c =
    no_other_lack c.copy_of_rank.result (λ e. slice_get (elements_of_all c.args.self.now.kids) c.in-Ok.rank ≡ Some e)
    NoSubmodel c.copy_of_rank.ensures (λ e. cc)

pub returns-in-Ok-clause-no_element : goal.returns-in-Ok-clause-no_element
returns-in-Ok-clause-no_element c = λ m.
    is_not_missing c.args.self.now c.args.path.now.steps c.in-Ok.rank m c.copy_of_rank.result c.in-Ok.ensures.value
    (no_other_lack c.copy_of_rank.result (λ e. slice_get (elements_of_all c.args.self.now.kids) c.in-Ok.rank ≡ Some e)
    (NoElement m) c.copy_of_rank.ensures (λ e. cc))

pub returns-in-Err-clause-no_element : goal.returns-in-Err-clause-no_element
returns-in-Err-clause-no_element c = λ m.
    leads_nowhere c.args.self.now c.args.path.now.steps c.in-Err.missing.steps
    m c.in-Err.ensures.missing.0 c.in-Err.ensures.missing.1
