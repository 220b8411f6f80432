use Rattle.std.proofs.Common.{rules}
use Rattle.segment_join.proofs.Visiting.{page_of_both, page_of_one, page_of_other}
use Rattle.segment_join.proofs.sameness.written_after.Goals as goal

pub returns-in-Some-Some : goal.returns-in-Some-Some
returns-in-Some-Some c =
    page_of_both c.args.one.now.held c.args.other.now.held c.args.after c.in-Some-Some.own c.in-Some-Some.others c.min.result c.in-Some-Some.ensures
    c.in-Some-Some.ensures' c.min.ensures

pub returns-in-Some-None : goal.returns-in-Some-None
returns-in-Some-None c =
    page_of_one c.args.one.now.held c.args.other.now.held c.args.after c.in-Some-None.own c.in-Some-None.ensures c.in-Some-None.ensures'

pub returns-in-None-default : goal.returns-in-None-default
returns-in-None-default c = search (rules, page_of_other)
