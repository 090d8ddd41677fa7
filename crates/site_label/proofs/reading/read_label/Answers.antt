use Rattle.std.proofs.Common.{sym, ◌∙◌, subst, List, ℕ}
use Rattle.site_label.specs.declared.half.Half.TheVariants.{Second}
use Rattle.site_label.specs.Reading.{IsHalf}
use Rattle.site_label.proofs.Halves.{counted_is, none_counted}
use Rattle.site_label.proofs.reading.read_label.Goals as goal

pub returns-in-Some-clause-counted : goal.returns-in-Some-clause-counted
returns-in-Some-clause-counted g c =
    let second = subst (λ (l : List ℕ). IsHalf c.args.site Second l c.in_ok-second.second) c.in_ok-first.ensures.seen c.in_ok-second.ensures.read in
    counted_is c.args.site (g.D.Disk.moment c.args.disk.now).seen c.in_ok-first.first c.in_ok-second.second c.in-Some.counted c.in_ok-first.ensures.read second (sym c.choose.ensures ∙ c.in-Some.is)

pub returns-in-None-clause-fault : goal.returns-in-None-clause-fault
returns-in-None-clause-fault g c boot has =
    let second = subst (λ (l : List ℕ). IsHalf c.args.site Second l c.in_ok-second.second) c.in_ok-first.ensures.seen c.in_ok-second.ensures.read in
    none_counted c.args.site (g.D.Disk.moment c.args.disk.now).seen c.in_ok-first.first c.in_ok-second.second c.in_ok-first.ensures.read second (sym c.choose.ensures ∙ c.in-None.is) boot has
