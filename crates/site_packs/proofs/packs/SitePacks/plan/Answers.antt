use Rattle.std.proofs.Common.{refl}
use Rattle.site_packs.proofs.Behind.{has_place, no_group}
use Rattle.site_packs.proofs.packs.SitePacks.plan.Goals as goal

pub returns-in_default-clause-none : goal.returns-in_default-clause-none
returns-in_default-clause-none c = λ fit. no_group c.args.file.group c.args.self.now.packs c.in_default.ensures.none fit.group

pub returns-clause-some : goal.returns-clause-some
returns-clause-some c =
    let range = c.in-Some-new.ensures.some.0 refl in
    record {
      inside = c.in-Some.ensures.inside;
      place = c.in-Some.ensures.some;
      own = c.in-Some-new.ensures.value;
      whole = record {
        group = has_place c.args.file.group c.args.self.now.packs c.in-Some.at c.in-Some.ensures.inside c.in-Some.ensures.some;
        low = range.0;
        high = range.1;
        version = c.is_version.ensures.0 c.if-not-is_version.false;
      };
    }
