use Rattle.std.proofs.Common.{ℕ, List, sym, subst}
use Rattle.site_place.specs.Standing.{IsWhole}
use Rattle.site_place.specs.Counts.{armed_by_script}
use Rattle.site_place.proofs.Arming.{settled_same, runs_same, waits_again}
use Rattle.site_place.proofs.place.SitePlace.arm.Goals as goal

pub invariant_of-self : goal.invariant_of-self
invariant_of-self c =
    let p = c.self.inside in
    let old = p.disk.disk in
    let new = c.arm.new.self.disk in
    let is = c.self.invariant in
    let same = c.arm.ensures.bytes in
    record {
      settled = settled_same old new same is.settled;
      whole = subst (λ (l : List ℕ). IsWhole p.config p.me l) (sym same.read) is.whole;
      script = waits_again old.script new.script (armed_by_script p.armed) c.args.script is.script c.arm.ensures.script;
      node = runs_same p.config p.me p.node old new same is.node;
    }
