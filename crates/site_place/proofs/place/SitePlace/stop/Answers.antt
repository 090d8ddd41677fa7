use Rattle.std.proofs.Common.{ℕ, List, [], ◌∷◌, sym, ◌∙◌, ap, subst}
use Rattle.std.specs.Prelude.{Option}
use Rattle.disk_model.specs.declared.script.Armed.TheVariants.{Nothing}
use Rattle.disk_model.specs.ScriptDisk.{seen, moment}
use Rattle.trace_book.specs.declared.record.Record.{Record}
use Rattle.site_node.specs.declared.node.SiteNode.{SiteNode}
use Rattle.site_place.specs.Standing.{IsWhole, IsRunning, MayRun}
use Rattle.site_place.specs.Views.{armed_in}
use Rattle.site_place.proofs.Arming.{still_waits, stays_stopped}
use Rattle.site_place.proofs.Stopping.{stop_given, stop_nothing}
use Rattle.site_place.proofs.place.SitePlace.stop.Goals as goal

pub returns-in_default : goal.returns-in_default
returns-in_default c = let p = c.self.inside in stop_nothing p.config p.me p.node (seen p.disk.disk) (armed_in p.armed) c.args.self.now c.new.result c.self.view_is c.in_default.is c.new.ensures

pub invariant_of-self : goal.invariant_of-self
invariant_of-self c =
    let p = c.self.inside in
    let now = c.disarm.new.self.disk in
    let is = c.self.invariant in
    record {
      settled = c.disarm.ensures.settled;
      whole = subst (λ (l : List ℕ). IsWhole p.config p.me l) (sym c.disarm.ensures.seen) is.whole;
      script = still_waits now.script Nothing p.disk.disk.script.faults c.disarm.ensures.script;
      node = stays_stopped p.config p.me c.leave.new.node (moment now) c.leave.ensures;
    }

pub invariant_of-self-2 : goal.invariant_of-self-2
invariant_of-self-2 c =
    let p = c.self.inside in
    let now = c.disarm.new.self.disk in
    let is = c.self.invariant in
    record {
      settled = c.disarm.ensures.settled;
      whole = subst (λ (l : List ℕ). IsWhole p.config p.me l) (sym c.disarm.ensures.seen) is.whole;
      script = still_waits now.script Nothing p.disk.disk.script.faults c.disarm.ensures.script;
      node = stays_stopped p.config p.me c.leave.new.node (moment now) c.leave.ensures;
    }

pub returns : goal.returns
returns c =
    let p = c.self.inside in
    let old = p.disk.disk in
    let now = c.disarm.new.self.disk in
    let n = c.in-Some.node in
    let runs : IsRunning p.config p.me n (moment old) = subst (λ (k : Option SiteNode). MayRun p.config p.me k (moment old)) c.in-Some.is c.self.invariant.node in
    stop_given p.config p.me n p.node c.leave.new.node (seen old) (seen now) (armed_in p.armed) c.args.self.now c.in_ok-told.told c.self.view_is c.in-Some.is c.leave.ensures c.disarm.ensures.seen runs.groups runs.label
    (c.gates_are_shut.ensures (seen old) runs.stands.shown)
    (c.in_ok-told.ensures ∙ ap (λ (r : Record). record { packets = []; records = r ∷ [] }) c.stopped.ensures)
