use Rattle.std.proofs.Common.{◌≡◌, ℕ, List, [], refl, sym, ◌∙◌, ap, subst}
use Rattle.std.specs.Prelude.{Option, None, Some, Err}
use Rattle.disk_model.specs.declared.script.Armed.TheVariants.{Nothing}
use Rattle.disk_model.specs.ScriptDisk.{seen, moment, cut_image}
use Rattle.disk_model.specs.ScriptLaws.{leaves_one}
use Rattle.wire_messages.specs.Outboxes.{Outgoing}
use Rattle.site_packs.specs.Packs.{groups_at}
use Rattle.the_run.specs.Worlds.{Running}
use Rattle.site_node.specs.of_site_parts.declared.fault.NodeFault.{NodeFault}
use Rattle.site_node.specs.of_site_parts.declared.fault.NodeFault.TheVariants.{Cut}
use Rattle.site_node.specs.declared.node.SiteNode.{SiteNode}
use Rattle.site_node.specs.Views.{view_of, steps_at}
use Rattle.site_node.specs.Writing.{EventWrites}
use Rattle.site_place.specs.declared.script.DiskScript.{DiskScript}
use Rattle.site_place.specs.Places.{Gives, event_of, happens_in}
use Rattle.site_place.specs.Standing.{IsWhole, IsRunning, MayRun}
use Rattle.site_place.specs.Views.{armed_in, place_in}
use Rattle.site_place.proofs.Arming.{still_waits, stays_stopped}
use Rattle.site_place.proofs.Fitting.{given_at, event_nothing}
use Rattle.site_place.proofs.Happening.{state_at, passed_event, event_whole, event_cut, left_whole, read_whole}
use Rattle.site_place.proofs.Refusing.{no_disk_fault, uncut_unarmed}
use Rattle.site_place.proofs.Running.{runs_on}
use Rattle.site_place.proofs.Scripts.{with_count, how_is}
use Rattle.site_place.proofs.Starting.{count_is, armed_same}
use Rattle.site_place.specs.Fitting.{CanHappenIn}
use Rattle.site_place.specs.declared.fault.PlaceFault.TheVariants.{NoMemory}
use Rattle.site_place.proofs.Needing.{acts_here, given_memory}
use Rattle.site_place.proofs.place.SitePlace.happen.Goals as goal

pub invariant_of-self : goal.invariant_of-self
invariant_of-self c = c.self.invariant

pub returns-in_default-clause-gives : goal.returns-in_default-clause-gives
returns-in_default-clause-gives c =
    let p = c.self.inside in
    event_nothing (groups_at p.config p.me) p.config p.me c.args.links.now (event_of c.args.event) p.node (seen p.disk.disk) (armed_in p.armed) c.args.self.now c.new-out.result c.self.view_is c.in_default.is c.new-out.ensures

pub act-requires : goal.act-requires
act-requires c =
    let p = c.self.inside in
    let is = c.self.invariant in
    let old = p.disk.disk in
    let n = c.in-Some.node in
    let runs : IsRunning p.config p.me n (moment old) = subst (λ (k : Option SiteNode). MayRun p.config p.me k (moment old)) c.in-Some.is is.node in
    runs.stands

pub invariant_of-self-in-Ok : goal.invariant_of-self-in-Ok
invariant_of-self-in-Ok c =
    let p = c.self.inside in
    let is = c.self.invariant in
    let old = p.disk.disk in
    let n = c.in-Some.node in
    let runs : IsRunning p.config p.me n (moment old) = subst (λ (k : Option SiteNode). MayRun p.config p.me k (moment old)) c.in-Some.is is.node in
    let now = c.act.new.disk.disk in
    let links = c.args.links.now in
    let e = event_of c.args.event in
    let w = (steps_at n links e (view_of n (seen old))).written in
    let left = c.left.result in
    let later = c.with_left-self-inside.result in
    let made = c.in-Ok.ensures in
    let count = count_is now.script left c.act.new.disk.left c.left.ensures c.act.new.disk.counts in
    let passed = passed_event n links e old now p.armed left old.script.faults c.new-out.result c.act.new.out is.script made.disk count in
    let there = read_whole p.config p.me n w old now c.new-out.result c.act.new.out c.act.result runs is.whole c.act.ensures.disk in
    record {
      settled = made.step.stands.settled;
      whole = there.whole;
      script = armed_same now.script (with_count left p.armed) later passed.script (sym c.with_left-self-inside.ensures);
      node = runs_on p.config p.me n c.act.new.node links e (moment old) (moment now) c.new-out.result c.act.new.out runs made.step there.label;
    }

pub returns-in-Ok-clause-gives : goal.returns-in-Ok-clause-gives
returns-in-Ok-clause-gives c =
    let p = c.self.inside in
    let is = c.self.invariant in
    let old = p.disk.disk in
    let n = c.in-Some.node in
    let runs : IsRunning p.config p.me n (moment old) = subst (λ (k : Option SiteNode). MayRun p.config p.me k (moment old)) c.in-Some.is is.node in
    let now = c.act.new.disk.disk in
    let links = c.args.links.now in
    let e = event_of c.args.event in
    let left = c.left.result in
    let later = c.with_left-self-inside.result in
    let made = c.in-Ok.ensures in
    let count = count_is now.script left c.act.new.disk.left c.left.ensures c.act.new.disk.counts in
    let gs = groups_at p.config p.me in
    let before = state_at p.config p.me (Running (view_of n (seen old))) (armed_in p.armed) in
    let gives = event_whole p.config p.me n c.act.new.node links e old now p.armed left old.script.faults c.new-out.result c.act.new.out c.new-out.ensures runs is.script made.step made.disk count in
    given_at (happens_in links e) gs p.config p.me p.node (Some n) (seen old) (armed_in p.armed) c.args.self.now (state_at p.config p.me (place_in gs (Some c.act.new.node) (seen now)) (armed_in later)) c.act.new.out
    c.self.view_is c.in-Some.is
    (subst (λ (k : Option DiskScript). Gives (happens_in links e before) before (state_at p.config p.me (place_in gs (Some c.act.new.node) (seen now)) (armed_in k)) c.act.new.out)
    (sym c.with_left-self-inside.ensures) gives)

-- an event doesn't fail outside its write
pub size_of-requires : goal.size_of-requires
size_of-requires c =
    let p = c.self.inside in
    let old = p.disk.disk in
    let n = c.in-Some.node in
    let w = (steps_at n c.args.links.now (event_of c.args.event) (view_of n (seen old))).written in
    no_disk_fault n w old c.act.new.disk.disk c.new-out.result c.act.new.out c.in-Err.fault p.armed c.self.invariant.script c.in-Err.ensures.disk

-- nothing is cut off where nothing is armed
pub unreachable-requires : goal.unreachable-requires
unreachable-requires c =
    let p = c.self.inside in
    let old = p.disk.disk in
    let n = c.in-Some.node in
    let w = (steps_at n c.args.links.now (event_of c.args.event) (view_of n (seen old))).written in
    uncut_unarmed n w old c.act.new.disk.disk c.new-out.result c.act.new.out c.in-Err.fault c.in-Ok-size_of.size (armed_same old.script p.armed None c.self.invariant.script c.in_default-armed.is) c.in-Ok-size_of.ensures.size c.in-Err.ensures.disk

pub invariant_of-self-in-Err-size_of : goal.invariant_of-self-in-Err-size_of
invariant_of-self-in-Err-size_of c =
    let p = c.self.inside in
    let is = c.self.invariant in
    let old = p.disk.disk in
    let n = c.in-Some.node in
    let runs : IsRunning p.config p.me n (moment old) = subst (λ (k : Option SiteNode). MayRun p.config p.me k (moment old)) c.in-Some.is is.node in
    let fault = c.act.new.disk.disk in
    let now = c.disarm.new.self.disk in
    let w = (steps_at n c.args.links.now (event_of c.args.event) (view_of n (seen old))).written in
    let there = read_whole p.config p.me n w old fault c.new-out.result c.act.new.out c.act.result runs is.whole c.act.ensures.disk in
    record {
      settled = c.disarm.ensures.settled;
      whole = subst (λ (l : List ℕ). IsWhole p.config p.me l) (sym c.disarm.ensures.seen) there.whole;
      script = still_waits now.script Nothing fault.script.faults c.disarm.ensures.script;
      node = stays_stopped p.config p.me c.leave.new.node (moment now) c.leave.ensures;
    }

pub invariant_of-self-in_err-told-in-Err : goal.invariant_of-self-in_err-told-in-Err
invariant_of-self-in_err-told-in-Err c =
    let p = c.self.inside in
    let is = c.self.invariant in
    let old = p.disk.disk in
    let n = c.in-Some.node in
    let runs : IsRunning p.config p.me n (moment old) = subst (λ (k : Option SiteNode). MayRun p.config p.me k (moment old)) c.in-Some.is is.node in
    let fault = c.act.new.disk.disk in
    let now = c.crash.new.self.disk in
    let links = c.args.links.now in
    let e = event_of c.args.event in
    let w = (steps_at n links e (view_of n (seen old))).written in
    let x = c.in-Some-armed.script in
    let script = armed_same old.script p.armed (Some x) is.script c.in-Some-armed.is in
    let left : seen now ≡ cut_image fault = c.crash.ensures.left (c.act.ensures.disk.how ∙ how_is old.script x old.script.faults script) in
    let there = left_whole p.config p.me n w old fault c.new-out.result c.act.new.out c.act.result runs is.whole c.act.ensures.disk (cut_image fault) (leaves_one fault) in
    record {
      settled = c.crash.ensures.settled;
      whole = subst (λ (l : List ℕ). IsWhole p.config p.me l) (sym left) there.whole;
      script = still_waits now.script Nothing fault.script.faults c.crash.ensures.script;
      node = stays_stopped p.config p.me c.leave.new.node (moment now) c.leave.ensures;
    }

pub invariant_of-self-in-Err : goal.invariant_of-self-in-Err
invariant_of-self-in-Err c =
    let p = c.self.inside in
    let is = c.self.invariant in
    let old = p.disk.disk in
    let n = c.in-Some.node in
    let runs : IsRunning p.config p.me n (moment old) = subst (λ (k : Option SiteNode). MayRun p.config p.me k (moment old)) c.in-Some.is is.node in
    let fault = c.act.new.disk.disk in
    let now = c.crash.new.self.disk in
    let links = c.args.links.now in
    let e = event_of c.args.event in
    let w = (steps_at n links e (view_of n (seen old))).written in
    let x = c.in-Some-armed.script in
    let script = armed_same old.script p.armed (Some x) is.script c.in-Some-armed.is in
    let left : seen now ≡ cut_image fault = c.crash.ensures.left (c.act.ensures.disk.how ∙ how_is old.script x old.script.faults script) in
    let there = left_whole p.config p.me n w old fault c.new-out.result c.act.new.out c.act.result runs is.whole c.act.ensures.disk (cut_image fault) (leaves_one fault) in
    record {
      settled = c.crash.ensures.settled;
      whole = subst (λ (l : List ℕ). IsWhole p.config p.me l) (sym left) there.whole;
      script = still_waits now.script Nothing fault.script.faults c.crash.ensures.script;
      node = stays_stopped p.config p.me c.leave.new.node (moment now) c.leave.ensures;
    }

pub returns-in_ok-told-in-Err-clause-gives : goal.returns-in_ok-told-in-Err-clause-gives
returns-in_ok-told-in-Err-clause-gives c =
    let p = c.self.inside in
    let is = c.self.invariant in
    let old = p.disk.disk in
    let n = c.in-Some.node in
    let runs : IsRunning p.config p.me n (moment old) = subst (λ (k : Option SiteNode). MayRun p.config p.me k (moment old)) c.in-Some.is is.node in
    let fault = c.act.new.disk.disk in
    let now = c.crash.new.self.disk in
    let links = c.args.links.now in
    let e = event_of c.args.event in
    let w = (steps_at n links e (view_of n (seen old))).written in
    let x = c.in-Some-armed.script in
    let script = armed_same old.script p.armed (Some x) is.script c.in-Some-armed.is in
    let gs = groups_at p.config p.me in
    let size = c.in-Ok-size_of.size in
    let own = c.act.new.out in
    let out = c.in_ok-told-in-Err.told in
    let before = λ (armed : Option DiskScript). state_at p.config p.me (Running (view_of n (seen old))) (armed_in armed) in
    let later = λ (k : Option SiteNode). state_at p.config p.me (place_in gs k (seen now)) None in
    let writes = subst (λ (o : Outgoing). EventWrites {T = Unit {0}} w n.packs (moment old) (moment fault) o own (Err (Cut size))) c.new-out.ensures
    (subst (λ (f : NodeFault). EventWrites {T = Unit {0}} w n.packs (moment old) (moment fault) c.new-out.result own (Err f)) c.in-Ok-size_of.ensures.size c.in-Err.ensures.disk) in
    let cut = event_cut p.config p.me n links e old fault now x old.script.faults size own out runs is.whole script writes c.crash.ensures.left c.in_ok-told-in-Err.ensures in
    given_at (happens_in links e) gs p.config p.me p.node (Some n) (seen old) (armed_in p.armed) c.args.self.now (later c.leave.new.node) out c.self.view_is c.in-Some.is
    (subst (λ (k : Option SiteNode). Gives (happens_in links e (before p.armed)) (before p.armed) (later k) out) (sym c.leave.ensures)
    (subst (λ (k : Option DiskScript). Gives (happens_in links e (before k)) (before k) (later None) out) (sym c.in-Some-armed.is) cut))

pub returns-in-Err-size_of-clause-fit : goal.returns-in-Err-size_of-clause-fit
returns-in-Err-size_of-clause-fit c = λ can.
    let p = c.self.inside in
    let is = c.self.invariant in
    let old = p.disk.disk in
    let n = c.in-Some.node in
    let runs : IsRunning p.config p.me n (moment old) = subst (λ (k : Option SiteNode). MayRun p.config p.me k (moment old)) c.in-Some.is is.node in
    c.in-Err-size_of.ensures.fit (c.in-Err.ensures.fit (acts_here p.config p.me p.node n (seen old) (armed_in p.armed) c.args.links.now (event_of c.args.event) c.args.self.now c.self.view_is c.in-Some.is runs.groups runs.home runs.cluster runs.own can))

pub returns-in_err-told-in-Err-clause-fit : goal.returns-in_err-told-in-Err-clause-fit
returns-in_err-told-in-Err-clause-fit c = given_memory (CanHappenIn c.args.links.now (event_of c.args.event) c.args.self.now) c.from_residual.result c.from_residual.ensures.1
