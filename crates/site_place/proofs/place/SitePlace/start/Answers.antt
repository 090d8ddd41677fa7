use Rattle.std.proofs.Common.{◌≡◌, ℕ, ◌<◌, List, [], ◌∷◌, refl, sym, ◌∙◌, ap, subst}
use Rattle.std.specs.Prelude.{Option, None, Some}
use Rattle.disk_model.specs.Cut.{Cut as DiskCut}
use Rattle.disk_model.specs.declared.script.Armed.TheVariants.{Nothing}
use Rattle.disk_model.specs.declared.script.Script.{Script}
use Rattle.disk_model.specs.Script.{passing_of}
use Rattle.disk_model.specs.ScriptDisk.{seen, moment, cut_image}
use Rattle.disk_model.specs.ScriptLaws.{leaves_one}
use Rattle.trace_book.specs.declared.record.Record.{Record}
use Rattle.trace_book.specs.declared.record.Record.TheVariants as says
use Rattle.trace_book.specs.declared.record.StopCause.{StopCause}
use Rattle.role_steps.specs.declared.copies.FileCopy.{FileCopy}
use Rattle.the_run.specs.Worlds.{fresh}
use Rattle.site_label.specs.Image.{label_number}
use Rattle.site_packs.specs.Packs.{groups_at}
use Rattle.site_packs.specs.Copies.{copies_on}
use Rattle.site_disk.specs.Boots.{boot_calls, IsCutBoot}
use Rattle.site_disk.specs.Run.{as_cut}
use Rattle.site_node.specs.declared.node.SiteNode.{SiteNode}
use Rattle.site_place.specs.declared.fault.StartFault.{StartFault}
use Rattle.site_place.specs.declared.fault.StartFault.TheVariants.{Spent}
use Rattle.site_place.specs.Places.{cut_by}
use Rattle.site_place.specs.Standing.{IsWhole, MayRun}
use Rattle.site_place.specs.Views.{armed_in}
use Rattle.site_place.proofs.Arming.{still_waits, stays_stopped}
use Rattle.site_place.proofs.Images.{whole_booted}
use Rattle.site_place.proofs.Running.{runs_fresh}
use Rattle.site_place.proofs.Scripts.{HasPassed, with_count, has_passed, passing_is, how_is, too_few, not_failed}
use Rattle.site_place.proofs.Starting.{start_nothing, not_running, start_up, start_cut, count_is, armed_same, tells_failed, cut_failed}
use Rattle.site_place.proofs.Refusing.{of_whole, greatest, boot_shown, same_fault}
use Rattle.site_place.proofs.place.SitePlace.start.Goals as goal

pub returns-then-is_some-clause-gives : goal.returns-then-is_some-clause-gives
returns-then-is_some-clause-gives c =
    let p = c.self.inside in
    start_nothing (groups_at p.config p.me) p.config p.me p.node (seen p.disk.disk) (armed_in p.armed) c.args.self.now c.new.result c.is_some.result c.self.view_is c.is_some.ensures c.if-is_some.true c.new.ensures

pub boot-requires-clause-settled : goal.boot-requires-clause-settled
boot-requires-clause-settled c = c.self.invariant.settled

pub boot-requires-clause-long : goal.boot-requires-clause-long
boot-requires-clause-long c = c.self.invariant.whole.long

pub invariant_of-self : goal.invariant_of-self
invariant_of-self c =
    let p = c.self.inside in
    let is = c.self.invariant in
    let gs = groups_at p.config p.me in
    let old = p.disk.disk in
    let now = c.boot.new.disk.disk in
    let made = c.in-Ok.ensures in
    let left = c.left.result in
    let later = c.with_left-self-inside.result in
    let n = c.fresh-node.result in
    let passed : HasPassed p.armed (boot_calls gs (seen old)) left now.script =
    has_passed p.armed (boot_calls gs (seen old)) left old.script.faults old.script now.script is.script made.tells made.how (count_is now.script left c.boot.new.disk.left c.left.ensures c.boot.new.disk.counts) in
    record {
      settled = made.stands.settled;
      whole = whole_booted p.config p.me (seen old) (seen now) is.whole ((made.any_moment is.whole.sound).each (seen now) (record { long = refl; outside = λ k none. refl }));
      script = armed_same now.script (with_count left p.armed) later passed.script (sym c.with_left-self-inside.ensures);
      node = subst (λ (k : Option SiteNode). MayRun p.config p.me k (moment now)) (sym c.enter.ensures)
          (runs_fresh p.config p.me c.in-Ok.boot n c.in-Ok.packs _ (moment now) made.stands made.groups made.site c.fresh-node.ensures.packs (c.fresh-node.ensures.config ∙ c.in_ok-config.ensures) c.fresh-node.ensures.site (c.fresh-node.ensures.view (seen now)) made.label);
    }

pub invariant_of-self-in-Ok : goal.invariant_of-self-in-Ok
invariant_of-self-in-Ok c =
    let p = c.self.inside in
    let is = c.self.invariant in
    let gs = groups_at p.config p.me in
    let old = p.disk.disk in
    let now = c.boot.new.disk.disk in
    let made = c.in-Ok.ensures in
    let left = c.left.result in
    let later = c.with_left-self-inside.result in
    let n = c.fresh-node.result in
    let passed : HasPassed p.armed (boot_calls gs (seen old)) left now.script =
    has_passed p.armed (boot_calls gs (seen old)) left old.script.faults old.script now.script is.script made.tells made.how (count_is now.script left c.boot.new.disk.left c.left.ensures c.boot.new.disk.counts) in
    record {
      settled = made.stands.settled;
      whole = whole_booted p.config p.me (seen old) (seen now) is.whole ((made.any_moment is.whole.sound).each (seen now) (record { long = refl; outside = λ k none. refl }));
      script = armed_same now.script (with_count left p.armed) later passed.script (sym c.with_left-self-inside.ensures);
      node = subst (λ (k : Option SiteNode). MayRun p.config p.me k (moment now)) (sym c.enter.ensures)
          (runs_fresh p.config p.me c.in-Ok.boot n c.in-Ok.packs _ (moment now) made.stands made.groups made.site c.fresh-node.ensures.packs (c.fresh-node.ensures.config ∙ c.in_ok-config.ensures) c.fresh-node.ensures.site (c.fresh-node.ensures.view (seen now)) made.label);
    }

pub returns-in_ok-told-in-Ok-clause-gives : goal.returns-in_ok-told-in-Ok-clause-gives
returns-in_ok-told-in-Ok-clause-gives c =
    let p = c.self.inside in
    let is = c.self.invariant in
    let gs = groups_at p.config p.me in
    let old = p.disk.disk in
    let now = c.boot.new.disk.disk in
    let made = c.in-Ok.ensures in
    let left = c.left.result in
    let later = c.with_left-self-inside.result in
    let n = c.fresh-node.result in
    let passed : HasPassed p.armed (boot_calls gs (seen old)) left now.script =
    has_passed p.armed (boot_calls gs (seen old)) left old.script.faults old.script now.script is.script made.tells made.how (count_is now.script left c.boot.new.disk.left c.left.ensures c.boot.new.disk.counts) in
    let copies = ap (λ (g : List ℕ). copies_on g (seen now)) made.groups ∙ made.copies in
    let view = c.fresh-node.ensures.view (seen now) ∙ ap (λ (k : List FileCopy). fresh c.in-Ok.boot k) copies in
    let told = c.in_ok-told-in-Ok.ensures ∙ ap (λ (k : ℕ). record { packets = []; records = says.Up k c.in-Ok.boot ∷ [] }) c.get-site.ensures.value in
    start_up gs p.config p.me p.node c.enter.new.node n (seen old) (seen now) p.armed later c.in-Ok.boot left c.args.self.now c.in_ok-told-in-Ok.told c.self.view_is (not_running p.node c.is_some.result c.is_some.ensures c.if-is_some.false)
    c.enter.ensures c.with_left-self-inside.ensures made.raised passed.passed view told

-- all calls pass where nothing is armed
pub unreachable-requires : goal.unreachable-requires
unreachable-requires c =
    let p = c.self.inside in
    let n = boot_calls (groups_at p.config p.me) (seen p.disk.disk) in
    let old = (moment p.disk.disk).passing in
    let now = (moment c.boot.new.disk.disk).passing in
    let script = armed_same p.disk.disk.script p.armed None c.self.invariant.script c.in_default-armed.is in
    not_failed n old now (ap (λ (k : Script). passing_of k) script) (tells_failed c.boot.result n old now c.in-Err.fault (c.why_not.ensures.failed c.in_default.is) c.in-Err.ensures.tells)

-- the disk is whole
pub why_not-requires : goal.why_not-requires
why_not-requires c =
    let p = c.self.inside in
    of_whole p.config p.me (seen p.disk.disk) c.in-Err.fault c.self.invariant.whole c.in-Err.ensures.fault

pub invariant_of-self-in-Some : goal.invariant_of-self-in-Some
invariant_of-self-in-Some c =
    let p = c.self.inside in
    let is = c.self.invariant in
    let fault = c.boot.new.disk.disk in
    let now = c.disarm.new.self.disk in
    let whole = whole_booted p.config p.me (seen p.disk.disk) (seen fault) is.whole ((c.boot.ensures.any_moment is.whole.sound).each (seen fault) (record { long = refl; outside = λ k none. refl })) in
    record {
      settled = c.disarm.ensures.settled;
      whole = subst (λ (l : List ℕ). IsWhole p.config p.me l) (sym c.disarm.ensures.seen) whole;
      script = still_waits now.script Nothing fault.script.faults c.disarm.ensures.script;
      node = stays_stopped p.config p.me p.node (moment now) (not_running p.node c.is_some.result c.is_some.ensures c.if-is_some.false);
    }

pub returns-in-Some-clause-spent : goal.returns-in-Some-clause-spent
returns-in-Some-clause-spent c = λ is.
    let p = c.self.inside in
    let image = seen p.disk.disk in
    let fault = c.why_not.ensures.spent (c.in-Some.is ∙ ap (λ (f : StartFault). Some f) (same_fault c.in-Some.refusal Spent is)) in
    boot_shown (groups_at p.config p.me) p.config p.me p.node image (armed_in p.armed) c.args.self.now 4294967295 c.self.view_is (not_running p.node c.is_some.result c.is_some.ensures c.if-is_some.false)
    (greatest p.config p.me image c.in-Err.fault fault c.in-Err.ensures.fault)

pub invariant_of-self-in_err-told-in-Err : goal.invariant_of-self-in_err-told-in-Err
invariant_of-self-in_err-told-in-Err c =
    let p = c.self.inside in
    let is = c.self.invariant in
    let old = p.disk.disk in
    let fault = c.boot.new.disk.disk in
    let now = c.crash.new.self.disk in
    let x = c.in-Some-armed.script in
    let script = armed_same old.script p.armed (Some x) is.script c.in-Some-armed.is in
    let how = how_is old.script x old.script.faults script in
    let left : seen now ≡ cut_image fault = c.crash.ensures.left (c.boot.ensures.how ∙ how) in
    let whole = whole_booted p.config p.me (seen old) (cut_image fault) is.whole ((c.boot.ensures.any_moment is.whole.sound).each (cut_image fault) (leaves_one fault)) in
    record {
      settled = c.crash.ensures.settled;
      whole = subst (λ (l : List ℕ). IsWhole p.config p.me l) (sym left) whole;
      script = still_waits now.script Nothing fault.script.faults c.crash.ensures.script;
      node = stays_stopped p.config p.me p.node (moment now) (not_running p.node c.is_some.result c.is_some.ensures c.if-is_some.false);
    }

pub invariant_of-self-in-Err-1 : goal.invariant_of-self-in-Err-1
invariant_of-self-in-Err-1 c =
    let p = c.self.inside in
    let is = c.self.invariant in
    let old = p.disk.disk in
    let fault = c.boot.new.disk.disk in
    let now = c.crash.new.self.disk in
    let x = c.in-Some-armed.script in
    let script = armed_same old.script p.armed (Some x) is.script c.in-Some-armed.is in
    let how = how_is old.script x old.script.faults script in
    let left : seen now ≡ cut_image fault = c.crash.ensures.left (c.boot.ensures.how ∙ how) in
    let whole = whole_booted p.config p.me (seen old) (cut_image fault) is.whole ((c.boot.ensures.any_moment is.whole.sound).each (cut_image fault) (leaves_one fault)) in
    record {
      settled = c.crash.ensures.settled;
      whole = subst (λ (l : List ℕ). IsWhole p.config p.me l) (sym left) whole;
      script = still_waits now.script Nothing fault.script.faults c.crash.ensures.script;
      node = stays_stopped p.config p.me p.node (moment now) (not_running p.node c.is_some.result c.is_some.ensures c.if-is_some.false);
    }

pub returns-in_ok-told-in-Err-clause-gives : goal.returns-in_ok-told-in-Err-clause-gives
returns-in_ok-told-in-Err-clause-gives c =
    let p = c.self.inside in
    let is = c.self.invariant in
    let gs = groups_at p.config p.me in
    let old = p.disk.disk in
    let fault = c.boot.new.disk.disk in
    let now = c.crash.new.self.disk in
    let x = c.in-Some-armed.script in
    let script = armed_same old.script p.armed (Some x) is.script c.in-Some-armed.is in
    let how = how_is old.script x old.script.faults script in
    let left : seen now ≡ cut_image fault = c.crash.ensures.left (c.boot.ensures.how ∙ how) in
    let passing = passing_is old.script x old.script.faults script in
    let failed = c.why_not.ensures.failed c.in_default.is in
    let few : x.left < boot_calls gs (seen old) = too_few (boot_calls gs (seen old)) x.left (moment old).passing (moment fault).passing passing (tells_failed c.boot.result (boot_calls gs (seen old)) (moment old).passing (moment fault).passing c.in-Err.fault failed c.in-Err.ensures.tells) in
    let gate : IsCutBoot p.me gs (as_cut (cut_by x.how)) (label_number (seen old)) x.left (seen old) (seen now) =
    subst (λ (l : List ℕ). IsCutBoot p.me gs (as_cut (cut_by x.how)) (label_number (seen old)) x.left (seen old) l) (sym left)
    (subst (λ (h : DiskCut). IsCutBoot p.me gs h (label_number (seen old)) x.left (seen old) (cut_image fault)) how (cut_failed c.boot.result c.in-Err.fault (IsCutBoot p.me gs (moment old).how (label_number (seen old)) x.left (seen old) (cut_image fault)) failed (c.in-Err.ensures.cut (label_number (seen old)) x.left is.whole.label passing))) in
    let told = c.in_ok-told-in-Err.ensures ∙ ap (λ (r : Record). record { packets = []; records = r ∷ [] }) (c.stopped.ensures ∙ ap (λ (k : StopCause). says.Stopped p.me k) c.cause_of.ensures) in
    start_cut gs p.config p.me p.node (seen old) (seen now) p.armed x c.args.self.now c.in_ok-told-in-Err.told c.self.view_is (not_running p.node c.is_some.result c.is_some.ensures c.if-is_some.false) c.in-Some-armed.is is.whole.sound few gate told
