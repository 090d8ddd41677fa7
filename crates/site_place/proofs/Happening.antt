-- What an event of a running site leaves and tells, and that its disk stays whole.
use Rattle.std.proofs.Common.{◌≡◌, ℕ, List, [], ◌++◌, refl, sym, ◌∙◌, ap, subst}
use Rattle.std.specs.Prelude.{Option, None, Some, Result, Ok, Err}
use Rattle.locus_ids.specs.declared.config.Config.{Config}
use Rattle.locus_ids.specs.declared.sites.Links.{Links}
use Rattle.disk_model.specs.declared.script_disk.ScriptDisk.{ScriptDisk}
use Rattle.disk_model.specs.Script.{how_of}
use Rattle.disk_model.specs.ScriptDisk.{seen, moment, cut_image}
use Rattle.disk_model.specs.ScriptLaws.{leaves_one}
use Rattle.wire_messages.specs.Outboxes.{Outgoing}
use Rattle.role_steps.specs.Views.{SiteView, Outcome, Event, DiskWrite}
use Rattle.site_node.specs.of_site_frame.Printed.{printed}
use Rattle.the_run.specs.Disks.{Armed}
use Rattle.the_run.specs.Steps.{step}
use Rattle.the_run.specs.Worlds.{Place, Running, Stopped}
use Rattle.site_packs.specs.declared.faults.WriteSize.{WriteSize}
use Rattle.site_packs.specs.Packs.{groups_at}
use Rattle.site_node.specs.of_store_instances.Writes.{calls_in}
use Rattle.site_disk.specs.Run.{as_cut, disk_on}
use Rattle.site_node.specs.of_site_parts.declared.fault.NodeFault.{NodeFault}
use Rattle.site_node.specs.of_site_parts.declared.fault.NodeFault.TheVariants.{Cut}
use Rattle.site_node.specs.declared.node.SiteNode.{SiteNode}
use Rattle.site_node.specs.Views.{view_of, Moves, steps_at}
use Rattle.site_node.specs.Writing.{EventWrites}
use Rattle.site_place.specs.declared.script.DiskScript.{DiskScript}
use Rattle.site_place.specs.Counts.{counted, armed_by_script, waiting}
use Rattle.site_place.specs.Places.{PlaceState, Happening, Gives, armed_by, cut_by, nothing_at, runs_in, acts_in, happens_in}
use Rattle.site_place.specs.Standing.{IsWhole, IsRunning}
use Rattle.site_place.specs.Views.{armed_in}
use Rattle.site_place.proofs.Scripts.{HasPassed, with_count, has_passed, passing_is, how_is}
use Rattle.site_place.proofs.Images.{IsLabelled, whole_left}
use Rattle.site_place.proofs.Events.{acts_whole, acts_cut, cut_records}

-- a site that stands so
abbrev pub state_at : Config → ℕ → Place → Option Armed → PlaceState
state_at config me place armed = record { config = config; site = me; place = place; armed = armed }

abbrev pub nothing_out : Outgoing
nothing_out = record { packets = []; records = [] }

-- nothing happens
pub nothing_given : (config : Config) (me : ℕ) (place : Place) (armed : Option Armed) (out : Outgoing) → out ≡ nothing_out → Gives (nothing_at armed place) (state_at config me place armed) (state_at config me place armed) out
nothing_given config me place armed out none = record { state = refl; packets = ap (λ (g : Outgoing). g.packets) none; records = ap (λ (g : Outgoing). g.records) none }

-- the step of the site is that of the run
same_step : (config : Config) (me : ℕ) (n : SiteNode) (links : Links) (e : Event) (v : SiteView) → n.frame.config ≡ config → n.frame.me ≡ me → steps_at n links e v ≡ step config me links v e
same_step config me n links e v cluster own = (λ i. step (cluster i) (own i) links v e)

pub passed_event : (n : SiteNode) (links : Links) (e : Event) (old now : ScriptDisk) (armed : Option DiskScript) (left faults : ℕ) (given after : Outgoing) → old.script ≡ waiting (armed_by_script armed) faults
    → EventWrites {T = Unit {0}} (steps_at n links e (view_of n (seen old))).written n.packs (moment old) (moment now) given after (Ok tt) → counted now.script left ≡ left
    → HasPassed armed (calls_in n.packs (seen old) (steps_at n links e (view_of n (seen old))).written) left now.script
passed_event n links e old now armed left faults given after script writes count =
    has_passed armed (calls_in n.packs (seen old) (steps_at n links e (view_of n (seen old))).written) left faults old.script now.script script writes.passes writes.how count

pub event_whole : (config : Config) (me : ℕ) (n new : SiteNode) (links : Links) (e : Event) (old now : ScriptDisk) (armed : Option DiskScript) (left faults : ℕ) (given after : Outgoing) → given ≡ nothing_out → IsRunning config me n (moment old) → old.script ≡ waiting (armed_by_script armed) faults
    → Moves (steps_at n links e) n (moment old) new (moment now) given after
    → EventWrites {T = Unit {0}} (steps_at n links e (view_of n (seen old))).written n.packs (moment old) (moment now) given after (Ok tt) → counted now.script left ≡ left
    → Gives (happens_in links e (state_at config me (Running (view_of n (seen old))) (armed_in armed))) (state_at config me (Running (view_of n (seen old))) (armed_in armed)) (state_at config me (Running (view_of new (seen now))) (armed_in (with_count left armed))) after
event_whole config me n new links e old now armed left faults given after none runs script moves writes count =
    let v = view_of n (seen old) in
    let o = steps_at n links e v in
    let before = state_at config me (Running v) (armed_in armed) in
    let later = state_at config me (Running (view_of new (seen now))) (armed_in (with_count left armed)) in
    let passed = passed_event n links e old now armed left faults given after script writes count in
    let same : acts_in me v o o.written (armed_in armed) ≡ runs_in o (armed_in (with_count left armed)) = acts_whole me n (seen old) o o.written armed left passed.passed in
    let ran : acts_in me v o o.written (armed_in armed) ≡ happens_in links e before =
    ap (λ (k : Outcome SiteView). acts_in me v k k.written (armed_in armed)) (same_step config me n links e v runs.cluster runs.own) in
    subst (λ (h : Happening). Gives h before later after) (sym same ∙ ran) (record {
      state = ap (λ (k : SiteView). state_at config me (Running k) (armed_in (with_count left armed))) moves.gives.view;
      packets = moves.gives.packets ∙ ap (λ (g : Outgoing). g.packets ++ o.sent) none;
      records = moves.gives.records ∙ ap (λ (g : Outgoing). g.records ++ printed o.told) none;
    })

-- what a crash leaves at the end of an event, however it ended
pub left_whole : {R : Type 0} (config : Config) (me : ℕ) (n : SiteNode) (w : Option DiskWrite) (old now : ScriptDisk) (given after : Outgoing) (result : Result R NodeFault) → IsRunning config me n (moment old) → IsWhole config me (seen old)
    → EventWrites w n.packs (moment old) (moment now) given after result → (c : List ℕ) → (moment now).may_leave c → IsLabelled config me n.epochs.boot c
left_whole config me n w old now given after result runs whole writes c may =
    whole_left config me n.epochs.boot n.packs w (seen old) c runs.groups runs.home (record { whole = whole; label = runs.label }) (writes.leaves.each c may)

pub read_whole : {R : Type 0} (config : Config) (me : ℕ) (n : SiteNode) (w : Option DiskWrite) (old now : ScriptDisk) (given after : Outgoing) (result : Result R NodeFault) → IsRunning config me n (moment old) → IsWhole config me (seen old)
    → EventWrites w n.packs (moment old) (moment now) given after result → IsLabelled config me n.epochs.boot (seen now)
read_whole config me n w old now given after result runs whole writes = left_whole config me n w old now given after result runs whole writes (seen now) (record { long = refl; outside = λ k none. refl })

-- the event that a script cuts off
pub event_cut : {R : Type 0} (config : Config) (me : ℕ) (n : SiteNode) (links : Links) (e : Event) (old fault crashed : ScriptDisk) (x : DiskScript) (faults : ℕ) (size : WriteSize) (own after : Outgoing) → IsRunning config me n (moment old) → IsWhole config me (seen old)
    → old.script ≡ waiting (armed_by_script (Some x)) faults → EventWrites {T = R} (steps_at n links e (view_of n (seen old))).written n.packs (moment old) (moment fault) nothing_out own (Err (Cut size))
    → (how_of fault.script ≡ as_cut (cut_by x.how) → seen crashed ≡ cut_image fault) → after ≡ record { packets = []; records = cut_records me size.blocks x own.records }
    → Gives (happens_in links e (state_at config me (Running (view_of n (seen old))) (armed_in (Some x)))) (state_at config me (Running (view_of n (seen old))) (armed_in (Some x))) (state_at config me (Stopped (disk_on (groups_at config me) (seen crashed))) None) after
event_cut {R} config me n links e old fault crashed x faults size own after runs whole script writes leaves told =
    let v = view_of n (seen old) in
    let o = steps_at n links e v in
    let before = state_at config me (Running v) (Some (armed_by x)) in
    let how = how_is old.script x faults script in
    let left : seen crashed ≡ cut_image fault = leaves (writes.how ∙ how) in
    let there : IsLabelled config me n.epochs.boot (seen crashed) =
    subst (λ (l : List ℕ). IsLabelled config me n.epochs.boot l) (sym left) (left_whole config me n o.written old fault nothing_out own (Err (Cut size)) runs whole writes (cut_image fault) (leaves_one fault)) in
    let gives = acts_cut (groups_at config me) me n (moment old) (moment fault) o o.written x size nothing_out own after (seen crashed) before runs.groups there.label (passing_is old.script x faults script) how left refl (writes.cut size refl) told in
    let ran : acts_in me v o o.written (Some (armed_by x)) ≡ happens_in links e before =
    ap (λ (k : Outcome SiteView). acts_in me v k k.written (Some (armed_by x))) (same_step config me n links e v runs.cluster runs.own) in
    subst (λ (h : Happening). Gives h before (record before { place = Stopped (disk_on (groups_at config me) (seen crashed)); armed = None }) after) ran gives
