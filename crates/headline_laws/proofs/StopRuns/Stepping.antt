-- What a step of a site writes could be told next.
use Rattle.std.proofs.Common.{◌≡◌, ℕ, ◌+◌, nat_lt, Bool, true, false, List, [], Option, Some, None, refl, sym, subst}
use Rattle.locus_ids.specs.declared.config.Config.{Config}
use Rattle.locus_ids.specs.declared.ids.EpochId.{EpochId}
use Rattle.locus_ids.specs.declared.sites.Links.{Links}
use Rattle.role_steps.specs.of_dir_format.Entries.{nothing_seen}
use Rattle.trace_book.specs.declared.operation.Op.TheVariants as op
use Rattle.wire_messages.specs.Bodies.{kind_number}
use Rattle.wire_messages.specs.declared.body.Body.{Body}
use Rattle.wire_messages.specs.declared.body.Body.TheVariants as body
use Rattle.wire_messages.specs.declared.packet.Packet.{Packet}
use Rattle.role_steps.specs.Looks.{LookRequest}
use Rattle.role_steps.specs.Mends.{kept_stamps, mending}
use Rattle.role_steps.specs.Opens.{OpenRequest, on_opened}
use Rattle.role_steps.specs.Epochs.{frame_in, leaves, starts_merge, boots_where, merge_boot, starts_part, on_poll, on_promise_of, on_refuse_of, on_install, on_joined}
use Rattle.role_steps.specs.Reports.{on_report, on_open, on_look, on_closed, on_have}
use Rattle.role_steps.specs.Storage.{StoreRequest, copy_of, instance_of, on_open_ss, on_closed_ok}
use Rattle.role_steps.specs.Operations.{in_form, nothing_to_mend, on_op}
use Rattle.role_steps.specs.Pulling.{on_notify, on_page, pages_in, on_delta, pull_of}
use Rattle.role_steps.specs.Tables.{row, first_that}
use Rattle.role_steps.specs.Adoption.{table_group}
use Rattle.role_steps.specs.Using.{on_open_done, on_op_done, on_as_held, on_close_done, on_look_done}
use Rattle.role_steps.specs.Views.{Frame, SiteView, Store, Told, Outcome, Event, Calls, Receives, Ticks, Parts, Merges, GivesUp, quiet}
use Rattle.role_steps.specs.declared.instances.Instance.{Instance}
use Rattle.role_steps.specs.declared.pulls.Pull.{Pull}
use Rattle.role_steps.specs.declared.rounds.InEpoch.{InEpoch}
use Rattle.role_steps.specs.declared.synchronizing.SyncTable.{SyncTable}
use Rattle.the_run.specs.Steps.{at_table_of, from_user, group_of, is_opened_in, is_dropped, takes_inside, takes_framed, takes, tries_at, adopts_of, adopts_in, ends_event, whole, call_frame, epoch_id, takes_call, step}
use Rattle.the_run.specs.Worlds.{Line, told_onto}
use Rattle.run_laws.specs.Words.{Talks}
use Rattle.run_laws.proofs.Telling.{on_open_ss_talks, on_closed_ok_talks, on_notify_talks, on_page_talks, on_delta_talks, on_call_talks, on_open_done_talks, on_op_done_talks, on_as_held_talks, on_close_done_talks, on_look_done_talks, on_opened_talks, on_open_talks, on_look_talks, on_report_talks, on_closed_talks, on_have_talks}
use Rattle.site_laws.proofs.Vectors.SiteDisks.{ends_keeps}
use Rattle.tree_laws.specs.Doing.{IsReceived}
use Rattle.tree_laws.specs.Packets.{BodyFact, CloseFact, OpFact, PacketFact}
use Rattle.calm_laws.specs.of_store_laws.OneTree.Places.{InsideFact, SiteFact, SiteIn}
use Rattle.calm_laws.specs.of_store_laws.OneTree.Rest.{AllRest, Past}
use Rattle.calm_laws.specs.of_store_laws.OneTree.Wants.{Arrives}
use Rattle.calm_laws.specs.of_store_laws.OneTree.Roles.{EventFact, RolesDo}
use Rattle.site_laws.proofs.Locks.StepFacts.{SiteSilent, notify_silent, page_silent, delta_silent, framed_notify}
use Rattle.calm_laws.proofs.of_store_laws.OneTree.Cuts.{leaves_none, begins_none, part_none, poll_none, promise_none, refuse_none, install_none}
use Rattle.calm_laws.proofs.of_store_laws.OneTree.Steps.{framed, to_boot}
use Rattle.calm_laws.proofs.of_store_laws.OneTree.Taken.{taken_boot, taken_epoch}
use Rattle.headline_laws.proofs.StopRuns.Writing.{Could, CouldTell, close_could, op_could, adopts_could}
use Rattle.headline_laws.proofs.StopRuns.Placed.{none_fact, first_fact, whole_fact, still_fact}

-- ---- a packet of the epoch ----

table_could : (c : Config) (trace : List Line) (g : SyncTable → Outcome SyncTable) (v : SiteView) → ((t : SyncTable) → Talks (g t)) → (o : Option SyncTable) → Could c trace (at_table_of g o v).written
table_could c trace g v h None = tt
table_could c trace g v h (Some t) = none_fact (CouldTell c trace) (g t).written (h t).1

-- what a held read writes is what a read writes: nothing is said of its form
held_could : (c : Config) (trace : List Line) (x : Option Instance) (o : Outcome Store) → Could c trace o.written → Could c trace (in_form x o).written
held_could c trace None o h = h
held_could c trace (Some x) o h = h

inside_could : (c : Config) (trace : List Line) (f : Frame) (p : Packet) (b : Body) (v : SiteView) → Past c trace → InsideFact c f trace v → IsReceived f p → p.body ≡ b → PacketFact c trace p → Could c trace (takes_inside f p.from b v).written
inside_could c trace f p (body.Report group copies) v past h r q fact = table_could c trace (on_report f p.from copies) v (on_report_talks f p.from copies) (row table_group group v.tables)
inside_could c trace f p (body.Open serial call process request file how) v past h r q fact =
    let o : OpenRequest = record { serial = serial; call = call; process = process; request = request; file = file; how = how } in table_could c trace (on_open f p.from o) v (on_open_talks f p.from o) (row table_group file.group v.tables)
inside_could c trace f p (body.OpenSs inst file mode set kind base vector parents) v past h r q fact =
    let o : StoreRequest = record { inst = inst; file = file; mode = mode; set = set; kind = kind; base = base; vector = vector; parents = parents } in none_fact (CouldTell c trace) (on_open_ss f o v.store).written (on_open_ss_talks f o v.store).1
inside_could c trace f p (body.Opened inst answer) v past h r q fact = table_could c trace (on_opened f inst answer) v (on_opened_talks f inst answer) (first_that (is_opened_in inst) v.tables)
inside_could c trace f p (body.OpenDone serial answer) v past h r q fact = none_fact (CouldTell c trace) (on_open_done f (kept_stamps v) serial answer v.users).written (on_open_done_talks f (kept_stamps v) serial answer v.users).1
inside_could c trace f p (body.Op serial k o seen) v past h r q fact =
    let its : OpFact c trace p.epoch p.to (from_user p.from serial) k o seen = subst (BodyFact c trace p) q fact in
    op_could c trace past f h.frame v.store h.store (mending v (group_of (instance_of v.store (from_user p.from serial)))) (from_user p.from serial) k o seen
    (subst (λ (e : EpochId). OpFact c trace e f.me (from_user p.from serial) k o seen) r.epoch_is (subst (λ (m : ℕ). OpFact c trace p.epoch m (from_user p.from serial) k o seen) r.to_is its))
inside_could c trace f p (body.ReadHeld serial k at len) v past h r q fact =
    let its : OpFact c trace p.epoch p.to (from_user p.from serial) k (op.Read at len) nothing_seen = subst (BodyFact c trace p) q fact in
    held_could c trace (instance_of v.store (from_user p.from serial)) (on_op f nothing_to_mend (from_user p.from serial) k (op.Read at len) nothing_seen v.store)
    (op_could c trace past f h.frame v.store h.store nothing_to_mend (from_user p.from serial) k (op.Read at len) nothing_seen
    (subst (λ (e : EpochId). OpFact c trace e f.me (from_user p.from serial) k (op.Read at len) nothing_seen) r.epoch_is (subst (λ (m : ℕ). OpFact c trace p.epoch m (from_user p.from serial) k (op.Read at len) nothing_seen) r.to_is its)))
inside_could c trace f p (body.AsHeld serial k len) v past h r q fact = none_fact (CouldTell c trace) (on_as_held f serial k v.users).written (on_as_held_talks f serial k v.users).1
inside_could c trace f p (body.OpDone serial k result) v past h r q fact = none_fact (CouldTell c trace) (on_op_done f serial k result v.users).written (on_op_done_talks f serial k result v.users).1
inside_could c trace f p (body.Close serial) v past h r q fact =
    let its : CloseFact c trace p.epoch p.to (from_user p.from serial) = subst (BodyFact c trace p) q fact in
    close_could c trace past f h.frame v.store h.store (from_user p.from serial)
    (subst (λ (e : EpochId). CloseFact c trace e f.me (from_user p.from serial)) r.epoch_is (subst (λ (m : ℕ). CloseFact c trace p.epoch m (from_user p.from serial)) r.to_is its))
inside_could c trace f p (body.Closed inst made) v past h r q fact = table_could c trace (on_closed f p.from inst made) v (on_closed_talks f p.from inst made) (first_that (is_opened_in inst) v.tables)
inside_could c trace f p (body.ClosedOk inst) v past h r q fact = none_fact (CouldTell c trace) (on_closed_ok f inst v.store).written (on_closed_ok_talks f inst v.store).1
inside_could c trace f p (body.CloseDone serial answer) v past h r q fact = none_fact (CouldTell c trace) (on_close_done f serial answer v.users).written (on_close_done_talks f serial answer v.users).1
inside_could c trace f p (body.Look call process request take file what) v past h r q fact =
    let l : LookRequest = record { call = call; process = process; request = request; take = take; file = file; what = what } in table_could c trace (on_look f p.from l) v (on_look_talks f p.from l) (row table_group file.group v.tables)
inside_could c trace f p (body.LookDone call request take answer) v past h r q fact = none_fact (CouldTell c trace) (on_look_done f call request take answer v.users).written (on_look_done_talks f call request take answer v.users).1
inside_could c trace f p (body.Notify file kind set size stamp vector holder) v past h r q fact =
    let pull : Pull = record { file = file; kind = kind; set = set; size = size; stamp = stamp; vector = vector; holder = holder; base = None; wanted = None; content = [] } in none_fact (CouldTell c trace) (on_notify f p.from (copy_of v.store file) pull v.pulls).written (on_notify_talks f p.from (copy_of v.store file) pull v.pulls).1
inside_could c trace f p (body.Page file stamp page bytes) v past h r q fact = none_fact (CouldTell c trace) (on_page f file stamp page bytes v.pulls).written (on_page_talks f file stamp page bytes v.pulls).1
inside_could c trace f p (body.Delta file wanted pages) v past h r q fact = none_fact (CouldTell c trace) (on_delta f (copy_of v.store file) file wanted pages v.pulls).written (on_delta_talks f (copy_of v.store file) file wanted pages v.pulls).1
inside_could c trace f p (body.Have file stamp) v past h r q fact = table_could c trace (on_have p.from file stamp) v (on_have_talks p.from file stamp) (row table_group file.group v.tables)
inside_could c trace f p _ v past h r q fact = tt

-- an adoption
tries_could : (c : Config) (me : ℕ) (trace : List Line) (v : SiteView) (e : Option InEpoch) → Past c trace → SiteIn c me trace v e → Could c trace (adopts_of c me e v).written
tries_could c me trace v None past h = tt
tries_could c me trace v (Some e) past h = adopts_could c trace past (frame_in c me v.boot e) v h

-- ---- the whole step ----

module _ (c : Config) (roles : RolesDo c) (links : Links) (trace : List Line) (past : Past c trace) (p : Packet) where
  framed_could : (x : Body) (e : Option InEpoch) (v : SiteView) → p.body ≡ x → nat_lt (kind_number x) 6 ≡ false → is_dropped p v ≡ false → v.epoch ≡ e → SiteIn c p.to trace v e → PacketFact c trace p → Could c trace (takes_framed c p.to p e v).written
  framed_could x None v q inside d here h fact = tt
  framed_could x (Some e) v q inside d here h fact =
      inside_could c trace (frame_in c p.to v.boot e) p p.body v past h (record { to_is = refl; to_boot_is = to_boot p v d; epoch_is = taken_epoch p x v e q inside d here; from_boot_is = taken_boot p x v e q inside d here }) refl fact

  came_could : (x : Body) (v : SiteView) → p.body ≡ x → nat_lt (kind_number x) 6 ≡ false → is_dropped p v ≡ false → SiteFact c p.to trace v → Arrives c trace p v → Could c trace (whole c p.to links (takes_framed c p.to p v.epoch v) quiet).written
  came_could x v q inside d h k = whole_fact (CouldTell c trace) c p.to links (takes_framed c p.to p v.epoch v) quiet (framed_could x v.epoch v q inside d refl h k.fact) tt

  tried_could : (x : Body) (v : SiteView) → p.body ≡ x → nat_lt (kind_number x) 6 ≡ false → is_dropped p v ≡ false → ((f : Frame) → SiteSilent (takes_inside f p.from x v)) → SiteFact c p.to trace v → Arrives c trace p v → Could c trace (whole c p.to links (takes_framed c p.to p v.epoch v) (adopts_in c p.to)).written
  tried_could x v q inside d silent h k = whole_fact (CouldTell c trace) c p.to links o (adopts_in c p.to) (none_fact (CouldTell c trace) o.written s.1) (tries_could c p.to trace o.view o.view.epoch past view)
    where
      o : Outcome SiteView
      o = takes_framed c p.to p v.epoch v

      s : SiteSilent o
      s = framed_notify c p.to p x v.epoch v q silent

      view : SiteFact c p.to trace o.view
      view = subst (λ (told : List Told). SiteFact c p.to (told_onto 0 told trace) o.view) s.0 (framed c roles 0 trace p x v.epoch v q inside d past refl h k (subst (AllRest c 0 trace) (sym s.0) tt)).view

  packet_could : (x : Body) (v : SiteView) → p.body ≡ x → is_dropped p v ≡ false → SiteFact c p.to trace v → Arrives c trace p v → Could c trace (whole c p.to links (takes c p.to links p x v) (tries_at c p.to x)).written
  packet_could body.Poll v q d h came = still_fact (CouldTell c trace) c p.to links (on_poll p.to links p.from p.from_boot p.epoch v) (poll_none p.to links p.from p.from_boot p.epoch v)
  packet_could (body.Promise reach) v q d h came = still_fact (CouldTell c trace) c p.to links (on_promise_of p.from p.from_boot p.epoch reach v.round v) (promise_none p.from p.from_boot p.epoch reach v.round v)
  packet_could (body.Refuse promised) v q d h came = still_fact (CouldTell c trace) c p.to links (on_refuse_of p.to links p.epoch promised v.round v) (refuse_none p.to links p.epoch promised v.round v)
  packet_could (body.Install members) v q d h came = still_fact (CouldTell c trace) c p.to links (on_install c p.to p.from p.from_boot p.epoch members v) (install_none c p.to p.from p.from_boot p.epoch members v)
  packet_could body.Joined v q d h came = still_fact (CouldTell c trace) c p.to links (on_joined p.from p.epoch v) refl
  packet_could (body.Notify file kind set size stamp vector holder) v q d h came = tried_could (body.Notify file kind set size stamp vector holder) v q refl d
      (λ f. notify_silent f p.from (copy_of v.store file) (record { file = file; kind = kind; set = set; size = size; stamp = stamp; vector = vector; holder = holder; base = None; wanted = None; content = [] }) v.pulls) h came
  packet_could (body.Page file stamp page bytes) v q d h came = tried_could (body.Page file stamp page bytes) v q refl d (λ f. page_silent f stamp page bytes (pull_of v.pulls file) v.pulls) h came
  packet_could (body.Delta file wanted pages) v q d h came = tried_could (body.Delta file wanted pages) v q refl d (λ f. delta_silent f (pages_in (copy_of v.store file)) wanted pages (pull_of v.pulls file) v.pulls) h came
  packet_could x v q d h came = came_could x v q refl d h came

  takes_could : (v : SiteView) → SiteFact c p.to trace v → Arrives c trace p v → Could c trace (step c p.to links v (Receives p)).written
  takes_could v h k = over (is_dropped p v) refl
    where
      over : (b : Bool) → is_dropped p v ≡ b → Could c trace (elim b as (λ (x : Bool). Outcome SiteView) [ true ↦ quiet v | false ↦ whole c p.to links (takes c p.to links p p.body v) (tries_at c p.to p.body) ]).written
      over true e = tt
      over false e = packet_could p.body v refl e h k

-- what a step of a site writes
pub step_could : (c : Config) → RolesDo c → (me : ℕ) (links : Links) (trace : List Line) (v : SiteView) (e : Event) → Past c trace → SiteFact c me trace v → EventFact c trace me v e → Could c trace (step c me links v e).written
step_could c roles me links trace v (Calls process words) past h fact = still_fact (CouldTell c trace) c me links (takes_call c me process words v) (on_call_talks (call_frame c me v.boot v.epoch) (epoch_id v.epoch) process words v.users).1
step_could c roles me links trace v (Receives p) past h fact = subst (λ (s : ℕ). SiteFact c s trace v → Could c trace (step c s links v (Receives p)).written) fact.0 (λ g. takes_could c roles links trace past p v g fact.1) h
step_could c roles me links trace v Ticks past h fact = first_fact (CouldTell c trace) (adopts_in c me v).written (ends_event c me links (adopts_in c me v).view).written (tries_could c me trace v v.epoch past h)
    (none_fact (CouldTell c trace) (ends_event c me links (adopts_in c me v).view).written (ends_keeps c me links (adopts_in c me v).view).none)
step_could c roles me links trace v Parts past h fact = still_fact (CouldTell c trace) c me links (starts_part me links v) (part_none me links v.epoch v)
step_could c roles me links trace v Merges past h fact = still_fact (CouldTell c trace) c me links (starts_merge me links v) (begins_none me links (v.promised.number + 1) (boots_where (merge_boot me links)) v)
step_could c roles me links trace v GivesUp past h fact = still_fact (CouldTell c trace) c me links (leaves me v) (leaves_none me v.epoch v)
