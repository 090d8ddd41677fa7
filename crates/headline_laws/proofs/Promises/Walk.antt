-- Whatever a step of a site writes is an adoption, or a commit of which a call asks so.
use Rattle.std.proofs.Common.{◌≡◌, ℕ, ◌+◌, nat_lt, Bool, true, false, List, [], ◌∷◌, Option, Some, None, refl, sym, ◌∙◌, subst}
use Rattle.role_steps.proofs.of_plain_facts.Options.{none_some, some_same}
use Rattle.locus_ids.specs.declared.config.Config.{Config}
use Rattle.locus_ids.specs.declared.ids.EpochId.{EpochId}
use Rattle.locus_ids.specs.declared.ids.Serial.{Serial}
use Rattle.locus_ids.specs.declared.sites.Links.{Links}
use Rattle.trace_book.specs.declared.record.Record.{Record}
use Rattle.trace_book.specs.declared.record.Record.TheVariants as says
use Rattle.wire_messages.specs.Bodies.{kind_number}
use Rattle.wire_messages.specs.declared.body.Body.{Body}
use Rattle.wire_messages.specs.declared.body.Body.TheVariants as body
use Rattle.wire_messages.specs.declared.packet.Packet.{Packet}
use Rattle.role_steps.specs.Adoption.{adopts_first, adopts_pull, adopt_write, is_ready, without_pull, table_group, fits_own, content_under}
use Rattle.role_steps.specs.Epochs.{frame_in, on_poll, on_promise_of, on_refuse_of, on_install, on_joined, starts_merge, boots_where, merge_boot, starts_part, leaves}
use Rattle.role_steps.specs.Looks.{LookRequest}
use Rattle.role_steps.specs.Mends.{kept_stamps, mending}
use Rattle.role_steps.specs.OperationEffects.{Mending}
use Rattle.role_steps.specs.Operations.{on_read_held}
use Rattle.role_steps.specs.Opens.{OpenRequest, on_opened}
use Rattle.role_steps.specs.Reports.{on_report, on_open, on_look, on_closed, on_have}
use Rattle.role_steps.specs.Storage.{StoreRequest, copy_of, instance_of, on_open_ss}
use Rattle.role_steps.specs.Tables.{row, first_that}
use Rattle.role_steps.specs.Views.{Frame, SiteView, DiskWrite, Outcome, Event, Calls, Receives, Ticks, Parts, Merges, GivesUp, quiet, first_written, Store}
use Rattle.role_steps.specs.declared.pulls.Pull.{Pull}
use Rattle.role_steps.specs.declared.rounds.InEpoch.{InEpoch}
use Rattle.role_steps.specs.declared.synchronizing.SyncTable.{SyncTable}
use Rattle.the_run.specs.Steps.{at_table_of, from_user, group_of, is_opened_in, is_dropped, takes_inside, takes_framed, takes, tries_at, adopts_of, adopts_in, ends_event, whole, call_frame, epoch_id, takes_call, step}
use Rattle.the_run.specs.Worlds.{Line}
use Rattle.role_steps.proofs.HeldReads.{held_read_so}
use Rattle.run_laws.specs.Words.{Talks}
use Rattle.run_laws.proofs.Telling.{on_open_ss_talks, on_closed_ok_talks, on_notify_talks, on_page_talks, on_call_talks, on_open_done_talks, on_op_done_talks, on_close_done_talks, on_look_done_talks, on_opened_talks, on_open_talks, on_look_talks, on_report_talks, on_closed_talks, on_have_talks, on_as_held_talks, on_delta_talks}
use Rattle.tree_model.specs.Folds.{Trace}
use Rattle.tree_laws.specs.Doing.{IsReceived}
use Rattle.tree_laws.specs.Packets.{CloseFact, OpFact, PacketFact, BodyFact}
use Rattle.tree_laws.specs.Printed.{entries}
use Rattle.calm_laws.specs.of_store_laws.OneTree.Places.{InsideFact, SiteFact, SiteIn}
use Rattle.calm_laws.specs.of_store_laws.OneTree.Rest.{Past}
use Rattle.calm_laws.specs.of_store_laws.OneTree.Roles.{EventFact, Ready}
use Rattle.calm_laws.proofs.of_store_laws.OneTree.Cuts.{leaves_none, begins_none, part_none, poll_none, promise_none, refuse_none, install_none}
use Rattle.calm_laws.proofs.of_store_laws.OneTree.Steps.{to_boot}
use Rattle.calm_laws.proofs.of_store_laws.OneTree.Taken.{taken_boot, taken_epoch}
use Rattle.site_laws.proofs.Vectors.SiteDisks.{ends_keeps}
use Rattle.headline_laws.proofs.Promises.Asking.{HasAsked, op_asked, close_asked}
use Rattle.headline_laws.proofs.Promises.Wrote.{Wrote, WroteBy, op_wrote, close_wrote}

abbrev pub SaysAsked : Config → Trace → Record → Type 0
SaysAsked c before (says.Commit f site stamp parents content) = HasAsked c before f site
SaysAsked c before _ = Unit {0}

-- of what is written, if anything is
abbrev pub WritesAsked : Config → List Line → Option DiskWrite → Type 0
WritesAsked c trace w = (d : DiskWrite) → w ≡ Some d → SaysAsked c (entries trace) d.says

-- a read writes nothing, in whatever form it is answered
held_none : (f : Frame) (inst : Serial) (n at len : ℕ) (s : Store) → (on_read_held f inst n at len s).written ≡ None
held_none f inst n at len s =
    (held_read_so (λ p. Unit {0}) (λ t. Unit {0}) (λ d. d ≡ None) f (record { full = λ to m k r. tt; held = λ to m k l. tt; told = λ i m o r. tt; unwritten = refl }) inst n at len s).2

module _ (c : Config) (trace : List Line) where
  none_asked : (w : Option DiskWrite) → w ≡ None → WritesAsked c trace w
  none_asked w e d k = absurd (none_some d (sym e ∙ k))

  first_asked : (a b : Option DiskWrite) → WritesAsked c trace a → WritesAsked c trace b → WritesAsked c trace (first_written a b)
  first_asked None b h k = k
  first_asked (Some x) b h k = h

  -- ---- adoptions ----

  abbrev Asked : Outcome SiteView → Type 0
  Asked o = WritesAsked c trace o.written

  first_adopted : (f : Frame) (ps : List Pull) (v : SiteView) → Asked (adopts_first f ps v)
  first_adopted f [] v = none_asked None refl
  first_adopted f (p ∷ ps) v =
      elim (is_ready v p) as (λ t. Asked (elim t [ true ↦ elim (fits_own p (copy_of v.store p.file)) [ true ↦ adopts_pull f p v | false ↦ adopts_first f ps (without_pull p v) ] | false ↦ adopts_first f ps v ])) [
        | true ↦ elim (fits_own p (copy_of v.store p.file)) as (λ t. Asked (elim t [ true ↦ adopts_pull f p v | false ↦ adopts_first f ps (without_pull p v) ])) [
          | true ↦ λ d e. subst (λ (x : DiskWrite). SaysAsked c (entries trace) x.says) (some_same (adopt_write f p (content_under v p)) d e) tt
          | false ↦ first_adopted f ps (without_pull p v)
        ]
        | false ↦ first_adopted f ps v
      ]

  of_adopted : (me : ℕ) (e : Option InEpoch) (v : SiteView) → WritesAsked c trace (adopts_of c me e v).written
  of_adopted me None v = none_asked None refl
  of_adopted me (Some e) v = first_adopted (frame_in c me v.boot e) v.pulls v

  -- ---- a packet of the epoch ----

  table_asked : (g : SyncTable → Outcome SyncTable) (o : Option SyncTable) (v : SiteView) → ((t : SyncTable) → Talks (g t)) → WritesAsked c trace (at_table_of g o v).written
  table_asked g None v h = none_asked None refl
  table_asked g (Some t) v h = none_asked (g t).written (h t).1

  module _ (f : Frame) (p : Packet) (v : SiteView) (ready : Ready c trace f) (h : InsideFact c f trace v) (r : IsReceived f p) where
    op_writes : (serial k : ℕ) (o : _) (seen : List ℕ) → OpFact c trace p.epoch p.to (from_user p.from serial) k o seen → WritesAsked c trace (takes_inside f p.from (body.Op serial k o seen) v).written
    op_writes serial k o seen fact d e =
        let m : Mending = mending v (group_of (instance_of v.store (from_user p.from serial))) in
        let w : WroteBy f v.store (from_user p.from serial) k o d = op_wrote f m (from_user p.from serial) k o seen v.store d e in
        subst (SaysAsked c (entries trace)) (sym w.wrote.says_is)
        (op_asked c trace ready.past f ready.frame v.store h.store (from_user p.from serial) k o seen d
        (subst (λ (y : EpochId). OpFact c trace y f.me (from_user p.from serial) k o seen) r.epoch_is (subst (λ (z : ℕ). OpFact c trace p.epoch z (from_user p.from serial) k o seen) r.to_is fact)) w)

    close_writes : (serial : ℕ) → CloseFact c trace p.epoch p.to (from_user p.from serial) → WritesAsked c trace (takes_inside f p.from (body.Close serial) v).written
    close_writes serial fact d e =
        let w : Wrote f v.store (from_user p.from serial) d = close_wrote f (from_user p.from serial) v.store d e in
        subst (SaysAsked c (entries trace)) (sym w.says_is)
        (close_asked c trace ready.past f ready.frame v.store h.store (from_user p.from serial) d
        (subst (λ (y : EpochId). CloseFact c trace y f.me (from_user p.from serial)) r.epoch_is (subst (λ (z : ℕ). CloseFact c trace p.epoch z (from_user p.from serial)) r.to_is fact)) w)

    inside_asked : (x : Body) → BodyFact c trace p x → WritesAsked c trace (takes_inside f p.from x v).written
    inside_asked (body.Report group copies) fact = table_asked (on_report f p.from copies) (row table_group group v.tables) v (on_report_talks f p.from copies)
    inside_asked (body.Open serial call process request file how) fact =
        let o : OpenRequest = record { serial = serial; call = call; process = process; request = request; file = file; how = how } in table_asked (on_open f p.from o) (row table_group file.group v.tables) v (on_open_talks f p.from o)
    inside_asked (body.OpenSs inst file mode set kind base vector parents) fact =
        let o : StoreRequest = record { inst = inst; file = file; mode = mode; set = set; kind = kind; base = base; vector = vector; parents = parents } in none_asked (on_open_ss f o v.store).written (on_open_ss_talks f o v.store).1
    inside_asked (body.Opened inst answer) fact = table_asked (on_opened f inst answer) (first_that (is_opened_in inst) v.tables) v (on_opened_talks f inst answer)
    inside_asked (body.OpenDone serial answer) fact = none_asked _ (on_open_done_talks f (kept_stamps v) serial answer v.users).1
    inside_asked (body.Op serial k o seen) fact = op_writes serial k o seen fact
    inside_asked (body.ReadHeld serial k at len) fact = none_asked _ (held_none f (from_user p.from serial) k at len v.store)
    inside_asked (body.OpDone serial k result) fact = none_asked _ (on_op_done_talks f serial k result v.users).1
    inside_asked (body.AsHeld serial k len) fact = none_asked _ (on_as_held_talks f serial k v.users).1
    inside_asked (body.Close serial) fact = close_writes serial fact
    inside_asked (body.Closed inst made) fact = table_asked (on_closed f p.from inst made) (first_that (is_opened_in inst) v.tables) v (on_closed_talks f p.from inst made)
    inside_asked (body.ClosedOk inst) fact = none_asked _ (on_closed_ok_talks f inst v.store).1
    inside_asked (body.CloseDone serial answer) fact = none_asked _ (on_close_done_talks f serial answer v.users).1
    inside_asked (body.Look call process request take file what) fact =
        let l : LookRequest = record { call = call; process = process; request = request; take = take; file = file; what = what } in table_asked (on_look f p.from l) (row table_group file.group v.tables) v (on_look_talks f p.from l)
    inside_asked (body.LookDone call request take answer) fact = none_asked _ (on_look_done_talks f call request take answer v.users).1
    inside_asked (body.Notify file kind set size stamp vector holder) fact =
        let pull : Pull = record { file = file; kind = kind; set = set; size = size; stamp = stamp; vector = vector; holder = holder; base = None; wanted = None; content = [] } in none_asked _ (on_notify_talks f p.from (copy_of v.store file) pull v.pulls).1
    inside_asked (body.Page file stamp page bytes) fact = none_asked _ (on_page_talks f file stamp page bytes v.pulls).1
    inside_asked (body.Delta file wanted pages) fact = none_asked _ (on_delta_talks f (copy_of v.store file) file wanted pages v.pulls).1
    inside_asked (body.Have file stamp) fact = table_asked (on_have p.from file stamp) (row table_group file.group v.tables) v (on_have_talks p.from file stamp)
    inside_asked _ fact = none_asked None refl

  -- ---- the whole step ----

  whole_asked : (me : ℕ) (links : Links) (o : Outcome SiteView) (tries : SiteView → Outcome SiteView) → WritesAsked c trace o.written → WritesAsked c trace (tries o.view).written → WritesAsked c trace (whole c me links o tries).written
  whole_asked me links o tries h k = first_asked (tries o.view).written (first_written o.written (ends_event c me links (tries o.view).view).written) k
      (first_asked o.written (ends_event c me links (tries o.view).view).written h (none_asked _ (ends_keeps c me links (tries o.view).view).none))

  still_asked : (me : ℕ) (links : Links) (o : Outcome SiteView) → o.written ≡ None → WritesAsked c trace (whole c me links o quiet).written
  still_asked me links o e = whole_asked me links o quiet (none_asked o.written e) (none_asked None refl)

  framed_asked : (p : Packet) (x : Body) (e : Option InEpoch) (v : SiteView) → p.body ≡ x → nat_lt (kind_number x) 6 ≡ false → is_dropped p v ≡ false → Past c trace → v.epoch ≡ e → SiteIn c p.to trace v e → PacketFact c trace p → WritesAsked c trace (takes_framed c p.to p e v).written
  framed_asked p x None v q inside d past here h fact = none_asked None refl
  framed_asked p x (Some e) v q inside d past here h fact =
      inside_asked (frame_in c p.to v.boot e) p v (record { past = past; frame = h.frame }) h
      (record { to_is = refl; to_boot_is = to_boot p v d; epoch_is = taken_epoch p x v e q inside d here; from_boot_is = taken_boot p x v e q inside d here }) p.body fact

  packet_asked : (links : Links) (p : Packet) (x : Body) (v : SiteView) → p.body ≡ x → is_dropped p v ≡ false → Past c trace → SiteFact c p.to trace v → PacketFact c trace p → WritesAsked c trace (whole c p.to links (takes c p.to links p x v) (tries_at c p.to x)).written
  packet_asked links p body.Poll v q d past h fact = still_asked p.to links (on_poll p.to links p.from p.from_boot p.epoch v) (poll_none p.to links p.from p.from_boot p.epoch v)
  packet_asked links p (body.Promise reach) v q d past h fact = still_asked p.to links (on_promise_of p.from p.from_boot p.epoch reach v.round v) (promise_none p.from p.from_boot p.epoch reach v.round v)
  packet_asked links p (body.Refuse promised) v q d past h fact = still_asked p.to links (on_refuse_of p.to links p.epoch promised v.round v) (refuse_none p.to links p.epoch promised v.round v)
  packet_asked links p (body.Install members) v q d past h fact = still_asked p.to links (on_install c p.to p.from p.from_boot p.epoch members v) (install_none c p.to p.from p.from_boot p.epoch members v)
  packet_asked links p body.Joined v q d past h fact = still_asked p.to links (on_joined p.from p.epoch v) refl
  packet_asked links p (body.Notify file kind set size stamp vector holder) v q d past h fact = whole_asked p.to links (takes_framed c p.to p v.epoch v) (adopts_in c p.to) (framed_asked p (body.Notify file kind set size stamp vector holder) v.epoch v q refl d past refl h fact) (of_adopted p.to (takes_framed c p.to p v.epoch v).view.epoch (takes_framed c p.to p v.epoch v).view)
  packet_asked links p (body.Page file stamp page bytes) v q d past h fact = whole_asked p.to links (takes_framed c p.to p v.epoch v) (adopts_in c p.to) (framed_asked p (body.Page file stamp page bytes) v.epoch v q refl d past refl h fact) (of_adopted p.to (takes_framed c p.to p v.epoch v).view.epoch (takes_framed c p.to p v.epoch v).view)
  packet_asked links p (body.Delta file wanted pages) v q d past h fact = whole_asked p.to links (takes_framed c p.to p v.epoch v) (adopts_in c p.to) (framed_asked p (body.Delta file wanted pages) v.epoch v q refl d past refl h fact) (of_adopted p.to (takes_framed c p.to p v.epoch v).view.epoch (takes_framed c p.to p v.epoch v).view)
  packet_asked links p x v q d past h fact = whole_asked p.to links (takes_framed c p.to p v.epoch v) quiet (framed_asked p x v.epoch v q refl d past refl h fact) (none_asked None refl)

  takes_asked : (links : Links) (p : Packet) (v : SiteView) → Past c trace → SiteFact c p.to trace v → PacketFact c trace p → WritesAsked c trace (step c p.to links v (Receives p)).written
  takes_asked links p v past h fact = over (is_dropped p v) refl
    where
      over : (b : Bool) → is_dropped p v ≡ b → WritesAsked c trace (elim b as (λ (x : Bool). Outcome SiteView) [ true ↦ quiet v | false ↦ whole c p.to links (takes c p.to links p p.body v) (tries_at c p.to p.body) ]).written
      over true e = none_asked None refl
      over false e = packet_asked links p p.body v refl e past h fact

  pub step_asked : (me : ℕ) (links : Links) (v : SiteView) (e : Event) → Past c trace → SiteFact c me trace v → EventFact c trace me v e → WritesAsked c trace (step c me links v e).written
  step_asked me links v (Calls process words) past h fact = still_asked me links (takes_call c me process words v) (on_call_talks (call_frame c me v.boot v.epoch) (epoch_id v.epoch) process words v.users).1
  step_asked me links v (Receives p) past h fact = subst (λ (s : ℕ). SiteFact c s trace v → WritesAsked c trace (step c s links v (Receives p)).written) fact.0 (λ g. takes_asked links p v past g fact.1.fact) h
  step_asked me links v Ticks past h fact = first_asked (adopts_in c me v).written (ends_event c me links (adopts_in c me v).view).written (of_adopted me v.epoch v) (none_asked _ (ends_keeps c me links (adopts_in c me v).view).none)
  step_asked me links v Parts past h fact = still_asked me links (starts_part me links v) (part_none me links v.epoch v)
  step_asked me links v Merges past h fact = still_asked me links (starts_merge me links v) (begins_none me links (v.promised.number + 1) (boots_where (merge_boot me links)) v)
  step_asked me links v GivesUp past h fact = still_asked me links (leaves me v) (leaves_none me v.epoch v)
