-- What an event of a site tells, by any property that all has that storage sites tell where they aren't asked to open, where
-- what the packet of the event tells has it too.
use Rattle.std.proofs.Common.{◌≡◌, ℕ, ◌+◌, true, false, ◌&&◌, not, cond, List, [], ◌∷◌, ◌++◌, Option, Some, None, refl}
use Rattle.locus_ids.specs.declared.ids.EpochId.{EpochId}
use Rattle.locus_ids.specs.declared.refusal.Refusal.TheVariants as refusal
use Rattle.locus_ids.specs.declared.sites.Links.{Links}
use Rattle.locus_ids.specs.declared.sites.Members.{Members}
use Rattle.locus_ids.specs.declared.sites.Sites.{Sites}
use Rattle.locus_ids.specs.declared.config.Config.{Config}
use Rattle.trace_book.specs.Same.{same_epoch}
use Rattle.trace_book.specs.declared.reply.Reply.TheVariants as reply
use Rattle.trace_book.specs.declared.call.Call.TheVariants as call
use Rattle.wire_messages.specs.declared.packet.Packet.{Packet}
use Rattle.wire_messages.specs.declared.body.Body.{Body}
use Rattle.role_steps.specs.Own.{Every}
use Rattle.role_steps.specs.Tables.{first_that}
use Rattle.role_steps.specs.Views.{Frame, SiteView, Told, Shown, Promises, Outcome, Event, Calls, Receives, Ticks, Parts, Merges, GivesUp, quiet, sends, tells, and_then, joined_to}
use Rattle.role_steps.specs.Storage.{copy_of}
use Rattle.role_steps.specs.Using.{on_call, reply_record}
use Rattle.role_steps.specs.Epochs.{chosen_members, chosen_set, on_promise, on_refuse, on_joined, is_epoch_below, frame_in, leaves_of, leaves, promised_view, promises, reached, polls, round_id, begins_round, starts_merge, boots_where, merge_boot, part_boot, starts_part_of, starts_part, promise_packet, refuse_packet, on_poll, on_promise_of, on_refuse_of, joins, may_install, is_in, joined_packet, on_install, passed_over, unanswered, decides_if, passes_over_of, passes_over}
use Rattle.role_steps.specs.Adoption.{adopt_record, is_ready, adopts_pull, without_pull, adopts_first, fits_own}
use Rattle.role_steps.specs.Mends.{has_mend_in, wants_mend, row_file, starts_mend_of, starts_mend, starts_mends_in}
use Rattle.role_steps.specs.declared.pulls.Pull.{Pull}
use Rattle.role_steps.specs.declared.rounds.InEpoch.{InEpoch}
use Rattle.role_steps.specs.declared.rounds.Round.{Round}
use Rattle.role_steps.specs.declared.synchronizing.SyncTable.{SyncTable}
use Rattle.role_steps.specs.declared.synchronizing.FileRow.{FileRow}
use Rattle.role_steps.specs.declared.users.WaitingCall.{WaitingCall}
use Rattle.role_steps.proofs.Sending.{every_append, every_map}
use Rattle.the_run.specs.Steps.{takes_inside, is_dropped, takes_framed, takes, adopts_of, adopts_in, tries_at, starts_mends_of, ends_event, whole, call_frame, epoch_id, takes_call, step}
use Rattle.trace_book.specs.declared.record.Record.TheVariants as says
use Rattle.the_run.specs.Roles.{IsForTable, IsForStore}
use Rattle.the_run.proofs.Roles.{by_role, readers_by, users_by, pulls_by}
use Rattle.the_run.proofs.Boots.{every_weaker}
use Rattle.run_laws.proofs.FactWalks.Packets.{by_packet}
use Rattle.site_laws.proofs.Makes.Telling.{Idle, Storing, idle_storing}
use Rattle.site_laws.proofs.Makes.RolesTell.{carrying, users, readers, answer_idle, on_call_idle}

module _ (P : Told → Type 0) (storing : (x : Told) → Storing x → P x) where
  abbrev SiteTells : Outcome SiteView → Type 0
  SiteTells o = Every P o.told

  pub all_stored : (xs : List Told) → Every Storing xs → Every P xs
  all_stored xs h = every_weaker Storing P xs storing h

  all_idle : (xs : List Told) → Every Idle xs → Every P xs
  all_idle xs h = every_weaker Idle P xs (λ x k. storing x (idle_storing x k)) h

  tells_then : (o p : Outcome SiteView) → SiteTells o → SiteTells p → SiteTells (joined_to o p)
  tells_then o p h g = every_append P o.told p.told h g

  -- ---- adoptions and mends ----

  first_tells : (f : Frame) (ps : List Pull) (v : SiteView) → SiteTells (adopts_first f ps v)
  first_tells f [] v = tt
  first_tells f (p ∷ ps) v =
      elim (is_ready v p) as (λ t. SiteTells (elim t [ true ↦ elim (fits_own p (copy_of v.store p.file)) [ true ↦ adopts_pull f p v | false ↦ adopts_first f ps (without_pull p v) ] | false ↦ adopts_first f ps v ])) [
        | true ↦ elim (fits_own p (copy_of v.store p.file)) as (λ t. SiteTells (elim t [ true ↦ adopts_pull f p v | false ↦ adopts_first f ps (without_pull p v) ])) [
          | true ↦ (storing (Shown (adopt_record f p)) tt, tt)
          | false ↦ first_tells f ps (without_pull p v)
        ]
        | false ↦ first_tells f ps v
      ]

  adopts_tells : (c : Config) (me : ℕ) (e : Option InEpoch) (v : SiteView) → SiteTells (adopts_of c me e v)
  adopts_tells c me None v = tt
  adopts_tells c me (Some e) v = first_tells (frame_in c me v.boot e) v.pulls v

  mend_tells : (f : Frame) (t : SyncTable) (o : Option FileRow) (v : SiteView) → SiteTells (starts_mend_of f t o v)
  mend_tells f t None v = tt
  mend_tells f t (Some r) v = all_idle (on_call f (Some f.epoch) 0 (call.Mend (row_file t r)) v.users).told (on_call_idle f (Some f.epoch) 0 (call.Mend (row_file t r)) v.users).1

  starts_mend_tells : (f : Frame) (t : SyncTable) (v : SiteView) → SiteTells (starts_mend f t v)
  starts_mend_tells f t v =
      elim (t.started && not (has_mend_in v.users t.group)) as (λ x. SiteTells (elim x [ true ↦ starts_mend_of f t (first_that (wants_mend v t) t.files) v | false ↦ quiet v ])) [
        | true ↦ mend_tells f t (first_that (wants_mend v t) t.files) v
        | false ↦ tt
      ]

  mends_tells : (f : Frame) (ts : List SyncTable) (v : SiteView) → SiteTells (starts_mends_in f ts v)
  mends_tells f [] v = tt
  mends_tells f (t ∷ ts) v = tells_then (starts_mend f t v) (starts_mends_in f ts (starts_mend f t v).view) (starts_mend_tells f t v) (mends_tells f ts (starts_mend f t v).view)

  mends_of_tells : (c : Config) (me : ℕ) (e : Option InEpoch) (v : SiteView) → SiteTells (starts_mends_of c me e v)
  mends_of_tells c me None v = tt
  mends_of_tells c me (Some e) v = mends_tells (frame_in c me v.boot e) v.tables v

  -- ---- how an epoch is formed ----

  leaves_tells : (me : ℕ) (e : Option InEpoch) (v : SiteView) → SiteTells (leaves_of me e v)
  leaves_tells me None v = tt
  leaves_tells me (Some e) v = (storing (Shown (says.Leave me e.id)) tt, every_map P (λ (w : WaitingCall). reply_record me v.boot w (reply.No (refusal.Changed e.id))) v.users.waiting (λ w. storing (reply_record me v.boot w (reply.No (refusal.Changed e.id))) tt))

  promises_tells : (me : ℕ) (id : EpochId) (reach : Sites) (v : SiteView) → SiteTells (promises me id reach v)
  promises_tells me id reach v = tells_then (leaves me v) (tells (Promises me id reach ∷ []) (promised_view id (leaves me v).view)) (leaves_tells me v.epoch v) (storing (Promises me id reach) tt, tt)

  begins_tells : (me : ℕ) (links : Links) (number : ℕ) (polled : Links) (v : SiteView) → SiteTells (begins_round me links number polled v)
  begins_tells me links number polled v =
      let o : Outcome SiteView = promises me (round_id me number v) (reached links) v in
      tells_then o (polls me (round_id me number v) polled o.view) (promises_tells me (round_id me number v) (reached links) v) tt

  part_tells : (me : ℕ) (links : Links) (e : Option InEpoch) (v : SiteView) → SiteTells (starts_part_of me links e v)
  part_tells me links None v = tt
  part_tells me links (Some e) v = begins_tells me links (v.promised.number + 1) (boots_where (part_boot me links e.members)) v

  on_poll_tells : (me : ℕ) (links : Links) (from from_boot : ℕ) (id : EpochId) (v : SiteView) → SiteTells (on_poll me links from from_boot id v)
  on_poll_tells me links from from_boot id v =
      elim (is_epoch_below v.promised id) as (λ t. SiteTells (elim t [ true ↦ and_then (promises me id (reached links) v) (λ now. sends (promise_packet me links from from_boot id now) now) | false ↦ sends (cond (same_epoch id v.promised && not v.installed) (promise_packet me links from from_boot id v) (refuse_packet me from from_boot id v)) v ])) [
        | true ↦ tells_then (promises me id (reached links) v) (sends (promise_packet me links from from_boot id (promises me id (reached links) v).view) (promises me id (reached links) v).view) (promises_tells me id (reached links) v) tt
        | false ↦ tt
      ]

  on_promise_tells : (from from_boot : ℕ) (id : EpochId) (reach : Sites) (o : Option Round) (v : SiteView) → SiteTells (on_promise_of from from_boot id reach o v)
  on_promise_tells from from_boot id reach None v = tt
  on_promise_tells from from_boot id reach (Some r) v = tt

  on_refuse_tells : (me : ℕ) (links : Links) (id theirs : EpochId) (o : Option Round) (v : SiteView) → SiteTells (on_refuse_of me links id theirs o v)
  on_refuse_tells me links id theirs None v = tt
  on_refuse_tells me links id theirs (Some r) v = elim (same_epoch r.id id) as (λ t. SiteTells (elim t [ true ↦ begins_round me links (theirs.number + 1) r.polled v | false ↦ quiet v ])) [ true ↦ begins_tells me links (theirs.number + 1) r.polled v | false ↦ tt ]

  on_install_tells : (c : Config) (me from from_boot : ℕ) (id : EpochId) (m : Members) (v : SiteView) → SiteTells (on_install c me from from_boot id m v)
  on_install_tells c me from from_boot id m v =
      elim (may_install me id m v) as (λ t. SiteTells (elim t [ true ↦ and_then (joins c me id m v) (λ now. sends (joined_packet me from from_boot id now) now) | false ↦ sends (cond (is_in id v.epoch) (joined_packet me from from_boot id v) []) v ])) [
        | true ↦ (storing (Shown (says.Join me id m)) tt, tt)
        | false ↦ tt
      ]

  decides_if_tells : (c : Config) (me : ℕ) (links : Links) (q : Round) (xs : List ℕ) (v : SiteView) → SiteTells (decides_if c me links q xs v)
  decides_if_tells c me links q [] v = (storing (Shown (says.Join me q.id (chosen_members me v.boot q (chosen_set me links q)))) tt, tt)
  decides_if_tells c me links q (x ∷ xs) v = tt

  passes_tells : (c : Config) (me : ℕ) (links : Links) (o : Option Round) (v : SiteView) → SiteTells (passes_over_of c me links o v)
  passes_tells c me links None v = tt
  passes_tells c me links (Some r) v = decides_if_tells c me links (passed_over links r) (unanswered (passed_over links r)) v

  pub ends_tells : (c : Config) (me : ℕ) (links : Links) (v : SiteView) → SiteTells (ends_event c me links v)
  ends_tells c me links v =
      let o : Outcome SiteView = passes_over c me links v in
      tells_then o (starts_mends_of c me o.view.epoch o.view) (passes_tells c me links v.round v) (mends_of_tells c me o.view.epoch o.view)

  -- ---- a packet of the epoch ----

  -- by what tables tell of it, and stores
  pub inside_tells : (H : Body → Type 0) (f : Frame) (from : ℕ) (v : SiteView) → ((x : Body) → IsForTable x → H x → SiteTells (takes_inside f from x v)) → ((x : Body) → IsForStore x → H x → SiteTells (takes_inside f from x v)) → (x : Body) → H x → SiteTells (takes_inside f from x v)
  inside_tells H f from v tables stores = by_role Q f from v (record {
    tables = tables;
    stores = stores;
    readers = readers_by Q carrying f from v (readers f) answer_idle (λ y o is same part h. all_idle o.told part.1);
    users = users_by Q carrying f from v (users f) (λ y o is part h. all_idle o.told part.1);
    pulls = pulls_by Q carrying f from v (readers f) answer_idle (λ y o is part h. all_idle o.told part.1);
    reported = λ group h. tt;
    forming = λ y is h. tt;
  })
    where
      Q : Body → Outcome SiteView → Type 0
      Q y o = H y → SiteTells o

  -- ---- the step ----

  pub whole_tells : (c : Config) (me : ℕ) (links : Links) (o : Outcome SiteView) (tries : SiteView → Outcome SiteView) → SiteTells o → SiteTells (tries o.view) → SiteTells (whole c me links o tries)
  whole_tells c me links o tries h t =
      let a : Outcome SiteView = tries o.view in
      let last : Outcome SiteView = ends_event c me links a.view in
      every_append P a.told (o.told ++ last.told) t (every_append P o.told last.told h (ends_tells c me links a.view))

  pub took : (c : Config) (me : ℕ) (links : Links) (p : Packet) (x : Body) (v : SiteView) → SiteTells (takes_framed c me p v.epoch v) → SiteTells (whole c me links (takes c me links p x v) (tries_at c me x))
  took c me links p x v h = by_packet Q c me links p v (record {
    poll = plain (on_poll me links p.from p.from_boot p.epoch v) (on_poll_tells me links p.from p.from_boot p.epoch v);
    promise = λ reach. plain (on_promise p.from p.from_boot p.epoch reach v) (on_promise_tells p.from p.from_boot p.epoch reach v.round v);
    refuse = λ promised. plain (on_refuse me links p.epoch promised v) (on_refuse_tells me links p.epoch promised v.round v);
    install = λ members. plain (on_install c me p.from p.from_boot p.epoch members v) (on_install_tells c me p.from p.from_boot p.epoch members v);
    joined = plain (on_joined p.from p.epoch v) tt;
    inside = λ y inside. plain o h;
    pulled = λ y inside silent. whole_tells c me links o (adopts_in c me) h (adopts_tells c me o.view.epoch o.view);
  }) x
    where
      o : Outcome SiteView
      o = takes_framed c me p v.epoch v

      Q : Body → Outcome SiteView → (SiteView → Outcome SiteView) → Type 0
      Q y u tries = SiteTells (whole c me links u tries)

      plain : (u : Outcome SiteView) → SiteTells u → SiteTells (whole c me links u quiet)
      plain u k = whole_tells c me links u quiet k tt

  -- what the packet of an event tells in the epoch has it, where it isn't dropped
  abbrev pub Heard : Config → ℕ → SiteView → Event → Type 0
  Heard c me v (Receives p) = is_dropped p v ≡ false → SiteTells (takes_framed c me p v.epoch v)
  Heard c me v _ = Unit {0}

  pub step_tells : (c : Config) (me : ℕ) (links : Links) (v : SiteView) (e : Event) → Heard c me v e → SiteTells (step c me links v e)
  step_tells c me links v (Calls process words) h = whole_tells c me links (takes_call c me process words v) quiet (all_idle (takes_call c me process words v).told (on_call_idle (call_frame c me v.boot v.epoch) (epoch_id v.epoch) process words v.users).1) tt
  step_tells c me links v (Receives p) h =
      (elim (is_dropped p v) as (λ t. is_dropped p v ≡ t → SiteTells (elim t [ true ↦ quiet v | false ↦ whole c me links (takes c me links p p.body v) (tries_at c me p.body) ])) [
        | true ↦ λ d. tt
        | false ↦ λ d. took c me links p p.body v (h d)
      ]) refl
  step_tells c me links v Ticks h =
      let a : Outcome SiteView = adopts_in c me v in
      every_append P a.told (ends_event c me links a.view).told (adopts_tells c me v.epoch v) (ends_tells c me links a.view)
  step_tells c me links v Parts h = whole_tells c me links (starts_part me links v) quiet (part_tells me links v.epoch v) tt
  step_tells c me links v Merges h = whole_tells c me links (starts_merge me links v) quiet (begins_tells me links (v.promised.number + 1) (boots_where (merge_boot me links)) v) tt
  step_tells c me links v GivesUp h = whole_tells c me links (leaves me v) quiet (leaves_tells me v.epoch v) tt
