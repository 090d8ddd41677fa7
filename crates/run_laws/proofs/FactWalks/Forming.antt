-- Adoptions, mends, and how an epoch is formed keep each law of facts.
use Rattle.std.proofs.Common.{◌≡◌, ℕ, ◌+◌, true, false, cond, ◌&&◌, not, List, [], ◌∷◌, Option, Some, None, refl, sym, subst}
use Rattle.the_run.proofs.of_plain_facts.Tests.{both_true, not_true}
use Rattle.locus_ids.specs.declared.ids.EpochId.{EpochId}
use Rattle.locus_ids.specs.declared.sites.Members.{Members}
use Rattle.locus_ids.specs.declared.sites.Sites.{Sites}
use Rattle.locus_ids.specs.declared.sites.Links.{Links}
use Rattle.locus_ids.specs.declared.config.Config.{Config}
use Rattle.trace_book.specs.Same.{same_epoch}
use Rattle.trace_book.specs.declared.call.Call.TheVariants as call
use Rattle.wire_messages.specs.declared.packet.Packet.{Packet}
use Rattle.the_run.specs.of_role_steps.Own.{Every}
use Rattle.the_run.specs.of_role_steps.Tables.{without_row, first_that}
use Rattle.the_run.specs.of_role_steps.Views.{Frame, SiteView, Told, DiskWrite, Promises, Outcome, quiet, sends, tells, and_then, first_written}
use Rattle.the_run.specs.of_role_steps.Storage.{copy_of}
use Rattle.the_run.specs.of_role_steps.Epochs.{is_epoch_below, frame_in, leaves_of, leaves, promises, promised_view, reached, poll_packet, polled_sites, polls, round_id, begins_round, boots_where, part_boot, starts_part_of, promise_packet, refuse_packet, on_poll, on_promise_of, on_refuse_of, joins, may_install, is_in, joined_packet, on_install, on_joined, passed_over, unanswered, chosen_members, chosen_set, others_of, install_packet, installs_all, decides_if, passes_over_of, passes_over}
use Rattle.the_run.specs.of_role_steps.Adoption.{without_pull, is_ready, adopts_pull, adopts_first, fits_own}
use Rattle.the_run.specs.of_role_steps.Mends.{has_mend_in, wants_mend, starts_mend_of, starts_mend, starts_mends_in, row_file}
use Rattle.the_run.specs.of_role_steps.declared.pulls.Pull.{Pull}
use Rattle.the_run.specs.of_role_steps.declared.rounds.InEpoch.{InEpoch}
use Rattle.the_run.specs.of_role_steps.declared.rounds.Round.{Round}
use Rattle.the_run.specs.of_role_steps.declared.synchronizing.SyncTable.{SyncTable}
use Rattle.the_run.specs.of_role_steps.declared.synchronizing.FileRow.{FileRow}
use Rattle.the_run.proofs.of_role_steps.Sending.{every_cond, every_map}
use Rattle.the_run.specs.Steps.{adopts_of, starts_mends_of, ends_event, epoch_id}
use Rattle.the_run.proofs.Boots.{every_weaker}
use Rattle.run_laws.specs.Naming.{Deeds, ViewOk}
use Rattle.run_laws.proofs.Telling.{on_call_talks}
use Rattle.run_laws.specs.FactWalks.Facts.{onto, Facts, PacketIn, FineAt, IsOfForming, IsOutside}
use Rattle.run_laws.specs.FactWalks.Keeping.{Alike, IsFrameOf, IsFrameAt, FactsKeep}
use Rattle.run_laws.proofs.FactWalks.Outcomes.{told_each, written_none, view_onto, then_fine, quiet_fine}

-- ---- mends leave the epoch, and write nothing ----

abbrev LeavesEpoch : SiteView → Outcome SiteView → Type 0
LeavesEpoch v o = (o.view.epoch ≡ v.epoch) × (o.written ≡ None)

mend_leaves : (f : Frame) (t : SyncTable) (o : Option FileRow) (v : SiteView) → LeavesEpoch v (starts_mend_of f t o v)
mend_leaves f t None v = (refl, refl)
mend_leaves f t (Some r) v = (refl, (on_call_talks f (Some f.epoch) 0 (call.Mend (row_file t r)) v.users).1)

starts_mend_leaves : (f : Frame) (t : SyncTable) (v : SiteView) → LeavesEpoch v (starts_mend f t v)
starts_mend_leaves f t v =
    elim (t.started && not (has_mend_in v.users t.group)) as (λ x. LeavesEpoch v (elim x [ true ↦ starts_mend_of f t (first_that (wants_mend v t) t.files) v | false ↦ quiet v ])) [
      | true ↦ mend_leaves f t (first_that (wants_mend v t) t.files) v
      | false ↦ (refl, refl)
    ]

none_then : (a b : Option DiskWrite) → a ≡ None → b ≡ None → first_written a b ≡ None
none_then a b e f = subst (λ (x : Option DiskWrite). first_written x b ≡ None) (sym e) f

mends_none : (f : Frame) (ts : List SyncTable) (v : SiteView) → (starts_mends_in f ts v).written ≡ None
mends_none f [] v = refl
mends_none f (t ∷ ts) v = none_then (starts_mend f t v).written (starts_mends_in f ts (starts_mend f t v).view).written (starts_mend_leaves f t v).1 (mends_none f ts (starts_mend f t v).view)

mends_of_none : (c : Config) (me : ℕ) (e : Option InEpoch) (v : SiteView) → (starts_mends_of c me e v).written ≡ None
mends_of_none c me None v = refl
mends_of_none c me (Some e) v = mends_none (frame_in c me v.boot e) v.tables v

pub ends_none : (c : Config) (me : ℕ) (links : Links) (v : SiteView) → (ends_event c me links v).written ≡ None
ends_none c me links v = none_then (passes_over c me links v).written _ (passes_none c me links v.round v) (mends_of_none c me (passes_over c me links v).view.epoch (passes_over c me links v).view)
  where
    decides_none : (c : Config) (me : ℕ) (links : Links) (q : Round) (xs : List ℕ) (v : SiteView) → (decides_if c me links q xs v).written ≡ None
    decides_none c me links q [] v = refl
    decides_none c me links q (x ∷ xs) v = refl

    passes_none : (c : Config) (me : ℕ) (links : Links) (o : Option Round) (v : SiteView) → (passes_over_of c me links o v).written ≡ None
    passes_none c me links None v = refl
    passes_none c me links (Some r) v = decides_none c me links (passed_over links r) (unanswered (passed_over links r)) v

module _ (facts : Facts) (c : Config) (me : ℕ) (keeps : FactsKeep facts c me) where
  abbrev IsFine : List Told → Outcome SiteView → Type 0
  IsFine past o = FineAt facts me past o

  abbrev Knows : List Told → SiteView → Type 0
  Knows past v = facts.view past me v

  abbrev Forms : Packet → Type 0
  Forms p = IsOfForming p.body

  still : (past : List Told) (v : SiteView) → Knows past v → IsFine past (quiet v)
  still past v h = quiet_fine facts me past v h

  pub forming : (past : List Told) (ps : List Packet) → Every Forms ps → Every (PacketIn facts past) ps
  forming past ps h = every_weaker Forms (PacketIn facts past) ps (λ p. keeps.forming past p.from p.to p.epoch p.body) h

  -- agreement on an epoch alone has moved
  alike : (past : List Told) (v : SiteView) (o : Outcome SiteView) → Alike v o.view → Every IsOutside o.told → o.written ≡ None → Every Forms o.sent → Knows past v → IsFine past o
  alike past v o a told none sent h = record {
    view = view_onto facts keeps.grows o.told past me o.view (keeps.alike past v o.view a h);
    sent = forming (onto o.told past) o.sent sent;
    told = told_each facts IsOutside keeps.outside past o.told told;
    written = written_none facts past o.written none;
  }

  next : (past : List Told) (o p : Outcome SiteView) → IsFine past o → IsFine (onto o.told past) p → p.written ≡ None → IsFine past (and_then o (λ now. p))
  next past o p h g e = then_fine facts keeps.grows Knows Knows past o p h g e

  -- ---- adoptions ----

  first_fine : (past : List Told) (f : Frame) (ps : List Pull) (e : InEpoch) (v : SiteView) → f.epoch ≡ e.id → v.epoch ≡ Some e → Every (facts.pull past) ps → Knows past v → IsFine past (adopts_first f ps v)
  first_fine past f [] e v at here k h = still past v h
  first_fine past f (p ∷ ps) e v at here k h =
      elim (is_ready v p) as (λ t. IsFine past (elim t [ true ↦ elim (fits_own p (copy_of v.store p.file)) [ true ↦ adopts_pull f p v | false ↦ adopts_first f ps (without_pull p v) ] | false ↦ adopts_first f ps v ])) [
        | true ↦ elim (fits_own p (copy_of v.store p.file)) as (λ t. IsFine past (elim t [ true ↦ adopts_pull f p v | false ↦ adopts_first f ps (without_pull p v) ])) [
          | true ↦ keeps.adopts past f p e v at here k.0 h
          | false ↦ first_fine past f ps e (without_pull p v) at here k.1 (keeps.without past p v h)
        ]
        | false ↦ first_fine past f ps e v at here k.1 h
      ]

  pub adopts_fine : (past : List Told) (o : Option InEpoch) (v : SiteView) → v.epoch ≡ o → Knows past v → IsFine past (adopts_of c me o v)
  adopts_fine past None v here h = still past v h
  adopts_fine past (Some e) v here h = first_fine past (frame_in c me v.boot e) v.pulls e v refl here (keeps.pulls past v h) h

  -- ---- mends ----

  mend_fine : (past : List Told) (f : Frame) (t : SyncTable) (o : Option FileRow) (v : SiteView) → IsFrameAt f me v → Knows past v → IsFine past (starts_mend_of f t o v)
  mend_fine past f t None v q h = still past v h
  mend_fine past f t (Some r) v q h = keeps.calls past f (Some f.epoch) 0 (call.Mend (row_file t r)) v q h

  starts_mend_fine : (past : List Told) (f : Frame) (t : SyncTable) (v : SiteView) → IsFrameAt f me v → Knows past v → IsFine past (starts_mend f t v)
  starts_mend_fine past f t v q h =
      elim (t.started && not (has_mend_in v.users t.group)) as (λ x. IsFine past (elim x [ true ↦ starts_mend_of f t (first_that (wants_mend v t) t.files) v | false ↦ quiet v ])) [
        | true ↦ mend_fine past f t (first_that (wants_mend v t) t.files) v q h
        | false ↦ still past v h
      ]

  mends_fine : (past : List Told) (f : Frame) (ts : List SyncTable) (v : SiteView) → IsFrameAt f me v → Knows past v → IsFine past (starts_mends_in f ts v)
  mends_fine past f [] v q h = still past v h
  mends_fine past f (t ∷ ts) v q h =
      let o : Outcome SiteView = starts_mend f t v in
      let r : IsFrameAt f me o.view = record { site = q.site; epoch = subst (λ (x : Option InEpoch). IsFrameOf f (epoch_id x)) (sym (starts_mend_leaves f t v).0) q.epoch } in
      next past o (starts_mends_in f ts o.view) (starts_mend_fine past f t v q h) (mends_fine (onto o.told past) f ts o.view r (starts_mend_fine past f t v q h).view) (mends_none f ts o.view)

  mends_of_fine : (past : List Told) (o : Option InEpoch) (v : SiteView) → v.epoch ≡ o → Knows past v → IsFine past (starts_mends_of c me o v)
  mends_of_fine past None v here h = still past v h
  mends_of_fine past (Some e) v here h = mends_fine past (frame_in c me v.boot e) v.tables v (record { site = refl; epoch = subst (λ (x : Option InEpoch). IsFrameOf (frame_in c me v.boot e) (epoch_id x)) (sym here) refl }) h

  -- ---- how an epoch is formed ----

  pub leaves_fine : (past : List Told) (e : Option InEpoch) (v : SiteView) → Knows past v → IsFine past (leaves_of me e v)
  leaves_fine past None v h = still past v h
  leaves_fine past (Some e) v h = keeps.leaves past e v h

  promises_fine : (past : List Told) (id : EpochId) (reach : Sites) (v : SiteView) → Knows past v → IsFine past (promises me id reach v)
  promises_fine past id reach v h =
      let o : Outcome SiteView = leaves me v in
      let k : IsFine past o = leaves_fine past v.epoch v h in
      next past o (tells (Promises me id reach ∷ []) (promised_view id o.view)) k (alike (onto o.told past) o.view (tells (Promises me id reach ∷ []) (promised_view id o.view)) (record { users = refl; store = refl; pulls = refl; tables = refl; epoch = refl }) (tt, tt) refl tt k.view) refl

  pub begins_fine : (past : List Told) (links : Links) (number : ℕ) (polled : Links) (v : SiteView) → Knows past v → IsFine past (begins_round me links number polled v)
  begins_fine past links number polled v h =
      let id : EpochId = round_id me number v in
      let o : Outcome SiteView = promises me id (reached links) v in
      let k : IsFine past o = promises_fine past id (reached links) v h in
      next past o (polls me id polled o.view) k (alike (onto o.told past) o.view (polls me id polled o.view) (record { users = refl; store = refl; pulls = refl; tables = refl; epoch = refl }) tt refl (every_map Forms (poll_packet me o.view.boot id polled) (polled_sites polled) (λ s. tt)) k.view) refl

  pub part_fine : (past : List Told) (links : Links) (e : Option InEpoch) (v : SiteView) → Knows past v → IsFine past (starts_part_of me links e v)
  part_fine past links None v h = still past v h
  part_fine past links (Some e) v h = begins_fine past links (v.promised.number + 1) (boots_where (part_boot me links e.members)) v h

  pub on_poll_fine : (past : List Told) (links : Links) (from from_boot : ℕ) (id : EpochId) (v : SiteView) → Knows past v → IsFine past (on_poll me links from from_boot id v)
  on_poll_fine past links from from_boot id v h =
      elim (is_epoch_below v.promised id) as (λ t. IsFine past (elim t [ true ↦ and_then (promises me id (reached links) v) (λ now. sends (promise_packet me links from from_boot id now) now) | false ↦ sends (cond (same_epoch id v.promised && not v.installed) (promise_packet me links from from_boot id v) (refuse_packet me from from_boot id v)) v ])) [
        | true ↦ answers (promises me id (reached links) v) (promises_fine past id (reached links) v h)
        | false ↦ alike past v (sends (cond (same_epoch id v.promised && not v.installed) (promise_packet me links from from_boot id v) (refuse_packet me from from_boot id v)) v) (record { users = refl; store = refl; pulls = refl; tables = refl; epoch = refl }) tt refl (every_cond Forms (same_epoch id v.promised && not v.installed) (promise_packet me links from from_boot id v) (refuse_packet me from from_boot id v) (tt, tt) (tt, tt)) h
      ]
    where
      answers : (o : Outcome SiteView) → IsFine past o → IsFine past (and_then o (λ now. sends (promise_packet me links from from_boot id now) now))
      answers o k = next past o (sends (promise_packet me links from from_boot id o.view) o.view) k (alike (onto o.told past) o.view (sends (promise_packet me links from from_boot id o.view) o.view) (record { users = refl; store = refl; pulls = refl; tables = refl; epoch = refl }) tt refl (tt, tt) k.view) refl

  pub on_promise_fine : (past : List Told) (from from_boot : ℕ) (id : EpochId) (reach : Sites) (o : Option Round) (v : SiteView) → Knows past v → IsFine past (on_promise_of from from_boot id reach o v)
  on_promise_fine past from from_boot id reach None v h = still past v h
  on_promise_fine past from from_boot id reach (Some r) v h = alike past v (on_promise_of from from_boot id reach (Some r) v) (record { users = refl; store = refl; pulls = refl; tables = refl; epoch = refl }) tt refl tt h

  pub on_refuse_fine : (past : List Told) (links : Links) (id theirs : EpochId) (o : Option Round) (v : SiteView) → Knows past v → IsFine past (on_refuse_of me links id theirs o v)
  on_refuse_fine past links id theirs None v h = still past v h
  on_refuse_fine past links id theirs (Some r) v h =
      elim (same_epoch r.id id) as (λ t. IsFine past (elim t [ true ↦ begins_round me links (theirs.number + 1) r.polled v | false ↦ quiet v ])) [
        | true ↦ begins_fine past links (theirs.number + 1) r.polled v h
        | false ↦ still past v h
      ]

  -- ---- joining ----

  pub on_install_fine : (K : Deeds) (past : List Told) (from from_boot : ℕ) (id : EpochId) (m : Members) (v : SiteView) → ViewOk K v → Knows past v → IsFine past (on_install c me from from_boot id m v)
  on_install_fine K past from from_boot id m v ok h =
      (elim (may_install me id m v) as (λ t. may_install me id m v ≡ t → IsFine past (elim t [ true ↦ and_then (joins c me id m v) (λ now. sends (joined_packet me from from_boot id now) now) | false ↦ sends (cond (is_in id v.epoch) (joined_packet me from from_boot id v) []) v ])) [
        | true ↦ λ e. joins_on e
        | false ↦ λ e. alike past v (sends (cond (is_in id v.epoch) (joined_packet me from from_boot id v) []) v) (record { users = refl; store = refl; pulls = refl; tables = refl; epoch = refl }) tt refl (every_cond Forms (is_in id v.epoch) (joined_packet me from from_boot id v) [] (tt, tt) tt) h
      ]) refl
    where
      joins_on : may_install me id m v ≡ true → IsFine past (and_then (joins c me id m v) (λ now. sends (joined_packet me from from_boot id now) now))
      joins_on e =
          let a : (same_epoch id v.promised ≡ true) × (_ ≡ true) = both_true (same_epoch id v.promised) _ e in
          let b : (not v.installed ≡ true) × (_ ≡ true) = both_true (not v.installed) _ a.1 in
          let o : Outcome SiteView = joins c me id m v in
          let k : IsFine past o = keeps.joins past id m v (ok.waits (not_true v.installed b.0)).0 h in
          next past o (sends (joined_packet me from from_boot id o.view) o.view) k (alike (onto o.told past) o.view (sends (joined_packet me from from_boot id o.view) o.view) (record { users = refl; store = refl; pulls = refl; tables = refl; epoch = refl }) tt refl (tt, tt) k.view) refl

  pub on_joined_fine : (past : List Told) (from : ℕ) (id : EpochId) (v : SiteView) → Knows past v → IsFine past (on_joined from id v)
  on_joined_fine past from id v h =
      elim (is_in id v.epoch) as (λ b. IsFine past (quiet (cond b (record v { installs = without_row (λ s. s) from v.installs }) v))) [
        | true ↦ alike past v (quiet (record v { installs = without_row (λ s. s) from v.installs })) (record { users = refl; store = refl; pulls = refl; tables = refl; epoch = refl }) tt refl tt h
        | false ↦ still past v h
      ]

  decides_fine : (K : Deeds) (past : List Told) (links : Links) (r q : Round) (xs : List ℕ) (v : SiteView) → v.round ≡ Some r → ViewOk K v → Knows past v → IsFine past (decides_if c me links q xs v)
  decides_fine K past links r q [] v here ok h =
      let m : Members = chosen_members me v.boot q (chosen_set me links q) in
      let o : Outcome SiteView = joins c me q.id m v in
      let k : IsFine past o = keeps.joins past q.id m v (ok.waits (ok.round_is r here).1).0 h in
      next past o (installs_all me q.id m o.view) k (alike (onto o.told past) o.view (installs_all me q.id m o.view) (record { users = refl; store = refl; pulls = refl; tables = refl; epoch = refl }) tt refl (every_map Forms (install_packet me o.view.boot q.id m) (others_of me m) (λ s. tt)) k.view) refl
  decides_fine K past links r q (x ∷ xs) v here ok h = alike past v (decides_if c me links q (x ∷ xs) v) (record { users = refl; store = refl; pulls = refl; tables = refl; epoch = refl }) tt refl tt h

  passes_fine : (K : Deeds) (past : List Told) (links : Links) (o : Option Round) (v : SiteView) → v.round ≡ o → ViewOk K v → Knows past v → IsFine past (passes_over_of c me links o v)
  passes_fine K past links None v here ok h = still past v h
  passes_fine K past links (Some r) v here ok h = decides_fine K past links r (passed_over links r) (unanswered (passed_over links r)) v here ok h

  pub ends_fine : (K : Deeds) (past : List Told) (links : Links) (v : SiteView) → ViewOk K v → Knows past v → IsFine past (ends_event c me links v)
  ends_fine K past links v ok h =
      let o : Outcome SiteView = passes_over c me links v in
      let k : IsFine past o = passes_fine K past links v.round v refl ok h in
      next past o (starts_mends_of c me o.view.epoch o.view) k (mends_of_fine (onto o.told past) o.view.epoch o.view refl k.view) (mends_of_none c me o.view.epoch o.view)
