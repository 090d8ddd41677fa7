-- What a law of facts gives: that they stay when more is told, and that each handler keeps them.
use Rattle.std.specs.Prelude.{ℕ, ◌≡◌, List, [], ◌∷◌, Option, Some, None}
use Rattle.std.specs.List.{flat_map}
use Rattle.locus_ids.specs.declared.ids.EpochId.{EpochId}
use Rattle.locus_ids.specs.declared.sites.Members.{Members}
use Rattle.locus_ids.specs.declared.config.Config.{Config}
use Rattle.trace_book.specs.declared.call.Call.{Call}
use Rattle.wire_messages.specs.declared.body.Body.{Body}
use Rattle.the_run.specs.of_role_steps.Own.{Every}
use Rattle.the_run.specs.of_role_steps.Tables.{with_row}
use Rattle.the_run.specs.of_role_steps.Views.{Frame, Users, SiteView, Told, Shown, DiskWrite, Outcome}
use Rattle.the_run.specs.of_role_steps.Reports.{sync_repeats}
use Rattle.the_run.specs.of_role_steps.Storage.{copy_key, store_repeats}
use Rattle.the_run.specs.of_role_steps.Pulling.{pull_repeats}
use Rattle.the_run.specs.of_role_steps.Requests.{users_repeats}
use Rattle.the_run.specs.of_role_steps.Using.{on_call}
use Rattle.the_run.specs.of_role_steps.Epochs.{frame_in, with_users, leaves_of, joins, all_reports}
use Rattle.the_run.specs.of_role_steps.Adoption.{adopts_pull, without_pull}
use Rattle.the_run.specs.of_role_steps.declared.copies.FileCopy.{FileCopy}
use Rattle.the_run.specs.of_role_steps.declared.pulls.Pull.{Pull}
use Rattle.the_run.specs.of_role_steps.declared.rounds.InEpoch.{InEpoch}
use Rattle.the_run.specs.Steps.{takes_inside, epoch_id}
use Rattle.the_run.specs.Worlds.{fresh, formatted}
use Rattle.run_laws.specs.FactWalks.Facts.{Facts, PacketIn, FineAt, IsOfForming, IsOutside}

-- ---- what stays ----

-- each fact stays when one thing more is told
pub record Growing (facts : Facts) : Type 0 where
  pub carries : (past : List Told) (x : Told) (from to : ℕ) (e : EpochId) (b : Body) → facts.carries past from to e b → facts.carries (x ∷ past) from to e b
  pub view : (past : List Told) (x : Told) (me : ℕ) (v : SiteView) → facts.view past me v → facts.view (x ∷ past) me v
  pub disk : (past : List Told) (x : Told) (copies : List FileCopy) → facts.disk past copies → facts.disk (x ∷ past) copies

-- all but what agreement on an epoch needs is as it was, and so is the epoch
pub record Alike (v w : SiteView) : Type 0 where
  pub users : w.users ≡ v.users
  pub store : w.store ≡ v.store
  pub pulls : w.pulls ≡ v.pulls
  pub tables : w.tables ≡ v.tables
  pub epoch : w.epoch ≡ v.epoch

-- ---- a site ----

abbrev pub IsFrameOf : Frame → Option EpochId → Type 0
IsFrameOf f None = Unit {0}
IsFrameOf f (Some e) = f.epoch ≡ e

-- the frame of the site in the epoch that it is in
pub record IsFrameAt (f : Frame) (me : ℕ) (v : SiteView) : Type 0 where
  pub site : f.me ≡ me
  pub epoch : IsFrameOf f (epoch_id v.epoch)

abbrev pub of_users : SiteView → Outcome Users → Outcome SiteView
of_users v o = record { view = with_users v o.view; sent = o.sent; told = o.told; written = o.written }

-- what a tick sends again
pub record Repeats (facts : Facts) (past : List Told) (f : Frame) (v : SiteView) : Type 0 where
  pub reports : Every (PacketIn facts past) (all_reports f v)
  pub users : Every (PacketIn facts past) (users_repeats f v.users)
  pub stores : Every (PacketIn facts past) (store_repeats f v.store)
  pub pulls : Every (PacketIn facts past) (pull_repeats f v.pulls)
  pub tables : Every (PacketIn facts past) (flat_map (sync_repeats f) v.tables)

-- each thing that a site does keeps the facts
pub record FactsKeep (facts : Facts) (c : Config) (me : ℕ) : Type 0 where
  pub grows : Growing facts
  pub forming : (past : List Told) (from to : ℕ) (e : EpochId) (b : Body) → IsOfForming b → facts.carries past from to e b
  pub outside : (past : List Told) (x : Told) → IsOutside x → facts.told past x
  pub alike : (past : List Told) (v w : SiteView) → Alike v w → facts.view past me v → facts.view past me w
  -- inside an epoch
  pub inside : (past : List Told) (from : ℕ) (e : InEpoch) (v : SiteView) (x : Body) → v.epoch ≡ Some e → facts.assumes past → facts.carries past from me e.id x → facts.view past me v → FineAt facts me past (takes_inside (frame_in c me v.boot e) from x v)
  pub calls : (past : List Told) (f : Frame) (now : Option EpochId) (process : ℕ) (words : Call) (v : SiteView) → IsFrameAt f me v → facts.view past me v → FineAt facts me past (of_users v (on_call f now process words v.users))
  pub repeats : (past : List Told) (e : InEpoch) (v : SiteView) → v.epoch ≡ Some e → facts.view past me v → Repeats facts past (frame_in c me v.boot e) v
  -- adoptions
  pub pulls : (past : List Told) (v : SiteView) → facts.view past me v → Every (facts.pull past) v.pulls
  pub without : (past : List Told) (p : Pull) (v : SiteView) → facts.view past me v → facts.view past me (without_pull p v)
  pub adopts : (past : List Told) (f : Frame) (p : Pull) (e : InEpoch) (v : SiteView) → f.epoch ≡ e.id → v.epoch ≡ Some e → facts.pull past p → facts.view past me v → FineAt facts me past (adopts_pull f p v)
  -- of an epoch
  pub leaves : (past : List Told) (e : InEpoch) (v : SiteView) → facts.view past me v → FineAt facts me past (leaves_of me (Some e) v)
  pub joins : (past : List Told) (id : EpochId) (m : Members) (v : SiteView) → v.epoch ≡ None → facts.view past me v → FineAt facts me past (joins c me id m v)

-- ---- the world ----

pub record WorldsKeep (facts : Facts) (c : Config) : Type 0 where
  pub sites : (me : ℕ) → FactsKeep facts c me
  pub before : (past : List Told) (x : Told) → facts.assumes (x ∷ past) → facts.assumes past
  -- a site that stops leaves its disk, and boots from it
  pub rests : (past : List Told) (s : ℕ) (v : SiteView) → facts.view past s v → facts.disk past v.store.copies
  pub boots : (past : List Told) (s boot : ℕ) (copies : List FileCopy) → facts.disk past copies → facts.view past s (fresh boot copies)
  -- of an event that is cut off in its commit or adoption the version may be left, and its record
  pub tells : (past : List Told) (d : DiskWrite) → facts.written past d → facts.told past (Shown d.says)
  pub saves : (past : List Told) (d : DiskWrite) (copies : List FileCopy) → facts.written past d → facts.disk past copies → facts.disk (Shown d.says ∷ past) (with_row copy_key d.copy copies)
  pub formatted : (s : ℕ) → facts.disk [] (formatted c s)
