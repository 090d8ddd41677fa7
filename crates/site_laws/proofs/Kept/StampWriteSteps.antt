-- The version that a step of a site writes, whatever the event.
use Rattle.std.proofs.Common.{◌≡◌, ℕ, ◌+◌, true, false, cond, not, ◌&&◌, List, [], ◌∷◌, Option, Some, None, refl, sym, subst}
use Rattle.locus_ids.specs.declared.ids.EpochId.{EpochId}
use Rattle.locus_ids.specs.declared.sites.Links.{Links}
use Rattle.locus_ids.specs.declared.sites.Members.{Members}
use Rattle.locus_ids.specs.declared.sites.Sites.{Sites}
use Rattle.locus_ids.specs.declared.config.Config.{Config}
use Rattle.trace_book.specs.Same.{same_epoch}
use Rattle.wire_messages.specs.declared.packet.Packet.{Packet}
use Rattle.wire_messages.specs.declared.body.Body.{Body}
use Rattle.role_steps.specs.Views.{SiteView, Told, DiskWrite, Outcome, Event, Calls, Receives, Ticks, Parts, Merges, GivesUp, quiet, sends, and_then, first_written}
use Rattle.role_steps.specs.Storage.{copy_of}
use Rattle.role_steps.specs.Epochs.{on_poll, on_promise, on_refuse, on_install, on_joined, is_epoch_below, frame_in, leaves_of, leaves, promises, reached, round_id, begins_round, boots_where, merge_boot, starts_merge, part_boot, starts_part_of, starts_part, promise_packet, refuse_packet, on_promise_of, on_refuse_of, joins, may_install, is_in, joined_packet}
use Rattle.role_steps.specs.Adoption.{without_pull, is_ready, adopts_pull, adopts_first, fits_own}
use Rattle.role_steps.specs.declared.pulls.Pull.{Pull}
use Rattle.role_steps.specs.declared.rounds.InEpoch.{InEpoch}
use Rattle.role_steps.specs.declared.rounds.Round.{Round}
use Rattle.the_run.specs.Steps.{is_dropped, takes_framed, takes, adopts_of, adopts_in, tries_at, ends_event, whole, takes_call, call_frame, epoch_id, step}
use Rattle.site_laws.specs.Vectors.Facts.{onto}
use Rattle.site_laws.proofs.Vectors.SiteDisks.{ends_keeps}
use Rattle.site_laws.proofs.Locks.StepFacts.{framed_notify}
use Rattle.run_laws.proofs.FactWalks.Packets.{by_packet}
use Rattle.site_laws.specs.Kept.StampLaws.{Laws}
use Rattle.site_laws.specs.Kept.StampCovering.{View}
use Rattle.site_laws.proofs.Kept.StampTold.{laws_older}
use Rattle.site_laws.proofs.Kept.StampRolesTell.{on_call_idle}
use Rattle.site_laws.proofs.Kept.StampSiteCovers.{SiteLawfully, view_alike}
use Rattle.site_laws.proofs.Kept.StampFormingCovers.{adopts_pull_fine}
use Rattle.site_laws.proofs.Kept.StampStepCovers.{Arrives, framed_fine, EventArrives}
use Rattle.site_laws.proofs.Kept.StampWriteCovers.{DiskOwes, none_owes, first_owes, framed_owes}

-- ---- forming an epoch writes nothing ----

leaves_none : (me : ℕ) (e : Option InEpoch) (v : SiteView) → (leaves_of me e v).written ≡ None
leaves_none me None v = refl
leaves_none me (Some e) v = refl

both_none : (a b : Option DiskWrite) → a ≡ None → b ≡ None → first_written a b ≡ None
both_none a b e q = subst (λ (x : Option DiskWrite). first_written x b ≡ None) (sym e) q

promises_none : (me : ℕ) (id : EpochId) (reach : Sites) (v : SiteView) → (promises me id reach v).written ≡ None
promises_none me id reach v = both_none (leaves me v).written None (leaves_none me v.epoch v) refl

begins_none : (me : ℕ) (links : Links) (number : ℕ) (polled : Links) (v : SiteView) → (begins_round me links number polled v).written ≡ None
begins_none me links number polled v = both_none (promises me (round_id me number v) (reached links) v).written None (promises_none me (round_id me number v) (reached links) v) refl

part_none : (me : ℕ) (links : Links) (e : Option InEpoch) (v : SiteView) → (starts_part_of me links e v).written ≡ None
part_none me links None v = refl
part_none me links (Some e) v = begins_none me links (v.promised.number + 1) (boots_where (part_boot me links e.members)) v

abbrev WritesNone : Outcome SiteView → Type 0
WritesNone o = o.written ≡ None

poll_none : (me : ℕ) (links : Links) (from from_boot : ℕ) (id : EpochId) (v : SiteView) → WritesNone (on_poll me links from from_boot id v)
poll_none me links from from_boot id v =
    elim (is_epoch_below v.promised id) as (λ t. WritesNone (elim t [ true ↦ and_then (promises me id (reached links) v) (λ now. sends (promise_packet me links from from_boot id now) now) | false ↦ sends (cond (same_epoch id v.promised && not v.installed) (promise_packet me links from from_boot id v) (refuse_packet me from from_boot id v)) v ])) [
      | true ↦ both_none (promises me id (reached links) v).written None (promises_none me id (reached links) v) refl
      | false ↦ refl
    ]

promise_none : (from from_boot : ℕ) (id : EpochId) (reach : Sites) (o : Option Round) (v : SiteView) → WritesNone (on_promise_of from from_boot id reach o v)
promise_none from from_boot id reach None v = refl
promise_none from from_boot id reach (Some r) v = refl

refuse_none : (me : ℕ) (links : Links) (id theirs : EpochId) (o : Option Round) (v : SiteView) → WritesNone (on_refuse_of me links id theirs o v)
refuse_none me links id theirs None v = refl
refuse_none me links id theirs (Some r) v = elim (same_epoch r.id id) as (λ t. WritesNone (elim t [ true ↦ begins_round me links (theirs.number + 1) r.polled v | false ↦ quiet v ])) [ true ↦ begins_none me links (theirs.number + 1) r.polled v | false ↦ refl ]

install_none : (c : Config) (me from from_boot : ℕ) (id : EpochId) (m : Members) (v : SiteView) → WritesNone (on_install c me from from_boot id m v)
install_none c me from from_boot id m v =
    elim (may_install me id m v) as (λ t. WritesNone (elim t [ true ↦ and_then (joins c me id m v) (λ now. sends (joined_packet me from from_boot id now) now) | false ↦ sends (cond (is_in id v.epoch) (joined_packet me from from_boot id v) []) v ])) [ true ↦ refl | false ↦ refl ]

-- ---- adoptions ----

adopts_first_owes : (c : Config) (me : ℕ) (past : List Told) (ps : List Pull) (e : InEpoch) (v : SiteView) → v.epoch ≡ Some e → (Laws c past → View c past me v) → DiskOwes c past me (adopts_first (frame_in c me v.boot e) ps v).written
adopts_first_owes c me past [] e v here h = tt
adopts_first_owes c me past (p ∷ ps) e v here h =
    elim (is_ready v p) as (λ t. Owes (elim t [ true ↦ elim (fits_own p (copy_of v.store p.file)) [ true ↦ adopts_pull (frame_in c me v.boot e) p v | false ↦ adopts_first (frame_in c me v.boot e) ps (without_pull p v) ] | false ↦ adopts_first (frame_in c me v.boot e) ps v ])) [
      | true ↦ (elim (fits_own p (copy_of v.store p.file)) as (λ t. fits_own p (copy_of v.store p.file) ≡ t → Owes (elim t [ true ↦ adopts_pull (frame_in c me v.boot e) p v | false ↦ adopts_first (frame_in c me v.boot e) ps (without_pull p v) ])) [
        | true ↦ λ above l. (adopts_pull_fine c me past p e v here above (h (laws_older c _ past l)) l).disk
        | false ↦ λ above. adopts_first_owes c me past ps e (without_pull p v) here (λ l. view_alike c past me v (without_pull p v) refl refl refl refl refl (h l))
      ]) refl
      | false ↦ adopts_first_owes c me past ps e v here h
    ]
  where
    Owes : Outcome SiteView → Type 0
    Owes o = DiskOwes c past me o.written

adopts_owes : (c : Config) (me : ℕ) (past : List Told) (o : Option InEpoch) (v : SiteView) → v.epoch ≡ o → (Laws c past → View c past me v) → DiskOwes c past me (adopts_of c me o v).written
adopts_owes c me past None v here h = tt
adopts_owes c me past (Some e) v here h = adopts_first_owes c me past v.pulls e v here h

-- ---- the step ----

untried_owes : (c : Config) (me : ℕ) (past : List Told) (links : Links) (o : Outcome SiteView) → DiskOwes c past me o.written → DiskOwes c past me (whole c me links o quiet).written
untried_owes c me past links o h = first_owes c past me o.written (ends_event c me links o.view).written h (ends_keeps c me links o.view).none

-- where an adoption is tried the event itself tells and writes nothing
tried_owes : (c : Config) (me : ℕ) (past : List Told) (links : Links) (o : Outcome SiteView) → o.told ≡ [] → o.written ≡ None → SiteLawfully c me past o → DiskOwes c past me (whole c me links o (adopts_in c me)).written
tried_owes c me past links o silent none h =
    let a : Outcome SiteView = adopts_in c me o.view in
    first_owes c past me a.written (first_written o.written (ends_event c me links a.view).written)
    (adopts_owes c me past o.view.epoch o.view refl (λ l. subst (λ (told : List Told). View c (onto told past) me o.view) silent (h (subst (λ (told : List Told). Laws c (onto told past)) (sym silent) l)).view))
    (both_none o.written (ends_event c me links a.view).written none (ends_keeps c me links a.view).none)

-- what is known of a packet that comes
record Received (c : Config) (me : ℕ) (past : List Told) (v : SiteView) (p : Packet) (x : Body) : Type 0 where
  body_is : p.body ≡ x
  arrives : Arrives past c me v p x

received_owes : (c : Config) (me : ℕ) (past : List Told) (links : Links) (p : Packet) (x : Body) (v : SiteView) → p.body ≡ x → is_dropped p v ≡ false → Arrives past c me v p x → View c past me v → DiskOwes c past me (whole c me links (takes c me links p x v) (tries_at c me x)).written
received_owes c me past links p x v q d k h = by_packet Q c me links p v (record {
  poll = λ g. none (on_poll me links p.from p.from_boot p.epoch v) (poll_none me links p.from p.from_boot p.epoch v);
  promise = λ reach g. none (on_promise p.from p.from_boot p.epoch reach v) (promise_none p.from p.from_boot p.epoch reach v.round v);
  refuse = λ promised g. none (on_refuse me links p.epoch promised v) (refuse_none me links p.epoch promised v.round v);
  install = λ members g. none (on_install c me p.from p.from_boot p.epoch members v) (install_none c me p.from p.from_boot p.epoch members v);
  joined = λ g. none (on_joined p.from p.epoch v) refl;
  inside = λ y inside g. untried_owes c me past links o (framed_owes c me past p y v.epoch v g.body_is refl d inside g.arrives h);
  pulled = λ y inside silent g. (let s : (o.told ≡ []) × (o.written ≡ None) = framed_notify c me p y v.epoch v g.body_is silent in tried_owes c me past links o s.0 s.1 (framed_fine c me past p y v.epoch v g.body_is refl d inside g.arrives h));
}) x (record { body_is = q; arrives = k })
  where
    o : Outcome SiteView
    o = takes_framed c me p v.epoch v

    Q : Body → Outcome SiteView → (SiteView → Outcome SiteView) → Type 0
    Q y u tries = Received c me past v p y → DiskOwes c past me (whole c me links u tries).written

    none : (u : Outcome SiteView) → u.written ≡ None → DiskOwes c past me (whole c me links u quiet).written
    none u e = untried_owes c me past links u (none_owes c past me u.written e)

pub step_owes : (c : Config) (me : ℕ) (past : List Told) (links : Links) (v : SiteView) (e : Event) → EventArrives past c me v e → View c past me v → DiskOwes c past me (step c me links v e).written
step_owes c me past links v (Calls process words) k h = untried_owes c me past links (takes_call c me process words v) (none_owes c past me _ (on_call_idle (call_frame c me v.boot v.epoch) (epoch_id v.epoch) process words v.users).1)
step_owes c me past links v (Receives p) k h =
    (elim (is_dropped p v) as (λ t. is_dropped p v ≡ t → Owes (elim t [ true ↦ quiet v | false ↦ whole c me links (takes c me links p p.body v) (tries_at c me p.body) ])) [
      | true ↦ λ d. tt
      | false ↦ λ d. received_owes c me past links p p.body v refl d k h
    ]) refl
  where
    Owes : Outcome SiteView → Type 0
    Owes o = DiskOwes c past me o.written
step_owes c me past links v Ticks k h = first_owes c past me (adopts_in c me v).written (ends_event c me links (adopts_in c me v).view).written (adopts_owes c me past v.epoch v refl (λ l. h)) (ends_keeps c me links (adopts_in c me v).view).none
step_owes c me past links v Parts k h = untried_owes c me past links (starts_part me links v) (none_owes c past me _ (part_none me links v.epoch v))
step_owes c me past links v Merges k h = untried_owes c me past links (starts_merge me links v) (none_owes c past me _ (begins_none me links (v.promised.number + 1) (boots_where (merge_boot me links)) v))
step_owes c me past links v GivesUp k h = untried_owes c me past links (leaves me v) (none_owes c past me _ (leaves_none me v.epoch v))
