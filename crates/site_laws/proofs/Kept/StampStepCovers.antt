-- Each event of a site keeps, sends and tells of commits what it must.
use Rattle.std.proofs.Common.{◌≡◌, ℕ, ◌+◌, ◌==◌, nat_lt, true, false, ◌&&◌, ◌||◌, List, [], ◌∷◌, ◌++◌, Option, Some, None, refl, sym, subst, arith}
use Rattle.std.specs.List.{flat_map}
use Rattle.role_steps.proofs.of_plain_facts.Numbers.{equal}
use Rattle.role_steps.proofs.of_plain_facts.Tests.{both_true, not_false, or_other}
use Rattle.locus_ids.specs.declared.ids.EpochId.{EpochId}
use Rattle.locus_ids.specs.declared.sites.Links.{Links}
use Rattle.locus_ids.specs.declared.config.Config.{Config}
use Rattle.trace_book.specs.Same.{same_epoch}
use Rattle.trace_book.specs.declared.call.Call.{Call}
use Rattle.wire_messages.specs.Bodies.{kind_number}
use Rattle.wire_messages.specs.declared.packet.Packet.{Packet}
use Rattle.wire_messages.specs.declared.body.Body.{Body}
use Rattle.role_steps.specs.Own.{Every}
use Rattle.role_steps.specs.Views.{Frame, SiteView, Told, DiskWrite, Outcome, Event, Calls, Receives, Ticks, Parts, Merges, GivesUp, quiet, joined_to, first_written, boot_in}
use Rattle.role_steps.specs.Reports.{sync_repeats}
use Rattle.role_steps.specs.Storage.{store_repeats}
use Rattle.role_steps.specs.Pulling.{pull_repeats}
use Rattle.role_steps.specs.Requests.{users_repeats}
use Rattle.role_steps.specs.Using.{on_call}
use Rattle.role_steps.specs.Epochs.{on_poll, on_promise, on_refuse, on_install, on_joined, frame_in, leaves, poll_packet, starts_merge, boots_where, merge_boot, starts_part, all_reports, unanswered, install_packet, poll_repeats, install_repeats}
use Rattle.role_steps.specs.declared.rounds.InEpoch.{InEpoch}
use Rattle.role_steps.specs.declared.rounds.Round.{Round}
use Rattle.role_steps.specs.declared.synchronizing.SyncTable.{SyncTable}
use Rattle.role_steps.proofs.Sending.{every_append, every_map, every_flat_map}
use Rattle.the_run.specs.Steps.{in_order, is_framed, is_forming, is_dropped, takes_inside, takes_framed, takes, adopts_in, tries_at, ends_event, whole, repeats_inside, repeats_of, repeats, ticks_after, call_frame, epoch_id, takes_call, step}
use Rattle.the_run.proofs.InsideSites.{adopts_of_plain}
use Rattle.the_run.proofs.InsideRoles.{on_call_still}
use Rattle.the_run.proofs.StepSends.{order_sent}
use Rattle.run_laws.specs.Naming.{Deeds, Now, ViewOk, Fine as EpochFine}
use Rattle.run_laws.proofs.Moves.{inner_view, inner_fine}
use Rattle.run_laws.proofs.InsideSteps.{adopts_of_inner, call_inner}
use Rattle.run_laws.proofs.Steps.{EventNames, takes_fine, starts_part_fine as part_goes, begins_fine as round_goes, leaves_of_fine as leave_goes}
use Rattle.site_laws.specs.Vectors.Facts.{onto, BodyFact, TableFact as Versions}
use Rattle.site_laws.proofs.Vectors.Facts.{onto_append}
use Rattle.site_laws.proofs.Vectors.RolesSend.{users_repeats_factless, pull_repeats_factless, on_call_factless}
use Rattle.site_laws.proofs.Vectors.SiteDisks.{ends_keeps}
use Rattle.site_laws.specs.Vectors.HistoryCommits.{IsSite}
use Rattle.site_laws.specs.Locks.Facts.{BodyFact as LockBody}
use Rattle.site_laws.proofs.Locks.StepFacts.{framed_notify}
use Rattle.run_laws.proofs.FactWalks.Packets.{by_packet}
use Rattle.run_laws.proofs.FactWalks.Steps.{same_epoch_eq}
use Rattle.site_laws.specs.Kept.StampLaws.{Laws}
use Rattle.site_laws.specs.Kept.StampCovering.{Bare, PacketCovers, BodyCovers, Inside, View}
use Rattle.site_laws.proofs.Kept.StampTold.{laws_before}
use Rattle.site_laws.proofs.Kept.StampFrames.{bares}
use Rattle.site_laws.proofs.Kept.StampOutcomes.{packets_after, factless_bare}
use Rattle.site_laws.proofs.Kept.StampRolesTell.{on_call_idle}
use Rattle.site_laws.proofs.Kept.StampStoreCovers.{Knows}
use Rattle.site_laws.proofs.Kept.StampCommitCovers.{store_repeats_covers}
use Rattle.site_laws.proofs.Kept.StampKeptJoins.{OneVector}
use Rattle.site_laws.proofs.Kept.StampTableCovers.{sync_repeats_bare}
use Rattle.site_laws.proofs.Kept.StampSiteCovers.{SiteFine, SiteLawfully, quiet_fine, inside_of, users_part, Comes, inside_fine}
use Rattle.site_laws.proofs.Kept.StampFormingCovers.{site_then, adopts_of_fine, leaves_of_fine, begins_fine, starts_part_fine, on_poll_fine, on_promise_fine, on_refuse_fine, on_joined_fine}
use Rattle.site_laws.proofs.Kept.StampJoinCovers.{ReleasesSynced, synced_after, all_reports_cover, on_install_fine, ends_fine}

-- ---- the end of an event ----

-- what is known of a site before each part of an event
pub record Known (K : Deeds) (c : Config) (past : List Told) (me : ℕ) (v : SiteView) : Type 0 where
  pub ok : ViewOk K v
  pub site : IsSite me
  pub synced : ReleasesSynced c past

ordered : (c : Config) (me : ℕ) (past : List Told) (o : Outcome SiteView) → SiteFine c me past o → SiteFine c me past (record { view = o.view; sent = in_order o.sent; told = o.told; written = o.written })
ordered c me past o h = record { view = h.view; sent = order_sent (PacketCovers (onto o.told past)) o.sent h.sent; goes = h.goes; disk = h.disk }

ends_with : (K : Deeds) (c : Config) (me : ℕ) (past : List Told) (links : Links) (o : Outcome SiteView) → ViewOk K o.view → IsSite me → ReleasesSynced c past → SiteLawfully c me past o → SiteLawfully c me past (joined_to o (ends_event c me links o.view))
ends_with K c me past links o ok site synced h l = site_then c me past o (ends_event c me links) h (λ k. ends_fine K c me (onto o.told past) links o.view ok site (synced_after c me o.told past k.goes synced) k.view) (ends_keeps c me links o.view).none l

-- where no adoption is tried
untried_fine : (K : Deeds) (c : Config) (me : ℕ) (past : List Told) (links : Links) (o : Outcome SiteView) → ViewOk K o.view → IsSite me → ReleasesSynced c past → SiteLawfully c me past o → SiteLawfully c me past (whole c me links o quiet)
untried_fine K c me past links o ok site synced h l = ordered c me past (joined_to o (ends_event c me links o.view)) (ends_with K c me past links o ok site synced h l)

first_part : {A : Type 0} (P : A → Type 0) (xs ys : List A) → Every P (xs ++ ys) → Every P xs
first_part P [] ys h = tt
first_part P (x ∷ xs) ys h = (h.0, first_part P xs ys h.1)

last_part : {A : Type 0} (P : A → Type 0) (xs ys : List A) → Every P (xs ++ ys) → Every P ys
last_part P [] ys h = h
last_part P (x ∷ xs) ys h = last_part P xs ys h.1

-- where one is tried the event itself tells and writes nothing
tried_fine : (K : Deeds) (c : Config) (me : ℕ) (past : List Told) (links : Links) (o : Outcome SiteView) → o.told ≡ [] → o.written ≡ None → ViewOk K o.view → IsSite me → ReleasesSynced c past → SiteLawfully c me past o → SiteLawfully c me past (whole c me links o (adopts_in c me))
tried_fine K c me past links o silent none ok site synced h l =
    subst (λ (told : List Told). SiteFine c me past (record { view = last.view; sent = a.sent ++ in_order (o.sent ++ last.sent); told = a.told ++ (told ++ last.told); written = first_written a.written (first_written o.written last.written) })) (sym silent)
    (subst (λ (w : Option DiskWrite). SiteFine c me past (record { view = last.view; sent = a.sent ++ in_order (o.sent ++ last.sent); told = a.told ++ last.told; written = first_written a.written (first_written w last.written) })) (sym none)
    (record { view = f.view; sent = all; goes = f.goes; disk = f.disk }))
  where
    a : Outcome SiteView
    a = adopts_in c me o.view

    last : Outcome SiteView
    last = ends_event c me links a.view

    lawful : Laws c (onto (a.told ++ last.told) past)
    lawful = subst (λ (told : List Told). Laws c (onto (a.told ++ (told ++ last.told)) past)) silent l

    first : SiteFine c me past o
    first = h (subst (λ (told : List Told). Laws c (onto told past)) (sym silent) (laws_before c (a.told ++ last.told) past lawful))

    view : View c past me o.view
    view = subst (λ (told : List Told). View c (onto told past) me o.view) silent first.view

    sent : Every (PacketCovers past) o.sent
    sent = subst (λ (told : List Told). Every (PacketCovers (onto told past)) o.sent) silent first.sent

    f : SiteFine c me past (joined_to a last)
    f = ends_with K c me past links a (inner_view K o.view a (adopts_of_plain c me o.view.epoch o.view ok.tables) (adopts_of_inner c me o.view.epoch o.view refl) ok) site synced (adopts_of_fine c me past o.view.epoch o.view refl view) lawful

    end : List Told
    end = onto (a.told ++ last.told) past

    all : Every (PacketCovers end) (a.sent ++ in_order (o.sent ++ last.sent))
    all = every_append (PacketCovers end) a.sent (in_order (o.sent ++ last.sent)) (first_part (PacketCovers end) a.sent last.sent f.sent)
        (order_sent (PacketCovers end) (o.sent ++ last.sent) (every_append (PacketCovers end) o.sent last.sent (packets_after c me (a.told ++ last.told) past o.sent lawful f.goes sent) (last_part (PacketCovers end) a.sent last.sent f.sent)))

-- ---- a packet ----

-- what a packet that comes carries, and what is known of the site
pub record Arrives (past : List Told) (c : Config) (me : ℕ) (v : SiteView) (p : Packet) (x : Body) : Type 0 where
  pub one : OneVector past
  pub versions : BodyFact past p.epoch x
  pub lock : LockBody past p.from me p.epoch x
  pub covers : BodyCovers past p.from me p.to_boot p.epoch x
  pub tables : (e : InEpoch) → v.epoch ≡ Some e → Every (Versions past e.id) v.tables
  pub knows : (e : InEpoch) → v.epoch ≡ Some e → Knows past (frame_in c me v.boot e) v.store

-- a packet that isn't dropped is to this boot, and inside the epoch it names the epoch of the site
pub let_in : (p : Packet) (v : SiteView) → is_dropped p v ≡ false → ((p.to_boot == v.boot) ≡ true) × ((is_forming p || is_framed p v.epoch) ≡ true)
let_in p v h = both_true (p.to_boot == v.boot) (is_forming p || is_framed p v.epoch) (not_false ((p.to_boot == v.boot) && (is_forming p || is_framed p v.epoch)) h)

pub framed_epoch : (p : Packet) (v : SiteView) (e : InEpoch) → is_dropped p v ≡ false → is_forming p ≡ false → v.epoch ≡ Some e → e.id ≡ p.epoch
framed_epoch p v e h inside here =
    let b : is_framed p (Some e) ≡ true = subst (λ (o : Option InEpoch). is_framed p o ≡ true) here (or_other (is_forming p) (is_framed p v.epoch) inside (let_in p v h).1) in
    same_epoch_eq e.id p.epoch (both_true (same_epoch e.id p.epoch) (boot_in e.members.boot p.from == p.from_boot) b).0

pub forming_not : (p : Packet) (x : Body) → p.body ≡ x → nat_lt (kind_number x) 6 ≡ false → is_forming p ≡ false
forming_not p x q h = subst (λ (y : Body). nat_lt (kind_number y) 6 ≡ false) (sym q) h

pub comes : (c : Config) (me : ℕ) (past : List Told) (p : Packet) (x : Body) (v : SiteView) (e : InEpoch) → p.body ≡ x → v.epoch ≡ Some e → is_dropped p v ≡ false → nat_lt (kind_number x) 6 ≡ false → Arrives past c me v p x → Comes c past me p.from v e x
comes c me past p x v e q here d inside k = record {
  here = here;
  one = k.one;
  versions = subst (λ (i : EpochId). BodyFact past i x) (sym same) k.versions;
  tables = k.tables e here;
  lock = subst (λ (i : EpochId). LockBody past p.from me i x) (sym same) k.lock;
  covers = subst (λ (i : EpochId). BodyCovers past p.from me v.boot i x) (sym same) (subst (λ (n : ℕ). BodyCovers past p.from me n p.epoch x) (equal p.to_boot v.boot (let_in p v d).0) k.covers);
  knows = k.knows e here;
}
  where
    same : e.id ≡ p.epoch
    same = framed_epoch p v e d (forming_not p x q inside) here

pub framed_fine : (c : Config) (me : ℕ) (past : List Told) (p : Packet) (x : Body) (o : Option InEpoch) (v : SiteView) → p.body ≡ x → v.epoch ≡ o → is_dropped p v ≡ false → nat_lt (kind_number x) 6 ≡ false → Arrives past c me v p x → View c past me v → SiteLawfully c me past (takes_framed c me p o v)
framed_fine c me past p x None v q here d inside k h = λ l. quiet_fine c me past v h
framed_fine c me past p x (Some e) v q here d inside k h =
    subst (λ (y : Body). SiteLawfully c me past (takes_inside (frame_in c me v.boot e) p.from y v)) (sym q) (inside_fine c me past p.from v e x (comes c me past p x v e q here d inside k) h)

-- what is known of a packet that comes, and of what comes of it
record Received (K : Deeds) (c : Config) (me : ℕ) (past : List Told) (v : SiteView) (p : Packet) (x : Body) (o : Outcome SiteView) : Type 0 where
  body_is : p.body ≡ x
  arrives : Arrives past c me v p x
  ok : ViewOk (Now K me o.told) o.view

received_fine : (K : Deeds) (c : Config) (me : ℕ) (past : List Told) (links : Links) (p : Packet) (x : Body) (v : SiteView) → p.body ≡ x → is_dropped p v ≡ false → Arrives past c me v p x → Known K c past me v → ViewOk (Now K me (takes c me links p x v).told) (takes c me links p x v).view → View c past me v → SiteLawfully c me past (whole c me links (takes c me links p x v) (tries_at c me x))
received_fine K c me past links p x v q d k known ok h = by_packet Q c me links p v (record {
  poll = λ g. untried (on_poll me links p.from p.from_boot p.epoch v) g.ok (on_poll_fine c me past links p.from p.from_boot p.epoch v h);
  promise = λ reach g. untried (on_promise p.from p.from_boot p.epoch reach v) g.ok (on_promise_fine c me past p.from p.from_boot p.epoch reach v.round v h);
  refuse = λ promised g. untried (on_refuse me links p.epoch promised v) g.ok (on_refuse_fine c me past links p.epoch promised v.round v h);
  install = λ members g. untried (on_install c me p.from p.from_boot p.epoch members v) g.ok (on_install_fine K c me past p.from p.from_boot p.epoch members v known.ok known.site known.synced h);
  joined = λ g. untried (on_joined p.from p.epoch v) g.ok (on_joined_fine c me past p.from p.epoch v h);
  inside = λ y inside g. untried o g.ok (framed_fine c me past p y v.epoch v g.body_is refl d inside g.arrives h);
  pulled = λ y inside silent g. (let s : (o.told ≡ []) × (o.written ≡ None) = framed_notify c me p y v.epoch v g.body_is silent in tried_fine (Now K me o.told) c me past links o s.0 s.1 g.ok known.site known.synced (framed_fine c me past p y v.epoch v g.body_is refl d inside g.arrives h));
}) x (record { body_is = q; arrives = k; ok = ok })
  where
    o : Outcome SiteView
    o = takes_framed c me p v.epoch v

    Q : Body → Outcome SiteView → (SiteView → Outcome SiteView) → Type 0
    Q y u tries = Received K c me past v p y u → SiteLawfully c me past (whole c me links u tries)

    untried : (u : Outcome SiteView) → ViewOk (Now K me u.told) u.view → SiteLawfully c me past u → SiteLawfully c me past (whole c me links u quiet)
    untried u good fine = untried_fine (Now K me u.told) c me past links u good known.site known.synced fine

-- ---- a tick ----

inside_repeats : (c : Config) (me : ℕ) (past : List Told) (e : InEpoch) (v : SiteView) → v.epoch ≡ Some e → Laws c past → IsSite me → View c past me v → Every (PacketCovers past) (repeats_inside (frame_in c me v.boot e) e v)
inside_repeats c me past e v here l site h =
    every_append P (in_order (all_reports f v)) _ (order_sent P (all_reports f v) (all_reports_cover c me past v e l site i.joined h.disk))
    (every_append P (users_repeats f v.users) _ (bares past (users_repeats f v.users) (factless_bare (users_repeats f v.users) (users_repeats_factless f v.users)))
    (every_append P (in_order (store_repeats f v.store)) _ (order_sent P (store_repeats f v.store) (store_repeats_covers past f v.store i.instances.close))
    (every_append P (in_order (pull_repeats f v.pulls)) _ (order_sent P (pull_repeats f v.pulls) (bares past (pull_repeats f v.pulls) (factless_bare (pull_repeats f v.pulls) (pull_repeats_factless f v.pulls))))
    (order_sent P (flat_map (sync_repeats f) v.tables) (bares past (flat_map (sync_repeats f) v.tables) (every_flat_map Bare (sync_repeats f) v.tables (λ (t : SyncTable). sync_repeats_bare f t)))))))
  where
    f : Frame
    f = frame_in c me v.boot e

    P : Packet → Type 0
    P = PacketCovers past

    i : Inside past f v
    i = inside_of c past me v e here h

polls_bare : (me : ℕ) (v : SiteView) (r : Option Round) → Every Bare (poll_repeats me v r)
polls_bare me v None = tt
polls_bare me v (Some r) = every_map Bare (poll_packet me v.boot r.id r.polled) (unanswered r) (λ s. tt)

repeats_fine : (c : Config) (me : ℕ) (past : List Told) (o : Option InEpoch) (v : SiteView) → v.epoch ≡ o → Laws c past → IsSite me → View c past me v → Every (PacketCovers past) (repeats_of c me o v)
repeats_fine c me past None v here l site h = order_sent (PacketCovers past) (poll_repeats me v v.round) (bares past (poll_repeats me v v.round) (polls_bare me v v.round))
repeats_fine c me past (Some e) v here l site h =
    every_append (PacketCovers past) (in_order (poll_repeats me v v.round ++ install_repeats me v e)) (repeats_inside (frame_in c me v.boot e) e v)
    (order_sent (PacketCovers past) (poll_repeats me v v.round ++ install_repeats me v e) (bares past (poll_repeats me v v.round ++ install_repeats me v e) (every_append Bare (poll_repeats me v v.round) (install_repeats me v e) (polls_bare me v v.round) (every_map Bare (install_packet me v.boot e.id e.members) v.installs (λ t. tt)))))
    (inside_repeats c me past e v here l site h)

ticks_fine : (K : Deeds) (c : Config) (me : ℕ) (past : List Told) (links : Links) (v : SiteView) → Known K c past me v → View c past me v → SiteLawfully c me past (ticks_after c me links (adopts_in c me v))
ticks_fine K c me past links v known h l = record { view = f.view; sent = all; goes = f.goes; disk = f.disk }
  where
    a : Outcome SiteView
    a = adopts_in c me v

    last : Outcome SiteView
    last = ends_event c me links a.view

    again : List Packet
    again = repeats c me a.view

    ok : ViewOk K a.view
    ok = inner_view K v a (adopts_of_plain c me v.epoch v known.ok.tables) (adopts_of_inner c me v.epoch v refl) known.ok

    later : Laws c (onto last.told (onto a.told past))
    later = subst (Laws c) (onto_append a.told last.told past) l

    now : Laws c (onto a.told past)
    now = laws_before c last.told (onto a.told past) later

    k : SiteFine c me past a
    k = adopts_of_fine c me past v.epoch v refl h now

    e : SiteFine c me (onto a.told past) last
    e = ends_fine K c me (onto a.told past) links a.view ok known.site (synced_after c me a.told past k.goes known.synced) k.view later

    f : SiteFine c me past (joined_to a last)
    f = ends_with K c me past links a ok known.site known.synced (adopts_of_fine c me past v.epoch v refl h) l

    end : List Told
    end = onto (a.told ++ last.told) past

    repeated : Every (PacketCovers (onto last.told (onto a.told past))) again
    repeated = packets_after c me last.told (onto a.told past) again later e.goes (repeats_fine c me (onto a.told past) a.view.epoch a.view refl now known.site k.view)

    all : Every (PacketCovers end) (a.sent ++ (again ++ in_order last.sent))
    all = every_append (PacketCovers end) a.sent (again ++ in_order last.sent) (first_part (PacketCovers end) a.sent last.sent f.sent)
        (every_append (PacketCovers end) again (in_order last.sent) (subst (λ (p : List Told). Every (PacketCovers p) again) (sym (onto_append a.told last.told past)) repeated) (order_sent (PacketCovers end) last.sent (last_part (PacketCovers end) a.sent last.sent f.sent)))

-- ---- the step ----

abbrev pub EventArrives : List Told → Config → ℕ → SiteView → Event → Type 0
EventArrives past c me v (Receives p) = Arrives past c me v p p.body
EventArrives past c me v _ = Unit {0}

call_fine : (c : Config) (me : ℕ) (past : List Told) (process : ℕ) (words : Call) (v : SiteView) → View c past me v → SiteLawfully c me past (takes_call c me process words v)
call_fine c me past process words v h l = users_part c me past v (on_call (call_frame c me v.boot v.epoch) (epoch_id v.epoch) process words v.users) (on_call_idle (call_frame c me v.boot v.epoch) (epoch_id v.epoch) process words v.users) (on_call_factless (call_frame c me v.boot v.epoch) (epoch_id v.epoch) process words v.users) l h

pub step_fine : (K J : Deeds) (c : Config) (me : ℕ) (past : List Told) (links : Links) (v : SiteView) (e : Event) → EventArrives past c me v e → EventNames J e → Known K c past me v → View c past me v → SiteLawfully c me past (step c me links v e)
step_fine K J c me past links v (Calls process words) k n known h =
    let o : Outcome SiteView = takes_call c me process words v in
    let f : EpochFine K me v o = inner_fine K me v o (record { boot = refl; round = refl; promised = refl; epoch = refl; tables = known.ok.tables; still = on_call_still (call_frame c me v.boot v.epoch) (epoch_id v.epoch) process words v.users }) (call_inner c me process words v) known.ok in
    untried_fine (Now K me o.told) c me past links o f.view known.site known.synced (call_fine c me past process words v h)
step_fine K J c me past links v (Receives p) k n known h =
    (elim (is_dropped p v) as (λ t. is_dropped p v ≡ t → SiteLawfully c me past (elim t [ true ↦ quiet v | false ↦ whole c me links (takes c me links p p.body v) (tries_at c me p.body) ])) [
      | true ↦ λ d l. quiet_fine c me past v h
      | false ↦ λ d. (let f : EpochFine K me v (takes c me links p p.body v) = takes_fine K me c links p p.body v J known.ok n in received_fine K c me past links p p.body v refl d k known f.view h)
    ]) refl
step_fine K J c me past links v Ticks k n known h = ticks_fine K c me past links v known h
step_fine K J c me past links v Parts k n known h = let f : EpochFine K me v (starts_part me links v) = part_goes K me links v.epoch v known.ok in untried_fine (Now K me (starts_part me links v).told) c me past links (starts_part me links v) f.view known.site known.synced (starts_part_fine c me past links v.epoch v h)
step_fine K J c me past links v Merges k n known h = let f : EpochFine K me v (starts_merge me links v) = round_goes K me links (v.promised.number + 1) (boots_where (merge_boot me links)) v known.ok (omega arith) in untried_fine (Now K me (starts_merge me links v).told) c me past links (starts_merge me links v) f.view known.site known.synced (begins_fine c me past links (v.promised.number + 1) (boots_where (merge_boot me links)) v h)
step_fine K J c me past links v GivesUp k n known h = let f : EpochFine K me v (leaves me v) = leave_goes K me v.epoch v refl known.ok in untried_fine (Now K me (leaves me v).told) c me past links (leaves me v) f.view known.site known.synced (leaves_of_fine c me past v.epoch v h)
