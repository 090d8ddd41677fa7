-- What each event of a site keeps, tells and sends of instances.
use Rattle.std.proofs.Common.{◌≡◌, ◌≤◌, ℕ, ◌+◌, ◌==◌, nat_lt, true, false, ◌&&◌, ◌||◌, List, ◌++◌, Option, Some, None, refl, sym, subst, arith}
use Rattle.std.specs.List.{flat_map}
use Rattle.role_steps.proofs.of_plain_facts.Numbers.{equal}
use Rattle.role_steps.proofs.of_plain_facts.Tests.{both_true, not_false, or_other}
use Rattle.locus_ids.specs.declared.sites.Links.{Links}
use Rattle.locus_ids.specs.declared.config.Config.{Config}
use Rattle.locus_ids.specs.Sizes.{sites_max}
use Rattle.trace_book.specs.Same.{same_epoch}
use Rattle.trace_book.specs.declared.call.Call.{Call}
use Rattle.wire_messages.specs.Bodies.{kind_number}
use Rattle.wire_messages.specs.declared.packet.Packet.{Packet}
use Rattle.wire_messages.specs.declared.body.Body.{Body}
use Rattle.wire_messages.specs.declared.body.Body.TheVariants as body
use Rattle.role_steps.specs.Own.{Every}
use Rattle.role_steps.specs.Views.{Frame, Users, SiteView, Outcome, Event, Calls, Receives, Ticks, Parts, Merges, GivesUp, quiet, boot_in}
use Rattle.role_steps.specs.Reports.{sync_repeats}
use Rattle.role_steps.specs.Storage.{store_repeats}
use Rattle.role_steps.specs.Pulling.{pull_repeats}
use Rattle.role_steps.specs.Requests.{users_repeats}
use Rattle.role_steps.specs.Using.{on_call}
use Rattle.role_steps.specs.Epochs.{frame_in, leaves, poll_packet, starts_merge, boots_where, merge_boot, starts_part, all_reports, unanswered, install_packet, poll_repeats, install_repeats}
use Rattle.role_steps.specs.declared.rounds.InEpoch.{InEpoch}
use Rattle.role_steps.specs.declared.rounds.Round.{Round}
use Rattle.role_steps.proofs.Sending.{every_append, every_map, every_flat_map}
use Rattle.the_run.specs.Joins.{Plain}
use Rattle.the_run.specs.Steps.{in_order, is_framed, is_forming, is_dropped, takes_inside, takes_framed, takes, adopts_in, tries_at, ends_event, whole, repeats_inside, repeats_of, repeats, ticks_after, call_frame, epoch_id, takes_call, step}
use Rattle.the_run.proofs.InsideSites.{adopts_of_plain, tries_plain}
use Rattle.the_run.proofs.InsideRoles.{on_call_still}
use Rattle.the_run.proofs.StepSends.{order_sent}
use Rattle.the_run.proofs.Joining.{plain_quiet}
use Rattle.run_laws.specs.Naming.{Deeds, Names, Now, ViewOk, Fine as EpochFine, Inner}
use Rattle.run_laws.proofs.Moves.{inner_view, inner_fine}
use Rattle.run_laws.proofs.InsideSteps.{quiet_inner, tries_inner, adopts_of_inner, call_inner}
use Rattle.run_laws.proofs.Steps.{EventNames, takes_fine, starts_part_fine, begins_fine, leaves_of_fine}
use Rattle.run_laws.proofs.FactWalks.Packets.{by_packet}
use Rattle.run_laws.proofs.FactWalks.Steps.{same_epoch_eq}
use Rattle.site_laws.specs.Packs.InstanceBook.{Book, IsOf, Sound}
use Rattle.site_laws.specs.Packs.InstanceFacts.{BodyFact, PacketFact, Factless, ToldFact, UsersFact, ViewFact, Fine}
use Rattle.site_laws.proofs.Packs.InstanceBooks.{Leads, grown_then, factless, packets_later, tolds_later}
use Rattle.site_laws.proofs.Packs.InstanceUsersFacts.{AskedHere, on_call_fine, users_repeats_fact}
use Rattle.site_laws.proofs.Packs.InstanceStoreFacts.{store_repeats_factless}
use Rattle.site_laws.proofs.Packs.InstanceSyncEvents.{sync_repeats_factless}
use Rattle.site_laws.proofs.Packs.InstanceSiteFacts.{SiteFine, quiet_site, inside_of, users_part, pull_repeats_factless, Passes, inside_fine}
use Rattle.site_laws.proofs.Packs.InstanceFormingFacts.{adopts_of_fine, ends_fine, all_reports_fact, on_poll_fine, on_promise_fine, on_refuse_fine, on_install_fine, on_joined_fine}
use Rattle.site_laws.proofs.Packs.InstanceFormingFacts as forming

-- ---- an event and its end ----

whole_fine : (K : Deeds) (c : Config) (me boot : ℕ) (book : Book) (links : Links) (o : Outcome SiteView) (tries : SiteView → Outcome SiteView) → me ≤ sites_max → ViewOk K o.view → Plain o.view (tries o.view) → Inner o.view (tries o.view) → SiteFine c me boot book o →
    ((b : Book) → Sound c b → ViewFact c b me o.view → SiteFine c me o.view.boot b (tries o.view)) → SiteFine c me boot book (whole c me links o tries)
whole_fine K c me boot book links o tries small ok plain inner h tried =
    let a : Outcome SiteView = tries o.view in
    let last : Outcome SiteView = ends_event c me links a.view in
    let k : SiteFine c me boot h.book a = subst (λ (b : ℕ). SiteFine c me b h.book a) h.view.1 (tried h.book h.sound h.view.0) in
    let e : SiteFine c me boot k.book last = subst (λ (b : ℕ). SiteFine c me b k.book last) k.view.1 (ends_fine K c k.book me links a.view small (inner_view K o.view a plain inner ok) k.sound k.view.0) in
    let first : Leads h.book e.book = (grown_then (IsOf me boot) h.book k.book e.book k.grown e.grown).leads in
    record {
      book = e.book;
      grown = grown_then (IsOf me boot) book h.book e.book h.grown (grown_then (IsOf me boot) h.book k.book e.book k.grown e.grown);
      sound = e.sound;
      view = e.view;
      sent = every_append (PacketFact e.book) a.sent (in_order (o.sent ++ last.sent)) (packets_later k.book e.book e.grown.leads a.sent k.sent)
          (order_sent (PacketFact e.book) (o.sent ++ last.sent) (every_append (PacketFact e.book) o.sent last.sent (packets_later h.book e.book first o.sent h.sent) e.sent));
      told = every_append (ToldFact e.book) a.told (o.told ++ last.told) (tolds_later k.book e.book e.grown.leads a.told k.told)
          (every_append (ToldFact e.book) o.told last.told (tolds_later h.book e.book first o.told h.told) e.told);
    }

-- where no adoption is tried
untried_fine : (K : Deeds) (c : Config) (me boot : ℕ) (book : Book) (links : Links) (o : Outcome SiteView) → me ≤ sites_max → ViewOk K o.view → SiteFine c me boot book o → SiteFine c me boot book (whole c me links o quiet)
untried_fine K c me boot book links o small ok h = whole_fine K c me boot book links o quiet small ok (plain_quiet o.view ok.tables) (quiet_inner o.view) h (λ b s g. quiet_site c me b o.view s g)

tries_fine : (c : Config) (me : ℕ) (book : Book) (x : Body) (v : SiteView) → Sound c book → ViewFact c book me v → SiteFine c me v.boot book (tries_at c me x v)
tries_fine c me book (body.Notify file kind set size stamp vector holder) v s h = adopts_of_fine c book me v.epoch v refl s h
tries_fine c me book (body.Page file stamp page bytes) v s h = adopts_of_fine c book me v.epoch v refl s h
tries_fine c me book (body.Delta file wanted pages) v s h = adopts_of_fine c book me v.epoch v refl s h
tries_fine c me book _ v s h = quiet_site c me book v s h

-- ---- a packet ----

-- a packet inside the epoch passes its frame
passes : (me : ℕ) (p : Packet) (v : SiteView) (e : InEpoch) → is_dropped p v ≡ false → p.to ≡ me → is_forming p ≡ false → v.epoch ≡ Some e → Passes me p v e
passes me p v e h to inside here =
    let a : ((p.to_boot == v.boot) ≡ true) × ((is_forming p || is_framed p v.epoch) ≡ true) = both_true (p.to_boot == v.boot) (is_forming p || is_framed p v.epoch) (not_false ((p.to_boot == v.boot) && (is_forming p || is_framed p v.epoch)) h) in
    let b : is_framed p (Some e) ≡ true = subst (λ (o : Option InEpoch). is_framed p o ≡ true) here (or_other (is_forming p) (is_framed p v.epoch) inside a.1) in
    let d : (same_epoch e.id p.epoch ≡ true) × ((boot_in e.members.boot p.from == p.from_boot) ≡ true) = both_true (same_epoch e.id p.epoch) (boot_in e.members.boot p.from == p.from_boot) b in
    record { epoch = same_epoch_eq e.id p.epoch d.0; from_boot = equal (boot_in e.members.boot p.from) p.from_boot d.1; to = to; to_boot = equal p.to_boot v.boot a.0 }

framed_fine : (c : Config) (me : ℕ) (book : Book) (p : Packet) (x : Body) (o : Option InEpoch) (v : SiteView) → p.body ≡ x → v.epoch ≡ o → ((e : InEpoch) → v.epoch ≡ Some e → Passes me p v e) → me ≤ sites_max → Sound c book → BodyFact book p x → ViewFact c book me v → SiteFine c me v.boot book (takes_framed c me p o v)
framed_fine c me book p x None v q here passing small s k h = quiet_site c me book v s h
framed_fine c me book p x (Some e) v q here passing small s k h =
    subst (λ (y : Body). SiteFine c me v.boot book (takes_inside (frame_in c me v.boot e) p.from y v)) (sym q) (inside_fine c me book p v e x here small s (passing e here) k h)

-- what the site that receives a packet knows of it
record Comes (J : Deeds) (book : Book) (me : ℕ) (p : Packet) (x : Body) (v : SiteView) : Type 0 where
  body_is : p.body ≡ x
  taken : is_dropped p v ≡ false
  to : p.to ≡ me
  names : Names J p.epoch x
  fact : BodyFact book p x

inside_comes : (J : Deeds) (c : Config) (me : ℕ) (book : Book) (p : Packet) (x : Body) (v : SiteView) → nat_lt (kind_number x) 6 ≡ false → me ≤ sites_max → Sound c book → Comes J book me p x v → ViewFact c book me v → SiteFine c me v.boot book (takes_framed c me p v.epoch v)
inside_comes J c me book p x v inside small s k h =
    framed_fine c me book p x v.epoch v k.body_is refl (λ e here. passes me p v e k.taken k.to (subst (λ (y : Body). nat_lt (kind_number y) 6 ≡ false) (sym k.body_is) inside) here) small s k.fact h

received_fine : (K J : Deeds) (c : Config) (me : ℕ) (book : Book) (links : Links) (p : Packet) (x : Body) (v : SiteView) → me ≤ sites_max → ViewOk K v → Sound c book → Comes J book me p x v → ViewFact c book me v → SiteFine c me v.boot book (takes c me links p x v)
received_fine K J c me book links p x v small ok s k h = by_packet Q c me links p v (record {
  poll = λ k. on_poll_fine c book me links p.from p.from_boot p.epoch v s h;
  promise = λ reach k. on_promise_fine c book me p.from p.from_boot p.epoch reach v.round v refl s h;
  refuse = λ promised k. on_refuse_fine K c book me links p.epoch promised v.round v refl ok k.names s h;
  install = λ members k. on_install_fine K c book me p.from p.from_boot p.epoch members v ok k.fact s h;
  joined = λ k. on_joined_fine c book me p.from p.epoch v s h;
  inside = λ y inside k. inside_comes J c me book p y v inside small s k h;
  pulled = λ y inside silent k. inside_comes J c me book p y v inside small s k h;
}) x k
  where
    Q : Body → Outcome SiteView → (SiteView → Outcome SiteView) → Type 0
    Q y o tries = Comes J book me p y v → SiteFine c me v.boot book o

-- ---- a tick ----

polls_factless : (me : ℕ) (v : SiteView) (r : Option Round) → Every Factless (poll_repeats me v r)
polls_factless me v None = tt
polls_factless me v (Some r) = every_map Factless (poll_packet me v.boot r.id r.polled) (unanswered r) (λ s. tt)

inside_repeats : (c : Config) (me : ℕ) (book : Book) (e : InEpoch) (v : SiteView) → ViewFact c book me v → Every (PacketFact book) (repeats_inside (frame_in c me v.boot e) e v)
inside_repeats c me book e v h =
    every_append P (in_order (all_reports f v)) _ (order_sent P (all_reports f v) (all_reports_fact book f v))
    (every_append P (users_repeats f v.users) _ (users_repeats_fact book f v.users h.users)
    (every_append P (in_order (store_repeats f v.store)) _ (order_sent P (store_repeats f v.store) (factless book (store_repeats f v.store) (store_repeats_factless f v.store)))
    (every_append P (in_order (pull_repeats f v.pulls)) _ (order_sent P (pull_repeats f v.pulls) (factless book (pull_repeats f v.pulls) (pull_repeats_factless book f v.pulls)))
    (order_sent P (flat_map (sync_repeats f) v.tables) (factless book (flat_map (sync_repeats f) v.tables) (every_flat_map Factless (sync_repeats f) v.tables (λ t. sync_repeats_factless f t)))))))
  where
    f : Frame
    f = frame_in c me v.boot e

    P : Packet → Type 0
    P = PacketFact book

repeats_fact : (c : Config) (me : ℕ) (book : Book) (o : Option InEpoch) (v : SiteView) → v.epoch ≡ o → ViewFact c book me v → Every (PacketFact book) (repeats_of c me o v)
repeats_fact c me book None v here h = order_sent (PacketFact book) (poll_repeats me v v.round) (factless book (poll_repeats me v v.round) (polls_factless me v v.round))
repeats_fact c me book (Some e) v here h =
    every_append (PacketFact book) (in_order (poll_repeats me v v.round ++ install_repeats me v e)) (repeats_inside (frame_in c me v.boot e) e v)
    (order_sent (PacketFact book) (poll_repeats me v v.round ++ install_repeats me v e) (every_append (PacketFact book) (poll_repeats me v v.round) (install_repeats me v e) (factless book (poll_repeats me v v.round) (polls_factless me v v.round)) (every_map (PacketFact book) (install_packet me v.boot e.id e.members) v.installs (λ t. (inside_of c book me v e here h).listed))))
    (inside_repeats c me book e v h)

ticks_fine : (K : Deeds) (c : Config) (me : ℕ) (book : Book) (links : Links) (v : SiteView) → me ≤ sites_max → ViewOk K v → Sound c book → ViewFact c book me v → SiteFine c me v.boot book (ticks_after c me links (adopts_in c me v))
ticks_fine K c me book links v small ok s h =
    let a : Outcome SiteView = adopts_in c me v in
    let last : Outcome SiteView = ends_event c me links a.view in
    let again : List Packet = repeats c me a.view in
    let k : SiteFine c me v.boot book a = adopts_of_fine c book me v.epoch v refl s h in
    let e : SiteFine c me v.boot k.book last = subst (λ (b : ℕ). SiteFine c me b k.book last) k.view.1 (ends_fine K c k.book me links a.view small (inner_view K v a (adopts_of_plain c me v.epoch v ok.tables) (adopts_of_inner c me v.epoch v refl) ok) k.sound k.view.0) in
    record {
      book = e.book;
      grown = grown_then (IsOf me v.boot) book k.book e.book k.grown e.grown;
      sound = e.sound;
      view = e.view;
      sent = every_append (PacketFact e.book) a.sent (again ++ in_order last.sent) (packets_later k.book e.book e.grown.leads a.sent k.sent)
          (every_append (PacketFact e.book) again (in_order last.sent) (packets_later k.book e.book e.grown.leads again (repeats_fact c me k.book a.view.epoch a.view refl k.view.0)) (order_sent (PacketFact e.book) last.sent e.sent));
      told = every_append (ToldFact e.book) a.told last.told (tolds_later k.book e.book e.grown.leads a.told k.told) e.told;
    }

-- ---- the step ----

-- what the packet of an event carries, and to whom it is sent
abbrev pub EventFact : Book → ℕ → Event → Type 0
EventFact book me (Receives p) = (p.to ≡ me) × PacketFact book p
EventFact book me _ = Unit {0}

-- a call, also outside of an epoch
call_fine : (c : Config) (me boot : ℕ) (book : Book) (process : ℕ) (words : Call) (o : Option InEpoch) (u : Users) → me ≤ sites_max → Sound c book → UsersFact book me boot u → Fine (AskedHere me boot) (λ (b : Book) (x : Users). UsersFact b me boot x) c book (on_call (call_frame c me boot o) (epoch_id o) process words u)
call_fine c me boot book process words None u small s h = on_call_fine (call_frame c me boot None) book None process words u small s h
call_fine c me boot book process words (Some e) u small s h = on_call_fine (call_frame c me boot (Some e)) book (Some e.id) process words u small s h

pub step_fine : (K J : Deeds) (c : Config) (me : ℕ) (book : Book) (links : Links) (v : SiteView) (e : Event) → me ≤ sites_max → EventFact book me e → EventNames J e → ViewOk K v → Sound c book → ViewFact c book me v → SiteFine c me v.boot book (step c me links v e)
step_fine K J c me book links v (Calls process words) small k n ok s h =
    let o : Outcome SiteView = takes_call c me process words v in
    let f : EpochFine K me v o = inner_fine K me v o (record { boot = refl; round = refl; promised = refl; epoch = refl; tables = ok.tables; still = on_call_still (call_frame c me v.boot v.epoch) (epoch_id v.epoch) process words v.users }) (call_inner c me process words v) ok in
    untried_fine (Now K me o.told) c me v.boot book links o small f.view
    (users_part c me book v (on_call (call_frame c me v.boot v.epoch) (epoch_id v.epoch) process words v.users) h (call_fine c me v.boot book process words v.epoch v.users small s h.users))
step_fine K J c me book links v (Receives p) small k n ok s h =
    (elim (is_dropped p v) as (λ t. is_dropped p v ≡ t → SiteFine c me v.boot book (elim t [ true ↦ quiet v | false ↦ whole c me links (takes c me links p p.body v) (tries_at c me p.body) ])) [
      | true ↦ λ d. quiet_site c me book v s h
      | false ↦ λ d. taken d
    ]) refl
  where
    taken : is_dropped p v ≡ false → SiteFine c me v.boot book (whole c me links (takes c me links p p.body v) (tries_at c me p.body))
    taken d =
        let o : Outcome SiteView = takes c me links p p.body v in
        let f : EpochFine K me v o = takes_fine K me c links p p.body v J ok n in
        whole_fine (Now K me o.told) c me v.boot book links o (tries_at c me p.body) small f.view (tries_plain c me p.body o.view f.view.tables) (tries_inner c me p.body o.view)
        (received_fine K J c me book links p p.body v small ok s (record { body_is = refl; taken = d; to = k.0; names = n; fact = k.1 }) h)
        (λ b sound g. tries_fine c me b p.body o.view sound g)
step_fine K J c me book links v Ticks small k n ok s h = ticks_fine K c me book links v small ok s h
step_fine K J c me book links v Parts small k n ok s h =
    let f : EpochFine K me v (starts_part me links v) = starts_part_fine K me links v.epoch v ok in
    untried_fine (Now K me (starts_part me links v).told) c me v.boot book links (starts_part me links v) small f.view (forming.starts_part_fine c book me links v.epoch v s h)
step_fine K J c me book links v Merges small k n ok s h =
    let f : EpochFine K me v (starts_merge me links v) = begins_fine K me links (v.promised.number + 1) (boots_where (merge_boot me links)) v ok (omega arith) in
    untried_fine (Now K me (starts_merge me links v).told) c me v.boot book links (starts_merge me links v) small f.view (forming.begins_fine c book me links (v.promised.number + 1) (boots_where (merge_boot me links)) v (omega arith) s h)
step_fine K J c me book links v GivesUp small k n ok s h =
    let f : EpochFine K me v (leaves me v) = leaves_of_fine K me v.epoch v refl ok in
    untried_fine (Now K me (leaves me v).told) c me v.boot book links (leaves me v) small f.view (forming.leaves_of_fine c book me v.epoch v refl s h)
