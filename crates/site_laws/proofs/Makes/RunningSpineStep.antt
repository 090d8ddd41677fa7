-- What each event of a site keeps of facts about its instances, where its store keeps them.
use Rattle.std.proofs.Common.{◌≡◌, ℕ, ◌+◌, ◌==◌, nat_lt, true, false, ◌&&◌, ◌||◌, List, ◌++◌, Option, Some, None, refl, sym, subst, arith}
use Rattle.role_steps.proofs.of_plain_facts.Numbers.{equal}
use Rattle.role_steps.proofs.of_plain_facts.Tests.{both_true, not_false, or_other}
use Rattle.locus_ids.specs.declared.sites.Links.{Links}
use Rattle.locus_ids.specs.declared.config.Config.{Config}
use Rattle.trace_book.specs.Same.{same_epoch}
use Rattle.wire_messages.specs.Bodies.{kind_number}
use Rattle.wire_messages.specs.declared.packet.Packet.{Packet}
use Rattle.wire_messages.specs.declared.body.Body.{Body}
use Rattle.role_steps.specs.Views.{SiteView, Told, DiskWrite, Outcome, Event, Calls, Receives, Ticks, Parts, Merges, GivesUp, quiet, joined_to, first_written, boot_in}
use Rattle.role_steps.specs.Using.{on_call}
use Rattle.role_steps.specs.Epochs.{on_poll, on_promise, on_refuse, on_install, on_joined, frame_in, leaves, starts_part, starts_merge, boots_where, merge_boot}
use Rattle.role_steps.specs.declared.rounds.InEpoch.{InEpoch}
use Rattle.the_run.specs.Steps.{is_framed, is_forming, is_dropped, takes_framed, takes, adopts_in, tries_at, ends_event, whole, call_frame, epoch_id, takes_call, step}
use Rattle.the_run.proofs.InsideSites.{adopts_of_plain}
use Rattle.the_run.proofs.InsideRoles.{on_call_still}
use Rattle.the_run.specs.KindLaws.{Part}
use Rattle.run_laws.specs.Naming.{Deeds, Now, ViewOk, Fine as EpochFine}
use Rattle.run_laws.proofs.Moves.{inner_view, inner_fine}
use Rattle.run_laws.proofs.InsideSteps.{adopts_of_inner, call_inner}
use Rattle.run_laws.proofs.Steps.{EventNames, takes_fine, starts_part_fine, begins_fine, leaves_of_fine}
use Rattle.site_laws.specs.Vectors.Facts.{onto}
use Rattle.run_laws.proofs.FactWalks.Packets.{by_packet}
use Rattle.run_laws.proofs.FactWalks.Steps.{same_epoch_eq}
use Rattle.site_laws.proofs.Vectors.SiteDisks.{ends_keeps}
use Rattle.site_laws.proofs.Locks.StepFacts.{SiteSilent, framed_notify}
use Rattle.site_laws.proofs.Makes.RunningFree.{freely, call_part}
use Rattle.site_laws.proofs.Makes.RunningSpine.{Facts, Owed, StoresJoined, Spine, InSite, SiteFact, Keeps, plain_keeps, quiet_keeps, then_keeps, stores_after}
use Rattle.site_laws.proofs.Makes.RunningSpineParts.{takes_store, StoreDone, inside_keeps, adopts_part, leaves_part, begins_part, starts_part_part, on_poll_part, on_promise_part, on_refuse_part, on_install_part, on_joined_part, ends_part}

-- ---- the end of an event ----

-- where no adoption is tried
untried : (F : Facts) (G : Owed) → Spine F G → (K : Deeds) (c : Config) (me : ℕ) (past : List Told) (links : Links) (o : Outcome SiteView) → ViewOk K o.view → StoresJoined past → Keeps F G me past o → Keeps F G me past (whole c me links o quiet)
untried F G s K c me past links o ok stores h =
    let last : Outcome SiteView = ends_event c me links o.view in
    let k : Keeps F G me past (joined_to o last) = then_keeps F G me past o last (ends_keeps c me links o.view).none h (ends_part F G s K c me (onto o.told past) links o.view ok (stores_after o.told past h.joined stores) h.view) in
    record { view = k.view; owed = k.owed; mine = k.mine; joined = k.joined; disk = k.disk }

-- an adoption, and the end of the event
adopted : (F : Facts) (G : Owed) → Spine F G → (K : Deeds) (c : Config) (me : ℕ) (past : List Told) (links : Links) (v : SiteView) → ViewOk K v → StoresJoined past → SiteFact F past me v → Keeps F G me past (joined_to (adopts_in c me v) (ends_event c me links (adopts_in c me v).view))
adopted F G s K c me past links v ok stores h =
    let a : Outcome SiteView = adopts_in c me v in
    let last : Outcome SiteView = ends_event c me links a.view in
    let k : Keeps F G me past a = adopts_part F G s c me past v.epoch v h in
    then_keeps F G me past a last (ends_keeps c me links a.view).none k
    (ends_part F G s K c me (onto a.told past) links a.view (inner_view K v a (adopts_of_plain c me v.epoch v ok.tables) (adopts_of_inner c me v.epoch v refl) ok) (stores_after a.told past k.joined stores) k.view)

tried : (F : Facts) (G : Owed) → Spine F G → (K : Deeds) (c : Config) (me : ℕ) (past : List Told) (links : Links) (o : Outcome SiteView) → SiteSilent o → ViewOk K o.view → StoresJoined past → Keeps F G me past o → Keeps F G me past (whole c me links o (adopts_in c me))
tried F G s K c me past links o silent ok stores h =
    let a : Outcome SiteView = adopts_in c me o.view in
    let last : Outcome SiteView = ends_event c me links a.view in
    let view : SiteFact F past me o.view = subst (λ (told : List Told). SiteFact F (onto told past) me o.view) silent.0 h.view in
    let k : Keeps F G me past (joined_to a last) = adopted F G s K c me past links o.view ok stores view in
    subst (λ (told : List Told). Keeps F G me past (record { view = last.view; sent = (whole c me links o (adopts_in c me)).sent; told = a.told ++ (told ++ last.told); written = first_written a.written (first_written o.written last.written) })) (sym silent.0)
    (subst (λ (w : Option DiskWrite). Keeps F G me past (record { view = last.view; sent = (whole c me links o (adopts_in c me)).sent; told = a.told ++ last.told; written = first_written a.written (first_written w last.written) })) (sym silent.1)
    (record { view = k.view; owed = k.owed; mine = k.mine; joined = k.joined; disk = k.disk }))

-- ---- a packet ----

-- the packet is of the site's epoch, and of the boot that its sender has in it
pub record IsFramed (p : Packet) (e : InEpoch) : Type 0 where
  pub epoch : e.id ≡ p.epoch
  pub boot : boot_in e.members.boot p.from ≡ p.from_boot

framed : (p : Packet) (v : SiteView) (e : InEpoch) → is_dropped p v ≡ false → is_forming p ≡ false → v.epoch ≡ Some e → IsFramed p e
framed p v e h inside here =
    let a : ((p.to_boot == v.boot) ≡ true) × ((is_forming p || is_framed p v.epoch) ≡ true) = both_true (p.to_boot == v.boot) (is_forming p || is_framed p v.epoch) (not_false ((p.to_boot == v.boot) && (is_forming p || is_framed p v.epoch)) h) in
    let b : is_framed p (Some e) ≡ true = subst (λ (o : Option InEpoch). is_framed p o ≡ true) here (or_other (is_forming p) (is_framed p v.epoch) inside a.1) in
    let k : _ × _ = both_true (same_epoch e.id p.epoch) (boot_in e.members.boot p.from == p.from_boot) b in
    record { epoch = same_epoch_eq e.id p.epoch k.0; boot = equal (boot_in e.members.boot p.from) p.from_boot k.1 }

forming_not : (p : Packet) (x : Body) → p.body ≡ x → nat_lt (kind_number x) 6 ≡ false → is_forming p ≡ false
forming_not p x q h = subst (λ (y : Body). nat_lt (kind_number y) 6 ≡ false) (sym q) h

-- what the store does of this packet
abbrev pub PacketDone : Facts → Owed → Config → ℕ → List Told → Packet → SiteView → Type 0
PacketDone F G c me past p v = (e : InEpoch) → v.epoch ≡ Some e → IsFramed p e → StoreDone F G me past e (takes_store (frame_in c me v.boot e) p.from p.body v)

framed_keeps : (F : Facts) (G : Owed) → Spine F G → (c : Config) (me : ℕ) (past : List Told) (p : Packet) (o : Option InEpoch) (v : SiteView) → is_dropped p v ≡ false → is_forming p ≡ false → PacketDone F G c me past p v → v.epoch ≡ o → InSite F past me v v.epoch → Keeps F G me past (takes_framed c me p o v)
framed_keeps F G s c me past p None v d inside k here h = quiet_keeps F G me past v (λ order. h)
framed_keeps F G s c me past p (Some e) v d inside k here h = inside_keeps F G s c me v.boot past p.from v e p.body here (k e here (framed p v e d inside here)) h

-- the packet has this body, and what comes of it leaves the site in order
record Comes (L : Deeds) (p : Packet) (x : Body) (o : Outcome SiteView) : Type 0 where
  body_is : p.body ≡ x
  ok : ViewOk L o.view

received : (F : Facts) (G : Owed) → Spine F G → (K L : Deeds) (c : Config) (me : ℕ) (past : List Told) (links : Links) (p : Packet) (x : Body) (v : SiteView) → p.body ≡ x → is_dropped p v ≡ false → PacketDone F G c me past p v → ViewOk K v → ViewOk L (takes c me links p x v).view → StoresJoined past → InSite F past me v v.epoch → Keeps F G me past (whole c me links (takes c me links p x v) (tries_at c me x))
received F G s K L c me past links p x v q d k before ok stores h = by_packet Q c me links p v (record {
  poll = λ g. untried F G s L c me past links (on_poll me links p.from p.from_boot p.epoch v) g.ok stores (on_poll_part F G s me past links p.from p.from_boot p.epoch v (λ order. h));
  promise = λ reach g. untried F G s L c me past links (on_promise p.from p.from_boot p.epoch reach v) g.ok stores (on_promise_part F G s me past p.from p.from_boot p.epoch reach v.round v (λ order. h));
  refuse = λ promised g. untried F G s L c me past links (on_refuse me links p.epoch promised v) g.ok stores (on_refuse_part F G s me past links p.epoch promised v.round v (λ order. h));
  install = λ members g. untried F G s L c me past links (on_install c me p.from p.from_boot p.epoch members v) g.ok stores (on_install_part F G s K c me past p.from p.from_boot p.epoch members v before stores (λ order. h));
  joined = λ g. untried F G s L c me past links (on_joined p.from p.epoch v) g.ok stores (on_joined_part F G s me past p.from p.epoch v (λ order. h));
  inside = λ y inside g. untried F G s L c me past links (takes_framed c me p v.epoch v) g.ok stores (framed_keeps F G s c me past p v.epoch v d (forming_not p y g.body_is inside) k refl h);
  pulled = λ y inside silent g. tried F G s L c me past links (takes_framed c me p v.epoch v) (framed_notify c me p y v.epoch v g.body_is silent) g.ok stores (framed_keeps F G s c me past p v.epoch v d (forming_not p y g.body_is inside) k refl h);
}) x (record { body_is = q; ok = ok })
  where
    Q : Body → Outcome SiteView → (SiteView → Outcome SiteView) → Type 0
    Q y o tries = Comes L p y o → Keeps F G me past (whole c me links o tries)

-- ---- the step ----

-- what the store does of the packet of an event
abbrev pub EventDone : Facts → Owed → Config → ℕ → List Told → SiteView → Event → Type 0
EventDone F G c me past v (Receives p) = PacketDone F G c me past p v
EventDone F G c me past v _ = Unit {0}

pub step_keeps : (F : Facts) (G : Owed) → Spine F G → (K J : Deeds) (c : Config) (me : ℕ) (past : List Told) (links : Links) (v : SiteView) (e : Event) → EventDone F G c me past v e → EventNames J e → ViewOk K v → StoresJoined past → InSite F past me v v.epoch → Keeps F G me past (step c me links v e)
step_keeps F G s K J c me past links v (Calls process words) k n ok stores h =
    let o : Outcome SiteView = takes_call c me process words v in
    let f : EpochFine K me v o = inner_fine K me v o (record { boot = refl; round = refl; promised = refl; epoch = refl; tables = ok.tables; still = on_call_still (call_frame c me v.boot v.epoch) (epoch_id v.epoch) process words v.users }) (call_inner c me process words v) ok in
    let t : Part freely (on_call (call_frame c me v.boot v.epoch) (epoch_id v.epoch) process words v.users) = call_part (call_frame c me v.boot v.epoch) (epoch_id v.epoch) process words v.users in
    untried F G s (Now K me o.told) c me past links o f.view stores (plain_keeps F G s me past v o refl refl t.1 t.2 (λ order. h))
step_keeps F G s K J c me past links v (Receives p) k n ok stores h =
    (elim (is_dropped p v) as (λ t. is_dropped p v ≡ t → Keeps F G me past (elim t [ true ↦ quiet v | false ↦ whole c me links (takes c me links p p.body v) (tries_at c me p.body) ])) [
      | true ↦ λ d. quiet_keeps F G me past v (λ order. h)
      | false ↦ λ d. (let f : EpochFine K me v (takes c me links p p.body v) = takes_fine K me c links p p.body v J ok n in received F G s K (Now K me (takes c me links p p.body v).told) c me past links p p.body v refl d k ok f.view stores h)
    ]) refl
step_keeps F G s K J c me past links v Ticks k n ok stores h = let f : Keeps F G me past (joined_to (adopts_in c me v) (ends_event c me links (adopts_in c me v).view)) = adopted F G s K c me past links v ok stores (λ order. h) in record { view = f.view; owed = f.owed; mine = f.mine; joined = f.joined; disk = f.disk }
step_keeps F G s K J c me past links v Parts k n ok stores h = let f : EpochFine K me v (starts_part me links v) = starts_part_fine K me links v.epoch v ok in untried F G s (Now K me (starts_part me links v).told) c me past links (starts_part me links v) f.view stores (starts_part_part F G s me past links v.epoch v (λ order. h))
step_keeps F G s K J c me past links v Merges k n ok stores h = let f : EpochFine K me v (starts_merge me links v) = begins_fine K me links (v.promised.number + 1) (boots_where (merge_boot me links)) v ok (omega arith) in untried F G s (Now K me (starts_merge me links v).told) c me past links (starts_merge me links v) f.view stores (begins_part F G s me past links (v.promised.number + 1) (boots_where (merge_boot me links)) v (λ order. h))
step_keeps F G s K J c me past links v GivesUp k n ok stores h = let f : EpochFine K me v (leaves me v) = leaves_of_fine K me v.epoch v refl ok in untried F G s (Now K me (leaves me v).told) c me past links (leaves me v) f.view stores (leaves_part F G s me past v.epoch v (λ order. h))
