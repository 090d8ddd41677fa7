-- Rows of what comes to a storage site: its tables and its calls stay, and what its instances carry goes on, or is answered.
use Rattle.std.proofs.Common.{◌≡◌, ℕ, ◌⊎◌, List, Some, refl, sym, ◌∙◌, ap, subst, inl, inr}
use Rattle.locus_ids.specs.Sites.{has}
use Rattle.locus_ids.specs.declared.config.Config.{Config}
use Rattle.locus_ids.specs.declared.ids.Serial.{Serial}
use Rattle.locus_ids.specs.declared.sites.Sites.{Sites}
use Rattle.schedule_lines.specs.declared.line.ScheduleLine.{ScheduleLine}
use Rattle.wire_messages.specs.declared.body.Body.{Body}
use Rattle.wire_messages.specs.declared.body.Body.TheVariants as body
use Rattle.wire_messages.specs.declared.body.CloseAnswer.{CloseAnswer}
use Rattle.wire_messages.specs.declared.body.ReportedCopy.{ReportedCopy}
use Rattle.wire_messages.specs.declared.packet.Packet.{Packet}
use Rattle.role_steps.specs.Opens.{open_key}
use Rattle.role_steps.specs.Storage.{instance_key, instance_of}
use Rattle.role_steps.specs.Tables.{row}
use Rattle.role_steps.specs.Views.{Store, SiteView, Outcome, packet, serial_key}
use Rattle.role_steps.specs.declared.instances.Instance.{Instance}
use Rattle.role_steps.specs.declared.rounds.InEpoch.{InEpoch}
use Rattle.role_steps.specs.declared.synchronizing.OpenRow.{OpenRow}
use Rattle.role_steps.specs.declared.users.Asking.{Asking}
use Rattle.role_steps.specs.declared.users.Asking.TheVariants as asking
use Rattle.role_steps.specs.declared.users.WaitingCall.{WaitingCall}
use Rattle.the_run.specs.Kept.{Among}
use Rattle.the_run.specs.Runs.{arrives}
use Rattle.the_run.specs.Steps.{is_opened_in, at_store}
use Rattle.the_run.specs.Worlds.{World, Running, Numbered, place_at}
use Rattle.the_run.proofs.Boots.{at_each}
use Rattle.run_laws.specs.Epochs.Forming.{FormsNone}
use Rattle.run_laws.specs.Epochs.Known.{Places}
use Rattle.row_laws.proofs.Orderly.Places.{view_eq}
use Rattle.calm_laws.specs.Carrying.{IsMember, frame_of, Goes, Holds, IsAsked, IsUnended, HasUnended, held_request, look_body, open_body, own_serial, CarriesOpen, CarriesClose, Carries, IsHeld, HasReported, IsAllCarried}
use Rattle.calm_laws.specs.Rounds.{RequestsGoToMembers, Delivery}
use Rattle.calm_laws.proofs.Calls.{IsSent}
use Rattle.calm_laws.proofs.Ends.{handles}
use Rattle.calm_laws.proofs.Delivered.{Takes, LeavesSite, takes_event, event_row}
use Rattle.calm_laws.proofs.Handing.{StillWaits, IsHandedOn, Hands}
use Rattle.calm_laws.proofs.Keeping.{KeepsAll, FirstKept, RowKept, all_itself, all_then, row_kept, opened_kept}
use Rattle.calm_laws.proofs.Members.{sync_is}
use Rattle.calm_laws.proofs.Requests.{Requested, request_carries}
use Rattle.calm_laws.proofs.Rows.{AllGoToMembers, TriesNone}

-- ---- tables that are kept ----

pub record TablesAt (now : Places) (s : ℕ) (v : SiteView) : Type 0 where
  pub view : SiteView
  pub here : now s ≡ Some (Running view)
  pub keeps : KeepsAll v.tables view.tables

abbrev pub AllTables : InEpoch → Places → Places → Type 0
AllTables e at now = (s : ℕ) (v : SiteView) → IsMember e s → at s ≡ Some (Running v) → TablesAt now s v

pub holds_on : (e : InEpoch) (at now : Places) (css group site process : ℕ) (b : Body) → AllTables e at now → IsMember e css → Holds at css group site process b → Holds now css group site process b
holds_on e at now css group site process b keep m h =
    let k : TablesAt now css h.view = keep css h.view m h.here in
    let r : RowKept group k.view.tables h.table = row_kept group h.view.tables k.view.tables k.keeps h.table h.found in
    record { view = k.view; here = k.here; table = r.table; found = r.found; unstarted = r.keeps.started ∙ h.unstarted; held = r.keeps.early (held_request site process b) h.held }

pub asked_on : (e : InEpoch) (at now : Places) (css : ℕ) (inst : Serial) (o : OpenRow) → AllTables e at now → IsMember e css → IsAsked at css inst o → IsAsked now css inst o
asked_on e at now css inst o keep m h =
    let k : TablesAt now css h.view = keep css h.view m h.here in
    let r : FirstKept (is_opened_in inst) k.view.tables h.table = opened_kept inst h.view.tables k.view.tables k.keeps h.table h.found in
    record { view = k.view; here = k.here; table = r.table; found = r.found; is_row = ap (λ (rs : List OpenRow). row open_key (serial_key inst) rs) r.keeps.opens ∙ h.is_row; asked = h.asked }

pub reported_on : (e : InEpoch) (at now : Places) (css group site : ℕ) → AllTables e at now → IsMember e css → HasReported at css group site → HasReported now css group site
reported_on e at now css group site keep m h =
    let k : TablesAt now css h.view = keep css h.view m h.here in
    let r : RowKept group k.view.tables h.table = row_kept group h.view.tables k.view.tables k.keeps h.table h.found in
    record { view = k.view; here = k.here; table = r.table; found = r.found; reported = ap (λ (x : Sites). has x site) r.keeps.reported ∙ h.reported }

pub held_on : (c : Config) (e : InEpoch) (at now : Places) (s : ℕ) (x : WaitingCall) (a : Asking) → AllTables e at now → IsHeld c e at s x a → IsHeld c e now s x a
held_on c e at now s x (asking.Look file w take) keep k = (k.0, k.1, holds_on e at now k.0 file.group s x.process (look_body x file w take) keep (sync_is c e file.group k.0 k.1).1 k.2)
held_on c e at now s x (asking.Open serial file how) keep k = (k.0, k.1, holds_on e at now k.0 file.group s x.process (open_body x serial file how) keep (sync_is c e file.group k.0 k.1).1 k.2)
held_on c e at now s x _ keep k = absurd k

-- ---- instances ----

-- the store has the instance, whose close isn't over
pub record StoreHas (s : Store) (inst : Serial) : Type 0 where
  pub instance : Instance
  pub found : instance_of s inst ≡ Some instance
  pub unended : IsUnended instance.stage

-- the close of the instance is answered
abbrev pub IsCloseSent : Config → InEpoch → ℕ → List Packet → Serial → Type 0
IsCloseSent c e m sent inst = (a : CloseAnswer) × Among (packet (frame_of c e m) inst.us (body.CloseDone inst.serial a)) sent

-- each instance of a member whose close isn't over stays so, or its close is answered
abbrev pub InstancesGoOn : Config → InEpoch → ℕ → Store → Outcome Store → Type 0
InstancesGoOn c e m s o = (inst : Serial) → IsMember e inst.us → StoreHas s inst → StoreHas o.view inst ⊎ IsCloseSent c e m o.sent inst

-- what the packet carries is carried anew: by an instance that the store has then, or by an open that the synchronization site has asked
pub store_row_with : (c : Config) → AllGoToMembers c → (lines : List ScheduleLine) (n : ℕ) (e : InEpoch) (x : Numbered) (w : World) (d : Delivery c lines n e x w) → FormsNone x.packet.body → TriesNone x.packet.body → (g : Store → Outcome Store) → handles c e x.packet.to x.packet d.view ≡ at_store g d.view →
    InstancesGoOn c e x.packet.to d.view.store (g d.view.store) →
    ((now : Places) → ((inst : Serial) → StoreHas (g d.view.store).view inst → HasUnended now x.packet.to inst) → ((css : ℕ) (inst : Serial) (o : OpenRow) → IsMember e css → IsAsked (place_at w) css inst o → IsAsked now css inst o) → (s : ℕ) (y : WaitingCall) → StillWaits e (place_at w) now s y → Carries c e (place_at w) s y y.asking x.packet →
    (q : Packet) × Among q (g d.view.store).sent × Carries c e now s y y.asking q) →
    ((from to group : ℕ) (copies : List ReportedCopy) → Goes c e from to (body.Report group copies) x.packet → ⊥) → IsAllCarried c e w → IsAllCarried c e (arrives c n x w)
store_row_with c members lines n e x w d forms tries g is ends takes none old = event_row c e n m x.packet d.view o w u d.here t hands old
  where
    m : ℕ
    m = x.packet.to

    u : World
    u = arrives c n x w

    o : Outcome SiteView
    o = handles c e m x.packet d.view

    t : Takes c e n m x.packet d.view o w u
    t = takes_event c lines n e x w d forms tries (subst (λ (z : Outcome SiteView). LeavesSite d.view z.view) (sym is) (record { boot = refl; round = refl; epoch = refl }))

    tables : KeepsAll d.view.tables t.end.view.tables
    tables = all_then d.view.tables o.view.tables t.end.view.tables (subst (λ (z : Outcome SiteView). KeepsAll d.view.tables z.view.tables) (sym is) (all_itself d.view.tables)) t.after.keeps.tables

    keep : AllTables e (place_at w) (place_at u)
    keep s v member there =
        at_each m s (TablesAt (place_at u) s v)
        (λ eq. record { view = t.end.view; here = ap (place_at u) (sym eq) ∙ t.here; keeps = subst (λ (z : SiteView). KeepsAll z.tables t.end.view.tables) (view_eq (place_at w s) d.view v (ap (place_at w) (sym eq) ∙ d.here) there) tables })
        (λ ne. record { view = v; here = t.others s ne ∙ there; keeps = all_itself v.tables })

    instances : t.end.view.store.instances ≡ (g d.view.store).view.instances
    instances = t.after.keeps.instances ∙ ap (λ (z : Outcome SiteView). z.view.store.instances) is

    sent : (q : Packet) → Among q (g d.view.store).sent → Among q t.end.sent
    sent q a = t.after.sends q (subst (λ (z : Outcome SiteView). Among q z.sent) (sym is) a)

    has_now : (inst : Serial) → StoreHas (g d.view.store).view inst → HasUnended (place_at u) m inst
    has_now inst h = record { view = t.end.view; here = t.here; instance = h.instance; found = ap (λ (xs : List Instance). row instance_key (serial_key inst) xs) instances ∙ h.found; unended = h.unended }

    asks : RequestsGoToMembers c e u
    asks = members lines n e u d.follows d.after

    all_calls : (y : WaitingCall) → Among y t.end.view.users.waiting → Among y d.view.users.waiting ⊎ IsHandedOn c e (place_at u) t.end.sent m y
    all_calls y a = over (t.after.calls y a)
      where
        over : Among y o.view.users.waiting ⊎ IsSent (frame_of c e m) y t.end.sent → Among y d.view.users.waiting ⊎ IsHandedOn c e (place_at u) t.end.sent m y
        over (inl k) = inl (subst (λ (z : Outcome SiteView). Among y z.view.users.waiting) is k)
        over (inr k) = (let r : Requested c e (place_at u) m y y.asking = request_carries c e (place_at u) m y y.asking d.member (asks m t.end.view y d.member t.here a) in inr (inl (r.letter, k r.letter r.there, r.carries)))

    -- an instance whose close isn't over
    unended : (s serial ss : ℕ) → IsMember e s → HasUnended (place_at w) ss (own_serial s serial) → HasUnended (place_at u) ss (own_serial s serial) ⊎ ((q : Packet) × Among q t.end.sent × ((a : CloseAnswer) × Goes c e ss s (body.CloseDone serial a) q))
    unended s serial ss member h = at_each m ss (HasUnended (place_at u) ss (own_serial s serial) ⊎ ((q : Packet) × Among q t.end.sent × ((a : CloseAnswer) × Goes c e ss s (body.CloseDone serial a) q)))
        (λ eq. mine eq (ends (own_serial s serial) member (record { instance = h.instance; found = ap (λ (z : SiteView). instance_of z.store (own_serial s serial)) (view_eq (place_at w m) d.view h.view d.here (ap (place_at w) eq ∙ h.here)) ∙ h.found; unended = h.unended })))
        (λ ne. inl (record { view = h.view; here = t.others ss ne ∙ h.here; instance = h.instance; found = h.found; unended = h.unended }))
      where
        mine : m ≡ ss → StoreHas (g d.view.store).view (own_serial s serial) ⊎ IsCloseSent c e m (g d.view.store).sent (own_serial s serial) → HasUnended (place_at u) ss (own_serial s serial) ⊎ ((q : Packet) × Among q t.end.sent × ((a : CloseAnswer) × Goes c e ss s (body.CloseDone serial a) q))
        mine eq (inl k) = inl (subst (λ (z : ℕ). HasUnended (place_at u) z (own_serial s serial)) eq (has_now (own_serial s serial) k))
        mine eq (inr k) = inr (packet (frame_of c e m) s (body.CloseDone serial k.0), sent _ k.1, (k.0, subst (λ (z : ℕ). Goes c e z s (body.CloseDone serial k.0) (packet (frame_of c e m) s (body.CloseDone serial k.0))) eq (record { sender = d.member; receiver = member; is = refl })))

    keeps : (s : ℕ) (y : WaitingCall) (a : Asking) (q : Packet) → IsMember e s → Carries c e (place_at w) s y a q → Carries c e (place_at u) s y a q ⊎ ((z : Packet) × Among z t.end.sent × Carries c e (place_at u) s y a z)
    keeps s y (asking.Look file what take) q member k = inl k
    keeps s y (asking.Open serial file how) q member k = inl (k.0, k.1, over k.2)
      where
        over : CarriesOpen c e (place_at w) s y serial file how k.0 q → CarriesOpen c e (place_at u) s y serial file how k.0 q
        over (inl h) = inl h
        over (inr (inl h)) = inr (inl (record { opened = h.opened; asked = asked_on e (place_at w) (place_at u) k.0 (own_serial s serial) h.opened keep (sync_is c e file.group k.0 k.1).1 h.asked; way = h.way }))
        over (inr (inr h)) = inr (inr h)
    keeps s y (asking.Op serial ss number op seen) q member k = inl k
    keeps s y (asking.Close serial ss) q member k = over k
      where
        over : CarriesClose c e (place_at w) s serial ss q → CarriesClose c e (place_at u) s serial ss q ⊎ ((z : Packet) × Among z t.end.sent × CarriesClose c e (place_at u) s serial ss z)
        over (inl h) = inl (inl h)
        over (inr (inl h)) = by_end (unended s serial ss member h.unended)
          where
            by_end : HasUnended (place_at u) ss (own_serial s serial) ⊎ ((z : Packet) × Among z t.end.sent × ((a : CloseAnswer) × Goes c e ss s (body.CloseDone serial a) z)) → CarriesClose c e (place_at u) s serial ss q ⊎ ((z : Packet) × Among z t.end.sent × CarriesClose c e (place_at u) s serial ss z)
            by_end (inl i) = inl (inr (inl (record { unended = i; css = h.css; way = h.way })))
            by_end (inr i) = inr (i.0, i.1, inr (inr (record { answer = i.2.0; goes = i.2.1 })))
        over (inr (inr h)) = inl (inr (inr h))

    hands : Hands c e m (place_at w) (place_at u) x.packet d.view t.end.view t.end.sent
    hands = record {
      calls = all_calls;
      keeps = λ s y q k h. over s y q (keeps s y y.asking q k.member h);
      takes = λ s y k h. (let r : (q : Packet) × Among q (g d.view.store).sent × Carries c e (place_at u) s y y.asking q = takes (place_at u) has_now (λ css inst o. asked_on e (place_at w) (place_at u) css inst o keep) s y k h in inl (r.0, sent r.0 r.1, r.2));
      holds = λ s y k h. inr (held_on c e (place_at w) (place_at u) s y y.asking keep h);
      reported = λ css group s i k. reported_on e (place_at w) (place_at u) css group s keep i k;
      counts = λ group css s copies sync h. absurd (none s css group copies h);
    }
      where
        over : (s : ℕ) (y : WaitingCall) (q : Packet) → Carries c e (place_at u) s y y.asking q ⊎ ((z : Packet) × Among z t.end.sent × Carries c e (place_at u) s y y.asking z) → Carries c e (place_at u) s y y.asking q ⊎ IsHandedOn c e (place_at u) t.end.sent s y
        over s y q (inl k) = inl k
        over s y q (inr k) = inr (inl k)

pub store_row : (c : Config) → AllGoToMembers c → (lines : List ScheduleLine) (n : ℕ) (e : InEpoch) (x : Numbered) (w : World) (d : Delivery c lines n e x w) → FormsNone x.packet.body → TriesNone x.packet.body → (g : Store → Outcome Store) → handles c e x.packet.to x.packet d.view ≡ at_store g d.view →
    InstancesGoOn c e x.packet.to d.view.store (g d.view.store) →
    ((now : Places) → ((inst : Serial) → StoreHas (g d.view.store).view inst → HasUnended now x.packet.to inst) → (s : ℕ) (y : WaitingCall) → StillWaits e (place_at w) now s y → Carries c e (place_at w) s y y.asking x.packet →
    (q : Packet) × Among q (g d.view.store).sent × Carries c e now s y y.asking q) →
    ((from to group : ℕ) (copies : List ReportedCopy) → Goes c e from to (body.Report group copies) x.packet → ⊥) → IsAllCarried c e w → IsAllCarried c e (arrives c n x w)
store_row c members lines n e x w d forms tries g is ends takes none old = store_row_with c members lines n e x w d forms tries g is ends (λ now has asked. takes now has) none old
