-- That the synchronization site has released an instance comes to its storage site: its close ends, and is answered.
use Rattle.std.proofs.Common.{◌≡◌, ℕ, ◌≤◌, ◌⊎◌, List, Option, Some, None, refl, sym, ◌∙◌, ap, subst, inl, inr}
use Rattle.locus_ids.specs.declared.config.Config.{Config}
use Rattle.locus_ids.specs.declared.ids.Serial.{Serial}
use Rattle.locus_ids.specs.Sizes.{sites_max}
use Rattle.wire_messages.specs.declared.body.Body.{Body}
use Rattle.wire_messages.specs.declared.body.Body.TheVariants as body
use Rattle.wire_messages.specs.declared.body.MadeVersion.{MadeVersion}
use Rattle.wire_messages.specs.declared.body.ReportedCopy.{ReportedCopy}
use Rattle.wire_messages.specs.declared.packet.Packet.{Packet}
use Rattle.role_steps.specs.Storage.{instance_key, instance_of, on_closed_ok, on_closed_ok_of, ends_at, with_instance}
use Rattle.role_steps.specs.Views.{Frame, Store, SiteView, Outcome, packet, quiet, serial_key}
use Rattle.role_steps.specs.declared.instances.Instance.{Instance}
use Rattle.role_steps.specs.declared.instances.Stage.{Stage}
use Rattle.role_steps.specs.declared.instances.Stage.TheVariants as stage
use Rattle.role_steps.specs.declared.rounds.InEpoch.{InEpoch}
use Rattle.role_steps.specs.declared.users.Asking.{Asking}
use Rattle.role_steps.specs.declared.users.Asking.TheVariants as asking
use Rattle.role_steps.specs.declared.users.WaitingCall.{WaitingCall}
use Rattle.the_run.specs.Kept.{Among}
use Rattle.the_run.specs.Steps.{at_store, takes_inside}
use Rattle.the_run.specs.Worlds.{World, Numbered, Line, place_at}
use Rattle.the_run.proofs.Boots.{at_each}
use Rattle.tree_laws.specs.Following.{IsFollowed}
use Rattle.tree_laws.specs.Packets.{PacketFact}
use Rattle.tree_laws.specs.Past.{WasReleased}
use Rattle.tree_laws.specs.Doing.{StoreHeld}
use Rattle.tree_laws.specs.Stores.{InstanceFact, RunsAs, StageFact}
use Rattle.store_laws.proofs.Holdings.Released.{released_named, released_shut}
use Rattle.store_laws.proofs.Numbers.{serial_key_eq}
use Rattle.store_laws.proofs.Tabled.{latest_other, row_found}
use Rattle.rest_laws.proofs.StoreStepResting.{store_rests}
use Rattle.store_laws.specs.OneTree.Places.{InsideFact, NumberedFact}
use Rattle.store_laws.specs.OneTree.Rest.{Past}
use Rattle.run_laws.specs.Epochs.Forming.{FormsNone}
use Rattle.run_laws.specs.Epochs.Known.{Places}
use Rattle.row_laws.proofs.Orderly.Places.{view_eq}
use Rattle.row_laws.proofs.Orderly.Rounds.{next_among}
use Rattle.row_laws.specs.Orderly.Calm.{AreTogether, IsInside}
use Rattle.calm_laws.specs.Carrying.{IsMember, frame_of, Goes, IsUnended, HasUnended, own_serial, CarriesClose, Carries}
use Rattle.calm_laws.specs.Rounds.{CarriesOn, IsClosedOk}
use Rattle.calm_laws.proofs.Carriers.{of_kind, MayCarry, carrier_kind}
use Rattle.calm_laws.proofs.Delivered.{inside_fact}
use Rattle.calm_laws.proofs.Facts.{RoundFacts, round_facts}
use Rattle.calm_laws.proofs.Handing.{StillWaits}
use Rattle.calm_laws.proofs.Lists.{every_among}
use Rattle.calm_laws.proofs.Rows.{AllGoToMembers, TriesNone}
use Rattle.calm_laws.proofs.StoreRows.{StoreHas, IsCloseSent, InstancesGoOn, store_row}

-- ---- members are sites 1 to 16 ----

pub past_of : (c : Config) (w : World) → RoundFacts c w → Past c w.trace
past_of c w r = record { followed = r.fact.followed; rest = r.rest }

pub member_low : (c : Config) (e : InEpoch) (w : World) (s : ℕ) → RoundFacts c w → AreTogether w e → IsMember e s → s ≤ sites_max
member_low c e w s r together member = (let i : IsInside w e s = together.inside s member in
    let f : InsideFact c (frame_of c e s) w.trace i.view = inside_fact c e w s i.view r.fact together member i.here in
    ((store_rests c w.trace (past_of c w r)).places e.id s f.frame.inside).1)

-- the packet that comes has its fact
pub came_fact : (c : Config) (w : World) (x : Numbered) → RoundFacts c w → Among x w.underway → PacketFact c w.trace x.packet
came_fact c w x r there = every_among (NumberedFact c w.trace) x w.underway there r.fact.underway

-- ---- what the storage site does ----

abbrev on_agreed : Frame → Body → Store → Outcome Store
on_agreed f (body.ClosedOk inst) s = on_closed_ok f inst s
on_agreed f _ s = quiet s

handler_is : (f : Frame) (from : ℕ) (b : Body) (v : SiteView) → IsClosedOk b → takes_inside f from b v ≡ at_store (on_agreed f b) v
handler_is f from (body.ClosedOk inst) v k = refl
handler_is f from _ v k = absurd k

forms : (b : Body) → IsClosedOk b → FormsNone b × TriesNone b
forms (body.ClosedOk inst) k = (tt, tt)
forms _ k = absurd k

no_report : (c : Config) (e : InEpoch) (p : Packet) → IsClosedOk p.body → (from to group : ℕ) (copies : List ReportedCopy) → Goes c e from to (body.Report group copies) p → ⊥
no_report c e p k from to group copies g = of_kind IsClosedOk c e from to (body.Report group copies) p k g

-- a key is this number or another one
key_test : (a b : ℕ) → (a ≡ b) ⊎ (a ≡ b → ⊥)
key_test a b = at_each a b ((a ≡ b) ⊎ (a ≡ b → ⊥)) (λ e. inl e) (λ ne. inr ne)

-- what another instance's stage leaves of an instance
pub other_stays : (s : Store) (j : Instance) (inst : Serial) → (instance_key j ≡ serial_key inst → ⊥) → StoreHas s inst → StoreHas (with_instance j s) inst
other_stays s j inst ne h = record { instance = h.instance; found = latest_other instance_key j (serial_key inst) s.instances ne ∙ h.found; unended = h.unended }

-- ---- the instances go on ----

module _ (c : Config) (e : InEpoch) (m : ℕ) (trace : List Line) (s : Store) (kept : StoreHeld c (frame_of c e m) trace s) where
  abbrev f : Frame
  f = frame_of c e m

  -- an instance of the store, and the serial number of a site under its key
  pub same_instance : (i : Instance) (named inst : Serial) → instance_of s named ≡ Some i → inst.us ≤ sites_max → serial_key i.inst ≡ serial_key inst → i.inst ≡ inst
  same_instance i named inst found low same = serial_key_eq i.inst inst (row_found instance_key (serial_key named) s.instances i (InstanceFact c trace f) found kept.instances.instances).0.user low same

  ends_stage : (i : Instance) (z : Stage) (inst : Serial) → StoreHas s inst → StoreHas (ends_at f i z s).view inst ⊎ ((serial_key i.inst ≡ serial_key inst) × IsCloseSent c e m (ends_at f i z s).sent i.inst)
  ends_stage i stage.Running inst h = inl h
  ends_stage i (stage.Closed a) inst h = inl h
  ends_stage i (stage.Closing made a) inst h = over (key_test (serial_key i.inst) (serial_key inst))
    where
      over : (serial_key i.inst ≡ serial_key inst) ⊎ (serial_key i.inst ≡ serial_key inst → ⊥) → StoreHas (ends_at f i (stage.Closing made a) s).view inst ⊎ ((serial_key i.inst ≡ serial_key inst) × IsCloseSent c e m (ends_at f i (stage.Closing made a) s).sent i.inst)
      over (inl same) = inr (same, (a, inl refl))
      over (inr ne) = inl (other_stays s (record i { stage = stage.Closed a }) inst ne h)

  goes_on : (named inst : Serial) → inst.us ≤ sites_max → StoreHas s inst → StoreHas (on_closed_ok f named s).view inst ⊎ IsCloseSent c e m (on_closed_ok f named s).sent inst
  goes_on named inst low h = over (instance_of s named) refl
    where
      over : (o : Option Instance) → instance_of s named ≡ o → StoreHas (on_closed_ok_of f o s).view inst ⊎ IsCloseSent c e m (on_closed_ok_of f o s).sent inst
      over None q = inl h
      over (Some i) q = by_end (ends_stage i i.stage inst h)
        where
          by_end : StoreHas (ends_at f i i.stage s).view inst ⊎ ((serial_key i.inst ≡ serial_key inst) × IsCloseSent c e m (ends_at f i i.stage s).sent i.inst) → StoreHas (ends_at f i i.stage s).view inst ⊎ IsCloseSent c e m (ends_at f i i.stage s).sent inst
          by_end (inl k) = inl k
          by_end (inr k) = inr (subst (λ (z : Serial). IsCloseSent c e m (ends_at f i i.stage s).sent z) (same_instance i named inst q low k.0) k.1)

  -- a released instance doesn't run here
  runs_no_more : IsFollowed c trace → (i : Instance) (inst : Serial) → instance_of s inst ≡ Some i → i.inst ≡ inst → WasReleased trace e.id inst → i.stage ≡ stage.Running → ⊥
  runs_no_more followed i inst found same released is = over fact.0
    where
      instance : InstanceFact c trace f i
      instance = (row_found instance_key (serial_key inst) s.instances i (InstanceFact c trace f) found kept.instances.instances).0

      fact : StageFact c trace f i stage.Running
      fact = subst (StageFact c trace f i) is instance.stage

      was : WasReleased trace e.id i.inst
      was = subst (WasReleased trace e.id) (sym same) released

      over : RunsAs c trace f i → ⊥
      over (inl x) = released_shut c trace followed e.id i.inst x.0 was x.1.open_at.found
      over (inr x) = x.unnamed (released_named c trace followed e.id i.inst was)

  -- the close is answered
  answers : IsFollowed c trace → (us serial : ℕ) → us ≤ sites_max → StoreHas s (own_serial us serial) → WasReleased trace e.id (own_serial us serial) → IsCloseSent c e m (on_closed_ok f (own_serial us serial) s).sent (own_serial us serial)
  answers followed us serial low h released = subst (λ (o : Option Instance). IsCloseSent c e m (on_closed_ok_of f o s).sent (own_serial us serial)) (sym h.found) (by_stage h.instance.stage refl h.unended)
    where
      same : h.instance.inst ≡ own_serial us serial
      same = same_instance h.instance (own_serial us serial) (own_serial us serial) h.found low (row_found instance_key (serial_key (own_serial us serial)) s.instances h.instance (InstanceFact c trace f) h.found kept.instances.instances).1

      by_stage : (z : Stage) → h.instance.stage ≡ z → IsUnended z → IsCloseSent c e m (ends_at f h.instance z s).sent (own_serial us serial)
      by_stage stage.Running is k = absurd (runs_no_more followed h.instance (own_serial us serial) h.found same released is)
      by_stage (stage.Closing made a) is k = subst (λ (j : Serial). IsCloseSent c e m (ends_at f h.instance (stage.Closing made a) s).sent j) same (a, inl refl)
      by_stage (stage.Closed a) is k = absurd k

-- ---- which calls it carries ----

record Agreed (c : Config) (e : InEpoch) (at : Places) (s serial ss : ℕ) (p : Packet) : Type 0 where
  unended : HasUnended at ss (own_serial s serial)
  css : ℕ
  goes : Goes c e css ss (body.ClosedOk (own_serial s serial)) p

agreed : (c : Config) (e : InEpoch) (at : Places) (s serial ss : ℕ) (p : Packet) → IsClosedOk p.body → CarriesClose c e at s serial ss p → Agreed c e at s serial ss p
agreed c e at s serial ss p k (inl g) = absurd (of_kind IsClosedOk c e s ss (body.Close serial) p k g)
agreed c e at s serial ss p k (inr (inl h)) = by_way h.way
  where
    by_way : ((made : Option MadeVersion) × Goes c e ss h.css (body.Closed (own_serial s serial) made) p) ⊎ Goes c e h.css ss (body.ClosedOk (own_serial s serial)) p → Agreed c e at s serial ss p
    by_way (inl g) = absurd (of_kind IsClosedOk c e ss h.css (body.Closed (own_serial s serial) g.0) p k g.1)
    by_way (inr g) = record { unended = h.unended; css = h.css; goes = g }
agreed c e at s serial ss p k (inr (inr h)) = absurd (of_kind IsClosedOk c e ss s (body.CloseDone serial h.answer) p k h.goes)

other_kind : (a : Asking) (b : Body) → IsClosedOk b → ((serial ss : ℕ) → a ≡ asking.Close serial ss → ⊥) → MayCarry a b → ⊥
other_kind (asking.Close serial ss) b k not j = not serial ss refl
other_kind (asking.Look file what take) (body.ClosedOk inst) k not j = j
other_kind (asking.Look file what take) _ k not j = k
other_kind (asking.Open serial file how) (body.ClosedOk inst) k not j = j
other_kind (asking.Open serial file how) _ k not j = k
other_kind (asking.Op serial ss n o seen) (body.ClosedOk inst) k not j = j
other_kind (asking.Op serial ss n o seen) _ k not j = k

look_close : (file : _) (what : _) (take serial ss : ℕ) → asking.Look file what take ≡ asking.Close serial ss → ⊥
look_close file what take serial ss e = cc

open_close : (serial : ℕ) (file : _) (how : _) (number ss : ℕ) → asking.Open serial file how ≡ asking.Close number ss → ⊥
open_close serial file how number ss e = cc

op_close : (serial place n : ℕ) (o : _) (seen : List ℕ) (number ss : ℕ) → asking.Op serial place n o seen ≡ asking.Close number ss → ⊥
op_close serial place n o seen number ss e = cc

-- ---- the row ----

pub close_agreed_row : (c : Config) → AllGoToMembers c → CarriesOn c IsClosedOk
close_agreed_row c members lines n e x w d kind old =
    store_row c members lines n e x w d (forms x.packet.body kind).0 (forms x.packet.body kind).1 (on_agreed f x.packet.body) (handler_is f x.packet.from x.packet.body d.view kind) (go_on x.packet.body kind)
    (λ now has s y k h. takes now s y k y.asking h) (no_report c e x.packet kind) old
  where
    m : ℕ
    m = x.packet.to

    f : Frame
    f = frame_of c e m

    r : RoundFacts c w
    r = round_facts c lines n w d.round

    store : StoreHeld c f w.trace d.view.store
    store = (inside_fact c e w m d.view r.fact d.before d.member d.here).store

    go_on : (b : Body) → IsClosedOk b → InstancesGoOn c e m d.view.store (on_agreed f b d.view.store)
    go_on (body.ClosedOk named) k inst member h = goes_on c e m w.trace d.view.store store named inst (member_low c e w inst.us r d.before member) h
    go_on _ k inst member h = absurd k

    takes : (now : Places) (s : ℕ) (y : WaitingCall) → StillWaits e (place_at w) now s y → (a : Asking) → Carries c e (place_at w) s y a x.packet → (q : Packet) × Among q (on_agreed f x.packet.body d.view.store).sent × Carries c e now s y a q
    takes now s y k (asking.Close serial ss) h = (packet f s (body.CloseDone serial sent.0), subst (λ (b : Body). Among (packet f s (body.CloseDone serial sent.0)) (on_agreed f b d.view.store).sent) (sym is) sent.1, inr (inr (record { answer = sent.0; goes = subst (λ (z : ℕ). Goes c e z s (body.CloseDone serial sent.0) (packet f s (body.CloseDone serial sent.0))) same (record { sender = d.member; receiver = k.member; is = refl }) })))
      where
        g : Agreed c e (place_at w) s serial ss x.packet
        g = agreed c e (place_at w) s serial ss x.packet kind h

        is : x.packet.body ≡ body.ClosedOk (own_serial s serial)
        is = ap (λ (q : Packet). q.body) g.goes.is

        same : m ≡ ss
        same = ap (λ (q : Packet). q.to) g.goes.is

        released : WasReleased w.trace e.id (own_serial s serial)
        released = subst (λ (q : Packet). PacketFact c w.trace q) g.goes.is (came_fact c w x r (next_among w w.over x d.next))

        held : StoreHas d.view.store (own_serial s serial)
        held = record { instance = g.unended.instance; found = ap (λ (z : SiteView). instance_of z.store (own_serial s serial)) (view_eq (place_at w m) d.view g.unended.view d.here (ap (place_at w) same ∙ g.unended.here)) ∙ g.unended.found; unended = g.unended.unended }

        sent : IsCloseSent c e m (on_closed_ok f (own_serial s serial) d.view.store).sent (own_serial s serial)
        sent = answers c e m w.trace d.view.store store r.fact.followed s serial (member_low c e w s r d.before k.member) held released
    takes now s y k (asking.Look file what take) h = absurd (other_kind (asking.Look file what take) x.packet.body kind (λ serial ss. look_close file what take serial ss) (carrier_kind c e (place_at w) s y (asking.Look file what take) x.packet h))
    takes now s y k (asking.Open serial file how) h = absurd (other_kind (asking.Open serial file how) x.packet.body kind (λ number ss. open_close serial file how number ss) (carrier_kind c e (place_at w) s y (asking.Open serial file how) x.packet h))
    takes now s y k (asking.Op serial place number o seen) h = absurd (other_kind (asking.Op serial place number o seen) x.packet.body kind (λ other ss. op_close serial place number o seen other ss) (carrier_kind c e (place_at w) s y (asking.Op serial place number o seen) x.packet h))
