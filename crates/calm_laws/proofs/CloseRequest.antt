-- A close comes to the storage site that has the instance: it begins to close it, or tells again what it has done.
use Rattle.std.proofs.Common.{◌≡◌, ℕ, ◌≤◌, ◌⊎◌, Bool, true, false, List, Option, Some, None, refl, sym, ap, subst, inl, inr}
use Rattle.locus_ids.specs.Sites.{has}
use Rattle.locus_ids.specs.declared.config.Config.{Config}
use Rattle.locus_ids.specs.declared.ids.FileId.{FileId}
use Rattle.locus_ids.specs.declared.ids.Serial.{Serial}
use Rattle.locus_ids.specs.declared.refusal.Refusal.TheVariants as refusal
use Rattle.locus_ids.specs.Sizes.{sites_max}
use Rattle.wire_messages.specs.declared.body.Body.{Body}
use Rattle.wire_messages.specs.declared.body.Body.TheVariants as body
use Rattle.wire_messages.specs.declared.body.CloseAnswer.{CloseAnswer}
use Rattle.wire_messages.specs.declared.body.CloseAnswer.TheVariants as closing
use Rattle.wire_messages.specs.declared.body.MadeVersion.{MadeVersion}
use Rattle.wire_messages.specs.declared.body.ReportedCopy.{ReportedCopy}
use Rattle.wire_messages.specs.declared.packet.Packet.{Packet}
use Rattle.role_steps.specs.Storage.{closes, closes_owing, commits, copy_of, instance_committed, instance_key, instance_of, is_spent, made_version, next_stamp, next_vector, on_close, on_close_at, on_close_of, shut, shuts, shuts_again, shuts_with, with_instance, with_commit}
use Rattle.role_steps.specs.Tables.{row}
use Rattle.role_steps.specs.Views.{Frame, Store, SiteView, Outcome, and_then, packet, quiet, serial_key, sync_site}
use Rattle.role_steps.specs.declared.instances.Instance.{Instance}
use Rattle.role_steps.specs.declared.instances.Stage.{Stage}
use Rattle.role_steps.specs.declared.instances.Stage.TheVariants as stage
use Rattle.role_steps.specs.declared.rounds.InEpoch.{InEpoch}
use Rattle.role_steps.specs.declared.users.Asking.{Asking}
use Rattle.role_steps.specs.declared.users.Asking.TheVariants as asking
use Rattle.role_steps.specs.declared.users.WaitingCall.{WaitingCall}
use Rattle.the_run.specs.Kept.{Among}
use Rattle.the_run.specs.Steps.{at_store, from_user, takes_inside}
use Rattle.the_run.specs.Worlds.{place_at}
use Rattle.tree_laws.specs.Doing.{StoreHeld}
use Rattle.tree_laws.specs.Past.{WasBegun}
use Rattle.tree_laws.specs.Stores.{InstanceFact}
use Rattle.store_laws.proofs.Tabled.{latest_same, row_found}
use Rattle.run_laws.specs.Epochs.Forming.{FormsNone}
use Rattle.run_laws.specs.Epochs.Known.{Places}
use Rattle.site_laws.specs.Locks.Asked.{AskedBegun, IsBegun}
use Rattle.row_laws.specs.Orderly.Calm.{IsInside}
use Rattle.row_laws.proofs.Orderly.Places.{view_eq}
use Rattle.calm_laws.specs.Carrying.{frame_of, Goes, IsUnended, HasUnended, own_serial, CarriesClose, Carries}
use Rattle.calm_laws.specs.Rounds.{CarriesOn, IsClose}
use Rattle.calm_laws.proofs.Begun.{asked_here, begun_packed, round_begun, sync_there}
use Rattle.calm_laws.proofs.Carriers.{of_kind, MayCarry, carrier_kind}
use Rattle.calm_laws.proofs.CloseAgreed.{member_low, other_stays, past_of, same_instance}
use Rattle.calm_laws.proofs.Delivered.{inside_fact}
use Rattle.calm_laws.proofs.Facts.{RoundFacts, round_facts}
use Rattle.calm_laws.proofs.Handing.{StillWaits}
use Rattle.calm_laws.proofs.Members.{sync_is}
use Rattle.calm_laws.proofs.Requests.{to_some_has}
use Rattle.calm_laws.proofs.Rows.{AllGoToMembers, TriesNone}
use Rattle.calm_laws.proofs.StoreRows.{StoreHas, InstancesGoOn, store_row}
use Rattle.the_run.proofs.Boots.{at_each}

-- ---- what the storage site does ----

abbrev on_asked : Frame → ℕ → Body → Store → Outcome Store
on_asked f from (body.Close serial) s = on_close f (from_user from serial) s
on_asked f from _ s = quiet s

handler_is : (f : Frame) (from : ℕ) (b : Body) (v : SiteView) → IsClose b → takes_inside f from b v ≡ at_store (on_asked f from b) v
handler_is f from (body.Close serial) v k = refl
handler_is f from _ v k = absurd k

forms : (b : Body) → IsClose b → FormsNone b × TriesNone b
forms (body.Close serial) k = (tt, tt)
forms _ k = absurd k

no_report : (c : Config) (e : InEpoch) (p : Packet) → IsClose p.body → (from to group : ℕ) (copies : List ReportedCopy) → Goes c e from to (body.Report group copies) p → ⊥
no_report c e p k from to group copies g = of_kind IsClose c e from to (body.Report group copies) p k g

-- ---- an instance whose close isn't over ----

-- what is put into the store, or was there before
pub puts_unended : (s : Store) (i : Instance) → IsUnended i.stage → (inst : Serial) → StoreHas s inst → StoreHas (with_instance i s) inst
puts_unended s i u inst h = at_each (instance_key i) (serial_key inst) (StoreHas (with_instance i s) inst)
    (λ same. record { instance = i; found = subst (λ (k : ℕ). row instance_key k (with_instance i s).instances ≡ Some i) same (latest_same instance_key i s.instances); unended = u })
    (λ ne. other_stays s i inst ne h)

module _ (c : Config) (e : InEpoch) (m : ℕ) where
  abbrev f : Frame
  f = frame_of c e m

  -- the close is told to the synchronization site, and isn't over
  record Shut (css : ℕ) (inst : Serial) (o : Outcome Store) : Type 0 where
    made : Option MadeVersion
    sent : Among (packet f css (body.Closed inst made)) o.sent
    has : StoreHas o.view inst

  shut_done : (i : Instance) (made : Option MadeVersion) (a : CloseAnswer) (s : Store) (css : ℕ) → sync_site c e.members i.file.group ≡ Some css → Shut css i.inst (shuts_with f i made a s)
  shut_done i made a s css sync = record {
    made = made;
    sent = to_some_has c e m css (body.Closed i.inst made) (sync_site c e.members i.file.group) sync;
    has = record { instance = shut i made a; found = latest_same instance_key (shut i made a) s.instances; unended = tt };
  }

  -- what is owed is committed first
  committed_has : (i : Instance) (s : Store) → instance_of (commits f i s).view i.inst ≡ Some (instance_committed i (next_vector f i) (next_stamp f (next_vector f i)))
  committed_has i s = latest_same instance_key (instance_committed i (next_vector f i) (next_stamp f (next_vector f i))) s.instances

  owing_done : (i : Instance) (s : Store) (css : ℕ) → sync_site c e.members i.file.group ≡ Some css → Shut css i.inst (closes_owing f i s)
  owing_done i s css sync = elim (is_spent f i) as (λ b. Shut css i.inst (elim b [ true ↦ shuts f i (closing.No refusal.Spent) s | false ↦ and_then (commits f i s) (λ now. shuts_again f (closing.Made (next_stamp f (next_vector f i))) (instance_of now i.inst) now) ])) [
    | true ↦ shut_done i (made_version i (copy_of s i.file) i.work.committed) (closing.No refusal.Spent) s css sync
    | false ↦ again
  ]
    where
      now : Store
      now = (commits f i s).view

      a : CloseAnswer
      a = closing.Made (next_stamp f (next_vector f i))

      j : Instance
      j = instance_committed i (next_vector f i) (next_stamp f (next_vector f i))

      again : Shut css i.inst (and_then (commits f i s) (λ z. shuts_again f a (instance_of z i.inst) z))
      again = (let k : Shut css i.inst (shuts_again f a (instance_of now i.inst) now) = subst (λ (o : Option Instance). Shut css i.inst (shuts_again f a o now)) (sym (committed_has i s)) (shut_done j (made_version j (copy_of now j.file) j.work.committed) a now css sync) in
          record { made = k.made; sent = k.sent; has = k.has })

  closes_done : (i : Instance) (s : Store) (css : ℕ) → sync_site c e.members i.file.group ≡ Some css → Shut css i.inst (closes f i s)
  closes_done i s css sync = elim i.work.owes as (λ b. Shut css i.inst (elim b [ true ↦ closes_owing f i s | false ↦ shuts f i closing.Nothing s ])) [
    | true ↦ owing_done i s css sync
    | false ↦ shut_done i (made_version i (copy_of s i.file) i.work.committed) closing.Nothing s css sync
  ]

  -- ---- the instances go on ----

  shuts_stay : (i : Instance) (a : CloseAnswer) (s : Store) (inst : Serial) → StoreHas s inst → StoreHas (shuts f i a s).view inst
  shuts_stay i a s inst h = puts_unended s (shut i (made_version i (copy_of s i.file) i.work.committed) a) tt inst h

  again_stay : (a : CloseAnswer) (o : Option Instance) (s : Store) (inst : Serial) → StoreHas s inst → StoreHas (shuts_again f a o s).view inst
  again_stay a None s inst h = h
  again_stay a (Some i) s inst h = shuts_stay i a s inst h

  owing_stay : (i : Instance) (s : Store) (inst : Serial) → IsUnended i.stage → StoreHas s inst → StoreHas (closes_owing f i s).view inst
  owing_stay i s inst u h = elim (is_spent f i) as (λ b. StoreHas (elim b as (λ (x : Bool). Outcome Store) [ true ↦ shuts f i (closing.No refusal.Spent) s | false ↦ and_then (commits f i s) (λ now. shuts_again f (closing.Made (next_stamp f (next_vector f i))) (instance_of now i.inst) now) ]).view inst) [
    | true ↦ shuts_stay i (closing.No refusal.Spent) s inst h
    | false ↦ again_stay (closing.Made (next_stamp f (next_vector f i))) (instance_of (commits f i s).view i.inst) (commits f i s).view inst kept
  ]
    where
      copied : Store
      copied = with_commit i (next_vector f i) (next_stamp f (next_vector f i)) s

      kept : StoreHas (commits f i s).view inst
      kept = puts_unended copied (instance_committed i (next_vector f i) (next_stamp f (next_vector f i))) u inst (record { instance = h.instance; found = h.found; unended = h.unended })

  closes_stay : (i : Instance) (s : Store) (inst : Serial) → IsUnended i.stage → StoreHas s inst → StoreHas (closes f i s).view inst
  closes_stay i s inst u h = elim i.work.owes as (λ b. StoreHas (elim b as (λ (x : Bool). Outcome Store) [ true ↦ closes_owing f i s | false ↦ shuts f i closing.Nothing s ]).view inst) [
    | true ↦ owing_stay i s inst u h
    | false ↦ shuts_stay i closing.Nothing s inst h
  ]

  at_stay : (i : Instance) (z : Stage) (s : Store) (inst : Serial) → i.stage ≡ z → StoreHas s inst → StoreHas (on_close_at f i z s).view inst
  at_stay i stage.Running s inst is h = closes_stay i s inst (subst IsUnended (sym is) tt) h
  at_stay i (stage.Closing made a) s inst is h = h
  at_stay i (stage.Closed a) s inst is h = h

  goes_on : (named inst : Serial) (s : Store) → StoreHas s inst → StoreHas (on_close f named s).view inst
  goes_on named inst s h = over (instance_of s named)
    where
      over : (o : Option Instance) → StoreHas (on_close_of f o s).view inst
      over None = h
      over (Some i) = at_stay i i.stage s inst refl h

  -- ---- the answer ----

  -- Closed goes to the synchronization site, or CloseDone to the using site
  abbrev IsHandled : ℕ → Serial → Outcome Store → Type 0
  IsHandled css inst o = Shut css inst o ⊎ ((a : CloseAnswer) × Among (packet f inst.us (body.CloseDone inst.serial a)) o.sent)

  at_handled : (i : Instance) (z : Stage) (s : Store) (css : ℕ) → i.stage ≡ z → instance_of s i.inst ≡ Some i → sync_site c e.members i.file.group ≡ Some css → IsHandled css i.inst (on_close_at f i z s)
  at_handled i stage.Running s css is found sync = inl (closes_done i s css sync)
  at_handled i (stage.Closing made a) s css is found sync = inl (record {
    made = made;
    sent = to_some_has c e m css (body.Closed i.inst made) (sync_site c e.members i.file.group) sync;
    has = record { instance = i; found = found; unended = subst IsUnended (sym is) tt };
  })
  at_handled i (stage.Closed a) s css is found sync = inr (a, inl refl)

  handled : (i : Instance) (inst : Serial) (s : Store) (css : ℕ) → instance_of s inst ≡ Some i → i.inst ≡ inst → sync_site c e.members i.file.group ≡ Some css → IsHandled css inst (on_close f inst s)
  handled i inst s css found same sync = subst (λ (o : Option Instance). IsHandled css inst (on_close_of f o s)) (sym found)
      (subst (λ (j : Serial). IsHandled css j (on_close_at f i i.stage s)) same (at_handled i i.stage s css refl (subst (λ (j : Serial). instance_of s j ≡ Some i) (sym same) found) sync))

-- ---- which calls it carries ----

asks : (c : Config) (e : InEpoch) (at : Places) (s serial ss : ℕ) (p : Packet) → IsClose p.body → CarriesClose c e at s serial ss p → Goes c e s ss (body.Close serial) p
asks c e at s serial ss p k (inl g) = g
asks c e at s serial ss p k (inr (inl h)) = absurd (by_way h.way)
  where
    by_way : ((made : Option MadeVersion) × Goes c e ss h.css (body.Closed (own_serial s serial) made) p) ⊎ Goes c e h.css ss (body.ClosedOk (own_serial s serial)) p → ⊥
    by_way (inl g) = of_kind IsClose c e ss h.css (body.Closed (own_serial s serial) g.0) p k g.1
    by_way (inr g) = of_kind IsClose c e h.css ss (body.ClosedOk (own_serial s serial)) p k g
asks c e at s serial ss p k (inr (inr h)) = absurd (of_kind IsClose c e ss s (body.CloseDone serial h.answer) p k h.goes)

other_kind : (a : Asking) (b : Body) → IsClose b → ((serial ss : ℕ) → a ≡ asking.Close serial ss → ⊥) → MayCarry a b → ⊥
other_kind (asking.Close serial ss) b k not j = not serial ss refl
other_kind (asking.Look file what take) (body.Close number) k not j = j
other_kind (asking.Look file what take) _ k not j = k
other_kind (asking.Open serial file how) (body.Close number) k not j = j
other_kind (asking.Open serial file how) _ k not j = k
other_kind (asking.Op serial ss n o seen) (body.Close number) k not j = j
other_kind (asking.Op serial ss n o seen) _ k not j = k

look_close : (file : _) (what : _) (take serial ss : ℕ) → asking.Look file what take ≡ asking.Close serial ss → ⊥
look_close file what take serial ss e = cc

open_close : (serial : ℕ) (file : _) (how : _) (number ss : ℕ) → asking.Open serial file how ≡ asking.Close number ss → ⊥
open_close serial file how number ss e = cc

op_close : (serial place n : ℕ) (o : _) (seen : List ℕ) (number ss : ℕ) → asking.Op serial place n o seen ≡ asking.Close number ss → ⊥
op_close serial place n o seen number ss e = cc

-- ---- the row ----

pub close_request_row : (c : Config) → AllGoToMembers c → CarriesOn c IsClose
close_request_row c members lines n e x w d kind old =
    store_row c members lines n e x w d (forms x.packet.body kind).0 (forms x.packet.body kind).1 (on_asked f x.packet.from x.packet.body) (handler_is f x.packet.from x.packet.body d.view kind) (go_on x.packet.body kind)
    (λ now has s y k h. takes now has s y k y.asking refl h) (no_report c e x.packet kind) old
  where
    m : ℕ
    m = x.packet.to

    f : Frame
    f = frame_of c e m

    r : RoundFacts c w
    r = round_facts c lines n w d.round

    store : StoreHeld c f w.trace d.view.store
    store = (inside_fact c e w m d.view r.fact d.before d.member d.here).store

    go_on : (b : Body) → IsClose b → InstancesGoOn c e m d.view.store (on_asked f x.packet.from b d.view.store)
    go_on (body.Close serial) k inst member h = inl (goes_on c e m (from_user x.packet.from serial) inst d.view.store h)
    go_on _ k inst member h = absurd k

    takes : (now : Places) → ((inst : Serial) → StoreHas (on_asked f x.packet.from x.packet.body d.view.store).view inst → HasUnended now m inst) → (s : ℕ) (y : WaitingCall) → StillWaits e (place_at w) now s y → (a : Asking) → y.asking ≡ a → Carries c e (place_at w) s y a x.packet →
        (q : Packet) × Among q (on_asked f x.packet.from x.packet.body d.view.store).sent × Carries c e now s y a q
    takes now has s y k (asking.Close serial ss) is h = by_outcome (on_asked f x.packet.from x.packet.body d.view.store) (ap (λ (p : Packet). on_asked f p.from p.body d.view.store) g.is) has
      where
        g : Goes c e s ss (body.Close serial) x.packet
        g = asks c e (place_at w) s serial ss x.packet kind h

        same : m ≡ ss
        same = ap (λ (q : Packet). q.to) g.is

        low : s ≤ sites_max
        low = member_low c e w s r d.before k.member

        inst : Serial
        inst = own_serial s serial

        inside : IsInside w e s
        inside = d.before.inside s k.member

        there : Among y inside.view.users.waiting
        there = subst (λ (z : SiteView). Among y z.users.waiting) (view_eq (place_at w s) k.before inside.view k.was inside.here) k.waited

        asked : IsBegun w.trace e.id s serial ss
        asked = subst (λ (z : Asking). AskedBegun w.trace e.id s z) is (round_begun c lines n w d.round s inside.view e y inside.here inside.epoch there)

        begun : (file : FileId) × WasBegun w.trace m e.id inst file
        begun = subst (λ (z : ℕ). (file : FileId) × WasBegun w.trace z e.id inst file) (sym same) (asked_here c w.trace (past_of c w r) e.id s serial ss low asked)

        found : (i : Instance) × (instance_of d.view.store inst ≡ Some i)
        found = store.instances.has inst begun.0 begun.1

        fact : InstanceFact c w.trace f found.0 × (instance_key found.0 ≡ serial_key inst)
        fact = row_found instance_key (serial_key inst) d.view.store.instances found.0 (InstanceFact c w.trace f) found.1 store.instances.instances

        name : found.0.inst ≡ inst
        name = same_instance c e m w.trace d.view.store store found.0 inst inst found.1 low fact.1

        sync : (css : ℕ) × (sync_site c e.members found.0.file.group ≡ Some css)
        sync = sync_there c e found.0.file.group m d.member (member_low c e w m r d.before d.member) (begun_packed c w.trace r.rest.each m e.id found.0.inst found.0.file fact.0.begun)

        by_outcome : (o : Outcome Store) → o ≡ on_close f inst d.view.store → ((j : Serial) → StoreHas o.view j → HasUnended now m j) → (q : Packet) × Among q o.sent × CarriesClose c e now s serial ss q
        by_outcome o q unended = over (subst (λ (z : Outcome Store). IsHandled c e m sync.0 inst z) (sym q) (handled c e m found.0 inst d.view.store sync.0 found.1 name sync.1))
          where
            over : IsHandled c e m sync.0 inst o → (q : Packet) × Among q o.sent × CarriesClose c e now s serial ss q
            over (inl z) = (
              packet f sync.0 (body.Closed inst z.made),
              z.sent,
              inr (inl (record {
                unended = subst (λ (t : ℕ). HasUnended now t inst) same (unended inst z.has);
                css = sync.0;
                way = inl (z.made, subst (λ (t : ℕ). Goes c e t sync.0 (body.Closed inst z.made) (packet f sync.0 (body.Closed inst z.made))) same (record { sender = d.member; receiver = (sync_is c e found.0.file.group sync.0 sync.1).1; is = refl }));
              })),
            )
            over (inr z) = (packet f s (body.CloseDone serial z.0), z.1, inr (inr (record { answer = z.0; goes = subst (λ (t : ℕ). Goes c e t s (body.CloseDone serial z.0) (packet f s (body.CloseDone serial z.0))) same (record { sender = d.member; receiver = k.member; is = refl }) })))
    takes now has s y k (asking.Look file what take) is h = absurd (other_kind (asking.Look file what take) x.packet.body kind (λ serial ss. look_close file what take serial ss) (carrier_kind c e (place_at w) s y (asking.Look file what take) x.packet h))
    takes now has s y k (asking.Open serial file how) is h = absurd (other_kind (asking.Open serial file how) x.packet.body kind (λ number ss. open_close serial file how number ss) (carrier_kind c e (place_at w) s y (asking.Open serial file how) x.packet h))
    takes now has s y k (asking.Op serial place number o seen) is h = absurd (other_kind (asking.Op serial place number o seen) x.packet.body kind (λ other ss. op_close serial place number o seen other ss) (carrier_kind c e (place_at w) s y (asking.Op serial place number o seen) x.packet h))
