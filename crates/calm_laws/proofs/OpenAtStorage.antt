-- An open comes to its storage site, while the synchronization site waits for that: it is begun, or answered again.
use Rattle.std.proofs.Common.{◌≡◌, ℕ, ◌≤◌, ◌⊎◌, Bool, true, cond, List, [], ◌∷◌, Option, Some, None, refl, sym, ◌∙◌, ap, subst, inl, inr}
use Rattle.locus_ids.specs.declared.config.Config.{Config}
use Rattle.locus_ids.specs.declared.ids.CallId.{CallId}
use Rattle.locus_ids.specs.declared.ids.FileId.{FileId}
use Rattle.locus_ids.specs.declared.ids.Mode.{Mode}
use Rattle.locus_ids.specs.declared.ids.Mode.TheVariants as mode
use Rattle.locus_ids.specs.declared.ids.EpochId.{EpochId}
use Rattle.locus_ids.specs.declared.ids.Serial.{Serial}
use Rattle.locus_ids.specs.declared.ids.Stamp.{Stamp}
use Rattle.locus_ids.specs.declared.refusal.Refusal.TheVariants as refusal
use Rattle.locus_ids.specs.Sizes.{sites_max}
use Rattle.trace_book.specs.declared.record.Record.{Record}
use Rattle.trace_book.specs.declared.record.Record.TheVariants as says
use Rattle.call_rules.specs.declared.answer.Answer.{Answer}
use Rattle.call_rules.specs.declared.want.Want.{Want}
use Rattle.wire_messages.specs.declared.body.Body.{Body}
use Rattle.wire_messages.specs.declared.body.Body.TheVariants as body
use Rattle.wire_messages.specs.declared.body.Opening.{Opening}
use Rattle.wire_messages.specs.declared.body.Opening.TheVariants as how
use Rattle.wire_messages.specs.declared.body.OpenedAs.{OpenedAs}
use Rattle.wire_messages.specs.declared.body.OpenedAs.TheVariants as opened
use Rattle.wire_messages.specs.declared.body.ReportedCopy.{ReportedCopy}
use Rattle.wire_messages.specs.declared.packet.Packet.{Packet}
use Rattle.role_steps.specs.Opens.{open_key, stamp_or_none}
use Rattle.role_steps.specs.Storage.{StoreRequest, begun_instance, copy_of, instance_key, instance_of, is_open, on_open_ss, on_open_ss_of, opened_packets, opens, opens_made, own_ino}
use Rattle.role_steps.specs.Using.{close_answer}
use Rattle.role_steps.specs.Views.{Frame, Store, SiteView, Told, Shown, Outcome, packet, quiet, serial_key, sync_site}
use Rattle.role_steps.specs.declared.instances.Instance.{Instance}
use Rattle.role_steps.specs.declared.instances.Stage.{Stage}
use Rattle.role_steps.specs.declared.instances.Stage.TheVariants as running
use Rattle.role_steps.specs.declared.rounds.InEpoch.{InEpoch}
use Rattle.role_steps.specs.declared.synchronizing.OpenRow.{OpenRow}
use Rattle.role_steps.specs.declared.users.Asking.{Asking}
use Rattle.role_steps.specs.declared.users.Asking.TheVariants as asking
use Rattle.role_steps.specs.declared.users.WaitingCall.{WaitingCall}
use Rattle.the_run.specs.Kept.{Among}
use Rattle.the_run.specs.Steps.{at_store, is_opened_in, takes_inside}
use Rattle.the_run.specs.Worlds.{World, Running, Line, place_at}
use Rattle.tree_laws.specs.Calls.{Asks}
use Rattle.tree_laws.specs.Doing.{StoreHeld}
use Rattle.tree_laws.specs.Instances.{AsksOpen, IsOpening}
use Rattle.tree_laws.specs.Past.{EndRecord, Printed, ReleaseRecord, WasGranted, WasNamed, WasReleased, WasReleasedWith}
use Rattle.tree_laws.specs.Stores.{ClosesAs, InstanceFact, RunsAs}
use Rattle.tree_laws.specs.Stores as stores
use Rattle.tree_laws.specs.Tables.{AskedFact, IsGrantedNow, MakeAsked, RowFact}
use Rattle.tree_laws.specs.Tables as tables
use Rattle.tree_laws.proofs.CarriedLooks.{one_want}
use Rattle.tree_laws.proofs.Making.{IsAskedAt, begun_asked, one_group}
use Rattle.tree_laws.proofs.Serials.{one_open, unnamed}
use Rattle.store_laws.proofs.Holdings.Released.{released_named}
use Rattle.store_laws.proofs.Begun.{granted_named}
use Rattle.store_laws.proofs.Numbers.{serial_key_eq}
use Rattle.store_laws.proofs.Places.{open_is}
use Rattle.store_laws.proofs.Tabled.{row_found}
use Rattle.rest_laws.proofs.StoreStepResting.{store_rests}
use Rattle.rest_laws.proofs.TableShutting.{shut_file}
use Rattle.store_laws.specs.OneTree.Places.{InsideFact}
use Rattle.store_laws.specs.OneTree.Rest.{Past}
use Rattle.store_laws.specs.OneTree.Roles.{TableHere}
use Rattle.store_laws.proofs.OneTree.Inside.{table_here}
use Rattle.store_laws.proofs.OneTree.Rising.{first_among}
use Rattle.run_laws.specs.Epochs.Forming.{FormsNone}
use Rattle.run_laws.specs.Epochs.Known.{Places}
use Rattle.calm_laws.specs.Carrying.{IsMember, frame_of, Goes, IsAsked, own_serial, opening_body, open_body, CarriesOpen, Carries}
use Rattle.calm_laws.specs.Rounds.{CarriesOn, IsOpenSs}
use Rattle.calm_laws.proofs.Carriers.{of_kind, MayCarry, carrier_kind}
use Rattle.calm_laws.proofs.CloseAgreed.{member_low, past_of, same_instance}
use Rattle.calm_laws.proofs.CloseRequest.{puts_unended}
use Rattle.calm_laws.proofs.Delivered.{inside_fact}
use Rattle.calm_laws.proofs.Facts.{RoundFacts, round_facts}
use Rattle.calm_laws.proofs.Handing.{StillWaits}
use Rattle.calm_laws.proofs.Lists.{every_among, row_key}
use Rattle.calm_laws.proofs.Members.{sync_is}
use Rattle.calm_laws.proofs.Requests.{to_some_has}
use Rattle.calm_laws.proofs.Rows.{AllGoToMembers, TriesNone}
use Rattle.calm_laws.proofs.StoreRows.{StoreHas, InstancesGoOn, store_row_with}

-- ---- what the storage site does ----

abbrev on_asked : Frame → Body → Store → Outcome Store
on_asked f (body.OpenSs inst file m set kind base vector parents) s = on_open_ss f (record { inst = inst; file = file; mode = m; set = set; kind = kind; base = base; vector = vector; parents = parents }) s
on_asked f _ s = quiet s

handler_is : (f : Frame) (from : ℕ) (b : Body) (v : SiteView) → IsOpenSs b → takes_inside f from b v ≡ at_store (on_asked f b) v
handler_is f from (body.OpenSs inst file m set kind base vector parents) v k = refl
handler_is f from _ v k = absurd k

forms : (b : Body) → IsOpenSs b → FormsNone b × TriesNone b
forms (body.OpenSs inst file m set kind base vector parents) k = (tt, tt)
forms _ k = absurd k

no_report : (c : Config) (e : InEpoch) (p : Packet) → IsOpenSs p.body → (from to group : ℕ) (copies : List ReportedCopy) → Goes c e from to (body.Report group copies) p → ⊥
no_report c e p k from to group copies g = of_kind IsOpenSs c e from to (body.Report group copies) p k g

-- ---- the instances go on ----

made_stay : (f : Frame) (r : StoreRequest) (o : Option ℕ) (s : Store) (inst : Serial) → StoreHas s inst → StoreHas (opens_made f r o s).view inst
made_stay f r None s inst h = h
made_stay f r (Some ino) s inst h = puts_unended s (begun_instance r (record { group = r.file.group; ino = ino }) None) tt inst h

opens_stay : (f : Frame) (r : StoreRequest) (m : Mode) (s : Store) (inst : Serial) → StoreHas s inst → StoreHas (opens f r m s).view inst
opens_stay f r mode.Make s inst h = made_stay f r (own_ino s r.file.group f.me) s inst h
opens_stay f r mode.Read s inst h = puts_unended s (begun_instance r r.file (copy_of s r.file)) tt inst h
opens_stay f r mode.Write s inst h = puts_unended s (begun_instance r r.file (copy_of s r.file)) tt inst h
opens_stay f r mode.Resolve s inst h = puts_unended s (begun_instance r r.file (copy_of s r.file)) tt inst h
opens_stay f r mode.Mend s inst h = puts_unended s (begun_instance r r.file (copy_of s r.file)) tt inst h

goes_on : (f : Frame) (r : StoreRequest) (s : Store) (inst : Serial) → StoreHas s inst → StoreHas (on_open_ss f r s).view inst
goes_on f r s inst h = over (instance_of s r.inst)
  where
    over : (o : Option Instance) → StoreHas (on_open_ss_of f r o s).view inst
    over None = opens_stay f r r.mode s inst h
    over (Some i) = h

-- ---- the answer ----

-- Opened goes to the synchronization site
abbrev IsOpenSent : Config → InEpoch → ℕ → ℕ → Serial → Outcome Store → Type 0
IsOpenSent c e m css inst o = (a : OpenedAs) × Among (packet (frame_of c e m) css (body.Opened inst a)) o.sent

made_sent : (c : Config) (e : InEpoch) (m css : ℕ) (r : StoreRequest) (o : Option ℕ) (s : Store) → sync_site c e.members r.file.group ≡ Some css → IsOpenSent c e m css r.inst (opens_made (frame_of c e m) r o s)
made_sent c e m css r None s sync = (opened.No refusal.NoInode, to_some_has c e m css (body.Opened r.inst (opened.No refusal.NoInode)) (sync_site c e.members r.file.group) sync)
made_sent c e m css r (Some ino) s sync = (opened.Open ino 0, to_some_has c e m css (body.Opened r.inst (opened.Open ino 0)) (sync_site c e.members r.file.group) sync)

begun_sent : (c : Config) (e : InEpoch) (m css : ℕ) (i : Instance) → sync_site c e.members i.file.group ≡ Some css → (a : OpenedAs) × Among (packet (frame_of c e m) css (body.Opened i.inst a)) (opened_packets (frame_of c e m) i)
begun_sent c e m css i sync = (opened.Open i.file.ino i.size, to_some_has c e m css (body.Opened i.inst (opened.Open i.file.ino i.size)) (sync_site c e.members i.file.group) sync)

opens_sent : (c : Config) (e : InEpoch) (m css : ℕ) (r : StoreRequest) (k : Mode) (s : Store) → sync_site c e.members r.file.group ≡ Some css → IsOpenSent c e m css r.inst (opens (frame_of c e m) r k s)
opens_sent c e m css r mode.Make s sync = made_sent c e m css r (own_ino s r.file.group m) s sync
opens_sent c e m css r mode.Read s sync = begun_sent c e m css (begun_instance r r.file (copy_of s r.file)) sync
opens_sent c e m css r mode.Write s sync = begun_sent c e m css (begun_instance r r.file (copy_of s r.file)) sync
opens_sent c e m css r mode.Resolve s sync = begun_sent c e m css (begun_instance r r.file (copy_of s r.file)) sync
opens_sent c e m css r mode.Mend s sync = begun_sent c e m css (begun_instance r r.file (copy_of s r.file)) sync

-- what is there is open, in the group, under this name
pub record IsThere (i : Instance) (r : StoreRequest) : Type 0 where
  pub name : i.inst ≡ r.inst
  pub opened : is_open i.stage ≡ true
  pub group : i.file.group ≡ r.file.group

handled : (c : Config) (e : InEpoch) (m css : ℕ) (r : StoreRequest) (s : Store) → sync_site c e.members r.file.group ≡ Some css → ((i : Instance) → instance_of s r.inst ≡ Some i → IsThere i r) → IsOpenSent c e m css r.inst (on_open_ss (frame_of c e m) r s)
handled c e m css r s sync there = over (instance_of s r.inst) there
  where
    again : (i : Instance) → IsThere i r → IsOpenSent c e m css r.inst (on_open_ss_of (frame_of c e m) r (Some i) s)
    again i k =
        let z : (a : OpenedAs) × Among (packet (frame_of c e m) css (body.Opened i.inst a)) (opened_packets (frame_of c e m) i) = begun_sent c e m css i (ap (λ (g : ℕ). sync_site c e.members g) k.group ∙ sync) in
        (z.0, subst (λ (b : Bool). Among (packet (frame_of c e m) css (body.Opened r.inst z.0)) (cond b (opened_packets (frame_of c e m) i) [])) (sym k.opened) (subst (λ (j : Serial). Among (packet (frame_of c e m) css (body.Opened j z.0)) (opened_packets (frame_of c e m) i)) k.name z.1))

    over : (o : Option Instance) → ((i : Instance) → o ≡ Some i → IsThere i r) → IsOpenSent c e m css r.inst (on_open_ss_of (frame_of c e m) r o s)
    over None k = opens_sent c e m css r r.mode s sync
    over (Some i) k = again i (k i refl)

-- ---- releases ----

pub release_of : (c : Config) (trace : List Line) (e : EpochId) (i : Serial) (last : Option Stamp) (a : Answer) → WasReleasedWith c trace e i last a → WasReleased trace e i
release_of c [] e i last a h = absurd h
release_of c (x ∷ older) e i last a (inr h) = inr (release_of c older e i last a h)
release_of c (x ∷ older) e i last a (inl h) = inl (over x.told h)
  where
    of : (r : Record) → ReleaseRecord c e i last a older r → EndRecord e i older r
    of (says.Release at inst file stamp) k = record { epoch_is = k.epoch_is; serial_is = k.serial_is }
    of r k = absurd k

    over : (z : Told) → Printed (ReleaseRecord c e i last a) older z → Printed (EndRecord e i) older z
    over (Shown r) k = of r k
    over z k = absurd k

-- ---- what the synchronization site asks stands so by the trace ----

-- the row is of the group's synchronization site, and of this instance
record AskedRow (c : Config) (trace : List Line) (e : InEpoch) (css : ℕ) (r : OpenRow) (inst : Serial) : Type 0 where
  name : r.inst ≡ inst
  sync : sync_site c e.members r.file.group ≡ Some css
  call : CallId
  asked : AskedFact c trace e.id r call r.mode

asked_row : (c : Config) (e : InEpoch) (w : World) (css : ℕ) (r : OpenRow) (inst : Serial) → RoundFacts c w → Past c w.trace → ((v : SiteView) → place_at w css ≡ Some (Running v) → InsideFact c (frame_of c e css) w.trace v) → inst.us ≤ sites_max → IsAsked (place_at w) css inst r → AskedRow c w.trace e css r inst
asked_row c e w css r inst facts past inside low h = record {
  name = serial_key_eq r.inst inst (subst (λ (n : ℕ). n ≤ sites_max) fact.is_call.site_is ((store_rests c w.trace past).sites e.id fact.call fact.is_call.inside)) low found.1;
  sync = ap (λ (g : ℕ). sync_site c e.members g) fact.group_is ∙ here.synced;
  call = fact.call;
  asked = subst (tables.StageFact c w.trace e.id r fact.call) h.asked fact.stage;
}
  where
    f : Frame
    f = frame_of c e css

    there : Among h.table h.view.tables
    there = first_among (is_opened_in inst) h.view.tables h.table h.found

    here : TableHere c w.trace f h.table
    here = table_here c w.trace f h.view (inside h.view h.here) h.table there

    found : Among r h.table.opens × (open_key r ≡ serial_key inst)
    found = row_key open_key (serial_key inst) h.table.opens r h.is_row

    fact : RowFact c w.trace e.id h.table.group r
    fact = every_among (RowFact c w.trace e.id h.table.group) r h.table.opens found.0 here.fact.opens

-- ---- what is there is open, in the group ----

module _ (c : Config) (e : InEpoch) (m : ℕ) (trace : List Line) (past : Past c trace) (i : Instance) (fact : InstanceFact c trace (frame_of c e m) i) where
  abbrev f : Frame
  f = frame_of c e m

  -- while it is granted
  module _ (d : CallId) (request : ℕ) (k : Mode) (file : FileId) (stamp : Option Stamp) (ss : ℕ) (was : WasGranted trace e.id d request i.inst k file stamp ss) (unreleased : WasReleased trace e.id i.inst → ⊥) where
    granted_stage : (z : Stage) → stores.StageFact c trace f i z → (is_open z ≡ true) × (i.file ≡ file)
    granted_stage running.Running h = over h.0
      where
        over : RunsAs c trace f i → (is_open running.Running ≡ true) × (i.file ≡ file)
        over (inl x) = (refl, sym x.1.file_is ∙ (open_is c trace past.followed e.id d request i.inst k file stamp ss x.0 was x.1.open_at.found).1)
        over (inr x) = absurd (x.unnamed (granted_named trace e.id d request i.inst k file stamp ss was))
    granted_stage (running.Closing made a) h = (refl, shut_file c trace past.followed m m e.id i.inst d request k file i.file stamp ss h.2 was fact.begun)
    granted_stage (running.Closed a) h = absurd (unreleased (release_of c trace e.id i.inst h.0.0 (close_answer a) h.0.1))

  plain_there : (r : OpenRow) (d : CallId) → IsGrantedNow trace e.id r d → i.inst ≡ r.inst → (is_open i.stage ≡ true) × (i.file.group ≡ r.file.group)
  plain_there r d h name =
      let k : (is_open i.stage ≡ true) × (i.file ≡ r.file) = granted_stage d r.request r.mode r.file r.stamp r.ss (subst (λ (j : Serial). WasGranted trace e.id d r.request j r.mode r.file r.stamp r.ss) (sym name) h.was_granted) (λ z. h.unreleased (subst (WasReleased trace e.id) name z)) i.stage fact.stage in
      (k.0, ap (λ (x : FileId). x.group) k.1)

  -- or a make that is asked now
  module _ (r : OpenRow) (d : CallId) (make : MakeAsked c trace e.id r d) (name : i.inst ≡ r.inst) where
    unnamed_now : WasNamed trace e.id i.inst → ⊥
    unnamed_now named = unnamed c trace e.id make.make.call make.make.request r.inst make.make.file (how.Make r.set r.kind) past.followed make.make.asks make.make.user_is (subst (WasNamed trace e.id) name named)

    made_open : (z : Stage) → stores.StageFact c trace f i z → is_open z ≡ true
    made_open running.Running h = refl
    made_open (running.Closing made a) h = refl
    made_open (running.Closed a) h = absurd (unnamed_now (released_named c trace past.followed e.id i.inst (release_of c trace e.id i.inst h.0.0 (close_answer a) h.0.1)))

    made_group : i.file.group ≡ r.file.group
    made_group = over (begun_asked c trace past.followed e.id m i.inst i.file fact.begun)
      where
        over : WasNamed trace e.id i.inst ⊎ IsAskedAt c trace e.id m i.inst i.file → i.file.group ≡ r.file.group
        over (inl named) = absurd (unnamed_now named)
        over (inr k) = sym k.group_is ∙ (one_group c make.make.asks.wanted k.asked make.make.file (how.Make k.set k.kind) r.set r.kind wanted make.make.asks.opening_is ∙ make.make.group_is)
          where
            call_is : k.call ≡ make.make.call
            call_is = one_open c trace e.id k.call make.make.call k.request make.make.request i.inst.serial k.asked make.make.file (how.Make k.set k.kind) (how.Make r.set r.kind) past.followed k.asks
                (subst (λ (j : Serial). AsksOpen c trace e.id make.make.call make.make.request j.serial make.make.file (how.Make r.set r.kind)) (sym name) make.make.asks) (sym k.user_is ∙ (ap (λ (j : Serial). j.us) name ∙ make.make.user_is))

            wanted : IsOpening c make.make.asks.wanted k.asked (how.Make k.set k.kind)
            wanted = subst (λ (x : Want). IsOpening c x k.asked (how.Make k.set k.kind)) (one_want c trace make.make.call k.asks.wanted make.make.asks.wanted (subst (λ (y : CallId). Asks c trace y k.asks.wanted) call_is k.asks.asks) make.make.asks.asks) k.asks.opening_is

  -- of whichever mode
  asked_there : (r : OpenRow) (d : CallId) (k : Mode) → AskedFact c trace e.id r d k → i.inst ≡ r.inst → (is_open i.stage ≡ true) × (i.file.group ≡ r.file.group)
  asked_there r d mode.Make h name = (made_open r d h name i.stage fact.stage, made_group r d h name)
  asked_there r d mode.Read h name = plain_there r d h.0 name
  asked_there r d mode.Write h name = plain_there r d h.0 name
  asked_there r d mode.Resolve h name = plain_there r d h.0 name
  asked_there r d mode.Mend h name = plain_there r d h.0 name

-- ---- which calls it carries ----

record AsksStorage (c : Config) (e : InEpoch) (at : Places) (css : ℕ) (inst : Serial) (p : Packet) : Type 0 where
  row : OpenRow
  asked : IsAsked at css inst row
  goes : Goes c e css row.ss (opening_body row) p

asks_storage : (c : Config) (e : InEpoch) (at : Places) (s : ℕ) (x : WaitingCall) (serial : ℕ) (file : FileId) (way : Opening) (css : ℕ) (p : Packet) → IsOpenSs p.body → CarriesOpen c e at s x serial file way css p → AsksStorage c e at css (own_serial s serial) p
asks_storage c e at s x serial file way css p k (inl g) = absurd (of_kind IsOpenSs c e s css (open_body x serial file way) p k g)
asks_storage c e at s x serial file way css p k (inr (inl h)) = over h.way
  where
    over : Goes c e css h.opened.ss (opening_body h.opened) p ⊎ ((a : OpenedAs) × Goes c e h.opened.ss css (body.Opened (own_serial s serial) a) p) → AsksStorage c e at css (own_serial s serial) p
    over (inl g) = record { row = h.opened; asked = h.asked; goes = g }
    over (inr g) = absurd (of_kind IsOpenSs c e h.opened.ss css (body.Opened (own_serial s serial) g.0) p k g.1)
asks_storage c e at s x serial file way css p k (inr (inr h)) = absurd (of_kind IsOpenSs c e css s (body.OpenDone serial h.answer) p k h.goes)

other_kind : (a : Asking) (b : Body) → IsOpenSs b → ((serial : ℕ) (file : FileId) (way : Opening) → a ≡ asking.Open serial file way → ⊥) → MayCarry a b → ⊥
other_kind (asking.Open serial file way) b k not j = not serial file way refl
other_kind (asking.Look file what take) (body.OpenSs inst f m set kind base vector parents) k not j = j
other_kind (asking.Look file what take) _ k not j = k
other_kind (asking.Op serial ss n o seen) (body.OpenSs inst f m set kind base vector parents) k not j = j
other_kind (asking.Op serial ss n o seen) _ k not j = k
other_kind (asking.Close serial ss) (body.OpenSs inst f m set kind base vector parents) k not j = j
other_kind (asking.Close serial ss) _ k not j = k

look_open : (file : _) (what : _) (take serial : ℕ) (f : FileId) (way : Opening) → asking.Look file what take ≡ asking.Open serial f way → ⊥
look_open file what take serial f way e = cc

op_open : (number ss n : ℕ) (o : _) (seen : List ℕ) (serial : ℕ) (f : FileId) (way : Opening) → asking.Op number ss n o seen ≡ asking.Open serial f way → ⊥
op_open number ss n o seen serial f way e = cc

close_open : (number ss serial : ℕ) (f : FileId) (way : Opening) → asking.Close number ss ≡ asking.Open serial f way → ⊥
close_open number ss serial f way e = cc

-- what the row asks of its storage site
abbrev request_of : OpenRow → StoreRequest
request_of r = record { inst = r.inst; file = r.file; mode = r.mode; set = r.set; kind = r.kind; base = stamp_or_none r.stamp; vector = r.vector; parents = r.parents }

-- ---- the row ----

pub open_at_storage_row : (c : Config) → AllGoToMembers c → CarriesOn c IsOpenSs
open_at_storage_row c members lines n e x w d kind old =
    store_row_with c members lines n e x w d (forms x.packet.body kind).0 (forms x.packet.body kind).1 (on_asked f x.packet.body) (handler_is f x.packet.from x.packet.body d.view kind) (go_on x.packet.body kind)
    (λ now has asked s y k h. takes now asked s y k y.asking h) (no_report c e x.packet kind) old
  where
    m : ℕ
    m = x.packet.to

    f : Frame
    f = frame_of c e m

    r : RoundFacts c w
    r = round_facts c lines n w d.round

    past : Past c w.trace
    past = past_of c w r

    store : StoreHeld c f w.trace d.view.store
    store = (inside_fact c e w m d.view r.fact d.before d.member d.here).store

    go_on : (b : Body) → IsOpenSs b → InstancesGoOn c e m d.view.store (on_asked f b d.view.store)
    go_on (body.OpenSs inst file k set kind base vector parents) i j member h = inl (goes_on f (record { inst = inst; file = file; mode = k; set = set; kind = kind; base = base; vector = vector; parents = parents }) d.view.store j h)
    go_on _ i j member h = absurd i

    takes : (now : Places) → ((css : ℕ) (inst : Serial) (o : OpenRow) → IsMember e css → IsAsked (place_at w) css inst o → IsAsked now css inst o) → (s : ℕ) (y : WaitingCall) → StillWaits e (place_at w) now s y → (a : Asking) → Carries c e (place_at w) s y a x.packet →
        (q : Packet) × Among q (on_asked f x.packet.body d.view.store).sent × Carries c e now s y a q
    takes now asked s y k (asking.Open serial file way) h = (
      packet f h.0 (body.Opened inst sent.0),
      subst (λ (b : Body). Among (packet f h.0 (body.Opened inst sent.0)) (on_asked f b d.view.store).sent) (sym (ap (λ (q : Packet). q.body) g.goes.is)) (subst (λ (j : Serial). Among (packet f h.0 (body.Opened j sent.0)) (on_open_ss f (request_of g.row) d.view.store).sent) row.name sent.1),
      (
        h.0,
        h.1,
        inr (inl (record {
          opened = g.row;
          asked = asked h.0 inst g.row css g.asked;
          way = inr (sent.0, subst (λ (z : ℕ). Goes c e z h.0 (body.Opened inst sent.0) (packet f h.0 (body.Opened inst sent.0))) same (record { sender = d.member; receiver = css; is = refl }));
        })),
      ),
    )
      where
        inst : Serial
        inst = own_serial s serial

        css : IsMember e h.0
        css = (sync_is c e file.group h.0 h.1).1

        low : s ≤ sites_max
        low = member_low c e w s r d.before k.member

        g : AsksStorage c e (place_at w) h.0 inst x.packet
        g = asks_storage c e (place_at w) s y serial file way h.0 x.packet kind h.2

        same : m ≡ g.row.ss
        same = ap (λ (q : Packet). q.to) g.goes.is

        row : AskedRow c w.trace e h.0 g.row inst
        row = asked_row c e w h.0 g.row inst r past (λ v here. inside_fact c e w h.0 v r.fact d.before css here) low g.asked

        there : (i : Instance) → instance_of d.view.store g.row.inst ≡ Some i → IsThere i (request_of g.row)
        there i found = record { name = name; opened = is_there.0; group = is_there.1 }
          where
            fact : InstanceFact c w.trace f i × (instance_key i ≡ serial_key g.row.inst)
            fact = row_found instance_key (serial_key g.row.inst) d.view.store.instances i (InstanceFact c w.trace f) found store.instances.instances

            name : i.inst ≡ g.row.inst
            name = same_instance c e m w.trace d.view.store store i g.row.inst g.row.inst found (subst (λ (j : Serial). j.us ≤ sites_max) (sym row.name) low) fact.1

            is_there : (is_open i.stage ≡ true) × (i.file.group ≡ g.row.file.group)
            is_there = asked_there c e m w.trace past i fact.0 g.row row.call g.row.mode row.asked name

        sent : IsOpenSent c e m h.0 g.row.inst (on_open_ss f (request_of g.row) d.view.store)
        sent = handled c e m h.0 (request_of g.row) d.view.store row.sync there
    takes now asked s y k (asking.Look file what take) h = absurd (other_kind (asking.Look file what take) x.packet.body kind (λ serial g way. look_open file what take serial g way) (carrier_kind c e (place_at w) s y (asking.Look file what take) x.packet h))
    takes now asked s y k (asking.Op number ss i o seen) h = absurd (other_kind (asking.Op number ss i o seen) x.packet.body kind (λ serial g way. op_open number ss i o seen serial g way) (carrier_kind c e (place_at w) s y (asking.Op number ss i o seen) x.packet h))
    takes now asked s y k (asking.Close number ss) h = absurd (other_kind (asking.Close number ss) x.packet.body kind (λ serial g way. close_open number ss serial g way) (carrier_kind c e (place_at w) s y (asking.Close number ss) x.packet h))
