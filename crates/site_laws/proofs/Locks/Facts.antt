-- Facts stay when more is told.
use Rattle.std.proofs.Common.{◌≡◌, ℕ, List, [], ◌∷◌, ◌++◌, Option, Some, None, inr}
use Rattle.locus_ids.specs.declared.ids.EpochId.{EpochId}
use Rattle.locus_ids.specs.declared.ids.FileId.{FileId}
use Rattle.locus_ids.specs.declared.ids.Mode.{Mode}
use Rattle.locus_ids.specs.declared.ids.Mode.TheVariants as mode
use Rattle.trace_book.specs.declared.record.Record.{Record}
use Rattle.trace_book.specs.declared.record.Record.TheVariants as says
use Rattle.wire_messages.specs.declared.packet.Packet.{Packet}
use Rattle.wire_messages.specs.declared.body.Body.{Body}
use Rattle.wire_messages.specs.declared.body.Body.TheVariants as body
use Rattle.wire_messages.specs.declared.body.Granted.{Granted}
use Rattle.wire_messages.specs.declared.body.Granted.TheVariants as granted
use Rattle.wire_messages.specs.declared.body.OpenedAs.{OpenedAs}
use Rattle.wire_messages.specs.declared.body.OpenedAs.TheVariants as opened
use Rattle.role_steps.specs.Own.{Every}
use Rattle.role_steps.specs.Views.{Users, SiteView, Told, Shown, Begins, Shuts, Outcome, joined_to, serial_key}
use Rattle.role_steps.specs.declared.instances.Instance.{Instance}
use Rattle.role_steps.specs.declared.instances.Stage.{Stage}
use Rattle.role_steps.specs.declared.instances.Stage.TheVariants as stage
use Rattle.role_steps.specs.declared.rounds.InEpoch.{InEpoch}
use Rattle.role_steps.specs.declared.synchronizing.SyncTable.{SyncTable}
use Rattle.role_steps.specs.declared.synchronizing.OpenRow.{OpenRow}
use Rattle.role_steps.specs.declared.synchronizing.OpenStage.{OpenStage}
use Rattle.role_steps.specs.declared.synchronizing.OpenStage.TheVariants as opening
use Rattle.role_steps.specs.declared.users.Asking.{Asking}
use Rattle.role_steps.specs.declared.users.Asking.TheVariants as asking
use Rattle.role_steps.specs.declared.users.WaitingCall.{WaitingCall}
use Rattle.role_steps.specs.declared.users.UserInstance.{UserInstance}
use Rattle.the_run.specs.Steps.{epoch_id, from_user}
use Rattle.the_run.proofs.Boots.{every_weaker}
use Rattle.run_laws.specs.FactWalks.Facts.{Fine as Owes}
use Rattle.run_laws.specs.FactWalks.Keeping.{Growing}
use Rattle.run_laws.proofs.FactWalks.Outcomes.{told_append, told_each, then_fine as then_owes}
use Rattle.site_laws.specs.Vectors.Written.{WasTold}
use Rattle.site_laws.specs.Vectors.Facts.{onto}
use Rattle.site_laws.specs.Locks.Going.{IsGranted, RecordGoesOn, InstanceGoesOn}
use Rattle.site_laws.specs.Locks.Facts.{IsGiven, IsGivenOn, OpenedFact, DoneFact, BodyFact, PacketFact, NoFact, Factless, GrantedIn, HeldFact, AskingFact, WaitingFact, UsersFact, StageFact, InstanceFact, AskedFact, RowFact, OpenFact, TableFact, InEpochFact, ViewFact, locks, AllGoOn, Fine}

-- whatever was told before is told later
abbrev pub Later : List Told → List Told → Type 1
Later past now = (P : Told → Type 0) → WasTold P past → WasTold P now

pub same_later : (past : List Told) → Later past past
same_later past P h = h

pub then_later : (a b c : List Told) → Later a b → Later b c → Later a c
then_later a b c h g P k = g P (h P k)

pub one_later : (x : Told) (past : List Told) → Later past (x ∷ past)
one_later x past P h = inr h

pub onto_later : (told past : List Told) → Later past (onto told past)
onto_later [] past P h = h
onto_later (x ∷ xs) past P h = onto_later xs (x ∷ past) P (inr h)

pub granted_later : (a b : List Told) → Later a b → (e : EpochId) (key : ℕ) → IsGranted a e key → IsGranted b e key
granted_later a b l e key h = (h.0, l _ h.1)

given_later : (a b : List Told) → Later a b → (e : EpochId) (key ss : ℕ) → IsGiven a e key ss → IsGiven b e key ss
given_later a b l e key ss h = record { granted = granted_later a b l e key h.granted; there = l _ h.there; at = h.at; file = h.file; begun = l _ h.begun }

-- a row that is granted gives its instance
pub row_given : (past : List Told) (e : EpochId) (key : ℕ) (on : FileId) (ss : ℕ) → IsGivenOn past e key on ss → IsGiven past e key ss
row_given past e key on ss h = record { granted = (on, h.granted); there = h.there; at = h.at; file = h.file; begun = h.begun }

-- ---- the frame lemma of each fact ----

opened_later : (a b : List Told) → Later a b → (ss : ℕ) (e : EpochId) (key : ℕ) (x : OpenedAs) → OpenedFact a ss e key x → OpenedFact b ss e key x
opened_later a b l ss e key (opened.Open ino size) h = (h.0, l _ h.1, h.2)
opened_later a b l ss e key (opened.No why) h = tt

done_later : (a b : List Told) → Later a b → (e : EpochId) (key : ℕ) (x : Granted) → DoneFact a e key x → DoneFact b e key x
done_later a b l e key (granted.Open ss ino size stamp vector) h = given_later a b l e key ss h
done_later a b l e key (granted.No why) h = tt

pub body_later : (a b : List Told) → Later a b → (from to : ℕ) (e : EpochId) (x : Body) → BodyFact a from to e x → BodyFact b from to e x
body_later a b l from to e (body.OpenSs inst file mode set kind base vector parents) h = l _ h
body_later a b l from to e (body.Opened inst answer) h = opened_later a b l from e (serial_key inst) answer h
body_later a b l from to e (body.OpenDone serial answer) h = done_later a b l e (serial_key (from_user to serial)) answer h
body_later a b l from to e (body.Op serial n o seen) h = given_later a b l e (serial_key (from_user from serial)) to h
body_later a b l from to e (body.ReadHeld serial n at len) h = given_later a b l e (serial_key (from_user from serial)) to h
body_later a b l from to e (body.Close serial) h = given_later a b l e (serial_key (from_user from serial)) to h
body_later a b l from to e (body.Closed inst made) h = l _ h
body_later a b l from to e (body.ClosedOk inst) h = l _ h
body_later a b l from to e _ h = tt

pub packets_later : (a b : List Told) → Later a b → (ps : List Packet) → Every (PacketFact a) ps → Every (PacketFact b) ps
packets_later a b l ps h = every_weaker (PacketFact a) (PacketFact b) ps (λ p. body_later a b l p.from p.to p.epoch p.body) h

pub no_fact : (past : List Told) (from to : ℕ) (e : EpochId) (x : Body) → NoFact x → BodyFact past from to e x
no_fact past from to e (body.OpenSs inst file mode set kind base vector parents) h = absurd h
no_fact past from to e (body.Opened inst answer) h = absurd h
no_fact past from to e (body.OpenDone serial answer) h = absurd h
no_fact past from to e (body.Op serial n o seen) h = absurd h
no_fact past from to e (body.ReadHeld serial n at len) h = absurd h
no_fact past from to e (body.Close serial) h = absurd h
no_fact past from to e (body.Closed inst made) h = absurd h
no_fact past from to e (body.ClosedOk inst) h = absurd h
no_fact past from to e _ h = tt

pub factless : (past : List Told) (ps : List Packet) → Every Factless ps → Every (PacketFact past) ps
factless past ps h = every_weaker Factless (PacketFact past) ps (λ p. no_fact past p.from p.to p.epoch p.body) h

pub in_later : (a b : List Told) → Later a b → (o : Option EpochId) (key ss : ℕ) → GrantedIn a o key ss → GrantedIn b o key ss
in_later a b l None key ss h = h
in_later a b l (Some e) key ss h = given_later a b l e key ss h

asking_later : (a b : List Told) → Later a b → (s : ℕ) (o : Option EpochId) (x : Asking) → AskingFact a s o x → AskingFact b s o x
asking_later a b l s o (asking.Op serial ss number it seen) h = in_later a b l o (serial_key (from_user s serial)) ss h
asking_later a b l s o (asking.Close serial ss) h = in_later a b l o (serial_key (from_user s serial)) ss h
asking_later a b l s o (asking.Look file what take) h = tt
asking_later a b l s o (asking.Open serial file how) h = tt

pub users_later : (a b : List Told) → Later a b → (s : ℕ) (o : Option EpochId) (u : Users) → UsersFact a s o u → UsersFact b s o u
users_later a b l s o u h = record {
  instances = every_weaker (HeldFact a s o) (HeldFact b s o) u.instances (λ (i : UserInstance). in_later a b l o (serial_key (from_user s i.serial)) i.ss) h.instances;
  waiting = every_weaker (WaitingFact a s o) (WaitingFact b s o) u.waiting (λ (w : WaitingCall). asking_later a b l s o w.asking) h.waiting;
}

pub stage_later : (a b : List Told) → Later a b → (s : ℕ) (e : EpochId) (key : ℕ) (x : Stage) → StageFact a s e key x → StageFact b s e key x
stage_later a b l s e key stage.Running h = tt
stage_later a b l s e key (stage.Closing made answer) h = l _ h
stage_later a b l s e key (stage.Closed answer) h = (l _ h.0, l _ h.1)

pub instance_later : (a b : List Told) → Later a b → (s : ℕ) (e : EpochId) (i : Instance) → InstanceFact a s e i → InstanceFact b s e i
instance_later a b l s e i h = record { begun = l _ h.begun; stage = stage_later a b l s e (serial_key i.inst) i.stage h.stage }

pub instances_later : (a b : List Told) → Later a b → (s : ℕ) (e : EpochId) (xs : List Instance) → Every (InstanceFact a s e) xs → Every (InstanceFact b s e) xs
instances_later a b l s e xs h = every_weaker (InstanceFact a s e) (InstanceFact b s e) xs (instance_later a b l s e) h

asked_later : (a b : List Told) → Later a b → (e : EpochId) (key : ℕ) (file : FileId) (ss : ℕ) (m : Mode) → AskedFact a e key file ss m → AskedFact b e key file ss m
asked_later a b l e key file ss mode.Make h = tt
asked_later a b l e key file ss mode.Read h = (l _ h.0, l _ h.1)
asked_later a b l e key file ss mode.Write h = (l _ h.0, l _ h.1)
asked_later a b l e key file ss mode.Resolve h = (l _ h.0, l _ h.1)
asked_later a b l e key file ss mode.Mend h = (l _ h.0, l _ h.1)

row_later : (a b : List Told) → Later a b → (e : EpochId) (r : OpenRow) (s : OpenStage) → RowFact a e r s → RowFact b e r s
row_later a b l e r opening.Asked h = asked_later a b l e (serial_key r.inst) r.file r.ss r.mode h
row_later a b l e r opening.Granted h = record { granted = l _ h.granted; there = l _ h.there; at = h.at; file = h.file; begun = l _ h.begun }
row_later a b l e r (opening.Refused why) h = tt
row_later a b l e r opening.Ended h = (l _ h.0, l _ h.1)

pub table_later : (a b : List Told) → Later a b → (e : EpochId) (t : SyncTable) → TableFact a e t → TableFact b e t
table_later a b l e t h = record { started = λ s. l _ (h.started s); opens = every_weaker (OpenFact a e t.group) (OpenFact b e t.group) t.opens (λ r k. record { group_is = k.group_is; started = l _ k.started; row = row_later a b l e r r.stage k.row }) h.opens; apart = h.apart; looks = h.looks; early = h.early }

pub tables_later : (a b : List Told) → Later a b → (e : EpochId) (ts : List SyncTable) → Every (TableFact a e) ts → Every (TableFact b e) ts
tables_later a b l e ts h = every_weaker (TableFact a e) (TableFact b e) ts (table_later a b l e) h

pub inside_later : (a b : List Told) → Later a b → (s : ℕ) (v : SiteView) (o : Option InEpoch) → InEpochFact a s v o → InEpochFact b s v o
inside_later a b l s v None h = h
inside_later a b l s v (Some e) h = (instances_later a b l s e.id v.store.instances h.0, tables_later a b l e.id v.tables h.1)

-- the frame lemma of a view
pub view_later : (a b : List Told) → Later a b → (s : ℕ) (v : SiteView) → ViewFact a s v → ViewFact b s v
view_later a b l s v h = record { users = users_later a b l s (epoch_id v.epoch) v.users h.users; inside = inside_later a b l s v v.epoch h.inside }

-- ---- what tells nothing of how an instance goes on ----

abbrev pub AloofRecord : Record → Type 0
AloofRecord (says.Grant e call request inst m file stamp ss) = ⊥
AloofRecord (says.Act e inst n o result) = ⊥
AloofRecord (says.Commit file s stamp parents content) = ⊥
AloofRecord (says.Release e inst file made) = ⊥
AloofRecord _ = Unit {0}

abbrev pub Aloof : Told → Type 0
Aloof (Shown r) = AloofRecord r
Aloof (Begins s e inst file) = ⊥
Aloof (Shuts s e inst) = ⊥
Aloof _ = Unit {0}

aloof_record : (past : List Told) (r : Record) → AloofRecord r → RecordGoesOn past r
aloof_record past (says.Grant e call request inst m file stamp ss) h = absurd h
aloof_record past (says.Act e inst n o result) h = absurd h
aloof_record past (says.Commit file s stamp parents content) h = absurd h
aloof_record past (says.Release e inst file made) h = absurd h
aloof_record past _ h = tt

aloof_told : (past : List Told) (x : Told) → Aloof x → InstanceGoesOn past x
aloof_told past (Shown r) h = aloof_record past r h
aloof_told past (Begins s e inst file) h = absurd h
aloof_told past (Shuts s e inst) h = absurd h
aloof_told past _ h = tt

pub aloof_go : (past : List Told) (xs : List Told) → Every Aloof xs → AllGoOn past xs
aloof_go past xs h = told_each locks Aloof aloof_told past xs h

-- ---- outcomes ----

pub go_append : (past a b : List Told) → AllGoOn past a → AllGoOn (onto a past) b → AllGoOn past (a ++ b)
go_append past a b h g = told_append locks past a b h g

pub growing : Growing locks
growing = record {
  carries = λ past x from to e b. body_later past (x ∷ past) (one_later x past) from to e b;
  view = λ past x me v. view_later past (x ∷ past) (one_later x past) me v;
  disk = λ past x copies h. tt;
}

-- an outcome owes what the walk of facts asks
pub fine_in : {V : Type 0} (F : List Told → V → Type 0) (past : List Told) (o : Outcome V) → Fine F past o → Owes locks F past o
fine_in F past o h = record { view = h.view; sent = h.sent; told = h.goes; written = h.disk }

pub fine_of : {V : Type 0} (F : List Told → V → Type 0) (past : List Told) (o : Outcome V) → Owes locks F past o → Fine F past o
fine_of F past o h = record { view = h.view; sent = h.sent; goes = h.told; disk = h.written }

-- one thing, and then another that writes nothing
pub then_fine : {V W : Type 0} (F : List Told → V → Type 0) (G : List Told → W → Type 0) (past : List Told) (o : Outcome V) (p : Outcome W) → Fine F past o → Fine G (onto o.told past) p → p.written ≡ None → Fine G past (joined_to o p)
then_fine F G past o p h g e = fine_of G past (joined_to o p) (then_owes locks growing F G past o p (fine_in F past o h) (fine_in G (onto o.told past) p g) e)

abbrev pub OfSite : ℕ → List Told → SiteView → Type 0
OfSite me past v = ViewFact past me v

abbrev pub SiteFine : ℕ → List Told → Outcome SiteView → Type 0
SiteFine me past o = Fine (OfSite me) past o
