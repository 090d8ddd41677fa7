-- How a site goes on: the ids that it has spent stay spent, and in an epoch whose id it had spent it has been all the time, while its tables
-- kept their reports and grants.
use Rattle.std.proofs.Common.{◌≡◌, ℕ, ◌<◌, ◌==◌, ◌⊎◌, Bool, true, false, List, [], ◌∷◌, map, Option, Some, None, sym, ◌∙◌, ap, subst, inl, inr, arith}
use Rattle.std.proofs.lemmas.Bool.Decides.{nat_tests}
use Rattle.role_steps.proofs.of_plain_facts.Numbers.{apart_test, equal_self}
use Rattle.role_steps.proofs.of_plain_facts.Tests.{true_false}
use Rattle.locus_ids.specs.declared.config.Config.{Config}
use Rattle.locus_ids.specs.declared.ids.EpochId.{EpochId}
use Rattle.locus_ids.specs.declared.ids.FileId.{FileId}
use Rattle.locus_ids.specs.declared.ids.Serial.{Serial}
use Rattle.wire_messages.specs.declared.body.Body.{Body}
use Rattle.wire_messages.specs.declared.body.Body.TheVariants as body
use Rattle.wire_messages.specs.declared.body.Granted.{Granted}
use Rattle.wire_messages.specs.declared.body.Granted.TheVariants as granted
use Rattle.wire_messages.specs.declared.packet.Packet.{Packet}
use Rattle.role_steps.specs.Adoption.{table_group, with_table}
use Rattle.role_steps.specs.Epochs.{frame_in, own_groups}
use Rattle.role_steps.specs.Own.{Every}
use Rattle.role_steps.specs.Tables.{row, with_row}
use Rattle.role_steps.specs.Views.{Frame, SiteView, Outcome, quiet, and_then, within, sync_site}
use Rattle.role_steps.specs.declared.rounds.InEpoch.{InEpoch}
use Rattle.role_steps.specs.declared.rounds.Round.{Round}
use Rattle.role_steps.specs.declared.synchronizing.SyncTable.{SyncTable}
use Rattle.role_steps.proofs.Rows.{row_other, row_same}
use Rattle.role_steps.proofs.Sending.{every_append}
use Rattle.the_run.specs.Joins.{IsAtMost}
use Rattle.the_run.specs.Kept.{Among}
use Rattle.the_run.specs.Steps.{from_user}
use Rattle.the_run.proofs.Boots.{at_each, every_weaker}
use Rattle.the_run.proofs.InsideSync.{every_row}
use Rattle.the_run.proofs.Joining.{same_at_most}
use Rattle.store_laws.proofs.OneTree.Rising.{Rising, among_map, every_among, keys_same, row_key}
use Rattle.calm_laws.specs.SentCalm.Standing.{IsSyncedBy, WithGrant, WithReport}
use Rattle.calm_laws.proofs.SentCalm.Answerless.{AnswersNone, Answerless}
use Rattle.calm_laws.proofs.SentCalm.Closing.{Begun, BodyCloses, Closes}
use Rattle.calm_laws.proofs.SentCalm.Tables.{Backed, BodyBacked, OpenBacked, LooksAnswerless, TableGrows, TableStands, grows_itself, grows_then}
use Rattle.calm_laws.proofs.SentCalm.Users.{AllHeld}

-- ---- ids ----

-- the site has promised the id, or one above it, and where it is the one that it promised last, it has joined it
abbrev pub Spent : SiteView → EpochId → Type 0
Spent v id = IsAtMost id v.promised × (id ≡ v.promised → v.installed ≡ true)

-- ---- tables ----

abbrev pub Grows : List SyncTable → List SyncTable → Type 0
Grows ts us = (group : ℕ) (t : SyncTable) → row table_group group ts ≡ Some t → (n : SyncTable) × (row table_group group us ≡ Some n) × TableGrows t n

pub all_grow : (ts : List SyncTable) → Grows ts ts
all_grow ts group t e = (t, e, grows_itself t)

-- what stays while tables grow
abbrev pub Lasts : (InEpoch → List SyncTable → Type 0) → Type 0
Lasts F = (e : InEpoch) (ts us : List SyncTable) → Grows ts us → F e ts → F e us

pub report_lasts : (group site : ℕ) → Lasts (WithReport group site)
report_lasts group site e ts us g h = let k : (n : SyncTable) × (row table_group group us ≡ Some n) × TableGrows h.table n = g group h.table h.found in record { table = k.0; found = k.1; reported = k.2.reported site h.reported }

pub synced_lasts : (c : Config) (group site : ℕ) → Lasts (IsSyncedBy c group site)
synced_lasts c group site e ts us g h = h

pub grant_lasts : (group : ℕ) (i : Serial) → Lasts (WithGrant group i)
grant_lasts group i e ts us g h = let k : (n : SyncTable) × (row table_group group us ≡ Some n) × TableGrows h.table n = g group h.table h.found in record { table = k.0; found = k.1; grant = k.2.granted i h.grant }

-- ---- a site goes on ----

pub record Goes (v u : SiteView) : Type 0 where
  pub spent : (id : EpochId) → Spent v id → Spent u id
  pub stays : (e : InEpoch) → u.epoch ≡ Some e → Spent v e.id → (v.epoch ≡ Some e) × Grows v.tables u.tables

pub goes_itself : (v : SiteView) → Goes v v
goes_itself v = record { spent = λ id s. s; stays = λ e here s. (here, all_grow v.tables) }

grow_then : (ts us ws : List SyncTable) → Grows ts us → Grows us ws → Grows ts ws
grow_then ts us ws a b group t e =
    let k : (n : SyncTable) × (row table_group group us ≡ Some n) × TableGrows t n = a group t e in
    let l : (m : SyncTable) × (row table_group group ws ≡ Some m) × TableGrows k.0 m = b group k.0 k.1 in
    (l.0, l.1, grows_then t k.0 l.0 k.2 l.2)

pub goes_then : (v u w : SiteView) → Goes v u → Goes u w → Goes v w
goes_then v u w a b = record {
  spent = λ id s. b.spent id (a.spent id s);
  stays = λ e here s. (let k : (u.epoch ≡ Some e) × Grows u.tables w.tables = b.stays e here (a.spent e.id s) in
      let l : (v.epoch ≡ Some e) × Grows v.tables u.tables = a.stays e k.0 s in (l.0, grow_then v.tables u.tables w.tables l.1 k.1));
}

-- the id is spent, and where the site is in that epoch, this holds there
pub record Ever (F : InEpoch → List SyncTable → Type 0) (id : EpochId) (v : SiteView) : Type 0 where
  pub spent : Spent v id
  pub holds : (e : InEpoch) → v.epoch ≡ Some e → e.id ≡ id → F e v.tables

pub ever_goes : (F : InEpoch → List SyncTable → Type 0) (id : EpochId) (v u : SiteView) → Lasts F → Goes v u → Ever F id v → Ever F id u
ever_goes F id v u lasts g h = record {
  spent = g.spent id h.spent;
  holds = λ e here equal_self. (let k : (v.epoch ≡ Some e) × Grows v.tables u.tables = g.stays e here (subst (Spent v) (sym equal_self) h.spent) in lasts e v.tables u.tables k.1 (h.holds e k.0 equal_self));
}

-- ---- what is sent ----

abbrev pub GrantSent : SiteView → Packet → ℕ → Granted → Type 0
GrantSent v p serial (granted.Open ss ino size stamp vector) = (group : ℕ) × Ever (WithGrant group (from_user p.to serial)) p.epoch v
GrantSent v p serial (granted.No why) = Unit {0}

pub record CloseSent (B : Begun) (c : Config) (v : SiteView) (p : Packet) (inst : Serial) : Type 0 where
  pub file : FileId
  pub begun : B p.epoch inst file
  pub to : Ever (IsSyncedBy c file.group p.to) p.epoch v

abbrev pub BodySent : Begun → Config → SiteView → Packet → Body → Type 0
BodySent B c v p (body.ReportOk group) = Ever (WithReport group p.to) p.epoch v
BodySent B c v p (body.OpenDone serial answer) = GrantSent v p serial answer
BodySent B c v p (body.Closed inst made) = CloseSent B c v p inst
BodySent B c v p _ = Unit {0}

abbrev pub SentStands : Begun → Config → SiteView → Packet → Type 0
SentStands B c v p = BodySent B c v p p.body

grant_goes : (v u : SiteView) (p : Packet) (serial : ℕ) (a : Granted) → Goes v u → GrantSent v p serial a → GrantSent u p serial a
grant_goes v u p serial (granted.Open ss ino size stamp vector) g h = (h.0, ever_goes (WithGrant h.0 (from_user p.to serial)) p.epoch v u (grant_lasts h.0 (from_user p.to serial)) g h.1)
grant_goes v u p serial (granted.No why) g h = tt

body_goes : (B : Begun) (c : Config) (v u : SiteView) (p : Packet) (b : Body) → Goes v u → BodySent B c v p b → BodySent B c u p b
body_goes B c v u p (body.ReportOk group) g h = ever_goes (WithReport group p.to) p.epoch v u (report_lasts group p.to) g h
body_goes B c v u p (body.OpenDone serial answer) g h = grant_goes v u p serial answer g h
body_goes B c v u p (body.Closed inst made) g h = record { file = h.file; begun = h.begun; to = ever_goes (IsSyncedBy c h.file.group p.to) p.epoch v u (synced_lasts c h.file.group p.to) g h.to }
body_goes B c v u p _ g h = tt

pub sent_goes : (B : Begun) (c : Config) (v u : SiteView) (ps : List Packet) → Goes v u → Every (SentStands B c v) ps → Every (SentStands B c u) ps
sent_goes B c v u ps g h = every_weaker (SentStands B c v) (SentStands B c u) ps (λ p k. body_goes B c v u p p.body g k) h

body_stands : (B : Begun) (c : Config) (v : SiteView) (p : Packet) (b : Body) → AnswersNone b → BodySent B c v p b
body_stands B c v p (body.ReportOk group) h = absurd h
body_stands B c v p (body.OpenDone serial answer) h = absurd h
body_stands B c v p (body.Closed inst made) h = absurd h
body_stands B c v p _ h = tt

-- what answers nothing stands
pub all_stand : (B : Begun) (c : Config) (v : SiteView) (ps : List Packet) → Every Answerless ps → Every (SentStands B c v) ps
all_stand B c v ps h = every_weaker Answerless (SentStands B c v) ps (λ p k. body_stands B c v p p.body k) h

-- ---- what a site has ----

-- a round is of the promised id, which isn't joined; an epoch is that of the promised id, which is
pub record Orderly (v : SiteView) : Type 0 where
  pub round : (r : Round) → v.round ≡ Some r → (r.id ≡ v.promised) × (v.installed ≡ false)
  pub inside : (e : InEpoch) → v.epoch ≡ Some e → (e.id ≡ v.promised) × (v.installed ≡ true)
  pub rising : Rising (map table_group v.tables)
  pub looks : Every LooksAnswerless v.tables

-- for an epoch and a group, or a serial number
abbrev pub Known : Type 1
Known = InEpoch → ℕ → Type 0

abbrev pub ReportsIn : Known → Config → ℕ → List ℕ → Option InEpoch → Type 0
ReportsIn R c me gs None = Unit {0}
ReportsIn R c me gs (Some e) = (group : ℕ) → Among group (own_groups c me) → Among group gs ⊎ R e group

-- outside of an epoch there is no instance
abbrev pub In : Known → Option InEpoch → ℕ → Type 0
In S None serial = ⊥
In S (Some e) serial = S e serial

-- the groups of the site are reported still or known, and so are its instances
pub record Heard (R S : Known) (c : Config) (me : ℕ) (v : SiteView) : Type 0 where
  pub reports : ReportsIn R c me v.reports v.epoch
  pub instances : AllHeld (In S v.epoch) v.users

-- the id of the epoch that a site is in is spent
pub inside_spent : (v : SiteView) (e : InEpoch) → Orderly v → v.epoch ≡ Some e → Spent v e.id
inside_spent v e h here = let k : (e.id ≡ v.promised) × (v.installed ≡ true) = h.inside e here in (subst (λ (id : EpochId). IsAtMost id v.promised) (sym k.0) (same_at_most v.promised), λ q. k.1)

some_epoch : (e d : InEpoch) → ◌≡◌ {A = Option InEpoch} (Some e) (Some d) → e ≡ d
some_epoch e d q = cc

-- what a storage site sends in the epoch stands
body_closes : (B : Begun) (c : Config) (me : ℕ) (v : SiteView) (e : InEpoch) (p : Packet) (b : Body) → Orderly v → v.epoch ≡ Some e → BodyCloses B (frame_in c me v.boot e) p b → BodySent B c v p b
body_closes B c me v e p (body.Closed inst made) h here k = record {
  file = k.file;
  begun = subst (λ (id : EpochId). B id inst k.file) (sym k.epoch) k.begun;
  to = record {
    spent = subst (Spent v) (sym k.epoch) (inside_spent v e h here);
    holds = λ d there equal_self. subst (λ (x : InEpoch). sync_site c x.members k.file.group ≡ Some p.to) (some_epoch e d (sym here ∙ there)) k.to;
  };
}
body_closes B c me v e p (body.ReportOk group) h here k = absurd k
body_closes B c me v e p (body.OpenDone serial answer) h here k = absurd k
body_closes B c me v e p _ h here k = tt

pub all_close : (B : Begun) (c : Config) (me : ℕ) (v : SiteView) (e : InEpoch) (ps : List Packet) → Orderly v → v.epoch ≡ Some e → Every (Closes B (frame_in c me v.boot e)) ps → Every (SentStands B c v) ps
all_close B c me v e ps h here k = every_weaker (Closes B (frame_in c me v.boot e)) (SentStands B c v) ps (λ p l. body_closes B c me v e p p.body h here l) k

-- ---- outcomes ----

pub record Fine (R S : Known) (B : Begun) (c : Config) (me : ℕ) (v : SiteView) (o : Outcome SiteView) : Type 0 where
  pub orderly : Orderly o.view
  pub heard : Heard R S c me o.view
  pub goes : Goes v o.view
  pub sent : Every (SentStands B c o.view) o.sent

module _ (R S : Known) (B : Begun) (c : Config) (me : ℕ) where
  pub quiet_fine : (v : SiteView) → Orderly v → Heard R S c me v → Fine R S B c me v (quiet v)
  quiet_fine v h k = record { orderly = h; heard = k; goes = goes_itself v; sent = tt }

  pub then_fine : (v : SiteView) (o : Outcome SiteView) (f : SiteView → Outcome SiteView) → Fine R S B c me v o → (Orderly o.view → Heard R S c me o.view → Fine R S B c me o.view (f o.view)) → Fine R S B c me v (and_then o f)
  then_fine v o f h g =
      let k : Fine R S B c me o.view (f o.view) = g h.orderly h.heard in
      record {
        orderly = k.orderly;
        heard = k.heard;
        goes = goes_then v o.view (f o.view).view h.goes k.goes;
        sent = every_append (SentStands B c (f o.view).view) o.sent (f o.view).sent (sent_goes B c o.view (f o.view).view o.sent k.goes h.sent) k.sent;
      }

  -- what leaves the epoch, the promised id and the tables
  pub part_with : (v : SiteView) (o : Outcome SiteView) → Orderly v → Heard R S c me o.view → o.view.round ≡ v.round → o.view.promised ≡ v.promised → o.view.installed ≡ v.installed → o.view.epoch ≡ v.epoch → o.view.tables ≡ v.tables → (Orderly o.view → Every (SentStands B c o.view) o.sent) → Fine R S B c me v o
  part_with v o h k r p i e t s = record {
    orderly = now;
    heard = k;
    goes = record {
      spent = λ id z. (subst (IsAtMost id) (sym p) z.0, λ q. i ∙ z.1 (q ∙ p));
      stays = λ x here z. (sym e ∙ here, subst (Grows v.tables) (sym t) (all_grow v.tables));
    };
    sent = s now;
  }
    where
      now : Orderly o.view
      now = record {
        round = λ x here. (let l : (x.id ≡ v.promised) × (v.installed ≡ false) = h.round x (sym r ∙ here) in (l.0 ∙ sym p, i ∙ l.1));
        inside = λ x here. (let l : (x.id ≡ v.promised) × (v.installed ≡ true) = h.inside x (sym e ∙ here) in (l.0 ∙ sym p, i ∙ l.1));
        rising = subst (λ (ts : List SyncTable). Rising (map table_group ts)) (sym t) h.rising;
        looks = subst (λ (ts : List SyncTable). Every LooksAnswerless ts) (sym t) h.looks;
      }

  -- and answers nothing
  pub part_fine : (v : SiteView) (o : Outcome SiteView) → Orderly v → Heard R S c me o.view → o.view.round ≡ v.round → o.view.promised ≡ v.promised → o.view.installed ≡ v.installed → o.view.epoch ≡ v.epoch → o.view.tables ≡ v.tables → Every Answerless o.sent → Fine R S B c me v o
  part_fine v o h k r p i e t s = part_with v o h k r p i e t (λ now. all_stand B c o.view o.sent s)

-- ---- one table of a site ----

-- a table of the site is the one of its group
pub rising_found : (t : SyncTable) (ts : List SyncTable) → Rising (map table_group ts) → Among t ts → row table_group t.group ts ≡ Some t
rising_found t [] r a = absurd a
rising_found t (x ∷ xs) r (inl e) = found (x.group == t.group) (subst (λ (z : SyncTable). (z.group == t.group) ≡ true) e (equal_self t.group))
  where
    found : (b : Bool) → b ≡ true → ◌≡◌ {A = Option SyncTable} (elim b [ true ↦ Some x | false ↦ row table_group t.group xs ]) (Some t)
    found true q = ap Some (sym e)
    found false q = absurd (true_false (sym q))
rising_found t (x ∷ xs) r (inr a) = passed (x.group == t.group) (lower x.group t.group (every_among (λ (y : ℕ). x.group < y) t.group (map table_group xs) (among_map table_group t xs a) r.0)) (rising_found t xs r.1 a)
  where
    lower : (i j : ℕ) → i < j → (i == j) ≡ false
    lower i j h = grind (arith, nat_tests)

    passed : (b : Bool) → b ≡ false → row table_group t.group xs ≡ Some t → ◌≡◌ {A = Option SyncTable} (elim b [ true ↦ Some x | false ↦ row table_group t.group xs ]) (Some t)
    passed true q h = absurd (true_false q)
    passed false q h = h

some_eq : (t n : SyncTable) → ◌≡◌ {A = Option SyncTable} (Some t) (Some n) → t ≡ n
some_eq t n e = cc

-- a table takes the place of the one of its group
pub put_grows : (ts : List SyncTable) (t n : SyncTable) → row table_group t.group ts ≡ Some t → TableGrows t n → Grows ts (with_row table_group n ts)
put_grows ts t n found g group x e = at_each n.group group ((m : SyncTable) × (row table_group group (with_row table_group n ts) ≡ Some m) × TableGrows x m)
    (λ equal_self. (n, subst (λ (k : ℕ). row table_group k (with_row table_group n ts) ≡ Some n) equal_self (row_same table_group n ts), subst (λ (y : SyncTable). TableGrows y n) (some_eq t x (sym found ∙ (ap (λ (k : ℕ). row table_group k ts) (sym g.group ∙ equal_self) ∙ e))) g))
    (λ ne. (x, row_other table_group n group ts (apart_test n.group group ne) ∙ e, grows_itself x))

pub put_orderly : (v : SiteView) (t n : SyncTable) → row table_group t.group v.tables ≡ Some t → TableGrows t n → LooksAnswerless n → Orderly v → Orderly (with_table n v)
put_orderly v t n found g looks h = record {
  round = h.round;
  inside = h.inside;
  rising = subst Rising (sym (keys_same table_group n v.tables h.rising (subst (λ (k : ℕ). Among k (map table_group v.tables)) (sym g.group) (among_map table_group t v.tables (row_key table_group t.group v.tables t found).0)))) h.rising;
  looks = every_row LooksAnswerless table_group n v.tables looks h.looks;
}

pub put_goes : (v : SiteView) (t n : SyncTable) → row table_group t.group v.tables ≡ Some t → TableGrows t n → Goes v (with_table n v)
put_goes v t n found g = record { spent = λ id s. s; stays = λ e here s. (here, put_grows v.tables t n found g) }

-- ---- what a table sends ----

-- what is so at a table of the site stands there
open_sent : (v : SiteView) (id : EpochId) (n : SyncTable) (p : Packet) (serial : ℕ) (a : Granted) → Spent v id → row table_group n.group v.tables ≡ Some n → OpenBacked id n p serial a → GrantSent v p serial a
open_sent v id n p serial (granted.Open ss ino size stamp vector) s found h = (n.group, record { spent = subst (Spent v) (sym h.0) s; holds = λ e here equal_self. record { table = n; found = found; grant = h.1 } })
open_sent v id n p serial (granted.No why) s found h = tt

table_sent : (B : Begun) (c : Config) (v : SiteView) (id : EpochId) (n : SyncTable) (p : Packet) (b : Body) → Spent v id → row table_group n.group v.tables ≡ Some n → BodyBacked id n p b → BodySent B c v p b
table_sent B c v id n p (body.ReportOk group) s found h = record {
  spent = subst (Spent v) (sym h.0) s;
  holds = λ e here equal_self. record { table = n; found = subst (λ (k : ℕ). row table_group k v.tables ≡ Some n) (sym h.1) found; reported = h.2 };
}
table_sent B c v id n p (body.OpenDone serial answer) s found h = open_sent v id n p serial answer s found h
table_sent B c v id n p (body.Closed inst made) s found h = absurd h
table_sent B c v id n p _ s found h = tt

module _ (R S : Known) (B : Begun) (c : Config) (me : ℕ) where
  -- a table of the site in its epoch does a step
  pub table_fine : (f : Frame) (v : SiteView) (e : InEpoch) (t : SyncTable) (o : Outcome SyncTable) → f.epoch ≡ e.id → v.epoch ≡ Some e → row table_group t.group v.tables ≡ Some t → TableStands f t o → Orderly v → Heard R S c me v →
      Fine R S B c me v (within (λ (now : SyncTable). with_table now v) o)
  table_fine f v e t o equal_self here found k h g = record {
    orderly = put_orderly v t o.view found k.grows k.looks h;
    heard = record { reports = g.reports; instances = g.instances };
    goes = put_goes v t o.view found k.grows;
    sent = every_weaker (Backed f.epoch o.view) (SentStands B c (with_table o.view v)) o.sent
        (λ p b. table_sent B c (with_table o.view v) f.epoch o.view p p.body (subst (Spent v) (sym equal_self) (inside_spent v e h here)) (row_same table_group o.view v.tables) b) k.sent;
  }
