-- What stands at the sites of a world goes on standing as sites go on.
use Rattle.std.proofs.Common.{◌≡◌, ℕ, ◌+◌, ◌≤◌, ◌⊎◌, List, [], ◌∷◌, Option, Some, None, refl, ◌∙◌, inl, inr, arith}
use Rattle.locus_ids.specs.declared.config.Config.{Config}
use Rattle.locus_ids.specs.declared.ids.EpochId.{EpochId}
use Rattle.locus_ids.specs.declared.ids.FileId.{FileId}
use Rattle.locus_ids.specs.declared.ids.Serial.{Serial}
use Rattle.wire_messages.specs.declared.body.Body.{Body}
use Rattle.wire_messages.specs.declared.body.Body.TheVariants as body
use Rattle.wire_messages.specs.declared.body.Granted.{Granted}
use Rattle.wire_messages.specs.declared.body.Granted.TheVariants as granted
use Rattle.wire_messages.specs.declared.packet.Packet.{Packet}
use Rattle.role_steps.specs.Own.{Every}
use Rattle.role_steps.specs.Views.{SiteView, Told, boot_in, serial_key}
use Rattle.role_steps.specs.declared.rounds.InEpoch.{InEpoch}
use Rattle.role_steps.specs.declared.synchronizing.SyncTable.{SyncTable}
use Rattle.the_run.specs.Kept.{Among}
use Rattle.the_run.specs.Steps.{from_user}
use Rattle.the_run.specs.Worlds.{World, Running, Numbered, Line, told_onto, place_at}
use Rattle.the_run.proofs.Boots.{every_weaker}
use Rattle.store_laws.specs.of_site_laws.Vectors.Written.{WasTold, past_of}
use Rattle.store_laws.specs.of_site_laws.Locks.Going.{BegunAt, WasBegunAt}
use Rattle.run_laws.specs.Epochs.Known.{Places, boots_on}
use Rattle.calm_laws.specs.SentCalm.Standing.{IsSyncedBy, WithGrant, WithReport}
use Rattle.calm_laws.proofs.SentCalm.Users.{held_leads}
use Rattle.calm_laws.proofs.SentCalm.Views.{In, ReportsIn, Ever, Goes, Heard, Lasts, Orderly, ever_goes, goes_itself, grant_lasts, report_lasts, synced_lasts}

-- ---- what stands at a site ----

-- the site has had the boot, and where it runs in it the id is spent, and this holds there while it is in that epoch
pub record EverAt (at : Places) (s boot : ℕ) (F : InEpoch → List SyncTable → Type 0) (id : EpochId) : Type 0 where
  pub some : 1 ≤ boot
  pub had : boot ≤ boots_on at s
  pub ever : (v : SiteView) → at s ≡ Some (Running v) → v.boot ≡ boot → Ever F id v

abbrev pub GrantFact : Places → Packet → ℕ → Granted → Type 0
GrantFact at p serial (granted.Open ss ino size stamp vector) = (group : ℕ) × EverAt at p.from p.from_boot (WithGrant group (from_user p.to serial)) p.epoch
GrantFact at p serial (granted.No why) = Unit {0}

pub record CloseFact (c : Config) (trace : List Line) (at : Places) (p : Packet) (i : Serial) : Type 0 where
  pub file : FileId
  pub begun : WasBegunAt (past_of trace) p.from p.epoch (serial_key i) file
  pub to : EverAt at p.from p.from_boot (IsSyncedBy c file.group p.to) p.epoch

abbrev pub BodyFact : Config → List Line → Places → Packet → Body → Type 0
BodyFact c trace at p (body.ReportOk group) = EverAt at p.from p.from_boot (WithReport group p.to) p.epoch
BodyFact c trace at p (body.OpenDone serial answer) = GrantFact at p serial answer
BodyFact c trace at p (body.Closed inst made) = CloseFact c trace at p inst
BodyFact c trace at p _ = Unit {0}

abbrev pub PacketFact : Config → List Line → Places → Packet → Type 0
PacketFact c trace at p = BodyFact c trace at p p.body

abbrev pub NumberedFact : Config → List Line → Places → Numbered → Type 0
NumberedFact c trace at x = PacketFact c trace at x.packet

-- a member has the site's report of the group
pub record ReportKnown (at : Places) (s : ℕ) (e : InEpoch) (group : ℕ) : Type 0 where
  pub to : ℕ
  pub ever : EverAt at to (boot_in e.members.boot to) (WithReport group s) e.id

-- a member has the open as granted
pub record GrantKnown (at : Places) (s : ℕ) (e : InEpoch) (serial : ℕ) : Type 0 where
  pub by : ℕ
  pub group : ℕ
  pub ever : EverAt at by (boot_in e.members.boot by) (WithGrant group (from_user s serial)) e.id

pub record ViewFact (c : Config) (at : Places) (s : ℕ) (v : SiteView) : Type 0 where
  pub orderly : Orderly v
  pub heard : Heard (ReportKnown at s) (GrantKnown at s) c s v

pub record Stand (c : Config) (w : World) : Type 0 where
  pub packets : Every (NumberedFact c w.trace (place_at w)) w.sent
  pub underway : Every (NumberedFact c w.trace (place_at w)) w.underway
  pub views : (s : ℕ) (v : SiteView) → place_at w s ≡ Some (Running v) → ViewFact c (place_at w) s v

-- ---- what goes on ----

-- a site that runs has run in that boot before and went on from there, or it has booted since
abbrev pub WentOn : Places → ℕ → SiteView → Type 0
WentOn at s v = ((u : SiteView) × (at s ≡ Some (Running u)) × (u.boot ≡ v.boot) × Goes u v) ⊎ (boots_on at s + 1 ≤ v.boot)

pub record Later (at now : Places) : Type 0 where
  pub boots : (s : ℕ) → boots_on at s ≤ boots_on now s
  pub went : (s : ℕ) (v : SiteView) → now s ≡ Some (Running v) → WentOn at s v

pub ever_later : (at now : Places) (s boot : ℕ) (F : InEpoch → List SyncTable → Type 0) (id : EpochId) → Lasts F → Later at now → EverAt at s boot F id → EverAt now s boot F id
ever_later at now s boot F id lasts l k = record {
  some = k.some;
  had = (let a : boots_on at s ≤ boots_on now s = l.boots s in let b : boot ≤ boots_on at s = k.had in omega (arith, a, b));
  ever = λ v here same. by_case v same (l.went s v here);
}
  where
    by_case : (v : SiteView) → v.boot ≡ boot → WentOn at s v → Ever F id v
    by_case v same (inl g) = ever_goes F id g.0 v lasts g.3 (k.ever g.0 g.1 (g.2 ∙ same))
    by_case v same (inr g) = absurd (let b : boot ≤ boots_on at s = k.had in omega (arith, g, same, b))

-- what was told stays told
pub told_more : (P : Told → Type 0) (n : ℕ) (told : List Told) (trace : List Line) → WasTold P (past_of trace) → WasTold P (past_of (told_onto n told trace))
told_more P n [] trace h = h
told_more P n (x ∷ xs) trace h = told_more P n xs (record { number = n; told = x } ∷ trace) (inr h)

abbrev pub More : List Line → List Line → Type 1
More old new = (P : Told → Type 0) → WasTold P (past_of old) → WasTold P (past_of new)

grant_later : (at now : Places) (p : Packet) (serial : ℕ) (a : Granted) → Later at now → GrantFact at p serial a → GrantFact now p serial a
grant_later at now p serial (granted.Open ss ino size stamp vector) l k = (k.0, ever_later at now p.from p.from_boot (WithGrant k.0 (from_user p.to serial)) p.epoch (grant_lasts k.0 (from_user p.to serial)) l k.1)
grant_later at now p serial (granted.No why) l k = tt

body_later : (c : Config) (old new : List Line) (at now : Places) (p : Packet) (b : Body) → More old new → Later at now → BodyFact c old at p b → BodyFact c new now p b
body_later c old new at now p (body.ReportOk group) m l k = ever_later at now p.from p.from_boot (WithReport group p.to) p.epoch (report_lasts group p.to) l k
body_later c old new at now p (body.OpenDone serial answer) m l k = grant_later at now p serial answer l k
body_later c old new at now p (body.Closed inst made) m l k = record {
  file = k.file;
  begun = m (BegunAt p.from p.epoch (serial_key inst) k.file) k.begun;
  to = ever_later at now p.from p.from_boot (IsSyncedBy c k.file.group p.to) p.epoch (synced_lasts c k.file.group p.to) l k.to;
}
body_later c old new at now p _ m l k = tt

pub packets_later : (c : Config) (old new : List Line) (at now : Places) (xs : List Numbered) → More old new → Later at now → Every (NumberedFact c old at) xs → Every (NumberedFact c new now) xs
packets_later c old new at now xs m l h = every_weaker (NumberedFact c old at) (NumberedFact c new now) xs (λ x k. body_later c old new at now x.packet x.packet.body m l k) h

report_later : (at now : Places) (s : ℕ) (e : InEpoch) (group : ℕ) → Later at now → ReportKnown at s e group → ReportKnown now s e group
report_later at now s e group l k = record { to = k.to; ever = ever_later at now k.to (boot_in e.members.boot k.to) (WithReport group s) e.id (report_lasts group s) l k.ever }

instance_later : (at now : Places) (s : ℕ) (o : Option InEpoch) (serial : ℕ) → Later at now → In (GrantKnown at s) o serial → In (GrantKnown now s) o serial
instance_later at now s None serial l k = k
instance_later at now s (Some e) serial l k = record { by = k.by; group = k.group; ever = ever_later at now k.by (boot_in e.members.boot k.by) (WithGrant k.group (from_user s serial)) e.id (grant_lasts k.group (from_user s serial)) l k.ever }

reports_later : (c : Config) (at now : Places) (s : ℕ) (gs : List ℕ) (o : Option InEpoch) → Later at now → ReportsIn (ReportKnown at s) c s gs o → ReportsIn (ReportKnown now s) c s gs o
reports_later c at now s gs None l h = tt
reports_later c at now s gs (Some e) l h = λ group a. over group (h group a)
  where
    over : (group : ℕ) → Among group gs ⊎ ReportKnown at s e group → Among group gs ⊎ ReportKnown now s e group
    over group (inl m) = inl m
    over group (inr k) = inr (report_later at now s e group l k)

pub heard_later : (c : Config) (at now : Places) (s : ℕ) (v : SiteView) → Later at now → Heard (ReportKnown at s) (GrantKnown at s) c s v → Heard (ReportKnown now s) (GrantKnown now s) c s v
heard_later c at now s v l h = record {
  reports = reports_later c at now s v.reports v.epoch l h.reports;
  instances = held_leads (In (GrantKnown at s) v.epoch) (In (GrantKnown now s) v.epoch) v.users (λ n k. instance_later at now s v.epoch n l k) h.instances;
}

pub view_later : (c : Config) (at now : Places) (s : ℕ) (v : SiteView) → Later at now → ViewFact c at s v → ViewFact c now s v
view_later c at now s v l h = record { orderly = h.orderly; heard = heard_later c at now s v l h.heard }

pub same_later : (at : Places) → Later at at
same_later at = record { boots = λ s. omega arith; went = λ s v here. inl (v, here, refl, goes_itself v) }
