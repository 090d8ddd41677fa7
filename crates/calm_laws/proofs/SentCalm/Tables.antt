-- What a synchronization site does at a table: reports that have come and opens that were granted stay, and each answer that it sends stands.
use Rattle.std.proofs.Common.{◌≡◌, ℕ, true, false, List, [], ◌∷◌, Option, Some, None, refl, sym, ◌∙◌, ap, subst}
use Rattle.role_steps.proofs.of_plain_facts.Options.{none_some, some_same}
use Rattle.locus_ids.specs.Sites.{has}
use Rattle.locus_ids.specs.declared.ids.EpochId.{EpochId}
use Rattle.locus_ids.specs.declared.ids.Serial.{Serial}
use Rattle.locus_ids.specs.declared.sites.Sites.{Sites}
use Rattle.trace_book.specs.declared.operation.What.{What}
use Rattle.trace_book.specs.declared.operation.What.TheVariants as what
use Rattle.wire_messages.specs.declared.body.Body.{Body}
use Rattle.wire_messages.specs.declared.body.Body.TheVariants as body
use Rattle.wire_messages.specs.declared.body.Granted.{Granted}
use Rattle.wire_messages.specs.declared.body.Granted.TheVariants as granted
use Rattle.wire_messages.specs.declared.body.OpenedAs.{OpenedAs}
use Rattle.wire_messages.specs.declared.body.OpenedAs.TheVariants as opened
use Rattle.wire_messages.specs.declared.packet.Packet.{Packet}
use Rattle.role_steps.specs.Looks.{LookRequest, Service, Denies as Unserved, Serves, service, letter, serving_letter, last_look, is_look_before, is_same_look, new_look, after_last, takes_look, look_key}
use Rattle.role_steps.specs.Notices.{lagging, notice, notices_of, notices_by, file_notices, notices, row_notices}
use Rattle.role_steps.specs.Opens.{OpenRequest, Decision, Denies, Grants, decision, decides, asked_row, denied_row, granted_row, open_key, repeats_open, on_open_of, takes_open, open_row, with_open, answers_open, by_stage, on_opened_of, on_opened}
use Rattle.role_steps.specs.Own.{Every}
use Rattle.role_steps.specs.Reports.{sync_repeats}
use Rattle.role_steps.specs.Tables.{row, with_latest}
use Rattle.role_steps.specs.Versions.{holders_of, chosen_site, file_row}
use Rattle.role_steps.specs.Views.{Frame, Outcome, quiet, sends, packet, process_key, serial_key}
use Rattle.role_steps.specs.declared.synchronizing.FileRow.{FileRow}
use Rattle.role_steps.specs.declared.synchronizing.LastLook.{LastLook}
use Rattle.role_steps.specs.declared.synchronizing.OpenRow.{OpenRow}
use Rattle.role_steps.specs.declared.synchronizing.OpenStage.{OpenStage}
use Rattle.role_steps.specs.declared.synchronizing.OpenStage.TheVariants as stage
use Rattle.role_steps.specs.declared.synchronizing.SyncTable.{SyncTable}
use Rattle.role_steps.specs.declared.synchronizing.VersionRow.{VersionRow}
use Rattle.role_steps.proofs.Sending.{every_cond, every_map, every_flat_map}
use Rattle.the_run.specs.Steps.{from_user}
use Rattle.the_run.proofs.Boots.{at_each, every_weaker}
use Rattle.the_run.proofs.InsideSync.{Found, every_row, row_found}
use Rattle.store_laws.proofs.Tabled.{latest_other, latest_same}
use Rattle.store_laws.proofs.OneTree.Rising.{row_key}
use Rattle.calm_laws.specs.SentCalm.Standing.{IsGrantedIn, IsGrantedStage}
use Rattle.calm_laws.proofs.SentCalm.Answerless.{AnswersNone, Answerless}

-- ---- what a table keeps ----

-- reports that have come stay, and so do opens that were granted
pub record TableGrows (t n : SyncTable) : Type 0 where
  pub group : n.group ≡ t.group
  pub reported : (s : ℕ) → has t.reported s ≡ true → has n.reported s ≡ true
  pub granted : (i : Serial) → IsGrantedIn t.opens i → IsGrantedIn n.opens i

pub grows_itself : (t : SyncTable) → TableGrows t t
grows_itself t = record { group = refl; reported = λ s h. h; granted = λ i g. g }

pub grows_then : (t n k : SyncTable) → TableGrows t n → TableGrows n k → TableGrows t k
grows_then t n k a b = record { group = b.group ∙ a.group; reported = λ s h. b.reported s (a.reported s h); granted = λ i g. b.granted i (a.granted i g) }

-- an open is put in its place: where one was granted that had it, so is this one
pub open_grows : (t : SyncTable) (q : OpenRow) → ((r : OpenRow) → row open_key (open_key q) t.opens ≡ Some r → IsGrantedStage r.stage → IsGrantedStage q.stage) → TableGrows t (with_open q t)
open_grows t q h = record { group = refl; reported = λ s e. e; granted = λ i g. put i g }
  where
    put : (i : Serial) → IsGrantedIn t.opens i → IsGrantedIn (with_latest open_key q t.opens) i
    put i g = at_each (open_key q) (serial_key i) (IsGrantedIn (with_latest open_key q t.opens) i)
        (λ e. record {
          open_row = q;
          found = subst (λ (k : ℕ). row open_key k (with_latest open_key q t.opens) ≡ Some q) e (latest_same open_key q t.opens);
          granted = h g.open_row (ap (λ (k : ℕ). row open_key k t.opens) e ∙ g.found) g.granted;
        })
        (λ ne. record { open_row = g.open_row; found = latest_other open_key q (serial_key i) t.opens ne ∙ g.found; granted = g.granted })

-- ---- answers ----

abbrev pub OpenBacked : EpochId → SyncTable → Packet → ℕ → Granted → Type 0
OpenBacked e t p serial (granted.Open ss ino size stamp vector) = (p.epoch ≡ e) × IsGrantedIn t.opens (from_user p.to serial)
OpenBacked e t p serial (granted.No why) = Unit {0}

abbrev pub BodyBacked : EpochId → SyncTable → Packet → Body → Type 0
BodyBacked e t p (body.ReportOk group) = (p.epoch ≡ e) × (group ≡ t.group) × (has t.reported p.to ≡ true)
BodyBacked e t p (body.OpenDone serial answer) = OpenBacked e t p serial answer
BodyBacked e t p (body.Closed inst made) = ⊥
BodyBacked e t p _ = Unit {0}

-- what the packet answers is so at the table, and it closes nothing
abbrev pub Backed : EpochId → SyncTable → Packet → Type 0
Backed e t p = BodyBacked e t p p.body

body_backed : (e : EpochId) (t : SyncTable) (p : Packet) (b : Body) → AnswersNone b → BodyBacked e t p b
body_backed e t p (body.ReportOk group) h = absurd h
body_backed e t p (body.OpenDone serial answer) h = absurd h
body_backed e t p (body.Closed inst made) h = absurd h
body_backed e t p _ h = tt

pub all_backed : (e : EpochId) (t : SyncTable) (ps : List Packet) → Every Answerless ps → Every (Backed e t) ps
all_backed e t ps h = every_weaker Answerless (Backed e t) ps (λ p k. body_backed e t p p.body k) h

open_later : (e : EpochId) (t n : SyncTable) (p : Packet) (serial : ℕ) (a : Granted) → TableGrows t n → OpenBacked e t p serial a → OpenBacked e n p serial a
open_later e t n p serial (granted.Open ss ino size stamp vector) g h = (h.0, g.granted (from_user p.to serial) h.1)
open_later e t n p serial (granted.No why) g h = tt

body_later : (e : EpochId) (t n : SyncTable) (p : Packet) (b : Body) → TableGrows t n → BodyBacked e t p b → BodyBacked e n p b
body_later e t n p (body.ReportOk group) g h = (h.0, h.1 ∙ sym g.group, g.reported p.to h.2)
body_later e t n p (body.OpenDone serial answer) g h = open_later e t n p serial answer g h
body_later e t n p (body.Closed inst made) g h = h
body_later e t n p _ g h = tt

pub backed_later : (e : EpochId) (t n : SyncTable) (ps : List Packet) → TableGrows t n → Every (Backed e t) ps → Every (Backed e n) ps
backed_later e t n ps g h = every_weaker (Backed e t) (Backed e n) ps (λ p k. body_later e t n p p.body g k) h

-- ---- outcomes ----

-- a kept answer to a look is no such answer
abbrev pub LookAnswerless : LastLook → Type 0
LookAnswerless l = AnswersNone l.body

abbrev pub LooksAnswerless : SyncTable → Type 0
LooksAnswerless t = Every LookAnswerless t.looks

pub record TableStands (f : Frame) (t : SyncTable) (o : Outcome SyncTable) : Type 0 where
  pub grows : TableGrows t o.view
  pub looks : LooksAnswerless o.view
  pub sent : Every (Backed f.epoch o.view) o.sent

pub still : (f : Frame) (t : SyncTable) → LooksAnswerless t → TableStands f t (quiet t)
still f t h = record { grows = grows_itself t; looks = h; sent = tt }

-- a table that has the same opens and reports
pub alike : (f : Frame) (t n : SyncTable) (ps : List Packet) → n.group ≡ t.group → n.reported ≡ t.reported → n.opens ≡ t.opens → LooksAnswerless n → Every Answerless ps → TableStands f t (sends ps n)
alike f t n ps g r o h k = record {
  grows = record { group = g; reported = λ s e. ap (λ (x : Sites). has x s) r ∙ e; granted = λ i e. subst (λ (rs : List OpenRow). IsGrantedIn rs i) (sym o) e };
  looks = h;
  sent = all_backed f.epoch n ps k;
}

-- ---- notices ----

notices_of_answerless : (f : Frame) (group : ℕ) (r : FileRow) (v : VersionRow) (o : Option ℕ) → Every Answerless (notices_of f group r v o)
notices_of_answerless f group r v None = tt
notices_of_answerless f group r v (Some holder) = every_map Answerless (notice f group r v holder) (lagging f r (holders_of r v.stamp)) (λ s. tt)

notices_by_answerless : (f : Frame) (group : ℕ) (r : FileRow) (vs : List VersionRow) → Every Answerless (notices_by f group r vs)
notices_by_answerless f group r [] = tt
notices_by_answerless f group r (v ∷ []) = notices_of_answerless f group r v (chosen_site f.me f.me (holders_of r v.stamp))
notices_by_answerless f group r (v ∷ w ∷ others) = tt

pub notices_answerless : (f : Frame) (t : SyncTable) → Every Answerless (notices f t)
notices_answerless f t = every_flat_map Answerless (file_notices f t.group) t.files (λ r. notices_by_answerless f t.group r r.kept)

pub row_notices_answerless : (f : Frame) (group : ℕ) (o : Option FileRow) → Every Answerless (row_notices f group o)
row_notices_answerless f group None = tt
row_notices_answerless f group (Some r) = notices_by_answerless f group r r.kept

pub sync_repeats_answerless : (f : Frame) (t : SyncTable) → Every Answerless (sync_repeats f t)
sync_repeats_answerless f t = every_cond Answerless t.started (notices f t) [] (notices_answerless f t) tt

-- ---- opens ----

-- no open of the instance was there
none_there : (t : SyncTable) (k : ℕ) (A : Type 0) → row open_key k t.opens ≡ None → (r : OpenRow) → row open_key k t.opens ≡ Some r → A
none_there t k A none r e = absurd (none_some r (sym none ∙ e))

decides_stands : (f : Frame) (t : SyncTable) (us : ℕ) (o : OpenRequest) (d : Decision) → open_row t (from_user us o.serial) ≡ None → LooksAnswerless t → TableStands f t (decides f t us o d)
decides_stands f t us o (Denies why) none h = record {
  grows = open_grows t (denied_row us o why) (λ r e g. none_there t (serial_key (from_user us o.serial)) ⊥ none r e);
  looks = h;
  sent = (tt, tt);
}
decides_stands f t us o (Grants ss stamp vector parents set k) none h = record {
  grows = open_grows t (asked_row us o ss stamp vector parents set k) (λ r e g. none_there t (serial_key (from_user us o.serial)) ⊥ none r e);
  looks = h;
  sent = (tt, tt);
}

granted_here : (r : OpenRow) (rs : List OpenRow) → row open_key (open_key r) rs ≡ Some r → IsGrantedStage r.stage → IsGrantedIn rs (from_user r.inst.us r.inst.serial)
granted_here r rs found g = record { open_row = r; found = found; granted = g }

repeats_backed : (f : Frame) (t : SyncTable) (r : OpenRow) (s : OpenStage) → r.stage ≡ s → row open_key (open_key r) t.opens ≡ Some r → Every (Backed f.epoch t) (repeats_open f r s)
repeats_backed f t r stage.Asked e found = (tt, tt)
repeats_backed f t r stage.Granted e found = ((refl, granted_here r t.opens found (subst IsGrantedStage (sym e) tt)), tt)
repeats_backed f t r (stage.Refused why) e found = (tt, tt)
repeats_backed f t r stage.Ended e found = tt

-- its key finds what was found under it
own_found : (t : SyncTable) (k : ℕ) (r : OpenRow) → row open_key k t.opens ≡ Some r → row open_key (open_key r) t.opens ≡ Some r
own_found t k r e = ap (λ (j : ℕ). row open_key j t.opens) (row_key open_key k t.opens r e).1 ∙ e

pub takes_open_stands : (f : Frame) (us : ℕ) (o : OpenRequest) (t : SyncTable) → LooksAnswerless t → TableStands f t (takes_open f us o t)
takes_open_stands f us o t h = over (open_row t (from_user us o.serial)) refl
  where
    over : (q : Option OpenRow) → open_row t (from_user us o.serial) ≡ q → TableStands f t (on_open_of f t us o q)
    over None e = decides_stands f t us o (decision f t us o o.how) e h
    over (Some r) e = record { grows = grows_itself t; looks = h; sent = repeats_backed f t r r.stage refl (own_found t (serial_key (from_user us o.serial)) r e) }

-- the storage site has answered: the open was asked, and is granted or refused from now on
asked_granted : (s : OpenStage) → s ≡ stage.Asked → IsGrantedStage s → ⊥
asked_granted s e g = subst IsGrantedStage e g

answers_stands : (f : Frame) (r : OpenRow) (a : OpenedAs) (t : SyncTable) → r.stage ≡ stage.Asked → row open_key (open_key r) t.opens ≡ Some r → LooksAnswerless t → TableStands f t (answers_open f r a t)
answers_stands f r (opened.Open ino size) t asked found h = record {
  grows = open_grows t (granted_row r ino size) (λ q e g. tt);
  looks = h;
  sent = ((refl, granted_here (granted_row r ino size) (with_latest open_key (granted_row r ino size) t.opens) (latest_same open_key (granted_row r ino size) t.opens) tt), tt);
}
answers_stands f r (opened.No why) t asked found h = record {
  grows = open_grows t (record r { stage = stage.Refused why }) (λ q e g. asked_granted q.stage (ap (λ (x : OpenRow). x.stage) (some_same q r (sym e ∙ found)) ∙ asked) g);
  looks = h;
  sent = (tt, tt);
}

stage_stands : (f : Frame) (r : OpenRow) (a : OpenedAs) (s : OpenStage) (t : SyncTable) → r.stage ≡ s → row open_key (open_key r) t.opens ≡ Some r → LooksAnswerless t → TableStands f t (by_stage f r a s t)
stage_stands f r a stage.Asked t e found h = answers_stands f r a t e found h
stage_stands f r a stage.Granted t e found h = still f t h
stage_stands f r a (stage.Refused why) t e found h = still f t h
stage_stands f r a stage.Ended t e found h = still f t h

pub on_opened_stands : (f : Frame) (inst : Serial) (a : OpenedAs) (t : SyncTable) → LooksAnswerless t → TableStands f t (on_opened f inst a t)
on_opened_stands f inst a t h = over (open_row t inst) refl
  where
    over : (q : Option OpenRow) → open_row t inst ≡ q → TableStands f t (on_opened_of f a q t)
    over None e = still f t h
    over (Some r) e = stage_stands f r a r.stage t refl (own_found t (serial_key inst) r e) h

-- ---- looks ----

serving_answerless : (us : ℕ) (l : LookRequest) (r : FileRow) (v : VersionRow) (site : ℕ) (w : What) → AnswersNone (serving_letter us l r v site w).body
serving_answerless us l r v site (what.Name component) = tt
serving_answerless us l r v site what.List = tt
serving_answerless us l r v site what.Stat = tt
serving_answerless us l r v site (what.Whole stamp) = tt

letter_answerless : (us : ℕ) (l : LookRequest) (known : Option FileRow) (s : Service) → AnswersNone (letter us l known s).body
letter_answerless us l known (Unserved why) = tt
letter_answerless us l None (Serves v site) = tt
letter_answerless us l (Some r) (Serves v site) = serving_answerless us l r v site l.what

new_look_stands : (f : Frame) (us : ℕ) (l : LookRequest) (known : Option FileRow) (t : SyncTable) → LooksAnswerless t → TableStands f t (new_look f us l known t)
new_look_stands f us l known t h =
    let s : Service = service f us l.what known in
    let p : AnswersNone (letter us l known s).body = letter_answerless us l known s in
    let k : TableStands f t (sends (packet f (letter us l known s).to (letter us l known s).body ∷ []) (new_look f us l known t).view) = alike f t (new_look f us l known t).view (packet f (letter us l known s).to (letter us l known s).body ∷ []) refl refl refl (every_row LookAnswerless look_key (last_look us l (letter us l known s)) t.looks p h) (p, tt) in
    record { grows = k.grows; looks = k.looks; sent = k.sent }

after_last_stands : (f : Frame) (us : ℕ) (l : LookRequest) (o : Option LastLook) (t : SyncTable) → Found LookAnswerless o → LooksAnswerless t → TableStands f t (after_last f us l o t)
after_last_stands f us l None t k h = new_look_stands f us l (file_row t l.file.ino) t h
after_last_stands f us l (Some last) t k h =
    elim (is_look_before l last) as (λ b. TableStands f t (elim b [ true ↦ quiet t | false ↦ elim (is_same_look l last) [ true ↦ sends (packet f last.to last.body ∷ []) t | false ↦ new_look f us l (file_row t l.file.ino) t ] ])) [
      | true ↦ still f t h
      | false ↦ elim (is_same_look l last) as (λ b. TableStands f t (elim b [ true ↦ sends (packet f last.to last.body ∷ []) t | false ↦ new_look f us l (file_row t l.file.ino) t ])) [
        | true ↦ alike f t t (packet f last.to last.body ∷ []) refl refl refl h (k, tt)
        | false ↦ new_look_stands f us l (file_row t l.file.ino) t h
      ]
    ]

pub takes_look_stands : (f : Frame) (us : ℕ) (l : LookRequest) (t : SyncTable) → LooksAnswerless t → TableStands f t (takes_look f us l t)
takes_look_stands f us l t h = after_last_stands f us l (row look_key (process_key us l.process) t.looks) t (row_found LookAnswerless look_key (process_key us l.process) t.looks h) h
