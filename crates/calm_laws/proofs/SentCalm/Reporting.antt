-- What a synchronization site does at a table as requests wait for the start, reports come and instances are closed.
use Rattle.std.proofs.Common.{◌≡◌, ℕ, zero, suc, ◌==◌, Bool, true, false, cond, List, [], ◌∷◌, ◌++◌, Option, Some, None, refl, sym, ◌∙◌, arith}
use Rattle.std.proofs.lemmas.Bool.Decides.{nat_tests}
use Rattle.std.specs.List.{list_any}
use Rattle.role_steps.proofs.of_plain_facts.Tests.{or_first, or_second}
use Rattle.locus_ids.specs.Sites.{has, with_site}
use Rattle.locus_ids.specs.declared.ids.FileId.{FileId}
use Rattle.locus_ids.specs.declared.ids.Serial.{Serial}
use Rattle.locus_ids.specs.declared.ids.Stamp.{Stamp}
use Rattle.locus_ids.specs.declared.sites.Sites.{Sites}
use Rattle.locus_ids.proofs.Sets.{has-with}
use Rattle.wire_messages.specs.declared.body.Body.{Body}
use Rattle.wire_messages.specs.declared.body.Body.TheVariants as body
use Rattle.wire_messages.specs.declared.body.MadeVersion.{MadeVersion}
use Rattle.wire_messages.specs.declared.body.ReportedCopy.{ReportedCopy}
use Rattle.role_steps.specs.Looks.{LookRequest, takes_look}
use Rattle.role_steps.specs.Notices.{notices}
use Rattle.role_steps.specs.Opens.{OpenRequest, takes_open, open_row, with_open}
use Rattle.role_steps.specs.Own.{Every}
use Rattle.role_steps.specs.Reports.{waits_early, is_early_of, on_open, on_look, takes_early, takes_all_early, starts, starts_if, have_all_reported, counts_report, with_reported, with_all_reported, with_report, on_report, published, published_notices, closed_ok, closes_at, on_closed_of, on_closed, on_have_of, on_have}
use Rattle.role_steps.specs.Versions.{file_row}
use Rattle.role_steps.specs.Views.{Frame, Outcome, quiet}
use Rattle.role_steps.specs.declared.synchronizing.Early.{Early}
use Rattle.role_steps.specs.declared.synchronizing.FileRow.{FileRow}
use Rattle.role_steps.specs.declared.synchronizing.OpenRow.{OpenRow}
use Rattle.role_steps.specs.declared.synchronizing.OpenStage.{OpenStage}
use Rattle.role_steps.specs.declared.synchronizing.OpenStage.TheVariants as stage
use Rattle.role_steps.specs.declared.synchronizing.SyncTable.{SyncTable}
use Rattle.role_steps.proofs.Sending.{every_append}
use Rattle.calm_laws.proofs.SentCalm.Answerless.{Answerless}
use Rattle.calm_laws.proofs.SentCalm.Tables.{Backed, LooksAnswerless, TableGrows, TableStands, grows_itself, grows_then, open_grows, all_backed, backed_later, still, alike, notices_answerless, row_notices_answerless, takes_open_stands, takes_look_stands}

-- ---- requests before the start ----

early_stands : (f : Frame) (site process : ℕ) (b : Body) (t : SyncTable) → LooksAnswerless t → TableStands f t (quiet (waits_early site process b t))
early_stands f site process b t h = by_test (list_any (is_early_of site process) t.early)
  where
    by_test : (x : Bool) → TableStands f t (quiet (cond x t (record t { early = t.early ++ record { site = site; process = process; body = b } ∷ [] })))
    by_test true = still f t h
    by_test false = alike f t (record t { early = t.early ++ record { site = site; process = process; body = b } ∷ [] }) [] refl refl refl h tt

pub on_open_stands : (f : Frame) (us : ℕ) (o : OpenRequest) (t : SyncTable) → LooksAnswerless t → TableStands f t (on_open f us o t)
on_open_stands f us o t h =
    elim t.started as (λ b. TableStands f t (elim b [ true ↦ takes_open f us o t | false ↦ quiet (waits_early us o.process (body.Open o.serial o.call o.process o.request o.file o.how) t) ])) [
      | true ↦ takes_open_stands f us o t h
      | false ↦ early_stands f us o.process (body.Open o.serial o.call o.process o.request o.file o.how) t h
    ]

pub on_look_stands : (f : Frame) (us : ℕ) (l : LookRequest) (t : SyncTable) → LooksAnswerless t → TableStands f t (on_look f us l t)
on_look_stands f us l t h =
    elim t.started as (λ b. TableStands f t (elim b [ true ↦ takes_look f us l t | false ↦ quiet (waits_early us l.process (body.Look l.call l.process l.request l.take l.file l.what) t) ])) [
      | true ↦ takes_look_stands f us l t h
      | false ↦ early_stands f us l.process (body.Look l.call l.process l.request l.take l.file l.what) t h
    ]

takes_early_stands : (f : Frame) (us : ℕ) (b : Body) (t : SyncTable) → LooksAnswerless t → TableStands f t (takes_early f us b t)
takes_early_stands f us (body.Open serial call process request file how) t h = takes_open_stands f us (record { serial = serial; call = call; process = process; request = request; file = file; how = how }) t h
takes_early_stands f us (body.Look call process request take file what) t h = takes_look_stands f us (record { call = call; process = process; request = request; take = take; file = file; what = what }) t h
takes_early_stands f us _ t h = still f t h

all_early_stands : (f : Frame) (es : List Early) (t : SyncTable) → LooksAnswerless t → TableStands f t (takes_all_early f es t)
all_early_stands f [] t h = still f t h
all_early_stands f (e ∷ es) t h =
    let o : Outcome SyncTable = takes_early f e.site e.body t in
    let k : TableStands f t o = takes_early_stands f e.site e.body t h in
    let l : TableStands f o.view (takes_all_early f es o.view) = all_early_stands f es o.view k.looks in
    record {
      grows = grows_then t o.view (takes_all_early f es o.view).view k.grows l.grows;
      looks = l.looks;
      sent = every_append (Backed f.epoch (takes_all_early f es o.view).view) o.sent (takes_all_early f es o.view).sent (backed_later f.epoch o.view (takes_all_early f es o.view).view o.sent l.grows k.sent) l.sent;
    }

-- ---- reports ----

starts_stands : (f : Frame) (t : SyncTable) → LooksAnswerless t → TableStands f t (starts f t)
starts_stands f t h =
    let now : SyncTable = record t { started = true; early = [] } in
    let k : TableStands f now (takes_all_early f t.early now) = all_early_stands f t.early now h in
    record {
      grows = record { group = k.grows.group; reported = k.grows.reported; granted = k.grows.granted };
      looks = k.looks;
      sent = every_append (Backed f.epoch (takes_all_early f t.early now).view) (notices f t) (takes_all_early f t.early now).sent (all_backed f.epoch (takes_all_early f t.early now).view (notices f t) (notices_answerless f t)) k.sent;
    }

starts_if_stands : (f : Frame) (t : SyncTable) → LooksAnswerless t → TableStands f t (starts_if f t)
starts_if_stands f t h = elim (have_all_reported f t) as (λ b. TableStands f t (elim b [ true ↦ starts f t | false ↦ quiet t ])) [ true ↦ starts_stands f t h | false ↦ still f t h ]

old_low : (set : Sites) (k s : ℕ) → has set (suc s) ≡ true → has (with_site set (suc k)) (suc s) ≡ true
old_low set k s e = has-with set (suc k) (suc s) (omega arith) (omega arith) ∙ or_first (has set (suc s)) (suc s == suc k) e

old_has : (set : Sites) (from s : ℕ) → has set s ≡ true → has (with_site set from) s ≡ true
old_has set zero zero e = old_low set zero zero e
old_has set zero (suc s) e = old_low set zero s e
old_has set (suc k) zero e = old_low set k zero e
old_has set (suc k) (suc s) e = old_low set k s e

new_low : (set : Sites) (k : ℕ) → has (with_site set (suc k)) (suc k) ≡ true
new_low set k = has-with set (suc k) (suc k) (omega arith) (omega arith) ∙ or_second (has set (suc k)) (suc k == suc k) (same (suc k))
  where
    same : (n : ℕ) → (n == n) ≡ true
    same n = grind (arith, nat_tests)

new_has : (set : Sites) (from : ℕ) → has (with_site set from) from ≡ true
new_has set zero = new_low set zero
new_has set (suc k) = new_low set k

copies_grow : (from : ℕ) (xs : List ReportedCopy) (t : SyncTable) → LooksAnswerless t → TableGrows t (with_all_reported from xs t) × LooksAnswerless (with_all_reported from xs t)
copies_grow from [] t h = (grows_itself t, h)
copies_grow from (x ∷ xs) t h =
    let k : TableGrows (with_reported from x t) (with_all_reported from xs (with_reported from x t)) × LooksAnswerless (with_all_reported from xs (with_reported from x t)) = copies_grow from xs (with_reported from x t) h in
    (record { group = k.0.group; reported = k.0.reported; granted = k.0.granted }, k.1)

abbrev Counts : Frame → ℕ → SyncTable → Outcome SyncTable → Type 0
Counts f from t o = TableStands f t o × (has o.view.reported from ≡ true)

counts_stands : (f : Frame) (from : ℕ) (xs : List ReportedCopy) (t : SyncTable) → LooksAnswerless t → Counts f from t (counts_report f from xs t)
counts_stands f from xs t h =
    (elim (has t.reported from) as (λ b. has t.reported from ≡ b → Counts f from t (elim b [ true ↦ quiet t | false ↦ starts_if f (with_report from xs t) ])) [
      | true ↦ λ e. (still f t h, e)
      | false ↦ λ e. first
    ]) refl
  where
    now : SyncTable
    now = record t { reported = with_site t.reported from }

    k : TableGrows now (with_report from xs t) × LooksAnswerless (with_report from xs t)
    k = copies_grow from xs now h

    start : TableStands f (with_report from xs t) (starts_if f (with_report from xs t))
    start = starts_if_stands f (with_report from xs t) k.1

    first : Counts f from t (starts_if f (with_report from xs t))
    first = (
      record {
        grows = record {
          group = start.grows.group ∙ k.0.group;
          reported = λ s e. start.grows.reported s (k.0.reported s (old_has t.reported from s e));
          granted = λ i g. start.grows.granted i (k.0.granted i g);
        };
        looks = start.looks;
        sent = start.sent;
      },
      start.grows.reported from (k.0.reported from (new_has t.reported from)),
    )

pub on_report_stands : (f : Frame) (from : ℕ) (xs : List ReportedCopy) (t : SyncTable) → LooksAnswerless t → TableStands f t (on_report f from xs t)
on_report_stands f from xs t h =
    let k : Counts f from t (counts_report f from xs t) = counts_stands f from xs t h in
    record { grows = k.0.grows; looks = k.0.looks; sent = ((refl, sym k.0.grows.group, k.1), k.0.sent) }

-- ---- closes ----

published_answerless : (f : Frame) (r : OpenRow) (made : Option MadeVersion) (t : SyncTable) → Every Answerless (published_notices f r made t)
published_answerless f r None t = tt
published_answerless f r (Some v) t = row_notices_answerless f t.group (file_row t r.file.ino)

published_grows : (ss : ℕ) (r : OpenRow) (made : Option MadeVersion) (t n : SyncTable) → TableGrows t n → TableGrows t (published ss r made n)
published_grows ss r None t n g = g
published_grows ss r (Some v) t n g = record { group = g.group; reported = g.reported; granted = g.granted }

published_looks : (ss : ℕ) (r : OpenRow) (made : Option MadeVersion) (t : SyncTable) → LooksAnswerless t → LooksAnswerless (published ss r made t)
published_looks ss r None t h = h
published_looks ss r (Some v) t h = h

closes_stands : (f : Frame) (ss : ℕ) (r : OpenRow) (made : Option MadeVersion) (s : OpenStage) (t : SyncTable) → LooksAnswerless t → TableStands f t (closes_at f ss r made s t)
closes_stands f ss r made stage.Granted t h =
    let ended : SyncTable = with_open (record r { stage = stage.Ended }) t in
    let now : SyncTable = published ss r made ended in
    record {
      grows = published_grows ss r made t ended (open_grows t (record r { stage = stage.Ended }) (λ q e g. tt));
      looks = published_looks ss r made ended h;
      sent = all_backed f.epoch now (published_notices f r made now ++ closed_ok f ss r.inst) (every_append Answerless (published_notices f r made now) (closed_ok f ss r.inst) (published_answerless f r made now) (tt, tt));
    }
closes_stands f ss r made stage.Ended t h = alike f t t (closed_ok f ss r.inst) refl refl refl h (tt, tt)
closes_stands f ss r made stage.Asked t h = still f t h
closes_stands f ss r made (stage.Refused why) t h = still f t h

closed_of_stands : (f : Frame) (ss : ℕ) (made : Option MadeVersion) (o : Option OpenRow) (t : SyncTable) → LooksAnswerless t → TableStands f t (on_closed_of f ss made o t)
closed_of_stands f ss made None t h = still f t h
closed_of_stands f ss made (Some r) t h = closes_stands f ss r made r.stage t h

pub on_closed_stands : (f : Frame) (ss : ℕ) (inst : Serial) (made : Option MadeVersion) (t : SyncTable) → LooksAnswerless t → TableStands f t (on_closed f ss inst made t)
on_closed_stands f ss inst made t h = closed_of_stands f ss made (open_row t inst) t h

pub have_of_stands : (f : Frame) (from : ℕ) (stamp : Stamp) (o : Option FileRow) (t : SyncTable) → LooksAnswerless t → TableStands f t (quiet (on_have_of from stamp o t))
have_of_stands f from stamp None t h = still f t h
have_of_stands f from stamp (Some r) t h = alike f t (on_have_of from stamp (Some r) t) [] refl refl refl h tt

pub on_have_stands : (f : Frame) (from : ℕ) (file : FileId) (stamp : Stamp) (t : SyncTable) → LooksAnswerless t → TableStands f t (on_have from file stamp t)
on_have_stands f from file stamp t h = have_of_stands f from stamp (file_row t file.ino) t h
