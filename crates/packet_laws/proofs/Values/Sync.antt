-- What a synchronization site asks and answers is of the format, and so is what it has then.
use Rattle.std.proofs.Common.{◌≡◌, ◌≤◌, ℕ, ◌+◌, ◌==◌, Bool, true, false, cond, List, [], ◌∷◌, ◌++◌, filter, Option, None, Some, refl, sym, subst, arith}
use Rattle.std.specs.List.{list_any}
use Rattle.locus_ids.specs.Sites.{both, has, with_site}
use Rattle.locus_ids.specs.declared.ids.FileId.{FileId}
use Rattle.locus_ids.specs.declared.ids.Kind.{Kind}
use Rattle.locus_ids.specs.declared.ids.Mode.{Mode}
use Rattle.locus_ids.specs.declared.ids.Mode.TheVariants as mode
use Rattle.locus_ids.specs.declared.ids.Serial.{Serial}
use Rattle.locus_ids.specs.declared.ids.Stamp.{Stamp}
use Rattle.locus_ids.specs.declared.refusal.Refusal.{Refusal}
use Rattle.locus_ids.specs.declared.refusal.Refusal.TheVariants as refusal
use Rattle.locus_ids.specs.declared.sites.Sites.{Sites}
use Rattle.locus_ids.specs.Sizes.{inodes_max}
use Rattle.commit_graph.specs.Grants.{Opener, excludes, grant_refusal, kept_refusal}
use Rattle.commit_graph.specs.Versions.{same_stamp}
use Rattle.field_codec.specs.Codec.{followed_by}
use Rattle.field_codec.specs.Lists.{AllFit}
use Rattle.trace_book.specs.declared.operation.What.{What}
use Rattle.trace_book.specs.declared.operation.What.TheVariants as what
use Rattle.wire_fields.specs.Parts.{ascending_stamps, files_or_new, inodes, processes, sites, some_set, stamps, vectors}
use Rattle.wire_fields.specs.Refusals.{refusals}
use Rattle.wire_fields.proofs.Members.{in_range, range}
use Rattle.wire_messages.specs.Answers.{copies_from, is_new, look_answers, made_answers, modes, opened_answers, openings, reported_copies}
use Rattle.wire_messages.specs.declared.body.Body.{Body}
use Rattle.wire_messages.specs.declared.body.Body.TheVariants as body
use Rattle.wire_messages.specs.declared.body.Granted.{Granted}
use Rattle.wire_messages.specs.declared.body.Granted.TheVariants as granted
use Rattle.wire_messages.specs.declared.body.LookAnswer.{LookAnswer}
use Rattle.wire_messages.specs.declared.body.LookAnswer.TheVariants as looked
use Rattle.wire_messages.specs.declared.body.MadeVersion.{MadeVersion}
use Rattle.wire_messages.specs.declared.body.OpenedAs.{OpenedAs}
use Rattle.wire_messages.specs.declared.body.OpenedAs.TheVariants as opened
use Rattle.wire_messages.specs.declared.body.Opening.{Opening}
use Rattle.wire_messages.specs.declared.body.Opening.TheVariants as how
use Rattle.wire_messages.specs.declared.body.ReportedCopy.{ReportedCopy}
use Rattle.role_steps.specs.Own.{Every}
use Rattle.role_steps.specs.Looks.{LookRequest, Letter, Service, Denies as Unserved, Serves, after_last, done_letter, holder_letter, is_look_before, is_same_look, last_look, letter, look_key, new_look, only_kept, served_by, service, service_on, serving_letter, takes_look, whole_kept}
use Rattle.role_steps.specs.Notices.{notices}
use Rattle.role_steps.specs.Opens.{denied_row, Decision, Denies, Grants, OpenRequest, answers_open, asked_row, by_stage, decides, decision, file_decision, grant_on, granted_row, is_open_on, is_stamp_among, make_at, make_decision, mode_of, numbered_file, on_open_of, on_opened, on_opened_of, open_key, open_row, opener_of, openers, plain_at, plain_decision, repeats_open, resolve_from, stamp_held, stamp_or_none, takes_open, tells_user, unless_refused, with_open}
use Rattle.role_steps.specs.Reports.{closed_ok, is_early_of, closes_at, counts_report, have_all_reported, on_closed, on_closed_of, on_have_of, on_look, on_open, on_report, published, published_notices, starts, starts_if, sync_repeats, takes_all_early, takes_early, version_reported, waits_early, with_all_reported, with_report, with_reported}
use Rattle.role_steps.specs.Tables.{row, with_row}
use Rattle.role_steps.specs.Versions.{chosen_site, file_row, holders_of, holding_of, holding_site, joined_vectors, kept, known_or, noted, stamps_of, unknown_file, with_holder, with_version}
use Rattle.role_steps.specs.Views.{Frame, Outcome, members_of, pack_sites, packet, process_key, quiet, sends, serial_key}
use Rattle.role_steps.specs.declared.synchronizing.Early.{Early}
use Rattle.role_steps.specs.declared.synchronizing.FileRow.{FileRow}
use Rattle.role_steps.specs.declared.synchronizing.Holding.{Holding}
use Rattle.role_steps.specs.declared.synchronizing.LastLook.{LastLook}
use Rattle.role_steps.specs.declared.synchronizing.OpenRow.{OpenRow}
use Rattle.role_steps.specs.declared.synchronizing.OpenStage.{OpenStage}
use Rattle.role_steps.specs.declared.synchronizing.OpenStage.TheVariants as state
use Rattle.role_steps.specs.declared.synchronizing.SyncTable.{SyncTable}
use Rattle.role_steps.specs.declared.synchronizing.VersionRow.{VersionRow}
use Rattle.role_steps.proofs.Sending.{every_append, every_cond}
use Rattle.the_run.proofs.InsideSync.{Found, every_row, row_found}
use Rattle.packet_laws.specs.Fitting.Fields.{AreBoots}
use Rattle.packet_laws.proofs.Fitting.Lists.{every_kept}
use Rattle.packet_laws.specs.Values.Bodies.{FitsBut, IsListed, IsNamed, NamesListed}
use Rattle.packet_laws.specs.Values.Values.{EarlyFits, FileFits, HolderFits, KeptFit, LookFits, OpenFits, OpenRowFits, SentFits, StampIfAny, TableFits, VersionFits}
use Rattle.packet_laws.proofs.Values.Fields.{every_latest, every_some, kind_fits, joined_fits, listed_fits, members_listed, none_fits, nothing_fits, one_fits}
use Rattle.packet_laws.proofs.Values.Files.{ListedIfAny, all_notices_fit, chosen_listed, found_file, holders_listed, known_fits, noted_fits, row_notices_fit, unknown_fits, with_file_fits, with_holder_fits, with_version_fits}
use Rattle.packet_laws.proofs.Values.Store.{old_file}

-- what an outcome of the synchronization site sends and leaves is of the format
abbrev pub TableDone : List ℕ → Outcome SyncTable → Type 0
TableDone boots o = Every (SentFits boots) o.sent × TableFits boots o.view

-- ---- refusals ----

abbrev RefusalIfAny : Option Refusal → Type 0
RefusalIfAny None = Unit {0}
RefusalIfAny (Some why) = refusals.Fits why

abbrev OpenerFits : Opener → Type 0
OpenerFits o = sites.Fits o.site × processes.Fits o.process

kept_refused : (m : Mode) (ss : List Stamp) → Every stamps.Fits ss → RefusalIfAny (kept_refusal m ss)
kept_refused mode.Read [] h = tt
kept_refused mode.Read (a ∷ []) h = tt
kept_refused mode.Read (a ∷ b ∷ ss) h = (h.0, h.1.0)
kept_refused mode.Write [] h = tt
kept_refused mode.Write (a ∷ []) h = tt
kept_refused mode.Write (a ∷ b ∷ ss) h = (h.0, h.1.0)
kept_refused mode.Resolve [] h = tt
kept_refused mode.Resolve (a ∷ []) h = tt
kept_refused mode.Resolve (a ∷ b ∷ ss) h = tt
kept_refused mode.Mend [] h = tt
kept_refused mode.Mend (a ∷ []) h = tt
kept_refused mode.Mend (a ∷ b ∷ ss) h = tt
kept_refused mode.Make ss h = tt

refused : (m : Mode) (os : List Opener) (ss : List Stamp) → Every OpenerFits os → Every stamps.Fits ss → RefusalIfAny (grant_refusal m os ss)
refused m [] ss h k = kept_refused m ss k
refused m (o ∷ os) ss h k =
    (elim (excludes m o) as (λ b. excludes m o ≡ b → RefusalIfAny (grant_refusal m (o ∷ os) ss)) [
      | true ↦ λ e. rw e h.0
      | false ↦ λ e. rw e (refused m os ss h.1 k)
    ]) refl

opener_fits : (boots : List ℕ) (r : OpenRow) → OpenRowFits boots r → OpenerFits (opener_of r)
opener_fits boots r h = (h.named.0, h.process)

openers_fit : (boots : List ℕ) (t : SyncTable) (file : FileId) → TableFits boots t → Every OpenerFits (openers t file)
openers_fit boots t file h = every_some (OpenRowFits boots) OpenerFits opener_of (filter (is_open_on file) t.opens) (opener_fits boots) (every_kept (OpenRowFits boots) (is_open_on file) t.opens h.opens)

kept_stamps_fit : (vs : List VersionRow) → Every VersionFits vs → Every stamps.Fits (stamps_of vs)
kept_stamps_fit vs h = every_some VersionFits stamps.Fits (λ (v : VersionRow). v.stamp) vs (λ v k. k.version.0) h

pub kept_of_fit : (boots : List ℕ) (o : Option FileRow) → Found (FileFits boots) o → Every stamps.Fits (stamps_of (kept o))
kept_of_fit boots None h = tt
kept_of_fit boots (Some r) h = kept_stamps_fit r.kept h.keeps

-- ---- decisions ----

abbrev DecisionFits : List ℕ → Decision → Type 0
DecisionFits boots (Denies why) = refusals.Fits why
DecisionFits boots (Grants ss stamp vector parents set k) = IsListed boots ss × StampIfAny stamp × vectors.Fits vector × ascending_stamps.Fits parents × some_set.Fits set

pub record OpenAsked (boots : List ℕ) (us : ℕ) (o : OpenRequest) : Type 0 where
  pub body : FitsBut (body.Open o.serial o.call o.process o.request o.file o.how)
  pub from : IsListed boots us

no_parents : ascending_stamps.Fits []
no_parents = (omega arith, tt)

one_parent : (s : Stamp) → stamps.Fits s → ascending_stamps.Fits (s ∷ [])
one_parent s h = (omega arith, (h, tt))

make_at_fits : (boots : List ℕ) (set : Sites) (k : Kind) (o : Option ℕ) → ListedIfAny boots o → some_set.Fits set → DecisionFits boots (make_at set k o)
make_at_fits boots set k None listed h = tt
make_at_fits boots set k (Some ss) listed h = (listed, tt, nothing_fits, no_parents, h)

make_fits : (f : Frame) (group us : ℕ) (set : Sites) (k : Kind) → some_set.Fits set → DecisionFits f.members.boot (make_decision f group us set k)
make_fits f group us set k h = over ((both set (pack_sites f.config group)).0 == set.0)
  where
    over : (b : Bool) → DecisionFits f.members.boot (cond b (make_at set k (chosen_site us f.me (members_of f.members set))) (Denies refusal.NoStorage))
    over true = make_at_fits f.members.boot set k (chosen_site us f.me (members_of f.members set)) (chosen_listed f.members.boot us f.me (members_of f.members set) (members_listed f set)) h
    over false = tt

plain_at_fits : (boots : List ℕ) (r : FileRow) (v : VersionRow) (o : Option ℕ) → ListedIfAny boots o → FileFits boots r → VersionFits v → DecisionFits boots (plain_at r v o)
plain_at_fits boots r v None listed h k = tt
plain_at_fits boots r v (Some ss) listed h k = (listed, k.version.0, k.version.1.1, one_parent v.stamp k.version.0, h.set)

plain_fits : (f : Frame) (us : ℕ) (r : FileRow) (vs : List VersionRow) → FileFits f.members.boot r → Every VersionFits vs → DecisionFits f.members.boot (plain_decision f us r vs)
plain_fits f us r [] h k = tt
plain_fits f us r (v ∷ others) h k = plain_at_fits f.members.boot r v (chosen_site us f.me (holders_of r v.stamp)) (chosen_listed f.members.boot us f.me (holders_of r v.stamp) (holders_listed f.members.boot r v.stamp h)) h k.0

joined_all : (vs : List VersionRow) → Every VersionFits vs → vectors.Fits (joined_vectors vs)
joined_all [] h = nothing_fits
joined_all (v ∷ vs) h = joined_fits v.vector (joined_vectors vs) h.0.version.1.1 (joined_all vs h.1)

resolve_fits : (boots : List ℕ) (r : FileRow) (vs : List VersionRow) (o : Option Holding) → FileFits boots r → Found (HolderFits boots) o → Every VersionFits vs → ascending_stamps.Fits (stamps_of vs) → DecisionFits boots (resolve_from r vs o)
resolve_fits boots r vs None h found k parents = tt
resolve_fits boots r vs (Some g) h found k parents = over (is_stamp_among g.stamp (stamps_of vs))
  where
    over : (b : Bool) → DecisionFits boots (cond b (Grants g.site (Some g.stamp) (joined_vectors vs) (stamps_of vs) r.set r.kind) (Denies refusal.NoStorage))
    over true = (found.0, found.1, joined_all vs k, parents, h.set)
    over false = tt

held_fits : (boots : List ℕ) (o : Option Holding) → Found (HolderFits boots) o → StampIfAny (stamp_held o)
held_fits boots None h = tt
held_fits boots (Some g) h = h.1

found_holder : (boots : List ℕ) (r : FileRow) (site : ℕ) → FileFits boots r → Found (HolderFits boots) (holding_of r site)
found_holder boots r site h = row_found (HolderFits boots) holding_site site r.holders h.holders

grant_fits : (f : Frame) → IsListed f.members.boot f.me → (us : ℕ) (r : FileRow) (it : Opening) → FileFits f.members.boot r → ascending_stamps.Fits (stamps_of r.kept) → DecisionFits f.members.boot (grant_on f us r r.kept it)
grant_fits f own us r how.Read h parents = plain_fits f us r r.kept h h.keeps
grant_fits f own us r how.Write h parents = plain_fits f us r r.kept h h.keeps
grant_fits f own us r (how.Resolve site) h parents = resolve_fits f.members.boot r r.kept (holding_of r site) h (found_holder f.members.boot r site h) h.keeps parents
grant_fits f own us r how.Mend h parents = (own, held_fits f.members.boot (holding_of r f.me) (found_holder f.members.boot r f.me h), joined_all r.kept h.keeps, parents, h.set)
grant_fits f own us r (how.Make set k) h parents = tt

abbrev ParentsFit : Option FileRow → Type 0
ParentsFit None = Unit {0}
ParentsFit (Some r) = ascending_stamps.Fits (stamps_of r.kept)

unless_fits : (f : Frame) → IsListed f.members.boot f.me → (us : ℕ) (o : OpenRequest) (r : Option FileRow) (why : Option Refusal) → Found (FileFits f.members.boot) r → ParentsFit r → RefusalIfAny why → DecisionFits f.members.boot (unless_refused f us o r why)
unless_fits f own us o None (Some why) h parents k = k
unless_fits f own us o (Some r) (Some why) h parents k = k
unless_fits f own us o None None h parents k = tt
unless_fits f own us o (Some r) None h parents k = grant_fits f own us r o.how h parents

parents_of : (rs : List FileRow) (ino : ℕ) (t : SyncTable) → KeptFit t → ParentsFit (file_row t ino)
parents_of rs ino t h = of (file_row t ino) (row_found (λ (r : FileRow). ascending_stamps.Fits (stamps_of r.kept)) _ ino t.files h)
  where
    of : (o : Option FileRow) → Found (λ (r : FileRow). ascending_stamps.Fits (stamps_of r.kept)) o → ParentsFit o
    of None k = tt
    of (Some r) k = k

file_fits : (f : Frame) → IsListed f.members.boot f.me → (t : SyncTable) (us : ℕ) (o : OpenRequest) → TableFits f.members.boot t → KeptFit t → DecisionFits f.members.boot (file_decision f t us o)
file_fits f own t us o h parents =
    let found : Found (FileFits f.members.boot) (file_row t o.file.ino) = found_file f.members.boot t o.file.ino h in
    unless_fits f own us o (file_row t o.file.ino) (grant_refusal (mode_of o.how) (openers t o.file) (stamps_of (kept (file_row t o.file.ino)))) found (parents_of t.files o.file.ino t parents)
    (refused (mode_of o.how) (openers t o.file) (stamps_of (kept (file_row t o.file.ino))) (openers_fit f.members.boot t o.file h) (kept_of_fit f.members.boot (file_row t o.file.ino) found))

decision_fits : (f : Frame) → IsListed f.members.boot f.me → (t : SyncTable) (us : ℕ) (o : OpenRequest) (it : Opening) → (openings (is_new o.file)).Fits it → TableFits f.members.boot t → KeptFit t → DecisionFits f.members.boot (decision f t us o it)
decision_fits f own t us o (how.Make set k) it h parents = make_fits f t.group us set k it.1.1.0
decision_fits f own t us o how.Read it h parents = file_fits f own t us o h parents
decision_fits f own t us o how.Write it h parents = file_fits f own t us o h parents
decision_fits f own t us o (how.Resolve site) it h parents = file_fits f own t us o h parents
decision_fits f own t us o how.Mend it h parents = file_fits f own t us o h parents

-- ---- opens ----

mode_fits : (new : Bool) (it : Opening) → (openings new).Fits it → (modes new).Fits (mode_of it)
mode_fits new how.Read h = h.0
mode_fits new how.Write h = h.0
mode_fits new (how.Resolve site) h = h.0
mode_fits new how.Mend h = h.0
mode_fits new (how.Make set k) h = h.0

stamp_fits : (o : Option Stamp) → StampIfAny o → stamps.Fits (stamp_or_none o)
stamp_fits None h = none_fits
stamp_fits (Some s) h = h

with_open_fits : (boots : List ℕ) (r : OpenRow) (t : SyncTable) → OpenRowFits boots r → TableFits boots t → TableFits boots (with_open r t)
with_open_fits boots r t k h = record { group = h.group; early = h.early; files = h.files; opens = every_latest (OpenRowFits boots) open_key r t.opens k h.opens; looks = h.looks }

tells_fits : (f : Frame) (r : OpenRow) (a : Granted) → OpenRowFits f.members.boot r → FitsBut (body.OpenDone r.inst.serial a) → NamesListed f.members.boot (body.OpenDone r.inst.serial a) → Every (SentFits f.members.boot) (tells_user f r a)
tells_fits f r a h k names = (one_fits f r.inst.us (body.OpenDone r.inst.serial a) h.listed k names, tt)

pub record LookAsked (boots : List ℕ) (us : ℕ) (l : LookRequest) : Type 0 where
  pub body : FitsBut (body.Look l.call l.process l.request l.take l.file l.what)
  pub from : IsListed boots us

abbrev ServiceFits : List ℕ → Service → Type 0
ServiceFits boots (Unserved why) = refusals.Fits why
ServiceFits boots (Serves v site) = VersionFits v × IsListed boots site

-- what is sent to whom
pub record LetterFits (boots : List ℕ) (l : Letter) : Type 0 where
  pub to : IsListed boots l.to
  pub body : FitsBut l.body
  pub names : NamesListed boots l.body

module _ (f : Frame) (fit : AreBoots f.members.boot) (own : IsListed f.members.boot f.me) where
  decides_fit : (t : SyncTable) (us : ℕ) (o : OpenRequest) (d : Decision) → DecisionFits f.members.boot d → OpenAsked f.members.boot us o → TableFits f.members.boot t → TableDone f.members.boot (decides f t us o d)
  decides_fit t us o (Denies why) k a h =
      let r : OpenRowFits f.members.boot (denied_row us o why) = record { named = (listed_fits f.members.boot us fit a.from, a.body.0); listed = a.from; process = a.body.1; stage = k } in
      (tells_fits f (denied_row us o why) (granted.No why) r (a.body.0, k) tt, with_open_fits f.members.boot (denied_row us o why) t r h)
  decides_fit t us o (Grants ss stamp vector parents set kind) k a h =
      let r : OpenRowFits f.members.boot (asked_row us o ss stamp vector parents set kind) = record {
        named = (listed_fits f.members.boot us fit a.from, a.body.0);
        listed = a.from;
        process = a.body.1;
        stage = (k.0, ((listed_fits f.members.boot us fit a.from, a.body.0), (a.body.2, mode_fits (is_new o.file) o.how a.body.3), k.4, stamp_fits stamp k.1, k.2, k.3));
      } in
      ((one_fits f ss (body.OpenSs (record { us = us; serial = o.serial }) o.file (mode_of o.how) set kind (stamp_or_none stamp) vector parents) k.0 r.stage.1 a.from, tt), with_open_fits f.members.boot (asked_row us o ss stamp vector parents set kind) t r h)

  repeats_fit : (r : OpenRow) (s : OpenStage) → OpenRowFits f.members.boot r → OpenFits f.members.boot r s → Every (SentFits f.members.boot) (repeats_open f r s)
  repeats_fit r state.Asked h k = (one_fits f r.ss (body.OpenSs r.inst r.file r.mode r.set r.kind (stamp_or_none r.stamp) r.vector r.parents) k.0 k.1 h.listed, tt)
  repeats_fit r state.Granted h k = tells_fits f r (granted.Open r.ss r.file.ino r.size (stamp_or_none r.stamp) r.vector) h k.2 k.0
  repeats_fit r (state.Refused why) h k = tells_fits f r (granted.No why) h (h.named.1, k) tt
  repeats_fit r state.Ended h k = tt

  on_open_of_fits : (t : SyncTable) (us : ℕ) (o : OpenRequest) (r : Option OpenRow) → Found (OpenRowFits f.members.boot) r → OpenAsked f.members.boot us o → TableFits f.members.boot t → KeptFit t → TableDone f.members.boot (on_open_of f t us o r)
  on_open_of_fits t us o None found a h parents = decides_fit t us o (decision f t us o o.how) (decision_fits f own t us o o.how a.body.3 h parents) a h
  on_open_of_fits t us o (Some r) found a h parents = (repeats_fit r r.stage found found.stage, h)

  found_open : (t : SyncTable) (inst : Serial) → TableFits f.members.boot t → Found (OpenRowFits f.members.boot) (open_row t inst)
  found_open t inst h = row_found (OpenRowFits f.members.boot) open_key (serial_key inst) t.opens h.opens

  takes_open_fits : (us : ℕ) (o : OpenRequest) (t : SyncTable) → OpenAsked f.members.boot us o → TableFits f.members.boot t → KeptFit t → TableDone f.members.boot (takes_open f us o t)
  takes_open_fits us o t a h parents = on_open_of_fits t us o (open_row t (record { us = us; serial = o.serial })) (found_open t (record { us = us; serial = o.serial }) h) a h parents

  -- ---- the answer of the storage site ----

  numbered_fits : (m : Mode) (file : FileId) (ino : ℕ) → inodes.Fits ino → (followed_by files_or_new (λ (x : FileId). modes (is_new x))).Fits (file, m) → inodes.Fits (numbered_file m file ino).ino
  numbered_fits mode.Make file ino h k = h
  numbered_fits mode.Read file ino h k = (old_file file mode.Read (omega arith) k).1
  numbered_fits mode.Write file ino h k = (old_file file mode.Write (omega arith) k).1
  numbered_fits mode.Resolve file ino h k = (old_file file mode.Resolve (omega arith) k).1
  numbered_fits mode.Mend file ino h k = (old_file file mode.Mend (omega arith) k).1

  answers_fit : (r : OpenRow) (a : OpenedAs) (t : SyncTable) → opened_answers.Fits a → OpenRowFits f.members.boot r → OpenFits f.members.boot r state.Asked → TableFits f.members.boot t → TableDone f.members.boot (answers_open f r a t)
  answers_fit r (opened.Open ino size) t a h k t_fits =
      let q : OpenRow = granted_row r ino size in
      let done : OpenRowFits f.members.boot q = record {
        named = h.named;
        listed = h.listed;
        process = h.process;
        stage = (k.0, k.1.2, (h.named.1, (listed_fits f.members.boot r.ss fit k.0, (numbered_fits r.mode r.file ino a.0 k.1.1, (a.1, (k.1.3, k.1.4))))));
      } in
      (tells_fits f q (granted.Open q.ss q.file.ino q.size (stamp_or_none q.stamp) q.vector) done done.stage.2 k.0, with_open_fits f.members.boot q t done t_fits)
  answers_fit r (opened.No why) t a h k t_fits =
      let q : OpenRow = record r { stage = state.Refused why } in
      let done : OpenRowFits f.members.boot q = record { named = h.named; listed = h.listed; process = h.process; stage = a } in
      (tells_fits f q (granted.No why) done (h.named.1, a) tt, with_open_fits f.members.boot q t done t_fits)

  by_stage_fits : (r : OpenRow) (a : OpenedAs) (s : OpenStage) (t : SyncTable) → opened_answers.Fits a → OpenRowFits f.members.boot r → OpenFits f.members.boot r s → TableFits f.members.boot t → TableDone f.members.boot (by_stage f r a s t)
  by_stage_fits r a state.Asked t g h k t_fits = answers_fit r a t g h k t_fits
  by_stage_fits r a state.Granted t g h k t_fits = (tt, t_fits)
  by_stage_fits r a (state.Refused why) t g h k t_fits = (tt, t_fits)
  by_stage_fits r a state.Ended t g h k t_fits = (tt, t_fits)

  on_opened_of_fits : (a : OpenedAs) (o : Option OpenRow) (t : SyncTable) → opened_answers.Fits a → Found (OpenRowFits f.members.boot) o → TableFits f.members.boot t → TableDone f.members.boot (on_opened_of f a o t)
  on_opened_of_fits a None t g found h = (tt, h)
  on_opened_of_fits a (Some r) t g found h = by_stage_fits r a r.stage t g found found.stage h

  pub on_opened_fits : (inst : Serial) (a : OpenedAs) (t : SyncTable) → opened_answers.Fits a → TableFits f.members.boot t → TableDone f.members.boot (on_opened f inst a t)
  on_opened_fits inst a t g h = on_opened_of_fits a (open_row t inst) t g (found_open t inst h) h

  -- ---- looks ----

  served_by_fits : (v : VersionRow) (o : Option ℕ) → VersionFits v → ListedIfAny f.members.boot o → ServiceFits f.members.boot (served_by v o)
  served_by_fits v None h listed = tt
  served_by_fits v (Some site) h listed = (h, listed)

  only_fits : (us : ℕ) (r : FileRow) (vs : List VersionRow) → FileFits f.members.boot r → Every VersionFits vs → ServiceFits f.members.boot (only_kept f us r vs)
  only_fits us r [] h k = tt
  only_fits us r (v ∷ []) h k = served_by_fits v (chosen_site us f.me (holders_of r v.stamp)) k.0 (chosen_listed f.members.boot us f.me (holders_of r v.stamp) (holders_listed f.members.boot r v.stamp h))
  only_fits us r (v ∷ w ∷ others) h k = (k.0.version.0, k.1.0.version.0)

  whole_fits : (r : FileRow) (stamp : Stamp) (vs : List VersionRow) → FileFits f.members.boot r → Every VersionFits vs → ServiceFits f.members.boot (whole_kept f r stamp vs)
  whole_fits r stamp [] h k = tt
  whole_fits r stamp (v ∷ vs) h k = over (same_stamp v.stamp stamp) (whole_fits r stamp vs h k.1)
    where
      over : (b : Bool) → ServiceFits f.members.boot (whole_kept f r stamp vs) → ServiceFits f.members.boot (elim b as (λ (t : Bool). Service) [ true ↦ served_by v (chosen_site f.me f.me (holders_of r stamp)) | false ↦ whole_kept f r stamp vs ])
      over true rest = served_by_fits v (chosen_site f.me f.me (holders_of r stamp)) k.0 (chosen_listed f.members.boot f.me f.me (holders_of r stamp) (holders_listed f.members.boot r stamp h))
      over false rest = rest

  service_on_fits : (us : ℕ) (r : FileRow) (w : What) → FileFits f.members.boot r → ServiceFits f.members.boot (service_on f us r w)
  service_on_fits us r (what.Whole stamp) h = whole_fits r stamp r.kept h h.keeps
  service_on_fits us r (what.Name component) h = only_fits us r r.kept h h.keeps
  service_on_fits us r what.List h = only_fits us r r.kept h h.keeps
  service_on_fits us r what.Stat h = only_fits us r r.kept h h.keeps

  service_fits : (us : ℕ) (w : What) (o : Option FileRow) → Found (FileFits f.members.boot) o → ServiceFits f.members.boot (service f us w o)
  service_fits us w None h = tt
  service_fits us w (Some r) h = service_on_fits us r w h

  done_fits : (us : ℕ) (l : LookRequest) (a : LookAnswer) → IsListed f.members.boot us → look_answers.Fits a → LetterFits f.members.boot (done_letter us l a)
  done_fits us l a listed h = record { to = listed; body = h; names = tt }

  holder_fits : (us : ℕ) (l : LookRequest) (stamp : Stamp) (site : ℕ) → LookAsked f.members.boot us l → stamps.Fits stamp → IsListed f.members.boot site → LetterFits f.members.boot (holder_letter us l stamp site)
  holder_fits us l stamp site a h listed = record { to = listed; body = (listed_fits f.members.boot us fit a.from, a.body.0, a.body.1, a.body.2, h); names = a.from }

  serving_fits : (us : ℕ) (l : LookRequest) (r : FileRow) (v : VersionRow) (site : ℕ) (w : What) → LookAsked f.members.boot us l → VersionFits v → IsListed f.members.boot site → LetterFits f.members.boot (serving_letter us l r v site w)
  serving_fits us l r v site what.Stat a h listed = done_fits us l (looked.Stat r.kind v.size v.stamp) a.from (kind_fits r.kind, (h.size, h.version.0))
  serving_fits us l r v site (what.Name component) a h listed = holder_fits us l v.stamp site a h.version.0 listed
  serving_fits us l r v site what.List a h listed = holder_fits us l v.stamp site a h.version.0 listed
  serving_fits us l r v site (what.Whole stamp) a h listed = holder_fits us l v.stamp site a h.version.0 listed

  letter_fits : (us : ℕ) (l : LookRequest) (o : Option FileRow) (s : Service) → LookAsked f.members.boot us l → ServiceFits f.members.boot s → LetterFits f.members.boot (letter us l o s)
  letter_fits us l None (Unserved why) a h = done_fits us l (looked.No why) a.from h
  letter_fits us l (Some r) (Unserved why) a h = done_fits us l (looked.No why) a.from h
  letter_fits us l None (Serves v site) a h = done_fits us l (looked.No refusal.NoStorage) a.from tt
  letter_fits us l (Some r) (Serves v site) a h = serving_fits us l r v site l.what a h.0 h.1

  with_look_fits : (l : LastLook) (t : SyncTable) → LookFits f.members.boot l → TableFits f.members.boot t → TableFits f.members.boot (record t { looks = with_row look_key l t.looks })
  with_look_fits l t k h = record { group = h.group; early = h.early; files = h.files; opens = h.opens; looks = every_row (LookFits f.members.boot) look_key l t.looks k h.looks }

  new_look_fits : (us : ℕ) (l : LookRequest) (o : Option FileRow) (t : SyncTable) → LookAsked f.members.boot us l → Found (FileFits f.members.boot) o → TableFits f.members.boot t → TableDone f.members.boot (new_look f us l o t)
  new_look_fits us l o t a found h =
      let g : Letter = letter us l o (service f us l.what o) in
      let k : LetterFits f.members.boot g = letter_fits us l o (service f us l.what o) a (service_fits us l.what o found) in
      ((one_fits f g.to g.body k.to k.body k.names, tt), with_look_fits (last_look us l g) t (record { to = k.to; body = k.body; names = k.names }) h)

  after_last_fits : (us : ℕ) (l : LookRequest) (o : Option LastLook) (t : SyncTable) → LookAsked f.members.boot us l → Found (LookFits f.members.boot) o → TableFits f.members.boot t → TableDone f.members.boot (after_last f us l o t)
  after_last_fits us l None t a found h = new_look_fits us l (file_row t l.file.ino) t a (found_file f.members.boot t l.file.ino h) h
  after_last_fits us l (Some last) t a found h = over (is_look_before l last) (is_same_look l last)
    where
      over : (x y : Bool) → TableDone f.members.boot (elim x as (λ (b : Bool). Outcome SyncTable) [ true ↦ quiet t | false ↦ elim y as (λ (b : Bool). Outcome SyncTable) [ true ↦ sends (packet f last.to last.body ∷ []) t | false ↦ new_look f us l (file_row t l.file.ino) t ] ])
      over true y = (tt, h)
      over false true = ((one_fits f last.to last.body found.to found.body found.names, tt), h)
      over false false = new_look_fits us l (file_row t l.file.ino) t a (found_file f.members.boot t l.file.ino h) h

  takes_look_fits : (us : ℕ) (l : LookRequest) (t : SyncTable) → LookAsked f.members.boot us l → TableFits f.members.boot t → TableDone f.members.boot (takes_look f us l t)
  takes_look_fits us l t a h = after_last_fits us l (row look_key (process_key us l.process) t.looks) t a (row_found (LookFits f.members.boot) look_key (process_key us l.process) t.looks h.looks) h

  -- ---- requests before the start ----

  early_fits : (us process : ℕ) (b : Body) (t : SyncTable) → IsListed f.members.boot us → FitsBut b → TableFits f.members.boot t → TableFits f.members.boot (waits_early us process b t)
  early_fits us process b t listed k h = over (list_any (is_early_of us process) t.early)
    where
      over : (x : Bool) → TableFits f.members.boot (cond x t (record t { early = t.early ++ record { site = us; process = process; body = b } ∷ [] }))
      over true = h
      over false = record { group = h.group; early = every_append (EarlyFits f.members.boot) t.early (record { site = us; process = process; body = b } ∷ []) h.early (record { site = listed; body = k }, tt); files = h.files; opens = h.opens; looks = h.looks }

  pub on_open_fits : (us : ℕ) (o : OpenRequest) (t : SyncTable) → OpenAsked f.members.boot us o → TableFits f.members.boot t → KeptFit t → TableDone f.members.boot (on_open f us o t)
  on_open_fits us o t a h parents = over t.started
    where
      over : (b : Bool) → TableDone f.members.boot (elim b as (λ (x : Bool). Outcome SyncTable) [ true ↦ takes_open f us o t | false ↦ quiet (waits_early us o.process (body.Open o.serial o.call o.process o.request o.file o.how) t) ])
      over true = takes_open_fits us o t a h parents
      over false = (tt, early_fits us o.process (body.Open o.serial o.call o.process o.request o.file o.how) t a.from a.body h)

  pub on_look_fits : (us : ℕ) (l : LookRequest) (t : SyncTable) → LookAsked f.members.boot us l → TableFits f.members.boot t → TableDone f.members.boot (on_look f us l t)
  on_look_fits us l t a h = over t.started
    where
      over : (b : Bool) → TableDone f.members.boot (elim b as (λ (x : Bool). Outcome SyncTable) [ true ↦ takes_look f us l t | false ↦ quiet (waits_early us l.process (body.Look l.call l.process l.request l.take l.file l.what) t) ])
      over true = takes_look_fits us l t a h
      over false = (tt, early_fits us l.process (body.Look l.call l.process l.request l.take l.file l.what) t a.from a.body h)

  -- the files stay as they are
  decides_files : (t : SyncTable) (us : ℕ) (o : OpenRequest) (d : Decision) → (decides f t us o d).view.files ≡ t.files
  decides_files t us o (Denies why) = refl
  decides_files t us o (Grants ss stamp vector parents set k) = refl

  open_files : (t : SyncTable) (us : ℕ) (o : OpenRequest) (r : Option OpenRow) → (on_open_of f t us o r).view.files ≡ t.files
  open_files t us o None = decides_files t us o (decision f t us o o.how)
  open_files t us o (Some r) = refl

  look_files : (us : ℕ) (l : LookRequest) (o : Option LastLook) (t : SyncTable) → (after_last f us l o t).view.files ≡ t.files
  look_files us l None t = refl
  look_files us l (Some last) t = over (is_look_before l last) (is_same_look l last)
    where
      over : (x y : Bool) → (elim x as (λ (b : Bool). Outcome SyncTable) [ true ↦ quiet t | false ↦ elim y as (λ (b : Bool). Outcome SyncTable) [ true ↦ sends (packet f last.to last.body ∷ []) t | false ↦ new_look f us l (file_row t l.file.ino) t ] ]).view.files ≡ t.files
      over true y = refl
      over false true = refl
      over false false = refl

  early_files : (us : ℕ) (b : Body) (t : SyncTable) → (takes_early f us b t).view.files ≡ t.files
  early_files us (body.Open serial call process request file it) t = open_files t us (record { serial = serial; call = call; process = process; request = request; file = file; how = it }) (open_row t (record { us = us; serial = serial }))
  early_files us (body.Look call process request take file w) t = look_files us (record { call = call; process = process; request = request; take = take; file = file; what = w }) (row look_key (process_key us process) t.looks) t
  early_files us _ t = refl

  takes_early_fits : (us : ℕ) (b : Body) (t : SyncTable) → IsListed f.members.boot us → FitsBut b → TableFits f.members.boot t → KeptFit t → TableDone f.members.boot (takes_early f us b t)
  takes_early_fits us (body.Open serial call process request file it) t listed k h parents = takes_open_fits us (record { serial = serial; call = call; process = process; request = request; file = file; how = it }) t (record { body = k; from = listed }) h parents
  takes_early_fits us (body.Look call process request take file w) t listed k h parents = takes_look_fits us (record { call = call; process = process; request = request; take = take; file = file; what = w }) t (record { body = k; from = listed }) h
  takes_early_fits us _ t listed k h parents = (tt, h)

  all_early_fit : (es : List Early) (t : SyncTable) → Every (EarlyFits f.members.boot) es → TableFits f.members.boot t → KeptFit t → TableDone f.members.boot (takes_all_early f es t)
  all_early_fit [] t k h parents = (tt, h)
  all_early_fit (e ∷ es) t k h parents =
      let o : TableDone f.members.boot (takes_early f e.site e.body t) = takes_early_fits e.site e.body t k.0.site k.0.body h parents in
      let now : SyncTable = (takes_early f e.site e.body t).view in
      let rest : TableDone f.members.boot (takes_all_early f es now) = all_early_fit es now k.1 o.1 (subst (λ (rs : List FileRow). Every (λ (r : FileRow). ascending_stamps.Fits (stamps_of r.kept)) rs) (sym (early_files e.site e.body t)) parents) in
      (every_append (SentFits f.members.boot) (takes_early f e.site e.body t).sent (takes_all_early f es now).sent o.0 rest.0, rest.1)

  -- ---- the start ----

  starts_fit : (t : SyncTable) → TableFits f.members.boot t → KeptFit t → TableDone f.members.boot (starts f t)
  starts_fit t h parents =
      let now : SyncTable = record t { started = true; early = [] } in
      let rest : TableDone f.members.boot (takes_all_early f t.early now) = all_early_fit t.early now h.early (record { group = h.group; early = tt; files = h.files; opens = h.opens; looks = h.looks }) parents in
      (every_append (SentFits f.members.boot) (notices f t) (takes_all_early f t.early now).sent (all_notices_fit f fit t.group h.group t.files h.files) rest.0, rest.1)

  starts_if_fits : (t : SyncTable) → TableFits f.members.boot t → KeptFit t → TableDone f.members.boot (starts_if f t)
  starts_if_fits t h parents = over (have_all_reported f t)
    where
      over : (b : Bool) → TableDone f.members.boot (elim b as (λ (x : Bool). Outcome SyncTable) [ true ↦ starts f t | false ↦ quiet t ])
      over true = starts_fit t h parents
      over false = (tt, h)

  -- ---- reports ----

  with_reported_fits : (from : ℕ) (x : ReportedCopy) (t : SyncTable) → IsListed f.members.boot from → (least : ℕ) → 1 ≤ least → (copies_from least).Fits x → TableFits f.members.boot t → TableFits f.members.boot (with_reported from x t)
  with_reported_fits from x t listed least some k h =
      let ino : inodes.Fits x.ino = (in_range 1 inodes_max x.ino (low (range least inodes_max x.ino k.0.0)) (range least inodes_max x.ino k.0.0).1, k.0.1) in
      let v : VersionFits (version_reported x) = record { version = k.1.1.1.1; size = k.1.1.1.0 } in
      let r : FileFits f.members.boot (known_or (unknown_file x.ino x.kind x.set) (file_row t x.ino)) = known_fits f.members.boot (unknown_file x.ino x.kind x.set) (file_row t x.ino) (unknown_fits f.members.boot x.ino x.kind x.set ino k.1.1.0) (found_file f.members.boot t x.ino h) in
      with_file_fits f.members.boot (with_holder from x.stamp (with_version (version_reported x) (known_or (unknown_file x.ino x.kind x.set) (file_row t x.ino)))) t
      (with_holder_fits f.members.boot from x.stamp (with_version (version_reported x) (known_or (unknown_file x.ino x.kind x.set) (file_row t x.ino))) listed v.version.0 (with_version_fits f.members.boot (version_reported x) (known_or (unknown_file x.ino x.kind x.set) (file_row t x.ino)) v r)) h
    where
      low : (least ≤ x.ino) × (x.ino ≤ inodes_max) → 1 ≤ x.ino
      low r = omega (arith, r.0, some)

  all_reported_fit : (from : ℕ) (least : ℕ) (xs : List ReportedCopy) (t : SyncTable) → IsListed f.members.boot from → 1 ≤ least → AllFit copies_from (λ _ (copy : ReportedCopy). copy.ino + 1) least xs → TableFits f.members.boot t → TableFits f.members.boot (with_all_reported from xs t)
  all_reported_fit from least [] t listed some k h = h
  all_reported_fit from least (x ∷ xs) t listed some k h = all_reported_fit from (x.ino + 1) xs (with_reported from x t) listed (omega arith) k.1 (with_reported_fits from x t listed least some k.0 h)

  pub with_report_fits : (from : ℕ) (xs : List ReportedCopy) (t : SyncTable) → IsListed f.members.boot from → reported_copies.Fits xs → TableFits f.members.boot t → TableFits f.members.boot (with_report from xs t)
  with_report_fits from xs t listed k h = all_reported_fit from 1 xs (record t { reported = with_site t.reported from }) listed (omega arith) k.1 (record { group = h.group; early = h.early; files = h.files; opens = h.opens; looks = h.looks })

  counts_fit : (from : ℕ) (xs : List ReportedCopy) (t : SyncTable) → IsListed f.members.boot from → reported_copies.Fits xs → TableFits f.members.boot t → (has t.reported from ≡ false → KeptFit (with_report from xs t)) → TableDone f.members.boot (counts_report f from xs t)
  counts_fit from xs t listed k h parents = over (has t.reported from) refl
    where
      over : (b : Bool) → has t.reported from ≡ b → TableDone f.members.boot (elim b as (λ (x : Bool). Outcome SyncTable) [ true ↦ quiet t | false ↦ starts_if f (with_report from xs t) ])
      over true e = (tt, h)
      over false e = starts_if_fits (with_report from xs t) (with_report_fits from xs t listed k h) (parents e)

  pub on_report_fits : (from : ℕ) (xs : List ReportedCopy) (t : SyncTable) → IsListed f.members.boot from → reported_copies.Fits xs → TableFits f.members.boot t → (has t.reported from ≡ false → KeptFit (with_report from xs t)) → TableDone f.members.boot (on_report f from xs t)
  on_report_fits from xs t listed k h parents =
      let rest : TableDone f.members.boot (counts_report f from xs t) = counts_fit from xs t listed k h parents in
      ((one_fits f from (body.ReportOk t.group) listed h.group tt, rest.0), rest.1)

  -- ---- closes ----

  published_fits : (ss : ℕ) (r : OpenRow) (made : Option MadeVersion) (t : SyncTable) → IsListed f.members.boot ss → inodes.Fits r.file.ino → some_set.Fits r.set → made_answers.Fits made → TableFits f.members.boot t → TableFits f.members.boot (published ss r made t)
  published_fits ss r None t listed ino set k h = h
  published_fits ss r (Some v) t listed ino set k h =
      let row : VersionRow = record { stamp = v.stamp; vector = v.vector; size = v.size } in
      let q : FileRow = known_or (unknown_file r.file.ino r.kind r.set) (file_row t r.file.ino) in
      with_file_fits f.members.boot (noted ss v.stamp (with_version row q)) t
      (noted_fits f.members.boot ss v.stamp (with_version row q) listed
      (with_version_fits f.members.boot row q (record { version = (k.0, k.1.0); size = k.1.1 }) (known_fits f.members.boot (unknown_file r.file.ino r.kind r.set) (file_row t r.file.ino) (unknown_fits f.members.boot r.file.ino r.kind r.set ino set) (found_file f.members.boot t r.file.ino h)))) h

  published_notices_fit : (r : OpenRow) (made : Option MadeVersion) (t : SyncTable) → TableFits f.members.boot t → Every (SentFits f.members.boot) (published_notices f r made t)
  published_notices_fit r None t h = tt
  published_notices_fit r (Some v) t h = row_notices_fit f fit t.group h.group (file_row t r.file.ino) (found_file f.members.boot t r.file.ino h)

  closed_ok_fits : (ss : ℕ) (inst : Serial) → IsListed f.members.boot ss → IsNamed inst → Every (SentFits f.members.boot) (closed_ok f ss inst)
  closed_ok_fits ss inst listed k = (one_fits f ss (body.ClosedOk inst) listed k tt, tt)

  closes_at_fits : (ss : ℕ) (r : OpenRow) (made : Option MadeVersion) (s : OpenStage) (t : SyncTable) → IsListed f.members.boot ss → made_answers.Fits made → OpenRowFits f.members.boot r → OpenFits f.members.boot r s → TableFits f.members.boot t → TableDone f.members.boot (closes_at f ss r made s t)
  closes_at_fits ss r made state.Granted t listed m k g h =
      let q : OpenRow = record r { stage = state.Ended } in
      let ended : TableFits f.members.boot (with_open q t) = with_open_fits f.members.boot q t (record { named = k.named; listed = k.listed; process = k.process; stage = tt }) h in
      let now : TableFits f.members.boot (published ss r made (with_open q t)) = published_fits ss r made (with_open q t) listed g.2.1.1.0 g.1 m ended in
      (every_append (SentFits f.members.boot) (published_notices f r made (published ss r made (with_open q t))) (closed_ok f ss r.inst) (published_notices_fit r made (published ss r made (with_open q t)) now) (closed_ok_fits ss r.inst listed k.named), now)
  closes_at_fits ss r made state.Ended t listed m k g h = (closed_ok_fits ss r.inst listed k.named, h)
  closes_at_fits ss r made state.Asked t listed m k g h = (tt, h)
  closes_at_fits ss r made (state.Refused why) t listed m k g h = (tt, h)

  on_closed_of_fits : (ss : ℕ) (made : Option MadeVersion) (o : Option OpenRow) (t : SyncTable) → IsListed f.members.boot ss → made_answers.Fits made → Found (OpenRowFits f.members.boot) o → TableFits f.members.boot t → TableDone f.members.boot (on_closed_of f ss made o t)
  on_closed_of_fits ss made None t listed m found h = (tt, h)
  on_closed_of_fits ss made (Some r) t listed m found h = closes_at_fits ss r made r.stage t listed m found found.stage h

  pub on_closed_fits : (ss : ℕ) (inst : Serial) (made : Option MadeVersion) (t : SyncTable) → IsListed f.members.boot ss → made_answers.Fits made → TableFits f.members.boot t → TableDone f.members.boot (on_closed f ss inst made t)
  on_closed_fits ss inst made t listed m h = on_closed_of_fits ss made (open_row t inst) t listed m (found_open t inst h) h

  -- ---- what is sent again ----

  pub sync_repeats_fit : (t : SyncTable) → TableFits f.members.boot t → Every (SentFits f.members.boot) (sync_repeats f t)
  sync_repeats_fit t h = every_cond (SentFits f.members.boot) t.started (notices f t) [] (all_notices_fit f fit t.group h.group t.files h.files) tt

-- ---- what a member has ----

pub have_fits : (boots : List ℕ) (from : ℕ) (stamp : Stamp) (o : Option FileRow) (t : SyncTable) → IsListed boots from → Found (FileFits boots) o → TableFits boots t → TableFits boots (on_have_of from stamp o t)
have_fits boots from stamp None t listed k h = h
have_fits boots from stamp (Some r) t listed k h = with_file_fits boots (noted from stamp r) t (noted_fits boots from stamp r listed k) h
