-- Opens and looks at a synchronization site: what its table knows of files that are being made.
use Rattle.std.proofs.Common.{◌≡◌, ℕ, ◌==◌, Bool, true, false, List, [], ◌∷◌, ◌++◌, Option, Some, None, refl, sym, ◌∙◌, ap, subst, inl}
use Rattle.role_steps.proofs.of_plain_facts.Numbers.{equal}
use Rattle.role_steps.proofs.of_plain_facts.Options.{none_some, some_same}
use Rattle.locus_ids.specs.declared.ids.EpochId.{EpochId}
use Rattle.locus_ids.specs.declared.ids.FileId.{FileId}
use Rattle.locus_ids.specs.declared.ids.Mode.{Mode}
use Rattle.locus_ids.specs.declared.ids.Mode.TheVariants as mode
use Rattle.locus_ids.specs.declared.ids.Serial.{Serial}
use Rattle.locus_ids.specs.declared.ids.Stamp.{Stamp}
use Rattle.locus_ids.specs.declared.sites.Members.{Members}
use Rattle.locus_ids.specs.declared.config.Config.{Config}
use Rattle.wire_messages.specs.declared.packet.Packet.{Packet}
use Rattle.wire_messages.specs.declared.body.OpenedAs.{OpenedAs}
use Rattle.wire_messages.specs.declared.body.OpenedAs.TheVariants as opened
use Rattle.role_steps.specs.Own.{Every}
use Rattle.role_steps.specs.Tables.{row, with_latest}
use Rattle.role_steps.specs.Views.{Frame, Told, Outcome, sends, and_then, serial_key}
use Rattle.role_steps.specs.Versions.{file_row}
use Rattle.role_steps.specs.Opens.{OpenRequest, Decision, Denies, Grants, decision, refuse_record, grant_record, decides, denied_row, asked_row, granted_row, granted_at_once, granted_at_last, on_open_of, takes_open, open_row, open_key, with_open, answers_open, by_stage, on_opened_of, on_opened}
use Rattle.role_steps.specs.declared.synchronizing.SyncTable.{SyncTable}
use Rattle.role_steps.specs.declared.synchronizing.FileRow.{FileRow}
use Rattle.role_steps.specs.declared.synchronizing.OpenRow.{OpenRow}
use Rattle.role_steps.specs.declared.synchronizing.OpenStage.{OpenStage}
use Rattle.role_steps.specs.declared.synchronizing.OpenStage.TheVariants as stage
use Rattle.role_steps.proofs.Sending.{every_append}
use Rattle.site_laws.specs.Vectors.Facts.{onto}
use Rattle.site_laws.proofs.Vectors.Facts.{onto_append}
use Rattle.site_laws.proofs.Vectors.SyncFacts.{FoundAt, row_at}
use Rattle.site_laws.specs.Locks.Locks.{IsOfAFile}
use Rattle.site_laws.proofs.Locks.Apart.{same_numbered}
use Rattle.site_laws.proofs.Locks.GrantTold.{latest_other, latest_same}
use Rattle.site_laws.proofs.Locks.Apart.{none_excludes}
use Rattle.site_laws.specs.Locks.Grants.{WasGrantedAs}
use Rattle.commit_graph.specs.Grants.{Opener, excluder, kept_refusal, grant_refusal}
use Rattle.locus_ids.specs.declared.refusal.Refusal.{Refusal}
use Rattle.locus_ids.specs.declared.refusal.Refusal.TheVariants as refusal
use Rattle.wire_messages.specs.declared.body.Opening.{Opening}
use Rattle.wire_messages.specs.declared.body.Opening.TheVariants as how
use Rattle.role_steps.specs.Versions.{row_ino, kept, stamps_of}
use Rattle.role_steps.specs.Opens.{mode_of, openers, numbered_file, grant_on, unless_refused, file_decision}
use Rattle.role_steps.specs.declared.synchronizing.VersionRow.{VersionRow}
use Rattle.site_laws.specs.Vectors.Facts.{file_in}
use Rattle.site_laws.proofs.Vectors.SyncFacts.{every_latest, file_eq}
use Rattle.site_laws.specs.Packs.Making.{NotEmpty}
use Rattle.site_laws.specs.Makes.Tables.{IsKnown, IsFree, RowMade, IsKept, StageMade, OpenMade, HasEnded, TableMade, PlainTold}
use Rattle.site_laws.proofs.Makes.Telling.{Here}
use Rattle.site_laws.proofs.Makes.TableTold.{open_later, table_one}

-- ---- outcomes of a table ----

abbrev pub AllPlain : List Told → List Told → Type 0
AllPlain past [] = Unit {0}
AllPlain past (x ∷ xs) = PlainTold past x × AllPlain (x ∷ past) xs

pub plain_append : (past a b : List Told) → AllPlain past a → AllPlain (onto a past) b → AllPlain past (a ++ b)
plain_append past [] b h g = g
plain_append past (x ∷ xs) b h g = (h.0, plain_append (x ∷ past) xs b h.1 g)

pub record TableKeeps (c : Config) (past : List Told) (me : ℕ) (e : EpochId) (members : Members) (t : SyncTable) (o : Outcome SyncTable) : Type 0 where
  pub group : o.view.group ≡ t.group
  pub table : TableMade c (onto o.told past) me e members o.view
  pub here : Every (Here e t.group) o.told
  pub plain : AllPlain past o.told

abbrev pub Fine : Config → List Told → ℕ → Members → Frame → SyncTable → Outcome SyncTable → Type 0
Fine c past me members f t o = TableKeeps c past me f.epoch members t o

abbrev pub Made : Config → List Told → ℕ → Members → Frame → SyncTable → Type 0
Made c past me members f t = TableMade c past me f.epoch members t

pub sends_keeps : (c : Config) (past : List Told) (me : ℕ) (members : Members) (f : Frame) (t : SyncTable) (ps : List Packet) → Made c past me members f t → Fine c past me members f t (sends ps t)
sends_keeps c past me members f t ps h = record { group = refl; table = h; here = tt; plain = tt }

pub then_keeps : (c : Config) (past : List Told) (me : ℕ) (members : Members) (f : Frame) (t : SyncTable) (o : Outcome SyncTable) (g : SyncTable → Outcome SyncTable) → Fine c past me members f t o → Fine c (onto o.told past) me members f o.view (g o.view) → Fine c past me members f t (and_then o g)
then_keeps c past me members f t o g h k = record {
  group = k.group ∙ h.group;
  table = subst (λ (now : List Told). TableMade c now me f.epoch members (g o.view).view) (sym (onto_append o.told (g o.view).told past)) k.table;
  here = every_append (Here f.epoch t.group) o.told (g o.view).told h.here (subst (λ (n : ℕ). Every (Here f.epoch n) (g o.view).told) h.group k.here);
  plain = plain_append past o.told (g o.view).told h.plain k.plain;
}

-- ---- rows ----

-- what is kept of a file is known and free
found_made : (past : List Told) (e : EpochId) (group ino : ℕ) (o : Option FileRow) → FoundAt (RowMade past e group) row_ino ino o → NotEmpty (kept o) → IsKnown past (file_in group ino) × IsFree past e (file_in group ino)
found_made past e group ino None h k = absurd k
found_made past e group ino (Some r) h k = (subst (λ (n : ℕ). IsKnown past (file_in group n)) h.0 (h.1.known k), subst (λ (n : ℕ). IsFree past e (file_in group n)) h.0 (h.1.free k))

pub kept_made : (past : List Told) (e : EpochId) (group ino : ℕ) (files : List FileRow) → Every (RowMade past e group) files → IsKept files ino → IsKnown past (file_in group ino) × IsFree past e (file_in group ino)
kept_made past e group ino files h k = found_made past e group ino (row row_ino ino files) (row_at (RowMade past e group) row_ino ino files h) k

new_ended : (rs : List OpenRow) (new : OpenRow) (key : ℕ) → row open_key (open_key new) rs ≡ None → HasEnded rs key → HasEnded (with_latest open_key new rs) key
new_ended rs new key none h = record { ended = h.ended; found = by_key (open_key new == key) refl; stage_is = h.stage_is }
  where
    by_key : (b : Bool) → (open_key new == key) ≡ b → row open_key key (with_latest open_key new rs) ≡ Some h.ended
    by_key true e = absurd (none_some h.ended (sym none ∙ subst (λ (k : ℕ). row open_key k rs ≡ Some h.ended) (sym (equal (open_key new) key e)) h.found))
    by_key false e = latest_other open_key new key rs e ∙ h.found

pub put_ended : (rs : List OpenRow) (r new : OpenRow) (key : ℕ) → row open_key (open_key new) rs ≡ Some r → (r.stage ≡ stage.Ended → new.stage ≡ stage.Ended) → HasEnded rs key → HasEnded (with_latest open_key new rs) key
put_ended rs r new key found ends h = by_key (open_key new == key) refl
  where
    by_key : (b : Bool) → (open_key new == key) ≡ b → HasEnded (with_latest open_key new rs) key
    by_key true e =
        let k : open_key new ≡ key = equal (open_key new) key e in
        let is : r ≡ h.ended = some_same r h.ended (sym found ∙ subst (λ (n : ℕ). row open_key n rs ≡ Some h.ended) (sym k) h.found) in
        record { ended = new; found = subst (λ (n : ℕ). row open_key n (with_latest open_key new rs) ≡ Some new) k (latest_same open_key new rs); stage_is = ends (ap (λ (x : OpenRow). x.stage) is ∙ h.stage_is) }
    by_key false e = record { ended = h.ended; found = latest_other open_key new key rs e ∙ h.found; stage_is = h.stage_is }

pub new_made : (c : Config) (now : List Told) (me : ℕ) (members : Members) (f : Frame) (t : SyncTable) (new : OpenRow) → row open_key (open_key new) t.opens ≡ None → OpenMade now f.epoch t.group t.files new → Made c now me members f t → Made c now me members f (with_open new t)
new_made c now me members f t new none k h = record { synced = h.synced; unstarted = h.unstarted; all = h.all; files = h.files; opens = every_latest (OpenMade now f.epoch t.group t.files) open_key new t.opens k h.opens; ended = λ key file same w. new_ended t.opens new key none (h.ended key file same w); early = h.early }

pub put_made : (c : Config) (now : List Told) (me : ℕ) (members : Members) (f : Frame) (t : SyncTable) (r new : OpenRow) → row open_key (open_key new) t.opens ≡ Some r → (r.stage ≡ stage.Ended → new.stage ≡ stage.Ended) → OpenMade now f.epoch t.group t.files new → Made c now me members f t → Made c now me members f (with_open new t)
put_made c now me members f t r new found ends k h = record { synced = h.synced; unstarted = h.unstarted; all = h.all; files = h.files; opens = every_latest (OpenMade now f.epoch t.group t.files) open_key new t.opens k h.opens; ended = λ key file same w. put_ended t.opens r new key found ends (h.ended key file same w); early = h.early }

-- ---- the decision ----

some_none : (x : Refusal) → ◌≡◌ {A = Option Refusal} (Some x) None → ⊥
some_none x e = cc

-- what isn't refused and is no make finds a version kept
kept_some : (m : Mode) (os : List Opener) (stamps : List Stamp) → IsOfAFile m → grant_refusal m os stamps ≡ None → NotEmpty stamps
kept_some m os [] it h = absurd (no_kept m it (sym (same (none_excludes m os [] h)) ∙ h))
  where
    same : excluder m os ≡ None → grant_refusal m os [] ≡ kept_refusal m []
    same e = rw e refl

    no_kept : (n : Mode) → IsOfAFile n → kept_refusal n [] ≡ None → ⊥
    no_kept mode.Make k g = k
    no_kept mode.Read k g = some_none refusal.NoStorage g
    no_kept mode.Write k g = some_none refusal.NoStorage g
    no_kept mode.Resolve k g = some_none refusal.NoStorage g
    no_kept mode.Mend k g = some_none refusal.NoStorage g
kept_some m os (s ∷ ss) it h = tt

stamps_some : (vs : List VersionRow) → NotEmpty (stamps_of vs) → NotEmpty vs
stamps_some [] h = h
stamps_some (v ∷ vs) h = tt

abbrev KeptDecision : SyncTable → OpenRequest → Decision → Type 0
KeptDecision t o (Denies why) = Unit {0}
KeptDecision t o (Grants ss stamp vector parents set k) = IsOfAFile (mode_of o.how) → IsKept t.files o.file.ino

kept_if : (t : SyncTable) (o : OpenRequest) (d : Decision) → (IsOfAFile (mode_of o.how) → IsKept t.files o.file.ino) → KeptDecision t o d
kept_if t o (Denies why) h = tt
kept_if t o (Grants ss stamp vector parents set k) h = h

unless_kept : (f : Frame) (t : SyncTable) (us : ℕ) (o : OpenRequest) (known : Option FileRow) (why : Option Refusal) → (why ≡ None → IsOfAFile (mode_of o.how) → IsKept t.files o.file.ino) → KeptDecision t o (unless_refused f us o known why)
unless_kept f t us o known (Some why) h = tt
unless_kept f t us o None None h = tt
unless_kept f t us o (Some r) None h = kept_if t o (grant_on f us r (kept (Some r)) o.how) (h refl)

file_kept : (f : Frame) (t : SyncTable) (us : ℕ) (o : OpenRequest) → KeptDecision t o (file_decision f t us o)
file_kept f t us o = unless_kept f t us o (file_row t o.file.ino) _ (λ e it. stamps_some (kept (file_row t o.file.ino)) (kept_some (mode_of o.how) (openers t o.file) (stamps_of (kept (file_row t o.file.ino))) it e))

decision_kept : (f : Frame) (t : SyncTable) (us : ℕ) (o : OpenRequest) (x : Opening) → o.how ≡ x → KeptDecision t o (decision f t us o x)
decision_kept f t us o (how.Make set k) e = kept_if t o _ (λ it. absurd (subst (λ (y : Opening). IsOfAFile (mode_of y)) e it))
decision_kept f t us o how.Read e = file_kept f t us o
decision_kept f t us o how.Write e = file_kept f t us o
decision_kept f t us o (how.Resolve site) e = file_kept f t us o
decision_kept f t us o how.Mend e = file_kept f t us o

-- ---- opens ----

once_here : (f : Frame) (group : ℕ) (r : OpenRow) (m : Mode) → r.file.group ≡ group → Every (Here f.epoch group) (granted_at_once f r m)
once_here f group r mode.Make g = tt
once_here f group r _ g = ((refl, g), tt)

once_plain : (past : List Told) (f : Frame) (r : OpenRow) (m : Mode) → (IsOfAFile r.mode → IsKnown past r.file × IsFree past f.epoch r.file) → AllPlain past (granted_at_once f r m)
once_plain past f r mode.Make k = tt
once_plain past f r _ k = (k, tt)

-- the table where the grant of the new row, if any, is told
once_made : (c : Config) (past : List Told) (me : ℕ) (members : Members) (f : Frame) (t : SyncTable) (r : OpenRow) (m : Mode) → row open_key (open_key r) t.opens ≡ None → OpenMade past f.epoch t.group t.files r → Made c past me members f t → Made c (onto (granted_at_once f r m) past) me members f (with_open r t)
once_made c past me members f t r mode.Make none k h = new_made c past me members f t r none k h
once_made c past me members f t r _ none k h = new_made c (grant_record f r ∷ past) me members f t r none (open_later past (grant_record f r) f.epoch t.group t.files r k) (table_one c past (grant_record f r) me f.epoch members t (record { start = λ q. q; release = λ key file same q. q }) tt h)

decides_keeps : (c : Config) (past : List Told) (me : ℕ) (members : Members) (f : Frame) (t : SyncTable) (us : ℕ) (o : OpenRequest) (d : Decision) → row open_key (serial_key (record { us = us; serial = o.serial })) t.opens ≡ None → o.file.group ≡ t.group → KeptDecision t o d → Made c past me members f t → Fine c past me members f t (decides f t us o d)
decides_keeps c past me members f t us o (Denies why) none g a h =
    let r : OpenRow = denied_row us o why in
    let x : Told = refuse_record f r why in
    record { group = refl; table = new_made c (x ∷ past) me members f t r none (record { group_is = g; stage = tt }) (table_one c past x me f.epoch members t (record { start = λ q. q; release = λ key file same q. q }) tt h); here = ((refl, g), tt); plain = (tt, tt) }
decides_keeps c past me members f t us o (Grants ss stamp vector parents set k) none g a h =
    let r : OpenRow = asked_row us o ss stamp vector parents set k in
    let file : o.file ≡ file_in t.group o.file.ino = file_eq o.file t.group o.file.ino g refl in
    record {
      group = refl;
      table = once_made c past me members f t r r.mode none (record { group_is = g; stage = a }) h;
      here = once_here f t.group r r.mode g;
      plain = once_plain past f r r.mode (λ it. subst (λ (x : FileId). IsKnown past x × IsFree past f.epoch x) (sym file) (kept_made past f.epoch t.group o.file.ino t.files h.files (a it)));
    }

on_open_of_keeps : (c : Config) (past : List Told) (me : ℕ) (members : Members) (f : Frame) (t : SyncTable) (us : ℕ) (o : OpenRequest) (r : Option OpenRow) → open_row t (record { us = us; serial = o.serial }) ≡ r → o.file.group ≡ t.group → Made c past me members f t → Fine c past me members f t (on_open_of f t us o r)
on_open_of_keeps c past me members f t us o None e g h = decides_keeps c past me members f t us o (decision f t us o o.how) e g (decision_kept f t us o o.how refl) h
on_open_of_keeps c past me members f t us o (Some r) e g h = sends_keeps c past me members f t _ h

pub takes_open_keeps : (c : Config) (past : List Told) (me : ℕ) (members : Members) (f : Frame) (us : ℕ) (o : OpenRequest) (t : SyncTable) → o.file.group ≡ t.group → Made c past me members f t → Fine c past me members f t (takes_open f us o t)
takes_open_keeps c past me members f us o t g h = on_open_of_keeps c past me members f t us o (open_row t (record { us = us; serial = o.serial })) refl g h

-- ---- the storage site's answer ----

numbered_group : (m : Mode) (file : FileId) (ino : ℕ) → (numbered_file m file ino).group ≡ file.group
numbered_group mode.Make file ino = refl
numbered_group mode.Read file ino = refl
numbered_group mode.Write file ino = refl
numbered_group mode.Resolve file ino = refl
numbered_group mode.Mend file ino = refl

plain_not : (m : Mode) → IsOfAFile m → m ≡ mode.Make → ⊥
plain_not m it e = subst IsOfAFile e it

-- the grant of a make is told as it is answered
last_granted : (past : List Told) (f : Frame) (q : OpenRow) (m : Mode) → q.mode ≡ m → q.mode ≡ mode.Make → WasGrantedAs (onto (granted_at_last f q m) past) f.epoch (open_key q) q.file mode.Make
last_granted past f q mode.Make e k = inl (refl, refl, refl, k)
last_granted past f q mode.Read e k = absurd (plain_not mode.Read tt (sym e ∙ k))
last_granted past f q mode.Write e k = absurd (plain_not mode.Write tt (sym e ∙ k))
last_granted past f q mode.Resolve e k = absurd (plain_not mode.Resolve tt (sym e ∙ k))
last_granted past f q mode.Mend e k = absurd (plain_not mode.Mend tt (sym e ∙ k))

last_here : (f : Frame) (group : ℕ) (q : OpenRow) (m : Mode) → q.file.group ≡ group → Every (Here f.epoch group) (granted_at_last f q m)
last_here f group q mode.Make g = ((refl, g), tt)
last_here f group q _ g = tt

last_plain : (past : List Told) (f : Frame) (q : OpenRow) (m : Mode) → q.mode ≡ m → AllPlain past (granted_at_last f q m)
last_plain past f q mode.Make e = ((λ it. absurd (subst IsOfAFile e it)), tt)
last_plain past f q _ e = tt

last_made : (c : Config) (past : List Told) (me : ℕ) (members : Members) (f : Frame) (t : SyncTable) (q : OpenRow) (m : Mode) → Made c past me members f t → Made c (onto (granted_at_last f q m) past) me members f t
last_made c past me members f t q mode.Make h = table_one c past (grant_record f q) me f.epoch members t (record { start = λ k. k; release = λ key file same k. k }) tt h
last_made c past me members f t q _ h = h

asked_not : (r : OpenRow) → r.stage ≡ stage.Asked → r.stage ≡ stage.Ended → ⊥
asked_not r e k = differ (sym e ∙ k)
  where
    differ : ◌≡◌ {A = OpenStage} stage.Asked stage.Ended → ⊥
    differ q = cc

answers_keeps : (c : Config) (past : List Told) (me : ℕ) (members : Members) (f : Frame) (r : OpenRow) (a : OpenedAs) (t : SyncTable) → row open_key (open_key r) t.opens ≡ Some r → r.stage ≡ stage.Asked → r.file.group ≡ t.group → StageMade past f.epoch t.files r stage.Asked → Made c past me members f t → Fine c past me members f t (answers_open f r a t)
answers_keeps c past me members f r (opened.Open ino size) t found asked g s h =
    let q : OpenRow = granted_row r ino size in
    let told : List Told = granted_at_last f q r.mode in
    let group : q.file.group ≡ t.group = numbered_group r.mode r.file ino ∙ g in
    record {
      group = refl;
      table = put_made c (onto told past) me members f t r q found (λ k. absurd (asked_not r asked k))
          (record { group_is = group; stage = ((λ it. subst (λ (x : FileId). IsKept t.files x.ino) (sym (same_numbered r.mode r.file ino it)) (s it)), last_granted past f q r.mode refl) })
          (last_made c past me members f t q r.mode h);
      here = last_here f t.group q r.mode group;
      plain = last_plain past f q r.mode refl;
    }
answers_keeps c past me members f r (opened.No why) t found asked g s h =
    let q : OpenRow = record r { stage = stage.Refused why } in
    let x : Told = refuse_record f q why in
    record { group = refl; table = put_made c (x ∷ past) me members f t r q found (λ k. absurd (asked_not r asked k)) (record { group_is = g; stage = tt }) (table_one c past x me f.epoch members t (record { start = λ k. k; release = λ key file same k. k }) tt h); here = ((refl, g), tt); plain = (tt, tt) }

by_stage_keeps : (c : Config) (past : List Told) (me : ℕ) (members : Members) (f : Frame) (r : OpenRow) (a : OpenedAs) (s : OpenStage) (t : SyncTable) → row open_key (open_key r) t.opens ≡ Some r → r.stage ≡ s → r.file.group ≡ t.group → StageMade past f.epoch t.files r s → Made c past me members f t → Fine c past me members f t (by_stage f r a s t)
by_stage_keeps c past me members f r a stage.Asked t found e g k h = answers_keeps c past me members f r a t found e g k h
by_stage_keeps c past me members f r a stage.Granted t found e g k h = sends_keeps c past me members f t [] h
by_stage_keeps c past me members f r a (stage.Refused why) t found e g k h = sends_keeps c past me members f t [] h
by_stage_keeps c past me members f r a stage.Ended t found e g k h = sends_keeps c past me members f t [] h

-- a row that is found has its key
pub row_key : (past : List Told) (e : EpochId) (group : ℕ) (files : List FileRow) (key : ℕ) (rs : List OpenRow) (r : OpenRow) → Every (OpenMade past e group files) rs → row open_key key rs ≡ Some r → (open_key r ≡ key) × OpenMade past e group files r
row_key past e group files key rs r h q = subst (FoundAt (OpenMade past e group files) open_key key) q (row_at (OpenMade past e group files) open_key key rs h)

on_opened_of_keeps : (c : Config) (past : List Told) (me : ℕ) (members : Members) (f : Frame) (key : ℕ) (a : OpenedAs) (o : Option OpenRow) (t : SyncTable) → row open_key key t.opens ≡ o → Made c past me members f t → Fine c past me members f t (on_opened_of f a o t)
on_opened_of_keeps c past me members f key a None t e h = sends_keeps c past me members f t [] h
on_opened_of_keeps c past me members f key a (Some r) t e h =
    let k : (open_key r ≡ key) × OpenMade past f.epoch t.group t.files r = row_key past f.epoch t.group t.files key t.opens r h.opens e in
    by_stage_keeps c past me members f r a r.stage t (subst (λ (n : ℕ). row open_key n t.opens ≡ Some r) (sym k.0) e) refl k.1.group_is k.1.stage h

pub on_opened_keeps : (c : Config) (past : List Told) (me : ℕ) (members : Members) (f : Frame) (inst : Serial) (a : OpenedAs) (t : SyncTable) → Made c past me members f t → Fine c past me members f t (on_opened f inst a t)
on_opened_keeps c past me members f inst a t h = on_opened_of_keeps c past me members f (serial_key inst) a (open_row t inst) t refl h
