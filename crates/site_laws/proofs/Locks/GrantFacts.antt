-- Each plain grant of an epoch has its row in the table of its group, and is locked by the rows that are open.
use Rattle.std.proofs.Common.{◌≡◌, ℕ, ◌==◌, Bool, true, false, cond, ◌⊎◌, List, [], ◌∷◌, ◌++◌, Option, Some, None, refl, sym, ◌∙◌, ap, subst, inl, inr, arith}
use Rattle.std.proofs.lemmas.Bool.Decides.{nat_tests}
use Rattle.std.specs.List.{list_any, flat_map}
use Rattle.run_laws.proofs.of_plain_facts.Numbers.{equal}
use Rattle.run_laws.proofs.of_plain_facts.Options.{none_some, some_same}
use Rattle.run_laws.proofs.of_plain_facts.Tests.{and_true}
use Rattle.locus_ids.specs.Sites.{has}
use Rattle.locus_ids.specs.declared.ids.EpochId.{EpochId}
use Rattle.locus_ids.specs.declared.ids.FileId.{FileId}
use Rattle.locus_ids.specs.declared.ids.Mode.{Mode}
use Rattle.locus_ids.specs.declared.ids.Mode.TheVariants as mode
use Rattle.locus_ids.specs.declared.ids.Serial.{Serial}
use Rattle.locus_ids.specs.declared.ids.Stamp.{Stamp}
use Rattle.locus_ids.specs.declared.sites.Members.{Members}
use Rattle.locus_ids.specs.declared.config.Config.{Config}
use Rattle.commit_graph.specs.Versions.{same_file}
use Rattle.commit_graph.specs.Grants.{is_read}
use Rattle.trace_book.specs.declared.record.Record.TheVariants as says
use Rattle.wire_messages.specs.declared.packet.Packet.{Packet}
use Rattle.wire_messages.specs.declared.body.Body.{Body}
use Rattle.wire_messages.specs.declared.body.Body.TheVariants as body
use Rattle.wire_messages.specs.declared.body.MadeVersion.{MadeVersion}
use Rattle.wire_messages.specs.declared.body.ReportedCopy.{ReportedCopy}
use Rattle.wire_messages.specs.declared.body.OpenedAs.{OpenedAs}
use Rattle.wire_messages.specs.declared.body.OpenedAs.TheVariants as opened
use Rattle.role_steps.specs.Own.{Every}
use Rattle.role_steps.specs.Tables.{row, with_latest}
use Rattle.role_steps.specs.Views.{Frame, Told, Shown, Outcome, quiet, sends, and_then, packet, process_key, serial_key, sync_site}
use Rattle.role_steps.specs.Versions.{file_row}
use Rattle.role_steps.specs.Notices.{notices}
use Rattle.role_steps.specs.Opens.{OpenRequest, Decision, Denies, Grants, is_open_stage, decision, refuse_record, grant_record, decides, denied_row, asked_row, granted_row, granted_at_once, granted_at_last, on_open_of, takes_open, open_row, open_key, with_open, answers_open, by_stage, on_opened_of, on_opened}
use Rattle.role_steps.specs.Looks.{LookRequest, is_look_before, is_same_look, new_look, after_last, takes_look, look_key}
use Rattle.role_steps.specs.Reports.{brought_files, waits_early, is_early_of, on_open, on_look, takes_early, takes_all_early, starts, starts_if, have_all_reported, counts_report, with_reported, with_all_reported, with_report, on_report, published, closed_ok, releases, closes_at, on_closed_of, on_closed, on_have_of, on_have}
use Rattle.role_steps.specs.declared.synchronizing.SyncTable.{SyncTable}
use Rattle.role_steps.specs.declared.synchronizing.FileRow.{FileRow}
use Rattle.role_steps.specs.declared.synchronizing.OpenRow.{OpenRow}
use Rattle.role_steps.specs.declared.synchronizing.OpenStage.{OpenStage}
use Rattle.role_steps.specs.declared.synchronizing.OpenStage.TheVariants as stage
use Rattle.role_steps.specs.declared.synchronizing.LastLook.{LastLook}
use Rattle.role_steps.specs.declared.synchronizing.Early.{Early}
use Rattle.role_steps.proofs.Sending.{every_append}
use Rattle.the_run.proofs.InsideSync.{Found, row_found}
use Rattle.site_laws.specs.Vectors.Facts.{onto, WaitingFact, EarlyFact}
use Rattle.site_laws.proofs.Vectors.Facts.{onto_append}
use Rattle.site_laws.proofs.Vectors.SyncFacts.{FoundAt, row_at}
use Rattle.site_laws.specs.Locks.Locks.{IsOfAFile}
use Rattle.site_laws.specs.Locks.Grants.{WasGrantedAs, IsOver}
use Rattle.site_laws.proofs.Locks.Facts.{onto_later}
use Rattle.site_laws.proofs.Locks.Apart.{ReadsBeside, ApartDecision, decision_apart, same_numbered}
use Rattle.site_laws.proofs.Locks.GrantTold.{latest_other, latest_same, Held, TableLock, held_later, lock_later, GrantHere, Bare, bare_since, AllLocked, locked_append, bare_locked, bare_here}

-- ---- outcomes of a table ----

pub record TableKeeps (c : Config) (past : List Told) (me : ℕ) (e : EpochId) (members : Members) (t : SyncTable) (o : Outcome SyncTable) : Type 0 where
  pub group : o.view.group ≡ t.group
  pub lock : TableLock c (onto o.told past) me e members o.view
  pub here : Every (GrantHere e t.group) o.told
  pub locked : AllLocked past o.told

abbrev pub Fine : Config → List Told → ℕ → Members → Frame → SyncTable → Outcome SyncTable → Type 0
Fine c past me members f t o = TableKeeps c past me f.epoch members t o

abbrev pub Lock : Config → List Told → ℕ → Members → Frame → SyncTable → Type 0
Lock c past me members f t = TableLock c past me f.epoch members t

same_keeps : (c : Config) (past : List Told) (me : ℕ) (members : Members) (f : Frame) (t u : SyncTable) (ps : List Packet) → u.group ≡ t.group → u.opens ≡ t.opens → Every (EarlyFact u.group) u.early → Lock c past me members f t → Fine c past me members f t (sends ps u)
same_keeps c past me members f t u ps group opens early h = record {
  group = group;
  lock = record {
    synced = subst (λ (n : ℕ). sync_site c members n ≡ Some me) (sym group) h.synced;
    complete = λ key file m it at g. (let k : Held past f.epoch t key file m = h.complete key file m it (at ∙ group) g in record { held = k.held; found = subst (λ (rs : List OpenRow). row open_key key rs ≡ Some k.held) (sym opens) k.found; file_is = k.file_is; mode_is = k.mode_is; open_or_over = k.open_or_over });
    early = early;
  };
  here = tt;
  locked = tt;
}

then_keeps : (c : Config) (past : List Told) (me : ℕ) (members : Members) (f : Frame) (t : SyncTable) (o : Outcome SyncTable) (g : SyncTable → Outcome SyncTable) → Fine c past me members f t o → Fine c (onto o.told past) me members f o.view (g o.view) → Fine c past me members f t (and_then o g)
then_keeps c past me members f t o g h k = record {
  group = k.group ∙ h.group;
  lock = subst (λ (now : List Told). TableLock c now me f.epoch members (g o.view).view) (sym (onto_append o.told (g o.view).told past)) k.lock;
  here = every_append (GrantHere f.epoch t.group) o.told (g o.view).told h.here (subst (λ (n : ℕ). Every (GrantHere f.epoch n) (g o.view).told) h.group k.here);
  locked = locked_append past o.told (g o.view).told h.locked k.locked;
}

-- a row that comes, and one that takes the place of another
new_held : (now : List Told) (e : EpochId) (t : SyncTable) (new : OpenRow) (key : ℕ) (file : FileId) (m : Mode) → row open_key (open_key new) t.opens ≡ None → Held now e t key file m → Held now e (with_open new t) key file m
new_held now e t new key file m none h = record { held = h.held; found = by_key (open_key new == key) refl; file_is = h.file_is; mode_is = h.mode_is; open_or_over = h.open_or_over }
  where
    by_key : (b : Bool) → (open_key new == key) ≡ b → row open_key key (with_latest open_key new t.opens) ≡ Some h.held
    by_key true e = absurd (none_some h.held (sym none ∙ subst (λ (k : ℕ). row open_key k t.opens ≡ Some h.held) (sym (equal (open_key new) key e)) h.found))
    by_key false e = latest_other open_key new key t.opens e ∙ h.found

put_held : (now : List Told) (e : EpochId) (t : SyncTable) (r new : OpenRow) (key : ℕ) (file : FileId) (m : Mode) → IsOfAFile m → row open_key (open_key new) t.opens ≡ Some r → (IsOfAFile r.mode → new.file ≡ r.file) → new.mode ≡ r.mode → (is_open_stage new.stage ≡ true) ⊎ IsOver now e (open_key new) → Held now e t key file m → Held now e (with_open new t) key file m
put_held now e t r new key file m it found file_is mode_is still h = by_key (open_key new == key) refl
  where
    by_key : (b : Bool) → (open_key new == key) ≡ b → Held now e (with_open new t) key file m
    by_key true q =
        let k : open_key new ≡ key = equal (open_key new) key q in
        let is : r ≡ h.held = some_same r h.held (sym found ∙ subst (λ (n : ℕ). row open_key n t.opens ≡ Some h.held) (sym k) h.found) in
        let mode_was : r.mode ≡ m = ap (λ (x : OpenRow). x.mode) is ∙ h.mode_is in
        record {
          held = new;
          found = subst (λ (n : ℕ). row open_key n (with_latest open_key new t.opens) ≡ Some new) k (latest_same open_key new t.opens);
          file_is = file_is (subst IsOfAFile (sym mode_was) it) ∙ (ap (λ (x : OpenRow). x.file) is ∙ h.file_is);
          mode_is = mode_is ∙ mode_was;
          open_or_over = subst (λ (n : ℕ). (is_open_stage new.stage ≡ true) ⊎ IsOver now e n) k still;
        }
    by_key false q = record { held = h.held; found = latest_other open_key new key t.opens q ∙ h.found; file_is = h.file_is; mode_is = h.mode_is; open_or_over = h.open_or_over }

new_lock : (c : Config) (now : List Told) (me : ℕ) (members : Members) (f : Frame) (t : SyncTable) (new : OpenRow) → row open_key (open_key new) t.opens ≡ None → Lock c now me members f t → Lock c now me members f (with_open new t)
new_lock c now me members f t new none h = record { synced = h.synced; complete = λ key file m it group g. new_held now f.epoch t new key file m none (h.complete key file m it group g); early = h.early }

put_lock : (c : Config) (now : List Told) (me : ℕ) (members : Members) (f : Frame) (t : SyncTable) (r new : OpenRow) → row open_key (open_key new) t.opens ≡ Some r → (IsOfAFile r.mode → new.file ≡ r.file) → new.mode ≡ r.mode → (is_open_stage new.stage ≡ true) ⊎ IsOver now f.epoch (open_key new) → Lock c now me members f t → Lock c now me members f (with_open new t)
put_lock c now me members f t r new found file_is mode_is still h = record { synced = h.synced; complete = λ key file m it group g. put_held now f.epoch t r new key file m it found file_is mode_is still (h.complete key file m it group g); early = h.early }

-- ---- opens ----

same_file_self : (file : FileId) → same_file file file ≡ true
same_file_self file = grind (arith, nat_tests)

beside_read : (past : List Told) (e : EpochId) (t : SyncTable) (m : Mode) (file : FileId) (key : ℕ) (other : Mode) → IsOfAFile m → Every (ReadsBeside m file) t.opens → Held past e t key file other → ((is_read m ≡ true) × (is_read other ≡ true)) ⊎ IsOver past e key
beside_read past e t m file key other it beside h = by_stage_of h.open_or_over
  where
    reads : is_open_stage h.held.stage ≡ true → (is_read m ≡ true) × (is_read h.held.mode ≡ true)
    reads is_open = subst (Found (ReadsBeside m file)) h.found (row_found (ReadsBeside m file) open_key key t.opens beside) it (and_true (same_file h.held.file file) (is_open_stage h.held.stage) (subst (λ (x : FileId). same_file x file ≡ true) (sym h.file_is) (same_file_self file)) is_open)

    by_stage_of : (is_open_stage h.held.stage ≡ true) ⊎ IsOver past e key → ((is_read m ≡ true) × (is_read other ≡ true)) ⊎ IsOver past e key
    by_stage_of (inl is_open) = inl ((reads is_open).0, subst (λ (n : Mode). is_read n ≡ true) h.mode_is (reads is_open).1)
    by_stage_of (inr over) = inr over

once_here : (f : Frame) (group : ℕ) (r : OpenRow) (m : Mode) → r.file.group ≡ group → Every (GrantHere f.epoch group) (granted_at_once f r m)
once_here f group r mode.Make g = tt
once_here f group r mode.Read g = ((λ it. (refl, g)), tt)
once_here f group r mode.Write g = ((λ it. (refl, g)), tt)
once_here f group r mode.Resolve g = ((λ it. (refl, g)), tt)
once_here f group r mode.Mend g = ((λ it. (refl, g)), tt)

once_locked : (c : Config) (past : List Told) (me : ℕ) (members : Members) (f : Frame) (t : SyncTable) (r : OpenRow) (m : Mode) → r.file.group ≡ t.group → Every (ReadsBeside r.mode r.file) t.opens → Lock c past me members f t → AllLocked past (granted_at_once f r m)
once_locked c past me members f t r mode.Make g beside h = tt
once_locked c past me members f t r mode.Read g beside h = ((λ it key other k plain. beside_read past f.epoch t r.mode r.file key other it beside (h.complete key r.file other plain g k)), tt)
once_locked c past me members f t r mode.Write g beside h = ((λ it key other k plain. beside_read past f.epoch t r.mode r.file key other it beside (h.complete key r.file other plain g k)), tt)
once_locked c past me members f t r mode.Resolve g beside h = ((λ it key other k plain. beside_read past f.epoch t r.mode r.file key other it beside (h.complete key r.file other plain g k)), tt)
once_locked c past me members f t r mode.Mend g beside h = ((λ it key other k plain. beside_read past f.epoch t r.mode r.file key other it beside (h.complete key r.file other plain g k)), tt)

-- the new row holds the new grant
told_lock : (c : Config) (past : List Told) (me : ℕ) (members : Members) (f : Frame) (t : SyncTable) (r : OpenRow) → row open_key (open_key r) t.opens ≡ None → is_open_stage r.stage ≡ true → Lock c past me members f t → Lock c (grant_record f r ∷ past) me members f (with_open r t)
told_lock c past me members f t r none is_open h = record { synced = h.synced; complete = λ key file m it group g. by_told key file m it group g; early = h.early }
  where
    by_told : (key : ℕ) (file : FileId) (m : Mode) → IsOfAFile m → file.group ≡ t.group → WasGrantedAs (grant_record f r ∷ past) f.epoch key file m → Held (grant_record f r ∷ past) f.epoch (with_open r t) key file m
    by_told key file m it group (inl k) = record { held = r; found = subst (λ (n : ℕ). row open_key n (with_latest open_key r t.opens) ≡ Some r) k.1 (latest_same open_key r t.opens); file_is = k.2; mode_is = k.3; open_or_over = inl is_open }
    by_told key file m it group (inr k) = held_later past (grant_record f r ∷ past) (onto_later (grant_record f r ∷ []) past) f.epoch (with_open r t) key file m (new_held past f.epoch t r key file m none (h.complete key file m it group k))

asked_lock : (c : Config) (past : List Told) (me : ℕ) (members : Members) (f : Frame) (t : SyncTable) (r : OpenRow) (m : Mode) → row open_key (open_key r) t.opens ≡ None → is_open_stage r.stage ≡ true → Lock c past me members f t → Lock c (onto (granted_at_once f r m) past) me members f (with_open r t)
asked_lock c past me members f t r mode.Make none is_open h = new_lock c past me members f t r none h
asked_lock c past me members f t r mode.Read none is_open h = told_lock c past me members f t r none is_open h
asked_lock c past me members f t r mode.Write none is_open h = told_lock c past me members f t r none is_open h
asked_lock c past me members f t r mode.Resolve none is_open h = told_lock c past me members f t r none is_open h
asked_lock c past me members f t r mode.Mend none is_open h = told_lock c past me members f t r none is_open h

-- a table after what tells of no plain grant
bare_lock : (c : Config) (told past : List Told) (me : ℕ) (members : Members) (f : Frame) (t : SyncTable) → Every Bare told → Lock c past me members f t → Lock c (onto told past) me members f t
bare_lock c told past me members f t bare h = lock_later c past (onto told past) (onto_later told past) me f.epoch members t (bare_since told past f.epoch t.group bare) h

every_here : (e : EpochId) (group : ℕ) (told : List Told) → Every Bare told → Every (GrantHere e group) told
every_here e group [] h = tt
every_here e group (x ∷ xs) h = (bare_here e group x h.0, every_here e group xs h.1)

decides_keeps : (c : Config) (past : List Told) (me : ℕ) (members : Members) (f : Frame) (t : SyncTable) (us : ℕ) (o : OpenRequest) (d : Decision) → row open_key (serial_key (record { us = us; serial = o.serial })) t.opens ≡ None → o.file.group ≡ t.group → ApartDecision t o d → Lock c past me members f t → Fine c past me members f t (decides f t us o d)
decides_keeps c past me members f t us o (Denies why) none g a h =
    let r : OpenRow = denied_row us o why in
    let x : Told = refuse_record f r why in
    record { group = refl; lock = new_lock c (x ∷ past) me members f t r none (bare_lock c (x ∷ []) past me members f t (tt, tt) h); here = (tt, tt); locked = (tt, tt) }
decides_keeps c past me members f t us o (Grants ss stamp vector parents set k) none g a h =
    let r : OpenRow = asked_row us o ss stamp vector parents set k in
    record { group = refl; lock = asked_lock c past me members f t r r.mode none refl h; here = once_here f t.group r r.mode g; locked = once_locked c past me members f t r r.mode g a h }

on_open_of_keeps : (c : Config) (past : List Told) (me : ℕ) (members : Members) (f : Frame) (t : SyncTable) (us : ℕ) (o : OpenRequest) (r : Option OpenRow) → open_row t (record { us = us; serial = o.serial }) ≡ r → o.file.group ≡ t.group → Lock c past me members f t → Fine c past me members f t (on_open_of f t us o r)
on_open_of_keeps c past me members f t us o None e g h = decides_keeps c past me members f t us o (decision f t us o o.how) e g (decision_apart f t us o o.how refl) h
on_open_of_keeps c past me members f t us o (Some r) e g h = same_keeps c past me members f t t _ refl refl h.early h

takes_open_keeps : (c : Config) (past : List Told) (me : ℕ) (members : Members) (f : Frame) (us : ℕ) (o : OpenRequest) (t : SyncTable) → o.file.group ≡ t.group → Lock c past me members f t → Fine c past me members f t (takes_open f us o t)
takes_open_keeps c past me members f us o t g h = on_open_of_keeps c past me members f t us o (open_row t (record { us = us; serial = o.serial })) refl g h

-- ---- the storage site's answer ----

last_bare : (f : Frame) (r : OpenRow) (m : Mode) (ino size : ℕ) → r.mode ≡ m → Every Bare (granted_at_last f (granted_row r ino size) m)
last_bare f r mode.Make ino size e = ((λ it. subst IsOfAFile e it), tt)
last_bare f r mode.Read ino size e = tt
last_bare f r mode.Write ino size e = tt
last_bare f r mode.Resolve ino size e = tt
last_bare f r mode.Mend ino size e = tt

answers_open_keeps : (c : Config) (past : List Told) (me : ℕ) (members : Members) (f : Frame) (r : OpenRow) (a : OpenedAs) (t : SyncTable) → row open_key (open_key r) t.opens ≡ Some r → Lock c past me members f t → Fine c past me members f t (answers_open f r a t)
answers_open_keeps c past me members f r (opened.Open ino size) t found h =
    let q : OpenRow = granted_row r ino size in
    let told : List Told = granted_at_last f q r.mode in
    let bare : Every Bare told = last_bare f r r.mode ino size refl in
    record { group = refl; lock = put_lock c (onto told past) me members f t r q found (λ it. same_numbered r.mode r.file ino it) refl (inl refl) (bare_lock c told past me members f t bare h); here = every_here f.epoch t.group told bare; locked = bare_locked past told bare }
answers_open_keeps c past me members f r (opened.No why) t found h =
    let q : OpenRow = record r { stage = stage.Refused why } in
    let x : Told = refuse_record f q why in
    record { group = refl; lock = put_lock c (x ∷ past) me members f t r q found (λ it. refl) refl (inr (inr (inl (refl, refl)))) (bare_lock c (x ∷ []) past me members f t (tt, tt) h); here = (tt, tt); locked = (tt, tt) }

by_stage_keeps : (c : Config) (past : List Told) (me : ℕ) (members : Members) (f : Frame) (r : OpenRow) (a : OpenedAs) (s : OpenStage) (t : SyncTable) → row open_key (open_key r) t.opens ≡ Some r → Lock c past me members f t → Fine c past me members f t (by_stage f r a s t)
by_stage_keeps c past me members f r a stage.Asked t found h = answers_open_keeps c past me members f r a t found h
by_stage_keeps c past me members f r a stage.Granted t found h = same_keeps c past me members f t t [] refl refl h.early h
by_stage_keeps c past me members f r a (stage.Refused why) t found h = same_keeps c past me members f t t [] refl refl h.early h
by_stage_keeps c past me members f r a stage.Ended t found h = same_keeps c past me members f t t [] refl refl h.early h

row_key : (key : ℕ) (rs : List OpenRow) (r : OpenRow) → row open_key key rs ≡ Some r → row open_key (open_key r) rs ≡ Some r
row_key key rs r e = subst (λ (k : ℕ). row open_key k rs ≡ Some r) (sym (key_is (row_at (λ (x : OpenRow). Unit {0}) open_key key rs (all_unit rs)) e)) e
  where
    all_unit : (xs : List OpenRow) → Every (λ (x : OpenRow). Unit {0}) xs
    all_unit [] = tt
    all_unit (x ∷ xs) = (tt, all_unit xs)

    key_is : FoundAt (λ (x : OpenRow). Unit {0}) open_key key (row open_key key rs) → row open_key key rs ≡ Some r → open_key r ≡ key
    key_is h e = (subst (FoundAt (λ (x : OpenRow). Unit {0}) open_key key) e h).0

on_opened_of_keeps : (c : Config) (past : List Told) (me : ℕ) (members : Members) (f : Frame) (key : ℕ) (a : OpenedAs) (o : Option OpenRow) (t : SyncTable) → row open_key key t.opens ≡ o → Lock c past me members f t → Fine c past me members f t (on_opened_of f a o t)
on_opened_of_keeps c past me members f key a None t e h = same_keeps c past me members f t t [] refl refl h.early h
on_opened_of_keeps c past me members f key a (Some r) t e h = by_stage_keeps c past me members f r a r.stage t (row_key key t.opens r e) h

pub on_opened_keeps : (c : Config) (past : List Told) (me : ℕ) (members : Members) (f : Frame) (inst : Serial) (a : OpenedAs) (t : SyncTable) → Lock c past me members f t → Fine c past me members f t (on_opened f inst a t)
on_opened_keeps c past me members f inst a t h = on_opened_of_keeps c past me members f (serial_key inst) a (open_row t inst) t refl h

-- ---- looks ----

new_look_keeps : (c : Config) (past : List Told) (me : ℕ) (members : Members) (f : Frame) (us : ℕ) (l : LookRequest) (known : Option FileRow) (t : SyncTable) → Lock c past me members f t → Fine c past me members f t (new_look f us l known t)
new_look_keeps c past me members f us l known t h =
    let told : List Told = (new_look f us l known t).told in
    let k : Lock c (onto told past) me members f t = bare_lock c told past me members f t (tt, tt) h in
    record { group = refl; lock = record { synced = k.synced; complete = λ key file m it group g. (let q : Held (onto told past) f.epoch t key file m = k.complete key file m it group g in record { held = q.held; found = q.found; file_is = q.file_is; mode_is = q.mode_is; open_or_over = q.open_or_over }); early = k.early }; here = (tt, tt); locked = (tt, tt) }

after_last_keeps : (c : Config) (past : List Told) (me : ℕ) (members : Members) (f : Frame) (us : ℕ) (l : LookRequest) (o : Option LastLook) (t : SyncTable) → Lock c past me members f t → Fine c past me members f t (after_last f us l o t)
after_last_keeps c past me members f us l None t h = new_look_keeps c past me members f us l (file_row t l.file.ino) t h
after_last_keeps c past me members f us l (Some last) t h =
    elim (is_look_before l last) as (λ b. Fine c past me members f t (elim b [ true ↦ quiet t | false ↦ elim (is_same_look l last) [ true ↦ sends (packet f last.to last.body ∷ []) t | false ↦ new_look f us l (file_row t l.file.ino) t ] ])) [
      | true ↦ same_keeps c past me members f t t [] refl refl h.early h
      | false ↦ elim (is_same_look l last) as (λ b. Fine c past me members f t (elim b [ true ↦ sends (packet f last.to last.body ∷ []) t | false ↦ new_look f us l (file_row t l.file.ino) t ])) [
        | true ↦ same_keeps c past me members f t t (packet f last.to last.body ∷ []) refl refl h.early h
        | false ↦ new_look_keeps c past me members f us l (file_row t l.file.ino) t h
      ]
    ]

takes_look_keeps : (c : Config) (past : List Told) (me : ℕ) (members : Members) (f : Frame) (us : ℕ) (l : LookRequest) (t : SyncTable) → Lock c past me members f t → Fine c past me members f t (takes_look f us l t)
takes_look_keeps c past me members f us l t h = after_last_keeps c past me members f us l (row look_key (process_key us l.process) t.looks) t h

-- ---- requests before the start ----

waits_keeps : (c : Config) (past : List Told) (me : ℕ) (members : Members) (f : Frame) (site process : ℕ) (b : Body) (t : SyncTable) → WaitingFact t.group b → Lock c past me members f t → Fine c past me members f t (quiet (waits_early site process b t))
waits_keeps c past me members f site process b t g h = by_test (list_any (is_early_of site process) t.early)
  where
    by_test : (x : Bool) → Fine c past me members f t (quiet (cond x t (record t { early = t.early ++ record { site = site; process = process; body = b } ∷ [] })))
    by_test true = same_keeps c past me members f t t [] refl refl h.early h
    by_test false = same_keeps c past me members f t (record t { early = t.early ++ record { site = site; process = process; body = b } ∷ [] }) [] refl refl (every_append (EarlyFact t.group) t.early (record { site = site; process = process; body = b } ∷ []) h.early (g, tt)) h

pub on_open_keeps : (c : Config) (past : List Told) (me : ℕ) (members : Members) (f : Frame) (us : ℕ) (o : OpenRequest) (t : SyncTable) → o.file.group ≡ t.group → Lock c past me members f t → Fine c past me members f t (on_open f us o t)
on_open_keeps c past me members f us o t g h =
    elim t.started as (λ b. Fine c past me members f t (elim b [ true ↦ takes_open f us o t | false ↦ quiet (waits_early us o.process (body.Open o.serial o.call o.process o.request o.file o.how) t) ])) [
      | true ↦ takes_open_keeps c past me members f us o t g h
      | false ↦ waits_keeps c past me members f us o.process (body.Open o.serial o.call o.process o.request o.file o.how) t g h
    ]

pub on_look_keeps : (c : Config) (past : List Told) (me : ℕ) (members : Members) (f : Frame) (us : ℕ) (l : LookRequest) (t : SyncTable) → Lock c past me members f t → Fine c past me members f t (on_look f us l t)
on_look_keeps c past me members f us l t h =
    elim t.started as (λ b. Fine c past me members f t (elim b [ true ↦ takes_look f us l t | false ↦ quiet (waits_early us l.process (body.Look l.call l.process l.request l.take l.file l.what) t) ])) [
      | true ↦ takes_look_keeps c past me members f us l t h
      | false ↦ waits_keeps c past me members f us l.process (body.Look l.call l.process l.request l.take l.file l.what) t tt h
    ]

takes_early_keeps : (c : Config) (past : List Told) (me : ℕ) (members : Members) (f : Frame) (us : ℕ) (b : Body) (t : SyncTable) → WaitingFact t.group b → Lock c past me members f t → Fine c past me members f t (takes_early f us b t)
takes_early_keeps c past me members f us (body.Open serial call process request file how) t g h = takes_open_keeps c past me members f us (record { serial = serial; call = call; process = process; request = request; file = file; how = how }) t g h
takes_early_keeps c past me members f us (body.Look call process request take file what) t g h = takes_look_keeps c past me members f us (record { call = call; process = process; request = request; take = take; file = file; what = what }) t h
takes_early_keeps c past me members f us _ t g h = same_keeps c past me members f t t [] refl refl h.early h

takes_all_early_keeps : (c : Config) (past : List Told) (me : ℕ) (members : Members) (f : Frame) (es : List Early) (t : SyncTable) → Every (EarlyFact t.group) es → Lock c past me members f t → Fine c past me members f t (takes_all_early f es t)
takes_all_early_keeps c past me members f [] t g h = same_keeps c past me members f t t [] refl refl h.early h
takes_all_early_keeps c past me members f (x ∷ xs) t g h =
    let o : Outcome SyncTable = takes_early f x.site x.body t in
    let k : Fine c past me members f t o = takes_early_keeps c past me members f x.site x.body t g.0 h in
    then_keeps c past me members f t o (takes_all_early f xs) k (takes_all_early_keeps c (onto o.told past) me members f xs o.view (subst (λ (n : ℕ). Every (EarlyFact n) xs) (sym k.group) g.1) k.lock)

-- ---- reports, closes, and what is held ----

starts_keeps : (c : Config) (past : List Told) (me : ℕ) (members : Members) (f : Frame) (t : SyncTable) → Lock c past me members f t → Fine c past me members f t (starts f t)
starts_keeps c past me members f t h =
    let now : SyncTable = record t { started = true; early = [] } in
    let x : Told = Shown (says.Start f.epoch t.group (flat_map brought_files t.files)) in
    let k : Lock c (x ∷ past) me members f t = bare_lock c (x ∷ []) past me members f t (tt, tt) h in
    let g : Lock c (x ∷ past) me members f now = (same_keeps c (x ∷ past) me members f t now [] refl refl tt k).lock in
    then_keeps c past me members f t (record { view = now; sent = notices f t; told = x ∷ []; written = None }) (takes_all_early f t.early)
    (record { group = refl; lock = g; here = (tt, tt); locked = (tt, tt) })
    (takes_all_early_keeps c (x ∷ past) me members f t.early now h.early g)

starts_if_keeps : (c : Config) (past : List Told) (me : ℕ) (members : Members) (f : Frame) (t : SyncTable) → Lock c past me members f t → Fine c past me members f t (starts_if f t)
starts_if_keeps c past me members f t h = elim (have_all_reported f t) as (λ b. Fine c past me members f t (elim b [ true ↦ starts f t | false ↦ quiet t ])) [ true ↦ starts_keeps c past me members f t h | false ↦ same_keeps c past me members f t t [] refl refl h.early h ]

-- what reports change: neither the group, nor the rows of opens, nor what waits
record SameRows (t u : SyncTable) : Type 0 where
  group : u.group ≡ t.group
  opens : u.opens ≡ t.opens
  early : u.early ≡ t.early

reported_rows : (from : ℕ) (xs : List ReportedCopy) (t : SyncTable) → SameRows t (with_all_reported from xs t)
reported_rows from [] t = record { group = refl; opens = refl; early = refl }
reported_rows from (x ∷ xs) t = let k : SameRows (with_reported from x t) (with_all_reported from xs (with_reported from x t)) = reported_rows from xs (with_reported from x t) in record { group = k.group; opens = k.opens; early = k.early }

rows_keep : (c : Config) (past : List Told) (me : ℕ) (members : Members) (f : Frame) (t u : SyncTable) → SameRows t u → Lock c past me members f t → Lock c past me members f u
rows_keep c past me members f t u k h = (same_keeps c past me members f t u [] k.group k.opens (subst (λ (n : ℕ). Every (EarlyFact n) u.early) (sym k.group) (subst (λ (es : List Early). Every (EarlyFact t.group) es) (sym k.early) h.early)) h).lock

counts_keeps : (c : Config) (past : List Told) (me : ℕ) (members : Members) (f : Frame) (from : ℕ) (xs : List ReportedCopy) (t : SyncTable) → Lock c past me members f t → Fine c past me members f t (counts_report f from xs t)
counts_keeps c past me members f from xs t h =
    elim (has t.reported from) as (λ b. Fine c past me members f t (elim b [ true ↦ quiet t | false ↦ starts_if f (with_report from xs t) ])) [
      | true ↦ same_keeps c past me members f t t [] refl refl h.early h
      | false ↦ (let k : SameRows t (with_report from xs t) = (let r : SameRows _ (with_report from xs t) = reported_rows from xs _ in record { group = r.group; opens = r.opens; early = r.early }) in let g : Fine c past me members f (with_report from xs t) (starts_if f (with_report from xs t)) = starts_if_keeps c past me members f (with_report from xs t) (rows_keep c past me members f t (with_report from xs t) k h) in record { group = g.group ∙ k.group; lock = g.lock; here = subst (λ (n : ℕ). Every (GrantHere f.epoch n) (starts_if f (with_report from xs t)).told) k.group g.here; locked = g.locked })
    ]

pub on_report_keeps : (c : Config) (past : List Told) (me : ℕ) (members : Members) (f : Frame) (from : ℕ) (xs : List ReportedCopy) (t : SyncTable) → Lock c past me members f t → Fine c past me members f t (on_report f from xs t)
on_report_keeps c past me members f from xs t h = let k : Fine c past me members f t (counts_report f from xs t) = counts_keeps c past me members f from xs t h in record { group = k.group; lock = k.lock; here = k.here; locked = k.locked }

published_rows : (ss : ℕ) (r : OpenRow) (made : Option MadeVersion) (t : SyncTable) → SameRows t (published ss r made t)
published_rows ss r None t = record { group = refl; opens = refl; early = refl }
published_rows ss r (Some v) t = record { group = refl; opens = refl; early = refl }

releases_keeps : (c : Config) (past : List Told) (me : ℕ) (members : Members) (f : Frame) (ss : ℕ) (r : OpenRow) (made : Option MadeVersion) (t : SyncTable) → row open_key (open_key r) t.opens ≡ Some r → Lock c past me members f t → Fine c past me members f t (releases f ss r made t)
releases_keeps c past me members f ss r made t found h =
    let q : OpenRow = record r { stage = stage.Ended } in
    let told : List Told = (releases f ss r made t).told in
    let ended : SyncTable = with_open q t in
    let rows : SameRows ended (published ss r made ended) = published_rows ss r made ended in
    record {
      group = rows.group;
      lock = rows_keep c (onto told past) me members f ended (published ss r made ended) rows (put_lock c (onto told past) me members f t r q found (λ it. refl) refl (inr (inl (inl (refl, refl)))) (bare_lock c told past me members f t (tt, tt) h));
      here = (tt, tt);
      locked = (tt, tt);
    }

closes_at_keeps : (c : Config) (past : List Told) (me : ℕ) (members : Members) (f : Frame) (ss : ℕ) (r : OpenRow) (made : Option MadeVersion) (s : OpenStage) (t : SyncTable) → row open_key (open_key r) t.opens ≡ Some r → Lock c past me members f t → Fine c past me members f t (closes_at f ss r made s t)
closes_at_keeps c past me members f ss r made stage.Asked t found h = same_keeps c past me members f t t [] refl refl h.early h
closes_at_keeps c past me members f ss r made stage.Granted t found h = releases_keeps c past me members f ss r made t found h
closes_at_keeps c past me members f ss r made (stage.Refused why) t found h = same_keeps c past me members f t t [] refl refl h.early h
closes_at_keeps c past me members f ss r made stage.Ended t found h = same_keeps c past me members f t t (closed_ok f ss r.inst) refl refl h.early h

on_closed_of_keeps : (c : Config) (past : List Told) (me : ℕ) (members : Members) (f : Frame) (ss key : ℕ) (made : Option MadeVersion) (o : Option OpenRow) (t : SyncTable) → row open_key key t.opens ≡ o → Lock c past me members f t → Fine c past me members f t (on_closed_of f ss made o t)
on_closed_of_keeps c past me members f ss key made None t e h = same_keeps c past me members f t t [] refl refl h.early h
on_closed_of_keeps c past me members f ss key made (Some r) t e h = closes_at_keeps c past me members f ss r made r.stage t (row_key key t.opens r e) h

pub on_closed_keeps : (c : Config) (past : List Told) (me : ℕ) (members : Members) (f : Frame) (ss : ℕ) (inst : Serial) (made : Option MadeVersion) (t : SyncTable) → Lock c past me members f t → Fine c past me members f t (on_closed f ss inst made t)
on_closed_keeps c past me members f ss inst made t h = on_closed_of_keeps c past me members f ss (serial_key inst) made (open_row t inst) t refl h

pub have_group : (from : ℕ) (stamp : Stamp) (o : Option FileRow) (t : SyncTable) → (on_have_of from stamp o t).group ≡ t.group
have_group from stamp None t = refl
have_group from stamp (Some r) t = refl

pub have_lock : (c : Config) (past : List Told) (me : ℕ) (e : EpochId) (members : Members) (from : ℕ) (stamp : Stamp) (o : Option FileRow) (t : SyncTable) → TableLock c past me e members t → TableLock c past me e members (on_have_of from stamp o t)
have_lock c past me e members from stamp None t h = h
have_lock c past me e members from stamp (Some r) t h = record { synced = h.synced; complete = λ key file m it group g. (let q : Held past e t key file m = h.complete key file m it group g in record { held = q.held; found = q.found; file_is = q.file_is; mode_is = q.mode_is; open_or_over = q.open_or_over }); early = h.early }

pub on_have_keeps : (c : Config) (past : List Told) (me : ℕ) (members : Members) (f : Frame) (from : ℕ) (file : FileId) (stamp : Stamp) (t : SyncTable) → Lock c past me members f t → Fine c past me members f t (on_have from file stamp t)
on_have_keeps c past me members f from file stamp t h = record { group = have_group from stamp (file_row t file.ino) t; lock = have_lock c past me f.epoch members from stamp (file_row t file.ino) t h; here = tt; locked = tt }
