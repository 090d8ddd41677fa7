-- What the synchronization site tells, keeps and sends of instances is as it went on, and its locks hold.
use Rattle.std.proofs.Common.{◌≡◌, ℕ, Bool, true, false, cond, List, [], ◌∷◌, ◌++◌, Option, Some, None, refl, sym, ◌∙◌, subst, inl, inr}
use Rattle.std.specs.List.{list_any, flat_map}
use Rattle.locus_ids.specs.Sites.{has}
use Rattle.locus_ids.specs.declared.ids.EpochId.{EpochId}
use Rattle.locus_ids.specs.declared.ids.FileId.{FileId}
use Rattle.locus_ids.specs.declared.ids.Mode.{Mode}
use Rattle.locus_ids.specs.declared.ids.Mode.TheVariants as mode
use Rattle.locus_ids.specs.declared.ids.Serial.{Serial}
use Rattle.locus_ids.specs.declared.ids.Stamp.{Stamp}
use Rattle.trace_book.specs.declared.operation.What.{What}
use Rattle.trace_book.specs.declared.operation.What.TheVariants as what
use Rattle.trace_book.specs.declared.record.Record.TheVariants as says
use Rattle.wire_messages.specs.declared.packet.Packet.{Packet}
use Rattle.wire_messages.specs.declared.body.Body.{Body}
use Rattle.wire_messages.specs.declared.body.Body.TheVariants as body
use Rattle.wire_messages.specs.declared.body.MadeVersion.{MadeVersion}
use Rattle.wire_messages.specs.declared.body.ReportedCopy.{ReportedCopy}
use Rattle.wire_messages.specs.declared.body.OpenedAs.{OpenedAs}
use Rattle.wire_messages.specs.declared.body.OpenedAs.TheVariants as opened
use Rattle.role_steps.specs.Own.{Every}
use Rattle.role_steps.specs.Tables.{row}
use Rattle.role_steps.specs.Views.{Frame, Told, Shown, Outcome, quiet, sends, and_then, packet, process_key, serial_key}
use Rattle.role_steps.specs.Versions.{file_row, holders_of, chosen_site}
use Rattle.role_steps.specs.Notices.{lagging, notice, notices_of, notices_by, file_notices, notices, row_notices}
use Rattle.role_steps.specs.Opens.{OpenRequest, Decision, Denies, Grants, is_open_stage, decision, refuse_record, decides, denied_row, asked_row, granted_row, numbered_file, granted_at_once, granted_at_last, repeats_open, on_open_of, takes_open, open_row, open_key, with_open, answers_open, by_stage, on_opened_of, on_opened}
use Rattle.role_steps.specs.Looks.{LookRequest, Service, Denies as Unserved, Serves, service, letter, serving_letter, last_look, is_look_before, is_same_look, new_look, after_last, takes_look, look_key}
use Rattle.role_steps.specs.Reports.{sync_repeats, brought_files, waits_early, is_early_of, on_open, on_look, takes_early, takes_all_early, starts, starts_if, have_all_reported, counts_report, with_reported, with_all_reported, with_report, on_report, published, published_notices, closed_ok, releases, closes_at, on_closed_of, on_closed, on_have_of, on_have}
use Rattle.role_steps.specs.declared.synchronizing.SyncTable.{SyncTable}
use Rattle.role_steps.specs.declared.synchronizing.FileRow.{FileRow}
use Rattle.role_steps.specs.declared.synchronizing.VersionRow.{VersionRow}
use Rattle.role_steps.specs.declared.synchronizing.OpenRow.{OpenRow}
use Rattle.role_steps.specs.declared.synchronizing.OpenStage.{OpenStage}
use Rattle.role_steps.specs.declared.synchronizing.OpenStage.TheVariants as stage
use Rattle.role_steps.specs.declared.synchronizing.LastLook.{LastLook}
use Rattle.role_steps.specs.declared.synchronizing.Early.{Early}
use Rattle.role_steps.proofs.Sending.{every_append, every_cond, every_map, every_flat_map}
use Rattle.the_run.proofs.InsideSync.{every_row, Found, row_found}
use Rattle.site_laws.specs.Vectors.Written.{WasGranted, WasTold}
use Rattle.site_laws.specs.Vectors.Facts.{onto, WaitingFact, EarlyFact}
use Rattle.site_laws.proofs.Vectors.Facts.{onto_append}
use Rattle.site_laws.proofs.Vectors.SyncFacts.{FoundAt, row_at, every_latest}
use Rattle.site_laws.specs.Locks.Going.{WasShutAt, WasReleased, WasStarted, GrantGoesOn}
use Rattle.site_laws.specs.Locks.Locks.{Apart}
use Rattle.site_laws.specs.Locks.Facts.{GrantedAt, IsGivenOn, OpenedFact, PacketFact, NoFact, Factless, AskedFact, RowFact, OpenFact, LookFact, TableFact, AllGoOn}
use Rattle.site_laws.proofs.Locks.Facts.{one_later, onto_later, row_given, packets_later, table_later, no_fact, factless, go_append}
use Rattle.site_laws.proofs.Locks.Apart.{ApartDecision, decision_apart, new_apart, Looser, put_apart, shut_looser, all_shut_apart, asked_apart, granted_looser}

-- ---- outcomes ----

pub record TableFine (past : List Told) (e : EpochId) (o : Outcome SyncTable) : Type 0 where
  pub view : TableFact (onto o.told past) e o.view
  pub sent : Every (PacketFact (onto o.told past)) o.sent
  pub goes : AllGoOn past o.told

pub table_then : (past : List Told) (e : EpochId) (o : Outcome SyncTable) (g : SyncTable → Outcome SyncTable) → TableFine past e o → TableFine (onto o.told past) e (g o.view) → TableFine past e (and_then o g)
table_then past e o g h k = record {
  view = subst (λ (now : List Told). TableFact now e (g o.view).view) (sym (onto_append o.told (g o.view).told past)) k.view;
  sent = subst (λ (now : List Told). Every (PacketFact now) (o.sent ++ (g o.view).sent)) (sym (onto_append o.told (g o.view).told past))
      (every_append (PacketFact (onto (g o.view).told (onto o.told past))) o.sent (g o.view).sent (packets_later (onto o.told past) (onto (g o.view).told (onto o.told past)) (onto_later (g o.view).told (onto o.told past)) o.sent h.sent) k.sent);
  goes = go_append past o.told (g o.view).told h.goes k.goes;
}

quiet_fine : (past : List Told) (e : EpochId) (t : SyncTable) → TableFact past e t → TableFine past e (quiet t)
quiet_fine past e t h = record { view = h; sent = tt; goes = tt }

sends_fine : (past : List Told) (e : EpochId) (ps : List Packet) (t : SyncTable) → Every (PacketFact past) ps → TableFact past e t → TableFine past e (sends ps t)
sends_fine past e ps t s h = record { view = h; sent = s; goes = tt }

-- ---- a table with one row other ----

table_new : (past : List Told) (e : EpochId) (t : SyncTable) (r : OpenRow) → OpenFact past e t.group r → row open_key (open_key r) t.opens ≡ None → Every (λ (q : OpenRow). Apart q r) t.opens → TableFact past e t → TableFact past e (with_open r t)
table_new past e t r k none a h = record { started = h.started; opens = every_latest (OpenFact past e t.group) open_key r t.opens k h.opens; apart = new_apart r t.opens none a h.apart; looks = h.looks; early = h.early }

table_put : (past : List Told) (e : EpochId) (t : SyncTable) (r new : OpenRow) → OpenFact past e t.group new → row open_key (open_key new) t.opens ≡ Some r → Looser r new → TableFact past e t → TableFact past e (with_open new t)
table_put past e t r new k found l h = record { started = h.started; opens = every_latest (OpenFact past e t.group) open_key new t.opens k h.opens; apart = put_apart r new t.opens found l h.apart; looks = h.looks; early = h.early }

-- ---- opens ----

of_group : (past : List Told) (e : EpochId) (group : ℕ) (file : FileId) → file.group ≡ group → WasStarted past e group → WasStarted past e file.group
of_group past e group file g h = subst (λ (n : ℕ). WasStarted past e n) (sym g) h

asked_grant : (past : List Told) (f : Frame) (r : OpenRow) (m : Mode) → AskedFact (onto (granted_at_once f r m) past) f.epoch (serial_key r.inst) r.file r.ss m
asked_grant past f r mode.Make = tt
asked_grant past f r mode.Read = (inl (refl, refl, refl), inl (refl, refl, refl))
asked_grant past f r mode.Write = (inl (refl, refl, refl), inl (refl, refl, refl))
asked_grant past f r mode.Resolve = (inl (refl, refl, refl), inl (refl, refl, refl))
asked_grant past f r mode.Mend = (inl (refl, refl, refl), inl (refl, refl, refl))

-- a grant that is told at once is of no make
once_goes : (past : List Told) (f : Frame) (r : OpenRow) (m : Mode) → r.mode ≡ m → AllGoOn past (granted_at_once f r m)
once_goes past f r mode.Make e = tt
once_goes past f r mode.Read e = (subst (GrantGoesOn past f.epoch (serial_key r.inst) r.file) (sym e) tt, tt)
once_goes past f r mode.Write e = (subst (GrantGoesOn past f.epoch (serial_key r.inst) r.file) (sym e) tt, tt)
once_goes past f r mode.Resolve e = (subst (GrantGoesOn past f.epoch (serial_key r.inst) r.file) (sym e) tt, tt)
once_goes past f r mode.Mend e = (subst (GrantGoesOn past f.epoch (serial_key r.inst) r.file) (sym e) tt, tt)

-- what an open at a table owes: it is of the group, which has started
pub record OpensHere (past : List Told) (e : EpochId) (t : SyncTable) (file : FileId) : Type 0 where
  pub group_is : file.group ≡ t.group
  pub started : WasStarted past e t.group

decides_fact : (past : List Told) (f : Frame) (t : SyncTable) (us : ℕ) (o : OpenRequest) (d : Decision) → row open_key (serial_key (record { us = us; serial = o.serial })) t.opens ≡ None → ApartDecision t o d → OpensHere past f.epoch t o.file → TableFact past f.epoch t → TableFine past f.epoch (decides f t us o d)
decides_fact past f t us o (Denies why) none a g h =
    let r : OpenRow = denied_row us o why in
    let x : Told = refuse_record f r why in
    record { view = table_new (x ∷ past) f.epoch t r (record { group_is = g.group_is; started = inr g.started; row = tt }) none (all_shut_apart r t.opens refl) (table_later past (x ∷ past) (one_later x past) f.epoch t h); sent = (tt, tt); goes = (tt, tt) }
decides_fact past f t us o (Grants ss stamp vector parents set k) none a g h =
    let r : OpenRow = asked_row us o ss stamp vector parents set k in
    let told : List Told = granted_at_once f r r.mode in
    let started : WasStarted (onto told past) f.epoch t.group = onto_later told past _ g.started in
    record { view = table_new (onto told past) f.epoch t r (record { group_is = g.group_is; started = started; row = asked_grant past f r r.mode }) none (asked_apart r t.opens a) (table_later past (onto told past) (onto_later told past) f.epoch t h); sent = (of_group (onto told past) f.epoch t.group o.file g.group_is started, tt); goes = once_goes past f r r.mode refl }

repeats_open_fact : (past : List Told) (f : Frame) (group : ℕ) (r : OpenRow) (s : OpenStage) → r.file.group ≡ group → WasStarted past f.epoch group → RowFact past f.epoch r s → Every (PacketFact past) (repeats_open f r s)
repeats_open_fact past f group r stage.Asked g started h = (of_group past f.epoch group r.file g started, tt)
repeats_open_fact past f group r stage.Granted g started h = (row_given past f.epoch (serial_key r.inst) r.file r.ss h, tt)
repeats_open_fact past f group r (stage.Refused why) g started h = (tt, tt)
repeats_open_fact past f group r stage.Ended g started h = tt

on_open_of_fact : (past : List Told) (f : Frame) (t : SyncTable) (us : ℕ) (o : OpenRequest) (r : Option OpenRow) → open_row t (record { us = us; serial = o.serial }) ≡ r → Found (OpenFact past f.epoch t.group) r → OpensHere past f.epoch t o.file → TableFact past f.epoch t → TableFine past f.epoch (on_open_of f t us o r)
on_open_of_fact past f t us o None e k g h = decides_fact past f t us o (decision f t us o o.how) e (decision_apart f t us o o.how refl) g h
on_open_of_fact past f t us o (Some r) e k g h = sends_fine past f.epoch _ t (repeats_open_fact past f t.group r r.stage k.group_is k.started k.row) h

takes_open_fact : (past : List Told) (f : Frame) (us : ℕ) (o : OpenRequest) (t : SyncTable) → OpensHere past f.epoch t o.file → TableFact past f.epoch t → TableFine past f.epoch (takes_open f us o t)
takes_open_fact past f us o t g h = on_open_of_fact past f t us o (open_row t (record { us = us; serial = o.serial })) refl (row_found (OpenFact past f.epoch t.group) open_key _ t.opens h.opens) g h

-- ---- the storage site's answer ----

abbrev numbered_row : OpenRow → Mode → ℕ → ℕ → OpenRow
numbered_row r m ino size = record r { stage = stage.Granted; file = numbered_file m r.file ino; size = size }

numbered_grant : (past : List Told) (f : Frame) (r : OpenRow) (m : Mode) (ino size : ℕ) → AskedFact past f.epoch (serial_key r.inst) r.file r.ss m → WasGranted (onto (granted_at_last f (numbered_row r m ino size) m) past) f.epoch (serial_key r.inst) (numbered_file m r.file ino)
numbered_grant past f r mode.Make ino size h = inl (refl, refl, refl)
numbered_grant past f r mode.Read ino size h = h.0
numbered_grant past f r mode.Write ino size h = h.0
numbered_grant past f r mode.Resolve ino size h = h.0
numbered_grant past f r mode.Mend ino size h = h.0

numbered_there : (past : List Told) (f : Frame) (r : OpenRow) (m : Mode) (ino size : ℕ) → AskedFact past f.epoch (serial_key r.inst) r.file r.ss m → WasTold (GrantedAt f.epoch (serial_key r.inst) r.ss) (onto (granted_at_last f (numbered_row r m ino size) m) past)
numbered_there past f r mode.Make ino size h = inl (refl, refl, refl)
numbered_there past f r mode.Read ino size h = h.1
numbered_there past f r mode.Write ino size h = h.1
numbered_there past f r mode.Resolve ino size h = h.1
numbered_there past f r mode.Mend ino size h = h.1

last_goes : (past : List Told) (f : Frame) (ss : ℕ) (r : OpenRow) (m : Mode) (ino size : ℕ) → r.mode ≡ m → OpenedFact past ss f.epoch (serial_key r.inst) (opened.Open ino size) → AllGoOn past (granted_at_last f (numbered_row r m ino size) m)
last_goes past f ss r mode.Make ino size e h = (subst (GrantGoesOn past f.epoch (serial_key r.inst) (record { group = r.file.group; ino = ino })) (sym e) (record { ss = ss; begun = h.0; was_begun = h.1; number = h.2 }), tt)
last_goes past f ss r mode.Read ino size e h = tt
last_goes past f ss r mode.Write ino size e h = tt
last_goes past f ss r mode.Resolve ino size e h = tt
last_goes past f ss r mode.Mend ino size e h = tt

asked_open : (r : OpenRow) → r.stage ≡ stage.Asked → is_open_stage r.stage ≡ true
asked_open r e = rw e refl

numbered_group : (m : Mode) (file : FileId) (ino : ℕ) → (numbered_file m file ino).group ≡ file.group
numbered_group mode.Make file ino = refl
numbered_group mode.Read file ino = refl
numbered_group mode.Write file ino = refl
numbered_group mode.Resolve file ino = refl
numbered_group mode.Mend file ino = refl

answers_open_fact : (past : List Told) (f : Frame) (ss : ℕ) (r : OpenRow) (a : OpenedAs) (t : SyncTable) → row open_key (open_key r) t.opens ≡ Some r → OpenedFact past ss f.epoch (serial_key r.inst) a → OpenFact past f.epoch t.group r → r.stage ≡ stage.Asked → TableFact past f.epoch t → TableFine past f.epoch (answers_open f r a t)
answers_open_fact past f ss r (opened.Open ino size) t found b k asked h =
    let q : OpenRow = granted_row r ino size in
    let told : List Told = granted_at_last f q r.mode in
    let g : WasGranted (onto told past) f.epoch (serial_key r.inst) (numbered_file r.mode r.file ino) = numbered_grant past f r r.mode ino size (subst (RowFact past f.epoch r) asked k.row) in
    let given : IsGivenOn (onto told past) f.epoch (serial_key r.inst) (numbered_file r.mode r.file ino) r.ss = record { granted = g; there = numbered_there past f r r.mode ino size (subst (RowFact past f.epoch r) asked k.row); at = ss; file = b.0; begun = onto_later told past _ b.1 } in
    record { view = table_put (onto told past) f.epoch t r q (record { group_is = numbered_group r.mode r.file ino ∙ k.group_is; started = onto_later told past _ k.started; row = given }) found (granted_looser r ino size (asked_open r asked)) (table_later past (onto told past) (onto_later told past) f.epoch t h); sent = (row_given (onto told past) f.epoch (serial_key r.inst) (numbered_file r.mode r.file ino) r.ss given, tt); goes = last_goes past f ss r r.mode ino size refl b }
answers_open_fact past f ss r (opened.No why) t found b k asked h =
    let q : OpenRow = record r { stage = stage.Refused why } in
    let x : Told = refuse_record f q why in
    record { view = table_put (x ∷ past) f.epoch t r q (record { group_is = k.group_is; started = inr k.started; row = tt }) found (shut_looser r q refl) (table_later past (x ∷ past) (one_later x past) f.epoch t h); sent = (tt, tt); goes = (tt, tt) }

by_stage_fact : (past : List Told) (f : Frame) (ss : ℕ) (r : OpenRow) (a : OpenedAs) (s : OpenStage) (t : SyncTable) → row open_key (open_key r) t.opens ≡ Some r → OpenedFact past ss f.epoch (serial_key r.inst) a → OpenFact past f.epoch t.group r → r.stage ≡ s → TableFact past f.epoch t → TableFine past f.epoch (by_stage f r a s t)
by_stage_fact past f ss r a stage.Asked t found b k q h = answers_open_fact past f ss r a t found b k q h
by_stage_fact past f ss r a stage.Granted t found b k q h = quiet_fine past f.epoch t h
by_stage_fact past f ss r a (stage.Refused why) t found b k q h = quiet_fine past f.epoch t h
by_stage_fact past f ss r a stage.Ended t found b k q h = quiet_fine past f.epoch t h

on_opened_of_fact : (past : List Told) (f : Frame) (ss : ℕ) (inst : Serial) (a : OpenedAs) (o : Option OpenRow) (t : SyncTable) → open_row t inst ≡ o → FoundAt (OpenFact past f.epoch t.group) open_key (serial_key inst) o → OpenedFact past ss f.epoch (serial_key inst) a → TableFact past f.epoch t → TableFine past f.epoch (on_opened_of f a o t)
on_opened_of_fact past f ss inst a None t e k b h = quiet_fine past f.epoch t h
on_opened_of_fact past f ss inst a (Some r) t e k b h = by_stage_fact past f ss r a r.stage t (subst (λ (key : ℕ). row open_key key t.opens ≡ Some r) (sym k.0) e) (subst (λ (key : ℕ). OpenedFact past ss f.epoch key a) (sym k.0) b) k.1 refl h

pub on_opened_fact : (past : List Told) (f : Frame) (ss : ℕ) (inst : Serial) (a : OpenedAs) (t : SyncTable) → OpenedFact past ss f.epoch (serial_key inst) a → TableFact past f.epoch t → TableFine past f.epoch (on_opened f inst a t)
on_opened_fact past f ss inst a t b h = on_opened_of_fact past f ss inst a (open_row t inst) t refl (row_at (OpenFact past f.epoch t.group) open_key (serial_key inst) t.opens h.opens) b h

-- ---- looks ----

serving_fact : (us : ℕ) (l : LookRequest) (r : FileRow) (v : VersionRow) (site : ℕ) (w : What) → NoFact (serving_letter us l r v site w).body
serving_fact us l r v site (what.Name component) = tt
serving_fact us l r v site what.List = tt
serving_fact us l r v site what.Stat = tt
serving_fact us l r v site (what.Whole stamp) = tt

letter_fact : (us : ℕ) (l : LookRequest) (known : Option FileRow) (s : Service) → NoFact (letter us l known s).body
letter_fact us l known (Unserved why) = tt
letter_fact us l None (Serves v site) = tt
letter_fact us l (Some r) (Serves v site) = serving_fact us l r v site l.what

new_look_fact : (past : List Told) (f : Frame) (us : ℕ) (l : LookRequest) (known : Option FileRow) (t : SyncTable) → TableFact past f.epoch t → TableFine past f.epoch (new_look f us l known t)
new_look_fact past f us l known t h =
    let s : Service = service f us l.what known in
    let a : NoFact (letter us l known s).body = letter_fact us l known s in
    let now : List Told = onto (new_look f us l known t).told past in
    let k : TableFact now f.epoch t = table_later past now (onto_later (new_look f us l known t).told past) f.epoch t h in
    record { view = record { started = k.started; opens = k.opens; apart = k.apart; looks = every_row LookFact look_key (last_look us l (letter us l known s)) t.looks a h.looks; early = h.early }; sent = (no_fact now f.me _ f.epoch (letter us l known s).body a, tt); goes = (tt, tt) }

after_last_fact : (past : List Told) (f : Frame) (us : ℕ) (l : LookRequest) (o : Option LastLook) (t : SyncTable) → Found LookFact o → TableFact past f.epoch t → TableFine past f.epoch (after_last f us l o t)
after_last_fact past f us l None t k h = new_look_fact past f us l (file_row t l.file.ino) t h
after_last_fact past f us l (Some last) t k h =
    elim (is_look_before l last) as (λ b. TableFine past f.epoch (elim b [ true ↦ quiet t | false ↦ elim (is_same_look l last) [ true ↦ sends (packet f last.to last.body ∷ []) t | false ↦ new_look f us l (file_row t l.file.ino) t ] ])) [
      | true ↦ quiet_fine past f.epoch t h
      | false ↦ elim (is_same_look l last) as (λ b. TableFine past f.epoch (elim b [ true ↦ sends (packet f last.to last.body ∷ []) t | false ↦ new_look f us l (file_row t l.file.ino) t ])) [
        | true ↦ sends_fine past f.epoch (packet f last.to last.body ∷ []) t (no_fact past f.me last.to f.epoch last.body k, tt) h
        | false ↦ new_look_fact past f us l (file_row t l.file.ino) t h
      ]
    ]

takes_look_fact : (past : List Told) (f : Frame) (us : ℕ) (l : LookRequest) (t : SyncTable) → TableFact past f.epoch t → TableFine past f.epoch (takes_look f us l t)
takes_look_fact past f us l t h = after_last_fact past f us l (row look_key (process_key us l.process) t.looks) t (row_found LookFact look_key (process_key us l.process) t.looks h.looks) h

-- ---- requests before the start ----

cond_table : (P : SyncTable → Type 0) (b : Bool) (t u : SyncTable) → P t → P u → P (cond b t u)
cond_table P true t u h g = h
cond_table P false t u h g = g

waits_fact : (past : List Told) (e : EpochId) (site process : ℕ) (b : Body) (t : SyncTable) → WaitingFact t.group b → TableFact past e t → TableFact past e (waits_early site process b t)
waits_fact past e site process b t g h =
    cond_table (TableFact past e) (list_any (is_early_of site process) t.early) t (record t { early = t.early ++ record { site = site; process = process; body = b } ∷ [] }) h
    (record { started = h.started; opens = h.opens; apart = h.apart; looks = h.looks; early = every_append (EarlyFact t.group) t.early (record { site = site; process = process; body = b } ∷ []) h.early (g, tt) })

pub on_open_fact : (past : List Told) (f : Frame) (us : ℕ) (o : OpenRequest) (t : SyncTable) → o.file.group ≡ t.group → TableFact past f.epoch t → TableFine past f.epoch (on_open f us o t)
on_open_fact past f us o t g h =
    (elim t.started as (λ b. t.started ≡ b → TableFine past f.epoch (elim b [ true ↦ takes_open f us o t | false ↦ quiet (waits_early us o.process (body.Open o.serial o.call o.process o.request o.file o.how) t) ])) [
      | true ↦ λ e. takes_open_fact past f us o t (record { group_is = g; started = h.started e }) h
      | false ↦ λ e. quiet_fine past f.epoch _ (waits_fact past f.epoch us o.process (body.Open o.serial o.call o.process o.request o.file o.how) t g h)
    ]) refl

pub on_look_fact : (past : List Told) (f : Frame) (us : ℕ) (l : LookRequest) (t : SyncTable) → TableFact past f.epoch t → TableFine past f.epoch (on_look f us l t)
on_look_fact past f us l t h =
    elim t.started as (λ b. TableFine past f.epoch (elim b [ true ↦ takes_look f us l t | false ↦ quiet (waits_early us l.process (body.Look l.call l.process l.request l.take l.file l.what) t) ])) [
      | true ↦ takes_look_fact past f us l t h
      | false ↦ quiet_fine past f.epoch _ (waits_fact past f.epoch us l.process (body.Look l.call l.process l.request l.take l.file l.what) t tt h)
    ]

takes_early_fact : (past : List Told) (f : Frame) (us : ℕ) (b : Body) (t : SyncTable) → WaitingFact t.group b → WasStarted past f.epoch t.group → TableFact past f.epoch t → TableFine past f.epoch (takes_early f us b t)
takes_early_fact past f us (body.Open serial call process request file how) t g started h = takes_open_fact past f us (record { serial = serial; call = call; process = process; request = request; file = file; how = how }) t (record { group_is = g; started = started }) h
takes_early_fact past f us (body.Look call process request take file what) t g started h = takes_look_fact past f us (record { call = call; process = process; request = request; take = take; file = file; what = what }) t h
takes_early_fact past f us _ t g started h = quiet_fine past f.epoch t h

-- the group of a table stays
decides_group : (f : Frame) (t : SyncTable) (us : ℕ) (o : OpenRequest) (d : Decision) → (decides f t us o d).view.group ≡ t.group
decides_group f t us o (Denies why) = refl
decides_group f t us o (Grants ss stamp vector parents set k) = refl

open_of_group : (f : Frame) (t : SyncTable) (us : ℕ) (o : OpenRequest) (r : Option OpenRow) → (on_open_of f t us o r).view.group ≡ t.group
open_of_group f t us o None = decides_group f t us o (decision f t us o o.how)
open_of_group f t us o (Some r) = refl

takes_open_group : (f : Frame) (us : ℕ) (o : OpenRequest) (t : SyncTable) → (takes_open f us o t).view.group ≡ t.group
takes_open_group f us o t = open_of_group f t us o (open_row t (record { us = us; serial = o.serial }))

abbrev SameGroup : SyncTable → Outcome SyncTable → Type 0
SameGroup t o = o.view.group ≡ t.group

after_last_group : (f : Frame) (us : ℕ) (l : LookRequest) (o : Option LastLook) (t : SyncTable) → SameGroup t (after_last f us l o t)
after_last_group f us l None t = refl
after_last_group f us l (Some last) t =
    elim (is_look_before l last) as (λ b. SameGroup t (elim b [ true ↦ quiet t | false ↦ elim (is_same_look l last) [ true ↦ sends (packet f last.to last.body ∷ []) t | false ↦ new_look f us l (file_row t l.file.ino) t ] ])) [
      | true ↦ refl
      | false ↦ elim (is_same_look l last) as (λ b. SameGroup t (elim b [ true ↦ sends (packet f last.to last.body ∷ []) t | false ↦ new_look f us l (file_row t l.file.ino) t ])) [ true ↦ refl | false ↦ refl ]
    ]

takes_look_group : (f : Frame) (us : ℕ) (l : LookRequest) (t : SyncTable) → (takes_look f us l t).view.group ≡ t.group
takes_look_group f us l t = after_last_group f us l (row look_key (process_key us l.process) t.looks) t

takes_early_group : (f : Frame) (us : ℕ) (b : Body) (t : SyncTable) → (takes_early f us b t).view.group ≡ t.group
takes_early_group f us (body.Open serial call process request file how) t = takes_open_group f us (record { serial = serial; call = call; process = process; request = request; file = file; how = how }) t
takes_early_group f us (body.Look call process request take file what) t = takes_look_group f us (record { call = call; process = process; request = request; take = take; file = file; what = what }) t
takes_early_group f us _ t = refl

takes_all_early_fact : (past : List Told) (f : Frame) (es : List Early) (t : SyncTable) → Every (EarlyFact t.group) es → WasStarted past f.epoch t.group → TableFact past f.epoch t → TableFine past f.epoch (takes_all_early f es t)
takes_all_early_fact past f [] t g started h = quiet_fine past f.epoch t h
takes_all_early_fact past f (e ∷ es) t g started h =
    let o : Outcome SyncTable = takes_early f e.site e.body t in
    let k : TableFine past f.epoch o = takes_early_fact past f e.site e.body t g.0 started h in
    let same : t.group ≡ o.view.group = sym (takes_early_group f e.site e.body t) in
    table_then past f.epoch o (takes_all_early f es) k
    (takes_all_early_fact (onto o.told past) f es o.view (subst (λ (n : ℕ). Every (EarlyFact n) es) same g.1) (subst (λ (n : ℕ). WasStarted (onto o.told past) f.epoch n) same (onto_later o.told past _ started)) k.view)

-- ---- notices ----

notices_of_aloof : (f : Frame) (group : ℕ) (r : FileRow) (v : VersionRow) (o : Option ℕ) → Every Factless (notices_of f group r v o)
notices_of_aloof f group r v None = tt
notices_of_aloof f group r v (Some holder) = every_map Factless (notice f group r v holder) (lagging f r (holders_of r v.stamp)) (λ s. tt)

notices_by_aloof : (f : Frame) (group : ℕ) (r : FileRow) (vs : List VersionRow) → Every Factless (notices_by f group r vs)
notices_by_aloof f group r [] = tt
notices_by_aloof f group r (v ∷ []) = notices_of_aloof f group r v (chosen_site f.me f.me (holders_of r v.stamp))
notices_by_aloof f group r (v ∷ w ∷ others) = tt

notices_aloof : (f : Frame) (t : SyncTable) → Every Factless (notices f t)
notices_aloof f t = every_flat_map Factless (file_notices f t.group) t.files (λ r. notices_by_aloof f t.group r r.kept)

row_notices_aloof : (f : Frame) (group : ℕ) (o : Option FileRow) → Every Factless (row_notices f group o)
row_notices_aloof f group None = tt
row_notices_aloof f group (Some r) = notices_by_aloof f group r r.kept

pub sync_repeats_aloof : (f : Frame) (t : SyncTable) → Every Factless (sync_repeats f t)
sync_repeats_aloof f t = every_cond Factless t.started (notices f t) [] (notices_aloof f t) tt

-- ---- reports ----

starts_fact : (past : List Told) (f : Frame) (t : SyncTable) → TableFact past f.epoch t → TableFine past f.epoch (starts f t)
starts_fact past f t h =
    let now : SyncTable = record t { started = true; early = [] } in
    let x : Told = Shown (says.Start f.epoch t.group (flat_map brought_files t.files)) in
    let k : TableFact (x ∷ past) f.epoch t = table_later past (x ∷ past) (one_later x past) f.epoch t h in
    let started : WasStarted (x ∷ past) f.epoch t.group = inl (refl, refl) in
    let g : TableFact (x ∷ past) f.epoch now = record { started = λ e. started; opens = k.opens; apart = k.apart; looks = k.looks; early = tt } in
    table_then past f.epoch (record { view = now; sent = notices f t; told = x ∷ []; written = None }) (takes_all_early f t.early)
    (record { view = g; sent = factless (x ∷ past) (notices f t) (notices_aloof f t); goes = (tt, tt) })
    (takes_all_early_fact (x ∷ past) f t.early now h.early started g)

starts_if_fact : (past : List Told) (f : Frame) (t : SyncTable) → TableFact past f.epoch t → TableFine past f.epoch (starts_if f t)
starts_if_fact past f t h = elim (have_all_reported f t) as (λ b. TableFine past f.epoch (elim b [ true ↦ starts f t | false ↦ quiet t ])) [ true ↦ starts_fact past f t h | false ↦ quiet_fine past f.epoch t h ]

all_reported_fact : (past : List Told) (e : EpochId) (from : ℕ) (xs : List ReportedCopy) (t : SyncTable) → TableFact past e t → TableFact past e (with_all_reported from xs t)
all_reported_fact past e from [] t h = h
all_reported_fact past e from (x ∷ xs) t h = all_reported_fact past e from xs (with_reported from x t) (record { started = h.started; opens = h.opens; apart = h.apart; looks = h.looks; early = h.early })

counts_report_fact : (past : List Told) (f : Frame) (from : ℕ) (xs : List ReportedCopy) (t : SyncTable) → TableFact past f.epoch t → TableFine past f.epoch (counts_report f from xs t)
counts_report_fact past f from xs t h =
    elim (has t.reported from) as (λ b. TableFine past f.epoch (elim b [ true ↦ quiet t | false ↦ starts_if f (with_report from xs t) ])) [
      | true ↦ quiet_fine past f.epoch t h
      | false ↦ starts_if_fact past f (with_report from xs t) (all_reported_fact past f.epoch from xs _ (record { started = h.started; opens = h.opens; apart = h.apart; looks = h.looks; early = h.early }))
    ]

pub on_report_fact : (past : List Told) (f : Frame) (from : ℕ) (xs : List ReportedCopy) (t : SyncTable) → TableFact past f.epoch t → TableFine past f.epoch (on_report f from xs t)
on_report_fact past f from xs t h = let k : TableFine past f.epoch (counts_report f from xs t) = counts_report_fact past f from xs t h in record { view = k.view; sent = (tt, k.sent); goes = k.goes }

-- ---- closes ----

published_fact : (past : List Told) (e : EpochId) (ss : ℕ) (r : OpenRow) (made : Option MadeVersion) (t : SyncTable) → TableFact past e t → TableFact past e (published ss r made t)
published_fact past e ss r None t h = h
published_fact past e ss r (Some v) t h = record { started = h.started; opens = h.opens; apart = h.apart; looks = h.looks; early = h.early }

published_aloof : (f : Frame) (r : OpenRow) (made : Option MadeVersion) (t : SyncTable) → Every Factless (published_notices f r made t)
published_aloof f r None t = tt
published_aloof f r (Some v) t = row_notices_aloof f t.group (file_row t r.file.ino)

releases_fact : (past : List Told) (f : Frame) (ss : ℕ) (r : OpenRow) (made : Option MadeVersion) (t : SyncTable) → row open_key (open_key r) t.opens ≡ Some r → WasShutAt past ss f.epoch (serial_key r.inst) → WasGranted past f.epoch (serial_key r.inst) r.file → OpenFact past f.epoch t.group r → TableFact past f.epoch t → TableFine past f.epoch (releases f ss r made t)
releases_fact past f ss r made t found shut granted own h =
    let q : OpenRow = record r { stage = stage.Ended } in
    let ended : SyncTable = with_open q t in
    let now : List Told = onto (releases f ss r made t).told past in
    let k : TableFact now f.epoch t = table_later past now (onto_later (releases f ss r made t).told past) f.epoch t h in
    let released : WasReleased now f.epoch (serial_key r.inst) = inl (refl, refl) in
    let a : TableFact now f.epoch ended = table_put now f.epoch t r q (record { group_is = own.group_is; started = inr own.started; row = (inr granted, released) }) found (shut_looser r q refl) k in
    record {
      view = published_fact now f.epoch ss r made ended a;
      sent = every_append (PacketFact now) (published_notices f r made (published ss r made ended)) (closed_ok f ss r.inst) (factless now _ (published_aloof f r made (published ss r made ended))) (released, tt);
      goes = (record { ss = ss; granted = granted; was_shut = shut }, tt);
    }

closes_at_fact : (past : List Told) (f : Frame) (ss : ℕ) (r : OpenRow) (made : Option MadeVersion) (s : OpenStage) (t : SyncTable) → row open_key (open_key r) t.opens ≡ Some r → RowFact past f.epoch r s → OpenFact past f.epoch t.group r → WasShutAt past ss f.epoch (serial_key r.inst) → TableFact past f.epoch t → TableFine past f.epoch (closes_at f ss r made s t)
closes_at_fact past f ss r made stage.Asked t found k own shut h = quiet_fine past f.epoch t h
closes_at_fact past f ss r made stage.Granted t found k own shut h = releases_fact past f ss r made t found shut k.granted own h
closes_at_fact past f ss r made (stage.Refused why) t found k own shut h = quiet_fine past f.epoch t h
closes_at_fact past f ss r made stage.Ended t found k own shut h = sends_fine past f.epoch (closed_ok f ss r.inst) t (k.1, tt) h

on_closed_of_fact : (past : List Told) (f : Frame) (ss : ℕ) (inst : Serial) (made : Option MadeVersion) (o : Option OpenRow) (t : SyncTable) → open_row t inst ≡ o → FoundAt (OpenFact past f.epoch t.group) open_key (serial_key inst) o → WasShutAt past ss f.epoch (serial_key inst) → TableFact past f.epoch t → TableFine past f.epoch (on_closed_of f ss made o t)
on_closed_of_fact past f ss inst made None t e k shut h = quiet_fine past f.epoch t h
on_closed_of_fact past f ss inst made (Some r) t e k shut h = closes_at_fact past f ss r made r.stage t (subst (λ (key : ℕ). row open_key key t.opens ≡ Some r) (sym k.0) e) k.1.row k.1 (subst (λ (key : ℕ). WasShutAt past ss f.epoch key) (sym k.0) shut) h

pub on_closed_fact : (past : List Told) (f : Frame) (ss : ℕ) (inst : Serial) (made : Option MadeVersion) (t : SyncTable) → WasShutAt past ss f.epoch (serial_key inst) → TableFact past f.epoch t → TableFine past f.epoch (on_closed f ss inst made t)
on_closed_fact past f ss inst made t shut h = on_closed_of_fact past f ss inst made (open_row t inst) t refl (row_at (OpenFact past f.epoch t.group) open_key (serial_key inst) t.opens h.opens) shut h

-- ---- what a member tells that it holds ----

pub have_fact : (past : List Told) (e : EpochId) (from : ℕ) (stamp : Stamp) (o : Option FileRow) (t : SyncTable) → TableFact past e t → TableFact past e (on_have_of from stamp o t)
have_fact past e from stamp None t h = h
have_fact past e from stamp (Some r) t h = record { started = h.started; opens = h.opens; apart = h.apart; looks = h.looks; early = h.early }

pub on_have_fact : (past : List Told) (f : Frame) (from : ℕ) (file : FileId) (stamp : Stamp) (t : SyncTable) → TableFact past f.epoch t → TableFine past f.epoch (on_have from file stamp t)
on_have_fact past f from file stamp t h = quiet_fine past f.epoch _ (have_fact past f.epoch from stamp (file_row t file.ino) t h)
