-- What an event leaves of a synchronization site's tables: a kept version that is known then was known before, or all members that lag
-- behind it are notified of it in that event.
use Rattle.std.proofs.Common.{Bool, List, None, Option, Some, [], ap, false, inl, inr, map, refl, subst, sym, true, ℕ, ◌++◌, ◌∙◌, ◌∷◌, ◌≡◌, ◌⊎◌}
use Rattle.calm_laws.proofs.Lists.{row_key}
use Rattle.calm_laws.proofs.Convergence.Noticing.{among_flat}
use Rattle.calm_laws.proofs.Convergence.TableRows.{SameFile, SameFiles, StaysOr, closed_of, first_there, have_keeps, look_same, open_same, opened_same, rising_found, rows_same, takes_look_same, takes_open_same}
use Rattle.locus_ids.specs.Sites.{has, with_site}
use Rattle.locus_ids.specs.declared.ids.Serial.{Serial}
use Rattle.locus_ids.specs.declared.ids.Stamp.{Stamp}
use Rattle.row_laws.proofs.Orderly.Formed.{among_left, among_right}
use Rattle.store_laws.proofs.OneTree.Rising.{Rising}
use Rattle.role_steps.proofs.Rows.{row_other, row_same}
use Rattle.role_steps.proofs.of_plain_facts.Numbers.{apart_test}
use Rattle.role_steps.proofs.of_plain_facts.Options.{some_same}
use Rattle.role_steps.proofs.of_plain_facts.Tests.{true_false}
use Rattle.role_steps.specs.Adoption.{adopts_first, adopts_pull, fits_own, is_ready, notes_own_at, table_group, with_adopted, without_pull}
use Rattle.role_steps.specs.Looks.{LookRequest, look_key}
use Rattle.role_steps.specs.Notices.{file_notices}
use Rattle.role_steps.specs.Opens.{OpenRequest, on_opened, open_key, open_row}
use Rattle.role_steps.specs.Reports.{have_all_reported, on_closed, on_have, on_have_of, on_look, on_open, on_report, starts, starts_if, takes_all_early, takes_early, with_all_reported, with_report, with_reported}
use Rattle.role_steps.specs.Storage.{copy_of}
use Rattle.role_steps.specs.Tables.{first_that, row, with_row}
use Rattle.role_steps.specs.Versions.{file_row, row_ino}
use Rattle.role_steps.specs.Views.{Frame, Outcome, SiteView, joined_to, packet, process_key, quiet, sends, serial_key}
use Rattle.role_steps.specs.declared.pulls.Pull.{Pull}
use Rattle.role_steps.specs.declared.synchronizing.Early.{Early}
use Rattle.role_steps.specs.declared.synchronizing.FileRow.{FileRow}
use Rattle.role_steps.specs.declared.synchronizing.OpenRow.{OpenRow}
use Rattle.role_steps.specs.declared.synchronizing.OpenStage.TheVariants as stage
use Rattle.role_steps.specs.declared.synchronizing.SyncTable.{SyncTable}
use Rattle.the_run.proofs.Boots.{at_each}
use Rattle.the_run.specs.Kept.{Among}
use Rattle.the_run.specs.Steps.{at_table_of, is_opened_in, takes_inside}
use Rattle.wire_messages.specs.declared.body.Body.{Body}
use Rattle.wire_messages.specs.declared.body.Body.TheVariants as body
use Rattle.wire_messages.specs.declared.body.ReportedCopy.{ReportedCopy}
use Rattle.wire_messages.specs.declared.packet.Packet.{Packet}

-- ---- one table ----

abbrev AllSent : Frame → ℕ → FileRow → List Packet → Type 0
AllSent f group r sent = (z : Packet) → Among z (file_notices f group r) → Among z sent

-- why what is known of a file may change: the group hasn't started, or an instance of the file is granted
abbrev pub MayChange : SyncTable → ℕ → Type 0
MayChange t ino = (t.started ≡ false) ⊎ ((q : OpenRow) × Among q t.opens × (q.stage ≡ stage.Granted) × (q.file.ino ≡ ino))

-- once the group has started, what is known of a file was known before, the group having started; or it may change, and its notices are
-- sent
pub record TellsNew (f : Frame) (t : SyncTable) (o : Outcome SyncTable) : Type 0 where
  pub group : o.view.group ≡ t.group
  pub files : (ino : ℕ) (r : FileRow) → file_row o.view ino ≡ Some r → o.view.started ≡ true → ((t.started ≡ true) × SameFile t ino r) ⊎ (AllSent f t.group r o.sent × MayChange t ino)

file_itself : (t : SyncTable) (ino : ℕ) (r : FileRow) → file_row t ino ≡ Some r → SameFile t ino r
file_itself t ino r e = record { file_known = r; found = e; kept = refl; set = refl }

same_tells : (f : Frame) (t : SyncTable) (o : Outcome SyncTable) → SameFiles t o → TellsNew f t o
same_tells f t o k = record { group = k.group; files = λ ino r e s. inl (sym k.started ∙ s, rows_same t o.view k.files ino r e) }

-- ---- Closed and Have ----

closed_tells : (f : Frame) (t : SyncTable) (inst : Serial) (o : Outcome SyncTable) → StaysOr f t (open_row t inst) o → TellsNew f t o
closed_tells f t inst o (inl k) = same_tells f t o k
closed_tells f t inst o (inr p) = record { group = p.group; files = λ ino r e s. over (sym p.started ∙ s) ino r e (p.files ino r e) }
  where
    there : Among p.row t.opens
    there = (row_key open_key (serial_key inst) t.opens p.row p.is_row).0

    over : t.started ≡ true → (ino : ℕ) (r : FileRow) → file_row o.view ino ≡ Some r → (r ≡ p.new) ⊎ SameFile t ino r → ((t.started ≡ true) × SameFile t ino r) ⊎ (AllSent f t.group r o.sent × MayChange t ino)
    over s ino r e (inl new) = inr ((λ z a. p.sent z (subst (λ (q : FileRow). Among z (file_notices f t.group q)) new a)), inr (p.row, there, p.granted, sym p.ino ∙ (ap (λ (q : FileRow). q.ino) (sym new) ∙ (row_key row_ino ino o.view.files r e).1)))
    over s ino r e (inr k) = inl (s, k)

have_started : (from : ℕ) (stamp : Stamp) (o : Option FileRow) (t : SyncTable) → (on_have_of from stamp o t).started ≡ t.started
have_started from stamp None t = refl
have_started from stamp (Some r) t = refl

have_group : (from : ℕ) (stamp : Stamp) (o : Option FileRow) (t : SyncTable) → (on_have_of from stamp o t).group ≡ t.group
have_group from stamp None t = refl
have_group from stamp (Some r) t = refl

have_tells : (f : Frame) (from : ℕ) (stamp : Stamp) (ino : ℕ) (t : SyncTable) → TellsNew f t (quiet (on_have_of from stamp (file_row t ino) t))
have_tells f from stamp ino t = record {
  group = have_group from stamp (file_row t ino) t;
  files = λ i r e s. inl (sym (have_started from stamp (file_row t ino) t) ∙ s, have_keeps from stamp ino t i r e);
}

-- ---- Report ----

-- the reports of copies leave the rest of the table
record SameStart (t n : SyncTable) : Type 0 where
  group : n.group ≡ t.group
  started : n.started ≡ t.started

reported_start : (from : ℕ) (xs : List ReportedCopy) (t : SyncTable) → SameStart t (with_all_reported from xs t)
reported_start from [] t = record { group = refl; started = refl }
reported_start from (x ∷ xs) t = (let k : SameStart (with_reported from x t) (with_all_reported from xs (with_reported from x t)) = reported_start from xs (with_reported from x t) in record { group = k.group; started = k.started })

early_same : (f : Frame) (us : ℕ) (b : Body) (t : SyncTable) → SameFiles t (takes_early f us b t)
early_same f us (body.Open serial call process request file how) t = takes_open_same f us (record { serial = serial; call = call; process = process; request = request; file = file; how = how }) (open_row t (record { us = us; serial = serial })) t
early_same f us (body.Look call process request take file what) t = takes_look_same f us (record { call = call; process = process; request = request; take = take; file = file; what = what }) (row look_key (process_key us process) t.looks) t
early_same f us _ t = record { files = refl; group = refl; started = refl }

all_early_same : (f : Frame) (es : List Early) (t : SyncTable) → SameFiles t (takes_all_early f es t)
all_early_same f [] t = record { files = refl; group = refl; started = refl }
all_early_same f (e ∷ es) t =
    let a : SameFiles t (takes_early f e.site e.body t) = early_same f e.site e.body t in
    let b : SameFiles (takes_early f e.site e.body t).view (takes_all_early f es (takes_early f e.site e.body t).view) = all_early_same f es (takes_early f e.site e.body t).view in
    record { files = b.files ∙ a.files; group = b.group ∙ a.group; started = b.started ∙ a.started }

-- a group that starts notifies whoever lags
starts_tells : (f : Frame) (t n : SyncTable) (ok : List Packet) → n.group ≡ t.group → (ino : ℕ) (r : FileRow) → file_row (starts f n).view ino ≡ Some r → AllSent f t.group r (ok ++ (starts f n).sent)
starts_tells f t n ok same ino r e z a = among_right z ok (starts f n).sent (among_left z _ _ (among_flat (file_notices f n.group) r z n.files (row_key row_ino ino n.files r there).0 (subst (λ (g : ℕ). Among z (file_notices f g r)) (sym same) a)))
  where
    there : row row_ino ino n.files ≡ Some r
    there = ap (λ (rs : List FileRow). row row_ino ino rs) (sym (all_early_same f n.early (record n { started = true; early = [] })).files) ∙ e

report_tells : (f : Frame) (from : ℕ) (xs : List ReportedCopy) (t : SyncTable) → (t.started ≡ true → has t.reported from ≡ true) → TellsNew f t (on_report f from xs t)
report_tells f from xs t counted = by_test (has t.reported from) refl
  where
    n : SyncTable
    n = with_report from xs t

    k : SameStart t n
    k = (let q : SameStart (record t { reported = with_site t.reported from }) n = reported_start from xs (record t { reported = with_site t.reported from }) in record { group = q.group; started = q.started })

    ok : List Packet
    ok = packet f from (body.ReportOk t.group) ∷ []

    unstarted : has t.reported from ≡ false → (b : Bool) → t.started ≡ b → b ≡ false
    unstarted lacks true e = absurd (true_false (sym (counted e) ∙ lacks))
    unstarted lacks false e = refl

    by_all : has t.reported from ≡ false → (b : Bool) → TellsNew f t (joined_to (sends ok t) (elim b [ true ↦ starts f n | false ↦ quiet n ]))
    by_all lacks true = record { group = (all_early_same f n.early (record n { started = true; early = [] })).group ∙ k.group; files = λ ino r e s. inr (starts_tells f t n ok k.group ino r e, inl (unstarted lacks t.started refl)) }
    by_all lacks false = record { group = k.group; files = λ ino r e s. absurd (true_false (sym (counted (sym k.started ∙ s)) ∙ lacks)) }

    by_test : (b : Bool) → has t.reported from ≡ b → TellsNew f t (joined_to (sends ok t) (elim b [ true ↦ quiet t | false ↦ starts_if f n ]))
    by_test true e = record { group = refl; files = λ ino r i s. inl (s, file_itself t ino r i) }
    by_test false e = by_all e (have_all_reported f n)

-- ---- the tables of a site ----

-- the file was known so, its group having started
pub record WasSo (old : List SyncTable) (group ino : ℕ) (r : FileRow) : Type 0 where
  pub table : SyncTable
  pub found : row table_group group old ≡ Some table
  pub started : table.started ≡ true
  pub file_is : SameFile table ino r

-- it may have changed
pub record Changed (old : List SyncTable) (group ino : ℕ) : Type 0 where
  pub table : SyncTable
  pub found : row table_group group old ≡ Some table
  pub why : MayChange table ino

-- so it was with each file that is known now; or it has changed, and its notices are sent
abbrev pub RowsTell : Frame → List SyncTable → List SyncTable → List Packet → Type 0
RowsTell f old new sent = (group : ℕ) (n : SyncTable) → row table_group group new ≡ Some n → n.started ≡ true → (ino : ℕ) (r : FileRow) → file_row n ino ≡ Some r → WasSo old group ino r ⊎ (AllSent f group r sent × Changed old group ino)

pub rows_itself : (f : Frame) (ts : List SyncTable) (sent : List Packet) → RowsTell f ts ts sent
rows_itself f ts sent group n found s ino r e = inl (record { table = n; found = found; started = s; file_is = file_itself n ino r e })

put_tells : (f : Frame) (t : SyncTable) (o : Outcome SyncTable) (ts : List SyncTable) → row table_group t.group ts ≡ Some t → TellsNew f t o → RowsTell f ts (with_row table_group o.view ts) o.sent
put_tells f t o ts found k group n there s ino r e = at_each o.view.group group (WasSo ts group ino r ⊎ (AllSent f group r o.sent × Changed ts group ino)) mine theirs
  where
    theirs : (o.view.group ≡ group → ⊥) → WasSo ts group ino r ⊎ (AllSent f group r o.sent × Changed ts group ino)
    theirs ne = inl (record { table = n; found = sym (row_other table_group o.view group ts (apart_test o.view.group group ne)) ∙ there; started = s; file_is = file_itself n ino r e })

    mine : o.view.group ≡ group → WasSo ts group ino r ⊎ (AllSent f group r o.sent × Changed ts group ino)
    mine eq = over (k.files ino r (ap (λ (y : SyncTable). file_row y ino) is ∙ e) (ap (λ (y : SyncTable). y.started) is ∙ s))
      where
        is : o.view ≡ n
        is = some_same o.view n (sym (row_same table_group o.view ts) ∙ (ap (λ (g : ℕ). row table_group g (with_row table_group o.view ts)) eq ∙ there))

        is_group : t.group ≡ group
        is_group = sym k.group ∙ eq

        here : row table_group group ts ≡ Some t
        here = subst (λ (g : ℕ). row table_group g ts ≡ Some t) is_group found

        over : ((t.started ≡ true) × SameFile t ino r) ⊎ (AllSent f t.group r o.sent × MayChange t ino) → WasSo ts group ino r ⊎ (AllSent f group r o.sent × Changed ts group ino)
        over (inl h) = inl (record { table = t; found = here; started = h.0; file_is = h.1 })
        over (inr h) = inr (subst (λ (g : ℕ). AllSent f g r o.sent) is_group h.0, record { table = t; found = here; why = h.1 })

-- ---- packets of the epoch ----

in_group : (g : ℕ) (v : SiteView) (t : SyncTable) → row table_group g v.tables ≡ Some t → row table_group t.group v.tables ≡ Some t
in_group g v t found = subst (λ (i : ℕ). row table_group i v.tables ≡ Some t) (sym (row_key table_group g v.tables t found).1) found

at_table_tells : (f : Frame) (g : SyncTable → Outcome SyncTable) (o : Option SyncTable) (v : SiteView) → ((t : SyncTable) → o ≡ Some t → row table_group t.group v.tables ≡ Some t) → ((t : SyncTable) → o ≡ Some t → TellsNew f t (g t)) → RowsTell f v.tables (at_table_of g o v).view.tables (at_table_of g o v).sent
at_table_tells f g None v found k = rows_itself f v.tables []
at_table_tells f g (Some t) v found k = put_tells f t (g t) v.tables (found t refl) (k t refl)

-- where a Report comes to a group that has started, its sender has reported before
abbrev pub HasCounted : ℕ → Body → SiteView → Type 0
HasCounted from (body.Report group copies) v = (t : SyncTable) → row table_group group v.tables ≡ Some t → t.started ≡ true → has t.reported from ≡ true
HasCounted from _ v = Unit {0}

pub inside_tells : (f : Frame) (from : ℕ) (b : Body) (v : SiteView) → Rising (map table_group v.tables) → HasCounted from b v → RowsTell f v.tables (takes_inside f from b v).view.tables (takes_inside f from b v).sent
inside_tells f from (body.Report group copies) v rise counted = at_table_tells f (on_report f from copies) (row table_group group v.tables) v (in_group group v) (λ t found. report_tells f from copies t (counted t found))
inside_tells f from (body.Open serial call process request file how) v rise counted =
    let o : OpenRequest = record { serial = serial; call = call; process = process; request = request; file = file; how = how } in
    at_table_tells f (on_open f from o) (row table_group file.group v.tables) v (in_group file.group v) (λ t found. same_tells f t (on_open f from o t) (open_same f from o t))
inside_tells f from (body.Look call process request take file what) v rise counted =
    let l : LookRequest = record { call = call; process = process; request = request; take = take; file = file; what = what } in
    at_table_tells f (on_look f from l) (row table_group file.group v.tables) v (in_group file.group v) (λ t found. same_tells f t (on_look f from l t) (look_same f from l t))
inside_tells f from (body.Opened inst answer) v rise counted = at_table_tells f (on_opened f inst answer) (first_that (is_opened_in inst) v.tables) v (λ t found. rising_found v.tables t rise (first_there (is_opened_in inst) v.tables t found)) (λ t found. same_tells f t (on_opened f inst answer t) (opened_same f answer (open_row t inst) t))
inside_tells f from (body.Closed inst made) v rise counted = at_table_tells f (on_closed f from inst made) (first_that (is_opened_in inst) v.tables) v (λ t found. rising_found v.tables t rise (first_there (is_opened_in inst) v.tables t found)) (λ t found. closed_tells f t inst (on_closed f from inst made t) (closed_of f from made (open_row t inst) t))
inside_tells f from (body.Have file stamp) v rise counted = at_table_tells f (on_have from file stamp) (row table_group file.group v.tables) v (in_group file.group v) (λ t found. have_tells f from stamp file.ino t)
inside_tells f from b v rise counted = rows_itself f v.tables (takes_inside f from b v).sent

-- ---- adoptions ----

-- each file that is known now was known so
abbrev pub RowsStay : List SyncTable → List SyncTable → Type 0
RowsStay old new = (group : ℕ) (n : SyncTable) → row table_group group new ≡ Some n → n.started ≡ true → (ino : ℕ) (r : FileRow) → file_row n ino ≡ Some r → WasSo old group ino r

rows_stay : (ts : List SyncTable) → RowsStay ts ts
rows_stay ts group n found s ino r e = record { table = n; found = found; started = s; file_is = file_itself n ino r e }

have_stays : (from : ℕ) (stamp : Stamp) (ino : ℕ) (t : SyncTable) (ts : List SyncTable) → row table_group t.group ts ≡ Some t → RowsStay ts (with_row table_group (on_have_of from stamp (file_row t ino) t) ts)
have_stays from stamp ino t ts found group n there s i r e = at_each m.group group (WasSo ts group i r) mine theirs
  where
    m : SyncTable
    m = on_have_of from stamp (file_row t ino) t

    same : m.group ≡ t.group
    same = have_group from stamp (file_row t ino) t

    theirs : (m.group ≡ group → ⊥) → WasSo ts group i r
    theirs ne = record { table = n; found = sym (row_other table_group m group ts (apart_test m.group group ne)) ∙ there; started = s; file_is = file_itself n i r e }

    mine : m.group ≡ group → WasSo ts group i r
    mine eq =
        let is : m ≡ n = some_same m n (sym (row_same table_group m ts) ∙ (ap (λ (g : ℕ). row table_group g (with_row table_group m ts)) eq ∙ there)) in
        record {
          table = t;
          found = subst (λ (g : ℕ). row table_group g ts ≡ Some t) (sym same ∙ eq) found;
          started = sym (have_started from stamp (file_row t ino) t) ∙ (ap (λ (y : SyncTable). y.started) is ∙ s);
          file_is = have_keeps from stamp ino t i r (ap (λ (y : SyncTable). file_row y i) is ∙ e);
        }

notes_stay : (f : Frame) (p : Pull) (o : Option SyncTable) (v : SiteView) → row table_group p.file.group v.tables ≡ o → RowsStay v.tables (notes_own_at f p o v).tables
notes_stay f p None v e = rows_stay v.tables
notes_stay f p (Some t) v e = have_stays f.me p.stamp p.file.ino t v.tables (in_group p.file.group v t e)

pub tries_stay : (f : Frame) (ps : List Pull) (v : SiteView) → RowsStay v.tables (adopts_first f ps v).view.tables
tries_stay f [] v = rows_stay v.tables
tries_stay f (p ∷ ps) v = by_ready (is_ready v p) (tries_stay f ps v) (tries_stay f ps (without_pull p v))
  where
    Stays : Outcome SiteView → Type 0
    Stays o = RowsStay v.tables o.view.tables

    by_above : (b : Bool) → Stays (adopts_first f ps (without_pull p v)) → Stays (elim b [ true ↦ adopts_pull f p v | false ↦ adopts_first f ps (without_pull p v) ])
    by_above true k = (let mid : SiteView = with_adopted p v in notes_stay f p (row table_group p.file.group mid.tables) mid refl)
    by_above false k = k

    by_ready : (b : Bool) → Stays (adopts_first f ps v) → Stays (adopts_first f ps (without_pull p v)) → Stays (elim b [ true ↦ elim (fits_own p (copy_of v.store p.file)) [ true ↦ adopts_pull f p v | false ↦ adopts_first f ps (without_pull p v) ] | false ↦ adopts_first f ps v ])
    by_ready true h k = by_above (fits_own p (copy_of v.store p.file)) k
    by_ready false h k = h

pub tries_tell : (f : Frame) (ps : List Pull) (v : SiteView) → RowsTell f v.tables (adopts_first f ps v).view.tables []
tries_tell f ps v group n found s ino r e = inl (tries_stay f ps v group n found s ino r e)
