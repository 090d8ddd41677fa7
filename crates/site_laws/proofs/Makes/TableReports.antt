-- Reports, closes and looks at a synchronization site: what its table knows of files that are being made.
use Rattle.std.proofs.Common.{◌≡◌, ℕ, ◌==◌, nat_lt, ◌&&◌, Bool, true, false, cond, List, [], ◌∷◌, ◌++◌, Option, Some, None, refl, sym, ◌∙◌, subst, inl, inr}
use Rattle.std.specs.List.{list_any, flat_map}
use Rattle.locus_ids.specs.Sites.{has}
use Rattle.locus_ids.specs.declared.ids.EpochId.{EpochId}
use Rattle.locus_ids.specs.declared.ids.FileId.{FileId}
use Rattle.locus_ids.specs.declared.sites.Members.{Members}
use Rattle.locus_ids.specs.declared.config.Config.{Config}
use Rattle.trace_book.specs.declared.record.Record.TheVariants as says
use Rattle.wire_messages.specs.declared.body.Body.{Body}
use Rattle.wire_messages.specs.declared.body.Body.TheVariants as body
use Rattle.wire_messages.specs.declared.body.ReportedCopy.{ReportedCopy}
use Rattle.role_steps.specs.Own.{Every}
use Rattle.role_steps.specs.Tables.{row}
use Rattle.role_steps.specs.Views.{Frame, Told, Shown, Outcome, quiet, sends, packet, process_key}
use Rattle.role_steps.specs.Versions.{file_row}
use Rattle.role_steps.specs.Notices.{notices}
use Rattle.role_steps.specs.Opens.{OpenRequest, takes_open}
use Rattle.role_steps.specs.Looks.{LookRequest, is_look_before, is_same_look, new_look, after_last, takes_look, look_key}
use Rattle.role_steps.specs.Reports.{brought_files, waits_early, is_early_of, on_open, on_look, takes_early, takes_all_early, starts, starts_if, have_all_reported, counts_report, with_reported, with_all_reported, with_report, on_report}
use Rattle.role_steps.specs.declared.synchronizing.SyncTable.{SyncTable}
use Rattle.role_steps.specs.declared.synchronizing.FileRow.{FileRow}
use Rattle.role_steps.specs.declared.synchronizing.OpenRow.{OpenRow}
use Rattle.role_steps.specs.declared.synchronizing.OpenStage.{OpenStage}
use Rattle.role_steps.specs.declared.synchronizing.OpenStage.TheVariants as stage
use Rattle.role_steps.specs.declared.synchronizing.LastLook.{LastLook}
use Rattle.role_steps.specs.declared.synchronizing.Early.{Early}
use Rattle.role_steps.proofs.Sending.{every_append}
use Rattle.site_laws.specs.Vectors.Facts.{onto, WaitingFact, EarlyFact}
use Rattle.site_laws.proofs.Vectors.SyncFacts.{FoundAt, row_at}
use Rattle.std.specs.List.{list_all}
use Rattle.role_steps.proofs.of_plain_facts.Numbers.{equal}
use Rattle.locus_ids.specs.Sites.{with_site}
use Rattle.role_steps.specs.Views.{members_of, pack_sites}
use Rattle.role_steps.specs.Tables.{with_row}
use Rattle.role_steps.specs.Versions.{row_ino, kept, is_below_some, not_below, with_kept, version_key, with_version, with_holder, known_or, unknown_file}
use Rattle.role_steps.specs.Reports.{version_reported}
use Rattle.role_steps.specs.declared.synchronizing.VersionRow.{VersionRow}
use Rattle.role_steps.proofs.Rows.{row_other, row_same}
use Rattle.the_run.specs.Kept.{Among}
use Rattle.the_run.proofs.Boots.{every_weaker}
use Rattle.the_run.proofs.InsideSync.{every_row}
use Rattle.site_laws.specs.Vectors.Written.{WasTold}
use Rattle.site_laws.specs.Vectors.Facts.{file_in, ReportedFact}
use Rattle.site_laws.specs.Packs.Making.{NotEmpty}
use Rattle.site_laws.specs.Makes.Tables.{IsKnown, ReleasedOn, RowMade, IsKept, StageMade, OpenMade, HasEnded, Ordered}
use Rattle.site_laws.proofs.Makes.Telling.{Here}
use Rattle.site_laws.proofs.Makes.TableTold.{written_known, reserved_started, row_later, open_later, table_one}
use Rattle.site_laws.proofs.Makes.TableOpens.{Fine, Made, sends_keeps, then_keeps, takes_open_keeps}

-- ---- looks ----

new_look_keeps : (c : Config) (past : List Told) (me : ℕ) (members : Members) (f : Frame) (us : ℕ) (l : LookRequest) (known : Option FileRow) (t : SyncTable) → Made c past me members f t → Fine c past me members f t (new_look f us l known t)
new_look_keeps c past me members f us l known t h =
    let told : List Told = (new_look f us l known t).told in
    let k : Made c (onto told past) me members f t = table_one c past _ me f.epoch members t (record { start = λ q. q; release = λ key file same q. q }) tt h in
    record { group = refl; table = record { synced = k.synced; unstarted = k.unstarted; all = k.all; files = k.files; opens = k.opens; ended = k.ended; early = k.early }; here = (tt, tt); plain = (tt, tt) }

after_last_keeps : (c : Config) (past : List Told) (me : ℕ) (members : Members) (f : Frame) (us : ℕ) (l : LookRequest) (o : Option LastLook) (t : SyncTable) → Made c past me members f t → Fine c past me members f t (after_last f us l o t)
after_last_keeps c past me members f us l None t h = new_look_keeps c past me members f us l (file_row t l.file.ino) t h
after_last_keeps c past me members f us l (Some last) t h =
    elim (is_look_before l last) as (λ b. Fine c past me members f t (elim b [ true ↦ quiet t | false ↦ elim (is_same_look l last) [ true ↦ sends (packet f last.to last.body ∷ []) t | false ↦ new_look f us l (file_row t l.file.ino) t ] ])) [
      | true ↦ sends_keeps c past me members f t [] h
      | false ↦ elim (is_same_look l last) as (λ b. Fine c past me members f t (elim b [ true ↦ sends (packet f last.to last.body ∷ []) t | false ↦ new_look f us l (file_row t l.file.ino) t ])) [
        | true ↦ sends_keeps c past me members f t (packet f last.to last.body ∷ []) h
        | false ↦ new_look_keeps c past me members f us l (file_row t l.file.ino) t h
      ]
    ]

takes_look_keeps : (c : Config) (past : List Told) (me : ℕ) (members : Members) (f : Frame) (us : ℕ) (l : LookRequest) (t : SyncTable) → Made c past me members f t → Fine c past me members f t (takes_look f us l t)
takes_look_keeps c past me members f us l t h = after_last_keeps c past me members f us l (row look_key (process_key us l.process) t.looks) t h

-- ---- requests before the start ----

waits_keeps : (c : Config) (past : List Told) (me : ℕ) (members : Members) (f : Frame) (site process : ℕ) (b : Body) (t : SyncTable) → WaitingFact t.group b → Made c past me members f t → Fine c past me members f t (quiet (waits_early site process b t))
waits_keeps c past me members f site process b t g h = by_test (list_any (is_early_of site process) t.early)
  where
    by_test : (x : Bool) → Fine c past me members f t (quiet (cond x t (record t { early = t.early ++ record { site = site; process = process; body = b } ∷ [] })))
    by_test true = sends_keeps c past me members f t [] h
    by_test false = record { group = refl; table = record { synced = h.synced; unstarted = h.unstarted; all = h.all; files = h.files; opens = h.opens; ended = h.ended; early = every_append (EarlyFact t.group) t.early (record { site = site; process = process; body = b } ∷ []) h.early (g, tt) }; here = tt; plain = tt }

pub on_open_keeps : (c : Config) (past : List Told) (me : ℕ) (members : Members) (f : Frame) (us : ℕ) (o : OpenRequest) (t : SyncTable) → o.file.group ≡ t.group → Made c past me members f t → Fine c past me members f t (on_open f us o t)
on_open_keeps c past me members f us o t g h =
    elim t.started as (λ b. Fine c past me members f t (elim b [ true ↦ takes_open f us o t | false ↦ quiet (waits_early us o.process (body.Open o.serial o.call o.process o.request o.file o.how) t) ])) [
      | true ↦ takes_open_keeps c past me members f us o t g h
      | false ↦ waits_keeps c past me members f us o.process (body.Open o.serial o.call o.process o.request o.file o.how) t g h
    ]

pub on_look_keeps : (c : Config) (past : List Told) (me : ℕ) (members : Members) (f : Frame) (us : ℕ) (l : LookRequest) (t : SyncTable) → Made c past me members f t → Fine c past me members f t (on_look f us l t)
on_look_keeps c past me members f us l t h =
    elim t.started as (λ b. Fine c past me members f t (elim b [ true ↦ takes_look f us l t | false ↦ quiet (waits_early us l.process (body.Look l.call l.process l.request l.take l.file l.what) t) ])) [
      | true ↦ takes_look_keeps c past me members f us l t h
      | false ↦ waits_keeps c past me members f us l.process (body.Look l.call l.process l.request l.take l.file l.what) t tt h
    ]

takes_early_keeps : (c : Config) (past : List Told) (me : ℕ) (members : Members) (f : Frame) (us : ℕ) (b : Body) (t : SyncTable) → WaitingFact t.group b → Made c past me members f t → Fine c past me members f t (takes_early f us b t)
takes_early_keeps c past me members f us (body.Open serial call process request file how) t g h = takes_open_keeps c past me members f us (record { serial = serial; call = call; process = process; request = request; file = file; how = how }) t g h
takes_early_keeps c past me members f us (body.Look call process request take file what) t g h = takes_look_keeps c past me members f us (record { call = call; process = process; request = request; take = take; file = file; what = what }) t h
takes_early_keeps c past me members f us _ t g h = sends_keeps c past me members f t [] h

takes_all_early_keeps : (c : Config) (past : List Told) (me : ℕ) (members : Members) (f : Frame) (es : List Early) (t : SyncTable) → Every (EarlyFact t.group) es → Made c past me members f t → Fine c past me members f t (takes_all_early f es t)
takes_all_early_keeps c past me members f [] t g h = sends_keeps c past me members f t [] h
takes_all_early_keeps c past me members f (x ∷ xs) t g h =
    let o : Outcome SyncTable = takes_early f x.site x.body t in
    let k : Fine c past me members f t o = takes_early_keeps c past me members f x.site x.body t g.0 h in
    then_keeps c past me members f t o (takes_all_early f xs) k (takes_all_early_keeps c (onto o.told past) me members f xs o.view (subst (λ (n : ℕ). Every (EarlyFact n) xs) (sym k.group) g.1) k.table)

-- ---- the start ----

starts_keeps : (c : Config) (past : List Told) (me : ℕ) (f : Frame) (t : SyncTable) → f.config ≡ c → have_all_reported f t ≡ true → Made c past me f.members f t → Fine c past me f.members f t (starts f t)
starts_keeps c past me f t same all h =
    let now : SyncTable = record t { started = true; early = [] } in
    let x : Told = Shown (says.Start f.epoch t.group (flat_map brought_files t.files)) in
    let first : Outcome SyncTable = record { view = now; sent = notices f t; told = x ∷ []; written = None } in
    let k : Made c (x ∷ past) me f.members f now = record {
      synced = h.synced;
      unstarted = λ n w. false_true (sym n);
      all = λ n. subst (λ (y : Config). list_all (has t.reported) (members_of f.members (pack_sites y t.group)) ≡ true) same all;
      files = every_weaker (RowMade past f.epoch t.group) (RowMade (x ∷ past) f.epoch t.group) t.files (λ r. row_later past x f.epoch t.group r tt) h.files;
      opens = every_weaker (OpenMade past f.epoch t.group t.files) (OpenMade (x ∷ past) f.epoch t.group t.files) t.opens (open_later past x f.epoch t.group t.files) h.opens;
      ended = λ key file g w. ended key file g w;
      early = tt;
    } in
    then_keeps c past me f.members f t first (takes_all_early f t.early) (record { group = refl; table = k; here = ((refl, refl), tt); plain = (tt, tt) }) (takes_all_early_keeps c (x ∷ past) me f.members f t.early now h.early k)
  where
    false_true : false ≡ true → ⊥
    false_true e = cc

    ended : (key : ℕ) (file : FileId) → file.group ≡ t.group → WasTold (ReleasedOn f.epoch key file) (Shown (says.Start f.epoch t.group (flat_map brought_files t.files)) ∷ past) → HasEnded t.opens key
    ended key file g (inl w) = absurd w
    ended key file g (inr w) = h.ended key file g w

starts_if_keeps : (c : Config) (past : List Told) (me : ℕ) (f : Frame) (t : SyncTable) → f.config ≡ c → Made c past me f.members f t → Fine c past me f.members f t (starts_if f t)
starts_if_keeps c past me f t same h =
    (elim (have_all_reported f t) as (λ b. have_all_reported f t ≡ b → Fine c past me f.members f t (elim b [ true ↦ starts f t | false ↦ quiet t ])) [
      | true ↦ λ e. starts_keeps c past me f t same e h
      | false ↦ λ e. sends_keeps c past me f.members f t [] h
    ]) refl

-- ---- rows of files ----

row_some : {A : Type 0} (key : A → ℕ) (x : A) (xs : List A) → NotEmpty (with_row key x xs)
row_some key x [] = tt
row_some key x (y ∷ ys) = put (nat_lt (key y) (key x)) (key y == key x)
  where
    put : (a b : Bool) → NotEmpty (elim a [ true ↦ y ∷ with_row key x ys | false ↦ elim b [ true ↦ x ∷ ys | false ↦ x ∷ y ∷ ys ] ])
    put true b = tt
    put false true = tt
    put false false = tt

-- once a version is known some version is kept
below_some : (v : VersionRow) (vs : List VersionRow) → is_below_some v vs ≡ true → NotEmpty vs
below_some v [] e = absurd (cc)
below_some v (w ∷ ws) e = tt

pub kept_some : (v : VersionRow) (vs : List VersionRow) → NotEmpty (with_kept v vs)
kept_some v vs =
    (elim (is_below_some v vs) as (λ b. is_below_some v vs ≡ b → NotEmpty (elim b [ true ↦ vs | false ↦ with_row version_key v (not_below v vs) ])) [
      | true ↦ λ e. below_some v vs e
      | false ↦ λ e. row_some version_key v (not_below v vs)
    ]) refl

-- what was kept is kept where a row takes the place of another that kept none more
kept_put : (files : List FileRow) (r : FileRow) (ino : ℕ) → (row_ino r ≡ ino → IsKept files ino → NotEmpty r.kept) → IsKept files ino → IsKept (with_row row_ino r files) ino
kept_put files r ino still h = by_key (row_ino r == ino) refl
  where
    by_key : (b : Bool) → (row_ino r == ino) ≡ b → IsKept (with_row row_ino r files) ino
    by_key true e = let k : row_ino r ≡ ino = equal (row_ino r) ino e in subst (λ (n : ℕ). NotEmpty (kept (row row_ino n (with_row row_ino r files)))) k (subst (λ (o : Option FileRow). NotEmpty (kept o)) (sym (row_same row_ino r files)) (still k h))
    by_key false e = subst (λ (o : Option FileRow). NotEmpty (kept o)) (sym (row_other row_ino r ino files e)) h

stage_put : (past : List Told) (e : EpochId) (files : List FileRow) (r : FileRow) (q : OpenRow) (s : OpenStage) → (row_ino r ≡ q.file.ino → IsKept files q.file.ino → NotEmpty r.kept) → StageMade past e files q s → StageMade past e (with_row row_ino r files) q s
stage_put past e files r q stage.Asked still h = λ it. kept_put files r q.file.ino still (h it)
stage_put past e files r q stage.Granted still h = ((λ it. kept_put files r q.file.ino still (h.0 it)), h.1)
stage_put past e files r q (stage.Refused why) still h = tt
stage_put past e files r q stage.Ended still h = tt

pub opens_put : (past : List Told) (e : EpochId) (group : ℕ) (files : List FileRow) (r : FileRow) (qs : List OpenRow) → ((ino : ℕ) → row_ino r ≡ ino → IsKept files ino → NotEmpty r.kept) → Every (OpenMade past e group files) qs → Every (OpenMade past e group (with_row row_ino r files)) qs
opens_put past e group files r qs still h = every_weaker (OpenMade past e group files) (OpenMade past e group (with_row row_ino r files)) qs (λ q k. record { group_is = k.group_is; stage = stage_put past e files r q q.stage (still q.file.ino) k.stage }) h

pub known_ino : (past : List Told) (e : EpochId) (group ino : ℕ) (files : List FileRow) (unknown : FileRow) → row_ino unknown ≡ ino → Every (RowMade past e group) files → row_ino (known_or unknown (row row_ino ino files)) ≡ ino
known_ino past e group ino files unknown same h = of_row (row row_ino ino files) (row_at (RowMade past e group) row_ino ino files h)
  where
    of_row : (o : Option FileRow) → FoundAt (RowMade past e group) row_ino ino o → row_ino (known_or unknown o) ≡ ino
    of_row None k = same
    of_row (Some r) k = k.0

-- ---- a Report ----

-- a table whose group hasn't started, but for the sites that have reported
record Unstarted (c : Config) (past : List Told) (me : ℕ) (f : Frame) (t : SyncTable) : Type 0 where
  started : t.started ≡ false
  table : Made c past me f.members f t

reported_made : (c : Config) (past : List Told) (me : ℕ) (f : Frame) (from : ℕ) (x : ReportedCopy) (t : SyncTable) → Ordered past → ReportedFact past t.group x → Unstarted c past me f t → Unstarted c past me f (with_reported from x t)
reported_made c past me f from x t law fact u =
    let h : Made c past me f.members f t = u.table in
    let old : FileRow = known_or (unknown_file x.ino x.kind x.set) (file_row t x.ino) in
    let r : FileRow = with_holder from x.stamp (with_version (version_reported x) old) in
    let ino : row_ino r ≡ x.ino = known_ino past f.epoch t.group x.ino t.files (unknown_file x.ino x.kind x.set) refl h.files in
    record {
      started = u.started;
      table = record {
        synced = h.synced;
        unstarted = h.unstarted;
        all = h.all;
        files = every_row (RowMade past f.epoch t.group) row_ino r t.files (record {
          known = λ n. subst (λ (k : ℕ). IsKnown past (file_in t.group k)) (sym ino) (written_known past (file_in t.group x.ino) x.stamp x.vector fact);
          free = λ n s key w. absurd (h.unstarted u.started (reserved_started past s f.epoch key (file_in t.group (row_ino r)) law.goes law.apart w));
        }) h.files;
        opens = opens_put past f.epoch t.group t.files r t.opens (λ k same n. kept_some (version_reported x) old.kept) h.opens;
        ended = h.ended;
        early = h.early;
      };
    }

all_reported_made : (c : Config) (past : List Told) (me : ℕ) (f : Frame) (from : ℕ) (xs : List ReportedCopy) (t : SyncTable) → Ordered past → Every (ReportedFact past t.group) xs → Unstarted c past me f t → Unstarted c past me f (with_all_reported from xs t)
all_reported_made c past me f from [] t law fact u = u
all_reported_made c past me f from (x ∷ xs) t law fact u = all_reported_made c past me f from xs (with_reported from x t) law fact.1 (reported_made c past me f from x t law fact.0 u)

all_has : (test : ℕ → Bool) (s : ℕ) (ss : List ℕ) → list_all test ss ≡ true → Among s ss → test s ≡ true
all_has test s [] h m = absurd m
all_has test s (x ∷ xs) h (inl e) = subst (λ (n : ℕ). test n ≡ true) (sym e) (and_first (test x) (list_all test xs) h)
  where
    and_first : (a b : Bool) → (a && b) ≡ true → a ≡ true
    and_first true b k = refl
    and_first false b k = absurd (cc)
all_has test s (x ∷ xs) h (inr m) = all_has test s xs (and_rest (test x) (list_all test xs) h) m
  where
    and_rest : (a b : Bool) → (a && b) ≡ true → b ≡ true
    and_rest true b k = k
    and_rest false b k = absurd (cc)

reported_group : (from : ℕ) (xs : List ReportedCopy) (t : SyncTable) → (with_all_reported from xs t).group ≡ t.group
reported_group from [] t = refl
reported_group from (x ∷ xs) t = reported_group from xs (with_reported from x t)

-- a member's Report counts before the start alone
counts_keeps : (c : Config) (past : List Told) (me : ℕ) (f : Frame) (from : ℕ) (xs : List ReportedCopy) (t : SyncTable) → f.config ≡ c → Ordered past → Among from (members_of f.members (pack_sites c t.group)) → Every (ReportedFact past t.group) xs → Made c past me f.members f t → Fine c past me f.members f t (counts_report f from xs t)
counts_keeps c past me f from xs t same law member fact h =
    (elim (has t.reported from) as (λ b. has t.reported from ≡ b → Fine c past me f.members f t (elim b [ true ↦ quiet t | false ↦ starts_if f (with_report from xs t) ])) [
      | true ↦ λ e. sends_keeps c past me f.members f t [] h
      | false ↦ λ e. counted (unstarted e t.started refl)
    ]) refl
  where
    unstarted : has t.reported from ≡ false → (b : Bool) → t.started ≡ b → t.started ≡ false
    unstarted e true k = absurd (true_false (sym (all_has (has t.reported) from (members_of f.members (pack_sites c t.group)) (h.all k) member) ∙ e))
      where
        true_false : true ≡ false → ⊥
        true_false q = cc
    unstarted e false k = k

    counted : t.started ≡ false → Fine c past me f.members f t (starts_if f (with_report from xs t))
    counted e =
        let now : SyncTable = record t { reported = with_site t.reported from } in
        let u : Unstarted c past me f (with_report from xs t) = all_reported_made c past me f from xs now law fact (record { started = e; table = record { synced = h.synced; unstarted = h.unstarted; all = λ k. absurd (false_true (sym e ∙ k)); files = h.files; opens = h.opens; ended = h.ended; early = h.early } }) in
        let k : Fine c past me f.members f (with_report from xs t) (starts_if f (with_report from xs t)) = starts_if_keeps c past me f (with_report from xs t) same u.table in
        let group : (with_report from xs t).group ≡ t.group = reported_group from xs now in
        record { group = k.group ∙ group; table = k.table; here = subst (λ (n : ℕ). Every (Here f.epoch n) (starts_if f (with_report from xs t)).told) group k.here; plain = k.plain }
      where
        false_true : false ≡ true → ⊥
        false_true q = cc

pub on_report_keeps : (c : Config) (past : List Told) (me : ℕ) (f : Frame) (from : ℕ) (xs : List ReportedCopy) (t : SyncTable) → f.config ≡ c → Ordered past → Among from (members_of f.members (pack_sites c t.group)) → Every (ReportedFact past t.group) xs → Made c past me f.members f t → Fine c past me f.members f t (on_report f from xs t)
on_report_keeps c past me f from xs t same law member fact h = let k : Fine c past me f.members f t (counts_report f from xs t) = counts_keeps c past me f from xs t same law member fact h in record { group = k.group; table = k.table; here = k.here; plain = k.plain }
