-- Closes at a synchronization site, and what is held: what its table knows of files that are being made.
use Rattle.std.proofs.Common.{◌≡◌, ℕ, Bool, true, false, cond, ◌⊎◌, List, [], ◌∷◌, Option, Some, None, refl, sym, ◌∙◌, ap, subst, inl, inr}
use Rattle.role_steps.proofs.of_plain_facts.Options.{some_same}
use Rattle.locus_ids.specs.declared.ids.EpochId.{EpochId}
use Rattle.locus_ids.specs.declared.ids.FileId.{FileId}
use Rattle.locus_ids.specs.declared.ids.Mode.{Mode}
use Rattle.locus_ids.specs.declared.ids.Mode.TheVariants as mode
use Rattle.locus_ids.specs.declared.ids.Serial.{Serial}
use Rattle.locus_ids.specs.declared.ids.Stamp.{Stamp}
use Rattle.locus_ids.specs.declared.sites.Members.{Members}
use Rattle.locus_ids.specs.declared.config.Config.{Config}
use Rattle.trace_book.specs.declared.record.Record.TheVariants as says
use Rattle.wire_messages.specs.declared.body.MadeVersion.{MadeVersion}
use Rattle.role_steps.specs.Tables.{row, with_latest}
use Rattle.role_steps.specs.Views.{Frame, Told, Shown, serial_key}
use Rattle.role_steps.specs.Versions.{file_row}
use Rattle.role_steps.specs.Opens.{open_row, open_key, with_open}
use Rattle.role_steps.specs.Reports.{published, closed_ok, releases, closes_at, on_closed_of, on_closed, on_have_of, on_have}
use Rattle.role_steps.specs.declared.synchronizing.SyncTable.{SyncTable}
use Rattle.role_steps.specs.declared.synchronizing.FileRow.{FileRow}
use Rattle.role_steps.specs.declared.synchronizing.OpenRow.{OpenRow}
use Rattle.role_steps.specs.declared.synchronizing.OpenStage.{OpenStage}
use Rattle.role_steps.specs.declared.synchronizing.OpenStage.TheVariants as stage
use Rattle.site_laws.proofs.Vectors.SyncFacts.{FoundAt, row_at}
use Rattle.site_laws.specs.Locks.Locks.{IsOfAFile}
use Rattle.role_steps.specs.Versions.{row_ino, kept, with_version, with_holder, known_or, unknown_file, version_of, rises_to, noted_at, noted_of, noted, holding_of}
use Rattle.role_steps.specs.Opens.{open_key}
use Rattle.role_steps.specs.Reports.{published_row, stamp_made}
use Rattle.role_steps.specs.declared.synchronizing.VersionRow.{VersionRow}
use Rattle.role_steps.specs.declared.synchronizing.Holding.{Holding}
use Rattle.the_run.proofs.Boots.{every_weaker}
use Rattle.the_run.proofs.InsideSync.{every_row}
use Rattle.site_laws.specs.Vectors.Written.{WasTold, WasGranted, InstancesAgree}
use Rattle.site_laws.specs.Vectors.Facts.{file_in, MadeFact}
use Rattle.site_laws.proofs.Vectors.SyncFacts.{every_latest, file_eq}
use Rattle.site_laws.specs.Locks.Going.{WasReleased, WasStarted}
use Rattle.site_laws.specs.Locks.Grants.{WasGrantedAs}
use Rattle.site_laws.proofs.Locks.GrantTold.{latest_same}
use Rattle.site_laws.proofs.Locks.Facts.{one_later}
use Rattle.site_laws.specs.Packs.Making.{NotEmpty}
use Rattle.site_laws.specs.Makes.Holding.{WasReserved}
use Rattle.site_laws.specs.Makes.Tables.{IsKnown, IsFree, ReleasedOn, RowMade, IsKept, StageMade, OpenMade, HasEnded, TableMade, Ordered}
use Rattle.site_laws.proofs.Makes.TableTold.{known_later, written_known, pair, granted_reserved, granted_as, ReleasedFile, released_file, row_later, open_later}
use Rattle.site_laws.proofs.Makes.TableOpens.{Fine, Made, sends_keeps, kept_made, put_ended, row_key}
use Rattle.site_laws.proofs.Makes.TableReports.{kept_some, opens_put, known_ino}

-- ---- a close ----

-- the file of an instance that is released, by the mode of its open: it is free then
plain_or_make : (m : Mode) → IsOfAFile m ⊎ (m ≡ mode.Make)
plain_or_make mode.Make = inr refl
plain_or_make mode.Read = inl tt
plain_or_make mode.Write = inl tt
plain_or_make mode.Resolve = inl tt
plain_or_make mode.Mend = inl tt

granted_ended : ◌≡◌ {A = OpenStage} stage.Granted stage.Ended → ⊥
granted_ended e = cc

-- what is granted isn't released
not_released : (c : Config) (past : List Told) (me : ℕ) (members : Members) (f : Frame) (r : OpenRow) (t : SyncTable) → Ordered past → Made c past me members f t → row open_key (open_key r) t.opens ≡ Some r → r.stage ≡ stage.Granted → r.file.group ≡ t.group → WasGrantedAs past f.epoch (open_key r) r.file mode.Make → WasReleased past f.epoch (open_key r) → ⊥
not_released c past me members f r t law h found granted group made w =
    let q : ReleasedFile past f.epoch (open_key r) = released_file past f.epoch (open_key r) law.goes w in
    let a : (m : Mode) × WasGrantedAs past f.epoch (open_key r) q.file m = granted_as past f.epoch (open_key r) q.file q.granted in
    let same : q.file ≡ r.file = (law.alike f.epoch (open_key r) q.file r.file a.0 mode.Make a.1 made).0 in
    let e : HasEnded t.opens (open_key r) = h.ended (open_key r) q.file (ap (λ (x : FileId). x.group) same ∙ group) q.released in
    let is : r ≡ e.ended = some_same r e.ended (sym found ∙ e.found) in
    granted_ended (sym granted ∙ (ap (λ (x : OpenRow). x.stage) is ∙ e.stage_is))

-- where there is a version, its file is known
abbrev pub IsKnownIf : Option MadeVersion → List Told → FileId → Type 0
IsKnownIf None past file = Unit {0}
IsKnownIf (Some m) past file = IsKnown past file

known_if_later : (o : Option MadeVersion) (past : List Told) (x : Told) (file : FileId) → IsKnownIf o past file → IsKnownIf o (x ∷ past) file
known_if_later None past x file h = tt
known_if_later (Some m) past x file h = known_later past (x ∷ past) (one_later x past) file h

-- once it is released, the file of a plain instance that was kept is free, and that of a make
released_free : (c : Config) (past : List Told) (me : ℕ) (members : Members) (f : Frame) (r : OpenRow) (made : Option Stamp) (t : SyncTable) → Ordered past → Made c past me members f t → row open_key (open_key r) t.opens ≡ Some r → r.stage ≡ stage.Granted → OpenMade past f.epoch t.group t.files r → StageMade past f.epoch t.files r stage.Granted → IsFree (Shown (says.Release f.epoch r.inst r.file made) ∷ past) f.epoch r.file
released_free c past me members f r made t law h found granted k st s key (inl w) = absurd w
released_free c past me members f r made t law h found granted k st s key (inr w) = by_mode (plain_or_make r.mode)
  where
    file : r.file ≡ file_in t.group r.file.ino
    file = file_eq r.file t.group r.file.ino k.group_is refl

    x : Told
    x = Shown (says.Release f.epoch r.inst r.file made)

    by_mode : IsOfAFile r.mode ⊎ (r.mode ≡ mode.Make) → WasReleased (x ∷ past) f.epoch key
    by_mode (inl it) = inr ((kept_made past f.epoch t.group r.file.ino t.files h.files (st.0 it)).1 s key (subst (WasReserved past s f.epoch key) file w))
    by_mode (inr m) = by_pair (pair past s own.0 f.epoch key (open_key r) r.file law.apart w own.1)
      where
        as_make : WasGrantedAs past f.epoch (open_key r) r.file mode.Make
        as_make = st.1 m

        own : (t : ℕ) × WasReserved past t f.epoch (open_key r) r.file
        own = granted_reserved past f.epoch (open_key r) r.file law.reserved as_make

        by_pair : (key ≡ open_key r) ⊎ (WasReleased past f.epoch key ⊎ WasReleased past f.epoch (open_key r)) → WasReleased (x ∷ past) f.epoch key
        by_pair (inl q) = inl (refl, sym q)
        by_pair (inr (inl q)) = inr q
        by_pair (inr (inr q)) = absurd (not_released c past me members f r t law h found granted k.group_is as_make q)

-- the version that is published is of the file that was granted
pub made_known : (past : List Told) (e : EpochId) (key : ℕ) (file : FileId) (m : MadeVersion) → InstancesAgree past → WasGranted past e key file → MadeFact past e key m → IsKnown past file
made_known past e key file m agree granted h = subst (IsKnown past) (agree e key h.file file h.begun granted) (written_known past h.file m.stamp m.vector h.written)

noted_at_kept : (r : FileRow) (site : ℕ) (v : VersionRow) (o : Option Holding) → ((noted_at r site v o).ino ≡ r.ino) × ((noted_at r site v o).kept ≡ r.kept)
noted_at_kept r site v None = (refl, refl)
noted_at_kept r site v (Some h) = of_test (rises_to v (version_of r h.stamp))
  where
    of_test : (b : Bool) → ((cond b (with_holder site v.stamp r) r).ino ≡ r.ino) × ((cond b (with_holder site v.stamp r) r).kept ≡ r.kept)
    of_test true = (refl, refl)
    of_test false = (refl, refl)

noted_of_kept : (r : FileRow) (site : ℕ) (o : Option VersionRow) → ((noted_of r site o).ino ≡ r.ino) × ((noted_of r site o).kept ≡ r.kept)
noted_of_kept r site None = (refl, refl)
noted_of_kept r site (Some v) = noted_at_kept r site v (holding_of r site)

noted_kept : (site : ℕ) (stamp : Stamp) (r : FileRow) → ((noted site stamp r).ino ≡ r.ino) × ((noted site stamp r).kept ≡ r.kept)
noted_kept site stamp r = noted_of_kept r site (version_of r stamp)

-- what a table knows once a version of the file is published
published_made : (c : Config) (now : List Told) (me : ℕ) (members : Members) (f : Frame) (ss : ℕ) (r : OpenRow) (made : Option MadeVersion) (t : SyncTable) → r.file.group ≡ t.group → IsKnownIf made now r.file → IsFree now f.epoch r.file → Made c now me members f t → Made c now me members f (published ss r made t)
published_made c now me members f ss r None t group known free h = h
published_made c now me members f ss r (Some v) t group known free h = record {
  synced = h.synced;
  unstarted = h.unstarted;
  all = h.all;
  files = every_row (RowMade now f.epoch t.group) row_ino new t.files (record { known = λ n. subst (IsKnown now) file known; free = λ n. subst (IsFree now f.epoch) file free }) h.files;
  opens = opens_put now f.epoch t.group t.files new t.opens (λ k same n. some) h.opens;
  ended = h.ended;
  early = h.early;
}
  where
    old : FileRow
    old = known_or (unknown_file r.file.ino r.kind r.set) (file_row t r.file.ino)

    with_one : FileRow
    with_one = with_version (record { stamp = v.stamp; vector = v.vector; size = v.size }) old

    new : FileRow
    new = published_row ss r v (file_row t r.file.ino)

    some : NotEmpty new.kept
    some = subst NotEmpty (sym (noted_kept ss v.stamp with_one).1) (kept_some (record { stamp = v.stamp; vector = v.vector; size = v.size }) old.kept)

    ino : new.ino ≡ r.file.ino
    ino = (noted_kept ss v.stamp with_one).0 ∙ known_ino now f.epoch t.group r.file.ino t.files (unknown_file r.file.ino r.kind r.set) refl h.files

    file : r.file ≡ file_in t.group new.ino
    file = file_eq r.file t.group new.ino group (sym ino)

releases_keeps : (c : Config) (past : List Told) (me : ℕ) (members : Members) (f : Frame) (ss : ℕ) (r : OpenRow) (made : Option MadeVersion) (t : SyncTable) → Ordered past → IsKnownIf made past r.file → row open_key (open_key r) t.opens ≡ Some r → r.stage ≡ stage.Granted → OpenMade past f.epoch t.group t.files r → StageMade past f.epoch t.files r stage.Granted → Made c past me members f t → Fine c past me members f t (releases f ss r made t)
releases_keeps c past me members f ss r made t law known found granted k st h = record {
  group = published_group ss r made ended;
  table = published_made c (x ∷ past) me members f ss r made ended k.group_is (known_if_later made past x r.file known) (released_free c past me members f r (stamp_made made) t law h found granted k st) table;
  here = ((refl, k.group_is), tt);
  plain = (tt, tt);
}
  where
    q : OpenRow
    q = record r { stage = stage.Ended }

    ended : SyncTable
    ended = with_open q t

    x : Told
    x = Shown (says.Release f.epoch r.inst r.file (stamp_made made))

    published_group : (site : ℕ) (o : OpenRow) (m : Option MadeVersion) (u : SyncTable) → (published site o m u).group ≡ u.group
    published_group site o None u = refl
    published_group site o (Some v) u = refl

    unstarted : t.started ≡ false → WasStarted (x ∷ past) f.epoch t.group → ⊥
    unstarted n (inl w) = w
    unstarted n (inr w) = h.unstarted n w

    ended_of : (key : ℕ) (file : FileId) → file.group ≡ t.group → WasTold (ReleasedOn f.epoch key file) (x ∷ past) → HasEnded ended.opens key
    ended_of key file g (inl w) = record { ended = q; found = subst (λ (n : ℕ). row open_key n (with_latest open_key q t.opens) ≡ Some q) w.1 (latest_same open_key q t.opens); stage_is = refl }
    ended_of key file g (inr w) = put_ended t.opens r q key found (λ e. refl) (h.ended key file g w)

    table : Made c (x ∷ past) me members f ended
    table = record {
      synced = h.synced;
      unstarted = λ n w. unstarted n w;
      all = h.all;
      files = every_weaker (RowMade past f.epoch t.group) (RowMade (x ∷ past) f.epoch t.group) t.files (λ y. row_later past x f.epoch t.group y tt) h.files;
      opens = every_latest (OpenMade (x ∷ past) f.epoch t.group t.files) open_key q t.opens (record { group_is = k.group_is; stage = tt }) (every_weaker (OpenMade past f.epoch t.group t.files) (OpenMade (x ∷ past) f.epoch t.group t.files) t.opens (open_later past x f.epoch t.group t.files) h.opens);
      ended = λ key file g w. ended_of key file g w;
      early = h.early;
    }

closes_at_keeps : (c : Config) (past : List Told) (me : ℕ) (members : Members) (f : Frame) (ss : ℕ) (r : OpenRow) (made : Option MadeVersion) (s : OpenStage) (t : SyncTable) → Ordered past → (s ≡ stage.Granted → IsKnownIf made past r.file) → row open_key (open_key r) t.opens ≡ Some r → r.stage ≡ s → OpenMade past f.epoch t.group t.files r → StageMade past f.epoch t.files r s → Made c past me members f t → Fine c past me members f t (closes_at f ss r made s t)
closes_at_keeps c past me members f ss r made stage.Asked t law known found e k st h = sends_keeps c past me members f t [] h
closes_at_keeps c past me members f ss r made stage.Granted t law known found e k st h = releases_keeps c past me members f ss r made t law (known refl) found e k st h
closes_at_keeps c past me members f ss r made (stage.Refused why) t law known found e k st h = sends_keeps c past me members f t [] h
closes_at_keeps c past me members f ss r made stage.Ended t law known found e k st h = sends_keeps c past me members f t (closed_ok f ss r.inst) h

-- what a close brings is known, as it is of what was granted
abbrev pub ClosesKnown : List Told → EpochId → ℕ → Option MadeVersion → OpenRow → Type 0
ClosesKnown past e key made r = (open_key r ≡ key) → r.stage ≡ stage.Granted → IsKnownIf made past r.file

on_closed_of_keeps : (c : Config) (past : List Told) (me : ℕ) (members : Members) (f : Frame) (ss key : ℕ) (made : Option MadeVersion) (o : Option OpenRow) (t : SyncTable) → Ordered past → ((r : OpenRow) → row open_key key t.opens ≡ Some r → ClosesKnown past f.epoch key made r) → row open_key key t.opens ≡ o → Made c past me members f t → Fine c past me members f t (on_closed_of f ss made o t)
on_closed_of_keeps c past me members f ss key made None t law known e h = sends_keeps c past me members f t [] h
on_closed_of_keeps c past me members f ss key made (Some r) t law known e h =
    let k : (open_key r ≡ key) × OpenMade past f.epoch t.group t.files r = row_key past f.epoch t.group t.files key t.opens r h.opens e in
    closes_at_keeps c past me members f ss r made r.stage t law (λ g. known r e k.0 g) (subst (λ (n : ℕ). row open_key n t.opens ≡ Some r) (sym k.0) e) refl k.1 k.1.stage h

pub on_closed_keeps : (c : Config) (past : List Told) (me : ℕ) (members : Members) (f : Frame) (ss : ℕ) (inst : Serial) (made : Option MadeVersion) (t : SyncTable) → Ordered past → ((r : OpenRow) → row open_key (serial_key inst) t.opens ≡ Some r → ClosesKnown past f.epoch (serial_key inst) made r) → Made c past me members f t → Fine c past me members f t (on_closed f ss inst made t)
on_closed_keeps c past me members f ss inst made t law known h = on_closed_of_keeps c past me members f ss (serial_key inst) made (open_row t inst) t law known refl h

-- ---- what is held ----

pub have_made : (c : Config) (past : List Told) (me : ℕ) (e : EpochId) (members : Members) (from ino : ℕ) (stamp : Stamp) (t : SyncTable) → TableMade c past me e members t → TableMade c past me e members (on_have_of from stamp (file_row t ino) t)
have_made c past me e members from ino stamp t h = of_row (file_row t ino) (row_at (RowMade past e t.group) row_ino ino t.files h.files) refl
  where
    of_row : (o : Option FileRow) → FoundAt (RowMade past e t.group) row_ino ino o → row row_ino ino t.files ≡ o → TableMade c past me e members (on_have_of from stamp o t)
    of_row None k q = h
    of_row (Some r) k q =
        let new : FileRow = noted from stamp r in
        let same : (new.ino ≡ r.ino) × (new.kept ≡ r.kept) = noted_kept from stamp r in
        record {
          synced = h.synced;
          unstarted = h.unstarted;
          all = h.all;
          files = every_row (RowMade past e t.group) row_ino new t.files (record {
            known = λ n. subst (λ (x : ℕ). IsKnown past (file_in t.group x)) (sym same.0) (k.1.known (subst NotEmpty same.1 n));
            free = λ n. subst (λ (x : ℕ). IsFree past e (file_in t.group x)) (sym same.0) (k.1.free (subst NotEmpty same.1 n));
          }) h.files;
          opens = opens_put past e t.group t.files new t.opens (λ x at n. subst NotEmpty (sym same.1) (subst (λ (o : Option FileRow). NotEmpty (kept o)) q (subst (IsKept t.files) (sym (sym k.0 ∙ (sym same.0 ∙ at))) n))) h.opens;
          ended = h.ended;
          early = h.early;
        }

pub on_have_keeps : (c : Config) (past : List Told) (me : ℕ) (members : Members) (f : Frame) (from : ℕ) (file : FileId) (stamp : Stamp) (t : SyncTable) → Made c past me members f t → Fine c past me members f t (on_have from file stamp t)
on_have_keeps c past me members f from file stamp t h = record { group = have_group (file_row t file.ino); table = have_made c past me f.epoch members from file.ino stamp t h; here = tt; plain = tt }
  where
    have_group : (o : Option FileRow) → (on_have_of from stamp o t).group ≡ t.group
    have_group None = refl
    have_group (Some r) = refl
