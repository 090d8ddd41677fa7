-- A storage site tells that it has closed an instance: the synchronization site publishes what it has made, and releases it.
use Rattle.std.proofs.Common.{◌≡◌, ℕ, ◌<◌, ◌≤◌, true, List, [], Option, Some, None, refl, sym, ◌∙◌, ap, subst, ◌⊎◌, inl, inr, arith}
use Rattle.std.specs.Option.{is_some}
use Rattle.locus_ids.specs.declared.config.Config.{Config}
use Rattle.locus_ids.specs.declared.ids.EpochId.{EpochId}
use Rattle.locus_ids.specs.declared.ids.Serial.{Serial}
use Rattle.locus_ids.specs.declared.ids.Stamp.{Stamp}
use Rattle.locus_ids.specs.Sizes.{sites_max}
use Rattle.trace_book.specs.declared.record.Record.TheVariants as says
use Rattle.call_rules.specs.declared.answer.Answer.{Answer}
use Rattle.wire_messages.specs.declared.body.Body.TheVariants as body
use Rattle.wire_messages.specs.declared.body.MadeVersion.{MadeVersion}
use Rattle.wire_messages.specs.declared.packet.Packet.{Packet}
use Rattle.role_steps.specs.Opens.{open_key, open_row, with_open}
use Rattle.role_steps.specs.Own.{Every}
use Rattle.role_steps.specs.Reports.{closed_ok, closes_at, on_closed, on_closed_of, published_notices, published_row, releases, stamp_made}
use Rattle.role_steps.specs.Tables.{row, with_latest}
use Rattle.role_steps.specs.Notices.{row_notices}
use Rattle.role_steps.specs.Versions.{file_row, row_ino, with_file}
use Rattle.role_steps.specs.Views.{Frame, Told, Shown, serial_key}
use Rattle.role_steps.specs.declared.synchronizing.FileRow.{FileRow}
use Rattle.role_steps.specs.declared.synchronizing.OpenRow.{OpenRow}
use Rattle.role_steps.specs.declared.synchronizing.OpenStage.{OpenStage}
use Rattle.role_steps.specs.declared.synchronizing.OpenStage.TheVariants as stage
use Rattle.role_steps.specs.declared.synchronizing.SyncTable.{SyncTable}
use Rattle.role_steps.proofs.Sending.{every_append}
use Rattle.the_run.specs.Worlds.{Line}
use Rattle.tree_laws.specs.Doing.{TableFine}
use Rattle.tree_laws.specs.Frames.{AllStay, VersionsStay}
use Rattle.tree_laws.specs.Packets.{BodyFact, ClosedFact, EndsNow, MaybeMade, PacketFact}
use Rattle.tree_laws.specs.Past.{EndRecord, Printed, ReleaseRecord, WasNamedIn, WasReleased, WasReleasedWith}
use Rattle.tree_laws.specs.Printed.{entries}
use Rattle.tree_laws.specs.Tables.{AsItsFile, FileFact, FilesFact, IsGrantedNow, RowFact, StageFact, StartedFiles, TableFact}
use Rattle.tree_laws.proofs.CarriedLooks.{call_of_stays}
use Rattle.tree_laws.proofs.CarriedOpens.{was_then}
use Rattle.tree_laws.proofs.CarriedVersions.{joins_stay, sees_stay}
use Rattle.tree_laws.proofs.Rows.{followed_rows}
use Rattle.tree_laws.proofs.Versions.{versions_stay}
use Rattle.store_laws.proofs.of_tree_laws.Orders.Started.{open_started}
use Rattle.store_laws.proofs.Tabled.{apart_latest, every_latest, row_among}
use Rattle.store_laws.proofs.of_tree_laws.Syncs.Adding.{latest_found}
use Rattle.store_laws.proofs.of_tree_laws.Syncs.Looks.{sends_fine}
use Rattle.store_laws.proofs.of_tree_laws.Syncs.Notices.{row_notices_fine, rows_found}
use Rattle.store_laws.proofs.of_tree_laws.Syncs.OpensStay.{open_row_goes_on}
use Rattle.store_laws.proofs.of_tree_laws.Syncs.Rows.{every_among, row_every}
use Rattle.store_laws.specs.OneTree.Rest.{AllRest, Comes, RestTold, more}
use Rattle.store_laws.specs.OneTree.Roles.{Came, Ready, TableHere}
use Rattle.store_laws.proofs.OneTree.Staying.{stays}
use Rattle.rest_laws.specs.TableNarrow.{CallsAreNarrow}
use Rattle.rest_laws.proofs.TableFiles.{FilesNow, published_files, unmade_files}
use Rattle.rest_laws.proofs.TableNaming.{row_is}
use Rattle.rest_laws.proofs.TablePutting.{table_put}
use Rattle.rest_laws.proofs.TableReleasing.{found_here, may, openers_now}

-- what was released so was released
released_is : (c : Config) (trace : List Line) (e : EpochId) (i : Serial) (stamp : Option Stamp) (a : Answer) → WasReleasedWith c trace e i stamp a → WasReleased trace e i
released_is c trace e i stamp a w = was_then (Printed (ReleaseRecord c e i stamp a)) (Printed (EndRecord e i)) over trace w
  where
    over : (older : List Line) (x : Told) → Printed (ReleaseRecord c e i stamp a) older x → Printed (EndRecord e i) older x
    over older (Shown (says.Release at inst file last)) p = record { epoch_is = p.epoch_is; serial_is = p.serial_is }
    over older (Shown r) p = absurd p
    over older x p = absurd p

module _ (c : Config) (n : ℕ) (trace : List Line) (f : Frame) (t : SyncTable) (ready : Ready c trace f) (here : TableHere c trace f t) (r : OpenRow) (fact : RowFact c trace f.epoch t.group r) (stage_is : r.stage ≡ stage.Granted) (its_row : row open_key (serial_key r.inst) t.opens ≡ Some r) (ss : ℕ) where
  granted : IsGrantedNow trace f.epoch r fact.call
  granted = (subst (StageFact c trace f.epoch r fact.call) stage_is fact.stage).0

  lies : AsItsFile c trace r fact.call r.mode
  lies = (subst (StageFact c trace f.epoch r fact.call) stage_is fact.stage).1

  abbrev end : OpenRow
  end = record r { stage = stage.Ended }

  -- the rest of the table, where its files are so
  module _ (last : Option Stamp) (ends : EndsNow c trace f.epoch ss r.inst last) (rest : RestTold c trace (Shown (says.Release f.epoch r.inst r.file last))) where
    abbrev x : Told
    x = Shown (says.Release f.epoch r.inst r.file last)

    abbrev new : List Line
    new = more n x trace

    told : Comes c trace x
    told = record { past = ready.past; may = may c n trace f t ready here r fact.call fact.group_is granted ss last ends; rest = rest }

    all_stay : AllStay c trace new x
    all_stay = (stays c).all n x trace told

    versions : VersionsStay c trace new
    versions = versions_stay c n x trace ready.past.followed told.may all_stay.fresh all_stay.order

    is_started : t.started ≡ true
    is_started = here.fact.started ∙ open_started c (entries trace) (followed_rows c trace ready.past.followed) f.epoch t.group r.inst ends.at (found_here c n trace f t ready here r fact.call fact.group_is granted ss last ends)

    released : WasReleased new f.epoch r.inst
    released = inl (record { epoch_is = refl; serial_is = refl })

    ended_row : RowFact c new f.epoch t.group end
    ended_row = record {
      call = fact.call;
      is_call = call_of_stays c n x trace ready.past.followed told.may f.epoch r.inst.us r.call r.process fact.call fact.is_call;
      group_is = fact.group_is;
      stage = (inr granted.was_granted, released);
      vector_is = joins_stay c trace new versions r.file r.parents r.vector fact.vector_is;
      sees = sees_stay c trace new versions r.file r.mode r.stamp r.vector fact.sees;
    }

    others : (y : OpenRow) → (open_key y ≡ open_key end → ⊥) → RowFact c trace f.epoch t.group y → RowFact c new f.epoch t.group y
    others y other k = open_row_goes_on c n x trace ready.past.followed told.may versions f t.group y (λ p. p) (λ d was p. other (ap serial_key (sym p.serial_is))) k

    has : (i : Serial) → WasNamedIn new f.epoch t.group i → is_some (open_row (with_open end t) i) ≡ true
    has i (inl p) = absurd p
    has i (inr w) = latest_found open_key (serial_key i) end t.opens (here.fact.has i w)

    pub released_table : (files : List FileRow) → FilesNow c new f (record t { files = files }) → TableFact c new f (record t { files = files; opens = with_latest open_key end t.opens })
    released_table files now = table_put c n x trace ready.past.followed told.may all_stay f t here.fact (λ k. k) (λ k. k) files (with_latest open_key end t.opens) (record {
      rows = now.rows;
      rise = now.rise;
      files = subst (FilesFact c new f (record t { files = files; opens = with_latest open_key end t.opens })) (sym is_started) (record { known = now.files.known; kept_is = now.files.kept_is; exact = now.files.exact });
      opens = every_latest open_key end (RowFact c trace f.epoch t.group) (RowFact c new f.epoch t.group) t.opens others here.fact.apart here.fact.opens ended_row;
      apart = apart_latest open_key end t.opens here.fact.apart;
      has = has;
      openers_are = openers_now c n trace f t ready here r fact.call fact.group_is granted ss last ends stage_is its_row;
    })

  started_now : t.started ≡ true → StartedFiles c trace f t
  started_now s = subst (FilesFact c trace f t) s here.fact.files

  -- whatever it has made
  released_fine : (made : Option MadeVersion) → EndsNow c trace f.epoch ss r.inst (stamp_made made) → MaybeMade c trace f.epoch ss r.inst made → RestTold c trace (Shown (says.Release f.epoch r.inst r.file (stamp_made made))) → TableFine c n trace f t.group (releases f ss r made t)
  released_fine None ends made rest = record {
    told = ((told None ends rest).may, tt);
    own = ((refl, fact.group_is), tt);
    view = record { group_is = refl; table = released_table None ends rest t.files (unmade_files c n trace f t ready here (started_now (is_started None ends rest)) r fact.call fact.group_is granted ss ends (versions None ends rest)) };
    sent = (released None ends rest, tt);
    written = tt;
  }
  released_fine (Some v) ends made rest = record {
    told = ((told (Some v.stamp) ends rest).may, tt);
    own = ((refl, fact.group_is), tt);
    view = record { group_is = refl; table = table };
    sent = every_append (PacketFact c new) (published_notices f r (Some v) after) (closed_ok f ss r.inst) notices (released (Some v.stamp) ends rest, tt);
    written = tt;
  }
    where
      new : List Line
      new = more n (Shown (says.Release f.epoch r.inst r.file (Some v.stamp))) trace

      q : FileRow
      q = published_row ss r v (file_row t r.file.ino)

      after : SyncTable
      after = with_file (published_row ss r v (file_row t r.file.ino)) (with_open (record r { stage = stage.Ended }) t)

      started : t.started ≡ true
      started = is_started (Some v.stamp) ends rest

      files : FilesNow c new f (with_file q t)
      files = published_files c n trace f t ready here (started_now started) r fact.call fact.group_is granted lies ss v ends made rest started

      table : TableFact c new f after
      table = released_table (Some v.stamp) ends rest (with_file q t).files files

      by_row : (o : Option FileRow) → file_row after r.file.ino ≡ o → Every (PacketFact c new) (row_notices f t.group o)
      by_row None e = tt
      by_row (Some y) e = row_notices_fine c new f after table started y (row_every (FileFact c new f.epoch t.group) row_ino r.file.ino after.files y table.rows e)
          (every_among (λ (z : FileRow). row row_ino z.ino after.files ≡ Some z) after.files y (rows_found after.files table.rise) (row_among row_ino r.file.ino after.files y e))

      notices : Every (PacketFact c new) (row_notices f t.group (file_row after r.file.ino))
      notices = by_row (file_row after r.file.ino) refl

-- ---- a close that comes ----

module _ (c : Config) (narrow : CallsAreNarrow c) (n : ℕ) (trace : List Line) (f : Frame) (t : SyncTable) (ready : Ready c trace f) (here : TableHere c trace f t) (from : ℕ) (i : Serial) (made : Option MadeVersion) (closed : ClosedFact c trace f.epoch from i made) where
  -- the instance that is closed has the name of the row
  first_close : (r : OpenRow) → open_row t i ≡ Some r → r.stage ≡ stage.Granted → RestTold c trace (Shown (says.Release f.epoch r.inst r.file (stamp_made made))) → TableFine c n trace f t.group (releases f from r made t)
  first_close r found stage_is rest = over closed.ends
    where
      fact : RowFact c trace f.epoch t.group r
      fact = row_every (RowFact c trace f.epoch t.group) open_key (serial_key i) t.opens r here.fact.opens found

      low : (i.us ≤ sites_max) → i.us < 256
      low h = omega (arith, h)

      over : ((a : Answer) × WasReleasedWith c trace f.epoch i (stamp_made made) a) ⊎ EndsNow c trace f.epoch from i (stamp_made made) → TableFine c n trace f t.group (releases f from r made t)
      over (inl k) = absurd ((subst (StageFact c trace f.epoch r fact.call) stage_is fact.stage).0.unreleased (subst (WasReleased trace f.epoch) (sym its) (released_is c trace f.epoch i (stamp_made made) k.0 k.1)))
        where
          its : r.inst ≡ i
          its = row_is c narrow trace f t ready.past r fact i found (inl (released_is c trace f.epoch i (stamp_made made) k.0 k.1))
      over (inr ends) = released_fine c n trace f t ready here r fact stage_is (subst (λ (j : Serial). row open_key (serial_key j) t.opens ≡ Some r) (sym its) found) from made
          (subst (λ (j : Serial). EndsNow c trace f.epoch from j (stamp_made made)) (sym its) ends) (subst (λ (j : Serial). MaybeMade c trace f.epoch from j made) (sym its) closed.version) rest
        where
          its : r.inst ≡ i
          its = row_is c narrow trace f t ready.past r fact i found (inr (ends.at, ends.closes.open_at.found))

  by_stage : (r : OpenRow) → open_row t i ≡ Some r → (s : OpenStage) → r.stage ≡ s → AllRest c n trace (closes_at f from r made s t).told → TableFine c n trace f t.group (closes_at f from r made s t)
  by_stage r found stage.Granted e rest = first_close r found e rest.0
  by_stage r found stage.Asked e rest = sends_fine c n trace f t [] t refl here.fact tt
  by_stage r found (stage.Refused why) e rest = sends_fine c n trace f t [] t refl here.fact tt
  by_stage r found stage.Ended e rest = sends_fine c n trace f t (closed_ok f from r.inst) t refl here.fact
      ((subst (StageFact c trace f.epoch r fact.call) e fact.stage).1, tt)
    where
      fact : RowFact c trace f.epoch t.group r
      fact = row_every (RowFact c trace f.epoch t.group) open_key (serial_key i) t.opens r here.fact.opens found

  close_fine : (o : Option OpenRow) → open_row t i ≡ o → AllRest c n trace (on_closed_of f from made o t).told → TableFine c n trace f t.group (on_closed_of f from made o t)
  close_fine None found rest = sends_fine c n trace f t [] t refl here.fact tt
  close_fine (Some r) found rest = by_stage r found r.stage refl rest

pub closes_fine : (c : Config) → CallsAreNarrow c → (n : ℕ) (trace : List Line) (f : Frame) (p : Packet) (i : Serial) (made : Option MadeVersion) (t : SyncTable) → Ready c trace f → TableHere c trace f t → Came c trace f p (body.Closed i made) → AllRest c n trace (on_closed f p.from i made t).told →
    TableFine c n trace f t.group (on_closed f p.from i made t)
closes_fine c narrow n trace f p i made t ready here came rest = close_fine c narrow n trace f t ready here p.from i made (subst (λ (e : EpochId). ClosedFact c trace e p.from i made) came.received.epoch_is (subst (BodyFact c trace p) came.body_is came.fact)) (open_row t i) refl rest
