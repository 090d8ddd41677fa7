-- What a table has of files after a release: where nothing was made, and where something is published.
use Rattle.std.proofs.Common.{◌≡◌, ℕ, ◌==◌, Bool, true, false, length, List, [], map, Option, Some, None, refl, sym, ◌∙◌, ap, subst, ◌⊎◌, inl, inr}
use Rattle.std.proofs.lemmas.List.{length-map}
use Rattle.role_steps.proofs.of_plain_facts.Numbers.{equal}
use Rattle.role_steps.proofs.of_plain_facts.Options.{some_same}
use Rattle.role_steps.proofs.of_plain_facts.Tests.{true_false}
use Rattle.locus_ids.specs.declared.config.Config.{Config}
use Rattle.locus_ids.specs.declared.ids.CallId.{CallId}
use Rattle.locus_ids.specs.declared.ids.FileId.{FileId}
use Rattle.locus_ids.specs.declared.ids.Stamp.{Stamp}
use Rattle.commit_graph.specs.Versions.{kept, with_stamp}
use Rattle.trace_book.specs.declared.record.Record.TheVariants as says
use Rattle.wire_messages.specs.declared.body.MadeVersion.{MadeVersion}
use Rattle.role_steps.specs.Own.{Every}
use Rattle.role_steps.specs.Reports.{published_row}
use Rattle.role_steps.specs.Tables.{row, with_row}
use Rattle.role_steps.specs.Versions.{file_row, kept as kept_rows, row_ino, with_file}
use Rattle.role_steps.specs.Views.{Frame, Told, Shown}
use Rattle.role_steps.specs.declared.synchronizing.FileRow.{FileRow}
use Rattle.role_steps.specs.declared.synchronizing.OpenRow.{OpenRow}
use Rattle.role_steps.specs.declared.synchronizing.SyncTable.{SyncTable}
use Rattle.the_run.specs.Worlds.{Line}
use Rattle.the_run.proofs.InsideSync.{every_row}
use Rattle.tree_model.specs.Histories.{history}
use Rattle.tree_model.specs.State.{TreeState, has_stamp}
use Rattle.tree_model.specs.Tree.{candidates, kept_in, tree_of}
use Rattle.tree_laws.specs.Frames.{VersionsStay}
use Rattle.tree_laws.specs.Instances.{IsStarted, held_in}
use Rattle.tree_laws.specs.Packets.{EndsNow, MadeFact, file_in}
use Rattle.tree_laws.specs.Printed.{entries}
use Rattle.tree_laws.specs.Tables.{AsItsFile, AreRising, ExactFact, FileFact, IsAhead, IsGrantedNow, IsNoted, IsStill, StartedFiles, known_stamps, row_stamp}
use Rattle.tree_laws.proofs.Boots.{every_both}
use Rattle.store_laws.proofs.of_tree_laws.Orders.Keeping.{published_same}
use Rattle.store_laws.specs.Holdings.Held.{IsKnownOrAhead}
use Rattle.store_laws.proofs.Holdings.Below.{packs_hold}
use Rattle.store_laws.proofs.Holdings.Holding.{known_or_ahead}
use Rattle.store_laws.proofs.Holdings.OneVersionAscending.{known_ascends}
use Rattle.store_laws.proofs.of_row_laws.CallRows.Rising.{key_case}
use Rattle.store_laws.proofs.Tabled.{row_other, row_same}
use Rattle.store_laws.proofs.of_tree_laws.Syncs.Files.{file_row_stays}
use Rattle.store_laws.proofs.of_tree_laws.Syncs.Rows.{row_every, row_key_is}
use Rattle.store_laws.specs.OneTree.Rest.{Past, RestTold, more}
use Rattle.store_laws.specs.OneTree.Roles.{Ready, TableHere}
use Rattle.store_laws.proofs.OneTree.Staying.{rest_below}
use Rattle.rest_laws.proofs.TableFiling.{rising_row}
use Rattle.rest_laws.proofs.TableHigh.{kept_high}
use Rattle.rest_laws.proofs.TableKnown.{brought_stamps}
use Rattle.rest_laws.proofs.TablePublishing.{PublishedRow, has_now, past_new, published_so, stay, vs}
use Rattle.rest_laws.proofs.TableReleasing.{WasAhead, ahead_now, held_now, known_now}

-- what a table has of files is so by the trace
pub record FilesNow (c : Config) (trace : List Line) (f : Frame) (t : SyncTable) : Type 0 where
  pub rows : Every (FileFact c trace f.epoch t.group) t.files
  pub rise : AreRising t.files
  pub files : StartedFiles c trace f t

-- where what is known is what the tree knows, what is kept is what it keeps
pub kept_from_known : (c : Config) (trace : List Line) (f : Frame) (t : SyncTable) → Past c trace → Every (FileFact c trace f.epoch t.group) t.files → ((ino : ℕ) → known_stamps (file_row t ino) ≡ candidates c (entries trace) f.epoch (file_in t.group ino)) →
    (ino : ℕ) → map row_stamp (kept_rows (file_row t ino)) ≡ kept_in c (entries trace) f.epoch (file_in t.group ino)
kept_from_known c trace f t past rows known ino = over (file_row t ino) refl ∙ ap (kept (history c (entries trace)) (file_in t.group ino)) (known ino)
  where
    over : (o : Option FileRow) → file_row t ino ≡ o → map row_stamp (kept_rows o) ≡ kept (history c (entries trace)) (file_in t.group ino) (known_stamps (file_row t ino))
    over None e = ap (λ (o : Option FileRow). kept (history c (entries trace)) (file_in t.group ino) (known_stamps o)) (sym e)
    over (Some q) e = (let fact : FileFact c trace f.epoch t.group q = row_every (FileFact c trace f.epoch t.group) row_ino ino t.files q rows e in
        ap (map row_stamp) fact.orderly.keeps
        ∙ (kept_high c trace past (file_in t.group q.ino) q.versions fact.versions
        ∙ (ap (λ (i : ℕ). kept (history c (entries trace)) (file_in t.group i) (map row_stamp q.versions)) (row_key_is row_ino ino t.files q e)
        ∙ ap (λ (o : Option FileRow). kept (history c (entries trace)) (file_in t.group ino) (known_stamps o)) (sym e))))

-- ---- nothing was made ----

module _ (c : Config) (n : ℕ) (trace : List Line) (f : Frame) (t : SyncTable) (ready : Ready c trace f) (here : TableHere c trace f t) (files : StartedFiles c trace f t) (r : OpenRow) (d : CallId) (group_is : r.file.group ≡ t.group) (granted : IsGrantedNow trace f.epoch r d)
    (ss : ℕ) (ends : EndsNow c trace f.epoch ss r.inst None) (versions : VersionsStay c trace (more n (Shown (says.Release f.epoch r.inst r.file None)) trace)) where
  abbrev new : List Line
  new = more n (Shown (says.Release f.epoch r.inst r.file None)) trace

  known_same : (ino : ℕ) → candidates c (entries new) f.epoch (file_in t.group ino) ≡ candidates c (entries trace) f.epoch (file_in t.group ino)
  known_same ino = known_now c n trace f t ready here r d group_is granted ss None ends ino

  exact_still : (q : FileRow) → ExactFact c trace f t.group q → ExactFact c new f t.group q
  exact_still q exact site stamp still held = over (exact site stamp still (sym (held_now c n trace f t ready here r d group_is granted ss None ends site q.ino) ∙ held))
    where
      none_made : IsAhead c new f.epoch site (file_in t.group q.ino) ⊎ WasAhead c n trace f t ready here r d group_is granted ss None ends site (file_in t.group q.ino) → IsNoted q site stamp ⊎ IsAhead c new f.epoch site (file_in t.group q.ino)
      none_made (inl a) = inr a
      none_made (inr a) = absurd (true_false (sym a.committed))

      over : IsNoted q site stamp ⊎ IsAhead c trace f.epoch site (file_in t.group q.ino) → IsNoted q site stamp ⊎ IsAhead c new f.epoch site (file_in t.group q.ino)
      over (inl k) = inl k
      over (inr a) = none_made (ahead_now c n trace f t ready here r d group_is granted ss None ends site (file_in t.group q.ino) a)

  pub unmade_files : FilesNow c new f t
  unmade_files = record {
    rows = every_both (FileFact c trace f.epoch t.group) (FileFact c new f.epoch t.group) t.files (file_row_stays c trace new versions f.epoch t.group) here.fact.rows;
    rise = here.fact.rise;
    files = record {
      known = λ ino. files.known ino ∙ sym (known_same ino);
      kept_is = λ ino. files.kept_is ino ∙ ap (kept (history c (entries trace)) (file_in t.group ino)) (sym (known_same ino));
      exact = λ ino q e. exact_still q (files.exact ino q e);
    };
  }

-- ---- a version is published ----

module _ (c : Config) (n : ℕ) (trace : List Line) (f : Frame) (t : SyncTable) (ready : Ready c trace f) (here : TableHere c trace f t) (files : StartedFiles c trace f t) (r : OpenRow) (d : CallId) (group_is : r.file.group ≡ t.group) (granted : IsGrantedNow trace f.epoch r d) (lies : AsItsFile c trace r d r.mode)
    (ss : ℕ) (v : MadeVersion) (ends : EndsNow c trace f.epoch ss r.inst (Some v.stamp)) (made : MadeFact c trace f.epoch ss r.inst v) (rest : RestTold c trace (Shown (says.Release f.epoch r.inst r.file (Some v.stamp)))) (is_started : t.started ≡ true) where
  abbrev x : Told
  x = Shown (says.Release f.epoch r.inst r.file (Some v.stamp))

  abbrev now : List Line
  now = more n x trace

  abbrev F : FileId
  F = file_in t.group r.file.ino

  abbrev T : TreeState
  T = tree_of c f.epoch t.group (entries trace)

  abbrev q : FileRow
  q = published_row ss r v (file_row t r.file.ino)

  past : Past c now
  past = past_new c n trace f t ready here files r d group_is granted lies ss v ends made rest

  versions : VersionsStay c trace now
  versions = vs c n trace f t ready here files r d group_is granted lies ss v ends made rest

  so : PublishedRow c n trace f t ready here files r d group_is granted lies ss v ends made rest (file_row t r.file.ino) q
  so = published_so c n trace f t ready here files r d group_is granted lies ss v ends made rest (file_row t r.file.ino) refl

  abbrev u : SyncTable
  u = with_file (published_row ss r v (file_row t r.file.ino)) t

  at_file : (ino : ℕ) → q.ino ≡ ino → file_row u ino ≡ Some q
  at_file ino same = ap (λ (i : ℕ). row row_ino i (with_row row_ino q t.files)) (sym same) ∙ row_same row_ino q t.files

  elsewhere : (ino : ℕ) → (q.ino ≡ ino → ⊥) → file_row u ino ≡ file_row t ino
  elsewhere ino other = row_other row_ino q ino t.files other

  other_file : (ino : ℕ) → (q.ino ≡ ino → ⊥) → (r.file.ino == ino) ≡ false
  other_file ino other = over (r.file.ino == ino) refl
    where
      over : (b : Bool) → (r.file.ino == ino) ≡ b → (r.file.ino == ino) ≡ false
      over false k = k
      over true k = absurd (other (so.ino_is ∙ equal r.file.ino ino k))

  known_here : candidates c (entries now) f.epoch F ≡ with_stamp v.stamp (candidates c (entries trace) f.epoch F)
  known_here = known_now c n trace f t ready here r d group_is granted ss (Some v.stamp) ends r.file.ino ∙ brought_stamps (record { ino = r.file.ino; stamp = v.stamp }) T.known (known_ascends c (entries trace) f.epoch t.group)

  known_there : (ino : ℕ) → (q.ino ≡ ino → ⊥) → candidates c (entries now) f.epoch (file_in t.group ino) ≡ candidates c (entries trace) f.epoch (file_in t.group ino)
  known_there ino other = known_now c n trace f t ready here r d group_is granted ss (Some v.stamp) ends ino ∙ published_same r.file (Some v.stamp) ino T.known (other_file ino other)

  known_after : (ino : ℕ) → known_stamps (file_row u ino) ≡ candidates c (entries now) f.epoch (file_in t.group ino)
  known_after ino = key_case (known_stamps (file_row u ino) ≡ candidates c (entries now) f.epoch (file_in t.group ino)) q.ino ino
      (λ same. ap known_stamps (at_file ino same) ∙ (so.known ∙ (sym known_here ∙ ap (λ (i : ℕ). candidates c (entries now) f.epoch (file_in t.group i)) (sym so.ino_is ∙ same))))
      (λ other. ap known_stamps (elsewhere ino other) ∙ (files.known ino ∙ sym (known_there ino other)))

  rows : Every (FileFact c now f.epoch t.group) u.files
  rows = every_row (FileFact c now f.epoch t.group) row_ino q t.files so.fact (every_both (FileFact c trace f.epoch t.group) (FileFact c now f.epoch t.group) t.files (file_row_stays c trace now versions f.epoch t.group) here.fact.rows)

  kept_after : (ino : ℕ) → map row_stamp (kept_rows (file_row u ino)) ≡ kept_in c (entries now) f.epoch (file_in t.group ino)
  kept_after = kept_from_known c now f u past rows known_after

  -- ---- who is noted ----

  started : IsStarted c trace f.epoch t.group
  started = sym here.fact.started ∙ is_started

  -- where one version was kept, one is
  one_still : (y : FileRow) → file_row t r.file.ino ≡ Some y → length y.kept ≡ 1 → length q.kept ≡ 1
  one_still y e one = sym (length-map q.kept row_stamp) ∙ (ap length (ap (λ (o : Option FileRow). map row_stamp (kept_rows o)) (sym (at_file r.file.ino so.ino_is)) ∙ kept_after r.file.ino)
      ∙ (stay c n trace f t ready here files r d group_is granted lies ss v ends made rest).order.single f.epoch F started (ap length (sym (files.kept_is r.file.ino) ∙ ap (λ (o : Option FileRow). map row_stamp (kept_rows o)) e) ∙ (length-map y.kept row_stamp ∙ one)))

  abbrev Noted : ℕ → Stamp → FileId → Type 0
  Noted site s g = IsNoted q site s ⊎ IsAhead c now f.epoch site g

  still_ahead : (site : ℕ) (s : Stamp) → (site ≡ ss → ⊥) → IsAhead c trace f.epoch site F → Noted site s F
  still_ahead site s other a = over (ahead_now c n trace f t ready here r d group_is granted ss (Some v.stamp) ends site F a)
    where
      over : IsAhead c now f.epoch site F ⊎ WasAhead c n trace f t ready here r d group_is granted ss (Some v.stamp) ends site F → Noted site s F
      over (inl k) = inr k
      over (inr k) = absurd (other k.site_is)

  was_held : (site : ℕ) (s : Stamp) → held_in c (entries now) f.epoch site F ≡ Some s → held_in c (entries trace) f.epoch site F ≡ Some s
  was_held site s held = sym (held_now c n trace f t ready here r d group_is granted ss (Some v.stamp) ends site r.file.ino) ∙ held

  by_row : (o : Option FileRow) → file_row t r.file.ino ≡ o → (site : ℕ) (s : Stamp) → (site ≡ ss → ⊥) → IsStill f.me q site → held_in c (entries now) f.epoch site F ≡ Some s → Noted site s F
  by_row None e site s other still held = over (known_or_ahead c trace ready.past.followed (packs_hold c trace (rest_below c trace ready.past.rest).packed) f.epoch site F s (was_held site s held))
    where
      none_known : candidates c (entries trace) f.epoch F ≡ []
      none_known = sym (files.known r.file.ino) ∙ ap known_stamps e

      over : IsKnownOrAhead c trace f.epoch site F s → Noted site s F
      over (inl known) = absurd (true_false (sym known ∙ ap (λ (ss : List Stamp). has_stamp ss s) none_known))
      over (inr a) = still_ahead site s other a
  by_row (Some y) e site s other still held = over (subst (λ (i : ℕ). held_in c (entries trace) f.epoch site (file_in t.group i) ≡ Some s → IsNoted y site s ⊎ IsAhead c trace f.epoch site (file_in t.group i)) y_ino (files.exact r.file.ino y e site s (was_still still)) (was_held site s held))
    where
      y_ino : y.ino ≡ r.file.ino
      y_ino = row_key_is row_ino r.file.ino t.files y e

      was_still : IsStill f.me q site → IsStill f.me y site
      was_still (inl k) = inl k
      was_still (inr many) = inr (λ one. many (one_still y e one))

      over : IsNoted y site s ⊎ IsAhead c trace f.epoch site F → Noted site s F
      over (inl k) = inl (so.others y e site s held k)
      over (inr a) = still_ahead site s other a

  exact_here : (site : ℕ) (s : Stamp) → IsStill f.me q site → held_in c (entries now) f.epoch site F ≡ Some s → Noted site s F
  exact_here site s still held = key_case (Noted site s F) site ss at_site (λ other. by_row (file_row t r.file.ino) refl site s other still held)
    where
      at_site : site ≡ ss → Noted site s F
      at_site same = inl (subst (λ (m : ℕ). IsNoted q m s) (sym same) (subst (λ (z : Stamp). IsNoted q ss z)
          (some_same v.stamp s (sym (has_now c n trace f t ready here files r d group_is granted lies ss v ends made rest) ∙ (ap (λ (m : ℕ). held_in c (entries now) f.epoch m F) (sym same) ∙ held))) so.site_has))

  exact_there : (ino : ℕ) (y : FileRow) → (q.ino ≡ ino → ⊥) → file_row t ino ≡ Some y → ExactFact c now f t.group y
  exact_there ino y other e site s still held = over (files.exact ino y e site s still (sym (held_now c n trace f t ready here r d group_is granted ss (Some v.stamp) ends site y.ino) ∙ held))
    where
      not_it : r.file ≡ file_in t.group y.ino → ⊥
      not_it k = other (so.ino_is ∙ (ap (λ (g : FileId). g.ino) k ∙ row_key_is row_ino ino t.files y e))

      ahead : IsAhead c now f.epoch site (file_in t.group y.ino) ⊎ WasAhead c n trace f t ready here r d group_is granted ss (Some v.stamp) ends site (file_in t.group y.ino) → IsNoted y site s ⊎ IsAhead c now f.epoch site (file_in t.group y.ino)
      ahead (inl k) = inr k
      ahead (inr k) = absurd (not_it k.file_is)

      over : IsNoted y site s ⊎ IsAhead c trace f.epoch site (file_in t.group y.ino) → IsNoted y site s ⊎ IsAhead c now f.epoch site (file_in t.group y.ino)
      over (inl k) = inl k
      over (inr a) = ahead (ahead_now c n trace f t ready here r d group_is granted ss (Some v.stamp) ends site (file_in t.group y.ino) a)

  exact_after : (ino : ℕ) (y : FileRow) → file_row u ino ≡ Some y → ExactFact c now f t.group y
  exact_after ino y e = key_case (ExactFact c now f t.group y) q.ino ino
      (λ same. subst (ExactFact c now f t.group) (some_same q y (sym (at_file ino same) ∙ e)) (λ site s still held. subst (Noted site s) (ap (file_in t.group) (sym so.ino_is)) (exact_here site s still (ap (λ (i : ℕ). held_in c (entries now) f.epoch site (file_in t.group i)) (sym so.ino_is) ∙ held))))
      (λ other. exact_there ino y other (sym (elsewhere ino other) ∙ e))

  pub published_files : FilesNow c now f (with_file (published_row ss r v (file_row t r.file.ino)) t)
  published_files = record { rows = rows; rise = rising_row q t.files here.fact.rise; files = record { known = known_after; kept_is = kept_after; exact = exact_after } }
