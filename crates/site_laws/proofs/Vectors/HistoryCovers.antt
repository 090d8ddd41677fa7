-- In every run what a site holds counts its own commits, where no stamp is given twice.
use Rattle.std.proofs.Common.{◌≡◌, ◌≢◌, ℕ, ◌+◌, ◌-◌, ◌==◌, ◌≤◌, ◌<◌, Bool, true, false, cond, not, List, [], ◌∷◌, ◌++◌, map, Option, Some, None, refl, sym, ◌∙◌, ap, subst, inl, inr, arith, ⊎_elim}
use Rattle.run_laws.proofs.of_plain_facts.Numbers.{equal}
use Rattle.run_laws.proofs.of_plain_facts.Options.{some_same}
use Rattle.run_laws.proofs.of_plain_facts.Tests.{both_true}
use Rattle.locus_ids.specs.declared.ids.FileId.{FileId}
use Rattle.locus_ids.specs.declared.ids.Stamp.{Stamp}
use Rattle.locus_ids.specs.declared.config.Config.{Config}
use Rattle.locus_ids.specs.Sizes.{inode_span}
use Rattle.run_laws.specs.of_schedule_lines.declared.line.ScheduleLine.{ScheduleLine}
use Rattle.version_vector.specs.Counters.{part, all_le, AllLe}
use Rattle.version_vector.proofs.Counting.{AllLe-from_test}
use Rattle.commit_graph.specs.declared.history.Version.{Version}
use Rattle.commit_graph.specs.Versions.{same_file, same_stamp, is_in, is_ancestor}
use Rattle.commit_graph.specs.Vectors.{vector_of}
use Rattle.commit_graph.proofs.Names.{same_stamp_eq}
use Rattle.conflict_flags.proofs.Vectors.{vector-written}
use Rattle.conflict_flags.specs.Written.{Numbered as Numbers, made_at, written}
use Rattle.conflict_flags.proofs.Ancestors.{place, own_count, in_there, ancestor-within, named, Named, true_or_false}
use Rattle.conflict_flags.proofs.Numbers.{written_low, eq_true}
use Rattle.trace_book.specs.declared.record.Record.{Record}
use Rattle.trace_book.specs.declared.record.Record.TheVariants as says
use Rattle.trace_book.specs.declared.record.StopCause.{StopCause}
use Rattle.trace_book.specs.declared.record.StopCause.TheVariants as cause
use Rattle.run_laws.specs.of_wire_messages.declared.packet.Packet.{Packet}
use Rattle.run_laws.specs.of_role_steps.Own.{Every}
use Rattle.run_laws.specs.of_role_steps.Tables.{row, with_row}
use Rattle.run_laws.specs.of_role_steps.Views.{SiteView, Told, Shown, DiskWrite, Outcome, Receives, file_key}
use Rattle.run_laws.specs.of_role_steps.Storage.{copy_key}
use Rattle.run_laws.specs.of_role_steps.declared.copies.FileCopy.{FileCopy}
use Rattle.run_laws.proofs.of_role_steps.Rows.{row_other, row_same}
use Rattle.run_laws.proofs.of_role_steps.Sending.{every_map}
use Rattle.run_laws.specs.of_the_run.Disks.{Disk, Booted, Whole, CutOff, boots, cut_disk, is_on_disk}
use Rattle.run_laws.specs.of_the_run.Steps.{step}
use Rattle.run_laws.specs.of_the_run.Worlds.{World, Place, Running, Stopped, links_of, place_at, script_of, happened, disk_of, puts, arms, passed, stops_with, cause_of, acts, fresh, root_copy, formatted, first_world}
use Rattle.run_laws.specs.of_the_run.Runs.{boots_as, packet_record, run_in}
use Rattle.run_laws.specs.of_the_run.Kept.{Kept}
use Rattle.run_laws.proofs.of_the_run.InsideSync.{Found, row_found}
use Rattle.run_laws.proofs.of_the_run.Boots.{at_each, acts_cases}
use Rattle.run_laws.proofs.of_the_run.Events.{happened_keeps, puts_other, puts_same}
use Rattle.run_laws.proofs.of_the_run.Runs.{every_run}
use Rattle.site_laws.specs.Vectors.Held.{IsOf, StillRecord, Still, Replaces, copies_on}
use Rattle.run_laws.proofs.Walks.FirstWorld.{first_places}
use Rattle.site_laws.specs.Vectors.Written.{past_of, InstancesAgree}
use Rattle.site_laws.specs.Vectors.Facts.{onto}
use Rattle.site_laws.proofs.Vectors.Facts.{onto_append}
use Rattle.site_laws.proofs.Vectors.FactsRun.{past_onto, run_numbered}
use Rattle.site_laws.proofs.Vectors.Held.{KeepsCopies, boots_copies}
use Rattle.site_laws.proofs.Vectors.SiteDisks.{SiteDisk, step_disk}
use Rattle.site_laws.proofs.Vectors.SyncFacts.{FoundAt, row_at}
use Rattle.site_laws.specs.Vectors.HistoryCommits.{with_record, with_told, commits_of, StampsAreOnce, SitesAreKnown, FitTold, NumbersFit, IsHeldAt, CommitsAreHeld, CountsOwn, AllCounted, Lawful, WhereLawful, IsTrueCopy}
use Rattle.site_laws.proofs.Vectors.HistoryNumbers.{Counting, counting, made_here}
use Rattle.site_laws.proofs.Vectors.HistoryHistory.{version_made, Sound, sound, same_file_eq, same_file_refl, once_older, all_own}
use Rattle.site_laws.proofs.Vectors.HistorySited.{run_sited, run_true_copies}

-- ---- what is lawful was so before ----

lawful_older : (x : Told) (past : List Told) → Lawful (x ∷ past) → Lawful past
lawful_older x past h = record { numbered = h.numbered.1; sited = h.sited.1; once = λ file. once_older file x (commits_of file past) (h.once file); fit = h.fit.1 }

lawful_before : (told past : List Told) → Lawful (onto told past) → Lawful past
lawful_before [] past h = h
lawful_before (x ∷ xs) past h = lawful_older x past (lawful_before xs (x ∷ past) h)

-- ---- what is told of a file ----

still_record : (file : FileId) (r : Record) (h : List Version) → StillRecord r → with_record file r h ≡ h
still_record file (says.Commit g s stamp parents content) h k = absurd k
still_record file _ h k = refl

still_told : (file : FileId) (x : Told) (h : List Version) → Still x → with_told file x h ≡ h
still_told file (Shown r) h k = still_record file r h k
still_told file _ h k = refl

still_commits : (file : FileId) (told past : List Told) → Every Still told → commits_of file (onto told past) ≡ commits_of file past
still_commits file [] past h = refl
still_commits file (x ∷ xs) past h = still_commits file xs (x ∷ past) h.1 ∙ still_told file x (commits_of file past) h.0

one_commits : (file : FileId) (before after : List Told) (r : Record) (past : List Told) → Every Still before → Every Still after → commits_of file (onto (before ++ Shown r ∷ after) past) ≡ with_record file r (commits_of file past)
one_commits file before after r past h g =
    ap (commits_of file) (onto_append before (Shown r ∷ after) past) ∙ (still_commits file after (Shown r ∷ onto before past) g ∙ ap (with_record file r) (still_commits file before past h))

-- ---- files by their keys ----

key_file : (a b : FileId) → a.ino < inode_span → b.ino < inode_span → file_key a ≡ file_key b → a ≡ b
key_file a b h g e = id_eq group ino
  where
    group : a.group ≡ b.group
    group = omega (arith, h, g, e)

    ino : a.ino ≡ b.ino
    ino = omega (arith, h, g, e)

    id_eq : a.group ≡ b.group → a.ino ≡ b.ino → a ≡ b
    id_eq e f = λ i. record { group = e i; ino = f i }

false_true : {b : Bool} → b ≡ false → b ≡ true → ⊥
false_true e f = absurd (cc)

its_file : (file g : FileId) (s : ℕ) (stamp : Stamp) (parents : List Stamp) (content : List ℕ) (h : List Version) → g ≡ file → with_record file (says.Commit g s stamp parents content) h ≡ version_made g s stamp parents content ∷ h
its_file file g s stamp parents content h e = ap (λ (b : Bool). cond b (version_made g s stamp parents content ∷ h) h) (same_file_refl g file e)

-- ---- counted ----

counts_same : (past now : List Told) (s : ℕ) (file : FileId) (o : Option FileCopy) → commits_of file now ≡ commits_of file past → CountsOwn past s file o → CountsOwn now s file o
counts_same past now s file None e h = λ a there site. h a (subst (λ (x : List Version). is_in x file a ≡ true) e there) site
counts_same past now s file (Some x) e h = (h.0, λ a there site. h.1 a (subst (λ (y : List Version). is_in y file a ≡ true) e there) site)

-- the count of a new commit is the greatest of its site
new_counts : (now : List Told) (file : FileId) (s : ℕ) (v : Version) (older : List Version) → commits_of file now ≡ v ∷ older → v.file ≡ file → v.stamp.site ≡ s → Lawful now → (a : Stamp) → is_in (commits_of file now) file a ≡ true → a.site ≡ s → a.n ≤ v.stamp.n
new_counts now file s v older e mine own lawful a there site =
    let h : List Version = commits_of file now in
    let k : Sound file now = sound file now lawful.numbered lawful.sited (lawful.once file) in
    let c : Counting file h = counting file h k.counted (lawful.once file) in
    let name : Named a = named file h k.counted a there in
    let low : 1 ≤ s = subst (λ (i : ℕ). 1 ≤ i) site name.low in
    let count : a.n ≡ part (written h file a) (place a) = own_count file h k.counted a there in
    let bound : part (written h file a) (s - 1) ≤ made_at h file s = written_low file h k.counted a s low in
    let at : part (written h file a) (place a) ≡ part (written h file a) (s - 1) = ap (λ (i : ℕ). part (written h file a) (i - 1)) site in
    let n : v.stamp.n ≡ made_at older v.file v.stamp.site + 1 = newest (subst Numbers e c.numbered) in
    let grows : made_at (v ∷ older) file s ≡ made_at older file s + 1 = rw (made_here file s v mine own) refl in
    let same : made_at h file s ≡ made_at (v ∷ older) file s = ap (λ (x : List Version). made_at x file s) e in
    let m : made_at older v.file v.stamp.site ≡ made_at older file s = ap (λ (f : FileId). made_at older f v.stamp.site) mine ∙ ap (made_at older file) own in
    omega (arith, count, bound, at, n, grows, same, m)
  where
    newest : Numbers (v ∷ older) → v.stamp.n ≡ made_at older v.file v.stamp.site + 1
    newest k = k.0

-- ---- one version more on a disk ----

-- another site's commit is none of this one's
not_mine : (file : FileId) (t : ℕ) (v : Version) (h : List Version) (a : Stamp) → v.file ≡ file → (v.stamp.site ≡ t → ⊥) → is_in (v ∷ h) file a ≡ true → a.site ≡ t → is_in h file a ≡ true
not_mine file t v h a mine ne there site =
    ⊎_elim
    (λ (e : same_stamp v.stamp a ≡ true). absurd (ne (ap (λ (x : Stamp). x.site) (same_stamp_eq v.stamp a e) ∙ site)))
    (λ (e : same_stamp v.stamp a ≡ false). sym (in_there file v h a mine e) ∙ there)
    (true_or_false (same_stamp v.stamp a))

counts_more : (past now : List Told) (t : ℕ) (file : FileId) (o : Option FileCopy) → ((a : Stamp) → is_in (commits_of file now) file a ≡ true → a.site ≡ t → is_in (commits_of file past) file a ≡ true) → CountsOwn past t file o → CountsOwn now t file o
counts_more past now t file None f h = λ a there site. h a (f a there site) site
counts_more past now t file (Some x) f h = (h.0, λ a there site. h.1 a (f a there site) site)

-- what a record tells of this site's commits of a file is nothing, if it is of another site or of another file
elsewhere : (past now : List Told) (t : ℕ) (file : FileId) (s : ℕ) (r : Record) (x : FileCopy) → commits_of file now ≡ with_record file r (commits_of file past) → IsOf s r x → (s ≡ t → x.file ≡ file → ⊥) → (a : Stamp) → is_in (commits_of file now) file a ≡ true → a.site ≡ t → is_in (commits_of file past) file a ≡ true
elsewhere past now t file s (says.Commit g u stamp parents content) x e is ne a there site = by_test (same_file g file) refl (subst (λ (h : List Version). is_in h file a ≡ true) e there)
  where
    by_test : (b : Bool) → same_file g file ≡ b → is_in (cond b (version_made g u stamp parents content ∷ commits_of file past) (commits_of file past)) file a ≡ true → is_in (commits_of file past) file a ≡ true
    by_test true q k = not_mine file t (version_made g u stamp parents content) (commits_of file past) a (same_file_eq g file q) (λ f. ne (sym is.1.own ∙ f) (is.1.file_is ∙ same_file_eq g file q)) k site
    by_test false q k = k
elsewhere past now t file s (says.Adopt g u stamp) x e is ne a there site = subst (λ (h : List Version). is_in h file a ≡ true) e there
elsewhere past now t file s _ x e is ne a there site = absurd is

-- this site's own version of the file
own_counts : (past now : List Told) (s : ℕ) (file : FileId) (r : Record) (x : FileCopy) (old : Option FileCopy) → commits_of file now ≡ with_record file r (commits_of file past) → IsOf s r x → Replaces r x old → x.file ≡ file → Lawful now → CountsOwn past s file old → CountsOwn now s file (Some x)
own_counts past now s file (says.Commit g u stamp parents content) x old e is up same lawful h =
    let v : Version = version_made g u stamp parents content in
    let mine : g ≡ file = sym is.1.file_is ∙ same in
    let n : part x.vector (s - 1) ≡ stamp.n = is.1.counted in
    (same, λ a there site. (let k : a.n ≤ stamp.n = new_counts now file s v (commits_of file past) (e ∙ its_file file g u stamp parents content (commits_of file past) mine) mine is.1.own lawful a there site in omega (arith, k, n)))
own_counts past now s file (says.Adopt g u stamp) x None e is up same lawful h = (same, λ a there site. absurd (h a (subst (λ (y : List Version). is_in y file a ≡ true) e there) site))
own_counts past now s file (says.Adopt g u stamp) x (Some own) e is up same lawful h =
    let below : AllLe own.vector x.vector = AllLe-from_test own.vector x.vector (both_true (all_le own.vector x.vector) (not (all_le x.vector own.vector)) up).0 in
    (same, λ a there site. (let k : a.n ≤ part own.vector (s - 1) = h.1 a (subst (λ (y : List Version). is_in y file a ≡ true) e there) site in let l : part own.vector (s - 1) ≤ part x.vector (s - 1) = below.each (s - 1) in omega (arith, k, l)))
own_counts past now s file _ x old e is up same lawful h = absurd is

-- a disk after one version was written at its site
written_counts : (past now : List Told) (s : ℕ) (d : DiskWrite) (copies : List FileCopy) → ((file : FileId) → commits_of file now ≡ with_record file d.says (commits_of file past)) → IsOf s d.says d.copy → Replaces d.says d.copy (row copy_key (copy_key d.copy) copies) → d.copy.file.ino < inode_span → Lawful now → AllCounted past s copies → AllCounted now s (with_row copy_key d.copy copies)
written_counts past now s d copies e is up fit lawful h file small =
    (elim (copy_key d.copy == file_key file) as (λ b. (copy_key d.copy == file_key file) ≡ b → CountsOwn now s file (row copy_key (file_key file) (with_row copy_key d.copy copies))) [
      | true ↦ λ q. own q
      | false ↦ λ q. other q
    ]) refl
  where
    own : (copy_key d.copy == file_key file) ≡ true → CountsOwn now s file (row copy_key (file_key file) (with_row copy_key d.copy copies))
    own q =
        let key : copy_key d.copy ≡ file_key file = equal (copy_key d.copy) (file_key file) q in
        let same : d.copy.file ≡ file = key_file d.copy.file file fit small key in
        let old : CountsOwn past s file (row copy_key (copy_key d.copy) copies) = subst (λ (k : ℕ). CountsOwn past s file (row copy_key k copies)) (sym key) (h file small) in
        let new : CountsOwn now s file (Some d.copy) = own_counts past now s file d.says d.copy (row copy_key (copy_key d.copy) copies) (e file) is up same lawful old in
        subst (CountsOwn now s file) (sym (subst (λ (k : ℕ). row copy_key k (with_row copy_key d.copy copies) ≡ Some d.copy) key (row_same copy_key d.copy copies))) new

    other : (copy_key d.copy == file_key file) ≡ false → CountsOwn now s file (row copy_key (file_key file) (with_row copy_key d.copy copies))
    other q =
        subst (CountsOwn now s file) (sym (row_other copy_key d.copy (file_key file) copies q))
        (counts_more past now s file (row copy_key (file_key file) copies) (elsewhere past now s file s d.says d.copy (e file) is (λ f g. false_true q (eq_true (copy_key d.copy) (file_key file) (ap file_key g)))) (h file small))

-- a disk of another site
other_counts : (past now : List Told) (t s : ℕ) (d : DiskWrite) (copies : List FileCopy) → ((file : FileId) → commits_of file now ≡ with_record file d.says (commits_of file past)) → IsOf s d.says d.copy → s ≢ t → AllCounted past t copies → AllCounted now t copies
other_counts past now t s d copies e is ne h file small = counts_more past now t file (row copy_key (file_key file) copies) (elsewhere past now t file s d.says d.copy (e file) is (λ f g. ne f)) (h file small)

still_counts : (past now : List Told) (t : ℕ) (copies : List FileCopy) → ((file : FileId) → commits_of file now ≡ commits_of file past) → AllCounted past t copies → AllCounted now t copies
still_counts past now t copies e h file small = counts_same past now t file (row copy_key (file_key file) copies) (e file) (h file small)

-- ---- one event ----

happened_counts : (n : ℕ) (ps : List Packet) (told : List Told) (change : World → World) (w : World) →
    (Lawful (onto told (past_of w.trace)) → ((s : ℕ) (p : Place) → place_at w s ≡ Some p → AllCounted (past_of w.trace) s (copies_on p)) → (t : ℕ) (p : Place) → place_at (change w) t ≡ Some p → AllCounted (onto told (past_of w.trace)) t (copies_on p)) → WhereLawful w → WhereLawful (happened n ps told change w)
happened_counts n ps told change w now g =
    happened_keeps WhereLawful n ps told change w g (λ l h. g h)
    (λ k b t h s p here. (let f : Lawful (onto told (past_of w.trace)) = subst Lawful (past_onto n told w.trace) h in subst (λ (x : List Told). AllCounted x s (copies_on p)) (sym (past_onto n told w.trace)) (now f (g (lawful_before told (past_of w.trace) f)) s p here)))

-- nothing of a version is told, and one place changes but not its disk
still_event : (n s : ℕ) (old new : Place) (told : List Told) (ps : List Packet) (change : World → World) (w : World) → place_at w s ≡ Some old → copies_on new ≡ copies_on old → ((t : ℕ) → place_at (change w) t ≡ place_at (puts s new w) t) → Every Still told → WhereLawful w → WhereLawful (happened n ps told change w)
still_event n s old new told ps change w here disk same still g =
    happened_counts n ps told change w (λ f h t p at. at_each s t (AllCounted now t (copies_on p))
    (λ e. subst (λ (u : ℕ). AllCounted now u (copies_on p)) e (mine h p (sym (puts_same s new w) ∙ (sym (same s) ∙ (ap (place_at (change w)) e ∙ at)))))
    (λ ne. still_counts past now t (copies_on p) quiet (h t p (sym (puts_other s t new w ne) ∙ (sym (same t) ∙ at))))) g
  where
    past : List Told
    past = past_of w.trace

    now : List Told
    now = onto told past

    quiet : (file : FileId) → commits_of file now ≡ commits_of file past
    quiet file = still_commits file told past still

    mine : ((u : ℕ) (p : Place) → place_at w u ≡ Some p → AllCounted past u (copies_on p)) → (p : Place) → Some new ≡ Some p → AllCounted now s (copies_on p)
    mine h p e = subst (λ (q : Place). AllCounted now s (copies_on q)) (some_same new p e) (subst (λ (xs : List FileCopy). AllCounted now s xs) (sym disk) (still_counts past now s (copies_on old) quiet (h s old here)))

world_event : (n : ℕ) (told : List Told) (w : World) → Every Still told → WhereLawful w → WhereLawful (happened n [] told (λ now. now) w)
world_event n told w still g = happened_counts n [] told (λ now. now) w (λ f h t p at. still_counts (past_of w.trace) (onto told (past_of w.trace)) t (copies_on p) (λ file. still_commits file told (past_of w.trace) still) (h t p at)) g

fit_record : (s : ℕ) (r : Record) (x : FileCopy) → IsOf s r x → FitTold (Shown r) → x.file.ino < inode_span
fit_record s (says.Commit g t stamp parents content) x is fit = subst (λ (file : FileId). file.ino < inode_span) (sym is.1.file_is) fit
fit_record s (says.Adopt g t stamp) x is fit = subst (λ (file : FileId). file.ino < inode_span) (sym is.1) fit
fit_record s _ x is fit = absurd is

fit_in : (before after : List Told) (r : Record) (past : List Told) → Every FitTold (onto (before ++ Shown r ∷ after) past) → FitTold (Shown r)
fit_in before after r past h = (fit_last after (Shown r ∷ onto before past) (subst (Every FitTold) (onto_append before (Shown r ∷ after) past) h)).0
  where
    fit_last : (after past : List Told) → Every FitTold (onto after past) → Every FitTold past
    fit_last [] past h = h
    fit_last (x ∷ xs) past h = (fit_last xs (x ∷ past) h).1

write_event : (n s : ℕ) (old new : Place) (d : DiskWrite) (before after told : List Told) (ps : List Packet) (change : World → World) (w : World) → place_at w s ≡ Some old → copies_on new ≡ with_row copy_key d.copy (copies_on old) → IsOf s d.says d.copy → Replaces d.says d.copy (row copy_key (copy_key d.copy) (copies_on old)) →
    told ≡ before ++ Shown d.says ∷ after → Every Still before → Every Still after → ((t : ℕ) → place_at (change w) t ≡ place_at (puts s new w) t) → WhereLawful w → WhereLawful (happened n ps told change w)
write_event n s old new d before after told ps change w here disk is up e b a same g =
    happened_counts n ps told change w (λ f h t p at. at_each s t (AllCounted now t (copies_on p))
    (λ q. subst (λ (u : ℕ). AllCounted now u (copies_on p)) q (mine f h p (sym (puts_same s new w) ∙ (sym (same s) ∙ (ap (place_at (change w)) q ∙ at)))))
    (λ ne. other_counts past now t s d (copies_on p) one is ne (h t p (sym (puts_other s t new w ne) ∙ (sym (same t) ∙ at))))) g
  where
    past : List Told
    past = past_of w.trace

    now : List Told
    now = onto told past

    one : (file : FileId) → commits_of file now ≡ with_record file d.says (commits_of file past)
    one file = ap (λ (xs : List Told). commits_of file (onto xs past)) e ∙ one_commits file before after d.says past b a

    mine : Lawful now → ((u : ℕ) (p : Place) → place_at w u ≡ Some p → AllCounted past u (copies_on p)) → (p : Place) → Some new ≡ Some p → AllCounted now s (copies_on p)
    mine f h p q = subst (λ (r : Place). AllCounted now s (copies_on r)) (some_same new p q) (subst (λ (xs : List FileCopy). AllCounted now s xs) (sym disk)
        (written_counts past now s d (copies_on old) one is up (fit_record s d.says d.copy is (fit_in before after d.says past (subst (λ (xs : List Told). Every FitTold (onto xs past)) e f.fit))) f (h s old here)))

-- ---- a step of a site ----

put_same : (s : ℕ) (p : Place) (u w : World) → ((t : ℕ) → place_at u t ≡ place_at w t) → (t : ℕ) → place_at (puts s p u) t ≡ place_at (puts s p w) t
put_same s p u w e t = at_each s t (place_at (puts s p u) t ≡ place_at (puts s p w) t) (λ q. subst (λ (x : ℕ). place_at (puts s p u) x ≡ place_at (puts s p w) x) q (puts_same s p u ∙ sym (puts_same s p w))) (λ ne. puts_other s t p u ne ∙ (e t ∙ sym (puts_other s t p w ne)))

runs_counts : (n s : ℕ) (v : SiteView) (o : Outcome SiteView) (change : World → World) (w : World) → place_at w s ≡ Some (Running v) → SiteDisk s v o → ((t : ℕ) → place_at (change w) t ≡ place_at w t) → WhereLawful w → WhereLawful (happened n o.sent o.told (λ now. puts s (Running o.view) (change now)) w)
runs_counts n s v o change w here (inl h) same g = still_event n s (Running v) (Running o.view) o.told o.sent (λ now. puts s (Running o.view) (change now)) w here h.copies (put_same s (Running o.view) (change w) w same) h.still g
runs_counts n s v o change w here (inr h) same g = write_event n s (Running v) (Running o.view) h.0 h.1.before h.1.after o.told o.sent (λ now. puts s (Running o.view) (change now)) w here h.1.copies h.1.says_so h.1.above h.1.told_is h.1.still_before h.1.still_after (put_same s (Running o.view) (change w) w same) g

no_write : (d : DiskWrite) → ◌≡◌ {A = Option DiskWrite} None (Some d) → ⊥
no_write d e = cc

write_is : (s : ℕ) (v : SiteView) (o : Outcome SiteView) (d : DiskWrite) → o.written ≡ Some d → SiteDisk s v o → IsOf s d.says d.copy × Replaces d.says d.copy (row copy_key (copy_key d.copy) v.store.copies)
write_is s v o d e (inl h) = absurd (no_write d (sym h.none ∙ e))
write_is s v o d e (inr h) = subst (λ (x : DiskWrite). IsOf s x.says x.copy × Replaces x.says x.copy (row copy_key (copy_key x.copy) v.store.copies)) (some_same h.0 d (sym h.1.is_written ∙ e)) (h.1.says_so, h.1.above)

cut_counts : (n s : ℕ) (v : SiteView) (d : DiskWrite) (disk : Disk) (how : StopCause) (b : Bool) (w : World) → place_at w s ≡ Some (Running v) → disk.copies ≡ cond b (with_row copy_key d.copy v.store.copies) v.store.copies → IsOf s d.says d.copy → Replaces d.says d.copy (row copy_key (copy_key d.copy) v.store.copies) → WhereLawful w →
    WhereLawful (happened n [] (cond b (Shown d.says ∷ Shown (says.Stopped s how) ∷ []) (Shown (says.Stopped s how) ∷ [])) (stops_with s disk) w)
cut_counts n s v d disk how true w here e is up g = write_event n s (Running v) (Stopped disk) d [] (Shown (says.Stopped s how) ∷ []) (Shown d.says ∷ Shown (says.Stopped s how) ∷ []) [] (stops_with s disk) w here e is up refl tt (tt, tt) (λ t. refl) g
cut_counts n s v d disk how false w here e is up g = still_event n s (Running v) (Stopped disk) (Shown (says.Stopped s how) ∷ []) [] (stops_with s disk) w here e (λ t. refl) (tt, tt) g

acts_counts : (n s : ℕ) (v : SiteView) (o : Outcome SiteView) (w : World) → place_at w s ≡ Some (Running v) → SiteDisk s v o → WhereLawful w → WhereLawful (acts n s v o w)
acts_counts n s v o w here h g =
    acts_cases WhereLawful n s v o w
    (runs_counts n s v o (λ now. now) w here h (λ t. refl) g)
    (λ a. runs_counts n s v o (arms a) w here h (λ t. refl) g)
    (λ d a e. (let k : IsOf s d.says d.copy × Replaces d.says d.copy (row copy_key (copy_key d.copy) v.store.copies) = write_is s v o d e h in cut_counts n s v d (cut_disk v.boot v.store d a.how a.left) (cause_of a.how) (is_on_disk v.store d a.how a.left) w here refl k.0 k.1 g))

as_counts : (n s : ℕ) (d : Disk) (b : Booted) (w : World) → place_at w s ≡ Some (Stopped d) → KeepsCopies d.copies b → WhereLawful w → WhereLawful (boots_as n s b w)
as_counts n s d (Whole x None) w here e g = still_event n s (Stopped d) (Running (fresh x.label.boot x.copies)) (Shown (says.Up s x.label.boot) ∷ []) [] _ w here e (λ t. refl) (tt, tt) g
as_counts n s d (Whole x (Some a)) w here e g = still_event n s (Stopped d) (Running (fresh x.label.boot x.copies)) (Shown (says.Up s x.label.boot) ∷ []) [] _ w here e (λ t. refl) (tt, tt) g
as_counts n s d (CutOff x how) w here e g = still_event n s (Stopped d) (Stopped x) (Shown (says.Stopped s (cause_of how)) ∷ []) [] _ w here e (λ t. refl) (tt, tt) g

pub counts_kept : (c : Config) → Kept c WhereLawful
counts_kept c = record {
  steps = λ n s e v w here own g. acts_counts n s v (step c s (links_of w s) v e) w here (step_disk c s (links_of w s) v e) g;
  receives = λ n x v w here sent g. acts_counts n x.packet.to v (step c x.packet.to (links_of (passed x.number w) x.packet.to) v (Receives x.packet)) (passed x.number w) here (step_disk c x.packet.to (links_of (passed x.number w) x.packet.to) v (Receives x.packet)) (λ h s p at. g h s p at);
  passes = λ k w g h s p at. g h s p at;
  drops = λ k w g h s p at. g h s p at;
  recuts = λ xs w g h s p at. g h s p at;
  arming = λ a w g h s p at. g h s p at;
  voiding = λ n w g. world_event n (Shown says.Void ∷ []) w (tt, tt) g;
  budgets = λ n w g. world_event n (Shown says.Budget ∷ []) w (tt, tt) g;
  pending = λ n w g. world_event n (map packet_record w.underway) w (every_map Still packet_record w.underway (λ x. tt)) g;
  stopping = λ n s v w here g. still_event n s (Running v) (Stopped (disk_of v)) (Shown (says.Stopped s cause.Asked) ∷ []) [] _ w here refl (λ t. refl) (tt, tt) g;
  booting = λ n s d w here g. as_counts n s d (boots (script_of w s) d) w here (boots_copies (script_of w s) d) g;
}

-- ---- the first world ----

abbrev IsRoot : FileCopy → Type 0
IsRoot x = x.file.ino ≡ 1

none_counts : (s : ℕ) (file : FileId) (o : Option FileCopy) → file.ino < inode_span → FoundAt IsRoot copy_key (file_key file) o → CountsOwn [] s file o
none_counts s file None small h = λ a there site. false_true refl there
none_counts s file (Some x) small h = (key_file x.file file (let r : x.file.ino ≡ 1 = h.1 in omega (arith, r)) small h.0, λ a there site. absurd (false_true refl there))

first_counts : (c : Config) (s t : ℕ) → AllCounted [] s (formatted c t)
first_counts c s t file small = none_counts s file (row copy_key (file_key file) (formatted c t)) small (row_at IsRoot copy_key (file_key file) (formatted c t) (every_map IsRoot (root_copy c) _ (λ g. refl)))

pub first_counted : (c : Config) → WhereLawful (first_world c)
first_counted c h s p here = first_places c (λ t q. AllCounted [] t (copies_on q)) (λ t own. first_counts c t t) s p here

run_counts : (c : Config) (lines : List ScheduleLine) → WhereLawful (run_in c lines)
run_counts c lines = every_run c WhereLawful (counts_kept c) (first_counted c) lines

-- ---- the law ----

pub held_by : (past : List Told) → Lawful past → (s : ℕ) (file : FileId) (o : Option FileCopy) → Found (IsTrueCopy past) o → CountsOwn past s file o → IsHeldAt past s file o
held_by past lawful s file None k h = h
held_by past lawful s file (Some x) k h = (h.0, λ a there site. holds a there site k)
  where
    history : List Version
    history = commits_of x.file past

    sounds : Sound x.file past
    sounds = sound x.file past lawful.numbered lawful.sited (lawful.once x.file)

    counted : (a : Stamp) → is_in history x.file a ≡ true → a.site ≡ s → a.n ≤ part x.vector (s - 1)
    counted a there site = h.1 a (subst (λ (f : FileId). is_in (commits_of f past) f a ≡ true) h.0 there) site

    holds : (a : Stamp) → is_in history x.file a ≡ true → a.site ≡ s → IsTrueCopy past x → is_ancestor history x.file a x.stamp ≡ true
    holds a there site (inl f) =
        let name : Named a = named x.file history sounds.counted a there in
        let pos : 0 < a.n = name.pos in
        let n : a.n ≤ part x.vector (s - 1) = counted a there site in
        let none : part x.vector (s - 1) ≡ 0 = f.1 (s - 1) in
        absurd (omega (arith, pos, n, none))
    holds a there site (inr f) =
        let name : Named a = named x.file history sounds.counted a there in
        let n : a.n ≤ part x.vector (s - 1) = counted a there site in
        let at : part x.vector (s - 1) ≡ part x.vector (place a) = ap (λ (i : ℕ). part x.vector (i - 1)) (sym site) in
        let same : part x.vector (place a) ≡ part (vector_of history x.file x.stamp) (place a) = f.1 (place a) in
        let own : part (written history x.file x.stamp) (place a) ≡ part (vector_of history x.file x.stamp) (place a) = vector-written x.file history sounds.counted (all_own x.file past lawful.numbered lawful.sited) x.stamp (place a) in
        ancestor-within x.file history sounds.counted a x.stamp name.low name.pos (omega (arith, n, at, same, own))

pub run_held : (c : Config) (lines : List ScheduleLine) → InstancesAgree (past_of (run_in c lines).trace) → StampsAreOnce (past_of (run_in c lines).trace) → NumbersFit (past_of (run_in c lines).trace) → CommitsAreHeld (run_in c lines)
run_held c lines agree once fit s p file here small =
    let past : List Told = past_of (run_in c lines).trace in
    let k : SitesAreKnown (run_in c lines) = run_sited c lines in
    let lawful : Lawful past = record { numbered = run_numbered c lines agree; sited = k.commits; once = once; fit = fit } in
    held_by past lawful s file (row copy_key (file_key file) (copies_on p)) (row_found (IsTrueCopy past) copy_key (file_key file) (copies_on p) (run_true_copies c lines agree once s p here)) (run_counts c lines lawful s p here file small)
