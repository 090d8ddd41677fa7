-- Each stop within a disk call is where the disk is cut, by the past.
use Rattle.std.proofs.Common.{◌≡◌, ℕ, ◌==◌, ◌≤◌, Bool, true, false, cond, ◌&&◌, ◌||◌, List, [], ◌∷◌, ◌++◌, map, filter, Some, refl, sym, ap, subst, ◌∙◌, arith, length}
use Rattle.std.specs.Prelude.{fold}
use Rattle.std.specs.List.{find, list_any}
use Rattle.locus_ids.specs.declared.config.Config.{Config}
use Rattle.locus_ids.specs.declared.ids.FileId.{FileId}
use Rattle.locus_ids.specs.declared.ids.Stamp.{Stamp}
use Rattle.commit_graph.specs.Versions.{same_file, same_stamp}
use Rattle.trace_book.specs.declared.record.Record.{Record}
use Rattle.trace_book.specs.declared.record.Record.TheVariants as rec
use Rattle.schedule_lines.specs.declared.line.ScheduleLine.{ScheduleLine}
use Rattle.disk_calls.specs.Versions.{blocks}
use Rattle.tree_model.specs.declared.instance.Instance.{Instance as TreeInstance}
use Rattle.tree_model.specs.Files.{committing}
use Rattle.tree_model.specs.Folds.{Trace}
use Rattle.tree_model.specs.State.{has_stamp}
use Rattle.lawful_trace.specs.Disks.{Armed, Writing as FoldWriting, writing_commit}
use Rattle.headline_laws.specs.WholeRuns.Wrote.{writing_adopted}
use Rattle.lawful_trace.specs.Lawful.{MayCome}
use Rattle.lawful_trace.specs.Prompt.{delivers, stands_at, ticks}
use Rattle.lawful_trace.specs.TreeRows.{MayCommit, MayAdopt}
use Rattle.promises.specs.Past.{Past, Copy, Epoch, Instance, epoch_at, is_writer}
use Rattle.promises.specs.After.{is_home_of, writers_of}
use Rattle.promises.specs.Beside.{is_commit_asked}
use Rattle.promises.specs.Rows.{is_there, may_adopt}
use Rattle.promises.specs.Stops.{Writing, underway, underway_in, writing_by, writing_of, writings_in}
use Rattle.past_laws.specs.Agreement.{Agrees, is_of_cluster}
use Rattle.past_laws.proofs.Changing.{Finds, any_filtered, any_finds, any_same, found_any}
use Rattle.past_laws.proofs.FilesFirst.{Committer, committer}
use Rattle.past_laws.proofs.Finding.{any_mapped}
use Rattle.past_laws.proofs.MadeKnown.{candidates_alike}
use Rattle.past_laws.proofs.Names.{both, both_parts, file_eq, number_own, some_same, stamp_eq}
use Rattle.past_laws.proofs.RowsAdopt.{row_adopt}
use Rattle.past_laws.proofs.Sites.{of_cluster_there}
use Rattle.headline_laws.specs.StopRuns.Stops.{IsUnderway, IsVersionCut, IsCommitAsked}
use Rattle.headline_laws.proofs.StopPromises.Disks.{WritesSame, commit_same, adoption_same}
use Rattle.headline_laws.proofs.StopPromises.Versions.{arming_as, is_cut_so, cut_same, commit_asked, home_only, writer_found}

-- ---- lists ----

pub or_first : (a b : Bool) → a ≡ true → (a || b) ≡ true
or_first true b h = refl
or_first false b h = absurd (cc)

pub or_second : (a b : Bool) → b ≡ true → (a || b) ≡ true
or_second true b h = refl
or_second false b h = h

any_left : {X : Type 0} (q : X → Bool) (xs ys : List X) → list_any q xs ≡ true → list_any q (xs ++ ys) ≡ true
any_left q [] ys h = absurd (cc)
any_left {X} q (x ∷ xs) ys h = at (q x) (any_left q xs ys) h
  where
    at : (b : Bool) → (list_any q xs ≡ true → list_any q (xs ++ ys) ≡ true) → (b || list_any q xs) ≡ true → (b || list_any q (xs ++ ys)) ≡ true
    at true later k = refl
    at false later k = later k

any_right : {X : Type 0} (q : X → Bool) (xs ys : List X) → list_any q ys ≡ true → list_any q (xs ++ ys) ≡ true
any_right q [] ys h = h
any_right q (x ∷ xs) ys h = or_second (q x) (list_any q (xs ++ ys)) (any_right q xs ys h)

-- the image of one that was found and passes
any_image : {X Y : Type 0} (q : Y → Bool) (g : X → Y) (r w : X → Bool) (xs : List X) (x : X) → find w xs ≡ Some x → r x ≡ true → q (g x) ≡ true → list_any q (map g (filter r xs)) ≡ true
any_image q g r w xs x found passes h = any_mapped g q (filter r xs) ∙ (any_filtered (λ y. q (g y)) r xs ∙ found_any w (λ y. r y && q (g y)) xs x found (both (r x) (q (g x)) passes h))

-- ---- versions that are underway ----

-- what an epoch has underway is all that is, where the site is in it
underway_there : (pages : List ℕ) (q : Writing → Bool) (c : Config) (before : Trace) (l : ScheduleLine) (p : Past) → Agrees c before p → (site : ℕ) (t : Epoch) → filter (is_home_of p site) p.epochs ≡ t ∷ [] → list_any q (underway_in pages c l p site t) ≡ true → list_any q (underway pages c l p site) ≡ true
underway_there pages q c before l p a site t home h = ap (λ (ts : List Epoch). list_any q (fold (λ ws (u : Epoch). underway_in pages c l p site u ++ ws) [] ts)) home ∙ any_left q (underway_in pages c l p site t) [] h

commit_underway : (pages : List ℕ) (c : Config) (before : Trace) (l : ScheduleLine) (p : Past) → Agrees c before p → (site : ℕ) → is_there p site ≡ true → (f : FileId) (stamp : Stamp) (parents : List Stamp) (content : List ℕ) → MayCommit c before f site stamp parents content → IsCommitAsked c before f site → delivers l ≡ true
    → (q : Writing → Bool) → ((w : Writing) → WritesSame w (writing_commit c before f site) → q w ≡ true) → list_any q (underway pages c l p site) ≡ true
commit_underway pages c before l p a site there f stamp parents content may asked place q h = over (committer c before p f site stamp parents content may a)
  where
    t : Epoch
    t = epoch_at p may.epoch

    over : Committer c before p f site may.instance → list_any q (underway pages c l p site) ≡ true
    over k = underway_there pages q c before l p a site t (home_only c before p a site may.epoch may.inside) (any_left q _ _
        (any_image q (writing_by p site) (λ (x : Instance). delivers l && ((x.grant.ss == site) && (x.work.owes && is_commit_asked c p t x))) (is_writer f site) t.opened k.one (writer_found c before p a f site may.epoch k.one may.inside k.only)
        (both (delivers l) _ place
        (both (k.one.grant.ss == site) _ (ap (λ (n : ℕ). n == site) (ap (λ (y : TreeInstance). y.grant.ss) k.is ∙ may.at) ∙ number_own site)
        (both k.one.work.owes _ (ap (λ (y : TreeInstance). y.work.owes) k.is ∙ may.owes)
        (commit_asked c before p a may.epoch f site k.one may.inside (k.committing ∙ ap (λ (y : TreeInstance). Some y) (sym k.is)) asked))))
        (h (writing_by p site k.one) (commit_same c before p a f site there k.one may.instance k.is k.of k.committing))))

adoption_underway : (pages : List ℕ) (c : Config) (before : Trace) (l : ScheduleLine) (p : Past) → Agrees c before p → (site : ℕ) → is_of_cluster c site ≡ true → (f : FileId) (stamp : Stamp) → MayAdopt c before f site stamp → ticks l ≡ true
    → (q : Writing → Bool) → ((w : Writing) → WritesSame w (writing_adopted pages c before f site stamp) → q w ≡ true) → list_any q (underway pages c l p site) ≡ true
adoption_underway pages c before l p a site ours f stamp may place q h = over (any_finds (λ (v : Copy). same_file v.file f && same_stamp v.stamp stamp) t.known known)
  where
    t : Epoch
    t = epoch_at p may.epoch

    home : filter (is_home_of p site) p.epochs ≡ t ∷ []
    home = home_only c before p a site may.epoch may.inside

    known : list_any (λ (v : Copy). same_file v.file f && same_stamp v.stamp stamp) t.known ≡ true
    known = sym (any_filtered (λ (v : Copy). same_stamp v.stamp stamp) (λ (v : Copy). same_file v.file f) t.known)
        ∙ (sym (any_mapped (λ (v : Copy). v.stamp) (λ s. same_stamp s stamp) (filter (λ (v : Copy). same_file v.file f) t.known))
        ∙ (ap (λ ss. has_stamp ss stamp) (sym (candidates_alike c before p may.epoch f a)) ∙ may.known))

    twice : (x y : Bool) → (x && y) ≡ (x && (x && y))
    twice true y = refl
    twice false y = refl

    row : may_adopt p f site stamp t ≡ true
    row = sym (or_false (may_adopt p f site stamp t))
        ∙ (ap (list_any (may_adopt p f site stamp)) (sym home)
        ∙ (any_filtered (may_adopt p f site stamp) (is_home_of p site) p.epochs
        ∙ (any_same _ _ (λ (u : Epoch). sym (twice (is_home_of p site u) _)) p.epochs
        ∙ row_adopt c before p f site stamp a ours may)))
      where
        or_false : (b : Bool) → (b || false) ≡ b
        or_false true = refl
        or_false false = refl

    over : Finds (λ (v : Copy). same_file v.file f && same_stamp v.stamp stamp) t.known → list_any q (underway pages c l p site) ≡ true
    over it = (let parts = both_parts (same_file it.one.file f) (same_stamp it.one.stamp stamp) it.passes in
        let file = file_eq it.one.file f parts.0 in
        let at = stamp_eq it.one.stamp stamp parts.1 in
        underway_there pages q c before l p a site t home (any_right q _ _
        (any_image q (writing_of pages p site) (λ (v : Copy). ticks l && may_adopt p v.file site v.stamp t) (λ (v : Copy). same_file v.file f && same_stamp v.stamp stamp) t.known it.one it.found
        (both (ticks l) _ place (ap (λ (g : FileId). may_adopt p g site it.one.stamp t) file ∙ (ap (λ (s : Stamp). may_adopt p f site s t) at ∙ row)))
        (h (writing_of pages p site it.one) (adoption_same pages c before p a f site stamp (of_cluster_there c p.sites site a.sites.numbers ours) it.one file at)))))

-- a version that is cut and doesn't stay is underway
pub cut_underway : (wrote : ℕ → List ℕ) (c : Config) (before : Trace) (l : ScheduleLine) (p : Past) → Agrees c before p → (site : ℕ) → is_of_cluster c site ≡ true → (r : Record) → IsUnderway c before r → stands_at l r ≡ true → (arming : Armed) (stay : Bool) → IsVersionCut wrote c before site r arming stay → list_any (is_cut_so stay (arming_as arming)) (underway (wrote (length before)) c l p site) ≡ true
cut_underway wrote c before l p a site ours (rec.Commit f s stamp parents content) under place arming stay k = commit_underway (wrote (length before)) c before l p a site (of_cluster_there c p.sites site a.sites.numbers ours) f stamp parents content (subst (λ (n : ℕ). MayCommit c before f n stamp parents content) own under.0) (subst (λ (n : ℕ). IsCommitAsked c before f n) own under.1) place _
    (λ w s. cut_same arming w k.writing (subst (λ (v : FoldWriting). WritesSame w v) (ap (writing_commit c before f) (sym own) ∙ sym k.writes) s) k.passed k.cut stay k.left)
  where
    own : s ≡ site
    own = some_same s site k.own
cut_underway wrote c before l p a site ours (rec.Adopt f s stamp) under place arming stay k = adoption_underway (wrote (length before)) c before l p a site ours f stamp (subst (λ (n : ℕ). MayAdopt c before f n stamp) own under) place _
    (λ w s. cut_same arming w k.writing (subst (λ (v : FoldWriting). WritesSame w v) (ap (λ (n : ℕ). writing_adopted (wrote (length before)) c before f n stamp) (sym own) ∙ sym k.writes) s) k.passed k.cut stay k.left)
  where
    own : s ≡ site
    own = some_same s site k.own
cut_underway wrote c before l p a site ours _ under place arming stay k = absurd under

-- ---- versions that are told ----

pub cut_told : (wrote : ℕ → List ℕ) (c : Config) (before : Trace) (p : Past) → Agrees c before p → (site : ℕ) → is_of_cluster c site ≡ true → (r : Record) → MayCome c before r → (arming : Armed) (stay : Bool) → IsVersionCut wrote c before site r arming stay → list_any (is_cut_so stay (arming_as arming)) (writings_in (wrote (length before)) p site r) ≡ true
cut_told wrote c before p a site ours (rec.Commit f s stamp parents content) may arming stay k = over (committer c before p f s stamp parents content may a)
  where
    own : s ≡ site
    own = some_same s site k.own

    q : Writing → Bool
    q = is_cut_so stay (arming_as arming)

    over : Committer c before p f s may.instance → list_any q (map (writing_by p site) (filter (λ x. s == site) (writers_of p f s))) ≡ true
    over it = ap (λ (xs : List Instance). list_any q (map (writing_by p site) (filter (λ x. s == site) xs))) it.only
        ∙ (ap (λ (b : Bool). list_any q (map (writing_by p site) (cond b (it.one ∷ []) []))) (ap (λ (n : ℕ). n == site) own ∙ number_own site)
        ∙ or_first (q (writing_by p site it.one)) false (cut_same arming (writing_by p site it.one) k.writing
        (subst (λ (v : FoldWriting). WritesSame (writing_by p site it.one) v) (ap (writing_commit c before f) (sym own) ∙ sym k.writes)
        (commit_same c before p a f site (of_cluster_there c p.sites site a.sites.numbers ours) it.one may.instance it.is it.of (subst (λ (n : ℕ). committing c before f n ≡ Some may.instance) own it.committing)))
        k.passed k.cut stay k.left))
cut_told wrote c before p a site ours (rec.Adopt f s stamp) may arming stay k = ap (λ (b : Bool). list_any q (map (writing_of (wrote (length before)) p site) (cond b (new ∷ []) []))) (ap (λ (n : ℕ). n == site) own ∙ number_own site)
    ∙ or_first (q (writing_of (wrote (length before)) p site new)) false (cut_same arming (writing_of (wrote (length before)) p site new) k.writing
    (subst (λ (v : FoldWriting). WritesSame (writing_of (wrote (length before)) p site new) v) (ap (λ (n : ℕ). writing_adopted (wrote (length before)) c before f n stamp) (sym own) ∙ sym k.writes)
    (adoption_same (wrote (length before)) c before p a f site stamp (of_cluster_there c p.sites site a.sites.numbers ours) new refl refl))
    k.passed k.cut stay k.left)
  where
    own : s ≡ site
    own = some_same s site k.own

    q : Writing → Bool
    q = is_cut_so stay (arming_as arming)

    new : Copy
    new = record { file = f; stamp = stamp }
cut_told wrote c before p a site ours _ may arming stay k = absurd k.writes
