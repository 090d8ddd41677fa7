-- What the site notes in its own table when it adopts.
use Rattle.std.proofs.Common.{◌≡◌, ℕ, ◌==◌, Bool, true, false, not, cond, ◌&&◌, List, length, map, Option, Some, None, refl, sym, ap, ◌∙◌, subst, ◌⊎◌, inl, inr}
use Rattle.std.proofs.lemmas.List.{length-map}
use Rattle.role_steps.proofs.of_plain_facts.Numbers.{equal, equal_self}
use Rattle.role_steps.proofs.of_plain_facts.Options.{some_same}
use Rattle.role_steps.proofs.of_plain_facts.Tests.{and_true, true_false}
use Rattle.locus_ids.specs.declared.config.Config.{Config}
use Rattle.locus_ids.specs.declared.ids.FileId.{FileId}
use Rattle.locus_ids.specs.declared.ids.Stamp.{Stamp}
use Rattle.commit_graph.specs.declared.history.Version.{Version}
use Rattle.commit_graph.specs.Vectors.{vector_of}
use Rattle.commit_graph.specs.Versions.{is_ancestor, is_covered, is_proper_ancestor, same_file, same_stamp}
use Rattle.commit_graph.proofs.Names.{same_stamp_refl}
use Rattle.trace_book.specs.declared.record.Record.{Record}
use Rattle.role_steps.specs.Adoption.{adopt_record}
use Rattle.role_steps.specs.Own.{Every}
use Rattle.role_steps.specs.Reports.{on_have_of}
use Rattle.role_steps.specs.Tables.{with_row}
use Rattle.role_steps.specs.Versions.{file_row, holding_of, holding_site, is_below, kept, noted, noted_at, noted_of, rises_to, row_ino, version_key, version_of, with_file, with_holder}
use Rattle.role_steps.specs.Views.{Frame, SiteView, Told, stamp_key}
use Rattle.role_steps.specs.declared.pulls.Pull.{Pull}
use Rattle.role_steps.specs.declared.synchronizing.FileRow.{FileRow}
use Rattle.role_steps.specs.declared.synchronizing.Holding.{Holding}
use Rattle.role_steps.specs.declared.synchronizing.SyncTable.{SyncTable}
use Rattle.role_steps.specs.declared.synchronizing.VersionRow.{VersionRow}
use Rattle.the_run.specs.Kept.{Among}
use Rattle.the_run.specs.Worlds.{Line}
use Rattle.the_run.proofs.InsideSync.{every_row}
use Rattle.tree_model.specs.Files.{HeldVersion}
use Rattle.tree_model.specs.Histories.{held, history}
use Rattle.tree_model.specs.State.{TreeState, has_stamp, held_at, instance_in, is_named}
use Rattle.tree_model.specs.Tree.{candidates, kept_in, next, tree_of}
use Rattle.lawful_trace.specs.TreeRows.{is_above}
use Rattle.tree_laws.specs.Frames.{VersionsStay}
use Rattle.tree_laws.specs.Instances.{HasAtLeast, Stands, held_in}
use Rattle.tree_laws.specs.Packets.{file_in}
use Rattle.tree_laws.specs.Printed.{entries}
use Rattle.tree_laws.specs.Tables.{ExactFact, FileFact, FilesFact, HasHolder, HoldingFact, IsAhead, IsNoted, StartedFiles, TableFact, VersionFact, known_stamps, row_stamp}
use Rattle.tree_laws.proofs.Boots.{every_both, every_pair}
use Rattle.tree_laws.proofs.Rows.{followed_rows}
use Rattle.tree_laws.proofs.Versions.{versions_stay}
use Rattle.tree_laws.proofs.Waiting.{found_among}
use Rattle.store_laws.proofs.of_tree_laws.Orders.Standing.{same_stamp_eq}
use Rattle.store_laws.proofs.Holdings.Ancestors.{ancestor_through, ancestors_one}
use Rattle.store_laws.proofs.Holdings.Begun.{open_in_group}
use Rattle.store_laws.proofs.Holdings.Below.{commits_new}
use Rattle.store_laws.proofs.Holdings.Made.{held_stand, rows_made}
use Rattle.store_laws.specs.Holdings.Order.{IsWellMade}
use Rattle.store_laws.proofs.Adopting.{has_adopted}
use Rattle.store_laws.proofs.Commits.{file_own}
use Rattle.store_laws.proofs.Tabled.{row_found, row_other, row_same}
use Rattle.store_laws.proofs.of_tree_laws.Syncs.Ahead.{ahead_stays}
use Rattle.store_laws.proofs.of_tree_laws.Syncs.Files.{file_row_stays}
use Rattle.store_laws.proofs.of_tree_laws.Syncs.Held.{Moves, held_moves}
use Rattle.store_laws.proofs.of_tree_laws.Syncs.Staying.{table_with}
use Rattle.store_laws.proofs.of_tree_laws.Syncs.Orderly.{holder_orderly}
use Rattle.store_laws.proofs.of_tree_laws.Syncs.Rows.{every_among, row_every, row_key_is}
use Rattle.store_laws.specs.OneTree.Rest.{more}
use Rattle.store_laws.proofs.OneTree.Composing.{past_more}
use Rattle.store_laws.proofs.OneTree.Staying.{rest_below}
use Rattle.store_laws.proofs.OneTree.ToldVectorOnly.{stamp_only}
use Rattle.store_laws.proofs.OneTree.ToldVectorTelling.{vectors_tell_newer}
use Rattle.rest_laws.proofs.StoreStepResting.{store_rests}
use Rattle.rest_laws.proofs.AdoptionRows.{among_other, any_passes, each_member, filtered_passes, rising_row, version_there}
use Rattle.rest_laws.proofs.AdoptionShut.{shut_here}
use Rattle.rest_laws.proofs.AdoptionWants.{IsTaken, complete, may, stands, stay, stores, tells, wants}

module _ (c : Config) (n : ℕ) (trace : List Line) (f : Frame) (v : SiteView) (p : Pull) (k : IsTaken c trace f v p) (t : SyncTable) (same : t.group ≡ p.file.group) (fact : TableFact c trace f t) where
  abbrev told : Told
  told = tells f p

  abbrev after : List Line
  after = more n told trace

  abbrev h : List Version
  h = history c (entries trace)

  started_now : t.started ≡ true
  started_now = fact.started ∙ subst (λ (g : ℕ). (tree_of c f.epoch g (entries trace)).started ≡ true) (sym same) k.pull.started

  files : StartedFiles c trace f t
  files = subst (FilesFact c trace f t) started_now fact.files

  made : IsWellMade h
  made = rows_made c (entries trace) (followed_rows c trace k.past.followed) (commits_new c trace k.past.followed (rest_below c trace k.past.rest).once)

  versions : VersionsStay c trace after
  versions = versions_stay c n told trace k.past.followed (may c n trace f v p k) (stay c n trace f v p k).fresh (stay c n trace f v p k).order

  -- ---- the row of the file ----

  module _ (r : FileRow) (found : file_row t p.file.ino ≡ Some r) where
    abbrev file : FileId
    file = file_in t.group r.ino

    ino_is : r.ino ≡ p.file.ino
    ino_is = row_key_is row_ino p.file.ino t.files r found

    is : p.file ≡ file
    is = λ i. record { group = sym same i; ino = sym ino_is i }

    row_fact : FileFact c trace f.epoch t.group r
    row_fact = row_every (FileFact c trace f.epoch t.group) row_ino p.file.ino t.files r fact.rows found

    known : has_stamp (candidates c (entries trace) f.epoch file) p.stamp ≡ true
    known = subst (λ (y : FileId). has_stamp (candidates c (entries trace) f.epoch y) p.stamp ≡ true) is k.pull.known

    stands_here : Stands c trace file p.stamp
    stands_here = subst (λ (y : FileId). Stands c trace y p.stamp) is (stands c n trace f v p k)

    single : length (kept_in c (entries trace) f.epoch file) ≡ 1
    single = subst (λ (y : FileId). length (kept_in c (entries trace) f.epoch y) ≡ 1) is k.pull.single

    versions_are : map row_stamp r.versions ≡ candidates c (entries trace) f.epoch file
    versions_are = sym (ap known_stamps found) ∙ (files.known p.file.ino ∙ ap (λ (m : ℕ). candidates c (entries trace) f.epoch (file_in t.group m)) (sym ino_is))

    kept_are : map row_stamp r.kept ≡ kept_in c (entries trace) f.epoch file
    kept_are = sym (ap (λ (o : Option FileRow). map row_stamp (kept o)) found) ∙ (files.kept_is p.file.ino ∙ ap (λ (m : ℕ). kept_in c (entries trace) f.epoch (file_in t.group m)) (sym ino_is))

    -- ---- what the site has ----

    above : (now : Stamp) → held_in c (entries trace) f.epoch f.me file ≡ Some now → is_proper_ancestor h file now p.stamp ≡ true
    above now e = subst (λ (o : Option Stamp). is_above h file o p.stamp ≡ true) e (subst (λ (y : FileId). is_above h y (held_in c (entries trace) f.epoch f.me y) p.stamp ≡ true) is
        (subst (λ (o : Option Stamp). is_above h p.file o p.stamp ≡ true) (sym ((stores c n trace f v p k).inside f.epoch f.me p.file k.inside.frame.inside)) (may c n trace f v p k).row.above))

    held_stands : (now : Stamp) → held_in c (entries trace) f.epoch f.me file ≡ Some now → Stands c trace file now
    held_stands now e = held_stand c (entries trace) (followed_rows c trace k.past.followed) f.epoch file f.me now e

    below_own : (now : Stamp) → held_in c (entries trace) f.epoch f.me file ≡ Some now → is_below (vector_of h file now) (vector_of h file p.stamp) ≡ true
    below_own now e = sym (vectors_tell_newer c trace k.past file now p.stamp (held_stands now e) stands_here) ∙ above now e

    -- no writer is ahead here
    none_ahead : IsAhead c trace f.epoch f.me file → ⊥
    none_ahead a = shut_here c trace k.past f v k.inside p k.pull k.ready a.at (found_among (is_named a.inst) (tree_of c f.epoch p.file.group (entries trace)).instances a.at in_tree) a.open_at.place file_same (may c n trace f v p k).row.above
      where
        file_same : a.at.grant.file ≡ p.file
        file_same = a.file_is ∙ sym is

        in_tree : instance_in (tree_of c f.epoch p.file.group (entries trace)) a.inst ≡ Some a.at
        in_tree = subst (λ (y : FileId). instance_in (tree_of c f.epoch y.group (entries trace)) a.inst ≡ Some a.at) file_same (open_in_group c trace k.past.followed f.epoch a.inst a.at a.open_at.found)

    -- ---- what is noted ----

    named : (s : Stamp) → Stands c trace file s → (u : VersionRow) → version_of r s ≡ Some u → (u.stamp ≡ s) × (u.vector ≡ vector_of h file s)
    named s st u e = (stamp_same, ap (λ (x : VersionRow). x.vector) its.same ∙ (ap (λ (x : HeldVersion). x.vector) its.is_version.same ∙ ap (vector_of h file) (sym stamp_is ∙ stamp_same)))
      where
        row_is : VersionFact c trace file u × (version_key u ≡ stamp_key s)
        row_is = row_found version_key (stamp_key s) r.versions u (VersionFact c trace file) e row_fact.versions

        its : VersionFact c trace file u
        its = row_is.0

        stamp_is : u.stamp ≡ its.version.stamp
        stamp_is = ap (λ (x : VersionRow). x.stamp) its.same

        stamp_same : u.stamp ≡ s
        stamp_same = stamp_only c trace file k.past u.stamp s (subst (λ (y : Stamp). Stands c trace file y) (sym stamp_is) its.is_version.stands) st row_is.1

    new_version : (w : VersionRow) × (version_of r p.stamp ≡ Some w)
    new_version = version_there p.stamp r.versions (ap (λ (ss : List Stamp). has_stamp ss p.stamp) versions_are ∙ known)

    abbrev w : VersionRow
    w = new_version.0

    w_is : (w.stamp ≡ p.stamp) × (w.vector ≡ vector_of h file p.stamp)
    w_is = named p.stamp stands_here w new_version.1

    rises : (x : Holding) → holding_of r f.me ≡ Some x → rises_to w (version_of r x.stamp) ≡ true
    rises x e = at (version_of r x.stamp) refl
      where
        its : HoldingFact c trace f.epoch file x × (holding_site x ≡ f.me)
        its = row_found holding_site f.me r.holders x (HoldingFact c trace f.epoch file) e row_fact.holders

        now_is : held_in c (entries trace) f.epoch f.me file ≡ Some its.0.now
        now_is = subst (λ (s : ℕ). held_in c (entries trace) f.epoch s file ≡ Some its.0.now) its.1 its.0.held

        noted_so : IsNoted r f.me its.0.now ⊎ IsAhead c trace f.epoch f.me file → x.stamp ≡ its.0.now
        noted_so (inl z) = ap (λ (y : Holding). y.stamp) (some_same x z.0 (sym e ∙ z.1)) ∙ z.2
        noted_so (inr a) = absurd (none_ahead a)

        stamp_is : x.stamp ≡ its.0.now
        stamp_is = noted_so (files.exact p.file.ino r found f.me its.0.now (inl refl) now_is)

        at : (o : Option VersionRow) → version_of r x.stamp ≡ o → rises_to w o ≡ true
        at None q = refl
        at (Some u) q = ap (λ (y : List ℕ). is_below y w.vector) (named x.stamp (subst (λ (y : Stamp). Stands c trace file y) (sym stamp_is) (held_stands its.0.now now_is)) u q).1
            ∙ (ap (λ (y : Stamp). is_below (vector_of h file y) w.vector) stamp_is ∙ (ap (is_below (vector_of h file its.0.now)) w_is.1 ∙ below_own its.0.now now_is))

    abbrev new : Holding
    new = record { site = f.me; stamp = p.stamp }

    abbrev q : FileRow
    q = with_holder f.me p.stamp r

    pub noted_is : noted f.me p.stamp r ≡ q
    noted_is = ap (noted_of r f.me) new_version.1 ∙ at (holding_of r f.me) refl
      where
        at : (o : Option Holding) → holding_of r f.me ≡ o → noted_at r f.me w o ≡ q
        at None e = ap (λ (s : Stamp). with_holder f.me s r) w_is.0
        at (Some x) e = ap (λ (b : Bool). cond b (with_holder f.me w.stamp r) r) (rises x e) ∙ ap (λ (s : Stamp). with_holder f.me s r) w_is.0

    -- ---- the row then ----

    old : FileFact c after f.epoch t.group r
    old = file_row_stays c trace after versions f.epoch t.group r row_fact

    has_new : HasAtLeast c after f.epoch f.me file p.stamp
    has_new = subst (λ (y : FileId). HasAtLeast c after f.epoch f.me y p.stamp) is
        (has_adopted c n trace k.past.rest.packs k.past.followed (stores c n trace f v p k) f k.inside.frame v.store k.inside.store p k.pull (complete c n trace f v p k) (wants c n trace f v p k) k.above)

    has_now : held_in c (entries after) f.epoch f.me file ≡ Some p.stamp
    has_now = subst (λ (y : FileId). held_in c (entries after) f.epoch f.me y ≡ Some p.stamp) is
        ((store_rests c after (past_more c n told trace k.past (may c n trace f v p k) k.rest)).inside f.epoch f.me p.file k.inside.frame.inside
        ∙ ap (λ (b : Bool). cond b (Some p.stamp) (held c (entries trace) f.me p.file)) (and_true (same_file p.file p.file) (f.me == f.me) (file_own p.file) (equal_self f.me)))

    -- what the site was noted to hold wasn't kept
    lagged : (x : Holding) → Among x r.holders → x.site ≡ f.me → has_stamp (kept_in c (entries trace) f.epoch file) x.stamp ≡ true → ⊥
    lagged x m here is_kept = true_false (sym (any_passes (is_proper_ancestor h file x.stamp) (candidates c (entries trace) f.epoch file) p.stamp known covers) ∙ uncovered)
      where
        has : HasAtLeast c trace f.epoch x.site file x.stamp
        has = every_among (HoldingFact c trace f.epoch file) r.holders x row_fact.holders m

        now_is : held_in c (entries trace) f.epoch f.me file ≡ Some has.now
        now_is = subst (λ (s : ℕ). held_in c (entries trace) f.epoch s file ≡ Some has.now) here has.held

        apart : (a b : Bool) → not a && b ≡ true → (a ≡ false) × (b ≡ true)
        apart true b e = absurd (true_false (sym e))
        apart false b e = (refl, e)

        proper : (same_stamp has.now p.stamp ≡ false) × (is_ancestor h file has.now p.stamp ≡ true)
        proper = apart (same_stamp has.now p.stamp) (is_ancestor h file has.now p.stamp) (above has.now now_is)

        goes : is_ancestor h file x.stamp p.stamp ≡ true
        goes = ancestor_through h made file x.stamp has.now p.stamp stands_here has.above proper.1

        differs : (b : Bool) → same_stamp x.stamp p.stamp ≡ b → b ≡ false
        differs false e = refl
        differs true e = absurd (true_false (sym (subst (λ (y : Stamp). same_stamp has.now y ≡ true) one (same_stamp_refl has.now)) ∙ proper.0))
          where
            one : has.now ≡ p.stamp
            one = ancestors_one h made file has.now p.stamp stands_here proper.1 (subst (λ (y : Stamp). is_ancestor h file y has.now ≡ true) (same_stamp_eq x.stamp p.stamp e) has.above)

        covers : is_proper_ancestor h file x.stamp p.stamp ≡ true
        covers = ap (λ (b : Bool). not b && is_ancestor h file x.stamp p.stamp) (differs (same_stamp x.stamp p.stamp) refl) ∙ goes

        not_true : (b : Bool) → not b ≡ true → b ≡ false
        not_true true e = absurd (true_false (sym e))
        not_true false e = refl

        uncovered : is_covered h file (candidates c (entries trace) f.epoch file) x.stamp ≡ false
        uncovered = not_true (is_covered h file (candidates c (entries trace) f.epoch file) x.stamp) (filtered_passes (λ (a : Stamp). not (is_covered h file (candidates c (entries trace) f.epoch file) a)) (candidates c (entries trace) f.epoch file) x.stamp is_kept)

    still_held : (y : VersionRow) → has_stamp (kept_in c (entries trace) f.epoch file) y.stamp ≡ true → HasHolder r y → HasHolder q y
    still_held y is_kept (x, m, e) = at (x.site == f.me) refl
      where
        at : (b : Bool) → (x.site == f.me) ≡ b → HasHolder q y
        at true s = absurd (lagged x m (equal x.site f.me s) (subst (λ (z : Stamp). has_stamp (kept_in c (entries trace) f.epoch file) z ≡ true) (sym e) is_kept))
        at false s = (x, among_other holding_site new x r.holders (λ (z : x.site ≡ f.me). true_false (sym (subst (λ (i : ℕ). (x.site == i) ≡ true) z (equal_self x.site)) ∙ s)) m, e)

    q_fact : FileFact c after f.epoch t.group q
    q_fact = record {
      some = old.some;
      stands = old.stands;
      kind_is = old.kind_is;
      set_is = old.set_is;
      versions = old.versions;
      keeps = old.keeps;
      holders = every_row (HoldingFact c after f.epoch file) holding_site new r.holders has_new old.holders;
      held = every_pair (λ (y : VersionRow). has_stamp (kept_in c (entries trace) f.epoch file) y.stamp ≡ true) (HasHolder r) (HasHolder q) r.kept still_held
          (subst (λ (ss : List Stamp). Every (λ (y : VersionRow). has_stamp ss y.stamp ≡ true) r.kept) kept_are (each_member r.kept)) row_fact.held;
      orderly = holder_orderly f.me p.stamp r row_fact.orderly (w, new_version.1, w_is.0);
    }

    -- ---- the table then ----

    abbrev now_table : SyncTable
    now_table = with_file q t

    row_apart : (ino : ℕ) → (r.ino == ino) ≡ false → file_row now_table ino ≡ file_row t ino
    row_apart ino e = row_other row_ino q ino t.files (λ (z : r.ino ≡ ino). true_false (sym (subst (λ (i : ℕ). (r.ino == i) ≡ true) z (equal_self r.ino)) ∙ e))

    row_new : file_row now_table r.ino ≡ Some q
    row_new = row_same row_ino q t.files

    known_now : (ino : ℕ) → (b : Bool) → (r.ino == ino) ≡ b → known_stamps (file_row now_table ino) ≡ candidates c (entries after) f.epoch (file_in t.group ino)
    known_now ino true e = subst (λ (m : ℕ). known_stamps (file_row now_table m) ≡ candidates c (entries after) f.epoch (file_in t.group m)) (equal r.ino ino e) (ap known_stamps row_new ∙ versions_are)
    known_now ino false e = ap known_stamps (row_apart ino e) ∙ files.known ino

    kept_now : (ino : ℕ) → (b : Bool) → (r.ino == ino) ≡ b → map row_stamp (kept (file_row now_table ino)) ≡ kept_in c (entries after) f.epoch (file_in t.group ino)
    kept_now ino true e = subst (λ (m : ℕ). map row_stamp (kept (file_row now_table m)) ≡ kept_in c (entries after) f.epoch (file_in t.group m)) (equal r.ino ino e) (ap (λ (o : Option FileRow). map row_stamp (kept o)) row_new ∙ kept_are)
    kept_now ino false e = ap (λ (o : Option FileRow). map row_stamp (kept o)) (row_apart ino e) ∙ files.kept_is ino

    -- what a site has of another file stays
    held_same : (site ino : ℕ) → (p.file.ino ≡ ino → ⊥) → held_in c (entries after) f.epoch site (file_in t.group ino) ≡ held_in c (entries trace) f.epoch site (file_in t.group ino)
    held_same site ino apart = over (held_moves h tree adoption site ino)
      where
        tree : TreeState
        tree = tree_of c f.epoch t.group (entries trace)

        adoption : Record
        adoption = adopt_record f p

        over : (held_at (next h adoption tree) site ino ≡ held_at tree site ino) ⊎ Moves tree site ino adoption → held_in c (entries after) f.epoch site (file_in t.group ino) ≡ held_in c (entries trace) f.epoch site (file_in t.group ino)
        over (inl e) = e
        over (inr m) = absurd (apart m.1)

    exact_q : ExactFact c after f t.group q
    exact_q site stamp (inl here) holds = inl (new, subst (λ (s : ℕ). holding_of q s ≡ Some new) (sym here) (row_same holding_site new r.holders), some_same p.stamp stamp (sym has_now ∙ subst (λ (s : ℕ). held_in c (entries after) f.epoch s file ≡ Some stamp) here holds))
    exact_q site stamp (inr several) holds = absurd (several (sym (length-map r.kept row_stamp) ∙ (ap length kept_are ∙ single)))

    exact_other : (ino : ℕ) (x : FileRow) → (r.ino == ino) ≡ false → file_row t ino ≡ Some x → ExactFact c after f t.group x
    exact_other ino x e at site stamp still holds = over (files.exact ino x at site stamp still (sym (held_same site x.ino apart) ∙ holds))
      where
        apart : p.file.ino ≡ x.ino → ⊥
        apart z = true_false (sym (subst (λ (i : ℕ). (r.ino == i) ≡ true) (ino_is ∙ (z ∙ row_key_is row_ino ino t.files x at)) (equal_self r.ino)) ∙ e)

        over : IsNoted x site stamp ⊎ IsAhead c trace f.epoch site (file_in t.group x.ino) → IsNoted x site stamp ⊎ IsAhead c after f.epoch site (file_in t.group x.ino)
        over (inl z) = inl z
        over (inr a) = inr (ahead_stays c n told trace (may c n trace f v p k) f site (file_in t.group x.ino) (λ z. z) a)

    exact_now : (ino : ℕ) (x : FileRow) (b : Bool) → (r.ino == ino) ≡ b → file_row now_table ino ≡ Some x → ExactFact c after f t.group x
    exact_now ino x true e at = subst (ExactFact c after f t.group) (some_same q x (sym row_new ∙ subst (λ (m : ℕ). file_row now_table m ≡ Some x) (sym (equal r.ino ino e)) at)) exact_q
    exact_now ino x false e at = exact_other ino x e (sym (row_apart ino e) ∙ at)

    now_files : StartedFiles c after f now_table
    now_files = record {
      known = λ ino. known_now ino (r.ino == ino) refl;
      kept_is = λ ino. kept_now ino (r.ino == ino) refl;
      exact = λ ino x at. exact_now ino x (r.ino == ino) refl at;
    }

    pub now_fact : TableFact c after f now_table
    now_fact = table_with c n told trace k.past.followed (may c n trace f v p k) (stay c n trace f v p k) f t fact (λ z. z) (λ z. z) (λ z. z) (λ z. z) (with_row row_ino q t.files)
        (every_row (FileFact c after f.epoch t.group) row_ino q t.files q_fact (every_both (FileFact c trace f.epoch t.group) (FileFact c after f.epoch t.group) t.files (file_row_stays c trace after versions f.epoch t.group) fact.rows))
        (rising_row q t.files fact.rise) (subst (FilesFact c after f now_table) (sym started_now) now_files)

  pub noted_own : TableFact c after f (on_have_of f.me p.stamp (file_row t p.file.ino) t)
  noted_own = over (file_row t p.file.ino) refl
    where
      over : (o : Option FileRow) → file_row t p.file.ino ≡ o → TableFact c after f (on_have_of f.me p.stamp o t)
      over None e = absurd (true_false (sym (ap (λ (ss : List Stamp). has_stamp ss p.stamp) (sym (ap known_stamps e) ∙ files.known p.file.ino) ∙ there)))
        where
          there : has_stamp (candidates c (entries trace) f.epoch (file_in t.group p.file.ino)) p.stamp ≡ true
          there = subst (λ (g : ℕ). has_stamp (candidates c (entries trace) f.epoch (file_in g p.file.ino)) p.stamp ≡ true) (sym same) k.pull.known
      over (Some r) e = subst (λ (x : FileRow). TableFact c after f (with_file x t)) (sym (noted_is r e)) (now_fact r e)
