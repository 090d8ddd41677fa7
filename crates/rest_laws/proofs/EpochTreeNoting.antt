-- With the report of a member its copies are noted: each is found with the member as its holder, and who was noted before is still.
use Rattle.std.proofs.Common.{◌≡◌, ℕ, ◌≤◌, ◌==◌, ◌||◌, Bool, true, false, List, [], ◌∷◌, Option, Some, None, refl, sym, ◌∙◌, ap, subst, ◌⊎◌, inl, inr}
use Rattle.role_steps.proofs.of_plain_facts.Numbers.{equal, equal_self}
use Rattle.role_steps.proofs.of_plain_facts.Options.{none_some, some_same}
use Rattle.role_steps.proofs.of_plain_facts.Tests.{or_either}
use Rattle.locus_ids.specs.Sites.{has, with_site}
use Rattle.locus_ids.specs.declared.config.Config.{Config}
use Rattle.locus_ids.specs.declared.ids.Stamp.{Stamp}
use Rattle.locus_ids.specs.declared.sites.Sites.{Sites}
use Rattle.locus_ids.proofs.Sets.{has-with}
use Rattle.wire_messages.specs.declared.body.ReportedCopy.{ReportedCopy}
use Rattle.role_steps.specs.Own.{Every}
use Rattle.role_steps.specs.Reports.{version_reported, with_all_reported, with_report, with_reported}
use Rattle.role_steps.specs.Tables.{row, with_row}
use Rattle.role_steps.specs.Versions.{file_row, holding_site, known_or, row_ino, unknown_file, version_key, with_file, with_holder, with_version}
use Rattle.role_steps.specs.Views.{Frame}
use Rattle.role_steps.specs.declared.synchronizing.FileRow.{FileRow}
use Rattle.role_steps.specs.declared.synchronizing.Holding.{Holding}
use Rattle.role_steps.specs.declared.synchronizing.SyncTable.{SyncTable}
use Rattle.role_steps.specs.declared.synchronizing.VersionRow.{VersionRow}
use Rattle.role_steps.proofs.Rows.{row_other, row_same}
use Rattle.the_run.specs.Kept.{Among}
use Rattle.the_run.specs.Worlds.{Line}
use Rattle.the_run.proofs.InsideSync.{every_row}
use Rattle.tree_model.specs.Epochs.{has_joined}
use Rattle.tree_laws.specs.Instances.{held_in}
use Rattle.tree_laws.specs.Packets.{ReportedNow, ReportsNow, file_in}
use Rattle.tree_laws.specs.Printed.{entries}
use Rattle.tree_laws.specs.Tables.{HasReported, HoldsJust, IsNoted, ReportedFiles}
use Rattle.tree_laws.proofs.Boots.{every_both}
use Rattle.store_laws.proofs.of_tree_laws.Syncs.Rows.{every_among, row_every, row_key_is}
use Rattle.rest_laws.proofs.EpochTreeCounted.{report_is}

-- ---- who has reported ----

-- with one more
with_one : (set : Sites) (from site : ℕ) → 1 ≤ from → 1 ≤ site → has (with_site set from) site ≡ true → (site ≡ from) ⊎ (has set site ≡ true)
with_one set from site low mine e = over (or_either (has set site) (site == from) (sym (has-with set from site low mine) ∙ e))
  where
    over : (has set site ≡ true) ⊎ ((site == from) ≡ true) → (site ≡ from) ⊎ (has set site ≡ true)
    over (inl k) = inr k
    over (inr k) = inl (equal site from k)

with_old : (set : Sites) (from site : ℕ) → 1 ≤ from → 1 ≤ site → has set site ≡ true → has (with_site set from) site ≡ true
with_old set from site low mine e = has-with set from site low mine ∙ ap (λ (b : Bool). b || site == from) e

with_new : (set : Sites) (from : ℕ) → 1 ≤ from → has (with_site set from) from ≡ true
with_new set from low = has-with set from from low low ∙ over (has set from) (from == from) (equal_self from)
  where
    over : (a b : Bool) → b ≡ true → a || b ≡ true
    over true b e = refl
    over false b e = e

-- ---- rows ----

-- a key is another, or this one
key_case : (P : Type 0) (a b : ℕ) → (a ≡ b → P) → ((a == b) ≡ false → P) → P
key_case P a b same other = over (a == b) refl
  where
    over : (x : Bool) → (a == b) ≡ x → P
    over true e = same (equal a b e)
    over false e = other e

module _ (c : Config) (trace : List Line) (f : Frame) (g from : ℕ) where
  abbrev Has : ℕ → ℕ → Stamp → Type 0
  Has s ino stamp = held_in c (entries trace) f.epoch s (file_in g ino) ≡ Some stamp

  abbrev Told : ReportedCopy → Type 0
  Told x = ReportedNow c trace f.epoch from g x

  -- the site is noted with the version of the inode
  abbrev Noted : SyncTable → ℕ → ℕ → Stamp → Type 0
  Noted u s ino stamp = (r : FileRow) × (file_row u ino ≡ Some r) × IsNoted r s stamp

  told_holds : (x : ReportedCopy) → Told x → Has from x.ino x.stamp
  told_holds x k = k.held ∙ ap (λ (y : ReportedCopy). Some y.stamp) (sym k.same)

  abbrev base : ReportedCopy → Option FileRow → FileRow
  base x o = known_or (unknown_file x.ino x.kind x.set) o

  abbrev counted : ReportedCopy → Option FileRow → FileRow
  counted x o = with_holder from x.stamp (with_version (version_reported x) (base x o))

  ino_of : (x : ReportedCopy) (u : SyncTable) (o : Option FileRow) → file_row u x.ino ≡ o → (base x o).ino ≡ x.ino
  ino_of x u None e = refl
  ino_of x u (Some r) e = row_key_is row_ino x.ino u.files r e

  -- the row of the copy is found
  found_there : (x : ReportedCopy) (u : SyncTable) (o : Option FileRow) → file_row u x.ino ≡ o → file_row (with_file (counted x o) u) x.ino ≡ Some (counted x o)
  found_there x u o e = subst (λ (i : ℕ). row row_ino i (with_row row_ino (counted x o) u.files) ≡ Some (counted x o)) (ino_of x u o e) (row_same row_ino (counted x o) u.files)

  noted_now : (x : ReportedCopy) (u : SyncTable) → Noted (with_reported from x u) from x.ino x.stamp
  noted_now x u = (counted x (file_row u x.ino), found_there x u (file_row u x.ino) refl, (record { site = from; stamp = x.stamp }, row_same holding_site (record { site = from; stamp = x.stamp }) (with_version (version_reported x) (base x (file_row u x.ino))).holders, refl))

  -- who has what is noted is noted still
  noted_stays : (x : ReportedCopy) → Told x → (u : SyncTable) (s ino : ℕ) (stamp : Stamp) → Has s ino stamp → Noted u s ino stamp → Noted (with_reported from x u) s ino stamp
  noted_stays x told u s ino stamp has k = key_case (Noted (with_reported from x u) s ino stamp) x.ino ino same other
    where
      -- a copy of another file
      other : (x.ino == ino) ≡ false → Noted (with_reported from x u) s ino stamp
      other ne = (k.0, row_other row_ino (counted x (file_row u x.ino)) ino u.files (ap (λ (i : ℕ). i == ino) (ino_of x u (file_row u x.ino) refl) ∙ ne) ∙ k.1, k.2)

      same : x.ino ≡ ino → Noted (with_reported from x u) s ino stamp
      same e = at (file_row u x.ino) refl
        where
          found : file_row u x.ino ≡ Some k.0
          found = ap (file_row u) e ∙ k.1

          -- of this member it is the same version, and of others nothing changes
          still : IsNoted (counted x (Some k.0)) s stamp
          still = key_case (IsNoted (counted x (Some k.0)) s stamp) from s mine theirs
            where
              mine : from ≡ s → IsNoted (counted x (Some k.0)) s stamp
              mine is = (
                record { site = from; stamp = x.stamp },
                subst (λ (i : ℕ). row holding_site i (with_row holding_site (record { site = from; stamp = x.stamp }) k.0.holders) ≡ Some (record { site = from; stamp = x.stamp })) is (row_same holding_site (record { site = from; stamp = x.stamp }) k.0.holders),
                some_same x.stamp stamp (sym (told_holds x told) ∙ (ap (λ (i : ℕ). held_in c (entries trace) f.epoch i (file_in g x.ino)) is ∙ (ap (λ (i : ℕ). held_in c (entries trace) f.epoch s (file_in g i)) e ∙ has))),
              )

              theirs : (from == s) ≡ false → IsNoted (counted x (Some k.0)) s stamp
              theirs ne = (k.2.0, row_other holding_site (record { site = from; stamp = x.stamp }) s k.0.holders ne ∙ k.2.1, k.2.2)

          at : (o : Option FileRow) → file_row u x.ino ≡ o → Noted (with_file (counted x o) u) s ino stamp
          at None q = absurd (none_some k.0 (sym q ∙ found))
          at (Some r) q = (
            counted x (Some r),
            subst (λ (i : ℕ). file_row (with_file (counted x (Some r)) u) i ≡ Some (counted x (Some r))) e (found_there x u (Some r) q),
            subst (λ (w : FileRow). IsNoted (counted x (Some w)) s stamp) (some_same k.0 r (sym found ∙ q)) still,
          )

  all_stay : (xs : List ReportedCopy) → Every Told xs → (u : SyncTable) (s ino : ℕ) (stamp : Stamp) → Has s ino stamp → Noted u s ino stamp → Noted (with_all_reported from xs u) s ino stamp
  all_stay [] told u s ino stamp has k = k
  all_stay (x ∷ xs) told u s ino stamp has k = all_stay xs told.1 (with_reported from x u) s ino stamp has (noted_stays x told.0 u s ino stamp has k)

  -- each copy that is told is noted
  each_noted : (xs : List ReportedCopy) → Every Told xs → (x : ReportedCopy) → Among x xs → (u : SyncTable) → Noted (with_all_reported from xs u) from x.ino x.stamp
  each_noted [] told x m u = absurd m
  each_noted (y ∷ ys) told x (inl e) u = subst (λ (z : ReportedCopy). Noted (with_all_reported from (y ∷ ys) u) from z.ino z.stamp) (sym e) (all_stay ys told.1 (with_reported from y u) from y.ino y.stamp (told_holds y told.0) (noted_now y u))
  each_noted (y ∷ ys) told x (inr m) u = each_noted ys told.1 x m (with_reported from y u)

  -- ---- what rows have is what those have that have reported ----

  module _ (rep : ℕ → Type 0) (mine : rep from) where
    abbrev By : FileRow → VersionRow → Type 0
    By r v = (site : ℕ) × rep site × Has site r.ino v.stamp

    abbrev Just : FileRow → Holding → Type 0
    Just r h = rep h.site × Has h.site r.ino h.stamp

    record RowsBy (u : SyncTable) : Type 0 where
      brought : Every (λ (r : FileRow). Every (By r) r.versions) u.files
      holds : Every (λ (r : FileRow). Every (Just r) r.holders) u.files

    one_by : (x : ReportedCopy) → Told x → (u : SyncTable) → RowsBy u → RowsBy (with_reported from x u)
    one_by x told u k = at (file_row u x.ino) refl
      where
        old_by : (o : Option FileRow) → file_row u x.ino ≡ o → Every (By (base x o)) (base x o).versions
        old_by None e = tt
        old_by (Some r) e = row_every (λ (w : FileRow). Every (By w) w.versions) row_ino x.ino u.files r k.brought e

        old_just : (o : Option FileRow) → file_row u x.ino ≡ o → Every (Just (base x o)) (base x o).holders
        old_just None e = tt
        old_just (Some r) e = row_every (λ (w : FileRow). Every (Just w) w.holders) row_ino x.ino u.files r k.holds e

        at : (o : Option FileRow) → file_row u x.ino ≡ o → RowsBy (with_file (counted x o) u)
        at o e =
            let holds_it : Has from (base x o).ino x.stamp = subst (λ (i : ℕ). Has from i x.stamp) (sym (ino_of x u o e)) (told_holds x told) in
            record {
              brought = every_row (λ (r : FileRow). Every (By r) r.versions) row_ino (counted x o) u.files (every_row (By (base x o)) version_key (version_reported x) (base x o).versions (from, mine, holds_it) (old_by o e)) k.brought;
              holds = every_row (λ (r : FileRow). Every (Just r) r.holders) row_ino (counted x o) u.files (every_row (Just (base x o)) holding_site (record { site = from; stamp = x.stamp }) (base x o).holders (mine, holds_it) (old_just o e)) k.holds;
            }

    all_by : (xs : List ReportedCopy) → Every Told xs → (u : SyncTable) → RowsBy u → RowsBy (with_all_reported from xs u)
    all_by [] told u k = k
    all_by (x ∷ xs) told u k = all_by xs told.1 (with_reported from x u) (one_by x told.0 u k)

-- ---- the files of a table with a report ----

pub report_files : (c : Config) (trace : List Line) (f : Frame) (from : ℕ) (xs : List ReportedCopy) (t : SyncTable) → 1 ≤ from → ReportedFiles c trace f t → ReportsNow c trace f.epoch from t.group xs → ReportedFiles c trace f (with_report from xs t)
report_files c trace f from xs t low k told = subst (ReportedFiles c trace f) (sym (report_is from xs t)) (record {
  joined = λ site h. joined_by site h.0 (with_one t.reported from site low h.0 h.1);
  brought = λ site ino stamp h has. brought_by site ino stamp has h.0 (with_one t.reported from site low h.0 h.1);
  known = rows.brought;
  holds = rows.holds;
})
  where
    start : SyncTable
    start = record t { reported = with_site t.reported from }

    new : SyncTable
    new = record t { reported = with_site t.reported from; files = (with_report from xs t).files }

    grown : (site : ℕ) → HasReported t site → HasReported new site
    grown site h = (h.0, with_old t.reported from site low h.0 h.1)

    by_old : (r : FileRow) → Every (λ (v : VersionRow). (site : ℕ) × HasReported t site × (held_in c (entries trace) f.epoch site (file_in t.group r.ino) ≡ Some v.stamp)) r.versions → Every (By c trace f t.group from (HasReported new) (low, with_new t.reported from low) r) r.versions
    by_old r h = every_both (λ (v : VersionRow). (site : ℕ) × HasReported t site × (held_in c (entries trace) f.epoch site (file_in t.group r.ino) ≡ Some v.stamp)) (By c trace f t.group from (HasReported new) (low, with_new t.reported from low) r) r.versions (λ v q. (q.0, grown q.0 q.1, q.2)) h

    just_old : (r : FileRow) → Every (HoldsJust c trace f t r) r.holders → Every (Just c trace f t.group from (HasReported new) (low, with_new t.reported from low) r) r.holders
    just_old r h = every_both (HoldsJust c trace f t r) (Just c trace f t.group from (HasReported new) (low, with_new t.reported from low) r) r.holders (λ q p. (grown q.site p.0, p.1)) h

    rows : RowsBy c trace f t.group from (HasReported new) (low, with_new t.reported from low) (with_all_reported from xs start)
    rows = all_by c trace f t.group from (HasReported new) (low, with_new t.reported from low) xs told.each start (record {
      brought = every_both (λ (r : FileRow). Every (λ (v : VersionRow). (site : ℕ) × HasReported t site × (held_in c (entries trace) f.epoch site (file_in t.group r.ino) ≡ Some v.stamp)) r.versions) (λ (r : FileRow). Every (By c trace f t.group from (HasReported new) (low, with_new t.reported from low) r) r.versions) t.files by_old k.known;
      holds = every_both (λ (r : FileRow). Every (HoldsJust c trace f t r) r.holders) (λ (r : FileRow). Every (Just c trace f t.group from (HasReported new) (low, with_new t.reported from low) r) r.holders) t.files just_old k.holds;
    })

    joined_by : (site : ℕ) → 1 ≤ site → (site ≡ from) ⊎ (has t.reported site ≡ true) → has_joined (entries trace) site f.epoch ≡ true
    joined_by site mine (inl e) = subst (λ (s : ℕ). has_joined (entries trace) s f.epoch ≡ true) (sym e) told.joined
    joined_by site mine (inr h) = k.joined site (mine, h)

    brought_by : (site ino : ℕ) (stamp : Stamp) → held_in c (entries trace) f.epoch site (file_in t.group ino) ≡ Some stamp → 1 ≤ site → (site ≡ from) ⊎ (has t.reported site ≡ true) → Noted c trace f t.group from (with_all_reported from xs start) site ino stamp
    brought_by site ino stamp has mine (inr h) = all_stay c trace f t.group from xs told.each start site ino stamp has (k.brought site ino stamp (mine, h) has)
    brought_by site ino stamp has mine (inl e) = named (told.all ino stamp (subst (λ (s : ℕ). held_in c (entries trace) f.epoch s (file_in t.group ino) ≡ Some stamp) e has))
      where
        named : (x : ReportedCopy) × Among x xs × (x.ino ≡ ino) → Noted c trace f t.group from (with_all_reported from xs start) site ino stamp
        named x = subst (λ (s : ℕ). Noted c trace f t.group from (with_all_reported from xs start) s ino stamp) (sym e)
            (subst (λ (i : ℕ). Noted c trace f t.group from (with_all_reported from xs start) from i stamp) x.2
            (subst (λ (w : Stamp). Noted c trace f t.group from (with_all_reported from xs start) from x.0.ino w) stamp_is (each_noted c trace f t.group from xs told.each x.0 x.1 start)))
          where
            stamp_is : x.0.stamp ≡ stamp
            stamp_is = some_same x.0.stamp stamp (sym (told_holds c trace f t.group from x.0 (every_among (λ (y : ReportedCopy). ReportedNow c trace f.epoch from t.group y) xs x.0 told.each x.1))
                ∙ (ap (λ (i : ℕ). held_in c (entries trace) f.epoch from (file_in t.group i)) x.2 ∙ subst (λ (s : ℕ). held_in c (entries trace) f.epoch s (file_in t.group ino) ≡ Some stamp) e has))
