-- A site has on its disk what it has by the trace: so each copy has the content that the history gives its version.
use Rattle.std.proofs.Common.{◌≡◌, ◌==◌, ◌<◌, ◌≤◌, ◌+◌, ◌*◌, ◌/◌, ◌%◌, ℕ, ◌&&◌, Bool, true, false, cond, List, [], ◌∷◌, length, Option, Some, None, refl, sym, ◌∙◌, ap, subst, arith}
use Rattle.std.proofs.lemmas.Nat.{div-add-mod'}
use Rattle.std.specs.List.{AllByRecursion}
use Rattle.std.specs.Option.{option_map}
use Rattle.role_steps.proofs.of_plain_facts.Options.{none_some, some_same}
use Rattle.locus_ids.specs.declared.config.Config.{Config}
use Rattle.locus_ids.specs.declared.ids.FileId.{FileId}
use Rattle.locus_ids.specs.declared.ids.Stamp.{Stamp}
use Rattle.locus_ids.specs.declared.sites.Sites.{Sites}
use Rattle.locus_ids.specs.Sizes.{inode_span}
use Rattle.commit_graph.specs.declared.history.Version.{Version}
use Rattle.commit_graph.specs.Versions.{content_of, same_file, same_stamp}
use Rattle.trace_book.specs.declared.record.Record.{Record}
use Rattle.trace_book.specs.declared.record.Record.TheVariants as says
use Rattle.schedule_lines.specs.declared.line.ScheduleLine.{ScheduleLine}
use Rattle.role_steps.specs.Own.{Every}
use Rattle.role_steps.specs.Storage.{copy_key, copy_of}
use Rattle.role_steps.specs.Tables.{row}
use Rattle.role_steps.specs.Views.{Store, SiteView, Told, Shown, file_key}
use Rattle.role_steps.specs.declared.copies.FileCopy.{FileCopy}
use Rattle.role_steps.specs.declared.rounds.InEpoch.{InEpoch}
use Rattle.the_run.specs.Runs.{run_in}
use Rattle.the_run.specs.Worlds.{World, Place, Running, Stopped, Line}
use Rattle.tree_model.specs.Files.{held_version, version_of}
use Rattle.tree_model.specs.Histories.{format_version, format_versions, history, held}
use Rattle.site_laws.specs.Vectors.Held.{copies_on}
use Rattle.site_laws.specs.Vectors.HistoryCommits.{commits_of, real_parents, with_record, with_told}
use Rattle.site_laws.specs.Vectors.Written.{past_of}
use Rattle.tree_laws.specs.Printed.{entries, onto_entries}
use Rattle.tree_laws.specs.Stores.{CopiesAreHeld, copy_for}
use Rattle.store_laws.specs.OneTree.Places.{PlaceFact, SiteIn, WorldFact}
use Rattle.tree_laws.specs.Orders.Joining.{PacksAreOfSites}
use Rattle.store_laws.specs.of_row_laws.Voids.{LinesFit}
use Rattle.rest_laws.proofs.EpochTreeReports.{IsFound, each_found}
use Rattle.rest_laws.proofs.Run.{run_facts}
use Rattle.rest_laws.specs.CopiesKept.Contents.{CopiesHaveContents, HasItsContent}

-- ---- the content of a version, by either history ----

-- what the format wrote has no bytes
format_empty : (file : FileId) (stamp : Stamp) (group : ℕ) (packs : List Sites) → content_of (format_versions group packs) file stamp ≡ []
format_empty file stamp group [] = refl
format_empty file stamp group (p ∷ rest) = over (p.0 == 0) (same_file (format_version group).file file && same_stamp (format_version group).stamp stamp) (format_empty file stamp (group + 1) rest)
  where
    over : (a b : Bool) → content_of (format_versions (group + 1) rest) file stamp ≡ [] → content_of (cond a (format_versions (group + 1) rest) (format_version group ∷ format_versions (group + 1) rest)) file stamp ≡ []
    over true b e = e
    over false b e = at (same_file (format_version group).file file && same_stamp (format_version group).stamp stamp)
      where
        at : (t : Bool) → cond t [] (content_of (format_versions (group + 1) rest) file stamp) ≡ []
        at true = refl
        at false = e

same_contents : (c : Config) (file : FileId) (stamp : Stamp) (trace : List Line) → content_of (history c (entries trace)) file stamp ≡ content_of (commits_of file (past_of trace)) file stamp
same_contents c file stamp [] = format_empty file stamp 0 c.packs
same_contents c file stamp (x ∷ older) = by_told x.told (same_contents c file stamp older)
  where
    Same : Type 0
    Same = content_of (history c (entries older)) file stamp ≡ content_of (commits_of file (past_of older)) file stamp

    by_file : (g : FileId) (s : ℕ) (made : Stamp) (parents : List Stamp) (content : List ℕ) (b : Bool) → same_file g file ≡ b → Same →
        cond (same_file g file && same_stamp made stamp) content (content_of (history c (entries older)) file stamp) ≡ content_of (cond b (record { file = g; site = s; stamp = made; parents = real_parents parents; content = content } ∷ commits_of file (past_of older)) (commits_of file (past_of older))) file stamp
    by_file g s made parents content true q e = ap (λ (y : List ℕ). cond (same_file g file && same_stamp made stamp) content y) e
    by_file g s made parents content false q e = ap (λ (t : Bool). cond (t && same_stamp made stamp) content (content_of (history c (entries older)) file stamp)) q ∙ e

    by_record : (r : Record) → Same → content_of (history c (record { line = x.number; what = r } ∷ entries older)) file stamp ≡ content_of (with_record file r (commits_of file (past_of older))) file stamp
    by_record (says.Commit g s made parents content) e = by_file g s made parents content (same_file g file) refl e
    by_record _ e = e

    by_told : (y : Told) → Same → content_of (history c (onto_entries x.number y (entries older))) file stamp ≡ content_of (with_told file y (commits_of file (past_of older))) file stamp
    by_told (Shown r) e = by_record r e
    by_told _ e = e

-- ---- a disk ----

-- the file of a key
abbrev keyed : ℕ → FileId
keyed k = record { group = k / inode_span; ino = k % inode_span }

module _ (c : Config) (trace : List Line) (me : ℕ) (s : Store) (copies : CopiesAreHeld c trace me s) where
  has_content : (x : FileCopy) → IsFound s.copies x → HasItsContent (past_of trace) x
  has_content x found = over (held c (entries trace) me (keyed (copy_key x))) (copies.are (keyed (copy_key x)) small)
    where
      small : (copy_key x % inode_span) < inode_span
      small = omega arith

      there : copy_of s (keyed (copy_key x)) ≡ Some x
      there = ap (λ (k : ℕ). row copy_key k s.copies) (div-add-mod' (copy_key x) inode_span) ∙ found

      over : (o : Option Stamp) → copy_of s (keyed (copy_key x)) ≡ option_map (copy_for (keyed (copy_key x))) (option_map (version_of c (entries trace) (keyed (copy_key x))) o) → HasItsContent (past_of trace) x
      over None e = absurd (none_some x (sym e ∙ there))
      over (Some stamp) e = subst (HasItsContent (past_of trace)) (some_same (copy_for (keyed (copy_key x)) (version_of c (entries trace) (keyed (copy_key x)) stamp)) x (sym e ∙ there)) (same_contents c (keyed (copy_key x)) stamp trace)

  each_has : (xs : List FileCopy) → AllByRecursion (IsFound s.copies) xs → Every (HasItsContent (past_of trace)) xs
  each_has [] all = tt
  each_has (x ∷ xs) all = (has_content x all.0, each_has xs all.1)

  store_has : Every (HasItsContent (past_of trace)) s.copies
  store_has = each_has s.copies (each_found s.copies copies.ascends)

-- ---- a site, and the world ----

site_has : (c : Config) (trace : List Line) (s : ℕ) (v : SiteView) (e : Option InEpoch) → SiteIn c s trace v e → Every (HasItsContent (past_of trace)) v.store.copies
site_has c trace s v None h = store_has c trace s v.store h.copies
site_has c trace s v (Some e) h = store_has c trace s v.store h.store.copies

place_has : (c : Config) (trace : List Line) (s : ℕ) (p : Place) → PlaceFact c s trace p → Every (HasItsContent (past_of trace)) (copies_on p)
place_has c trace s (Running v) h = site_has c trace s v v.epoch h
place_has c trace s (Stopped d) h = store_has c trace s (record { copies = d.copies; instances = []; steps = [] }) h.copies

-- where the one tree holds of a world its copies have their contents
pub world_contents : (c : Config) (w : World) → WorldFact c w → CopiesHaveContents w
world_contents c w h s p here = place_has c w.trace s p (h.places s p here)

pub run_contents : (c : Config) (lines : List ScheduleLine) → LinesFit c lines → PacksAreOfSites c → length c.packs ≤ 4 → CopiesHaveContents (run_in c lines)
run_contents c lines fit packs few = world_contents c (run_in c lines) (run_facts c lines fit packs few)
