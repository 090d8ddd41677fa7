-- At the end of a calm round nothing is known of a directory, or one version of it is kept, or a mend of it was refused for good: so a mend of
-- it that begins later begins where its site has the only kept version.
use Rattle.std.proofs.Common.{◌≡◌, ℕ, ◌⊎◌, true, List, [], ◌∷◌, map, length, Option, Some, None, refl, sym, ◌∙◌, ap, subst, inl, inr, arith}
use Rattle.role_steps.proofs.of_plain_facts.Tests.{true_false}
use Rattle.locus_ids.specs.declared.config.Config.{Config}
use Rattle.locus_ids.specs.declared.ids.FileId.{FileId}
use Rattle.locus_ids.specs.declared.ids.Kind.{Kind}
use Rattle.locus_ids.specs.declared.ids.Kind.TheVariants as kind
use Rattle.locus_ids.specs.declared.ids.Stamp.{Stamp}
use Rattle.schedule_lines.specs.declared.line.ScheduleLine.{ScheduleLine}
use Rattle.role_steps.specs.Adoption.{table_group}
use Rattle.role_steps.specs.Mends.{is_dir}
use Rattle.role_steps.specs.Tables.{row}
use Rattle.role_steps.specs.Versions.{file_row, kept}
use Rattle.role_steps.specs.Views.{boot_in, sync_site}
use Rattle.role_steps.specs.declared.rounds.InEpoch.{InEpoch}
use Rattle.role_steps.specs.declared.synchronizing.FileRow.{FileRow}
use Rattle.role_steps.specs.declared.synchronizing.SyncTable.{SyncTable}
use Rattle.role_steps.specs.declared.synchronizing.VersionRow.{VersionRow}
use Rattle.the_run.specs.Kept.{Among}
use Rattle.the_run.specs.Worlds.{World, place_at}
use Rattle.tree_model.specs.Epochs.{members_of}
use Rattle.tree_model.specs.Files.{kind_of_file}
use Rattle.tree_model.specs.Packs as tree
use Rattle.tree_model.specs.State.{has_stamp}
use Rattle.tree_model.specs.Tree.{kept_in}
use Rattle.lawful_trace.specs.CallRows.{has_lost_mend}
use Rattle.tree_laws.specs.Instances.{IsStarted, Stands}
use Rattle.tree_laws.specs.Packets.{file_in}
use Rattle.tree_laws.specs.Printed.{entries}
use Rattle.tree_laws.specs.Tables.{FilesFact, StartedFiles, TableFact, row_stamp}
use Rattle.tree_laws.proofs.Rows.{followed_rows}
use Rattle.tree_laws.proofs.Orders.ProcessSynchronizing.{sync_same}
use Rattle.store_laws.specs.Holdings.Held.{IsBelowKept}
use Rattle.store_laws.proofs.Holdings.Below.{commits_new}
use Rattle.store_laws.proofs.Holdings.Holding.{below_kept}
use Rattle.store_laws.specs.OneTree.Places.{InsideFact}
use Rattle.store_laws.proofs.OneTree.Staying.{rest_below}
use Rattle.rest_laws.proofs.Fits.EntryFacts.{IsPlain}
use Rattle.row_laws.specs.Orderly.Calm.{IsInside, AreTogether}
use Rattle.calm_laws.specs.Carrying.{IsMember, frame_of}
use Rattle.calm_laws.specs.Rounds.{after, IsInRound, IsCalm, CalmLeft}
use Rattle.calm_laws.proofs.Delivered.{inside_fact}
use Rattle.calm_laws.proofs.Facts.{RoundFacts, round_facts}
use Rattle.calm_laws.proofs.Lists.{every_among, row_key}
use Rattle.calm_laws.proofs.Members.{sync_is}
use Rattle.calm_laws.proofs.TableThere.{table_there}
use Rattle.calm_laws.specs.Convergence.Copies.{Knows}
use Rattle.calm_laws.proofs.Convergence.DirectoriesBegun.{MayHaveBegun}
use Rattle.calm_laws.proofs.Convergence.DirectoriesKept.{HasKnown}
use Rattle.calm_laws.proofs.Convergence.DirectoriesUnflagged.{calm_world, unflagged}
use Rattle.calm_laws.proofs.Convergence.Knowing.{Known, knows}
use Rattle.calm_laws.proofs.Convergence.Started.{all_started}

module _ (c : Config) (left : CalmLeft c) (lines : List ScheduleLine) (n : ℕ) (e : InEpoch) (k : ℕ) (h : IsCalm c lines n e k) (file : FileId) (css : ℕ) (synced : sync_site c e.members file.group ≡ Some css) where
  abbrev w : World
  w = after c lines n k

  round : IsInRound c lines n w
  round = calm_world c lines n e k h

  together : AreTogether w e
  together = h.each k (omega arith)

  facts : RoundFacts c w
  facts = round_facts c lines n w round

  member : IsMember e css
  member = (sync_is c e file.group css synced).1

  i : IsInside w e css
  i = together.inside css member

  inside : InsideFact c (frame_of c e css) w.trace i.view
  inside = inside_fact c e w css i.view facts.fact together member i.here

  -- ---- its table ----

  there : (t : SyncTable) × (row table_group file.group i.view.tables ≡ Some t)
  there = table_there c w.trace e file.group css (boot_in e.members.boot css) i.view h.groups inside synced

  abbrev t : SyncTable
  t = there.0

  at_table : Among t i.view.tables × (t.group ≡ file.group)
  at_table = row_key table_group file.group i.view.tables t there.1

  table : TableFact c w.trace (frame_of c e css) t
  table = every_among (TableFact c w.trace (frame_of c e css)) t i.view.tables at_table.0 inside.tables

  is_started : t.started ≡ true
  is_started = all_started c lines n e k left h css file.group i.view t member i.here there.1

  pub group_started : IsStarted c w.trace e.id file.group
  group_started = subst (λ (g : ℕ). IsStarted c w.trace e.id g) at_table.1 (sym table.started ∙ is_started)

  files : StartedFiles c w.trace (frame_of c e css) t
  files = subst (FilesFact c w.trace (frame_of c e css) t) is_started table.files

  -- of the file it keeps what the tree keeps
  kept_is : (ks : List VersionRow) → kept (file_row t file.ino) ≡ ks → kept_in c (entries w.trace) e.id file ≡ map row_stamp ks
  kept_is ks is = ap (λ (g : ℕ). kept_in c (entries w.trace) e.id (file_in g file.ino)) (sym at_table.1) ∙ (sym (files.kept_is file.ino) ∙ ap (λ (vs : List VersionRow). map row_stamp vs) is)

  abbrev knows_row : (r : FileRow) → file_row t file.ino ≡ Some r → Knows c e (place_at w) file r
  knows_row r is = record { css = css; synced = synced; view = i.view; here = i.here; table = t; found = there.1; is_row = is }

  -- ---- what is kept ----

  none_known : kept_in c (entries w.trace) e.id file ≡ [] → HasKnown c w.trace e.id file css
  none_known none v known = absurd (true_false (sym (subst (λ (ks : List Stamp). has_stamp ks b.top ≡ true) none b.is_kept)))
    where
      b : IsBelowKept c (entries w.trace) e.id file v
      b = below_kept c (entries w.trace) (followed_rows c w.trace facts.fact.followed) (commits_new c w.trace facts.fact.followed (rest_below c w.trace facts.rest).once) e.id file v known

  sync_now : tree.sync_site c file.group (members_of (entries w.trace) e.id) ≡ Some css
  sync_now = ap (tree.sync_site c file.group) inside.frame.members_are ∙ (sym (sync_same c e.members file.group) ∙ synced)

  -- a flagged directory's mend was refused
  lost : (r : FileRow) → file_row t file.ino ≡ Some r → (one other : VersionRow) (others : List VersionRow) → r.kept ≡ one ∷ other ∷ others → (IsPlain c w.trace file → ⊥) → has_lost_mend (entries w.trace) e.id file ≡ true
  lost r is one other others several no_plain = sym (inside.users.inside.inside.hopeless file sync_now) ∙ unflagged c left lines n e k file r h (knows_row r is) (dir r.kind refl) (record { one = one; other = other; others = others; kept = several })
    where
      known : Known c e w css t file r
      known = knows c lines n e w round together file r (knows_row r is)

      dir : (x : Kind) → r.kind ≡ x → is_dir r.kind ≡ true
      dir kind.Dir q = ap is_dir q
      dir kind.File q = absurd (no_plain (record {
        stamp = known.file_fact.some;
        stands = subst (λ (f : FileId). Stands c w.trace f known.file_fact.some) known.is_file known.file_fact.stands;
        kind_is = subst (λ (f : FileId). kind_of_file c (entries w.trace) f ≡ kind.File) known.is_file (sym known.file_fact.kind_is ∙ q);
      }))

  pub may_begin : (IsPlain c w.trace file → ⊥) → HasKnown c w.trace e.id file css ⊎ MayHaveBegun c w.trace e.id file css
  may_begin no_plain = by_row (file_row t file.ino) refl
    where
      by_kept : (r : FileRow) → file_row t file.ino ≡ Some r → (ks : List VersionRow) → r.kept ≡ ks → HasKnown c w.trace e.id file css ⊎ MayHaveBegun c w.trace e.id file css
      by_kept r is [] q = inl (none_known (kept_is [] (ap kept is ∙ q)))
      by_kept r is (one ∷ []) q = inr (inl (ap length (kept_is (one ∷ []) (ap kept is ∙ q))))
      by_kept r is (one ∷ other ∷ others) q = inr (inr (lost r is one other others q no_plain))

      by_row : (r : Option FileRow) → file_row t file.ino ≡ r → HasKnown c w.trace e.id file css ⊎ MayHaveBegun c w.trace e.id file css
      by_row None is = inl (none_known (kept_is [] (ap kept is)))
      by_row (Some r) is = by_kept r is r.kept refl
