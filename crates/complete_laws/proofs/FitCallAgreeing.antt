-- An inode that several of the contents of a mend have has one kind.
use Rattle.std.proofs.Common.{◌≡◌, ◌≤◌, ℕ, List, [], ◌∷◌, length, Some}
use Rattle.locus_ids.specs.declared.config.Config.{Config}
use Rattle.locus_ids.specs.declared.ids.Kind.{Kind}
use Rattle.schedule_lines.specs.declared.line.ScheduleLine.{ScheduleLine}
use Rattle.trace_book.specs.declared.operation.Op.{Op}
use Rattle.trace_book.specs.declared.operation.Op.TheVariants as op
use Rattle.wire_messages.specs.declared.body.Body.{Body}
use Rattle.wire_messages.specs.declared.body.Body.TheVariants as body
use Rattle.wire_messages.specs.declared.packet.Packet.{Packet}
use Rattle.dir_format.specs.Contents.{entries_of}
use Rattle.role_steps.specs.Epochs.{frame_in}
use Rattle.role_steps.specs.Mends.{mending}
use Rattle.role_steps.specs.OperationEffects.{Mending, joined_contents}
use Rattle.role_steps.specs.Own.{Every}
use Rattle.role_steps.specs.Storage.{instance_of}
use Rattle.role_steps.specs.Views.{Frame, SiteView}
use Rattle.role_steps.specs.declared.rounds.InEpoch.{InEpoch}
use Rattle.the_run.specs.Kept.{WasSent}
use Rattle.the_run.specs.Runs.{run_in}
use Rattle.the_run.specs.Steps.{from_user, group_of}
use Rattle.the_run.specs.Worlds.{Line, Numbered, Running, place_at}
use Rattle.packet_laws.specs.of_row_laws.Voids.{LinesFit}
use Rattle.tree_laws.specs.Doing.{IsReceived}
use Rattle.tree_laws.specs.Following.{IsFollowed}
use Rattle.tree_laws.specs.Packets.{PacketFact}
use Rattle.packet_laws.specs.of_tree_laws.Orders.Joining.{PacksAreOfSites}
use Rattle.packet_laws.specs.of_store_laws.OneTree.Places.{InsideFact}
use Rattle.packet_laws.specs.of_store_laws.OneTree.Rest.{Past}
use Rattle.calm_laws.specs.of_rest_laws.Fits.EntryEntries.{EntriesName, IsEntered}
use Rattle.calm_laws.proofs.of_rest_laws.Fits.EntryContents.{AllNamed, agree, joined_named}
use Rattle.calm_laws.proofs.of_rest_laws.Fits.EntryMending.{AreNamed, mending_named}
use Rattle.calm_laws.proofs.of_rest_laws.Fits.EntryNamed.{one_kind}
use Rattle.site_node.specs.of_site_parts.Fitting.{CanTakeAtStore}
use Rattle.calm_laws.proofs.of_rest_laws.Fits.Running.{run_inside}
use Rattle.calm_laws.proofs.of_rest_laws.Fits.Tables.{past_of_run}
use Rattle.complete_laws.specs.FitCallJoining.{HasGroups, KindsAgree, KindsIf, KindsIfMend}
use Rattle.complete_laws.proofs.FitCallJoining.{run_joins}

module _ (c : Config) (t : List Line) (group : ℕ) where
  abbrev Names : ℕ → Kind → Type 0
  Names ino k = IsEntered c t group ino k

  joined_all_named : (contents : List (List ℕ)) → Every (EntriesName c t group) contents → AllNamed Names (joined_contents contents)
  joined_all_named [] k = tt
  joined_all_named (x ∷ xs) k = joined_named Names (one_kind c t group) (entries_of x) (joined_contents xs) k.0 (joined_all_named xs k.1)

  -- contents that name files that stand agree on their kinds
  kinds_agree : (contents : List (List ℕ)) → Every (EntriesName c t group) contents → KindsAgree contents
  kinds_agree [] k = tt
  kinds_agree (x ∷ xs) k = (agree Names (one_kind c t group) (entries_of x) (joined_contents xs) k.0 (joined_all_named xs k.1), kinds_agree xs k.1)

-- at a site in its epoch, whatever it is asked
pub kinds_hold : (c : Config) (t : List Line) → PacksAreOfSites c → IsFollowed c t → (f : Frame) (v : SiteView) → InsideFact c f t v → (from : ℕ) (b : Body) → KindsIfMend v from b
kinds_hold c t packs h f v inside from (body.Op serial n o seen) = over o
  where
    m : Mending
    m = mending v (group_of (instance_of v.store (from_user from serial)))

    so : AreNamed c t m.contents
    so = mending_named c packs t h f v inside (group_of (instance_of v.store (from_user from serial)))

    over : (o : Op) → KindsIf m o
    over op.Mend = kinds_agree c t so.group m.contents so.named
    over _ = tt
kinds_hold c t packs h f v inside from _ = tt

pub kinds_now : (c : Config) (t : List Line) → Past c t → length c.packs ≤ 4 → (f : Frame) (v : SiteView) → InsideFact c f t v → (p : Packet) → IsReceived f p → PacketFact c t p → KindsIfMend v p.from p.body
kinds_now c t past few f v inside p received fact = kinds_hold c t past.rest.packs past.followed f v inside p.from p.body

-- ---- after every schedule ----

pub run_fits : (c : Config) (lines : List ScheduleLine) → LinesFit c lines → PacksAreOfSites c → length c.packs ≤ 4 → (x : Numbered) → WasSent (run_in c lines) x → (v : SiteView) (e : InEpoch) → place_at (run_in c lines) x.packet.to ≡ Some (Running v) → v.epoch ≡ Some e → x.packet.epoch ≡ e.id →
    (groups : List ℕ) → HasGroups c x.packet.to groups → CanTakeAtStore (frame_in c x.packet.to v.boot e) (λ inst. mending v (group_of (instance_of v.store inst))) v.tables groups x.packet.to x.packet.from x.packet.body v.store
run_fits c lines fit packs few x was v e here inside at groups has = run_joins c lines fit packs few x was v e here inside at groups has
    (kinds_hold c (run_in c lines).trace packs (past_of_run c lines fit packs few).followed (frame_in c x.packet.to v.boot e) v (run_inside c lines fit packs few x.packet.to v e here inside) x.packet.from x.packet.body)
