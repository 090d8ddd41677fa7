-- What is pulled may be adopted.
use Rattle.std.proofs.Common.{◌≡◌, ◌≤◌, ℕ, List, [], ◌∷◌, length, Some, sym, subst}
use Rattle.locus_ids.specs.declared.config.Config.{Config}
use Rattle.locus_ids.specs.declared.ids.FileId.{FileId}
use Rattle.locus_ids.specs.declared.ids.Kind.{Kind}
use Rattle.locus_ids.specs.declared.ids.Stamp.{Stamp}
use Rattle.locus_ids.specs.declared.sites.Sites.{Sites}
use Rattle.schedule_lines.specs.declared.line.ScheduleLine.{ScheduleLine}
use Rattle.stored_versions.specs.Versions.{IsVersion}
use Rattle.wire_messages.specs.declared.body.Body.{Body}
use Rattle.wire_messages.specs.declared.body.Body.TheVariants as body
use Rattle.wire_messages.specs.declared.packet.Packet.{Packet}
use Rattle.role_steps.specs.Own.{Every}
use Rattle.role_steps.specs.Epochs.{frame_in}
use Rattle.role_steps.specs.Views.{Frame, SiteView, Store}
use Rattle.role_steps.specs.declared.pulls.Pull.{Pull}
use Rattle.role_steps.specs.declared.rounds.InEpoch.{InEpoch}
use Rattle.the_run.specs.Kept.{WasSent}
use Rattle.the_run.specs.Runs.{run_in}
use Rattle.the_run.specs.Worlds.{Line, Numbered, Running, place_at}
use Rattle.the_run.proofs.Runs.{every_run}
use Rattle.store_laws.specs.of_row_laws.Voids.{LinesFit}
use Rattle.site_laws.proofs.Packs.InstanceAgree.{run_agrees}
use Rattle.site_laws.specs.Packs.Packed.{BodyPacked, PullPacked, WorldPacked}
use Rattle.site_laws.proofs.Packs.PacksRun.{all_kept, first_all, sent_packed}
use Rattle.tree_model.specs.Files.{HeldVersion}
use Rattle.tree_laws.specs.Instances.{IsVersion as IsOfFile}
use Rattle.tree_laws.specs.Doing.{StoreHeld}
use Rattle.tree_laws.specs.Packets.{BodyFact}
use Rattle.tree_laws.specs.Stores.{PullFact}
use Rattle.tree_laws.specs.Orders.Joining.{PacksAreOfSites}
use Rattle.store_laws.specs.OneTree.Places.{InsideFact}
use Rattle.store_laws.specs.OneTree.Rest.{Past}
use Rattle.store_laws.proofs.OneTree.Run.{sent_fact}
use Rattle.rest_laws.specs.Fits.Pulling.{FitsPull, NoticeFits}
use Rattle.rest_laws.specs.Fits.Versions.{FitsSlot, given}
use Rattle.rest_laws.proofs.Fits.Running.{run_inside}
use Rattle.rest_laws.proofs.Fits.Slots.{version_slot}
use Rattle.rest_laws.proofs.Fits.Tables.{past_of_run, world_of}
use Rattle.rest_laws.proofs.Fits.Tried.{pull_kept}

-- a version of the file may stand in a slot
pub held_slot : (c : Config) (t : List Line) → Past c t → (f : FileId) (v : HeldVersion) → IsOfFile c t f v → FitsSlot f v
held_slot c t past f v k = subst (FitsSlot f) (sym k.same) (version_slot c t past f v.stamp k.stands)

-- what is told of a version
told_version : (v : HeldVersion) (kind : Kind) (set : Sites) (stamp : Stamp) (vector : List ℕ) (size : ℕ) → v.kind ≡ kind → v.set ≡ set → v.stamp ≡ stamp → v.vector ≡ vector → length v.content ≡ size → IsVersion (given v) (length v.content) →
    IsVersion (record { kind = kind; set = set; stamp = stamp; vector = vector }) size
told_version v kind set stamp vector size a b d e f k = subst (λ (n : ℕ). IsVersion (record { kind = kind; set = set; stamp = stamp; vector = vector }) n) f
    (subst (λ (x : List ℕ). IsVersion (record { kind = kind; set = set; stamp = stamp; vector = x }) (length v.content)) e
    (subst (λ (x : Stamp). IsVersion (record { kind = kind; set = set; stamp = x; vector = v.vector }) (length v.content)) d
    (subst (λ (x : Sites). IsVersion (record { kind = kind; set = x; stamp = v.stamp; vector = v.vector }) (length v.content)) b
    (subst (λ (x : Kind). IsVersion (record { kind = x; set = v.set; stamp = v.stamp; vector = v.vector }) (length v.content)) a k))))

pull_fits : (c : Config) (t : List Line) → Past c t → (f : Frame) (s : Store) → StoreHeld c f t s → (p : Pull) → PullFact c t f.epoch f.me p → PullPacked c f.me p → FitsPull c f.me s p
pull_fits c t past f s held p k packed =
    let slot : FitsSlot p.file k.version = held_slot c t past p.file k.version k.is_version in
    record { packed = packed.here; number = slot.number; version = told_version k.version p.kind p.set p.stamp p.vector p.size k.kind_is k.set_is k.stamp_is k.vector_is k.size_is slot.version; kept = pull_kept c t past f s held p k }

pub pulls_fit : (c : Config) (t : List Line) → Past c t → (f : Frame) (s : Store) → StoreHeld c f t s → (ps : List Pull) → Every (PullFact c t f.epoch f.me) ps → Every (PullPacked c f.me) ps → Every (FitsPull c f.me s) ps
pulls_fit c t past f s held [] h k = tt
pulls_fit c t past f s held (p ∷ ps) h k = (pull_fits c t past f s held p h.0 k.0, pulls_fit c t past f s held ps h.1 k.1)

world_packed : (c : Config) (lines : List ScheduleLine) → WorldPacked c (run_in c lines)
world_packed c lines = (every_run c _ (all_kept c) (first_all c) lines).1 (run_agrees c lines)

pub run_pulls : (c : Config) (lines : List ScheduleLine) → LinesFit c lines → PacksAreOfSites c → length c.packs ≤ 4 → (s : ℕ) (v : SiteView) (e : InEpoch) → place_at (run_in c lines) s ≡ Some (Running v) → v.epoch ≡ Some e → Every (FitsPull c s v.store) v.pulls
run_pulls c lines fit packs few s v e here inside =
    let fact : InsideFact c (frame_in c s v.boot e) (run_in c lines).trace v = run_inside c lines fit packs few s v e here inside in
    pulls_fit c (run_in c lines).trace (past_of_run c lines fit packs few) (frame_in c s v.boot e) v.store fact.store v.pulls fact.pulls ((world_packed c lines).views s v here).pulls

pub notice_fits : (c : Config) (t : List Line) → Past c t → (p : Packet) (b : Body) → BodyFact c t p b → BodyPacked c p.from p.to b → NoticeFits c p.to b
notice_fits c t past p (body.Notify file kind set size stamp vector holder) k packed =
    let slot : FitsSlot file k.version = held_slot c t past file k.version k.is_version in
    (packed.here, slot.number, told_version k.version kind set stamp vector size k.kind_is k.set_is k.stamp_is k.vector_is k.size_is slot.version)
notice_fits c t past p _ k packed = tt

pub run_notices : (c : Config) (lines : List ScheduleLine) → LinesFit c lines → PacksAreOfSites c → length c.packs ≤ 4 → (x : Numbered) → WasSent (run_in c lines) x → NoticeFits c x.packet.to x.packet.body
run_notices c lines fit packs few x was = notice_fits c (run_in c lines).trace (past_of_run c lines fit packs few) x.packet x.packet.body (sent_fact c (run_in c lines) x (world_of c lines fit packs few) was) (sent_packed c (run_in c lines) x was (world_packed c lines))
