-- What a mend joins at its site is no longer than a number tells.
use Rattle.std.proofs.Common.{◌≡◌, ◌≤◌, ◌<◌, ◌^◌, ℕ, ◌+◌, List, [], ◌∷◌, length, map, Some, refl, sym, ap, subst, arith, inl, inr}
use Rattle.locus_ids.specs.declared.config.Config.{Config}
use Rattle.locus_ids.specs.declared.ids.FileId.{FileId}
use Rattle.locus_ids.specs.declared.ids.Serial.{Serial}
use Rattle.locus_ids.specs.declared.ids.Stamp.{Stamp}
use Rattle.schedule_lines.specs.declared.line.ScheduleLine.{ScheduleLine}
use Rattle.commit_graph.specs.Versions.{content_of}
use Rattle.commit_graph.specs.declared.history.Version.{Version}
use Rattle.trace_book.specs.declared.operation.Op.{Op}
use Rattle.trace_book.specs.declared.operation.Op.TheVariants as op
use Rattle.trace_book.specs.declared.operation.Outcome.{Outcome}
use Rattle.wire_messages.specs.declared.body.Body.{Body}
use Rattle.wire_messages.specs.declared.body.Body.TheVariants as body
use Rattle.wire_messages.specs.declared.packet.Packet.{Packet}
use Rattle.packet_laws.specs.of_operation_effects.Joinable.{AreJoinable}
use Rattle.role_steps.specs.Epochs.{frame_in}
use Rattle.role_steps.specs.Mends.{mending}
use Rattle.role_steps.specs.OperationEffects.{Mending}
use Rattle.role_steps.specs.Storage.{instance_of}
use Rattle.role_steps.specs.Views.{Frame, SiteView}
use Rattle.role_steps.specs.declared.instances.Instance.{Instance}
use Rattle.role_steps.specs.declared.instances.Stage.TheVariants as stage
use Rattle.role_steps.specs.declared.rounds.InEpoch.{InEpoch}
use Rattle.the_run.specs.Kept.{WasSent}
use Rattle.the_run.specs.Runs.{run_in}
use Rattle.the_run.specs.Steps.{from_user, group_of}
use Rattle.the_run.specs.Worlds.{Line, Numbered, Running, place_at}
use Rattle.packet_laws.specs.of_row_laws.Voids.{LinesFit}
use Rattle.tree_model.specs.Histories.{history}
use Rattle.tree_model.specs.State.{kept_of}
use Rattle.tree_model.specs.Tree.{tree_of}
use Rattle.tree_laws.specs.Packets.{BodyFact, OpFact}
use Rattle.tree_laws.specs.Past.{WasDone}
use Rattle.tree_laws.specs.Printed.{entries}
use Rattle.tree_laws.specs.Stores.{InstanceFact, RunsAs, StageFact}
use Rattle.packet_laws.specs.of_tree_laws.Orders.Joining.{PacksAreOfSites}
use Rattle.packet_laws.proofs.of_store_laws.AnswerDone.{done_named}
use Rattle.tree_laws.proofs.Grants.{open_named}
use Rattle.locus_ids.specs.declared.ids.EpochId.{EpochId}
use Rattle.locus_ids.specs.Sizes.{file_bytes_max, sites_max}
use Rattle.packet_laws.specs.of_store_laws.Rests.{MendsAs}
use Rattle.packet_laws.proofs.of_store_laws.Closes.{found_instance}
use Rattle.packet_laws.specs.of_store_laws.OneTree.Places.{InsideFact}
use Rattle.packet_laws.specs.of_store_laws.OneTree.Rest.{Past}
use Rattle.packet_laws.proofs.of_store_laws.OneTree.Run.{sent_fact}
use Rattle.packet_laws.proofs.of_rest_laws.MendStepWorking.{mends_as}
use Rattle.packet_laws.proofs.of_rest_laws.StoreStepResting.{op_rests}
use Rattle.site_node.specs.of_site_parts.Fitting.{CanTakeAtStore}
use Rattle.calm_laws.proofs.of_rest_laws.Fits.Opens.{named_sited, run_opens}
use Rattle.calm_laws.proofs.of_rest_laws.Fits.Running.{run_inside, run_storable}
use Rattle.calm_laws.proofs.of_rest_laws.Fits.Tables.{past_of_run, run_tables, world_of}
use Rattle.calm_laws.specs.of_store_laws.Works.Working.{AreSized}
use Rattle.calm_laws.proofs.of_store_laws.Works.Working.{trace_works}
use Rattle.calm_laws.proofs.of_store_laws.OneTree.Staying.{rest_below}
use Rattle.complete_laws.specs.FitCallJoining.{HasGroups, KindsAgree, KindsIf, KindsIfMend}
use Rattle.complete_laws.proofs.FitCallTaking.{JoinsBody, JoinsNext, takes_at}

joinable : (h : List Version) → AreSized h → (f : FileId) (ss : List Stamp) → KindsAgree (map (content_of h f) ss) → AreJoinable (map (content_of h f) ss)
joinable h sized f [] k = tt
joinable h sized f (s ∷ ss) k = ((wide (length (content_of h f s)) (sized f s), k.0), joinable h sized f ss k.1)
  where
    wide : (n : ℕ) → n ≤ file_bytes_max → n < 2 ^ 32
    wide n l = omega (arith, l)

module _ (c : Config) (t : List Line) (past : Past c t) (few : length c.packs ≤ 4) (f : Frame) (v : SiteView) (inside : InsideFact c f t v) (inst : Serial) (small : inst.us ≤ sites_max) where
  abbrev m : Mending
  m = mending v (group_of (instance_of v.store inst))

  -- an operation that was done isn't the next one
  done_not_next : (n : ℕ) (o : Op) (r : Outcome) (i : Instance) → InstanceFact c t f i → i.inst ≡ inst → RunsAs c t f i → n ≡ i.work.ops + 1 → WasDone t f.epoch inst n o r → ⊥
  done_not_next n o r i fact same (inl (x, w)) next done = over n i.work.ops x.work.ops (ap (λ (y : _). y.ops) w.work_is) next
      ((op_rests c t past).done f.epoch i.inst n o r x (subst (λ (j : Serial). WasDone t f.epoch j n o r) (sym same) done) w.open_at.found)
    where
      over : (n a b : ℕ) → b ≡ a → n ≡ a + 1 → n ≤ b → ⊥
      over n a b e k l = omega (arith, e, k, l)
  done_not_next n o r i fact same (inr w) next done = w.unnamed (done_named c t past.followed f.epoch i.inst n o r (subst (λ (j : Serial). WasDone t f.epoch j n o r) (sym same) done))

  running : (i : Instance) → i.stage ≡ stage.Running → InstanceFact c t f i → RunsAs c t f i
  running i q fact = (subst (StageFact c t f i) q fact.stage).0

  joins_mend : (n : ℕ) (seen : List ℕ) → OpFact c t f.epoch f.me inst n op.Mend seen → KindsAgree m.contents → (i : Instance) → instance_of v.store inst ≡ Some i → i.stage ≡ stage.Running → n ≡ i.work.ops + 1 → AreJoinable m.contents
  joins_mend n seen (inl (r, done)) kinds i e q next = (let k : InstanceFact c t f i × (i.inst ≡ inst) = found_instance c t f v.store inside.store inst small i e in absurd (done_not_next n op.Mend r i k.0 k.1 (running i q k.0) next done))
  joins_mend n seen (inr now) kinds i e q next =
      let works : MendsAs c t f i.file m = mends_as c t f v past inside few inst small i e now.call now.inside now.asks in
      subst AreJoinable (sym works.contents) (joinable (history c (entries t)) (trace_works c t past.followed (rest_below c t past.rest)).0 i.file (kept_of (history c (entries t)) (tree_of c f.epoch i.file.group (entries t)) i.file) (subst KindsAgree works.contents kinds))

  joins_next : (n : ℕ) (o : Op) (seen : List ℕ) → OpFact c t f.epoch f.me inst n o seen → KindsIf m o → JoinsNext v.store m inst n o
  joins_next n op.Mend seen fact kinds = λ i e q next. joins_mend n seen fact kinds i e q next
  joins_next n op.Commit seen fact kinds = λ i e q next. tt
  joins_next n op.Abort seen fact kinds = λ i e q next. tt
  joins_next n (op.Probe name) seen fact kinds = λ i e q next. tt
  joins_next n (op.Find component) seen fact kinds = λ i e q next. tt
  joins_next n (op.Insert name ino kind) seen fact kinds = λ i e q next. tt
  joins_next n (op.Remove name ino) seen fact kinds = λ i e q next. tt
  joins_next n (op.Rename component name) seen fact kinds = λ i e q next. tt
  joins_next n op.Empty seen fact kinds = λ i e q next. tt
  joins_next n (op.Read at len) seen fact kinds = λ i e q next. tt
  joins_next n (op.Write at bytes) seen fact kinds = λ i e q next. tt
  joins_next n (op.Cut len) seen fact kinds = λ i e q next. tt

-- whose operation is asked or done is one of the sixteen sites
asked_low : (c : Config) (t : List Line) → Past c t → (e : EpochId) (ss : ℕ) (i : Serial) (n : ℕ) (o : Op) (seen : List ℕ) → OpFact c t e ss i n o seen → i.us ≤ sites_max
asked_low c t past e ss i n o seen (inl (r, done)) = (named_sited c t past.followed past.rest.each e i (done_named c t past.followed e i n o r done)).high
asked_low c t past e ss i n o seen (inr now) = (named_sited c t past.followed past.rest.each e i (open_named c t e i now.at now.open_at.found)).high

pub body_joins : (c : Config) (t : List Line) → Past c t → length c.packs ≤ 4 → (f : Frame) (v : SiteView) → InsideFact c f t v → (p : Packet) → p.to ≡ f.me → p.epoch ≡ f.epoch → (b : Body) → BodyFact c t p b → KindsIfMend v p.from b → JoinsBody v.store (λ inst. mending v (group_of (instance_of v.store inst))) p.from b
body_joins c t past few f v inside p to at (body.Op serial n o seen) fact kinds = joins_next c t past few f v inside (from_user p.from serial) (asked_low c t past p.epoch p.to (from_user p.from serial) n o seen fact) n o seen
    (subst (λ (z : ℕ). OpFact c t f.epoch z (from_user p.from serial) n o seen) to (subst (λ (e : _). OpFact c t e p.to (from_user p.from serial) n o seen) at fact)) kinds
body_joins c t past few f v inside p to at _ fact kinds = tt

pub run_joins : (c : Config) (lines : List ScheduleLine) → LinesFit c lines → PacksAreOfSites c → length c.packs ≤ 4 → (x : Numbered) → WasSent (run_in c lines) x → (v : SiteView) (e : InEpoch) → place_at (run_in c lines) x.packet.to ≡ Some (Running v) → v.epoch ≡ Some e → x.packet.epoch ≡ e.id →
    (groups : List ℕ) → HasGroups c x.packet.to groups → KindsIfMend v x.packet.from x.packet.body → CanTakeAtStore (frame_in c x.packet.to v.boot e) (λ inst. mending v (group_of (instance_of v.store inst))) v.tables groups x.packet.to x.packet.from x.packet.body v.store
run_joins c lines fit packs few x was v e here inside at groups has kinds =
    let fact : InsideFact c (frame_in c x.packet.to v.boot e) (run_in c lines).trace v = run_inside c lines fit packs few x.packet.to v e here inside in
    takes_at c (frame_in c x.packet.to v.boot e) groups has v.tables (run_tables c lines fit packs few x.packet.to v here) v.store (run_storable c lines fit packs few x.packet.to v e here inside) (λ inst. mending v (group_of (instance_of v.store inst))) x.packet.from x.packet.body (run_opens c lines fit packs few x was)
    (body_joins c (run_in c lines).trace (past_of_run c lines fit packs few) few (frame_in c x.packet.to v.boot e) v fact x.packet refl at x.packet.body (sent_fact c (run_in c lines) x (world_of c lines fit packs few) was) kinds)
