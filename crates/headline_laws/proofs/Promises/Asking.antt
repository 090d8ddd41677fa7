-- A version that a storage site writes is of an instance of which a call asks next that it be committed or closed.
use Rattle.std.proofs.Common.{◌≡◌, ◌≤◌, ℕ, ◌+◌, ◌⊎◌, Bool, true, false, cond, not, List, [], ◌∷◌, Some, refl, sym, ◌∙◌, ap, subst, inl, inr, arith}
use Rattle.std.specs.List.{find}
use Rattle.role_steps.proofs.of_plain_facts.Options.{none_some, some_same}
use Rattle.role_steps.proofs.of_plain_facts.Tests.{and_true, true_false}
use Rattle.locus_ids.specs.declared.config.Config.{Config}
use Rattle.locus_ids.specs.declared.ids.CallId.{CallId}
use Rattle.locus_ids.specs.declared.ids.EpochId.{EpochId}
use Rattle.locus_ids.specs.declared.ids.FileId.{FileId}
use Rattle.locus_ids.specs.declared.ids.Serial.{Serial}
use Rattle.locus_ids.specs.Sizes.{sites_max}
use Rattle.trace_book.specs.Same.{same_serial}
use Rattle.trace_book.specs.declared.operation.Op.{Op}
use Rattle.trace_book.specs.declared.operation.Op.TheVariants as op
use Rattle.commit_graph.specs.Versions.{same_file}
use Rattle.commit_graph.specs.Grants.{is_read}
use Rattle.call_rules.specs.declared.want.Want.TheVariants as want
use Rattle.file_effects.specs.declared.work.Work.{Work}
use Rattle.role_steps.specs.Storage.{instance_key, instance_of}
use Rattle.role_steps.specs.Views.{Frame, Store, DiskWrite, serial_key}
use Rattle.role_steps.specs.declared.instances.Instance.{Instance}
use Rattle.role_steps.specs.declared.instances.Stage.TheVariants as stage
use Rattle.the_run.specs.Kept.{Among}
use Rattle.the_run.specs.Worlds.{Line}
use Rattle.tree_model.specs.declared.instance.Instance.{Instance as Open}
use Rattle.tree_model.specs.Epochs.{epoch_of}
use Rattle.tree_model.specs.Folds.{Trace}
use Rattle.tree_model.specs.Tree.{tree_of}
use Rattle.lawful_trace.specs.Progress.{wants_next}
use Rattle.lawful_trace.specs.TreeRows.{IsCallIn, is_writing}
use Rattle.lawful_trace.specs.Tables.{begun}
use Rattle.tree_laws.specs.Calls.{Asks}
use Rattle.tree_laws.specs.Doing.{FrameFact, StoreHeld}
use Rattle.tree_laws.specs.Packets.{CloseFact, OpFact}
use Rattle.tree_laws.specs.Printed.{entries}
use Rattle.tree_laws.specs.Stores.{InstanceFact, RunsAs, StageFact, WorksAs}
use Rattle.tree_laws.specs.Holding.{has_instances}
use Rattle.tree_laws.proofs.Grants.{open_named}
use Rattle.tree_laws.proofs.Hearing.{asks_next}
use Rattle.tree_laws.proofs.Names.{same_serial_eq}
use Rattle.calm_laws.specs.of_store_laws.OneTree.Rest.{Past}
use Rattle.calm_laws.specs.of_store_laws.Rests.{StoreRests}
use Rattle.calm_laws.proofs.of_store_laws.AnswerDone.{done_named}
use Rattle.calm_laws.proofs.of_store_laws.Closes.{found_instance}
use Rattle.calm_laws.proofs.of_store_laws.Commits.{file_own}
use Rattle.calm_laws.proofs.of_store_laws.Holdings.Released.{released_named}
use Rattle.calm_laws.proofs.of_store_laws.Runs.{found_in}
use Rattle.calm_laws.proofs.of_store_laws.Tabled.{row_among}
use Rattle.calm_laws.proofs.of_store_laws.AnswerAskers.{close_had, op_had}
use Rattle.rest_laws.proofs.StoreStepNamed.{named_low, released_low}
use Rattle.rest_laws.proofs.StoreStepResting.{op_rests, store_rests}
use Rattle.rest_laws.proofs.StoreStepWriting.{may_write}
use Rattle.headline_laws.specs.Promises.Committing.{IsCommitAsked, commits}
use Rattle.headline_laws.proofs.Promises.AskedKinds.{asked_kind, OpensAgain}
use Rattle.headline_laws.proofs.Promises.Wrote.{Wrote, WroteBy}
use Rattle.headline_laws.proofs.Promises.AskedAgain.{again_reads}

-- an open instance that may commit the file at the site, of which a call asks so
pub record HasAsked (c : Config) (before : Trace) (f : FileId) (site : ℕ) : Type 0 where
  pub epoch : EpochId
  pub inside : epoch_of before site ≡ Some epoch
  pub instance : Open
  pub there : Among instance (tree_of c epoch f.group before).instances
  pub writes : is_writing f instance ≡ true
  pub at : instance.grant.ss ≡ site
  pub asked : IsCommitAsked c before epoch instance.grant.inst

found_among : {A : Type 0} (test : A → Bool) (xs : List A) (x : A) → find test xs ≡ Some x → Among x xs × (test x ≡ true)
found_among test [] x e = absurd (none_some x e)
found_among test (y ∷ ys) x e = by_test (found_among test ys x) (test y) refl e
  where
    by_test : (find test ys ≡ Some x → Among x ys × (test x ≡ true)) → (b : Bool) → test y ≡ b → cond b (Some y) (find test ys) ≡ Some x → Among x (y ∷ ys) × (test x ≡ true)
    by_test later true t k = (inl (sym (some_same y x k)), subst (λ z. test z ≡ true) (some_same y x k) t)
    by_test later false t k = (inr (later k).0, (later k).1)

module _ (c : Config) (trace : List Line) (past : Past c trace) (f : Frame) (frame : FrameFact c trace f) (s : Store) (held : StoreHeld c f trace s) where
  rests : StoreRests c trace
  rests = store_rests c trace past

  -- of an instance as the tree has it
  has_asked : (i : Instance) → Among i s.instances → (x : Open) → WorksAs c trace f i x → i.work.owes ≡ true → (call : CallId) → IsCallIn (entries trace) f.epoch call → has_instances c trace call i.inst ≡ true →
      (wants_next c (entries trace) call ≡ want.Do i.inst op.Commit) ⊎ (wants_next c (entries trace) call ≡ want.Close i.inst) → HasAsked c (entries trace) i.file f.me
  has_asked i among x w owes call inside has asked = record {
    epoch = f.epoch;
    inside = frame.inside;
    instance = x;
    there = found.0;
    writes = and_true (same_file x.grant.file i.file) (not (is_read x.grant.mode)) (ap (λ (y : FileId). same_file y i.file) w.file_is ∙ file_own i.file) (ap not unread);
    at = w.open_at.place;
    asked = record {
      call = call;
      accepted = inside.accepted;
      named = inside.named;
      made_in = inside.made_in;
      kind = by_kind (asked_kind c (entries trace) call i.inst inside.accepted inside.named asked);
      asked = subst (λ (j : Serial). (wants_next c (entries trace) call ≡ want.Do j op.Commit) ⊎ (wants_next c (entries trace) call ≡ want.Close j)) (sym (same_serial_eq x.grant.inst i.inst found.1)) asked;
    };
  }
    where
      unread : is_read x.grant.mode ≡ false
      unread = ap is_read w.mode_is ∙ (may_write c trace past f frame s held i among).writes owes

      -- what is opened again is only read
      by_kind : (commits inside.accepted.words ≡ true) ⊎ OpensAgain (begun (entries trace) call) → commits inside.accepted.words ≡ true
      by_kind (inl kind) = kind
      by_kind (inr again) = absurd (true_false (sym (again_reads c trace past.followed f.epoch call inside i.inst has again.0 again.1 again.2 x w.open_at.found) ∙ unread))

      found : Among x (tree_of c f.epoch i.file.group (entries trace)).instances × (same_serial x.grant.inst i.inst ≡ true)
      found = found_among (λ (y : Open). same_serial y.grant.inst i.inst) (tree_of c f.epoch i.file.group (entries trace)).instances x
          (found_in c trace f.epoch i.inst x i.file.group w.open_at.found (ap (λ (y : FileId). y.group) w.file_is))

  next_do : (call : CallId) (i : Serial) → Asks c trace call (want.Do i op.Commit) → wants_next c (entries trace) call ≡ want.Do i op.Commit
  next_do call i k = (asks_next c trace call (want.Do i op.Commit) past.followed k (λ file what e. let h : want.Do i op.Commit ≡ want.Look file what = e in cc)).0

  next_close : (call : CallId) (i : Serial) → Asks c trace call (want.Close i) → wants_next c (entries trace) call ≡ want.Close i
  next_close call i k = (asks_next c trace call (want.Close i) past.followed k (λ file what e. let h : want.Close i ≡ want.Look file what = e in cc)).0

  too_high : (a b : ℕ) → a ≡ b + 1 → a ≤ b → ⊥
  too_high a b e l = omega (arith, e, l)

  module _ (inst : Serial) (i : Instance) (found : instance_of s inst ≡ Some i) (runs : i.stage ≡ stage.Running) (owes : i.work.owes ≡ true) where
    among : Among i s.instances
    among = row_among instance_key (serial_key inst) s.instances i found

    runs_as : InstanceFact c trace f i → RunsAs c trace f i
    runs_as k = (let h : StageFact c trace f i stage.Running = subst (StageFact c trace f i) runs k.stage in h).0

    op_asks : (n : ℕ) (seen : List ℕ) → n ≡ i.work.ops + 1 → OpFact c trace f.epoch f.me i.inst n op.Commit seen → RunsAs c trace f i → HasAsked c (entries trace) i.file f.me
    op_asks n seen next (inl d) (inl w) = absurd (too_high n i.work.ops next (subst (λ (z : Work). n ≤ z.ops) w.1.work_is ((op_rests c trace past).done f.epoch i.inst n op.Commit d.0 w.0 d.1 w.1.open_at.found)))
    op_asks n seen next (inl d) (inr w) = absurd (w.unnamed (done_named c trace past.followed f.epoch i.inst n op.Commit d.0 d.1))
    op_asks n seen next (inr q) (inr w) = absurd (w.unnamed (open_named c trace f.epoch i.inst q.at q.open_at.found))
    op_asks n seen next (inr q) (inl w) = has_asked i among w.0 w.1 owes q.call q.inside (op_had c trace q.call i.inst op.Commit past.followed (q.inside.accepted, q.inside.named) q.asks.asked) (inl (next_do q.call i.inst q.asks))

    close_asks : CloseFact c trace f.epoch f.me i.inst → RunsAs c trace f i → HasAsked c (entries trace) i.file f.me
    close_asks (inl r) (inl w) = absurd (rests.released f.epoch i.inst w.0 r w.1.open_at.found)
    close_asks (inl r) (inr w) = absurd (w.unnamed (released_named c trace past.followed f.epoch i.inst r))
    close_asks (inr k) (inr w) = absurd (w.unnamed (open_named c trace f.epoch i.inst k.0 k.1.open_at.found))
    close_asks (inr k) (inl w) = has_asked i among w.0 w.1 owes k.1.call k.1.inside (close_had c trace k.1.call i.inst past.followed (k.1.inside.accepted, k.1.inside.named) k.1.asks.asked) (inr (next_close k.1.call i.inst k.1.asks))

  op_low : (inst : Serial) (n : ℕ) (o : Op) (seen : List ℕ) → OpFact c trace f.epoch f.me inst n o seen → inst.us ≤ sites_max
  op_low inst n o seen (inl d) = named_low c trace past.followed past.rest.each f.epoch inst (done_named c trace past.followed f.epoch inst n o d.0 d.1)
  op_low inst n o seen (inr q) = named_low c trace past.followed past.rest.each f.epoch inst (open_named c trace f.epoch inst q.at q.open_at.found)

  close_low : (inst : Serial) → CloseFact c trace f.epoch f.me inst → inst.us ≤ sites_max
  close_low inst (inl r) = released_low c trace past f.epoch inst r
  close_low inst (inr k) = named_low c trace past.followed past.rest.each f.epoch inst (open_named c trace f.epoch inst k.0 k.1.open_at.found)

  pub op_asked : (inst : Serial) (n : ℕ) (o : Op) (seen : List ℕ) (d : DiskWrite) → OpFact c trace f.epoch f.me inst n o seen → (k : WroteBy f s inst n o d) → HasAsked c (entries trace) k.wrote.instance.file f.me
  op_asked inst n o seen d fact k = op_asks inst i k.wrote.found k.wrote.runs k.wrote.owes n seen k.next
      (subst (λ (z : Op). OpFact c trace f.epoch f.me i.inst n z seen) k.is (subst (λ (j : Serial). OpFact c trace f.epoch f.me j n o seen) (sym here.1) fact)) (runs_as inst i k.wrote.found k.wrote.runs k.wrote.owes here.0)
    where
      i : Instance
      i = k.wrote.instance

      here : InstanceFact c trace f i × (i.inst ≡ inst)
      here = found_instance c trace f s held inst (op_low inst n o seen fact) i k.wrote.found

  pub close_asked : (inst : Serial) (d : DiskWrite) → CloseFact c trace f.epoch f.me inst → (k : Wrote f s inst d) → HasAsked c (entries trace) k.instance.file f.me
  close_asked inst d fact k = close_asks inst i k.found k.runs k.owes (subst (λ (j : Serial). CloseFact c trace f.epoch f.me j) (sym here.1) fact) (runs_as inst i k.found k.runs k.owes here.0)
    where
      i : Instance
      i = k.instance

      here : InstanceFact c trace f i × (i.inst ≡ inst)
      here = found_instance c trace f s held inst (close_low inst fact) i k.found
