-- Operations at a storage site leave what its instances count, or commit by the next number.
use Rattle.std.proofs.Common.{◌≡◌, ℕ, ◌+◌, ◌==◌, Bool, true, false, cond, ◌⊎◌, List, ◌∷◌, Option, Some, None, refl, sym, subst}
use Rattle.locus_ids.specs.declared.ids.Serial.{Serial}
use Rattle.locus_ids.specs.declared.ids.Stamp.{Stamp}
use Rattle.locus_ids.specs.declared.config.Config.{Config}
use Rattle.locus_ids.specs.declared.refusal.Refusal.TheVariants as refusal
use Rattle.trace_book.specs.declared.operation.Op.{Op}
use Rattle.trace_book.specs.declared.operation.Op.TheVariants as op
use Rattle.trace_book.specs.declared.operation.Outcome.{Outcome as Result}
use Rattle.trace_book.specs.declared.operation.Outcome.TheVariants as result
use Rattle.file_effects.specs.Effects.{Effect, is_refusal}
use Rattle.file_effects.specs.Works.{counted, carried_out, operated, result_in, aborted}
use Rattle.file_effects.specs.declared.work.Work.{Work}
use Rattle.role_steps.specs.Own.{Every}
use Rattle.role_steps.specs.Tables.{row}
use Rattle.role_steps.specs.Views.{Frame, Store, Told, Shown, quiet, sends, and_then, serial_key, Outcome}
use Rattle.role_steps.specs.Storage.{instance_key, instance_of, free_pages, is_spent, commit_record, instance_committed, commits, next_stamp, next_vector, content_of, copy_of}
use Rattle.role_steps.specs.Operations.{acts, act_record, acts_committed, commits_owing, last_committed, commit_op, executes_effect, executes, op_again, by_number, on_op_at, on_op_of, on_op, in_form, nothing_to_mend, on_read_held}
use Rattle.role_steps.specs.of_dir_format.Entries.{nothing_seen}
use Rattle.role_steps.specs.OperationEffects.{Mending, effect_of}
use Rattle.role_steps.specs.declared.instances.Instance.{Instance}
use Rattle.role_steps.specs.declared.instances.Stage.{Stage}
use Rattle.role_steps.specs.declared.instances.Stage.TheVariants as stage
use Rattle.site_laws.specs.Vectors.Facts.{onto}
use Rattle.site_laws.specs.Locks.Going.{WasReleased, IsGranted}
use Rattle.site_laws.proofs.Locks.GrantTold.{latest_same}
use Rattle.site_laws.specs.Kept.StampLaws.{Laws}
use Rattle.site_laws.specs.Kept.StampCovering.{Bare, InWork, Runs, StageRuns, StageCloses}
use Rattle.site_laws.proofs.Kept.StampTold.{laws_before}
use Rattle.site_laws.proofs.Kept.StampFrames.{runs_after, closings_after, there_after, disk_after, bares}
use Rattle.site_laws.proofs.Kept.StampOutcomes.{then_fine}
use Rattle.site_laws.proofs.Kept.StampStoreCovers.{Stored, InStore, StoreFine, Knows, bare_fine, quiet_fine, put_instance, Lawfully, MayCommit, may_commit}
use Rattle.site_laws.proofs.Kept.StampCommitCovers.{commits_fine, committed_runs}
use Rattle.role_steps.proofs.HeldReads.{held_read_sent}

-- ---- an operation ----

worked : (past : List Told) (s : ℕ) (f : Frame) (i : Instance) (w : Work) (r : Option Result) → w.committed ≡ i.work.committed → Runs past s f.epoch i → Runs past s f.epoch (record i { work = w; answered = r })
worked past s f i w r e h = record { holds = h.holds; begun = h.begun; each = h.each; made = λ n u. subst (λ (o : Option Stamp). InWork o i.vector s n ⊎ WasReleased past f.epoch (serial_key i.inst)) (sym e) (h.made n u) }

acts_fine : (c : Config) (past : List Told) (f : Frame) (i : Instance) (o : Op) (r : Result) (w : Work) (s : Store) → w.committed ≡ i.work.committed → i.stage ≡ stage.Running → Runs past f.me f.epoch i → Stored past f s → StoreFine c f past (acts f i o r w s)
acts_fine c past f i o r w s e running k h =
    let x : Told = act_record f i w.ops o r in
    let now : List Told = x ∷ past in
    let j : Instance = record i { work = w; answered = Some r } in
    let runs : Runs now f.me f.epoch j = worked now f.me f i w (Some r) e (runs_after x past f.me f.epoch i (λ g n m. m) k) in
    record {
      view = record { disk = disk_after x past f.me s.copies (λ g n m. m) h.disk; instances = put_instance now f.me f.epoch j s.instances (subst (StageRuns now f.me f.epoch j) (sym running) runs) (subst (StageCloses now f.me f.epoch (serial_key i.inst)) (sym running) tt) (λ key ne. there_after x past f.me f.epoch (row instance_key key s.instances) (λ g n m. m) (h.instances.run key)) (closings_after x past f.me f.epoch s.instances h.instances.close) };
      sent = (tt, tt);
      goes = (tt, tt);
      disk = tt;
    }

operated_committed : (b : Bool) (e : Effect) (w : Work) → ◌≡◌ {A = Option Stamp} (cond b (counted w) (carried_out e w)).committed w.committed
operated_committed true e w = refl
operated_committed false e w = refl

effect_fine : (c : Config) (past : List Told) (f : Frame) (i : Instance) (o : Op) (e : Option Effect) (s : Store) → i.stage ≡ stage.Running → Runs past f.me f.epoch i → Stored past f s → StoreFine c f past (executes_effect f i o e s)
effect_fine c past f i o None s running k h = quiet_fine c f past s h
effect_fine c past f i o (Some e) s running k h =
    let r : Result = result_in (free_pages s i.file.group) i.work.changed e in
    acts_fine c past f i o r (operated e r i.work) s (operated_committed (is_refusal r) e i.work) running k h

-- ---- a commit that is asked ----

owing_fine : (c : Config) (past : List Told) (f : Frame) (i : Instance) (s : Store) → Laws c (onto (commits_owing f i s).told past) → i.work.owes ≡ true → MayCommit past f i → Stored past f s → StoreFine c f past (commits_owing f i s)
owing_fine c past f i s l owes k h =
    (elim (is_spent f i) as (λ b. is_spent f i ≡ b → Lawfully c f past (elim b [ true ↦ acts f i op.Commit (result.No refusal.Spent) (counted i.work) s | false ↦ and_then (commits f i s) (λ now. acts_committed f (next_stamp f (next_vector f i)) (instance_of now i.inst) now) ])) [
      | true ↦ λ e g. acts_fine c past f i op.Commit (result.No refusal.Spent) (counted i.work) s refl k.running k.runs h
      | false ↦ λ e g. both e g
    ]) refl l
  where
    stamp : Stamp
    stamp = next_stamp f (next_vector f i)

    x : Told
    x = Shown (commit_record f i stamp)

    j : Instance
    j = instance_committed i (next_vector f i) stamp

    now : Store
    now = (commits f i s).view

    found : instance_of now i.inst ≡ Some j
    found = latest_same instance_key j s.instances

    Both : Option Instance → Type 0
    Both o = StoreFine c f (x ∷ past) (acts_committed f stamp o now)

    last : Laws c (x ∷ past) → is_spent f i ≡ false → Both (Some j)
    last m e = acts_fine c (x ∷ past) f j op.Commit (result.Committed stamp) (counted j.work) now refl k.running (committed_runs c past f i s m owes e k h) (commits_fine c past f i s m owes e k h).view

    both : is_spent f i ≡ false → Laws c (onto (and_then (commits f i s) (λ v. acts_committed f stamp (instance_of v i.inst) v)).told past) → StoreFine c f past (and_then (commits f i s) (λ v. acts_committed f stamp (instance_of v i.inst) v))
    both e g =
        let m : Laws c (x ∷ past) = laws_before c (acts_committed f stamp (instance_of now i.inst) now).told (x ∷ past) g in
        then_fine c f.me (InStore f) (InStore f) past (commits f i s) (acts_committed f stamp (instance_of now i.inst) now) g (commits_fine c past f i s m owes e k h) (subst Both (sym found) (last m e)) (none (instance_of now i.inst))
      where
        none : (o : Option Instance) → (acts_committed f stamp o now).written ≡ None
        none None = refl
        none (Some q) = refl

last_fine : (c : Config) (past : List Told) (f : Frame) (i : Instance) (o : Option Stamp) (s : Store) → i.stage ≡ stage.Running → Runs past f.me f.epoch i → Stored past f s → StoreFine c f past (last_committed f i o s)
last_fine c past f i None s running k h = quiet_fine c f past s h
last_fine c past f i (Some stamp) s running k h = acts_fine c past f i op.Commit (result.Committed stamp) (counted i.work) s refl running k h

commit_op_fine : (c : Config) (past : List Told) (f : Frame) (i : Instance) (s : Store) → Laws c (onto (commit_op f i s).told past) → MayCommit past f i → Stored past f s → StoreFine c f past (commit_op f i s)
commit_op_fine c past f i s l k h =
    (elim i.work.owes as (λ b. i.work.owes ≡ b → Lawfully c f past (elim b [ true ↦ commits_owing f i s | false ↦ last_committed f i i.work.last s ])) [
      | true ↦ λ e g. owing_fine c past f i s g e k h
      | false ↦ λ e g. last_fine c past f i i.work.last s k.running k.runs h
    ]) refl l

-- ---- all operations ----

executes_fine : (c : Config) (past : List Told) (f : Frame) (m : Mending) (i : Instance) (o : Op) (seen : List ℕ) (s : Store) → Laws c (onto (executes f m i o seen s).told past) → MayCommit past f i → Stored past f s → StoreFine c f past (executes f m i o seen s)
executes_fine c past f m i op.Commit seen s l k h = commit_op_fine c past f i s l k h
executes_fine c past f m i op.Abort seen s l k h = acts_fine c past f i op.Abort result.Done (aborted i.mode (content_of (copy_of s i.file)) i.work) s refl k.running k.runs h
executes_fine c past f m i (op.Probe name) seen s l k h = effect_fine c past f i (op.Probe name) (effect_of (op.Probe name) seen m i.work.content) s k.running k.runs h
executes_fine c past f m i (op.Find component) seen s l k h = effect_fine c past f i (op.Find component) (effect_of (op.Find component) seen m i.work.content) s k.running k.runs h
executes_fine c past f m i (op.Insert name ino kind) seen s l k h = effect_fine c past f i (op.Insert name ino kind) (effect_of (op.Insert name ino kind) seen m i.work.content) s k.running k.runs h
executes_fine c past f m i (op.Remove name ino) seen s l k h = effect_fine c past f i (op.Remove name ino) (effect_of (op.Remove name ino) seen m i.work.content) s k.running k.runs h
executes_fine c past f m i (op.Rename component name) seen s l k h = effect_fine c past f i (op.Rename component name) (effect_of (op.Rename component name) seen m i.work.content) s k.running k.runs h
executes_fine c past f m i op.Empty seen s l k h = effect_fine c past f i op.Empty (effect_of op.Empty seen m i.work.content) s k.running k.runs h
executes_fine c past f m i (op.Read at len) seen s l k h = effect_fine c past f i (op.Read at len) (effect_of (op.Read at len) seen m i.work.content) s k.running k.runs h
executes_fine c past f m i (op.Write at bytes) seen s l k h = effect_fine c past f i (op.Write at bytes) (effect_of (op.Write at bytes) seen m i.work.content) s k.running k.runs h
executes_fine c past f m i (op.Cut len) seen s l k h = effect_fine c past f i (op.Cut len) (effect_of (op.Cut len) seen m i.work.content) s k.running k.runs h
executes_fine c past f m i op.Mend seen s l k h = effect_fine c past f i op.Mend (effect_of op.Mend seen m i.work.content) s k.running k.runs h

again_bare : (f : Frame) (i : Instance) (n : ℕ) (o : Option Result) → Every Bare (op_again f i n o)
again_bare f i n None = tt
again_bare f i n (Some r) = (tt, tt)

by_number_fine : (c : Config) (past : List Told) (f : Frame) (m : Mending) (i : Instance) (n : ℕ) (o : Op) (seen : List ℕ) (s : Store) → Laws c (onto (by_number f m i n o seen s).told past) → MayCommit past f i → Stored past f s → StoreFine c f past (by_number f m i n o seen s)
by_number_fine c past f m i n o seen s l k h =
    (elim (n == i.work.ops) as (λ b. Lawfully c f past (elim b [ true ↦ sends (op_again f i n i.answered) s | false ↦ elim (n == i.work.ops + 1) [ true ↦ executes f m i o seen s | false ↦ quiet s ] ])) [
      | true ↦ λ g. bare_fine c f past (op_again f i n i.answered) s (again_bare f i n i.answered) h
      | false ↦ elim (n == i.work.ops + 1) as (λ b. Lawfully c f past (elim b [ true ↦ executes f m i o seen s | false ↦ quiet s ])) [
        | true ↦ λ g. executes_fine c past f m i o seen s g k h
        | false ↦ λ g. quiet_fine c f past s h
      ]
    ]) l

op_at_fine : (c : Config) (past : List Told) (f : Frame) (m : Mending) (inst : Serial) (i : Instance) (g : Stage) (n : ℕ) (o : Op) (seen : List ℕ) (s : Store) → instance_of s inst ≡ Some i → i.stage ≡ g → Laws c (onto (on_op_at f m i g n o seen s).told past) → IsGranted past f.epoch (serial_key inst) → Knows past f s → Stored past f s → StoreFine c f past (on_op_at f m i g n o seen s)
op_at_fine c past f m inst i stage.Running n o seen s e at l granted k h = by_number_fine c past f m i n o seen s l (may_commit past f s inst i e at granted k h) h
op_at_fine c past f m inst i (stage.Closing made a) n o seen s e at l granted k h = quiet_fine c f past s h
op_at_fine c past f m inst i (stage.Closed a) n o seen s e at l granted k h = quiet_fine c f past s h

op_of_fine : (c : Config) (past : List Told) (f : Frame) (m : Mending) (inst : Serial) (i : Option Instance) (n : ℕ) (o : Op) (seen : List ℕ) (s : Store) → instance_of s inst ≡ i → Laws c (onto (on_op_of f m i n o seen s).told past) → IsGranted past f.epoch (serial_key inst) → Knows past f s → Stored past f s → StoreFine c f past (on_op_of f m i n o seen s)
op_of_fine c past f m inst None n o seen s e l granted k h = quiet_fine c f past s h
op_of_fine c past f m inst (Some i) n o seen s e l granted k h = op_at_fine c past f m inst i i.stage n o seen s e refl l granted k h

pub on_op_fine : (c : Config) (past : List Told) (f : Frame) (m : Mending) (inst : Serial) (n : ℕ) (o : Op) (seen : List ℕ) (s : Store) → Laws c (onto (on_op f m inst n o seen s).told past) → IsGranted past f.epoch (serial_key inst) → Knows past f s → Stored past f s → StoreFine c f past (on_op f m inst n o seen s)
on_op_fine c past f m inst n o seen s l granted k h = op_of_fine c past f m inst (instance_of s inst) n o seen s refl l granted k h

-- a held read is the operation that it stands for, but for the form of its answer
pub on_read_held_fine : (c : Config) (past : List Told) (f : Frame) (inst : Serial) (n at len : ℕ) (s : Store) → Laws c (onto (on_read_held f inst n at len s).told past) → IsGranted past f.epoch (serial_key inst) → Knows past f s → Stored past f s → StoreFine c f past (on_read_held f inst n at len s)
on_read_held_fine c past f inst n at len s l granted k h = by_form (instance_of s inst) (held_read_sent Bare f (λ to serial m r. tt) (λ to serial m l. tt) inst n at len s) l
  where
    o : Outcome Store
    o = on_op f nothing_to_mend inst n (op.Read at len) nothing_seen s

    fine : Laws c (onto o.told past) → StoreFine c f past o
    fine laws = on_op_fine c past f nothing_to_mend inst n (op.Read at len) nothing_seen s laws granted k h

    by_form : (i : Option Instance) → Every Bare (in_form i o).sent → Laws c (onto (in_form i o).told past) → StoreFine c f past (in_form i o)
    by_form None g laws = fine laws
    by_form (Some i) g laws = let d : StoreFine c f past o = fine laws in record { view = d.view; sent = bares (onto o.told past) (in_form (Some i) o).sent g; goes = d.goes; disk = d.disk }
