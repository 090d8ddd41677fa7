-- What a storage site writes in an event could be told next, also where the event is cut off in it: what an instance owes is
-- committed as it may be, and a pull that is whole is adopted so.
use Rattle.std.proofs.Common.{◌≡◌, ℕ, ◌+◌, ◌==◌, ◌<◌, ◌≤◌, Bool, true, false, List, [], ◌∷◌, length, Option, Some, None, refl, sym, ◌∙◌, ap, subst, arith, inl, inr, ◌⊎◌}
use Rattle.role_steps.proofs.of_plain_facts.Numbers.{equal}
use Rattle.role_steps.proofs.of_plain_facts.Tests.{and_first, and_second}
use Rattle.locus_ids.specs.declared.config.Config.{Config}
use Rattle.locus_ids.specs.declared.ids.FileId.{FileId}
use Rattle.locus_ids.specs.declared.ids.Serial.{Serial}
use Rattle.locus_ids.specs.declared.ids.Stamp.{Stamp}
use Rattle.locus_ids.specs.Sizes.{inode_span}
use Rattle.commit_graph.specs.Grants.{is_read}
use Rattle.commit_graph.specs.Versions.{content_of}
use Rattle.file_content.specs.Pages.{ascending, pages_of}
use Rattle.file_effects.specs.declared.work.Work.{Work}
use Rattle.trace_book.specs.declared.operation.Op.{Op}
use Rattle.trace_book.specs.declared.operation.Op.TheVariants as op
use Rattle.trace_book.specs.declared.operation.Outcome.TheVariants as result
use Rattle.locus_ids.specs.declared.refusal.Refusal.TheVariants as refusal
use Rattle.file_effects.specs.Effects.{Effect}
use Rattle.file_effects.specs.Works.{counted}
use Rattle.wire_messages.specs.declared.body.CloseAnswer.TheVariants as closing
use Rattle.role_steps.specs.Adoption.{adopts, adopts_first, adopts_pull, adopt_write, is_ready, without_pull, fits_own, content_under}
use Rattle.role_steps.specs.OperationEffects.{Mending, effect_of}
use Rattle.role_steps.specs.Operations.{acts, acts_committed, commit_op, commits_owing, executes, executes_effect, last_committed, op_again, by_number, on_op, on_op_at, on_op_of}
use Rattle.role_steps.specs.Own.{Every}
use Rattle.role_steps.specs.Pulling.{is_complete, pull_key, wanted_pages}
use Rattle.role_steps.specs.Storage.{closes, closes_owing, commits, commit_write, copy_of, instance_key, instance_of, is_spent, next_stamp, next_vector, on_close, on_close_at, on_close_of, shuts, shuts_again}
use Rattle.role_steps.specs.Views.{Frame, Store, SiteView, DiskWrite, Outcome, and_then, quiet, sends, serial_key}
use Rattle.role_steps.specs.declared.instances.Instance.{Instance}
use Rattle.role_steps.specs.declared.instances.Stage.{Stage}
use Rattle.role_steps.specs.declared.instances.Stage.TheVariants as stage
use Rattle.role_steps.specs.declared.pulls.Pull.{Pull}
use Rattle.the_run.specs.Kept.{Among}
use Rattle.the_run.specs.Worlds.{Line}
use Rattle.the_run.proofs.InsideSync.{every_without}
use Rattle.tree_model.specs.declared.instance.Instance.{Instance as Open}
use Rattle.tree_model.specs.Epochs.{epoch_of}
use Rattle.tree_model.specs.Files.{HeldVersion, committing}
use Rattle.tree_model.specs.Histories.{history}
use Rattle.lawful_trace.specs.Disks.{pages_changed, pages_held, pages_now}
use Rattle.lawful_trace.specs.Tables.{call_of_act, call_of_release}
use Rattle.lawful_trace.specs.TreeRows.{IsStepOf}
use Rattle.call_rules.specs.declared.want.Want.TheVariants as asks
use Rattle.trace_book.specs.declared.operation.What.{What}
use Rattle.tree_laws.specs.Doing.{FrameFact, StoreHeld, PullsFact, WrittenFact, AreWritten, pages_told}
use Rattle.tree_laws.specs.Instances.{Stands}
use Rattle.tree_laws.specs.Packets.{CloseFact, OpFact}
use Rattle.tree_laws.specs.Past.{WasNamed, WasShut}
use Rattle.tree_laws.specs.Printed.{entries}
use Rattle.tree_laws.specs.Stores.{InstanceFact, PullFact, RunsAs, StageFact, WorksAs}
use Rattle.tree_laws.proofs.Grants.{open_named}
use Rattle.tree_laws.proofs.Hearing.{asks_next}
use Rattle.calm_laws.specs.of_store_laws.OneTree.Places.{InsideFact}
use Rattle.calm_laws.specs.of_store_laws.OneTree.Rest.{Past}
use Rattle.calm_laws.specs.of_store_laws.Rests.{AdoptRests, StoreRests}
use Rattle.calm_laws.proofs.of_store_laws.Holdings.Released.{released_named}
use Rattle.calm_laws.proofs.of_store_laws.Adopting.{may_adopt, pulled_content}
use Rattle.calm_laws.proofs.of_store_laws.PulledPages.{pages_among}
use Rattle.calm_laws.proofs.of_store_laws.AnswerDone.{done_named}
use Rattle.calm_laws.proofs.of_store_laws.Closes.{found_instance}
use Rattle.calm_laws.proofs.of_store_laws.Commits.{committing_is, may_commit}
use Rattle.calm_laws.proofs.of_store_laws.Places.{instance_granted}
use Rattle.calm_laws.proofs.of_store_laws.Tabled.{row_among}
use Rattle.calm_laws.proofs.of_store_laws.OneTree.ToldVectorTelling.{vectors_tell_newer}
use Rattle.calm_laws.proofs.of_store_laws.OneTree.WantsAdopted.{ascends_left}
use Rattle.tree_laws.proofs.Orders.Standing.{same_file_eq}
use Rattle.rest_laws.proofs.AdoptionShut.{shut_here}
use Rattle.rest_laws.proofs.StoreStepNamed.{named_low}
use Rattle.rest_laws.proofs.StoreStepResting.{op_rests, store_rests}
use Rattle.rest_laws.proofs.StoreStepWriting.{may_write}
use Rattle.headline_laws.specs.StopRuns.Stops.{IsUnderway}

-- what is written is underway by the trace, and its record would tell which pages are written, and of how many
pub record CouldTell (c : Config) (trace : List Line) (d : DiskWrite) : Type 0 where
  pub underway : IsUnderway c (entries trace) d.says
  pub pages : AreWritten c (entries trace) d.says d.pages
  pub now : pages_of (length d.copy.content) ≡ pages_told c (entries trace) d.says
  pub narrow : d.copy.file.ino < inode_span

abbrev pub Could : Config → List Line → Option DiskWrite → Type 0
Could c trace w = WrittenFact (CouldTell c trace) w

-- ---- commits ----

module _ (c : Config) (trace : List Line) (past : Past c trace) (f : Frame) (frame : FrameFact c trace f) (s : Store) (held : StoreHeld c f trace s) where
  stores : StoreRests c trace
  stores = store_rests c trace past

  -- a call asks to close it or to commit it
  abbrev AsksFor : Open → Type 0
  AsksFor x = IsStepOf c (entries trace) f.epoch (call_of_release (entries trace) f.epoch x.grant.inst) (asks.Close x.grant.inst) ⊎ IsStepOf c (entries trace) f.epoch (call_of_act (entries trace) f.epoch x.grant.inst (x.work.ops + 1)) (asks.Do x.grant.inst op.Commit)

  -- what an instance owes
  owed : (i : Instance) → InstanceFact c trace f i → Among i s.instances → (x : Open) → WorksAs c trace f i x → (WasShut trace f.me f.epoch i.inst → ⊥) → AsksFor x → i.work.owes ≡ true → CouldTell c trace (commit_write f i (next_vector f i) (next_stamp f (next_vector f i)))
  owed i k among x w unshut asked owes = record {
    underway = ((may_commit c 0 trace past.rest.packs past.followed stores f frame s held i k x w unshut owes writes).row, record { epoch = f.epoch; inside = frame.inside; instance = x; committing_is = is; asked = asked });
    pages = ap (λ (y : Work). ascending y.changed) (sym w.work_is) ∙ ap pages_changed (sym is);
    now = ap (λ (y : Work). pages_of (length y.content)) (sym w.work_is) ∙ ap pages_now (sym is);
    narrow = subst (λ (y : FileId). y.ino < inode_span) w.file_is ((op_rests c trace past).numbers f.epoch i.inst x w.open_at.found (subst (λ (z : ℕ). epoch_of (entries trace) z ≡ Some f.epoch) (sym w.open_at.place) frame.inside));
  }
    where
      writes : is_read i.mode ≡ false
      writes = (may_write c trace past f frame s held i among).writes owes

      is : committing c (entries trace) i.file f.me ≡ Some x
      is = committing_is c 0 trace past.rest.packs past.followed stores f frame s held i k x w unshut owes writes

  -- what runs here was named, and a call asks that it be closed or committed
  record IsAsked (i : Instance) : Type 0 where
    named : WasNamed trace f.epoch i.inst
    asked : (x : Open) → WorksAs c trace f i x → AsksFor x

  asked_owed : (i : Instance) → InstanceFact c trace f i → Among i s.instances → StageFact c trace f i stage.Running → IsAsked i → i.work.owes ≡ true → CouldTell c trace (commit_write f i (next_vector f i) (next_stamp f (next_vector f i)))
  asked_owed i k among fact a owes = by fact.0
    where
      by : RunsAs c trace f i → CouldTell c trace (commit_write f i (next_vector f i) (next_stamp f (next_vector f i)))
      by (inl w) = owed i k among w.0 w.1 fact.2 (a.asked w.0 w.1) owes
      by (inr w) = absurd (w.unnamed a.named)

  same_inst : (i : Instance) (x : Open) → WorksAs c trace f i x → x.grant.inst ≡ i.inst
  same_inst i x w = (instance_granted c trace f.epoch i.inst x w.open_at.found).1

  -- ---- closes ----

  close_named : (i : Serial) → CloseFact c trace f.epoch f.me i → WasNamed trace f.epoch i
  close_named i (inl r) = released_named c trace past.followed f.epoch i r
  close_named i (inr k) = open_named c trace f.epoch i k.0 k.1.open_at.found

  close_asked : (i : Instance) (x : Open) → WorksAs c trace f i x → CloseFact c trace f.epoch f.me i.inst → AsksFor x
  close_asked i x w (inl r) = absurd (stores.released f.epoch i.inst x r w.open_at.found)
  close_asked i x w (inr k) = inl (subst (λ (j : Serial). IsStepOf c (entries trace) f.epoch (call_of_release (entries trace) f.epoch j) (asks.Close j)) (sym (same_inst i x w))
      (record { call = k.1.call; owned = k.1.owner; step = k.1.inside; asked = (asks_next c trace k.1.call (asks.Close i.inst) past.followed k.1.asks not_look).0 }))
    where
      not_look : (g : FileId) (what : What) → asks.Close i.inst ≡ asks.Look g what → ⊥
      not_look g what e = cc

  -- what is owed is committed, unless the counter of the site is spent
  owing_could : (i : Instance) → InstanceFact c trace f i → Among i s.instances → StageFact c trace f i stage.Running → IsAsked i → i.work.owes ≡ true → Could c trace (closes_owing f i s).written
  owing_could i k among fact a owes =
      elim (is_spent f i) as (λ b. Could c trace (elim b as (λ (x : Bool). Outcome Store) [ true ↦ shuts f i (closing.No refusal.Spent) s | false ↦ and_then (commits f i s) (λ now. shuts_again f (closing.Made (next_stamp f (next_vector f i))) (instance_of now i.inst) now) ]).written) [
        | true ↦ tt
        | false ↦ asked_owed i k among fact a owes
      ]

  closes_could : (i : Instance) → InstanceFact c trace f i → Among i s.instances → StageFact c trace f i stage.Running → IsAsked i → Could c trace (closes f i s).written
  closes_could i k among fact a = over i.work.owes refl
    where
      over : (b : Bool) → i.work.owes ≡ b → Could c trace (elim b as (λ (x : Bool). Outcome Store) [ true ↦ closes_owing f i s | false ↦ shuts f i closing.Nothing s ]).written
      over true e = owing_could i k among fact a e
      over false e = tt

  close_at_could : (i : Instance) → InstanceFact c trace f i → Among i s.instances → (t : Stage) → StageFact c trace f i t → IsAsked i → Could c trace (on_close_at f i t s).written
  close_at_could i k among stage.Running fact a = closes_could i k among fact a
  close_at_could i k among (stage.Closing made answer) fact a = tt
  close_at_could i k among (stage.Closed answer) fact a = tt

  pub close_could : (inst : Serial) → CloseFact c trace f.epoch f.me inst → Could c trace (on_close f inst s).written
  close_could inst close = over (instance_of s inst) refl
    where
      it_is_asked : (i : Instance) → CloseFact c trace f.epoch f.me i.inst → IsAsked i
      it_is_asked i q = record { named = close_named i.inst q; asked = λ x w. close_asked i x w q }

      over : (o : Option Instance) → instance_of s inst ≡ o → Could c trace (on_close_of f o s).written
      over None e = tt
      over (Some i) e = (let k : InstanceFact c trace f i × (i.inst ≡ inst) = found_instance c trace f s held inst (named_low c trace past.followed past.rest.each f.epoch inst (close_named inst close)) i e in
          close_at_could i k.0 (row_among instance_key (serial_key inst) s.instances i e) i.stage k.0.stage (it_is_asked i (subst (λ (j : Serial). CloseFact c trace f.epoch f.me j) (sym k.1) close)))

  -- ---- operations ----

  op_named : (i : Serial) (n : ℕ) (o : Op) (seen : List ℕ) → OpFact c trace f.epoch f.me i n o seen → WasNamed trace f.epoch i
  op_named i n o seen (inl d) = done_named c trace past.followed f.epoch i n o d.0 d.1
  op_named i n o seen (inr q) = open_named c trace f.epoch i q.at q.open_at.found

  too_high : (a b : ℕ) → a ≡ b + 1 → a ≤ b → ⊥
  too_high a b e l = omega (arith, e, l)

  op_asked : (i : Instance) (x : Open) → WorksAs c trace f i x → (n : ℕ) (o : Op) (seen : List ℕ) → n ≡ i.work.ops + 1 → OpFact c trace f.epoch f.me i.inst n o seen → o ≡ op.Commit → AsksFor x
  op_asked i x w n o seen is (inl d) e = absurd (too_high n i.work.ops is (subst (λ (z : Work). n ≤ z.ops) w.work_is ((op_rests c trace past).done f.epoch i.inst n o d.0 x d.1 w.open_at.found)))
  op_asked i x w n o seen is (inr q) e = inr (subst (λ (j : Serial). IsStepOf c (entries trace) f.epoch (call_of_act (entries trace) f.epoch j (x.work.ops + 1)) (asks.Do j op.Commit)) (sym (same_inst i x w)) (record {
    call = q.call;
    owned = subst (λ (m : ℕ). call_of_act (entries trace) f.epoch i.inst m ≡ Some q.call) (is ∙ ap (λ (y : Work). y.ops + 1) (sym w.work_is)) q.owner;
    step = q.inside;
    asked = (asks_next c trace q.call (asks.Do i.inst o) past.followed q.asks not_look).0 ∙ ap (asks.Do i.inst) e;
  }))
    where
      not_look : (g : FileId) (what : What) → asks.Do i.inst o ≡ asks.Look g what → ⊥
      not_look g what e = cc

  last_could : (i : Instance) (o : Option Stamp) → Could c trace (last_committed f i o s).written
  last_could i None = tt
  last_could i (Some stamp) = tt

  effect_could : (i : Instance) (o : Op) (e : Option Effect) → Could c trace (executes_effect f i o e s).written
  effect_could i o None = tt
  effect_could i o (Some e) = tt

  commits_could : (i : Instance) → InstanceFact c trace f i → Among i s.instances → StageFact c trace f i stage.Running → IsAsked i → i.work.owes ≡ true → Could c trace (commits_owing f i s).written
  commits_could i k among fact a owes =
      elim (is_spent f i) as (λ b. Could c trace (elim b as (λ (x : Bool). Outcome Store) [ true ↦ acts f i op.Commit (result.No refusal.Spent) (counted i.work) s | false ↦ and_then (commits f i s) (λ now. acts_committed f (next_stamp f (next_vector f i)) (instance_of now i.inst) now) ]).written) [
        | true ↦ tt
        | false ↦ asked_owed i k among fact a owes
      ]

  commit_could : (i : Instance) → InstanceFact c trace f i → Among i s.instances → StageFact c trace f i stage.Running → IsAsked i → Could c trace (commit_op f i s).written
  commit_could i k among fact a = over i.work.owes refl
    where
      over : (b : Bool) → i.work.owes ≡ b → Could c trace (elim b as (λ (x : Bool). Outcome Store) [ true ↦ commits_owing f i s | false ↦ last_committed f i i.work.last s ]).written
      over true e = commits_could i k among fact a e
      over false e = last_could i i.work.last

  executes_could : (m : Mending) (i : Instance) (o : Op) (seen : List ℕ) → InstanceFact c trace f i → Among i s.instances → StageFact c trace f i stage.Running → (o ≡ op.Commit → IsAsked i) → Could c trace (executes f m i o seen s).written
  executes_could m i op.Commit seen k among fact a = commit_could i k among fact (a refl)
  executes_could m i op.Abort seen k among fact a = tt
  executes_could m i (op.Probe name) seen k among fact a = effect_could i (op.Probe name) (effect_of (op.Probe name) seen m i.work.content)
  executes_could m i (op.Find component) seen k among fact a = effect_could i (op.Find component) (effect_of (op.Find component) seen m i.work.content)
  executes_could m i (op.Insert name ino kind) seen k among fact a = effect_could i (op.Insert name ino kind) (effect_of (op.Insert name ino kind) seen m i.work.content)
  executes_could m i (op.Remove name ino) seen k among fact a = effect_could i (op.Remove name ino) (effect_of (op.Remove name ino) seen m i.work.content)
  executes_could m i (op.Rename component name) seen k among fact a = effect_could i (op.Rename component name) (effect_of (op.Rename component name) seen m i.work.content)
  executes_could m i op.Empty seen k among fact a = effect_could i op.Empty (effect_of op.Empty seen m i.work.content)
  executes_could m i (op.Read at len) seen k among fact a = effect_could i (op.Read at len) (effect_of (op.Read at len) seen m i.work.content)
  executes_could m i (op.Write at bytes) seen k among fact a = effect_could i (op.Write at bytes) (effect_of (op.Write at bytes) seen m i.work.content)
  executes_could m i (op.Cut len) seen k among fact a = effect_could i (op.Cut len) (effect_of (op.Cut len) seen m i.work.content)
  executes_could m i op.Mend seen k among fact a = effect_could i op.Mend (effect_of op.Mend seen m i.work.content)

  numbered_could : (m : Mending) (i : Instance) (n : ℕ) (o : Op) (seen : List ℕ) → InstanceFact c trace f i → Among i s.instances → StageFact c trace f i stage.Running → OpFact c trace f.epoch f.me i.inst n o seen → Could c trace (by_number f m i n o seen s).written
  numbered_could m i n o seen k among fact q = over (n == i.work.ops) (n == i.work.ops + 1) refl
    where
      over : (a b : Bool) → (n == i.work.ops + 1) ≡ b → Could c trace (elim a as (λ (x : Bool). Outcome Store) [ true ↦ sends (op_again f i n i.answered) s | false ↦ elim b as (λ (x : Bool). Outcome Store) [ true ↦ executes f m i o seen s | false ↦ quiet s ] ]).written
      over true b e = tt
      over false true e = executes_could m i o seen k among fact (λ commits. record { named = op_named i.inst n o seen q; asked = λ x w. op_asked i x w n o seen (equal n (i.work.ops + 1) e) q commits })
      over false false e = tt

  op_at_could : (m : Mending) (i : Instance) (t : Stage) (n : ℕ) (o : Op) (seen : List ℕ) → InstanceFact c trace f i → Among i s.instances → StageFact c trace f i t → OpFact c trace f.epoch f.me i.inst n o seen → Could c trace (on_op_at f m i t n o seen s).written
  op_at_could m i stage.Running n o seen k among fact q = numbered_could m i n o seen k among fact q
  op_at_could m i (stage.Closing made a) n o seen k among fact q = tt
  op_at_could m i (stage.Closed a) n o seen k among fact q = tt

  pub op_could : (m : Mending) (inst : Serial) (n : ℕ) (o : Op) (seen : List ℕ) → OpFact c trace f.epoch f.me inst n o seen → Could c trace (on_op f m inst n o seen s).written
  op_could m inst n o seen q = over (instance_of s inst) refl
    where
      over : (y : Option Instance) → instance_of s inst ≡ y → Could c trace (on_op_of f m y n o seen s).written
      over None e = tt
      over (Some i) e = (let k : InstanceFact c trace f i × (i.inst ≡ inst) = found_instance c trace f s held inst (named_low c trace past.followed past.rest.each f.epoch inst (op_named inst n o seen q)) i e in
          op_at_could m i i.stage n o seen k.0 (row_among instance_key (serial_key inst) s.instances i e) k.0.stage (subst (λ (j : Serial). OpFact c trace f.epoch f.me j n o seen) (sym k.1) q))

-- ---- adoptions ----

module _ (c : Config) (trace : List Line) (past : Past c trace) (f : Frame) where
  -- a pull that is ready, and above what the site has
  taken : (p : Pull) (v : SiteView) → InsideFact c f trace v → PullFact c trace f.epoch f.me p → is_ready v p ≡ true → fits_own p (copy_of v.store p.file) ≡ true → CouldTell c trace (adopt_write f p (content_under v p))
  taken p v inside pull ready above = record {
    underway = (may_adopt c 0 trace past.rest.packs past.followed rests f inside.frame v.store inside.store p pull (and_first (is_complete p) _ ready) wants above).row;
    pages = pages_among (pages_held c (entries trace) p.file (Some p.stamp)) (wanted_pages p) pull.rising (subst (λ (n : ℕ). Every (λ (page : ℕ). page < n) (wanted_pages p)) (ap pages_of length_is) pull.inside);
    now = ap pages_of (ap length (pulled_content c trace rests f v.store inside.store p pull (and_first (is_complete p) _ ready) above) ∙ length_is);
    narrow = rests.narrow p.file p.stamp stands;
  }
    where
      length_is : length pull.version.content ≡ length (content_of (history c (entries trace)) p.file p.stamp)
      length_is = ap (λ (y : HeldVersion). length y.content) pull.is_version.same ∙ ap (λ (t : Stamp). length (content_of (history c (entries trace)) p.file t)) pull.stamp_is

      rests : StoreRests c trace
      rests = store_rests c trace past

      stands : Stands c trace p.file p.stamp
      stands = subst (λ (y : Stamp). Stands c trace p.file y) pull.stamp_is pull.is_version.stands

      wants : AdoptRests c trace f p
      wants = record {
        below = λ old s b. vectors_tell_newer c trace past p.file old p.stamp s stands ∙ b;
        open_on = λ x m stored up. shut_here c trace past f v inside p pull ready x m (equal x.grant.ss f.me (and_first (x.grant.ss == f.me) _ stored)) (same_file_eq x.grant.file p.file (and_second (x.grant.ss == f.me) _ stored)) up;
      }

  dropped : (p : Pull) (v : SiteView) → InsideFact c f trace v → InsideFact c f trace (without_pull p v)
  dropped p v h = record { frame = h.frame; users = h.users; store = h.store; groups = h.groups; tables = h.tables; reports = h.reports; pulls = every_without (PullFact c trace f.epoch f.me) pull_key (pull_key p) v.pulls h.pulls; pulls_ascend = ascends_left (pull_key p) v.pulls h.pulls_ascend }

  first_could : (ps : List Pull) (v : SiteView) → PullsFact c f trace ps → InsideFact c f trace v → Could c trace (adopts_first f ps v).written
  first_could [] v all h = tt
  first_could (p ∷ ps) v all h = over (first_could ps (without_pull p v) all.1 (dropped p v h)) (first_could ps v all.1 h) (is_ready v p) refl (fits_own p (copy_of v.store p.file)) refl
    where
      over : Could c trace (adopts_first f ps (without_pull p v)).written → Could c trace (adopts_first f ps v).written → (b : Bool) → is_ready v p ≡ b → (a : Bool) → fits_own p (copy_of v.store p.file) ≡ a →
          Could c trace (elim b as (λ (x : Bool). Outcome SiteView) [ true ↦ elim a as (λ (x : Bool). Outcome SiteView) [ true ↦ adopts_pull f p v | false ↦ adopts_first f ps (without_pull p v) ] | false ↦ adopts_first f ps v ]).written
      over without later true r true e = taken p v h all.0 r e
      over without later true r false e = without
      over without later false r a e = later

  pub adopts_could : (v : SiteView) → InsideFact c f trace v → Could c trace (adopts f v).written
  adopts_could v h = first_could v.pulls v h.pulls h
