-- Numbered operations at the storage site: the last one is answered again, the next one is executed, and all others are ignored.
use Rattle.std.proofs.Common.{◌≡◌, ℕ, ◌+◌, ◌<◌, ◌≤◌, ◌==◌, Bool, true, false, List, [], ◌∷◌, map, Option, Some, None, refl, sym, ◌∙◌, ap, subst, arith, inl, inr}
use Rattle.std.specs.List.{find}
use Rattle.std.specs.Option.{option_map}
use Rattle.role_steps.proofs.of_plain_facts.Numbers.{equal}
use Rattle.role_steps.proofs.of_plain_facts.Options.{none_some, some_same}
use Rattle.role_steps.proofs.of_plain_facts.Tests.{true_false}
use Rattle.locus_ids.specs.declared.config.Config.{Config}
use Rattle.locus_ids.specs.declared.ids.CallId.{CallId}
use Rattle.locus_ids.specs.declared.ids.EpochId.{EpochId}
use Rattle.locus_ids.specs.declared.ids.FileId.{FileId}
use Rattle.locus_ids.specs.declared.ids.Mode.{Mode}
use Rattle.locus_ids.specs.declared.ids.Serial.{Serial}
use Rattle.locus_ids.specs.declared.ids.Stamp.{Stamp}
use Rattle.locus_ids.specs.declared.refusal.Refusal.TheVariants as refusal
use Rattle.locus_ids.specs.Sizes.{inode_span, sites_max}
use Rattle.commit_graph.specs.Grants.{is_read}
use Rattle.commit_graph.specs.Vectors.{vector_of}
use Rattle.commit_graph.specs.Versions.{content_of as version_content}
use Rattle.commit_graph.specs.declared.history.Version.{Version}
use Rattle.trace_book.specs.declared.operation.Op.{Op}
use Rattle.trace_book.specs.declared.operation.Op.TheVariants as op
use Rattle.trace_book.specs.declared.operation.Outcome.{Outcome as Result}
use Rattle.trace_book.specs.declared.operation.Outcome.TheVariants as result
use Rattle.trace_book.specs.declared.record.Record.TheVariants as says
use Rattle.call_rules.specs.declared.want.Want.TheVariants as want
use Rattle.lawful_trace.specs.Tables.{call_of_act}
use Rattle.lawful_trace.specs.TreeRows.{IsCallIn}
use Rattle.tree_laws.specs.Calls.{Asks}
use Rattle.dir_format.specs.Grammar.{dir_bytes}
use Rattle.tree_model.specs.of_dir_reconcile.Rescues.{rescue_is_spent, rescued}
use Rattle.file_effects.specs.Effects.{As, Deed, Effect, Removes, effect, mends}
use Rattle.file_effects.specs.Works.{aborted, commit_result, committed, counted, operated, result_in}
use Rattle.file_effects.specs.declared.work.Work.{Work}
use Rattle.role_steps.specs.OperationEffects.{Mending, has_several, joined_contents, mend_effect}
use Rattle.role_steps.specs.Operations.{abort_op, act_record, acts, acts_committed, by_number, commits_owing, executes, executes_effect, last_committed, on_op, on_op_at, on_op_of, op_again}
use Rattle.role_steps.specs.Own.{Every}
use Rattle.role_steps.specs.Storage.{commit_record, commits, content_of, copy_of, free_pages, instance_committed, instance_key, instance_of, is_spent, next_stamp, next_vector, with_instance, with_commit}
use Rattle.role_steps.specs.Views.{Frame, Store, Told, Shown, Outcome, and_then, joined_to, quiet, sends, serial_key}
use Rattle.role_steps.specs.declared.instances.Instance.{Instance}
use Rattle.role_steps.specs.declared.instances.Stage.{Stage}
use Rattle.role_steps.specs.declared.instances.Stage.TheVariants as stage
use Rattle.the_run.specs.Kept.{Among}
use Rattle.the_run.specs.Worlds.{Line}
use Rattle.tree_model.specs.declared.instance.Instance.{Instance as Open}
use Rattle.tree_model.specs.Epochs.{epoch_of, has_joined}
use Rattle.tree_model.specs.Files.{version_of}
use Rattle.tree_model.specs.Histories.{history, held, stamped_content}
use Rattle.tree_model.specs.State.{TreeState, is_granted_here, kept_of}
use Rattle.tree_model.specs.Tree.{once_committed, tree_of}
use Rattle.tree_model.specs.Working.{deed_of, effect_of, effect_on, free_pages as tree_free, is_spent as tree_spent, is_target, sees}
use Rattle.tree_laws.specs.Printed.{entries}
use Rattle.tree_laws.specs.Frames.{AllStay}
use Rattle.tree_laws.specs.Doing.{FrameFact, StoreFine, StoreHeld}
use Rattle.tree_laws.specs.Following.{MayTell, IsFollowed}
use Rattle.tree_laws.specs.Instances.{held_in}
use Rattle.tree_laws.specs.Packets.{OpFact, PacketFact, SeesFor, SeesTarget}
use Rattle.tree_laws.specs.Past.{ActRecord, Printed, WasDone, WasNamed, WasShut}
use Rattle.tree_laws.specs.Stores.{AnsweredFact, InstanceFact, IsSettled, RunsAs, StageFact, WorksAs, copy_for}
use Rattle.tree_laws.proofs.Grants.{open_named}
use Rattle.tree_laws.specs.Orders.Joining.{PacksAreOfSites}
use Rattle.store_laws.specs.Rests.{AllStays, IsSpentMend, MayWrite, MendsAs, OpRests, StoreRests, UnspentTold}
use Rattle.store_laws.proofs.Closes.{found_instance}
use Rattle.store_laws.proofs.Commits.{works_now}
use Rattle.store_laws.proofs.Effects.{OnContent, aborted_on, clean_after, counted_on, mend_same, mend_unspent, operated_on, result_in_tree, spent_same, work_in_tree}
use Rattle.store_laws.proofs.Committed.{begun_after, may, others_after, unshut_after, written_so}
use Rattle.store_laws.proofs.Operating.{AsksIt, IsStep, act_sent, act_view, may_act}
use Rattle.store_laws.proofs.Runs.{found_in}
use Rattle.store_laws.proofs.Shutting.{IsBegunSo, OthersHold, begun_so, others_hold}
use Rattle.store_laws.proofs.Tabled.{latest_same, row_among}

-- what was done was named
done_named : (c : Config) (trace : List Line) → IsFollowed c trace → (e : EpochId) (i : Serial) (number : ℕ) (o : Op) (r : Result) → WasDone trace e i number o r → WasNamed trace e i
done_named c [] h e i number o r d = absurd d
done_named c (y ∷ older) h e i number o r (inr d) = inr (done_named c older h.1 e i number o r d)
done_named c (y ∷ older) h e i number o r (inl d) = inr (now y.told h.0 d)
  where
    now : (z : Told) → MayTell c older z → Printed (ActRecord e i number o r) older z → WasNamed older e i
    now (Shown (says.Act at inst k what gave)) may p = subst (λ (j : Serial). WasNamed older e j) p.serial_is (subst (λ (y : EpochId). WasNamed older y inst) p.epoch_is (open_named c older at inst may.in_time.at may.in_time.open_at.found))
    now _ told p = absurd p

-- what a remove sees, by the last version of its target
sees_last : (h : List Version) (name : List ℕ) (ino : ℕ) (target : Open) (stamp : Stamp) → target.work.last ≡ Some stamp → sees h name ino (Some target) ≡ Some (Removes name ino (vector_of h target.grant.file stamp))
sees_last h name ino target stamp e = ap (λ (o : Option Stamp). sees h name ino (Some (record target { work = record target.work { last = o } }))) e

-- a commit of what owes nothing gives the last version
commit_clean : (spent : Bool) (w : Work) (stamp : Stamp) → w.owes ≡ false → w.last ≡ Some stamp → commit_result spent w ≡ Some (result.Committed stamp)
commit_clean spent w stamp owes last = ap (λ (b : Bool). commit_result spent (record w { owes = b })) owes ∙ ap (λ (o : Option Stamp). commit_result spent (record w { owes = false; last = o })) last

module _ (c : Config) (n : ℕ) (trace : List Line) (few : PacksAreOfSites c) (h : IsFollowed c trace) (rests : StoreRests c trace) (more : OpRests c trace) (f : Frame) (frame : FrameFact c trace f) (s : Store) (kept : StoreHeld c f trace s) (room : (group : ℕ) → free_pages s group ≡ tree_free (history c (entries trace)) (tree_of c f.epoch group (entries trace)) f.me)
    (i : Instance) (k : InstanceFact c trace f i) (x : Open) (w : WorksAs c trace f i x) (settled : IsSettled i) (unshut : WasShut trace f.me f.epoch i.inst → ⊥) (running : i.stage ≡ stage.Running) (ready : MayWrite f i) (o : Op) (q : AsksIt c trace f.epoch i.inst (i.work.ops + 1) o) where
  abbrev tree : TreeState
  tree = tree_of c f.epoch i.file.group (entries trace)

  joined : has_joined (entries trace) f.me f.epoch ≡ true
  joined = more.joined f.epoch f.me frame.inside

  granted : is_granted_here tree i.inst ≡ true
  granted = more.here f.epoch i.file.group i.inst x (found_in c trace f.epoch i.inst x i.file.group w.open_at.found (ap (λ (y : FileId). y.group) w.file_is))

  -- what is a step of the tree is fine
  step_fine : (r : Result) (u : Work) → IsStep c trace f i x o r u → AllStays c n trace (acts f i o r u s).told → StoreFine c n trace f s (acts f i o r u s)
  step_fine r u step stays = record {
    told = (acts_now, tt);
    own = ((refl, (i.file, k.begun)), tt);
    view = act_view c n trace few h f joined s i (begun_so c trace f i k) (others_hold c trace f i s kept) x w unshut running granted o r u step asked (stays acts_now).0;
    sent = act_sent c n trace few h f joined s i (begun_so c trace f i k) (others_hold c trace f i s kept) x w unshut running granted o r u step asked (stays acts_now).0;
    written = tt;
  }
    where
      asked : AsksIt c trace f.epoch i.inst u.ops o
      asked = subst (λ (m : ℕ). AsksIt c trace f.epoch i.inst m o) (sym step.goes.ops_is) q

      acts_now : MayTell c trace (act_record f i u.ops o r)
      acts_now = may_act c n trace few h f joined s i (begun_so c trace f i k) (others_hold c trace f i s kept) x w unshut running granted o r u step asked

  still : StoreFine c n trace f s (quiet s)
  still = record { told = tt; own = tt; view = kept; sent = tt; written = tt }

  -- ---- operations on the content ----

  effect_step : OnContent o → (e : Effect) → effect_on (history c (entries trace)) tree o x ≡ Some e → IsStep c trace f i x o (result_in (free_pages s i.file.group) i.work.changed e) (operated e (result_in (free_pages s i.file.group) i.work.changed e) i.work)
  effect_step on e is = record {
    result_is = result_in_tree (history c (entries trace)) tree o x e on is ∙ ap Some (ap (λ (m : ℕ). result_in m x.work.changed e) (ap (tree_free (history c (entries trace)) tree) w.open_at.place ∙ sym (room i.file.group)) ∙ ap (λ (y : Work). result_in (free_pages s i.file.group) y.changed e) w.work_is);
    work_is = work_in_tree (history c (entries trace)) tree o (result_in (free_pages s i.file.group) i.work.changed e) x e on is ∙ ap (operated e (result_in (free_pages s i.file.group) i.work.changed e)) w.work_is;
    goes = operated_on i.mode e (result_in (free_pages s i.file.group) i.work.changed e) i.work;
    clean = over (deed_of (history c (entries trace)) tree o x) is;
  }
    where
      over : (d : Option Deed) → effect_of d x.work.content ≡ Some e → (operated e (result_in (free_pages s i.file.group) i.work.changed e) i.work).owes ≡ false → (operated e (result_in (free_pages s i.file.group) i.work.changed e) i.work).changed ≡ []
      over None e2 = absurd (none_some e e2)
      over (Some d) e2 = clean_after d x.work.content e (result_in (free_pages s i.file.group) i.work.changed e) i.work e2 settled.clean

  content_fine : OnContent o → (y : Option Effect) → y ≡ effect_on (history c (entries trace)) tree o x → AllStays c n trace (executes_effect f i o y s).told → StoreFine c n trace f s (executes_effect f i o y s)
  content_fine on None is stays = still
  content_fine on (Some e) is stays = step_fine (result_in (free_pages s i.file.group) i.work.changed e) (operated e (result_in (free_pages s i.file.group) i.work.changed e) i.work) (effect_step on e (sym is)) stays

  -- ---- abort ----

  held_is : x.work.last ≡ held c (entries trace) f.me i.file
  held_is = (rests.stands f.epoch i.inst x w.open_at.found).last_is ∙ (ap (λ (z : ℕ). held_in c (entries trace) f.epoch z x.grant.file) w.open_at.place ∙ (ap (held_in c (entries trace) f.epoch f.me) w.file_is ∙ rests.inside f.epoch f.me i.file frame.inside))

  content_is : i.file.ino < inode_span → content_of (copy_of s i.file) ≡ stamped_content (history c (entries trace)) i.file x.work.last
  content_is narrow = ap content_of (kept.copies.are i.file narrow ∙ ap (λ (y : Option Stamp). option_map (copy_for i.file) (option_map (version_of c (entries trace) i.file) y)) (sym held_is)) ∙ over x.work.last
    where
      over : (y : Option Stamp) → content_of (option_map (copy_for i.file) (option_map (version_of c (entries trace) i.file) y)) ≡ stamped_content (history c (entries trace)) i.file y
      over None = refl
      over (Some t) = refl

  abort_step : i.file.ino < inode_span → o ≡ op.Abort → IsStep c trace f i x o result.Done (aborted i.mode (content_of (copy_of s i.file)) i.work)
  abort_step narrow is = subst (λ (y : Op). IsStep c trace f i x y result.Done (aborted i.mode (content_of (copy_of s i.file)) i.work)) (sym is) (record {
    result_is = refl;
    work_is = ap (λ (m : Mode). aborted m (stamped_content (history c (entries trace)) x.grant.file x.work.last) x.work) w.mode_is ∙ (ap (λ (y : FileId). aborted i.mode (stamped_content (history c (entries trace)) y x.work.last) x.work) w.file_is
        ∙ (ap (λ (xs : List ℕ). aborted i.mode xs x.work) (sym (content_is narrow)) ∙ ap (aborted i.mode (content_of (copy_of s i.file))) w.work_is));
    goes = aborted_on i.mode (content_of (copy_of s i.file)) i.work;
    clean = λ e. refl;
  })

  -- ---- commit ----

  last_step : (stamp : Stamp) → i.work.owes ≡ false → i.work.last ≡ Some stamp → o ≡ op.Commit → IsStep c trace f i x o (result.Committed stamp) (counted i.work)
  last_step stamp owes last is = subst (λ (y : Op). IsStep c trace f i x y (result.Committed stamp) (counted i.work)) (sym is) (record {
    result_is = ap (commit_result (tree_spent (history c (entries trace)) tree x)) w.work_is ∙ commit_clean (tree_spent (history c (entries trace)) tree x) i.work stamp owes last;
    work_is = ap counted w.work_is;
    goes = counted_on i.mode i.work;
    clean = settled.clean;
  })

  last_fine : (y : Option Stamp) → i.work.last ≡ y → i.work.owes ≡ false → o ≡ op.Commit → AllStays c n trace (last_committed f i y s).told → StoreFine c n trace f s (last_committed f i y s)
  last_fine None e owes is stays = still
  last_fine (Some stamp) e owes is stays = subst (λ (y : Op). AllStays c n trace (acts f i y (result.Committed stamp) (counted i.work) s).told → StoreFine c n trace f s (acts f i y (result.Committed stamp) (counted i.work) s)) is
      (step_fine (result.Committed stamp) (counted i.work) (last_step stamp owes e is)) stays

  module _ (owes : i.work.owes ≡ true) (is : o ≡ op.Commit) where
    writes : is_read i.mode ≡ false
    writes = ready.writes owes

    abbrev stamp : Stamp
    stamp = next_stamp f (next_vector f i)

    abbrev after : List Line
    after = record { number = n; told = Shown (commit_record f i (next_stamp f (next_vector f i))) } ∷ trace

    abbrev made_instance : Instance
    made_instance = instance_committed i (next_vector f i) (next_stamp f (next_vector f i))

    abbrev later : Store
    later = with_instance (instance_committed i (next_vector f i) (next_stamp f (next_vector f i))) (with_commit i (next_vector f i) (next_stamp f (next_vector f i)) s)

    abbrev now : Open
    now = once_committed (next_stamp f (next_vector f i)) x

    made_step : IsStep c after f made_instance now op.Commit (result.Committed stamp) (counted made_instance.work)
    made_step = record { result_is = refl; work_is = ap (λ (y : Work). counted (committed stamp y)) w.work_is; goes = counted_on i.mode made_instance.work; clean = λ e. refl }

    asked_after : AsksIt c after f.epoch i.inst (i.work.ops + 1) op.Commit
    asked_after = subst (λ (y : Op). AsksIt c after f.epoch i.inst (i.work.ops + 1) y) is (record {
      call = q.call;
      owner = q.owner;
      inside = record { accepted = q.inside.accepted; named = q.inside.named; made_in = q.inside.made_in };
      asks = record { asked = q.asks.asked; request = q.asks.request; nothing_waits = q.asks.nothing_waits };
    })

    may_now : MayTell c trace (Shown (commit_record f i (next_stamp f (next_vector f i))))
    may_now = may c n trace few h rests f frame s kept i k x w unshut owes writes

    committed_fine : (y : Option Instance) → y ≡ Some made_instance → AllStays c n trace (joined_to (commits f i s) (acts_committed f stamp y later)).told → StoreFine c n trace f s (joined_to (commits f i s) (acts_committed f stamp y later))
    committed_fine None e stays = absurd (none_some made_instance e)
    committed_fine (Some y) e stays = subst (λ (z : Instance). AllStays c n trace (joined_to (commits f i s) (acts_committed f stamp (Some z) later)).told → StoreFine c n trace f s (joined_to (commits f i s) (acts_committed f stamp (Some z) later))) (sym (some_same y made_instance e)) acts_it stays
      where
        acts_it : AllStays c n trace (joined_to (commits f i s) (acts f made_instance op.Commit (result.Committed stamp) (counted made_instance.work) later)).told → StoreFine c n trace f s (joined_to (commits f i s) (acts f made_instance op.Commit (result.Committed stamp) (counted made_instance.work) later))
        acts_it stays = record {
          told = (may_now, (second, tt));
          own = (refl, ((refl, (i.file, k.begun)), tt));
          view = act_view c n after few (may_now, h) f joined later made_instance begun others now (works_now c n trace few h rests f frame s kept i k x w unshut owes writes) unshut_there running granted op.Commit (result.Committed stamp) (counted made_instance.work) made_step asked_after last;
          sent = act_sent c n after few (may_now, h) f joined later made_instance begun others now (works_now c n trace few h rests f frame s kept i k x w unshut owes writes) unshut_there running granted op.Commit (result.Committed stamp) (counted made_instance.work) made_step asked_after last;
          written = written_so c n trace few h rests f frame s kept i k x w unshut owes writes stay;
        }
          where
            stay : AllStay c trace after (Shown (commit_record f i (next_stamp f (next_vector f i))))
            stay = (stays may_now).0

            begun : IsBegunSo c after f made_instance
            begun = begun_after c n trace few h rests f frame s kept i k x w unshut owes writes stay

            others : OthersHold c after f made_instance later
            others = others_after c n trace few h rests f frame s kept i k x w unshut owes writes stay

            unshut_there : WasShut after f.me f.epoch i.inst → ⊥
            unshut_there = unshut_after c n trace few h rests f frame s kept i k x w unshut owes writes stay

            second : MayTell c after (act_record f made_instance (counted made_instance.work).ops op.Commit (result.Committed stamp))
            second = may_act c n after few (may_now, h) f joined later made_instance begun others now (works_now c n trace few h rests f frame s kept i k x w unshut owes writes) unshut_there running granted op.Commit (result.Committed stamp) (counted made_instance.work) made_step asked_after

            last : AllStay c after (record { number = n; told = act_record f made_instance (counted made_instance.work).ops op.Commit (result.Committed stamp) } ∷ after) (act_record f made_instance (counted made_instance.work).ops op.Commit (result.Committed stamp))
            last = ((stays may_now).1 second).0

    owing_fine : (b : Bool) → is_spent f i ≡ b →
        AllStays c n trace (elim b as (λ (z : Bool). Outcome Store) [ true ↦ acts f i op.Commit (result.No refusal.Spent) (counted i.work) s | false ↦ and_then (commits f i s) (λ y. acts_committed f (next_stamp f (next_vector f i)) (instance_of y i.inst) y) ]).told →
        StoreFine c n trace f s (elim b as (λ (z : Bool). Outcome Store) [ true ↦ acts f i op.Commit (result.No refusal.Spent) (counted i.work) s | false ↦ and_then (commits f i s) (λ y. acts_committed f (next_stamp f (next_vector f i)) (instance_of y i.inst) y) ])
    owing_fine true e stays = absurd (true_false (sym e ∙ ready.unspent))
    owing_fine false e stays = committed_fine (instance_of later i.inst) (latest_same instance_key made_instance s.instances) stays

  commit_fine : (b : Bool) → i.work.owes ≡ b → o ≡ op.Commit →
      AllStays c n trace (elim b as (λ (z : Bool). Outcome Store) [ true ↦ commits_owing f i s | false ↦ last_committed f i i.work.last s ]).told →
      StoreFine c n trace f s (elim b as (λ (z : Bool). Outcome Store) [ true ↦ commits_owing f i s | false ↦ last_committed f i i.work.last s ])
  commit_fine true e is stays = owing_fine e is (is_spent f i) refl stays
  commit_fine false e is stays = last_fine i.work.last refl e is stays

  abort_fine : o ≡ op.Abort → AllStays c n trace (abort_op f i s).told → StoreFine c n trace f s (abort_op f i s)
  abort_fine is stays = subst (λ (y : Op). AllStays c n trace (acts f i y result.Done (aborted i.mode (content_of (copy_of s i.file)) i.work) s).told → StoreFine c n trace f s (acts f i y result.Done (aborted i.mode (content_of (copy_of s i.file)) i.work) s)) is
      (step_fine result.Done (aborted i.mode (content_of (copy_of s i.file)) i.work) (abort_step (subst (λ (y : FileId). y.ino < inode_span) w.file_is (more.numbers f.epoch i.inst x w.open_at.found (subst (λ (z : ℕ). epoch_of (entries trace) z ≡ Some f.epoch) (sym w.open_at.place) frame.inside))) is)) stays

  -- ---- the tree's effect is the one here ----

  content_same : i.work.content ≡ x.work.content
  content_same = ap (λ (y : Work). y.content) (sym w.work_is)

  remove_same : (name : List ℕ) (ino : ℕ) (seen : List ℕ) → o ≡ op.Remove name ino → SeesTarget c trace f.epoch q.call i.inst ino seen → effect (Removes name ino seen) i.work.content ≡ effect_on (history c (entries trace)) tree (op.Remove name ino) x
  remove_same name ino seen is t = ap (effect (Removes name ino seen)) content_same ∙ (ap (λ (y : List ℕ). effect (Removes name ino y) x.work.content) t.seen_is ∙ sym (ap (λ (y : Option Open). effect_of (sees (history c (entries trace)) name ino y) x.work.content) target_is ∙ ap (λ (y : Option Deed). effect_of y x.work.content) (sees_last (history c (entries trace)) name ino t.target t.stamp t.last)))
    where
      call_is : q.call ≡ x.grant.call
      call_is = more.removers f.epoch i.inst x q.call (i.work.ops + 1) name ino w.open_at.found q.owner (subst (λ (y : Op). Asks c trace q.call (want.Do i.inst y)) is q.asks)

      at_is : t.at ≡ x
      at_is = some_same t.at x (sym t.found ∙ w.open_at.found)

      target_is : find (is_target x.grant.call ino) tree.instances ≡ Some t.target
      target_is = subst (λ (y : CallId). find (is_target y ino) tree.instances ≡ Some t.target) call_is
          (subst (λ (g : ℕ). find (is_target q.call ino) (tree_of c f.epoch g (entries trace)).instances ≡ Some t.target) (ap (λ (y : Open). y.grant.file.group) at_is ∙ ap (λ (y : FileId). y.group) w.file_is) t.is_target)

  -- a mend is done as the tree does it, where no count of its rescue is at its end
  mend_fine : (m : Mending) → o ≡ op.Mend → MendsAs c trace f i.file m → Every UnspentTold (executes_effect f i o (mend_effect (joined_contents m.contents) m i.work.content) s).told →
      AllStays c n trace (executes_effect f i o (mend_effect (joined_contents m.contents) m i.work.content) s).told → StoreFine c n trace f s (executes_effect f i o (mend_effect (joined_contents m.contents) m i.work.content) s)
  mend_fine m is kept_so low stays = step_fine result_here (operated (record e { spent = spent }) result_here i.work)
      (subst (λ (r : Result). IsStep c trace f i x o r (operated e r i.work)) (sym same) (effect_step (subst OnContent (sym is) tt) e (sym the_tree))) stays
    where
      e : Effect
      e = mends i.work.content (has_several m.contents) (dir_bytes (rescued (joined_contents m.contents) m.kept))

      spent : Bool
      spent = rescue_is_spent (joined_contents m.contents) m.kept

      result_here : Result
      result_here = result_in (free_pages s i.file.group) i.work.changed (record e { spent = spent })

      refused : (o : Op) (r : Result) → o ≡ op.Mend → r ≡ result.No refusal.Spent → IsSpentMend o r
      refused o r p q = subst (λ (y : Op). IsSpentMend y r) (sym p) (subst (IsSpentMend op.Mend) (sym q) tt)

      same : result_here ≡ result_in (free_pages s i.file.group) i.work.changed e
      same = spent_same (free_pages s i.file.group) i.work.changed e spent (mend_unspent i.work.content (has_several m.contents) (dir_bytes (rescued (joined_contents m.contents) m.kept))) (λ q. low.0 (refused o result_here is q))

      the_tree : Some e ≡ effect_on (history c (entries trace)) tree o x
      the_tree = subst (λ (y : Op). Some e ≡ effect_on (history c (entries trace)) tree y x) (sym is) (ap (λ (xs : List ℕ). Some (mends xs (has_several m.contents) (dir_bytes (rescued (joined_contents m.contents) m.kept)))) content_same ∙ mend_same (history c (entries trace)) tree x m x.work.content
          (subst (λ (g : FileId). m.contents ≡ map (version_content (history c (entries trace)) g) (kept_of (history c (entries trace)) tree g)) (sym w.file_is) kept_so.contents) kept_so.kept)

-- ---- by the operation ----

-- a mend that is asked now works on what is kept
abbrev MendsAsked : Config → List Line → Frame → Instance → Op → Mending → Type 0
MendsAsked c trace f i o m = o ≡ op.Mend → (d : CallId) → IsCallIn (entries trace) f.epoch d → Asks c trace d (want.Do i.inst o) → MendsAs c trace f i.file m

module _ (c : Config) (n : ℕ) (trace : List Line) (few : PacksAreOfSites c) (h : IsFollowed c trace) (rests : StoreRests c trace) (more : OpRests c trace) (f : Frame) (frame : FrameFact c trace f) (s : Store) (kept : StoreHeld c f trace s) (room : (group : ℕ) → free_pages s group ≡ tree_free (history c (entries trace)) (tree_of c f.epoch group (entries trace)) f.me)
    (i : Instance) (k : InstanceFact c trace f i) (ready : MayWrite f i) (running : i.stage ≡ stage.Running) where
  module _ (x : Open) (w : WorksAs c trace f i x) (settled : IsSettled i) (unshut : WasShut trace f.me f.epoch i.inst → ⊥) (m : Mending) where
    executed : (o : Op) (q : AsksIt c trace f.epoch i.inst (i.work.ops + 1) o) (seen : List ℕ) → SeesFor c trace f.epoch q.call i.inst o seen → MendsAsked c trace f i o m → Every UnspentTold (executes f m i o seen s).told → AllStays c n trace (executes f m i o seen s).told → StoreFine c n trace f s (executes f m i o seen s)
    executed op.Commit q seen t y low stays = commit_fine c n trace few h rests more f frame s kept room i k x w settled unshut running ready op.Commit q i.work.owes refl refl stays
    executed op.Abort q seen t y low stays = abort_fine c n trace few h rests more f frame s kept room i k x w settled unshut running ready op.Abort q refl stays
    executed (op.Remove name ino) q seen t y low stays = content_fine c n trace few h rests more f frame s kept room i k x w settled unshut running ready (op.Remove name ino) q tt (effect (Removes name ino seen) i.work.content)
        (remove_same c n trace few h rests more f frame s kept room i k x w settled unshut running ready (op.Remove name ino) q name ino seen refl t) stays
    executed op.Mend q seen t y low stays = mend_fine c n trace few h rests more f frame s kept room i k x w settled unshut running ready op.Mend q m refl (y refl q.call q.inside q.asks) low stays
    executed (op.Probe name) q seen t y low stays = content_fine c n trace few h rests more f frame s kept room i k x w settled unshut running ready (op.Probe name) q tt (effect (As (op.Probe name)) i.work.content) (ap (λ (z : Work). effect (As (op.Probe name)) z.content) (sym w.work_is)) stays
    executed (op.Find name) q seen t y low stays = content_fine c n trace few h rests more f frame s kept room i k x w settled unshut running ready (op.Find name) q tt (effect (As (op.Find name)) i.work.content) (ap (λ (z : Work). effect (As (op.Find name)) z.content) (sym w.work_is)) stays
    executed (op.Insert name ino kd) q seen t y low stays = content_fine c n trace few h rests more f frame s kept room i k x w settled unshut running ready (op.Insert name ino kd) q tt (effect (As (op.Insert name ino kd)) i.work.content) (ap (λ (z : Work). effect (As (op.Insert name ino kd)) z.content) (sym w.work_is)) stays
    executed (op.Rename component name) q seen t y low stays = content_fine c n trace few h rests more f frame s kept room i k x w settled unshut running ready (op.Rename component name) q tt (effect (As (op.Rename component name)) i.work.content) (ap (λ (z : Work). effect (As (op.Rename component name)) z.content) (sym w.work_is)) stays
    executed op.Empty q seen t y low stays = content_fine c n trace few h rests more f frame s kept room i k x w settled unshut running ready op.Empty q tt (effect (As op.Empty) i.work.content) (ap (λ (z : Work). effect (As op.Empty) z.content) (sym w.work_is)) stays
    executed (op.Read at len) q seen t y low stays = content_fine c n trace few h rests more f frame s kept room i k x w settled unshut running ready (op.Read at len) q tt (effect (As (op.Read at len)) i.work.content) (ap (λ (z : Work). effect (As (op.Read at len)) z.content) (sym w.work_is)) stays
    executed (op.Write at bytes) q seen t y low stays = content_fine c n trace few h rests more f frame s kept room i k x w settled unshut running ready (op.Write at bytes) q tt (effect (As (op.Write at bytes)) i.work.content) (ap (λ (z : Work). effect (As (op.Write at bytes)) z.content) (sym w.work_is)) stays
    executed (op.Cut len) q seen t y low stays = content_fine c n trace few h rests more f frame s kept room i k x w settled unshut running ready (op.Cut len) q tt (effect (As (op.Cut len)) i.work.content) (ap (λ (z : Work). effect (As (op.Cut len)) z.content) (sym w.work_is)) stays

  -- ---- by its number ----

  again_sent : (number : ℕ) → number ≡ i.work.ops → (a : Option Result) → AnsweredFact trace f i a → Every (PacketFact c trace) (op_again f i number a)
  again_sent number is None y = tt
  again_sent number is (Some r) y = ((y.0, subst (λ (m : ℕ). WasDone trace f.epoch i.inst m y.0 r) (sym is) y.1), tt)

  too_high : (a b : ℕ) → a ≡ b + 1 → a ≤ b → ⊥
  too_high a b e l = omega (arith, e, l)

  next_fine : (number : ℕ) (o : Op) (seen : List ℕ) (m : Mending) → number ≡ i.work.ops + 1 → OpFact c trace f.epoch f.me i.inst number o seen → MendsAsked c trace f i o m → StageFact c trace f i stage.Running → Every UnspentTold (executes f m i o seen s).told → AllStays c n trace (executes f m i o seen s).told → StoreFine c n trace f s (executes f m i o seen s)
  next_fine number o seen m is fact y st low stays = over fact st.0
    where
      over : OpFact c trace f.epoch f.me i.inst number o seen → RunsAs c trace f i → StoreFine c n trace f s (executes f m i o seen s)
      over (inl d) (inl w) = absurd (too_high number i.work.ops is (subst (λ (z : Work). number ≤ z.ops) w.1.work_is (more.done f.epoch i.inst number o d.0 w.0 d.1 w.1.open_at.found)))
      over (inl d) (inr w) = absurd (w.unnamed (done_named c trace h f.epoch i.inst number o d.0 d.1))
      over (inr q) (inr w) = absurd (w.unnamed (open_named c trace f.epoch i.inst q.at q.open_at.found))
      over (inr q) (inl w) = executed w.0 w.1 st.1 st.2 m o (record { call = q.call; owner = subst (λ (z : ℕ). call_of_act (entries trace) f.epoch i.inst z ≡ Some q.call) is q.owner; inside = q.inside; asks = q.asks }) seen q.sees y low stays

  numbered_fine : (number : ℕ) (o : Op) (seen : List ℕ) (m : Mending) → OpFact c trace f.epoch f.me i.inst number o seen → MendsAsked c trace f i o m → StageFact c trace f i stage.Running → Every UnspentTold (by_number f m i number o seen s).told → AllStays c n trace (by_number f m i number o seen s).told → StoreFine c n trace f s (by_number f m i number o seen s)
  numbered_fine number o seen m fact y st low stays = over (number == i.work.ops) (number == i.work.ops + 1) refl refl low stays
    where
      over : (a b : Bool) → (number == i.work.ops) ≡ a → (number == i.work.ops + 1) ≡ b →
          Every UnspentTold (elim a as (λ (z : Bool). Outcome Store) [ true ↦ sends (op_again f i number i.answered) s | false ↦ elim b as (λ (z : Bool). Outcome Store) [ true ↦ executes f m i o seen s | false ↦ quiet s ] ]).told →
          AllStays c n trace (elim a as (λ (z : Bool). Outcome Store) [ true ↦ sends (op_again f i number i.answered) s | false ↦ elim b as (λ (z : Bool). Outcome Store) [ true ↦ executes f m i o seen s | false ↦ quiet s ] ]).told →
          StoreFine c n trace f s (elim a as (λ (z : Bool). Outcome Store) [ true ↦ sends (op_again f i number i.answered) s | false ↦ elim b as (λ (z : Bool). Outcome Store) [ true ↦ executes f m i o seen s | false ↦ quiet s ] ])
      over true b p q low stays = record { told = tt; own = tt; view = kept; sent = again_sent number (equal number i.work.ops p) i.answered k.answered; written = tt }
      over false true p q low stays = next_fine number o seen m (equal number (i.work.ops + 1) q) fact y st low stays
      over false false p q low stays = record { told = tt; own = tt; view = kept; sent = tt; written = tt }

-- ---- by its stage ----

pub op_fine : (c : Config) (n : ℕ) (trace : List Line) → PacksAreOfSites c → IsFollowed c trace → StoreRests c trace → OpRests c trace → (f : Frame) → FrameFact c trace f → (s : Store) → StoreHeld c f trace s → ((group : ℕ) → free_pages s group ≡ tree_free (history c (entries trace)) (tree_of c f.epoch group (entries trace)) f.me) → ((i : Instance) → Among i s.instances → MayWrite f i) →
    (m : Mending) (inst : Serial) → inst.us ≤ sites_max → (number : ℕ) (o : Op) (seen : List ℕ) → OpFact c trace f.epoch f.me inst number o seen → ((i : Instance) → instance_of s inst ≡ Some i → o ≡ op.Mend → (d : CallId) → IsCallIn (entries trace) f.epoch d → Asks c trace d (want.Do inst op.Mend) → MendsAs c trace f i.file m) →
    Every UnspentTold (on_op f m inst number o seen s).told → AllStays c n trace (on_op f m inst number o seen s).told → StoreFine c n trace f s (on_op f m inst number o seen s)
op_fine c n trace few h rests more f frame s kept room ready m inst low number o seen fact mends low_told stays = over (instance_of s inst) refl low_told stays
  where
    at : (i : Instance) → InstanceFact c trace f i → Among i s.instances → instance_of s inst ≡ Some i → i.inst ≡ inst → OpFact c trace f.epoch f.me i.inst number o seen → (t : Stage) → i.stage ≡ t → StageFact c trace f i t → Every UnspentTold (on_op_at f m i t number o seen s).told → AllStays c n trace (on_op_at f m i t number o seen s).told → StoreFine c n trace f s (on_op_at f m i t number o seen s)
    at i k among found same fact stage.Running is st low stays = numbered_fine c n trace few h rests more f frame s kept room i k (ready i among) is number o seen m fact (λ e d inside asks. mends i found e d inside (subst (λ (j : Serial). Asks c trace d (want.Do j op.Mend)) same (subst (λ (y : Op). Asks c trace d (want.Do i.inst y)) e asks))) st low stays
    at i k among found same fact (stage.Closing made a) is st low stays = record { told = tt; own = tt; view = kept; sent = tt; written = tt }
    at i k among found same fact (stage.Closed a) is st low stays = record { told = tt; own = tt; view = kept; sent = tt; written = tt }

    over : (y : Option Instance) → instance_of s inst ≡ y → Every UnspentTold (on_op_of f m y number o seen s).told → AllStays c n trace (on_op_of f m y number o seen s).told → StoreFine c n trace f s (on_op_of f m y number o seen s)
    over None e low_told stays = record { told = tt; own = tt; view = kept; sent = tt; written = tt }
    over (Some i) e low_told stays = (let k : InstanceFact c trace f i × (i.inst ≡ inst) = found_instance c trace f s kept inst low i e in
        at i k.0 (row_among instance_key (serial_key inst) s.instances i e) e k.1 (subst (λ (j : Serial). OpFact c trace f.epoch f.me j number o seen) (sym k.1) fact) i.stage refl k.0.stage low_told stays)
