-- What is left of operations follows, where what scripts ask is lawful on what their instances have.
use Rattle.std.proofs.Common.{◌≡◌, ℕ, ◌+◌, ◌≤◌, ◌==◌, Bool, true, false, cond, ◌&&◌, List, [], ◌∷◌, Option, Some, None, refl, sym, ◌∙◌, ap, subst, inl, inr, arith}
use Rattle.std.specs.List.{find}
use Rattle.role_steps.proofs.of_plain_facts.Options.{none_some, some_same}
use Rattle.role_steps.proofs.of_plain_facts.Tests.{and_second, false_true}
use Rattle.locus_ids.specs.declared.config.Config.{Config}
use Rattle.locus_ids.specs.declared.ids.EpochId.{EpochId}
use Rattle.locus_ids.specs.declared.ids.Serial.{Serial}
use Rattle.locus_ids.specs.declared.ids.Stamp.{Stamp}
use Rattle.locus_ids.specs.declared.refusal.Refusal.TheVariants as refusal
use Rattle.trace_book.specs.declared.operation.Op.{Op}
use Rattle.trace_book.specs.declared.operation.Op.TheVariants as op
use Rattle.trace_book.specs.declared.operation.Outcome.{Outcome as Result}
use Rattle.trace_book.specs.declared.operation.Outcome.TheVariants as result
use Rattle.trace_book.specs.declared.record.Record.TheVariants as says
use Rattle.file_effects.specs.Effects.{As, Deed, Effect, Mends, Removes, effect, is_refusal}
use Rattle.dir_format.specs.Grammar.{dir_bytes}
use Rattle.dir_reconcile.specs.Rescues.{rescue_is_spent, rescued}
use Rattle.file_effects.specs.Works.{aborted, carried_out, commit_result, counted, operated, result_in}
use Rattle.file_effects.specs.declared.work.Work.{Work}
use Rattle.wire_messages.specs.declared.body.Body.TheVariants as body
use Rattle.role_steps.specs.Mends.{mending}
use Rattle.role_steps.specs.OperationEffects.{Mending, effect_of, has_several, joined_contents, or_spent}
use Rattle.role_steps.specs.Operations.{acts, acts_committed, commit_op, commits_owing, executes, executes_effect, last_committed}
use Rattle.role_steps.specs.Storage.{commits, content_of, copy_of, free_pages, instance_committed, instance_key, instance_of, is_spent, next_stamp, next_vector}
use Rattle.role_steps.specs.Using.{answers_op}
use Rattle.role_steps.specs.Views.{Frame, Store, Told, Shown, Outcome, and_then, packet}
use Rattle.role_steps.specs.declared.instances.Instance.{Instance}
use Rattle.role_steps.specs.declared.rounds.InEpoch.{InEpoch}
use Rattle.the_run.specs.Kept.{Among}
use Rattle.the_run.specs.Worlds.{Line, World}
use Rattle.store_laws.proofs.Tabled.{latest_same}
use Rattle.locus_ids.specs.declared.ids.Kind.{Kind}
use Rattle.commit_graph.specs.declared.history.Version.{Version}
use Rattle.tree_model.specs.declared.instance.Instance.{Instance as Open}
use Rattle.tree_model.specs.Given.{gives_act, instance_gives}
use Rattle.tree_model.specs.Histories.{history}
use Rattle.tree_model.specs.Same.{is_given, same_outcome}
use Rattle.tree_model.specs.State.{TreeState, instance_in}
use Rattle.tree_model.specs.Tree.{tree_of}
use Rattle.tree_model.specs.Working.{deed_of, is_target, result_on, sees}
use Rattle.tree_model.specs.Working as tree
use Rattle.lawful_trace.specs.TreeRows.{granted_group}
use Rattle.tree_laws.specs.Following.{IsFollowed, MayTell}
use Rattle.tree_laws.specs.Past.{ActRecord, Printed, WasDone}
use Rattle.tree_laws.specs.Printed.{entries}
use Rattle.store_laws.proofs.AnswerDone.{act_next, done_low}
use Rattle.calm_laws.proofs.Operation.{OperationsAreDone}
use Rattle.store_laws.specs.OneTree.Rest.{Past}
use Rattle.calm_laws.specs.Carrying.{frame_of}
use Rattle.calm_laws.proofs.Sorts.{effect_sort, no_answers, op_of, result_sort}
use Rattle.schedule_lines.specs.declared.line.ScheduleLine.{ScheduleLine}
use Rattle.calm_laws.specs.Rounds.{IsInRound, IsLawful, OperationsAreLawful}
use Rattle.calm_laws.proofs.CloseAgreed.{past_of}
use Rattle.calm_laws.proofs.Facts.{round_facts}

-- ---- then it is done ----

effect_is : (o : Op) (seen : List ℕ) (m : Mending) (content : List ℕ) (e : Effect) → effect_of o seen m content ≡ Some e → answers_op o e.result ≡ true
effect_is (op.Remove name ino) seen m content e k = effect_sort (Removes name ino seen) content e k
effect_is op.Mend seen m content e k = over (effect (Mends (has_several m.contents) (dir_bytes (rescued (joined_contents m.contents) m.kept))) content) refl k
  where
    over : (x : Option Effect) → effect (Mends (has_several m.contents) (dir_bytes (rescued (joined_contents m.contents) m.kept))) content ≡ x → or_spent (rescue_is_spent (joined_contents m.contents) m.kept) x ≡ Some e → answers_op op.Mend e.result ≡ true
    over None q z = absurd (none_some e z)
    over (Some y) q z = subst (λ (t : Effect). answers_op op.Mend t.result ≡ true) (some_same _ e z) (effect_sort (Mends (has_several m.contents) (dir_bytes (rescued (joined_contents m.contents) m.kept))) content y q)
effect_is o seen m content e k = effect_sort (As o) content e k

operated_ops : (e : Effect) (r : Result) (w : Work) → (operated e r w).ops ≡ w.ops + 1
operated_ops e r w = over (is_refusal r)
  where
    over : (b : Bool) → (cond {A = Work} b (counted w) (carried_out e w)).ops ≡ w.ops + 1
    over true = refl
    over false = refl

abbrev IsDone : Frame → Instance → Op → Outcome Store → Type 0
IsDone f i o out = (r : Result) × Among (packet f i.inst.us (body.OpDone i.inst.serial (i.work.ops + 1) r)) out.sent × (answers_op o r ≡ true)

module _ (f : Frame) where
  acts_done : (i : Instance) (o : Op) (r : Result) (w : Work) (s : Store) → w.ops ≡ i.work.ops + 1 → answers_op o r ≡ true → IsDone f i o (acts f i o r w s)
  acts_done i o r w s number fits = (r, inl (ap (λ (k : ℕ). packet f i.inst.us (body.OpDone i.inst.serial k r)) (sym number)), fits)

  effect_done : (i : Instance) (o : Op) (x : Option Effect) (e : Effect) (s : Store) → x ≡ Some e → answers_op o e.result ≡ true → IsDone f i o (executes_effect f i o x s)
  effect_done i o x e s q fits = subst (λ (z : Option Effect). IsDone f i o (executes_effect f i o z s)) (sym q)
      (acts_done i o (result_in (free_pages s i.file.group) i.work.changed e) (operated e (result_in (free_pages s i.file.group) i.work.changed e) i.work) s (operated_ops e (result_in (free_pages s i.file.group) i.work.changed e) i.work) (result_sort o (free_pages s i.file.group) i.work.changed e fits))

  owing_done : (i : Instance) (s : Store) → IsDone f i op.Commit (commits_owing f i s)
  owing_done i s = elim (is_spent f i) as (λ b. IsDone f i op.Commit (elim b as (λ (x : Bool). Outcome Store) [ true ↦ acts f i op.Commit (result.No refusal.Spent) (counted i.work) s | false ↦ and_then (commits f i s) (λ now. acts_committed f (next_stamp f (next_vector f i)) (instance_of now i.inst) now) ])) [
    | true ↦ acts_done i op.Commit (result.No refusal.Spent) (counted i.work) s refl refl
    | false ↦ (let k : IsDone f i op.Commit (acts_committed f (next_stamp f (next_vector f i)) (instance_of now i.inst) now) = subst (λ (z : Option Instance). IsDone f i op.Commit (acts_committed f (next_stamp f (next_vector f i)) z now)) (sym (latest_same instance_key j s.instances))
        (acts_done j op.Commit (result.Committed (next_stamp f (next_vector f i))) (counted j.work) now refl refl) in (k.0, k.1, k.2))
  ]
    where
      now : Store
      now = (commits f i s).view

      j : Instance
      j = instance_committed i (next_vector f i) (next_stamp f (next_vector f i))

  commit_done : (i : Instance) (s : Store) → (i.work.owes ≡ false → (stamp : Stamp) × (i.work.last ≡ Some stamp)) → IsDone f i op.Commit (commit_op f i s)
  commit_done i s h =
      (elim i.work.owes as (λ b. i.work.owes ≡ b → IsDone f i op.Commit (elim b as (λ (x : Bool). Outcome Store) [ true ↦ commits_owing f i s | false ↦ last_committed f i i.work.last s ])) [
        | true ↦ λ q. owing_done i s
        | false ↦ λ q. (let k : (stamp : Stamp) × (i.work.last ≡ Some stamp) = h q in subst (λ (z : Option Stamp). IsDone f i op.Commit (last_committed f i z s)) (sym k.1) (acts_done i op.Commit (result.Committed k.0) (counted i.work) s refl refl))
      ]) refl

  executes_done : (m : Mending) (i : Instance) (o : Op) (seen : List ℕ) (s : Store) → IsLawful m i o seen → IsDone f i o (executes f m i o seen s)
  executes_done m i op.Commit seen s h = commit_done i s h
  executes_done m i op.Abort seen s h = acts_done i op.Abort result.Done (aborted i.mode (content_of (copy_of s i.file)) i.work) s refl refl
  executes_done m i o seen s h = effect_done i o (effect_of o seen m i.work.content) h.0 s h.1 (effect_is o seen m i.work.content h.0 h.1)

-- ---- what was done ----

-- an operation that is told now wasn't done before
again : (c : Config) (older : List Line) → IsFollowed c older → (e : EpochId) (i : Serial) (n : ℕ) (o p : Op) (r s : Result) (z : Told) → MayTell c older z → Printed (ActRecord e i n o r) older z → WasDone older e i n p s → ⊥
again c older h e i n o p r s (Shown (says.Act at inst number what gave)) may a b = above number n may.in_time.at.work.ops (act_next (history c (entries older)) (tree_of c at (granted_group (entries older) at inst) (entries older)) inst number what gave may.in_time.at may.in_time.open_at.found may.row.gives) a.number_is
    (done_low c older h at inst n p s may.in_time.at (subst (λ (y : EpochId). WasDone older y inst n p s) (sym a.epoch_is) (subst (λ (y : Serial). WasDone older e y n p s) (sym a.serial_is) b)) may.in_time.open_at.found)
  where
    above : (k j d : ℕ) → k ≡ d + 1 → k ≡ j → j ≤ d → ⊥
    above k j d p q l = omega (arith, p, q, l)
again c older h e i n o p r s _ may a b = absurd a

-- one operation was done under a number
done_one : (c : Config) (t : List Line) → IsFollowed c t → (e : EpochId) (i : Serial) (n : ℕ) (o p : Op) (r s : Result) → WasDone t e i n o r → WasDone t e i n p s → o ≡ p
done_one c [] h e i n o p r s a b = absurd a
done_one c (x ∷ older) h e i n o p r s (inr a) (inr b) = done_one c older h.1 e i n o p r s a b
done_one c (x ∷ older) h e i n o p r s (inl a) (inl b) = both x.told a b
  where
    both : (z : Told) → Printed (ActRecord e i n o r) older z → Printed (ActRecord e i n p s) older z → o ≡ p
    both (Shown (says.Act at inst number what gave)) a b = sym a.operation_is ∙ b.operation_is
    both _ a b = absurd a
done_one c (x ∷ older) h e i n o p r s (inl a) (inr b) = absurd (again c older h.1 e i n o p r s x.told h.0 a b)
done_one c (x ∷ older) h e i n o p r s (inr a) (inl b) = absurd (again c older h.1 e i n p o s r x.told h.0 b a)

-- ---- the sort of what was done ----

found_answers : (o : Op) (ino j : ℕ) (k l : Kind) → answers_op o (result.Found ino k) ≡ answers_op o (result.Found j l)
found_answers (op.Find component) ino j k l = refl
found_answers (op.Read at len) ino j k l = refl
found_answers op.Commit ino j k l = refl
found_answers _ ino j k l = refl

data_answers : (o : Op) (a b : List ℕ) → answers_op o (result.Data a) ≡ answers_op o (result.Data b)
data_answers (op.Find component) a b = refl
data_answers (op.Read at len) a b = refl
data_answers op.Commit a b = refl
data_answers _ a b = refl

stamp_answers : (o : Op) (a b : Stamp) → answers_op o (result.Committed a) ≡ answers_op o (result.Committed b)
stamp_answers (op.Find component) a b = refl
stamp_answers (op.Read at len) a b = refl
stamp_answers op.Commit a b = refl
stamp_answers _ a b = refl

same_sort : (o : Op) (z r : Result) → same_outcome z r ≡ true → answers_op o z ≡ true → answers_op o r ≡ true
same_sort o z (result.No why) e h = no_answers o why
same_sort o result.Done result.Done e h = h
same_sort o (result.Found ino k) (result.Found j l) e h = found_answers o j ino l k ∙ h
same_sort o (result.Data a) (result.Data b) e h = data_answers o b a ∙ h
same_sort o (result.Committed a) (result.Committed b) e h = stamp_answers o b a ∙ h
same_sort o _ _ e h = absurd (false_true e)

given_sort : (o : Op) (q : Option Result) (r : Result) → ((z : Result) → q ≡ Some z → answers_op o z ≡ true) → is_given q r ≡ true → answers_op o r ≡ true
given_sort o None r h e = absurd (false_true e)
given_sort o (Some z) r h e = same_sort o z r e (h z refl)

commit_sort : (spent : Bool) (w : Work) (z : Result) → commit_result spent w ≡ Some z → answers_op op.Commit z ≡ true
commit_sort spent w z e = over w.owes w.last e
  where
    over : (b : Bool) (l : Option Stamp) → commit_result spent (record w { owes = b; last = l }) ≡ Some z → answers_op op.Commit z ≡ true
    over true l k = refused spent k
      where
        refused : (b : Bool) → ◌≡◌ {A = Option Result} (cond b (Some (result.No refusal.Spent)) None) (Some z) → answers_op op.Commit z ≡ true
        refused true q = subst (λ (y : Result). answers_op op.Commit y ≡ true) (some_same _ z q) refl
        refused false q = absurd (none_some z q)
    over false None k = absurd (none_some z k)
    over false (Some s) k = subst (λ (y : Result). answers_op op.Commit y ≡ true) (some_same (result.Committed s) z k) refl

-- a deed is of its operation
deed_sort : (h : List Version) (t : TreeState) (o : Op) (x : Open) (d : Deed) → deed_of h t o x ≡ Some d → op_of d ≡ o
deed_sort h t (op.Remove name ino) x d e = over (find (is_target x.grant.call ino) t.instances) e
  where
    seen : (y : Open) (l : Option Stamp) → sees h name ino (Some (record y { work = record y.work { last = l } })) ≡ Some d → op_of d ≡ op.Remove name ino
    seen y None k = absurd (none_some d k)
    seen y (Some s) k = sym (ap op_of (some_same _ d k))

    over : (z : Option Open) → sees h name ino z ≡ Some d → op_of d ≡ op.Remove name ino
    over None k = absurd (none_some d k)
    over (Some y) k = seen y y.work.last k
deed_sort h t op.Mend x d e = sym (ap op_of (some_same _ d e))
deed_sort h t o x d e = sym (ap op_of (some_same (As o) d e))

room_sort : (o : Op) (free : ℕ) (changed : List ℕ) (q : Option Deed) (content : List ℕ) (z : Result) → ((d : Deed) → q ≡ Some d → op_of d ≡ o) → tree.in_room free changed (tree.effect_of q content) ≡ Some z → answers_op o z ≡ true
room_sort o free changed None content z h e = absurd (none_some z e)
room_sort o free changed (Some d) content z h e = over (effect d content) refl e
  where
    over : (y : Option Effect) → effect d content ≡ y → tree.in_room free changed y ≡ Some z → answers_op o z ≡ true
    over None k q = absurd (none_some z q)
    over (Some f) k q = subst (λ (r : Result). answers_op o r ≡ true) (some_same _ z q) (result_sort o free changed f (subst (λ (p : Op). answers_op p f.result ≡ true) (h d refl) (effect_sort d content f k)))

on_sort : (h : List Version) (t : TreeState) (o : Op) (x : Open) (z : Result) → result_on h t o x ≡ Some z → answers_op o z ≡ true
on_sort h t op.Commit x z e = commit_sort (tree.is_spent h t x) x.work z e
on_sort h t op.Abort x z e = subst (λ (y : Result). answers_op op.Abort y ≡ true) (some_same _ z e) refl
on_sort h t o x z e = room_sort o (tree.free_pages h t x.grant.ss) x.work.changed (deed_of h t o x) x.work.content z (deed_sort h t o x) e

act_sort : (h : List Version) (t : TreeState) (i : Serial) (n : ℕ) (o : Op) (r : Result) (x : Open) → instance_in t i ≡ Some x → gives_act h t i n o r ≡ true → answers_op o r ≡ true
act_sort h t i n o r x found g = given_sort o (result_on h t o x) r (on_sort h t o x) (and_second (n == x.work.ops + 1) (is_given (result_on h t o x) r) (subst (λ (z : Option Open). instance_gives h t n o r z ≡ true) found g))

done_sort : (c : Config) (t : List Line) → IsFollowed c t → (e : EpochId) (i : Serial) (n : ℕ) (o : Op) (r : Result) → WasDone t e i n o r → answers_op o r ≡ true
done_sort c [] h e i n o r a = absurd a
done_sort c (x ∷ older) h e i n o r (inr a) = done_sort c older h.1 e i n o r a
done_sort c (x ∷ older) h e i n o r (inl a) = over x.told h.0 a
  where
    over : (z : Told) → MayTell c older z → Printed (ActRecord e i n o r) older z → answers_op o r ≡ true
    over (Shown (says.Act at inst number what gave)) may k = subst (λ (y : Result). answers_op o y ≡ true) k.result_is (subst (λ (y : Op). answers_op y gave ≡ true) k.operation_is
        (act_sort (history c (entries older)) (tree_of c at (granted_group (entries older) at inst) (entries older)) inst number what gave may.in_time.at may.in_time.open_at.found may.row.gives))
    over _ may k = absurd k

-- ---- all of it ----

pub operations_done : (c : Config) (lines : List ScheduleLine) (n : ℕ) (e : InEpoch) (w : World) → IsInRound c lines n w → OperationsAreLawful c e w → OperationsAreDone c e w
operations_done c lines number e w round lawful = record {
  done = λ m v member here i found running n o seen asked next.
      (let k : IsDone (frame_of c e m) i o (executes (frame_of c e m) (mending v i.file.group) i o seen v.store) = executes_done (frame_of c e m) (mending v i.file.group) i o seen v.store (lawful m v member here i found running n o seen asked next) in
      (k.0, subst (λ (j : ℕ). Among (packet (frame_of c e m) i.inst.us (body.OpDone i.inst.serial j k.0)) (executes (frame_of c e m) (mending v i.file.group) i o seen v.store).sent) (sym next) k.1, k.2));
  fits = λ i n o p r s a b. subst (λ (y : Op). answers_op y s ≡ true) (sym (done_one c w.trace past.followed e.id i n o p r s a b)) (done_sort c w.trace past.followed e.id i n p s b);
}
  where
    past : Past c w.trace
    past = past_of c w (round_facts c lines number w round)
