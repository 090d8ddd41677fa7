-- What a site has asked of an instance is what was done on it, and the one operation that is asked still.
use Rattle.std.proofs.Common.{◌≡◌, ℕ, ◌+◌, Bool, true, false, cond, ◌&&◌, List, [], ◌∷◌, Option, Some, None, refl, sym, ◌∙◌, ap, subst, ◌⊎◌, inl, inr}
use Rattle.std.specs.List.{find}
use Rattle.plain_facts.proofs.Options.{some_same}
use Rattle.plain_facts.proofs.Tests.{true_false}
use Rattle.locus_ids.specs.declared.config.Config.{Config}
use Rattle.locus_ids.specs.declared.ids.CallId.{CallId}
use Rattle.locus_ids.specs.declared.ids.EpochId.{EpochId}
use Rattle.locus_ids.specs.declared.ids.FileId.{FileId}
use Rattle.locus_ids.specs.declared.ids.Serial.{Serial}
use Rattle.commit_graph.specs.declared.history.Version.{Version}
use Rattle.tree_model.specs.of_file_effects.declared.work.Work.{Work}
use Rattle.tree_model.specs.of_file_effects.Effects.{Effect, is_refusal}
use Rattle.tree_model.specs.of_file_effects.Works.{counted, carried_out}
use Rattle.trace_book.specs.Same.{same_epoch}
use Rattle.trace_book.specs.declared.descriptor.Beginning.TheVariants as begins
use Rattle.trace_book.specs.declared.operation.Op.{Op}
use Rattle.trace_book.specs.declared.operation.Op.TheVariants as op
use Rattle.trace_book.specs.declared.operation.Outcome.{Outcome}
use Rattle.trace_book.specs.declared.operation.What.{What}
use Rattle.trace_book.specs.declared.record.Record.{Record}
use Rattle.trace_book.specs.declared.record.Record.TheVariants as says
use Rattle.call_rules.specs.declared.answer.Answer.{Answer}
use Rattle.call_rules.specs.declared.want.Want.{Want}
use Rattle.call_rules.specs.declared.want.Want.TheVariants as want
use Rattle.role_steps.specs.Views.{Told, Shown}
use Rattle.the_run.specs.Worlds.{Line}
use Rattle.tree_model.specs.declared.instance.Instance.{Instance}
use Rattle.tree_model.specs.Calls.{granted_to}
use Rattle.tree_model.specs.Histories.{history}
use Rattle.tree_model.specs.Lists.{change_first}
use Rattle.tree_model.specs.State.{TreeState, is_named, is_granted_here}
use Rattle.tree_model.specs.Tree.{tree_of, once_acted}
use Rattle.tree_model.specs.Working.{operated_by, effect_on}
use Rattle.lawful_trace.specs.Tables.{begun, has_named}
use Rattle.lawful_trace.specs.TreeRows.{IsCallIn, granted_group}
use Rattle.tree_laws.specs.Printed.{entries}
use Rattle.tree_laws.specs.Calls.{log, heard, Asks, Waits}
use Rattle.tree_laws.specs.Following.{MayTell, IsFollowed}
use Rattle.tree_laws.specs.Holding.{has_instances, IsOf}
use Rattle.tree_laws.specs.Instances.{instance_now, IsOpening}
use Rattle.tree_laws.specs.Serials.{asked_now}
use Rattle.tree_laws.proofs.Alone.{one_asks, asking}
use Rattle.tree_laws.proofs.Answered.{asker_unnamed}
use Rattle.tree_laws.proofs.Asking.{StepRecord, StepOf, Turns, Same, same_told, not_longer}
use Rattle.tree_laws.proofs.CarriedLooks.{one_want, one_epoch}
use Rattle.tree_laws.proofs.Counting.{asked_same}
use Rattle.tree_laws.proofs.Descriptors.{IsUser}
use Rattle.tree_laws.proofs.Fresh.{IsNamed}
use Rattle.tree_laws.proofs.Kinship.{tree_epoch_is}
use Rattle.tree_laws.proofs.Names.{same_epoch_own}
use Rattle.tree_laws.proofs.OfOwn.{asks_of_own}
use Rattle.tree_laws.proofs.Stepping.{step_record}
use Rattle.tree_laws.proofs.Orders.ProcessBegun.{comes_from}
use Rattle.tree_laws.proofs.Orders.ProcessHad.{begun_user}
use Rattle.tree_laws.proofs.Orders.ProcessGrantedHere.{granted_here}

abbrev With : ℕ → Told → List Line → List Line
With n x older = record { number = n; told = x } ∷ older

-- ---- an operation more is done ----

operated_more : (result : Outcome) (e : Option Effect) (w : Work) → (operated_by result e w).ops ≡ w.ops + 1
operated_more result None w = refl
operated_more result (Some e) w = over (is_refusal result)
  where
    over : (b : Bool) → (cond b (counted w) (carried_out e w)).ops ≡ w.ops + 1
    over true = refl
    over false = refl

pub acted_more : (h : List Version) (t : TreeState) (o : Op) (result : Outcome) (x : Instance) → (once_acted h t o result x).work.ops ≡ x.work.ops + 1
acted_more h t op.Commit result x = refl
acted_more h t op.Abort result x = refl
acted_more h t o result x = operated_more result (effect_on h t o x) x.work

change_own : {A : Type 0} (p : A → Bool) (change : A → A) (xs : List A) (x : A) → ((y : A) → p (change y) ≡ p y) → find p xs ≡ Some x → find p (change_first p change xs) ≡ Some (change x)
change_own {A} p change [] x same e = absurd (none e)
  where
    none : ◌≡◌ {A = Option A} None (Some x) → ⊥
    none k = cc
change_own {A} p change (y ∷ ys) x same e = at (λ (k : find p ys ≡ Some x). change_own p change ys x same k) (p y) refl e
  where
    at : (find p ys ≡ Some x → find p (change_first p change ys) ≡ Some (change x)) → (b : Bool) → p y ≡ b → cond b (Some y) (find p ys) ≡ Some x → find p (cond b (change y ∷ ys) (y ∷ change_first p change ys)) ≡ Some (change x)
    at later true t k = ap (λ (b : Bool). cond b (Some (change y)) (find p ys)) (same y ∙ t) ∙ ap (λ (z : A). Some (change z)) (some_same y x k)
    at later false t k = ap (λ (b : Bool). cond b (Some y) (find p (change_first p change ys))) t ∙ later k

-- an operation that is told is done on the instance
pub acts_now : (c : Config) (n : ℕ) (older : List Line) (e : EpochId) (i : Serial) (number : ℕ) (o : Op) (result : Outcome) (g : CallId) (at : Instance) → IsFollowed c older → granted_to (entries older) e i ≡ Some g → instance_now c older e i ≡ Some at →
    instance_now c (With n (Shown (says.Act e i number o result)) older) e i ≡ Some (once_acted (history c (entries older)) (tree_of c e (granted_group (entries older) e i) (entries older)) o result at)
acts_now c n older e i number o result g at h granted found = rw both (change_own (is_named i) (once_acted (history c (entries older)) t o result) t.instances at (λ y. refl) found)
  where
    t : TreeState
    t = tree_of c e (granted_group (entries older) e i) (entries older)

    both : (same_epoch e t.epoch && is_granted_here t i) ≡ true
    both = ap (λ (y : EpochId). same_epoch e y && is_granted_here t i) (tree_epoch_is c e (granted_group (entries older) e i) (entries older)) ∙ (ap (λ (b : Bool). b && is_granted_here t i) (same_epoch_own e) ∙ granted_here c older h e i g granted)

-- ---- one call asks an operation ----

do_is : (i j : Serial) (o p : Op) → want.Do i o ≡ want.Do j p → i ≡ j
do_is i j o p e = cc

-- of two calls of an epoch that ask operations of an instance each is the other
pub two_ask : (c : Config) (t : List Line) (e : EpochId) (i : Serial) (d other : CallId) (o p : Op) → IsFollowed c t → IsCallIn (entries t) e d → IsCallIn (entries t) e other → Asks c t d (want.Do i o) → Asks c t other (want.Do i p) → d ≡ other
two_ask c t e i d other o p h inside within a b = over (comes_from c t h e d i inside (own d o inside a)) (comes_from c t h e other i within (own other p within b))
  where
    own : (k : CallId) (q : Op) → IsCallIn (entries t) e k → Asks c t k (want.Do i q) → has_instances c t k i ≡ true
    own k q here asks = subst (IsOf (has_instances c t k)) asks.asked (asks_of_own c t k h (here.accepted, here.named))

    mixed : (k user : CallId) (q : Op) → Asks c t k (want.Do i q) → granted_to (entries t) e i ≡ Some k → IsUser (entries t) e i user → ⊥
    mixed k user q asks g u = true_false (sym (subst (λ (z : CallId). has_named (entries t) z ≡ true) (some_same u.for.granted k (sym u.for.is_granted ∙ g)) u.for.answered) ∙ asker_unnamed c t k h (asking c t k (want.Do i q) asks))

    over : (granted_to (entries t) e i ≡ Some d) ⊎ (begun (entries t) d ≡ Some (begins.Uses e i)) → (granted_to (entries t) e i ≡ Some other) ⊎ (begun (entries t) other ≡ Some (begins.Uses e i)) → d ≡ other
    over (inl x) (inl y) = some_same d other (sym x ∙ y)
    over (inl x) (inr y) = absurd (mixed d other o a x (begun_user c t e i other h within y))
    over (inr x) (inl y) = absurd (mixed other d p b y (begun_user c t e i d h inside x))
    over (inr x) (inr y) = one_asks c t e i d other h (begun_user c t e i d h inside x) (begun_user c t e i other h within y) (asking c t d (want.Do i o) a) (asking c t other (want.Do i p) b)

-- ---- a call that asks an operation after a line ----

-- a step comes where nothing waits
clear_step : (c : Config) (older : List Line) (r : Record) (d : CallId) → MayTell c older (Shown r) → StepRecord (entries older) r d → heard c older d ≡ log older d
clear_step c older (says.Look e call request f w result) d m step = subst (λ (y : CallId). heard c older y ≡ log older y) step m.in_time.asks.nothing_waits
clear_step c older (says.Grant e call request i mode f stamp ss) d m step = subst (λ (y : CallId). heard c older y ≡ log older y) step m.in_time.opens.asks.asks.nothing_waits
clear_step c older (says.Refuse e call request i mode f why) d m step = subst (λ (y : CallId). heard c older y ≡ log older y) step m.in_time.opens.asks.asks.nothing_waits
clear_step c older (says.Act e i n o result) d m step = subst (λ (y : CallId). heard c older y ≡ log older y) (some_same m.in_time.call d (sym m.in_time.owner ∙ step)) m.in_time.asks.nothing_waits
clear_step c older (says.Release e i f stamp) d m step = subst (λ (y : CallId). heard c older y ≡ log older y) (some_same m.in_time.call d (sym m.in_time.owner ∙ step)) m.in_time.asks.nothing_waits
clear_step c older _ d m step = absurd step

look_not_do : (i : Serial) (o : Op) (f : FileId) (w : What) → want.Look f w ≡ want.Do i o → ⊥
look_not_do i o f w e = cc

-- it asked it before the line, or the line is a take of it
pub asked_older : (c : Config) (n : ℕ) (x : Told) (older : List Line) (d : CallId) (i : Serial) (o : Op) → IsFollowed c older → MayTell c older x → IsNamed (entries older) d → Asks c (With n x older) d (want.Do i o) → Asks c older d (want.Do i o) ⊎ Turns x d
asked_older c n x older d i o h may named k = over x may k (same_told c older n x d) (λ same. asked_same c older n x d h may named same)
  where
    over : (y : Told) → MayTell c older y → Asks c (With n y older) d (want.Do i o) → Same c older n y d ⊎ (StepOf older y d ⊎ Turns y d) → (log (With n y older) d ≡ log older d → asked_now c (With n y older) d ≡ asked_now c older d) → Asks c older d (want.Do i o) ⊎ Turns y d
    over y m k (inl s) same = inl (record { asked = sym (same s.log_same) ∙ k.asked; request = refl; nothing_waits = sym s.heard_same ∙ (k.nothing_waits ∙ s.log_same) })
    over (Shown r) m k (inr (inl step)) same = (let w : (a : Answer) × Waits c (With n (Shown r) older) d a = step_record c n r older d m step (clear_step c older r d m step) in absurd (not_longer (heard c (With n (Shown r) older) d) (log (With n (Shown r) older) d) w.0 k.nothing_waits w.1))
    over y m k (inr (inr turn)) same = inr turn
    over _ m k (inr (inl step)) same = absurd step

-- the operation that the call asks is done by the record
pub record ActsIt (e : EpochId) (i : Serial) (at : EpochId) (inst : Serial) : Type 0 where
  pub epoch_is : at ≡ e
  pub serial_is : inst ≡ i

abbrev pub ActsRecord : EpochId → Serial → Record → Type 0
ActsRecord e i (says.Act at inst n o result) = ActsIt e i at inst
ActsRecord e i _ = ⊥

-- a step of a call that asks an operation is that operation
pub step_acts : (c : Config) (older : List Line) (r : Record) (e : EpochId) (i : Serial) (d : CallId) (o : Op) → IsCallIn (entries older) e d → Asks c older d (want.Do i o) → MayTell c older (Shown r) → StepRecord (entries older) r d → ActsRecord e i r
step_acts c older (says.Act at inst n what result) e i d o inside asks m step = record {
  epoch_is = one_epoch older at e d (subst (λ (y : CallId). IsCallIn (entries older) at y) (some_same m.row.step.call d (sym m.row.step.owned ∙ step)) m.row.step.step) inside;
  serial_is = do_is inst i what o (one_want c older d (want.Do inst what) (want.Do i o) (subst (λ (y : CallId). Asks c older y (want.Do inst what)) (some_same m.in_time.call d (sym m.in_time.owner ∙ step)) m.in_time.asks) asks);
}
step_acts c older (says.Release at inst f stamp) e i d o inside asks m step = absurd (other (one_want c older d (want.Close inst) (want.Do i o) (subst (λ (y : CallId). Asks c older y (want.Close inst)) (some_same m.in_time.call d (sym m.in_time.owner ∙ step)) m.in_time.asks) asks))
  where
    other : want.Close inst ≡ want.Do i o → ⊥
    other k = cc
step_acts c older (says.Look at call request f w result) e i d o inside asks m step = absurd (look_not_do i o f w (one_want c older d (want.Look f w) (want.Do i o) (subst (λ (y : CallId). Asks c older y (want.Look f w)) step m.in_time.asks) asks))
step_acts c older (says.Grant at call request inst mode f stamp ss) e i d o inside asks m step = absurd (subst (λ (y : Want). IsOpening c y m.in_time.opens.asked m.in_time.opens.it) (one_want c older d m.in_time.opens.asks.wanted (want.Do i o) (subst (λ (y : CallId). Asks c older y m.in_time.opens.asks.wanted) step m.in_time.opens.asks.asks) asks) m.in_time.opens.asks.opening_is)
step_acts c older (says.Refuse at call request inst mode f why) e i d o inside asks m step = absurd (subst (λ (y : Want). IsOpening c y m.in_time.opens.asked m.in_time.opens.it) (one_want c older d m.in_time.opens.asks.wanted (want.Do i o) (subst (λ (y : CallId). Asks c older y m.in_time.opens.asks.wanted) step m.in_time.opens.asks.asks) asks) m.in_time.opens.asks.opening_is)
step_acts c older _ e i d o inside asks m step = absurd step
