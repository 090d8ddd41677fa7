-- What packets of operations and closes carry stays when a line is added.
use Rattle.std.proofs.Common.{◌≡◌, ℕ, ◌+◌, ◌==◌, Bool, true, false, ◌&&◌, List, Option, Some, refl, sym, ◌∙◌, ap, subst, ◌⊎◌, inl, inr}
use Rattle.the_run.proofs.of_plain_facts.Numbers.{equal}
use Rattle.the_run.proofs.of_plain_facts.Options.{some_same}
use Rattle.the_run.proofs.of_plain_facts.Tests.{true_false}
use Rattle.locus_ids.specs.declared.config.Config.{Config}
use Rattle.locus_ids.specs.declared.ids.CallId.{CallId}
use Rattle.locus_ids.specs.declared.ids.EpochId.{EpochId}
use Rattle.locus_ids.specs.declared.ids.Serial.{Serial}
use Rattle.commit_graph.specs.declared.history.Version.{Version}
use Rattle.trace_book.specs.declared.operation.Op.{Op}
use Rattle.trace_book.specs.declared.operation.Outcome.{Outcome}
use Rattle.trace_book.specs.declared.record.Record.{Record}
use Rattle.trace_book.specs.declared.record.Record.TheVariants as says
use Rattle.call_rules.specs.declared.want.Want.{Want}
use Rattle.call_rules.specs.declared.want.Want.TheVariants as want
use Rattle.the_run.specs.of_role_steps.Views.{Told, Shown}
use Rattle.the_run.specs.Worlds.{Line}
use Rattle.lawful_trace.specs.of_tree_model.declared.instance.Granted.{Granted}
use Rattle.lawful_trace.specs.of_tree_model.declared.instance.Instance.{Instance}
use Rattle.lawful_trace.specs.of_tree_model.Given.{instance_gives, gives_act}
use Rattle.lawful_trace.specs.of_tree_model.Histories.{history}
use Rattle.lawful_trace.specs.of_tree_model.Same.{is_given}
use Rattle.lawful_trace.specs.of_tree_model.State.{TreeState, instance_in}
use Rattle.lawful_trace.specs.of_tree_model.Tree.{tree_of}
use Rattle.lawful_trace.specs.of_tree_model.Working.{result_on}
use Rattle.lawful_trace.specs.TreeRows.{IsCallIn, granted_group}
use Rattle.lawful_trace.specs.Tables.{call_of_act, call_of_release}
use Rattle.tree_laws.specs.Printed.{entries}
use Rattle.tree_laws.specs.Calls.{Asks}
use Rattle.tree_laws.specs.Past.{ActRecord}
use Rattle.tree_laws.specs.Instances.{IsOpening}
use Rattle.tree_laws.specs.Following.{MayTell, IsFollowed}
use Rattle.tree_laws.specs.Frames.{OwnersStay}
use Rattle.tree_laws.specs.Packets.{OpsNow, OpFact}
use Rattle.tree_laws.proofs.Scripts.{in_stays}
use Rattle.tree_laws.proofs.Asking.{AsksStill, StepRecord, StepOf, asks_stays}
use Rattle.tree_laws.proofs.CarriedLooks.{More, one_epoch, one_want}
use Rattle.tree_laws.proofs.Grants.{open_named}
use Rattle.tree_laws.proofs.Owners.{act_owner_stays}
use Rattle.tree_laws.proofs.Kinship.{StaysOpen, Ends, open_stays}
use Rattle.tree_laws.proofs.Opened.{EndsIt, ActsOn, CommitsOn, GoesOn}

-- ---- what a call asks of an instance ----

do_serial : (i j : Serial) (o p : Op) → want.Do i o ≡ want.Do j p → i ≡ j
do_serial i j o p e = cc

do_op : (i j : Serial) (o p : Op) → want.Do i o ≡ want.Do j p → o ≡ p
do_op i j o p e = cc

do_not_close : (i j : Serial) (o : Op) → want.Do i o ≡ want.Close j → ⊥
do_not_close i j o e = cc

-- the operation that is given is the next of the instance
given_next : (h : List Version) (t : TreeState) (i : Serial) (n : ℕ) (o : Op) (result : Outcome) (x : Instance) → instance_in t i ≡ Some x → gives_act h t i n o result ≡ true → n ≡ x.work.ops + 1
given_next h t i n o result x found gives = at (n == x.work.ops + 1) (is_given (result_on h t o x) result) (equal n (x.work.ops + 1)) (subst (λ (y : Option Instance). instance_gives h t n o result y ≡ true) found gives)
  where
    at : (a b : Bool) → (a ≡ true → n ≡ x.work.ops + 1) → a && b ≡ true → n ≡ x.work.ops + 1
    at true b h k = h refl
    at false b h k = absurd (true_false (sym k))

-- ---- Op ----

-- the call asks this operation, which is the next of the instance: what is done on it is that
done_now : (c : Config) (older : List Line) (e : EpochId) (ss : ℕ) (i : Serial) (n : ℕ) (o : Op) (seen : List ℕ) (k : OpsNow c older e ss i n o seen) (at : EpochId) (inst : Serial) (number : ℕ) (what : Op) (result : Outcome) →
    MayTell c older (Shown (says.Act at inst number what result)) → at ≡ e → inst ≡ i → ActRecord e i n o result older (says.Act at inst number what result)
done_now c older e ss i n o seen k at inst number what result may same_at same_inst = record { epoch_is = same_at; serial_is = same_inst; number_is = number_is; operation_is = operation_is; result_is = refl }
  where
    gives : gives_act (history c (entries older)) (tree_of c e (granted_group (entries older) e i) (entries older)) i number what result ≡ true
    gives = subst (λ (j : Serial). gives_act (history c (entries older)) (tree_of c e (granted_group (entries older) e j) (entries older)) j number what result ≡ true) same_inst
        (subst (λ (y : EpochId). gives_act (history c (entries older)) (tree_of c y (granted_group (entries older) y inst) (entries older)) inst number what result ≡ true) same_at may.row.gives)

    number_is : number ≡ n
    number_is = given_next (history c (entries older)) (tree_of c e (granted_group (entries older) e i) (entries older)) i number what result k.at k.open_at.found gives ∙ sym k.next

    owner : call_of_act (entries older) e i n ≡ Some may.in_time.call
    owner = subst (λ (m : ℕ). call_of_act (entries older) e i m ≡ Some may.in_time.call) number_is
        (subst (λ (j : Serial). call_of_act (entries older) e j number ≡ Some may.in_time.call) same_inst (subst (λ (y : EpochId). call_of_act (entries older) y inst number ≡ Some may.in_time.call) same_at may.in_time.owner))

    operation_is : what ≡ o
    operation_is = do_op inst i what o (one_want c older k.call (want.Do inst what) (want.Do i o) (subst (λ (y : CallId). Asks c older y (want.Do inst what)) (some_same may.in_time.call k.call (sym owner ∙ k.owner)) may.in_time.asks) k.asks)

-- a step of the call is this operation
op_step : (c : Config) (older : List Line) (e : EpochId) (ss : ℕ) (i : Serial) (n : ℕ) (o : Op) (seen : List ℕ) (k : OpsNow c older e ss i n o seen) (r : Record) → MayTell c older (Shown r) → StepRecord (entries older) r k.call → (result : Outcome) × ActRecord e i n o result older r
op_step c older e ss i n o seen k (says.Act at inst number what result) may step = (result, done_now c older e ss i n o seen k at inst number what result may same_at (do_serial inst i what o wants))
  where
    call_is : may.in_time.call ≡ k.call
    call_is = some_same may.in_time.call k.call (sym may.in_time.owner ∙ step)

    wants : want.Do inst what ≡ want.Do i o
    wants = one_want c older k.call (want.Do inst what) (want.Do i o) (subst (λ (y : CallId). Asks c older y (want.Do inst what)) call_is may.in_time.asks) k.asks

    same_at : at ≡ e
    same_at = one_epoch older at e k.call (subst (λ (y : CallId). IsCallIn (entries older) at y) (some_same may.row.step.call k.call (sym may.row.step.owned ∙ step)) may.row.step.step) k.inside
op_step c older e ss i n o seen k (says.Release at inst file stamp) may step = absurd (do_not_close i inst o (one_want c older k.call (want.Do i o) (want.Close inst) k.asks (subst (λ (y : CallId). Asks c older y (want.Close inst)) (some_same may.in_time.call k.call (sym may.in_time.owner ∙ step)) may.in_time.asks)))
op_step c older e ss i n o seen k (says.Look at call number file what result) may step = absurd (other (one_want c older k.call (want.Look file what) (want.Do i o) (subst (λ (y : CallId). Asks c older y (want.Look file what)) step may.in_time.asks) k.asks))
  where
    other : want.Look file what ≡ want.Do i o → ⊥
    other e = cc
op_step c older e ss i n o seen k (says.Grant at call number inst m file stamp place) may step = absurd (subst (λ (y : Want). IsOpening c y may.in_time.opens.asked may.in_time.opens.it) (one_want c older k.call may.in_time.opens.asks.wanted (want.Do i o) (subst (λ (y : CallId). Asks c older y may.in_time.opens.asks.wanted) step may.in_time.opens.asks.asks) k.asks) may.in_time.opens.asks.opening_is)
op_step c older e ss i n o seen k (says.Refuse at call number inst m file why) may step = absurd (subst (λ (y : Want). IsOpening c y may.in_time.opens.asked may.in_time.opens.it) (one_want c older k.call may.in_time.opens.asks.wanted (want.Do i o) (subst (λ (y : CallId). Asks c older y may.in_time.opens.asks.wanted) step may.in_time.opens.asks.asks) k.asks) may.in_time.opens.asks.opening_is)
op_step c older e ss i n o seen k _ may step = absurd step

pub op_told : (c : Config) (n : ℕ) (x : Told) (older : List Line) → IsFollowed c older → MayTell c older x → OwnersStay c older (More n x older) → (e : EpochId) (ss : ℕ) (i : Serial) (k : ℕ) (o : Op) (seen : List ℕ) → OpsNow c older e ss i k o seen → OpFact c (More n x older) e ss i k o seen
op_told c n x older h may owners e ss i k o seen now = over x may owners (asks_stays c n x older now.call (want.Do i o) h may (now.inside.accepted, now.inside.named) now.asks) (open_stays c older n x e i now.at may (open_named c older e i now.at now.open_at.found) now.open_at.found) (in_stays c n x older e now.call h may now.inside)
  where
    still : (y : Told) → MayTell c older y → OwnersStay c older (More n y older) → IsCallIn (entries (More n y older)) e now.call → (a : AsksStill c older n y now.call (want.Do i o)) (s : StaysOpen c older n y e i now.at) → s.new.work.ops ≡ now.at.work.ops → OpFact c (More n y older) e ss i k o seen
    still y m owners inside a s same = inr (record {
      call = now.call;
      owner = act_owner_stays c older n y m e i k now.call o now.asks now.owner;
      inside = inside;
      asks = a.asks;
      at = s.new;
      open_at = record { found = s.found; place = ap (λ (g : Granted). g.ss) s.grant_same ∙ now.open_at.place };
      next = now.next ∙ ap (λ (m : ℕ). m + 1) (sym same);
      sees = owners.sees e now.call i k o seen now.asks a.asks now.owner now.sees;
    })

    acted : (r : Record) → MayTell c older (Shown r) → (new : Instance) → ActsOn (history c (entries older)) (tree_of c e (granted_group (entries older) e i) (entries older)) e i now.at new r → (result : Outcome) × ActRecord e i k o result older r
    acted (says.Act at inst number what result) m new a = (result, done_now c older e ss i k o seen now at inst number what result m a.0.0 a.0.1)
    acted _ m new a = absurd a

    committed : (t : TreeState) (r : Record) (new : Instance) → CommitsOn t now.at new r → new.work.ops ≡ now.at.work.ops
    committed t (says.Commit f s stamp parents content) new a = ap (λ (y : Instance). y.work.ops) a.2
    committed t _ new a = absurd a

    goes : (r : Record) → MayTell c older (Shown r) → OwnersStay c older (More n (Shown r) older) → IsCallIn (entries (More n (Shown r) older)) e now.call → AsksStill c older n (Shown r) now.call (want.Do i o) → (s : StaysOpen c older n (Shown r) e i now.at) →
        GoesOn (history c (entries older)) (tree_of c e (granted_group (entries older) e i) (entries older)) e i now.at s.new r → OpFact c (More n (Shown r) older) e ss i k o seen
    goes r m owners inside a s (inl same) = still (Shown r) m owners inside a s (ap (λ (y : Instance). y.work.ops) same)
    goes r m owners inside a s (inr (inl acts)) = (let done : (result : Outcome) × ActRecord e i k o result older r = acted r m s.new acts in inl (done.0, inl done.1))
    goes r m owners inside a s (inr (inr commits)) = still (Shown r) m owners inside a s (committed (tree_of c e (granted_group (entries older) e i) (entries older)) r s.new commits)

    ended : (r : Record) → MayTell c older (Shown r) → OwnersStay c older (More n (Shown r) older) → EndsIt e i r → ⊥
    ended (says.Release at inst file stamp) m owners end = owners.alone e i k now.call m.in_time.call o now.asks now.owner (subst (λ (j : Serial). Asks c older m.in_time.call (want.Close j)) end.1 m.in_time.asks)
        (subst (λ (j : Serial). call_of_release (entries older) e j ≡ Some m.in_time.call) end.1 (subst (λ (y : EpochId). call_of_release (entries older) y inst ≡ Some m.in_time.call) end.0 m.in_time.owner))
    ended _ m owners end = absurd end

    over : (y : Told) → MayTell c older y → OwnersStay c older (More n y older) → AsksStill c older n y now.call (want.Do i o) ⊎ StepOf older y now.call → StaysOpen c older n y e i now.at ⊎ Ends e i y → IsCallIn (entries (More n y older)) e now.call → OpFact c (More n y older) e ss i k o seen
    over (Shown r) m owners (inr step) place inside = (let done : (result : Outcome) × ActRecord e i k o result older r = op_step c older e ss i k o seen now r m step in inl (done.0, inl done.1))
    over (Shown r) m owners (inl a) (inl s) inside = goes r m owners inside a s s.goes
    over (Shown r) m owners (inl a) (inr end) inside = absurd (ended r m owners end)
    over y m owners (inl a) (inl s) inside = still y m owners inside a s (ap (λ (z : Instance). z.work.ops) s.goes)
    over _ m owners (inr step) place inside = absurd step
    over _ m owners (inl a) (inr end) inside = absurd end
