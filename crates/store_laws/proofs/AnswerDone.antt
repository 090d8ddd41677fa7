-- Operations are done on an open instance one after another, up to its number.
use Rattle.std.proofs.Common.{◌≡◌, ℕ, ◌+◌, ◌==◌, ◌≤◌, Bool, true, false, ◌&&◌, List, [], ◌∷◌, Option, Some, refl, sym, ◌∙◌, ap, subst, arith, ◌⊎◌, inl, inr}
use Rattle.role_steps.proofs.of_plain_facts.Numbers.{equal}
use Rattle.role_steps.proofs.of_plain_facts.Options.{some_same}
use Rattle.role_steps.proofs.of_plain_facts.Tests.{true_false}
use Rattle.locus_ids.specs.declared.config.Config.{Config}
use Rattle.locus_ids.specs.declared.ids.EpochId.{EpochId}
use Rattle.locus_ids.specs.declared.ids.Serial.{Serial}
use Rattle.commit_graph.specs.declared.history.Version.{Version}
use Rattle.trace_book.specs.declared.operation.Op.{Op}
use Rattle.trace_book.specs.declared.operation.Outcome.{Outcome}
use Rattle.trace_book.specs.declared.record.Record.{Record}
use Rattle.trace_book.specs.declared.record.Record.TheVariants as says
use Rattle.role_steps.specs.Views.{Told, Shown}
use Rattle.the_run.specs.Worlds.{Line}
use Rattle.tree_model.specs.declared.instance.Instance.{Instance}
use Rattle.tree_model.specs.Calls.{granted_to}
use Rattle.tree_model.specs.Given.{gives_act, instance_gives}
use Rattle.tree_model.specs.Histories.{history}
use Rattle.tree_model.specs.Same.{is_given}
use Rattle.tree_model.specs.State.{TreeState, instance_in, is_named}
use Rattle.tree_model.specs.Tree.{tree_of}
use Rattle.tree_model.specs.Working.{result_on}
use Rattle.lawful_trace.specs.TreeRows.{granted_group}
use Rattle.tree_laws.specs.Printed.{entries}
use Rattle.tree_laws.specs.Following.{IsFollowed, MayTell}
use Rattle.tree_laws.specs.Instances.{instance_now}
use Rattle.tree_laws.specs.Past.{ActRecord, Printed, WasDone, WasNamed}
use Rattle.tree_laws.proofs.Grants.{before_record, Had, open_named}
use Rattle.tree_laws.proofs.Kinship.{Ends, GoesOnTold, open_stays, StaysOpen, tree_epoch_is}
use Rattle.tree_laws.proofs.Opened.{ActsOn, CommitsOn, found_named, GrantsIt}
use Rattle.tree_laws.proofs.Owing.{found_every}
use Rattle.tree_laws.proofs.Seeing.{are_granted}
use Rattle.tree_laws.proofs.Orders.ProcessCounted.{acted_more, acts_now}
use Rattle.store_laws.proofs.Holdings.Distinct.{open_now}
use Rattle.store_laws.proofs.Holdings.Released.{released_shut}
use Rattle.store_laws.proofs.AnswerAskers.{With}

-- what is open in a tree was granted to its call
pub open_grant : (c : Config) (t : List Line) → IsFollowed c t → (e : EpochId) (group : ℕ) (i : Serial) (x : Instance) → instance_in (tree_of c e group (entries t)) i ≡ Some x → granted_to (entries t) e i ≡ Some x.grant.call
open_grant c t h e group i x found = subst (λ (j : Serial). granted_to (entries t) e j ≡ Some x.grant.call) (found_named i (tree_of c e group (entries t)).instances x found)
    (found_every (λ (y : Instance). granted_to (entries t) e y.grant.inst ≡ Some y.grant.call) (is_named i) (tree_of c e group (entries t)).instances x found (are_granted c t e group h))

-- what was done was named
pub done_named : (c : Config) (t : List Line) → IsFollowed c t → (e : EpochId) (i : Serial) (n : ℕ) (o : Op) (r : Outcome) → WasDone t e i n o r → WasNamed t e i
done_named c [] h e i n o r k = absurd k
done_named c (x ∷ older) h e i n o r (inr k) = inr (done_named c older h.1 e i n o r k)
done_named c (x ∷ older) h e i n o r (inl k) = inr (over x.told h.0 k)
  where
    over : (y : Told) → MayTell c older y → Printed (ActRecord e i n o r) older y → WasNamed older e i
    over (Shown (says.Act at inst number what gave)) may p = subst (λ (z : EpochId). WasNamed older z i) p.epoch_is (subst (WasNamed older at) p.serial_is (open_named c older at inst may.in_time.at may.in_time.open_at.found))
    over _ may p = absurd p

-- an operation that a tree gives is the next one of its instance
pub act_next : (h : List Version) (t : TreeState) (i : Serial) (n : ℕ) (o : Op) (r : Outcome) (x : Instance) → instance_in t i ≡ Some x → gives_act h t i n o r ≡ true → n ≡ x.work.ops + 1
act_next h t i n o r x found gives = first (n == x.work.ops + 1) (is_given (result_on h t o x) r) refl (subst (λ (z : Option Instance). instance_gives h t n o r z ≡ true) found gives)
  where
    first : (a b : Bool) → (n == x.work.ops + 1) ≡ a → a && b ≡ true → n ≡ x.work.ops + 1
    first true b k both = equal n (x.work.ops + 1) k
    first false b k both = absurd (true_false (sym both))

-- an instance that was named and is open was open before the line
pub open_before : (c : Config) (n : ℕ) (x : Told) (older : List Line) → IsFollowed c older → MayTell c older x → (e : EpochId) (i : Serial) (new : Instance) → WasNamed older e i → instance_now c (With n x older) e i ≡ Some new → (old : Instance) × (instance_now c older e i ≡ Some old)
open_before c n x older h may e i new named found = over x may found
  where
    again : (r : Record) → MayTell c older (Shown r) → GrantsIt e i r → ⊥
    again (says.Grant at call request inst mode f stamp ss) m g = m.in_time.new (subst (λ (y : Serial). WasNamed older at y) (sym g.1) (subst (λ (y : EpochId). WasNamed older y i) (sym g.0) named))
    again _ m g = absurd g

    had : (r : Record) → MayTell c older (Shown r) → (g : ℕ) → Had i (tree_of c e g (entries older)).instances ⊎ GrantsIt (tree_of c e g (entries older)).epoch i r → (old : Instance) × (instance_now c older e i ≡ Some old)
    had r m g (inl w) = (w.0, open_now c older h e g i w.0 w.1)
    had r m g (inr w) = absurd (again r m (subst (λ (y : EpochId). GrantsIt y i r) (tree_epoch_is c e g (entries older)) w))

    over : (z : Told) → MayTell c older z → instance_now c (With n z older) e i ≡ Some new → (old : Instance) × (instance_now c older e i ≡ Some old)
    over (Shown r) m found = had r m (granted_group (record { line = n; what = r } ∷ entries older) e i)
        (before_record (history c (entries older)) (tree_of c e (granted_group (record { line = n; what = r } ∷ entries older) e i) (entries older)) i new r found)
    over z m found = (new, found)

ops_go : (c : Config) (older : List Line) (e : EpochId) (i : Serial) (old new : Instance) (x : Told) → GoesOnTold c older e i old new x → old.work.ops ≤ new.work.ops
ops_go c older e i old new (Shown r) (inl same) = subst (λ (y : Instance). old.work.ops ≤ y.work.ops) (sym same) (omega arith)
ops_go c older e i old new (Shown r) (inr (inl acts)) = over r acts
  where
    over : (r : Record) → ActsOn (history c (entries older)) (tree_of c e (granted_group (entries older) e i) (entries older)) e i old new r → old.work.ops ≤ new.work.ops
    over (says.Act at inst number what result) a = (let more : new.work.ops ≡ old.work.ops + 1 = ap (λ (y : Instance). y.work.ops) a.1 ∙ acted_more (history c (entries older)) (tree_of c e (granted_group (entries older) e i) (entries older)) what result old in omega (arith, more))
    over _ a = absurd a
ops_go c older e i old new (Shown r) (inr (inr commits)) = over r commits
  where
    over : (r : Record) → CommitsOn (tree_of c e (granted_group (entries older) e i) (entries older)) old new r → old.work.ops ≤ new.work.ops
    over (says.Commit f s stamp parents content) a = (let same : new.work.ops ≡ old.work.ops = ap (λ (y : Instance). y.work.ops) a.2 in omega (arith, same))
    over _ a = absurd a
ops_go c older e i old new x same = subst (λ (y : Instance). old.work.ops ≤ y.work.ops) (sym same) (omega arith)

-- it goes on from what it was
pub ops_rise : (c : Config) (n : ℕ) (x : Told) (older : List Line) → IsFollowed c older → MayTell c older x → (e : EpochId) (i : Serial) (old new : Instance) → WasNamed older e i → instance_now c older e i ≡ Some old → instance_now c (With n x older) e i ≡ Some new → old.work.ops ≤ new.work.ops
ops_rise c n x older h may e i old new named was found = over (open_stays c older n x e i old may named was)
  where
    ended : (y : Told) → MayTell c older y → instance_now c (With n y older) e i ≡ Some new → Ends e i y → ⊥
    ended (Shown (says.Release at inst f stamp)) m k end = released_shut c (With n (Shown (says.Release at inst f stamp)) older) (m, h) e i new (inl (record { epoch_is = end.0; serial_is = end.1 })) k
    ended _ m k end = absurd end

    over : StaysOpen c older n x e i old ⊎ Ends e i x → old.work.ops ≤ new.work.ops
    over (inl s) = subst (λ (y : Instance). old.work.ops ≤ y.work.ops) (some_same s.new new (sym s.found ∙ found)) (ops_go c older e i old s.new x s.goes)
    over (inr end) = absurd (ended x may found end)

-- what was done on an open instance has a number up to that of its operations
pub done_low : (c : Config) (t : List Line) → IsFollowed c t → (e : EpochId) (i : Serial) (number : ℕ) (o : Op) (r : Outcome) (x : Instance) → WasDone t e i number o r → instance_now c t e i ≡ Some x → number ≤ x.work.ops
done_low c [] h e i number o r x k found = absurd k
done_low c (y ∷ older) h e i number o r x (inr k) found = (let named : WasNamed older e i = done_named c older h.1 e i number o r k in
    let was : (old : Instance) × (instance_now c older e i ≡ Some old) = open_before c y.number y.told older h.1 h.0 e i x named found in
    let low : number ≤ was.0.work.ops = done_low c older h.1 e i number o r was.0 k was.1 in
    let up : was.0.work.ops ≤ x.work.ops = ops_rise c y.number y.told older h.1 h.0 e i was.0 x named was.1 found in omega (arith, low, up))
done_low c (y ∷ older) h e i number o r x (inl k) found = over y.told h.0 k found
  where
    over : (z : Told) → MayTell c older z → Printed (ActRecord e i number o r) older z → instance_now c (With y.number z older) e i ≡ Some x → number ≤ x.work.ops
    over (Shown (says.Act at inst n what gave)) may p found = last n p.number_is (act_next (history c (entries older)) t inst n what gave may.in_time.at may.in_time.open_at.found may.row.gives)
        (ap (λ (z : Instance). z.work.ops) (some_same x _ (sym there ∙ acts_now c y.number older at inst n what gave may.in_time.at.grant.call may.in_time.at h.1 (open_grant c older h.1 at (granted_group (entries older) at inst) inst may.in_time.at may.in_time.open_at.found) may.in_time.open_at.found)) ∙ acted_more (history c (entries older)) t what gave may.in_time.at)
      where
        t : TreeState
        t = tree_of c at (granted_group (entries older) at inst) (entries older)

        there : instance_now c (With y.number (Shown (says.Act at inst n what gave)) older) at inst ≡ Some x
        there = subst (λ (w : EpochId). instance_now c (With y.number (Shown (says.Act at inst n what gave)) older) w inst ≡ Some x) (sym p.epoch_is) (subst (λ (j : Serial). instance_now c (With y.number (Shown (says.Act at inst n what gave)) older) e j ≡ Some x) (sym p.serial_is) found)

        last : (m : ℕ) → m ≡ number → m ≡ may.in_time.at.work.ops + 1 → x.work.ops ≡ may.in_time.at.work.ops + 1 → number ≤ x.work.ops
        last m a b d = omega (arith, a, b, d)
    over _ may p found = absurd p
