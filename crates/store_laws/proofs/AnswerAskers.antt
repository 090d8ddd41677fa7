-- Who asks something of an instance is one call of its epoch at a time; and a line at which a call neither is accepted nor turns
-- leaves what it asks.
use Rattle.std.proofs.Common.{◌≡◌, ℕ, List, ◌∷◌, Some, true, sym, ◌∙◌, subst, ◌⊎◌, inl, inr}
use Rattle.role_steps.proofs.of_plain_facts.Options.{some_same}
use Rattle.role_steps.proofs.of_plain_facts.Tests.{true_false}
use Rattle.locus_ids.specs.declared.config.Config.{Config}
use Rattle.locus_ids.specs.declared.ids.CallId.{CallId}
use Rattle.locus_ids.specs.declared.ids.EpochId.{EpochId}
use Rattle.locus_ids.specs.declared.ids.Serial.{Serial}
use Rattle.trace_book.specs.declared.call.Call.{Call}
use Rattle.trace_book.specs.declared.descriptor.Beginning.TheVariants as begins
use Rattle.trace_book.specs.declared.operation.Op.{Op}
use Rattle.trace_book.specs.declared.record.Record.TheVariants as says
use Rattle.call_rules.specs.declared.want.Want.TheVariants as want
use Rattle.role_steps.specs.Views.{Told, Shown}
use Rattle.the_run.specs.Worlds.{Line}
use Rattle.tree_model.specs.Calls.{granted_to}
use Rattle.lawful_trace.specs.Tables.{begun, has_named}
use Rattle.lawful_trace.specs.TreeRows.{IsCallIn}
use Rattle.tree_laws.specs.Printed.{entries}
use Rattle.tree_laws.specs.Calls.{heard, is_request, log, tries}
use Rattle.tree_laws.specs.Following.{IsFollowed, MayTell}
use Rattle.tree_laws.specs.Holding.{has_instances, IsOf}
use Rattle.tree_laws.specs.Serials.{asked_now}
use Rattle.tree_laws.proofs.Alone.{one_asks}
use Rattle.tree_laws.proofs.Answered.{asker_unnamed}
use Rattle.tree_laws.proofs.Asking.{Turns}
use Rattle.tree_laws.proofs.Awaiting.{named_before, turn_clear}
use Rattle.tree_laws.proofs.Counting.{asked_same}
use Rattle.tree_laws.proofs.Descriptors.{IsUser}
use Rattle.tree_laws.proofs.Fresh.{IsNamed}
use Rattle.tree_laws.proofs.OfOwn.{asks_of_own}
use Rattle.tree_laws.proofs.Orders.ProcessBegun.{comes_from}
use Rattle.tree_laws.proofs.Orders.ProcessCurrent.{same_or_turns}
use Rattle.tree_laws.proofs.Orders.ProcessHad.{begun_user}
use Rattle.tree_laws.proofs.Orders.ProcessOperations.{accept_turn}

abbrev pub With : ℕ → Told → List Line → List Line
With n x older = record { number = n; told = x } ∷ older

-- ---- who asks ----

-- a call that asks an operation of an instance has it
pub op_had : (c : Config) (t : List Line) (d : CallId) (i : Serial) (o : Op) → IsFollowed c t → IsNamed (entries t) d → asked_now c t d ≡ want.Do i o → has_instances c t d i ≡ true
op_had c t d i o h named asked = subst (IsOf (has_instances c t d)) asked (asks_of_own c t d h named)

-- and so has one that asks its close
pub close_had : (c : Config) (t : List Line) (d : CallId) (i : Serial) → IsFollowed c t → IsNamed (entries t) d → asked_now c t d ≡ want.Close i → has_instances c t d i ≡ true
close_had c t d i h named asked = subst (IsOf (has_instances c t d)) asked (asks_of_own c t d h named)

-- of two calls of an epoch that ask something and have an instance each is the other
pub one_has : (c : Config) (t : List Line) (e : EpochId) (i : Serial) (d other : CallId) → IsFollowed c t → IsCallIn (entries t) e d → IsCallIn (entries t) e other → is_request (asked_now c t d) ≡ true → is_request (asked_now c t other) ≡ true →
    has_instances c t d i ≡ true → has_instances c t other i ≡ true → d ≡ other
one_has c t e i d other h inside within asks others has had = over (comes_from c t h e d i inside has) (comes_from c t h e other i within had)
  where
    -- who was granted it asks nothing more, once a descriptor has named it
    mixed : (k user : CallId) → is_request (asked_now c t k) ≡ true → granted_to (entries t) e i ≡ Some k → IsUser (entries t) e i user → ⊥
    mixed k user asks g u = true_false (sym (subst (λ (z : CallId). has_named (entries t) z ≡ true) (some_same u.for.granted k (sym u.for.is_granted ∙ g)) u.for.answered) ∙ asker_unnamed c t k h asks)

    over : (granted_to (entries t) e i ≡ Some d) ⊎ (begun (entries t) d ≡ Some (begins.Uses e i)) → (granted_to (entries t) e i ≡ Some other) ⊎ (begun (entries t) other ≡ Some (begins.Uses e i)) → d ≡ other
    over (inl x) (inl y) = some_same d other (sym x ∙ y)
    over (inl x) (inr y) = absurd (mixed d other asks x (begun_user c t e i other h within y))
    over (inr x) (inl y) = absurd (mixed other d others y (begun_user c t e i d h inside x))
    over (inr x) (inr y) = one_asks c t e i d other h (begun_user c t e i d h inside x) (begun_user c t e i other h within y) asks others

-- ---- a line ----

-- the call was accepted before the line, and takes nothing with it
pub record Rests (c : Config) (n : ℕ) (x : Told) (older : List Line) (d : CallId) : Type 0 where
  pub named : IsNamed (entries older) d
  pub log_same : log (With n x older) d ≡ log older d
  pub asked : asked_now c (With n x older) d ≡ asked_now c older d

-- or nothing waits for it after the line
pub rests_or_clear : (c : Config) (n : ℕ) (x : Told) (older : List Line) (d : CallId) → IsFollowed c older → MayTell c older x → IsNamed (entries (With n x older)) d → Rests c n x older d ⊎ (heard c (With n x older) d ≡ log (With n x older) d)
rests_or_clear c n x older d h may named = named_before c n x older d (Rests c n x older d ⊎ (heard c (With n x older) d ≡ log (With n x older) d)) may new old named
  where
    new : (s process : ℕ) (words : Call) → x ≡ Shown (says.Accept s process d words) → Rests c n x older d ⊎ (heard c (With n x older) d ≡ log (With n x older) d)
    new s process words is = inr (subst (λ (y : Told). heard c (With n y older) d ≡ log (With n y older) d) (sym is) (accept_turn c n s process d words older (record { us = 0; serial = 0 }) h (subst (MayTell c older) is may)).clear)

    old : IsNamed (entries older) d → Rests c n x older d ⊎ (heard c (With n x older) d ≡ log (With n x older) d)
    old was = over (same_or_turns n x older d)
      where
        over : ((log (With n x older) d ≡ log older d) × (tries (With n x older) d ≡ tries older d)) ⊎ Turns x d → Rests c n x older d ⊎ (heard c (With n x older) d ≡ log (With n x older) d)
        over (inl k) = inl (record { named = was; log_same = k.0; asked = asked_same c older n x d h may was k.0 })
        over (inr turn) = inr (turn_clear c n x older d may turn)
