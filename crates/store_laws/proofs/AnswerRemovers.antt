-- What is open in a tree was granted there; and no call on a descriptor removes a name, so who does is the call that opened the
-- directory.
use Rattle.std.proofs.Common.{◌≡◌, ℕ, Bool, true, false, cond, List, [], ◌∷◌, Some, None, refl, sym, ◌∙◌, ap, subst, ◌⊎◌, inl, inr}
use Rattle.role_steps.proofs.of_plain_facts.Options.{some_same}
use Rattle.role_steps.proofs.of_plain_facts.Tests.{true_false}
use Rattle.locus_ids.specs.declared.config.Config.{Config}
use Rattle.locus_ids.specs.declared.ids.CallId.{CallId}
use Rattle.locus_ids.specs.declared.ids.EpochId.{EpochId}
use Rattle.locus_ids.specs.declared.ids.Serial.{Serial}
use Rattle.trace_book.specs.declared.call.Call.{Call}
use Rattle.trace_book.specs.declared.call.Call.TheVariants as call
use Rattle.trace_book.specs.declared.descriptor.Beginning.{Beginning}
use Rattle.trace_book.specs.declared.descriptor.Beginning.TheVariants as begins
use Rattle.trace_book.specs.declared.operation.Op.{Op}
use Rattle.trace_book.specs.declared.operation.Op.TheVariants as op
use Rattle.call_rules.specs.declared.answer.Answer.TheVariants as answer
use Rattle.call_rules.specs.declared.want.Want.{Want}
use Rattle.call_rules.specs.declared.want.Want.TheVariants as want
use Rattle.call_rules.specs.Opening.{op_wants, close_wants, uses_wants}
use Rattle.call_rules.specs.Scripts.{begun_wants}
use Rattle.the_run.specs.Worlds.{Line}
use Rattle.tree_model.specs.declared.instance.Instance.{Instance}
use Rattle.tree_model.specs.Calls.{granted_to}
use Rattle.tree_model.specs.State.{instance_in, is_granted_here}
use Rattle.tree_model.specs.Tree.{tree_of}
use Rattle.lawful_trace.specs.Progress.{Answers}
use Rattle.lawful_trace.specs.Tables.{begun, call_of_act, has_named, unless_named, use_number, uses_of}
use Rattle.lawful_trace.specs.TreeRows.{granted_group}
use Rattle.tree_laws.specs.Printed.{entries}
use Rattle.tree_laws.specs.Calls.{Asks, log}
use Rattle.tree_laws.specs.Following.{IsFollowed}
use Rattle.tree_laws.specs.Instances.{instance_now}
use Rattle.tree_laws.specs.Serials.{asked_now}
use Rattle.tree_laws.proofs.Alone.{asking, numbered_every}
use Rattle.tree_laws.proofs.Answered.{asker_unnamed}
use Rattle.tree_laws.proofs.Descriptors.{are_users, IsUser}
use Rattle.tree_laws.proofs.Orders.ProcessBegun.{comes_from}
use Rattle.tree_laws.proofs.Orders.ProcessGrantedHere.{granted_here}
use Rattle.store_laws.proofs.Holdings.Distinct.{open_group}
use Rattle.store_laws.proofs.AnswerAskers.{op_had}
use Rattle.store_laws.proofs.AnswerDone.{open_grant}
use Rattle.store_laws.proofs.AnswerScripting.{asked_so}

-- ---- what is open is found by its grant ----

pub open_here : (c : Config) (t : List Line) → IsFollowed c t → (e : EpochId) (group : ℕ) (i : Serial) (x : Instance) → instance_in (tree_of c e group (entries t)) i ≡ Some x → is_granted_here (tree_of c e group (entries t)) i ≡ true
open_here c t h e group i x found = subst (λ (g : ℕ). is_granted_here (tree_of c e g (entries t)) i ≡ true) (open_group c t h e group i x found) (granted_here c t h e i x.grant.call (open_grant c t h e group i x found))

-- ---- what a call on a descriptor asks ----

-- it removes no name
abbrev KeepsNames : Want → Type 0
KeepsNames (want.Do i (op.Remove name ino)) = ⊥
KeepsNames _ = Unit {0}

op_keeps : (i : Serial) (o : Op) (xs : Answers) → KeepsNames (want.Do i o) → KeepsNames (op_wants i o xs)
op_keeps i o [] k = k
op_keeps i o (answer.Did result ∷ []) k = tt
op_keeps i o (answer.Did result ∷ (a ∷ xs)) k = tt
op_keeps i o (answer.Refused why ∷ []) k = tt
op_keeps i o (answer.Refused why ∷ (a ∷ xs)) k = tt
op_keeps i o (_ ∷ xs) k = tt

close_keeps : (i : Serial) (xs : Answers) → KeepsNames (close_wants i xs)
close_keeps i [] = tt
close_keeps i (answer.Ended stamp ∷ []) = tt
close_keeps i (answer.Ended stamp ∷ (a ∷ xs)) = tt
close_keeps i (answer.Refused why ∷ []) = tt
close_keeps i (answer.Refused why ∷ (a ∷ xs)) = tt
close_keeps i (_ ∷ xs) = tt

uses_keep : (words : Call) (i : Serial) (xs : Answers) → KeepsNames (uses_wants words i xs)
uses_keep (call.Read fd at len) i xs = op_keeps i (op.Read at len) xs tt
uses_keep (call.Write fd at bytes) i xs = op_keeps i (op.Write at bytes) xs tt
uses_keep (call.Cut fd len) i xs = op_keeps i (op.Cut len) xs tt
uses_keep (call.Commit fd) i xs = op_keeps i op.Commit xs tt
uses_keep (call.Abort fd) i xs = op_keeps i op.Abort xs tt
uses_keep (call.Close fd) i xs = close_keeps i xs
uses_keep _ i xs = tt

-- a call on a descriptor asks to remove no name
pub asked_keeps : (c : Config) (t : List Line) (d : CallId) (e : EpochId) (i : Serial) → begun (entries t) d ≡ Some (begins.Uses e i) → KeepsNames (asked_now c t d)
asked_keeps c t d e i starts = asked_so KeepsNames (λ r. tt) tt c t d (λ w b named at. subst (λ (z : Beginning). KeepsNames (begun_wants c.mounts None w.words z (log t d))) (some_same (begins.Uses e i) b (sym starts ∙ at)) (uses_keep w.words i (log t d)))

-- ---- who removes a name ----

pub remover_opened : (c : Config) (t : List Line) → IsFollowed c t → (e : EpochId) (i : Serial) (x : Instance) (d : CallId) (number : ℕ) (name : List ℕ) (ino : ℕ) → instance_now c t e i ≡ Some x → call_of_act (entries t) e i number ≡ Some d → Asks c t d (want.Do i (op.Remove name ino)) → d ≡ x.grant.call
remover_opened c t h e i x d number name ino found owner asks = over (has_named (entries t) x.grant.call) refl
  where
    granted : granted_to (entries t) e i ≡ Some x.grant.call
    granted = open_grant c t h e (granted_group (entries t) e i) i x found

    owned : (b : Bool) → has_named (entries t) x.grant.call ≡ b → cond b (use_number (uses_of (entries t) e i) number) (Some x.grant.call) ≡ Some d
    owned b k = ap (λ (z : Bool). cond z (use_number (uses_of (entries t) e i) number) (Some x.grant.call)) (sym k) ∙ (sym (ap (unless_named (entries t) (use_number (uses_of (entries t) e i) number)) granted) ∙ owner)

    -- who uses it by a descriptor was granted nothing, and removes nothing
    used : IsUser (entries t) e i d → (granted_to (entries t) e i ≡ Some d) ⊎ (begun (entries t) d ≡ Some (begins.Uses e i)) → ⊥
    used u (inl g) = true_false (sym (subst (λ (z : CallId). has_named (entries t) z ≡ true) (some_same u.for.granted d (sym u.for.is_granted ∙ g)) u.for.answered) ∙ asker_unnamed c t d h (asking c t d (want.Do i (op.Remove name ino)) asks))
    used u (inr b) = subst KeepsNames asks.asked (asked_keeps c t d e i b)

    over : (b : Bool) → has_named (entries t) x.grant.call ≡ b → d ≡ x.grant.call
    over false k = sym (some_same x.grant.call d (owned false k))
    over true k = (let u : IsUser (entries t) e i d = numbered_every (IsUser (entries t) e i) (uses_of (entries t) e i) number d (are_users c t h e i).uses (owned true k) in
        absurd (used u (comes_from c t h e d i u.inside (op_had c t d i (op.Remove name ino) h (u.inside.accepted, u.inside.named) asks.asked))))
