-- Epochs in which something is told were formed; which tree a record is of; and the process of a call.
use Rattle.std.proofs.Common.{◌≡◌, ℕ, true, false, Option, Some, None, refl, sym, ap, ◌∙◌, arith}
use Rattle.std.specs.Prelude.{sum_by}
use Rattle.std.specs.List.{find, list_any}
use Rattle.std.specs.Option.{option_map}
use Rattle.locus_ids.specs.declared.config.Config.{Config}
use Rattle.locus_ids.specs.declared.ids.EpochId.{EpochId}
use Rattle.locus_ids.specs.declared.ids.CallId.{CallId}
use Rattle.trace_book.specs.Same.{same_epoch}
use Rattle.tree_model.specs.declared.accepted.Waiting.{Waiting}
use Rattle.tree_model.specs.Calls.{call_named}
use Rattle.tree_model.specs.Epochs.{epoch_of, is_in, has_joined, members_of}
use Rattle.tree_model.specs.Folds.{Trace}
use Rattle.tree_model.specs.Packs.{sync_site}
use Rattle.tree_model.specs.State as state
use Rattle.tree_model.specs.Tree.{tree_of}
use Rattle.tree_model.specs.Working.{list_of}
use Rattle.promises.specs.of_lawful_trace.TreeRows.{is_served, has_joined_some}
use Rattle.promises.specs.Past.{Past, Epoch, CallSoFar, is_number}
use Rattle.promises.specs.After.{is_id, process_of}
use Rattle.past_laws.specs.Agreement.{EpochsAgree, CallsAgree, waiting_as}
use Rattle.past_laws.proofs.Names.{false_true, none_some, epoch_own, epoch_turned}
use Rattle.past_laws.proofs.TreesAt.{is_formed, formed_by}
use Rattle.past_laws.proofs.TreesFolds.{epoch_is, calls_are, accepted_from, inside_joined}
use Rattle.past_laws.proofs.TreesLists.{filter_one, found_any}

-- Formed epochs.

pub formed_joined : (c : Config) (before : Trace) (p : Past) → EpochsAgree c before p → (site : ℕ) (e : EpochId) → has_joined before site e ≡ true → is_formed p e ≡ true
formed_joined c before p k site e h = formed_by p e (λ (t : Epoch). is_number t.joined site) refl (k.joined e site ∙ h)

pub formed_inside : (c : Config) (before : Trace) (p : Past) → EpochsAgree c before p → (site : ℕ) (e : EpochId) → is_in (epoch_of before site) e ≡ true → is_formed p e ≡ true
formed_inside c before p k site e h = formed_joined c before p k site e (inside_joined before site e h)

pub formed_served : (c : Config) (before : Trace) (p : Past) → EpochsAgree c before p → (e : EpochId) (group : ℕ) → is_served c before e group ≡ true → is_formed p e ≡ true
formed_served c before p k e group h = at (sync_site c group (members_of before e)) h
  where
    at : (o : Option ℕ) → has_joined_some before e o ≡ true → is_formed p e ≡ true
    at None j = false_true j
    at (Some site) j = formed_joined c before p k site e j

-- Which tree a record is of.

pub is_own : (c : Config) (e : EpochId) (group : ℕ) (before : Trace) → same_epoch e (tree_of c e group before).epoch ≡ true
is_own c e group before = ap (same_epoch e) (epoch_is c e group before) ∙ epoch_own e

pub is_other : (c : Config) (a e : EpochId) (group : ℕ) (before : Trace) → same_epoch e a ≡ false → same_epoch a (tree_of c e group before).epoch ≡ false
is_other c a e group before h = ap (same_epoch a) (epoch_is c e group before) ∙ (epoch_turned a e ∙ h)

-- Calls.

pub named_any : (c : Config) (before : Trace) (p : Past) → CallsAgree c before p → (id : CallId) (w : Waiting) → call_named before id ≡ Some w → list_any (is_id id) p.calls ≡ true
named_any c before p k id w h = at (find (is_id id) p.calls) refl
  where
    at : (o : Option CallSoFar) → find (is_id id) p.calls ≡ o → list_any (is_id id) p.calls ≡ true
    at None e = none_some w (ap (option_map waiting_as) (sym e) ∙ (k.named id ∙ h))
    at (Some x) e = found_any (is_id id) p.calls x e

pub process_is : (c : Config) (before : Trace) (p : Past) → CallsAgree c before p → (e : EpochId) (group : ℕ) (id : CallId) → process_of p id ≡ state.process_of (state.call_in (tree_of c e group before).calls id)
process_is c before p k e group id = ap (sum_by (λ (x : CallSoFar). x.process)) (filter_one (is_id id) p.calls (k.once id))
    ∙ (at (find (is_id id) p.calls) ∙ sym (ap state.process_of (calls_are c e group before id ∙ ap (option_map accepted_from) (sym (k.named id)))))
  where
    at : (o : Option CallSoFar) → sum_by (λ (x : CallSoFar). x.process) (list_of o) ≡ state.process_of (option_map accepted_from (option_map waiting_as o))
    at None = refl
    at (Some x) = omega arith
