-- What an operation isn't carried out on is what the tree tells nothing of.
use Rattle.std.proofs.Common.{◌≡◌, ℕ, List, ◌⊎◌, inl, inr, Option, Result, Err, sym, subst, ◌∙◌}
use Rattle.std.specs.Prelude.{map}
use Rattle.commit_graph.specs.declared.history.Version.{Version}
use Rattle.commit_graph.specs.Versions.{content_of}
use Rattle.trace_book.specs.declared.operation.Op.{Op}
use Rattle.trace_book.specs.declared.operation.Op.TheVariants as op
use Rattle.file_effects.specs.declared.work.Work.{Work}
use Rattle.operation_effects.specs.Joinable.{AreJoinable, CanWorkOn, IsMemory}
use Rattle.operation_effects.specs.declared.fault.EffectFault.{EffectFault}
use Rattle.operation_effects.specs.declared.fault.EffectFault.TheVariants as effect
use Rattle.tree_model.specs.declared.instance.Instance.{Instance}
use Rattle.tree_model.specs.State.{TreeState, kept_of}
use Rattle.tree_acts.specs.Acting.{IsPlain}
use Rattle.tree_acts.specs.Unfit.{IsTooLong, IsUnfit, fault_of_effect}
use Rattle.tree_acts.specs.declared.fault.ActFault.{ActFault}
use Rattle.tree_acts.specs.declared.fault.ActFault.TheVariants as fault

same_fault : {A : Type 0} (a b : ActFault) → ◌≡◌ {A = Result A ActFault} (Err a) (Err b) → a ≡ b
same_fault a b e = cc

never_memory : fault.NoMemory ≡ fault.Unfit → ⊥
never_memory e = cc

by_effect : (refused : EffectFault) {A : Type 0} → fault_of_effect refused ≡ fault.Unfit → (A → IsMemory refused) → ¬ A
by_effect effect.Unfit e fits = fits
by_effect effect.NoMemory e fits = absurd (never_memory e)

-- an operation that isn't carried out, for another cause than memory, can't work on the contents
pub refused_so : (told : ActFault) (refused : EffectFault) (w : Work) (o : Op) (contents : List (List ℕ)) → told ≡ fault_of_effect refused → (CanWorkOn o contents → IsMemory refused)
    → ◌≡◌ {A = Result (Option Work) ActFault} (Err told) (Err fault.Unfit) → IsTooLong w ⊎ ¬ CanWorkOn o contents
refused_so told refused w o contents is fits e = inr (by_effect refused (sym is ∙ same_fault told fault.Unfit e) fits)

-- only a mend works on versions that are kept
only_too_long : {A : Type 0} → A ⊎ ¬ Unit {0} → A
only_too_long (inl a) = a
only_too_long (inr never) = absurd (never tt)

module _ (h : List Version) (t : TreeState) (x : Instance) (contents : List (List ℕ)) where
  pub plain_unfit : (o : Op) → IsPlain o → IsTooLong x.work ⊎ ¬ CanWorkOn o contents → IsUnfit h t o x
  plain_unfit (op.Probe name) p u = only_too_long u
  plain_unfit (op.Find component) p u = only_too_long u
  plain_unfit (op.Insert name ino kind) p u = only_too_long u
  plain_unfit (op.Remove name ino) p u = absurd p
  plain_unfit (op.Rename component name) p u = only_too_long u
  plain_unfit op.Empty p u = only_too_long u
  plain_unfit (op.Read at len) p u = only_too_long u
  plain_unfit (op.Write at bytes) p u = only_too_long u
  plain_unfit (op.Cut len) p u = only_too_long u
  plain_unfit op.Commit p u = absurd p
  plain_unfit op.Abort p u = absurd p
  plain_unfit op.Mend p u = absurd p

  pub removal_unfit : (o : Op) (name : List ℕ) (ino : ℕ) → o ≡ op.Remove name ino → IsTooLong x.work ⊎ ¬ CanWorkOn o contents → IsUnfit h t o x
  removal_unfit o name ino is =
      subst (λ (p : Op). IsTooLong x.work ⊎ ¬ CanWorkOn p contents → IsUnfit h t p x) (sym is) only_too_long

  pub mend_unfit : (o : Op) → o ≡ op.Mend → contents ≡ map (content_of h x.grant.file) (kept_of h t x.grant.file) → IsTooLong x.work ⊎ ¬ CanWorkOn o contents → IsUnfit h t o x
  mend_unfit o is kept =
      subst (λ (p : Op). IsTooLong x.work ⊎ ¬ CanWorkOn p contents → IsUnfit h t p x) (sym is)
      (subst (λ (cs : List (List ℕ)). IsTooLong x.work ⊎ ¬ AreJoinable contents → IsTooLong x.work ⊎ ¬ AreJoinable cs) kept (λ u. u))
