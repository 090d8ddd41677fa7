-- An open make owes its file until it has committed it.
use Rattle.std.proofs.Common.{◌≡◌, ℕ, ◌==◌, Bool, true, false, ◌&&◌, cond, List, [], ◌∷◌, ◌++◌, Option, Some, None, sym, ◌∙◌, ap}
use Rattle.std.specs.List.{AllByRecursion}
use Rattle.locus_ids.specs.declared.config.Config.{Config}
use Rattle.locus_ids.specs.declared.ids.EpochId.{EpochId}
use Rattle.locus_ids.specs.declared.ids.Mode.{Mode}
use Rattle.locus_ids.specs.declared.ids.Mode.TheVariants as mode
use Rattle.locus_ids.specs.declared.ids.Stamp.{Stamp}
use Rattle.commit_graph.specs.declared.history.Version.{Version}
use Rattle.trace_book.specs.Same.{same_epoch}
use Rattle.trace_book.specs.declared.operation.Op.{Op}
use Rattle.trace_book.specs.declared.operation.Op.TheVariants as op
use Rattle.trace_book.specs.declared.operation.Outcome.{Outcome}
use Rattle.trace_book.specs.declared.record.Record.{Record}
use Rattle.trace_book.specs.declared.record.Record.TheVariants as says
use Rattle.file_effects.specs.Effects.{Effect}
use Rattle.file_effects.specs.Works.{begins_owing}
use Rattle.file_effects.specs.declared.work.Work.{Work}
use Rattle.tree_model.specs.declared.instance.Instance.{Instance}
use Rattle.tree_model.specs.Folds.{Trace}
use Rattle.tree_model.specs.Histories.{history, stamped_content}
use Rattle.tree_model.specs.Lists.{change_first}
use Rattle.tree_model.specs.State.{TreeState, is_granted_here, is_inside, is_make, is_named, is_writer}
use Rattle.tree_model.specs.Tree.{acted, grant_of, joined, left, next, once_acted, once_committed, opened, released, tree_of, without_make}
use Rattle.tree_model.specs.Working.{effect_on, operated_by, work_after}
use Rattle.tree_laws.proofs.Orders.Lists.{all_changed, all_more, all_without}
use Rattle.store_laws.proofs.Effects.{GoesOn, aborted_on, counted_on, operated_on}

-- ---- an operation ----

operated_goes : (m : Mode) (r : Outcome) (e : Option Effect) (w : Work) → GoesOn m w (operated_by r e w)
operated_goes m r None w = counted_on m w
operated_goes m r (Some e) w = operated_on m e r w

acted_goes : (h : List Version) (t : TreeState) (o : Op) (r : Outcome) (x : Instance) → GoesOn x.grant.mode x.work (work_after h t o r x)
acted_goes h t op.Commit r x = counted_on x.grant.mode x.work
acted_goes h t op.Abort r x = aborted_on x.grant.mode (stamped_content h x.grant.file x.work.last) x.work
acted_goes h t op.Mend r x = operated_goes x.grant.mode r (effect_on h t op.Mend x) x.work
acted_goes h t (op.Probe name) r x = operated_goes x.grant.mode r (effect_on h t (op.Probe name) x) x.work
acted_goes h t (op.Find component) r x = operated_goes x.grant.mode r (effect_on h t (op.Find component) x) x.work
acted_goes h t (op.Insert name ino kind) r x = operated_goes x.grant.mode r (effect_on h t (op.Insert name ino kind) x) x.work
acted_goes h t (op.Remove name ino) r x = operated_goes x.grant.mode r (effect_on h t (op.Remove name ino) x) x.work
acted_goes h t (op.Rename component name) r x = operated_goes x.grant.mode r (effect_on h t (op.Rename component name) x) x.work
acted_goes h t op.Empty r x = operated_goes x.grant.mode r (effect_on h t op.Empty x) x.work
acted_goes h t (op.Read at len) r x = operated_goes x.grant.mode r (effect_on h t (op.Read at len) x) x.work
acted_goes h t (op.Write at bytes) r x = operated_goes x.grant.mode r (effect_on h t (op.Write at bytes) x) x.work
acted_goes h t (op.Cut len) r x = operated_goes x.grant.mode r (effect_on h t (op.Cut len) x) x.work

-- ---- open instances ----

abbrev pub IsOwed : Instance → Type 0
IsOwed x = x.grant.mode ≡ mode.Make → x.work.committed ≡ None → x.work.owes ≡ true

acted_owed : (h : List Version) (t : TreeState) (o : Op) (r : Outcome) (x : Instance) → IsOwed x → IsOwed (once_acted h t o r x)
acted_owed h t o r x k = λ make none. (let goes : GoesOn x.grant.mode x.work (work_after h t o r x) = acted_goes h t o r x in let before : x.work.committed ≡ None = sym goes.committed_is ∙ none in goes.owes_is (ap begins_owing make) before (k make before))

committed_owed : (stamp : Stamp) (x : Instance) → IsOwed x → IsOwed (once_committed stamp x)
committed_owed stamp x k = λ make none. absurd (some none)
  where
    some : ◌≡◌ {A = Option Stamp} (Some stamp) None → ⊥
    some e = cc

module _ (h : List Version) (t : TreeState) (old : AllByRecursion IsOwed t.instances) where
  owed_if : (b : Bool) (u : TreeState) → AllByRecursion IsOwed u.instances → AllByRecursion IsOwed (cond b u t).instances
  owed_if true u k = k
  owed_if false u k = old

  next_owed : (r : Record) → AllByRecursion IsOwed (next h r t).instances
  next_owed (says.Grant d call request i m f stamp ss) = over (same_epoch d t.epoch) (f.group == t.group)
    where
      over : (a b : Bool) → AllByRecursion IsOwed (cond a (record t { grants = t.grants ++ grant_of t call i m f ss ∷ []; instances = cond b (t.instances ++ opened h (grant_of t call i m f ss) stamp ∷ []) t.instances }) t).instances
      over true true = all_more IsOwed t.instances (opened h (grant_of t call i m f ss) stamp) old (λ make none. ap begins_owing make)
      over true false = old
      over false b = old
  next_owed (says.Join s d m) = over (same_epoch d t.epoch)
    where
      over : (b : Bool) → AllByRecursion IsOwed (cond b (joined s m t) (left s t)).instances
      over true = old
      over false = old
  next_owed (says.Start d k copies) = owed_if (same_epoch d t.epoch && (k == t.group)) (record t { started = true }) old
  next_owed (says.Refuse d call request i m f why) = owed_if (same_epoch d t.epoch && ((f.group == t.group) && is_make m)) (record t { makes = without_make call t.makes }) old
  next_owed (says.Act d i n o result) = owed_if (same_epoch d t.epoch && is_granted_here t i) (acted h i o result t) (all_changed IsOwed (is_named i) (once_acted h t o result) (acted_owed h t o result) t.instances old)
  next_owed (says.Commit f s stamp parents content) = over (is_inside t s)
    where
      over : (b : Bool) → AllByRecursion IsOwed (cond b (change_first (is_writer f s) (once_committed stamp) t.instances) t.instances)
      over true = all_changed IsOwed (is_writer f s) (once_committed stamp) (committed_owed stamp) t.instances old
      over false = old
  next_owed (says.Release d i f stamp) = owed_if (same_epoch d t.epoch && (f.group == t.group)) (released i f stamp t) (all_without IsOwed (is_named i) t.instances old)
  next_owed r = old

pub all_owed : (c : Config) (e : EpochId) (g : ℕ) (trace : Trace) → AllByRecursion IsOwed (tree_of c e g trace).instances
all_owed c e g [] = tt
all_owed c e g (r ∷ before) = next_owed (history c before) (tree_of c e g before) (all_owed c e g before) r.what
