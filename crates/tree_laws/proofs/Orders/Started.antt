-- Instances are open only where their group has started.
use Rattle.std.proofs.Common.{◌≡◌, ℕ, ◌==◌, Bool, true, false, ◌&&◌, cond, List, [], ◌∷◌, ◌++◌, Option, Some, refl, ◌∙◌, subst}
use Rattle.std.specs.List.{AllByRecursion}
use Rattle.plain_facts.proofs.Numbers.{equal}
use Rattle.plain_facts.proofs.Tests.{and_first}
use Rattle.locus_ids.specs.declared.config.Config.{Config}
use Rattle.locus_ids.specs.declared.ids.CallId.{CallId}
use Rattle.locus_ids.specs.declared.ids.EpochId.{EpochId}
use Rattle.locus_ids.specs.declared.ids.FileId.{FileId}
use Rattle.locus_ids.specs.declared.ids.Mode.{Mode}
use Rattle.locus_ids.specs.declared.ids.Serial.{Serial}
use Rattle.locus_ids.specs.declared.ids.Stamp.{Stamp}
use Rattle.commit_graph.specs.declared.history.Version.{Version}
use Rattle.trace_book.specs.Same.{same_epoch}
use Rattle.trace_book.specs.declared.record.Record.{Record}
use Rattle.trace_book.specs.declared.record.Record.TheVariants as says
use Rattle.tree_model.specs.declared.instance.Instance.{Instance}
use Rattle.tree_model.specs.Folds.{Trace}
use Rattle.tree_model.specs.Given.{gives_grant}
use Rattle.tree_model.specs.Histories.{history}
use Rattle.tree_model.specs.Lists.{change_first}
use Rattle.tree_model.specs.State.{TreeState, instance_in, is_granted_here, is_inside, is_make, is_named, is_writer}
use Rattle.tree_model.specs.Tree.{acted, grant_of, granted, joined, left, next, once_acted, once_committed, opened, released, tree_of, without_make}
use Rattle.lawful_trace.specs.Lawful.{MayCome}
use Rattle.tree_laws.specs.Following.{RowsAreLawful}
use Rattle.tree_laws.proofs.Names.{same_epoch_eq}
use Rattle.tree_laws.proofs.Orders.Alone.{tree_is, tree_named}
use Rattle.tree_laws.proofs.Orders.Lists.{all_changed, all_found, all_more, all_then, all_without}

-- each open instance has the start of its group behind it
abbrev pub AreStarted : TreeState → Type 0
AreStarted t = AllByRecursion (λ (x : Instance). t.started ≡ true) t.instances

if_started : (b : Bool) (u t : TreeState) → AreStarted u → AreStarted t → AreStarted (cond b u t)
if_started true u t a z = a
if_started false u t a z = z

module _ (c : Config) (e : EpochId) (group : ℕ) (before : Trace) (old : AreStarted (tree_of c e group before)) where
  abbrev t : TreeState
  t = tree_of c e group before

  abbrev h : List Version
  h = history c before

  given_started : (d : EpochId) (call : CallId) (i : Serial) (m : Mode) (f : FileId) (stamp : Option Stamp) (ss : ℕ) → gives_grant h (tree_of c d f.group before) call i m f stamp ss ≡ true → same_epoch d t.epoch ≡ true → (f.group == t.group) ≡ true → t.started ≡ true
  given_started d call i m f stamp ss gives same in_group =
      let named = tree_named c e group before in
      let is : tree_of c d f.group before ≡ t = tree_is c e d group f.group before (same_epoch_eq d t.epoch same ∙ named.0) (equal f.group t.group in_group ∙ named.1) in
      and_first t.started _ (subst (λ (u : TreeState). gives_grant h u call i m f stamp ss ≡ true) is gives)

  next_started : (r : Record) → MayCome c before r → AreStarted (next h r t)
  next_started (says.Start d k copies) may = if_started (same_epoch d t.epoch && (k == t.group)) (record t { started = true }) t (all_then (λ (x : Instance). t.started ≡ true) (λ (x : Instance). true ≡ true) (λ x s. refl) t.instances old) old
  next_started (says.Join s d m) may = if_started (same_epoch d t.epoch) (joined s m t) (left s t) old old
  next_started (says.Grant d call request i m f stamp ss) may = over (same_epoch d t.epoch) (λ b. given_started d call i m f stamp ss may.gives b)
    where
      inner : (b : Bool) → (b ≡ true → t.started ≡ true) → AllByRecursion (λ (x : Instance). t.started ≡ true) (cond b (t.instances ++ opened h (grant_of t call i m f ss) stamp ∷ []) t.instances)
      inner true s = all_more (λ (x : Instance). t.started ≡ true) t.instances (opened h (grant_of t call i m f ss) stamp) old (s refl)
      inner false s = old

      over : (b : Bool) → (b ≡ true → (f.group == t.group) ≡ true → t.started ≡ true) → AreStarted (cond b (granted h (grant_of t call i m f ss) stamp t) t)
      over true s = inner (f.group == t.group) (s refl)
      over false s = old
  next_started (says.Refuse d call request i m f why) may = if_started (same_epoch d t.epoch && ((f.group == t.group) && is_make m)) (record t { makes = without_make call t.makes }) t old old
  next_started (says.Act d i n o result) may = if_started (same_epoch d t.epoch && is_granted_here t i) (acted h i o result t) t (all_changed (λ (x : Instance). t.started ≡ true) (is_named i) (once_acted h t o result) (λ x s. s) t.instances old) old
  next_started (says.Commit f s stamp parents content) may = over (is_inside t s)
    where
      over : (b : Bool) → AllByRecursion (λ (x : Instance). t.started ≡ true) (cond b (change_first (is_writer f s) (once_committed stamp) t.instances) t.instances)
      over true = all_changed (λ (x : Instance). t.started ≡ true) (is_writer f s) (once_committed stamp) (λ x s. s) t.instances old
      over false = old
  next_started (says.Release d i f stamp) may = if_started (same_epoch d t.epoch && (f.group == t.group)) (released i f stamp t) t (all_without (λ (x : Instance). t.started ≡ true) (is_named i) t.instances old) old
  next_started r may = old

pub rows_started : (c : Config) (trace : Trace) → RowsAreLawful c trace → (e : EpochId) (group : ℕ) → AreStarted (tree_of c e group trace)
rows_started c [] rows e group = tt
rows_started c (r ∷ before) rows e group = next_started c e group before (rows_started c before rows.1 e group) r.what rows.0

pub open_started : (c : Config) (trace : Trace) → RowsAreLawful c trace → (e : EpochId) (group : ℕ) (i : Serial) (x : Instance) → instance_in (tree_of c e group trace) i ≡ Some x → (tree_of c e group trace).started ≡ true
open_started c trace rows e group i x found = all_found (λ (y : Instance). (tree_of c e group trace).started ≡ true) (is_named i) (tree_of c e group trace).instances x (rows_started c trace rows e group) found
