-- Record by record, what the trees know stands in the history.
use Rattle.std.proofs.Common.{◌≡◌, ℕ, ◌==◌, Bool, true, false, ◌&&◌, cond, List, [], ◌∷◌, ◌++◌, Option, Some, None, refl, sym, ap, ◌∙◌, subst}
use Rattle.std.specs.List.{AllByRecursion}
use Rattle.plain_facts.proofs.Numbers.{equal}
use Rattle.plain_facts.proofs.Options.{some_same}
use Rattle.plain_facts.proofs.Tests.{and_first, and_second, or_second}
use Rattle.locus_ids.specs.declared.config.Config.{Config}
use Rattle.locus_ids.specs.declared.ids.EpochId.{EpochId}
use Rattle.locus_ids.specs.declared.ids.FileId.{FileId}
use Rattle.locus_ids.specs.declared.ids.Serial.{Serial}
use Rattle.locus_ids.specs.declared.ids.Stamp.{Stamp}
use Rattle.commit_graph.specs.declared.history.Version.{Version}
use Rattle.commit_graph.specs.Versions.{is_in, is_version, same_file}
use Rattle.trace_book.specs.Same.{same_epoch}
use Rattle.trace_book.specs.declared.operation.Op.{Op}
use Rattle.trace_book.specs.declared.operation.Outcome.{Outcome}
use Rattle.trace_book.specs.declared.record.Record.{Record}
use Rattle.trace_book.specs.declared.record.Record.TheVariants as says
use Rattle.tree_model.specs.declared.instance.Granted.{Granted}
use Rattle.tree_model.specs.declared.instance.Instance.{Instance}
use Rattle.tree_model.specs.Folds.{Trace}
use Rattle.tree_model.specs.Given.{gives_release}
use Rattle.tree_model.specs.Histories.{format_stamp, history, history_after}
use Rattle.tree_model.specs.Lists.{change_first}
use Rattle.tree_model.specs.Packs.{has_pack}
use Rattle.tree_model.specs.State.{TreeState, has_stamp, instance_in, is_granted_here, is_inside, is_make, is_named, is_writer}
use Rattle.tree_model.specs.Tree.{acted, candidates, committed_at, grant_of, granted, has_now, joined, left, next, once_acted, once_committed, opened, released, tree_of, without_make}
use Rattle.lawful_trace.specs.Lawful.{MayCome}
use Rattle.tree_laws.specs.Following.{RowsAreLawful}
use Rattle.tree_laws.proofs.Names.{same_epoch_eq}
use Rattle.tree_laws.specs.Orders.Standing.{VersionsStand}
use Rattle.tree_laws.proofs.Orders.Alone.{tree_is, tree_named}
use Rattle.tree_laws.proofs.Orders.Lists.{all_changed, all_found, all_more, all_passed, all_without}
use Rattle.tree_laws.proofs.Orders.Standing.{At, CopyStands, KnownStands, Sound, WorkStands, acted_keeps, held_stands, if_sound, joined_sound, known_found, more_sound, newest, now_stands, published_stands, released_stands, roots_stand, same_file_eq}

-- ---- a record leaves the cluster of the tree as it is ----

config_if : (b : Bool) (u t : TreeState) → u.config ≡ t.config → (cond b u t).config ≡ t.config
config_if true u t e = e
config_if false u t e = refl

config_next : (h : List Version) (t : TreeState) (r : Record) → (next h r t).config ≡ t.config
config_next h t (says.Join s e m) = over (same_epoch e t.epoch)
  where
    over : (b : Bool) → (cond b (joined s m t) (left s t)).config ≡ t.config
    over true = refl
    over false = refl
config_next h t (says.Start e group copies) = config_if (same_epoch e t.epoch && (group == t.group)) (record t { started = true }) t refl
config_next h t (says.Grant e call request i m f stamp ss) = config_if (same_epoch e t.epoch) _ t refl
config_next h t (says.Refuse e call request i m f why) = config_if (same_epoch e t.epoch && ((f.group == t.group) && is_make m)) (record t { makes = without_make call t.makes }) t refl
config_next h t (says.Act e i n o result) = config_if (same_epoch e t.epoch && is_granted_here t i) _ t refl
config_next h t (says.Release e i f stamp) = config_if (same_epoch e t.epoch && (f.group == t.group)) _ t refl
config_next h t r = refl

pub tree_config : (c : Config) (e : EpochId) (g : ℕ) (before : Trace) → (tree_of c e g before).config ≡ c
tree_config c e g [] = refl
tree_config c e g (r ∷ before) = config_next (history c before) (tree_of c e g before) r.what ∙ tree_config c e g before

-- ---- record by record ----

no_stamp : (s : Stamp) → ◌≡◌ {A = Option Stamp} None (Some s) → ⊥
no_stamp s e = cc

module _ (h : List Version) (t : TreeState) where
  -- the file is one of the tree's group
  in_group : (f : FileId) → (f.group == t.group) ≡ true → f ≡ At t.group f.ino
  in_group f same = ap (λ (n : ℕ). At n f.ino) (equal f.group t.group same)

  commit_sound : (f : FileId) (site : ℕ) (stamp : Stamp) (v : Version) → v.file ≡ f → v.stamp ≡ stamp → Sound h t → Sound (v ∷ h) (committed_at f site stamp (has_now f site stamp t))
  commit_sound f site stamp v is named x = record {
    copies = now_stands (v ∷ h) t f site stamp (λ same. newest v h (At t.group f.ino) stamp (is ∙ in_group f same) named) later.copies;
    known = later.known;
    works = over (is_inside t site);
  }
    where
      later : Sound (v ∷ h) t
      later = more_sound h (v ∷ h) t (λ g s k. or_second (is_version g s v) (is_in h g s) k) x

      commits : (y : Instance) → is_writer f site y ≡ true → WorkStands (v ∷ h) (once_committed stamp y)
      commits y writes = λ s e. newest v h y.grant.file s (is ∙ sym (same_file_eq y.grant.file f (and_first (same_file y.grant.file f) _ writes))) (named ∙ some_same stamp s e)

      over : (b : Bool) → AllByRecursion (WorkStands (v ∷ h)) (cond b (change_first (is_writer f site) (once_committed stamp) t.instances) t.instances)
      over true = all_passed (WorkStands (v ∷ h)) (is_writer f site) (once_committed stamp) commits t.instances later.works
      over false = later.works

  grant_sound : (g : Granted) (stamp : Option Stamp) → Sound h t → Sound h (granted h g stamp t)
  grant_sound g stamp x = record { copies = x.copies; known = x.known; works = over (g.file.group == t.group) }
    where
      over : (b : Bool) → AllByRecursion (WorkStands h) (cond b (t.instances ++ opened h g stamp ∷ []) t.instances)
      over true = all_more (WorkStands h) t.instances (opened h g stamp) x.works (λ s e. absurd (no_stamp s e))
      over false = x.works

  act_sound : (i : Serial) (o : Op) (result : Outcome) → Sound h t → Sound h (acted h i o result t)
  act_sound i o result x = record {
    copies = x.copies;
    known = x.known;
    works = all_changed (WorkStands h) (is_named i) (once_acted h t o result) (λ y p s e. p s (sym (acted_keeps h t o result y) ∙ e)) t.instances x.works;
  }

  release_sound : (i : Serial) (f : FileId) (stamp : Option Stamp) → ((s : Stamp) → stamp ≡ Some s → is_in h (At t.group f.ino) s ≡ true) → Sound h t → Sound h (released i f stamp t)
  release_sound i f stamp there x = record {
    copies = x.copies;
    known = published_stands h t.group f stamp t.known there x.known;
    works = all_without (WorkStands h) (is_named i) t.instances x.works;
  }

module _ (c : Config) (e : EpochId) (group : ℕ) (before : Trace) where
  abbrev t : TreeState
  t = tree_of c e group before

  abbrev h : List Version
  h = history c before

  roots : (s : ℕ) → has_pack t.config t.group s ≡ true → is_in h (At t.group 1) format_stamp ≡ true
  roots s has = roots_stand c before t.group s (subst (λ (d : Config). has_pack d t.group s ≡ true) (tree_config c e group before) has)

  -- a version known in some epoch stands
  known_there : (d : EpochId) (f : FileId) (s : Stamp) → Sound h (tree_of c d f.group before) → has_stamp (candidates c before d f) s ≡ true → is_in h f s ≡ true
  known_there d f s x k = known_found h f.group f.ino (tree_of c d f.group before).known s (subst (λ (g : ℕ). AllByRecursion (KnownStands h g) (tree_of c d f.group before).known) (tree_named c d f.group before).1 x.known) k

  -- what is released in this tree was committed
  released_there : (d : EpochId) (i : Serial) (f : FileId) (stamp : Option Stamp) → Sound h t → gives_release h (tree_of c d f.group before) i f stamp ≡ true → same_epoch d t.epoch && (f.group == t.group) ≡ true → (s : Stamp) → stamp ≡ Some s → is_in h (At t.group f.ino) s ≡ true
  released_there d i f stamp x gives b s is =
      let named = tree_named c e group before in
      let group_is : (f.group == t.group) ≡ true = and_second (same_epoch d t.epoch) (f.group == t.group) b in
      let same : tree_of c d f.group before ≡ t = tree_is c e d group f.group before (same_epoch_eq d t.epoch (and_first (same_epoch d t.epoch) _ b) ∙ named.0) (equal f.group t.group group_is ∙ named.1) in
      let here : gives_release h t i f (Some s) ≡ true = subst (λ (o : Option Stamp). gives_release h t i f o ≡ true) is (subst (λ (u : TreeState). gives_release h u i f stamp ≡ true) same gives) in
      subst (λ (g : FileId). is_in h g s ≡ true) (in_group h t f group_is) (released_stands h t i f s (instance_in t i) refl x.works here)

  next_sound : ((d : EpochId) (k : ℕ) → Sound h (tree_of c d k before)) → (r : Record) → MayCome c before r → Sound (history_after r h) (next h r t)
  next_sound all (says.Join s d m) may = if_sound h (same_epoch d t.epoch) (joined s m t) (left s t) (joined_sound h t s m (roots s) (all e group)) (record { copies = (all e group).copies; known = (all e group).known; works = (all e group).works })
  next_sound all (says.Start d k copies) may = if_sound h (same_epoch d t.epoch && (k == t.group)) (record t { started = true }) t (record { copies = (all e group).copies; known = (all e group).known; works = (all e group).works }) (all e group)
  next_sound all (says.Commit f site stamp parents content) may = commit_sound h t f site stamp (record { file = f; site = site; stamp = stamp; parents = parents; content = content }) refl refl (all e group)
  next_sound all (says.Adopt f site stamp) may = record {
    copies = now_stands h t f site stamp (λ same. subst (λ (g : FileId). is_in h g stamp ≡ true) (in_group h t f same) (known_there may.epoch f stamp (all may.epoch f.group) may.known)) (all e group).copies;
    known = (all e group).known;
    works = (all e group).works;
  }
  next_sound all (says.Grant d call request i m f stamp ss) may = if_sound h (same_epoch d t.epoch) (granted h (grant_of t call i m f ss) stamp t) t (grant_sound h t (grant_of t call i m f ss) stamp (all e group)) (all e group)
  next_sound all (says.Refuse d call request i m f why) may = if_sound h (same_epoch d t.epoch && ((f.group == t.group) && is_make m)) (record t { makes = without_make call t.makes }) t (record { copies = (all e group).copies; known = (all e group).known; works = (all e group).works }) (all e group)
  next_sound all (says.Act d i n o result) may = if_sound h (same_epoch d t.epoch && is_granted_here t i) (acted h i o result t) t (act_sound h t i o result (all e group)) (all e group)
  next_sound all (says.Release d i f stamp) may = over (same_epoch d t.epoch && (f.group == t.group)) (λ b. released_there d i f stamp (all e group) may.gives b)
    where
      over : (b : Bool) → (b ≡ true → (s : Stamp) → stamp ≡ Some s → is_in h (At t.group f.ino) s ≡ true) → Sound h (cond b (released i f stamp t) t)
      over true there = release_sound h t i f stamp (there refl) (all e group)
      over false there = all e group
  next_sound all (says.Up s boot) may = record { copies = (all e group).copies; known = (all e group).known; works = (all e group).works }
  next_sound all (says.Stopped s cause) may = record { copies = (all e group).copies; known = (all e group).known; works = (all e group).works }
  next_sound all (says.Leave s d) may = record { copies = (all e group).copies; known = (all e group).known; works = (all e group).works }
  next_sound all (says.Accept s process call words) may = record { copies = (all e group).copies; known = (all e group).known; works = (all e group).works }
  next_sound all r may = all e group

-- ---- every trace ----

pub rows_sound : (c : Config) (trace : Trace) → RowsAreLawful c trace → (e : EpochId) (group : ℕ) → Sound (history c trace) (tree_of c e group trace)
rows_sound c [] rows e group = record { copies = tt; known = tt; works = tt }
rows_sound c (r ∷ before) rows e group = next_sound c e group before (rows_sound c before rows.1) r.what rows.0

pub versions_stand : (c : Config) (trace : Trace) → RowsAreLawful c trace → VersionsStand c trace
versions_stand c trace rows = record {
  known = λ e f s k. known_there c e f.group trace e f s (rows_sound c trace rows e f.group) k;
  held = λ e f site s k. held_stands (history c trace) f.group site f.ino (tree_of c e f.group trace).copies s (subst (λ (g : ℕ). AllByRecursion (CopyStands (history c trace) g) (tree_of c e f.group trace).copies) (tree_named c e f.group trace).1 (rows_sound c trace rows e f.group).copies) k;
  committed = λ e group i x s found k. all_found (WorkStands (history c trace)) (is_named i) (tree_of c e group trace).instances x (rows_sound c trace rows e group).works found s k;
}
