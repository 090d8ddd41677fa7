-- A make that has committed its file was the first to do so, and stays so, whether its storage site is still in the epoch or not.
use Rattle.std.proofs.Common.{◌≡◌, ℕ, ◌==◌, Bool, true, false, ◌&&◌, cond, List, [], ◌∷◌, ◌++◌, Option, Some, None, refl, sym, ◌∙◌, ap, subst, ◌⊎◌, inl, inr}
use Rattle.std.specs.List.{AllByRecursion}
use Rattle.std.specs.Option.{option_map, option_or}
use Rattle.role_steps.proofs.of_plain_facts.Options.{none_some}
use Rattle.role_steps.proofs.of_plain_facts.Tests.{true_false}
use Rattle.locus_ids.specs.declared.config.Config.{Config}
use Rattle.locus_ids.specs.declared.ids.CallId.{CallId}
use Rattle.locus_ids.specs.declared.ids.EpochId.{EpochId}
use Rattle.locus_ids.specs.declared.ids.FileId.{FileId}
use Rattle.locus_ids.specs.declared.ids.Mode.TheVariants as mode
use Rattle.locus_ids.specs.declared.ids.Serial.{Serial}
use Rattle.locus_ids.specs.declared.ids.Stamp.{Stamp}
use Rattle.commit_graph.specs.Versions.{is_in, same_file}
use Rattle.commit_graph.specs.declared.history.Version.{Version}
use Rattle.trace_book.specs.Same.{same_epoch}
use Rattle.trace_book.specs.declared.record.Record.{Record}
use Rattle.trace_book.specs.declared.record.Record.TheVariants as says
use Rattle.role_steps.specs.Views.{Told, Shown}
use Rattle.the_run.specs.Worlds.{Line}
use Rattle.tree_model.specs.declared.instance.Instance.{Instance}
use Rattle.tree_model.specs.Epochs.{epoch_of, is_in as is_in_epoch}
use Rattle.tree_model.specs.Files.{committing, first_call}
use Rattle.tree_model.specs.Folds.{Trace}
use Rattle.tree_model.specs.Histories.{history}
use Rattle.tree_model.specs.Lists.{change_first}
use Rattle.tree_model.specs.State.{TreeState, is_granted_here, is_inside, is_make, is_named, is_writer}
use Rattle.tree_model.specs.Tree.{acted, grant_of, joined, left, next, once_acted, once_committed, opened, released, tree_of, without_make}
use Rattle.lawful_trace.specs.TreeRows.{granted_group}
use Rattle.tree_laws.specs.Following.{IsFollowed, MayTell}
use Rattle.tree_laws.specs.Instances.{instance_now}
use Rattle.tree_laws.specs.Printed.{entries, onto_entries}
use Rattle.tree_laws.proofs.Names.{same_epoch_eq}
use Rattle.tree_laws.proofs.Owing.{inside_is}
use Rattle.store_laws.specs.of_tree_laws.Orders.Joining.{PacksAreOfSites}
use Rattle.store_laws.proofs.of_tree_laws.Orders.Lists.{all_changed, all_found, all_more, all_then, all_without}
use Rattle.store_laws.proofs.of_tree_laws.Orders.Standing.{acted_keeps, newest}
use Rattle.store_laws.proofs.Holdings.Turning.{all_passing}
use Rattle.store_laws.proofs.Holdings.OneVersionFirsts.{IsFirst, MakesFirst, makes_first}
use Rattle.store_laws.proofs.Holdings.OneVersionLists.{all_both}
use Rattle.store_laws.proofs.Runs.{writes_at}

-- a make that has committed was the first to commit its file
abbrev pub IsCalled : Config → Trace → Instance → Type 0
IsCalled c before x = x.grant.mode ≡ mode.Make → (s : Stamp) → x.work.committed ≡ Some s → first_call c before x.grant.file ≡ Some x.grant.call

abbrev AreCalled : Config → Trace → EpochId → ℕ → Type 0
AreCalled c before e g = AllByRecursion (IsCalled c before) (tree_of c e g before).instances

-- whoever was the first is so
first_more : (c : Config) (line : ℕ) (r : Record) (before : Trace) (f : FileId) (d : CallId) → first_call c before f ≡ Some d → first_call c (record { line = line; what = r } ∷ before) f ≡ Some d
first_more c line (says.Commit g z stamp parents content) before f d k = ap (λ (o : Option CallId). option_or o (cond (same_file g f) (option_map (λ (x : Instance). x.grant.call) (committing c before f z)) None)) k
first_more c line r before f d k = k

module _ (c : Config) (few : PacksAreOfSites c) (older : List Line) (n : ℕ) (followed : IsFollowed c older) (e : EpochId) (g : ℕ) (old : AreCalled c (entries older) e g) where
  abbrev before : Trace
  before = entries older

  abbrev t : TreeState
  t = tree_of c e g before

  abbrev h : List Version
  h = history c before

  abbrev With : Record → Trace
  With r = record { line = n; what = r } ∷ before

  abbrev After : Record → Instance → Type 0
  After r x = IsCalled c (With r) x

  stays : (r : Record) → AllByRecursion (After r) t.instances
  stays r = all_then (IsCalled c before) (After r) (λ x k make s made. first_more c n r before x.grant.file x.grant.call (k make s made)) t.instances old

  -- it is so, or it commits now, at its site in the epoch
  record CommitsNow (r : Record) (x : Instance) : Type 0 where
    inside : epoch_of (With r) x.grant.ss ≡ Some e
    stamp : Stamp
    stands : is_in (history c (With r)) x.grant.file stamp ≡ true

  by_first : (r : Record) (x : Instance) → After r x ⊎ CommitsNow r x → MakesFirst c (With r) e x → After r x
  by_first r x (inl k) first = k
  by_first r x (inr k) first = λ make s made. over ((first make).1 k.inside)
    where
      over : IsFirst c (With r) x.grant.file x.grant.call → first_call c (With r) x.grant.file ≡ Some x.grant.call
      over (inl none) = absurd (none k.stamp k.stands)
      over (inr is) = is

  module _ (f : FileId) (z : ℕ) (stamp : Stamp) (parents : List Stamp) (content : List ℕ) (may : MayTell c older (Shown (says.Commit f z stamp parents content))) where
    abbrev r : Record
    r = says.Commit f z stamp parents content

    turned : is_inside t z ≡ true → (x : Instance) → is_writer f z x ≡ true → CommitsNow r (once_committed stamp x)
    turned inside x writes = record {
      inside = subst (λ (s : ℕ). epoch_of before s ≡ Some e) (sym (writes_at f z x writes).1) here;
      stamp = stamp;
      stands = newest (record { file = f; site = z; stamp = stamp; parents = parents; content = content }) h x.grant.file stamp (sym (writes_at f z x writes).0) refl;
    }
      where
        at : (o : Option EpochId) → is_in_epoch o e ≡ true → o ≡ Some e
        at None k = absurd (true_false (sym k))
        at (Some y) k = ap Some (same_epoch_eq y e k)

        here : epoch_of before z ≡ Some e
        here = at (epoch_of before z) (sym (inside_is c before e g z) ∙ inside)

    abbrev Weak : Instance → Type 0
    Weak x = After (says.Commit f z stamp parents content) x ⊎ CommitsNow (says.Commit f z stamp parents content) x

    weak : AllByRecursion Weak (cond (is_inside t z) (change_first (is_writer f z) (once_committed stamp) t.instances) t.instances)
    weak = over (is_inside t z) refl
      where
        over : (b : Bool) → is_inside t z ≡ b → AllByRecursion Weak (cond b (change_first (is_writer f z) (once_committed stamp) t.instances) t.instances)
        over true k = all_passing (After r) Weak (is_writer f z) (once_committed stamp) (λ x q. inl q) (λ x w q. inr (turned k x w)) t.instances (stays r)
        over false k = all_then (After r) Weak (λ x q. inl q) t.instances (stays r)

  next_called : (r : Record) → MayTell c older (Shown r) → AllByRecursion (After r) (next h r t).instances
  next_called (says.Commit f z stamp parents content) may = all_both (Weak f z stamp parents content may) (MakesFirst c (With (says.Commit f z stamp parents content)) e) (After (says.Commit f z stamp parents content))
      (λ x q first. by_first (says.Commit f z stamp parents content) x q first) (next h (says.Commit f z stamp parents content) t).instances (weak f z stamp parents content may)
      (makes_first c (record { number = n; told = Shown (says.Commit f z stamp parents content) } ∷ older) few (may, followed) e g)
  next_called (says.Grant d call request i m f stamp ss) may = over (same_epoch d t.epoch) (f.group == t.group)
    where
      over : (a b : Bool) → AllByRecursion (After (says.Grant d call request i m f stamp ss)) (cond a (record t { grants = t.grants ++ grant_of t call i m f ss ∷ []; instances = cond b (t.instances ++ opened h (grant_of t call i m f ss) stamp ∷ []) t.instances }) t).instances
      over true true = all_more (After (says.Grant d call request i m f stamp ss)) t.instances (opened h (grant_of t call i m f ss) stamp) (stays (says.Grant d call request i m f stamp ss)) (λ make s made. absurd (none_some s made))
      over true false = stays (says.Grant d call request i m f stamp ss)
      over false b = stays (says.Grant d call request i m f stamp ss)
  next_called (says.Join z d m) may = over (same_epoch d t.epoch)
    where
      over : (b : Bool) → AllByRecursion (After (says.Join z d m)) (cond b (joined z m t) (left z t)).instances
      over true = stays (says.Join z d m)
      over false = stays (says.Join z d m)
  next_called (says.Start d k copies) may = over (same_epoch d t.epoch && (k == t.group))
    where
      over : (b : Bool) → AllByRecursion (After (says.Start d k copies)) (cond b (record t { started = true }) t).instances
      over true = stays (says.Start d k copies)
      over false = stays (says.Start d k copies)
  next_called (says.Refuse d call request i m f why) may = over (same_epoch d t.epoch && ((f.group == t.group) && is_make m))
    where
      over : (b : Bool) → AllByRecursion (After (says.Refuse d call request i m f why)) (cond b (record t { makes = without_make call t.makes }) t).instances
      over true = stays (says.Refuse d call request i m f why)
      over false = stays (says.Refuse d call request i m f why)
  next_called (says.Act d i k o result) may = over (same_epoch d t.epoch && is_granted_here t i)
    where
      acts : (x : Instance) → After (says.Act d i k o result) x → After (says.Act d i k o result) (once_acted h t o result x)
      acts x q make s made = q make s (sym (acted_keeps h t o result x) ∙ made)

      over : (b : Bool) → AllByRecursion (After (says.Act d i k o result)) (cond b (acted h i o result t) t).instances
      over true = all_changed (After (says.Act d i k o result)) (is_named i) (once_acted h t o result) acts t.instances (stays (says.Act d i k o result))
      over false = stays (says.Act d i k o result)
  next_called (says.Release d i f stamp) may = over (same_epoch d t.epoch && (f.group == t.group))
    where
      over : (b : Bool) → AllByRecursion (After (says.Release d i f stamp)) (cond b (released i f stamp t) t).instances
      over true = all_without (After (says.Release d i f stamp)) (is_named i) t.instances (stays (says.Release d i f stamp))
      over false = stays (says.Release d i f stamp)
  next_called r may = stays r

makes_called : (c : Config) (trace : List Line) → PacksAreOfSites c → IsFollowed c trace → (e : EpochId) (g : ℕ) → AreCalled c (entries trace) e g
makes_called c [] few followed e g = tt
makes_called c (x ∷ older) few followed e g = over x.told followed.0 (makes_called c older few followed.1 e g)
  where
    over : (y : Told) → MayTell c older y → AreCalled c (entries older) e g → AreCalled c (onto_entries x.number y (entries older)) e g
    over (Shown r) may old = next_called c few older x.number followed.1 e g old r may
    over _ may old = old

pub open_make_called : (c : Config) (trace : List Line) → PacksAreOfSites c → IsFollowed c trace → (e : EpochId) (i : Serial) (x : Instance) → instance_now c trace e i ≡ Some x → IsCalled c (entries trace) x
open_make_called c trace few followed e i x found = all_found (IsCalled c (entries trace)) (is_named i) (tree_of c e (granted_group (entries trace) e i) (entries trace)).instances x (makes_called c trace few followed e (granted_group (entries trace) e i)) found
