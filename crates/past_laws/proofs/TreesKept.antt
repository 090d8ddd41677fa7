-- Which parts of an epoch, and of its trees, a record leaves alone.
use Rattle.std.proofs.Common.{◌≡◌, ℕ, ◌==◌, Bool, true, false, not, cond, ◌&&◌, ◌+◌, ◌++◌, List, [], ◌∷◌, filter, fold, refl, sym, ap, ◌∙◌}
use Rattle.locus_ids.specs.declared.config.Config.{Config}
use Rattle.locus_ids.specs.declared.ids.EpochId.{EpochId}
use Rattle.locus_ids.specs.declared.ids.FileId.{FileId}
use Rattle.locus_ids.specs.declared.sites.Members.{Members}
use Rattle.commit_graph.specs.declared.history.Version.{Version}
use Rattle.tree_model.specs.of_file_effects.Works.{committed}
use Rattle.trace_book.specs.declared.record.Record.{Record}
use Rattle.trace_book.specs.declared.record.Record.TheVariants as says
use Rattle.call_rules.specs.Descriptors.{beginning}
use Rattle.tree_model.specs.declared.instance.Granted.{Granted}
use Rattle.std.specs.Prelude.{Option}
use Rattle.locus_ids.specs.declared.ids.CallId.{CallId}
use Rattle.locus_ids.specs.declared.ids.Brought.{Brought}
use Rattle.tree_model.specs.declared.copy.HeldCopy.{HeldCopy}
use Rattle.tree_model.specs.declared.accepted.AcceptedCall.{AcceptedCall}
use Rattle.tree_model.specs.declared.instance.Instance.{Instance as TreeInstance}
use Rattle.tree_model.specs.Folds.{Trace}
use Rattle.tree_model.specs.Histories.{history}
use Rattle.tree_model.specs.Tree.{next, tree_of}
use Rattle.tree_model.specs.State.{TreeState, is_make, is_granted_here}
use Rattle.trace_book.specs.Same.{same_call, same_epoch}
use Rattle.promises.specs.Past.{Past, Epoch, Instance, Left, Make, Copy, first_or, epoch_at, unformed, site_at, table, is_writer, is_named}
use Rattle.promises.specs.After.{change, is_epoch, is_home_of, is_id, acted, answered, is_actor, is_ender, close_answer, released, opened_as, process_of, has_now, with_making, begun_call, after, once_named}
use Rattle.promises.specs.of_lawful_trace.Progress.{outcome_answer}
use Rattle.past_laws.proofs.TreesAt.{at_kept, left_kept, joined_kept, accepted_kept, answered_kept, answers_kept}

-- the part doesn't see what the record changes of an epoch
abbrev pub IsBlind : {Y : Type 0} → (Epoch → Y) → Record → Type 0
IsBlind g (says.Stopped site cause) = (t : Epoch) (ls : List Left) → g (record t { left = ls }) ≡ g t
IsBlind g (says.Leave site e) = (t : Epoch) (ls : List Left) → g (record t { left = ls }) ≡ g t
IsBlind g (says.Join site e members) = ((t : Epoch) (m : Members) → g (record t { members = m }) ≡ g t) × ((t : Epoch) (js : List ℕ) (vs : List Copy) → g (record t { joined = js; known = vs }) ≡ g t)
IsBlind g (says.Start e group copies) = (t : Epoch) (gs : List ℕ) → g (record t { started = gs }) ≡ g t
IsBlind g (says.Accept site process id words) = (t : Epoch) (which : Instance → Bool) → g (record t { opened = change which (λ (x : Instance). record x { uses = x.uses + 1 }) t.opened }) ≡ g t
IsBlind g (says.Grant e id request i m f stamp ss) = (t : Epoch) (gs : List Granted) (xs : List Instance) → g (record t { granted = gs; opened = xs }) ≡ g t
IsBlind g (says.Refuse e id request i m f why) = (t : Epoch) (ms : List Make) → g (record t { makes = ms }) ≡ g t
IsBlind g (says.Act e i n o result) = (t : Epoch) (xs : List Instance) (ms : List Make) → g (record t { opened = xs; makes = ms }) ≡ g t
IsBlind g (says.Commit f site stamp parents content) = (t : Epoch) (xs : List Instance) → g (record t { opened = xs }) ≡ g t
IsBlind g (says.Release e i f stamp) = (t : Epoch) (vs : List Copy) (xs : List Instance) (ms : List Make) → g (record t { known = vs; opened = xs; makes = ms }) ≡ g t
IsBlind g (says.Answer site process id r) = (t : Epoch) (which : Instance → Bool) (fs : List FileId) → g (record t { opened = change which (once_named r) t.opened; unmended = fs }) ≡ g t
IsBlind g _ = Unit {0}

pub told_kept : {Y : Type 0} (g : Epoch → Y) (c : Config) (r : Record) (p : Past) → IsBlind g r → (e : EpochId) → g (epoch_at (after c r p) e) ≡ g (epoch_at p e)
told_kept g c (says.Up site boot) p k e = refl
told_kept g c (says.Stopped site cause) p k e = left_kept g k site p e
told_kept g c (says.Leave site a) p k e = left_kept g k site p e
told_kept g c (says.Join site a members) p k e = joined_kept g k.0 k.1 site a members p e
told_kept g c (says.Start a group copies) p k e = at_kept g (is_epoch a) (λ (t : Epoch). record t { started = group ∷ t.started }) (λ t. refl) (λ t. k t _) p e
told_kept g c (says.Accept site process id words) p k e = accepted_kept g k site (begun_call p site process id words (beginning (table p site process) (site_at p site).epoch id words)) p e
told_kept g c (says.Look a id request f w result) p k e = refl
told_kept g c (says.Grant a id request i m f stamp ss) p k e = at_kept g (is_epoch a) (λ (t : Epoch). record t { granted = new ∷ t.granted; opened = t.opened ++ opened_as p new stamp ∷ [] }) (λ t. refl) (λ t. k t _ _) p e
  where
    new : Granted
    new = record { inst = i; call = id; process = process_of p id; mode = m; file = f; ss = ss }
told_kept g c (says.Refuse a id request i m f why) p k e = at_kept g (is_epoch a) (λ (t : Epoch). record t { makes = filter (λ (d : Make). not (is_make m && ((d.group == f.group) && same_call d.call id))) t.makes }) (λ t. refl) (λ t. k t _) p e
told_kept g c (says.Act a i n o result) p k e = at_kept g (is_epoch a) (acted i o result p) (λ t. refl) (λ t. k t _ _) (answered (is_actor (epoch_at p a) i n) (outcome_answer result) p) e
told_kept g c (says.Commit f site stamp parents content) p k e = at_kept g (is_home_of p site) (λ (t : Epoch). record t { opened = change (is_writer f site) (λ (x : Instance). record x { work = committed stamp x.work }) t.opened }) (λ t. refl) (λ t. k t _)
    (record (has_now site (record { file = f; stamp = stamp }) p) { history = record { file = f; site = site; stamp = stamp; parents = parents; content = content } ∷ p.history; files = with_making c f site p }) e
told_kept g c (says.Release a i f stamp) p k e = at_kept g (is_epoch a) (released i f stamp) (λ t. refl) (λ t. k t _ _ _) (fold (λ old x. answered (is_ender (epoch_at p a) i) (close_answer stamp x) old) p (filter (is_named i) (epoch_at p a).opened)) e
    ∙ ap (λ es. g (first_or (unformed e) (is_epoch e) es)) (answers_kept (is_ender (epoch_at p a) i) (close_answer stamp) (filter (is_named i) (epoch_at p a).opened) p).epochs
told_kept g c (says.Adopt f site stamp) p k e = refl
told_kept g c (says.Answer site process id r) p k e = answered_kept g r k (filter (is_id id) p.calls) p e
told_kept g c (says.Packet number from to kind) p k e = refl
told_kept g c says.Void p k e = refl
told_kept g c says.Budget p k e = refl

-- the part doesn't see what the record changes of a tree
abbrev pub IsBlindTree : {Y : Type 0} → (TreeState → Y) → Record → Type 0
IsBlindTree g (says.Up site boot) = (t : TreeState) (ns : List ℕ) → g (record t { inside = ns }) ≡ g t
IsBlindTree g (says.Stopped site cause) = (t : TreeState) (ns : List ℕ) → g (record t { inside = ns }) ≡ g t
IsBlindTree g (says.Leave site e) = (t : TreeState) (ns : List ℕ) → g (record t { inside = ns }) ≡ g t
IsBlindTree g (says.Join site e members) = ((t : TreeState) (ns : List ℕ) → g (record t { inside = ns }) ≡ g t) × ((t : TreeState) (m : Option Members) (ns : List ℕ) (cs : List HeldCopy) (bs : List Brought) → g (record t { members = m; inside = ns; copies = cs; known = bs }) ≡ g t)
IsBlindTree g (says.Start e group copies) = (t : TreeState) → g (record t { started = true }) ≡ g t
IsBlindTree g (says.Accept site process id words) = (t : TreeState) (cs : List AcceptedCall) → g (record t { calls = cs }) ≡ g t
IsBlindTree g (says.Grant e id request i m f stamp ss) = (t : TreeState) (gs : List Granted) (xs : List TreeInstance) → g (record t { grants = gs; instances = xs }) ≡ g t
IsBlindTree g (says.Refuse e id request i m f why) = (t : TreeState) (ms : List CallId) → g (record t { makes = ms }) ≡ g t
IsBlindTree g (says.Act e i n o result) = (t : TreeState) (xs : List TreeInstance) (ms : List CallId) → g (record t { instances = xs; makes = ms }) ≡ g t
IsBlindTree g (says.Commit f site stamp parents content) = (t : TreeState) (cs : List HeldCopy) (xs : List TreeInstance) → g (record t { copies = cs; instances = xs }) ≡ g t
IsBlindTree g (says.Release e i f stamp) = (t : TreeState) (vs : List Brought) (xs : List TreeInstance) (ms : List CallId) → g (record t { known = vs; instances = xs; makes = ms }) ≡ g t
IsBlindTree g (says.Adopt f site stamp) = (t : TreeState) (cs : List HeldCopy) → g (record t { copies = cs }) ≡ g t
IsBlindTree g _ = Unit {0}

-- a part of a tree that two values share
either : {Y : Type 0} (g : TreeState → Y) (b : Bool) (u v t : TreeState) → g u ≡ g t → g v ≡ g t → g (cond b u v) ≡ g t
either g true u v t e f = e
either g false u v t e f = f

pub next_kept : {Y : Type 0} (g : TreeState → Y) (h : List Version) (r : Record) (t : TreeState) → IsBlindTree g r → g (next h r t) ≡ g t
next_kept g h (says.Up site boot) t k = k t _
next_kept g h (says.Stopped site cause) t k = k t _
next_kept g h (says.Leave site e) t k = k t _
next_kept g h (says.Join site e members) t k = either g (same_epoch e t.epoch) _ _ t (k.1 t _ _ _ _) (k.0 t _)
next_kept g h (says.Start e group copies) t k = either g (same_epoch e t.epoch && (group == t.group)) _ t t (k t) refl
next_kept g h (says.Accept site process id words) t k = k t _
next_kept g h (says.Look e id request f w result) t k = refl
next_kept g h (says.Grant e id request i m f stamp ss) t k = either g (same_epoch e t.epoch) _ t t (k t _ _) refl
next_kept g h (says.Refuse e id request i m f why) t k = either g (same_epoch e t.epoch && ((f.group == t.group) && is_make m)) _ t t (k t _) refl
next_kept g h (says.Act e i n o result) t k = either g (same_epoch e t.epoch && is_granted_here t i) _ t t (k t _ _) refl
next_kept g h (says.Commit f site stamp parents content) t k = k t _ _
next_kept g h (says.Release e i f stamp) t k = either g (same_epoch e t.epoch && (f.group == t.group)) _ t t (k t _ _ _) refl
next_kept g h (says.Adopt f site stamp) t k = k t _
next_kept g h (says.Answer site process id r) t k = refl
next_kept g h (says.Packet number from to kind) t k = refl
next_kept g h says.Void t k = refl
next_kept g h says.Budget t k = refl

-- a record leaves alone what the value and the tree say alike
pub stays : {Y : Type 0} (g : Epoch → Y) (k : TreeState → Y) (c : Config) (r : Record) (before : Trace) (p : Past) (e : EpochId) (group : ℕ) → IsBlind g r → IsBlindTree k r → g (epoch_at p e) ≡ k (tree_of c e group before) → g (epoch_at (after c r p) e) ≡ k (next (history c before) r (tree_of c e group before))
stays g k c r before p e group blind other same = told_kept g c r p blind e ∙ (same ∙ sym (next_kept k (history c before) r (tree_of c e group before) other))
