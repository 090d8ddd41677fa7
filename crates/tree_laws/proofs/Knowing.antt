-- What is known in an epoch is known for good, and a number that is used there stays used.
use Rattle.std.proofs.Common.{◌≡◌, ℕ, ◌==◌, Bool, true, false, cond, ◌&&◌, ◌||◌, List, [], ◌∷◌, map, filter, Option, Some, None, refl, sym, subst}
use Rattle.locus_ids.specs.declared.config.Config.{Config}
use Rattle.locus_ids.specs.declared.ids.Brought.{Brought}
use Rattle.locus_ids.specs.declared.ids.EpochId.{EpochId}
use Rattle.locus_ids.specs.declared.ids.FileId.{FileId}
use Rattle.locus_ids.specs.declared.ids.Stamp.{Stamp}
use Rattle.commit_graph.specs.Versions.{same_stamp}
use Rattle.commit_graph.specs.declared.history.Version.{Version}
use Rattle.trace_book.specs.Same.{same_epoch}
use Rattle.trace_book.specs.declared.record.Record.{Record}
use Rattle.trace_book.specs.declared.record.Record.TheVariants as says
use Rattle.the_run.specs.of_role_steps.Views.{Told, Shown}
use Rattle.the_run.specs.Worlds.{Line}
use Rattle.lawful_trace.specs.of_tree_model.declared.copy.HeldCopy.{HeldCopy}
use Rattle.lawful_trace.specs.of_tree_model.Folds.{Trace}
use Rattle.lawful_trace.specs.of_tree_model.Histories.{history}
use Rattle.lawful_trace.specs.of_tree_model.Packs.{has_pack}
use Rattle.lawful_trace.specs.of_tree_model.Same.{same_brought}
use Rattle.lawful_trace.specs.of_tree_model.State.{TreeState, has_stamp, stamps_of, is_brought_below, with_brought, with_all, is_granted_here, is_make}
use Rattle.lawful_trace.specs.of_tree_model.Tree.{next, tree_of, joined, left, with_root, published, grant_of, granted, acted, released, without_make}
use Rattle.tree_laws.specs.Printed.{entries, onto_entries}
use Rattle.tree_laws.specs.Instances.{IsKnown}

-- ---- a list of versions that grows ----

-- the list has the stamp for the inode
abbrev pub Knows : ℕ → Stamp → List Brought → Type 0
Knows ino s bs = has_stamp (stamps_of bs ino) s ≡ true

knows_after : (ino : ℕ) (s : Stamp) (b : Brought) (bs : List Brought) → Knows ino s bs → Knows ino s (b ∷ bs)
knows_after ino s b bs h = over (b.ino == ino)
  where
    either : (x : Bool) → (x || has_stamp (stamps_of bs ino) s) ≡ true
    either true = refl
    either false = h

    over : (x : Bool) → has_stamp (map (λ (y : Brought). y.stamp) (cond x (b ∷ filter (λ (y : Brought). y.ino == ino) bs) (filter (λ (y : Brought). y.ino == ino) bs))) s ≡ true
    over true = either (same_stamp b.stamp s)
    over false = h

knows_same : (ino : ℕ) (s : Stamp) (b : Brought) (bs cs : List Brought) → (Knows ino s bs → Knows ino s cs) → Knows ino s (b ∷ bs) → Knows ino s (b ∷ cs)
knows_same ino s b bs cs more h = over (b.ino == ino) h
  where
    either : (x : Bool) → (x || has_stamp (stamps_of bs ino) s) ≡ true → (x || has_stamp (stamps_of cs ino) s) ≡ true
    either true k = refl
    either false k = more k

    over : (x : Bool) → has_stamp (map (λ (y : Brought). y.stamp) (cond x (b ∷ filter (λ (y : Brought). y.ino == ino) bs) (filter (λ (y : Brought). y.ino == ino) bs))) s ≡ true →
        has_stamp (map (λ (y : Brought). y.stamp) (cond x (b ∷ filter (λ (y : Brought). y.ino == ino) cs) (filter (λ (y : Brought). y.ino == ino) cs))) s ≡ true
    over true k = either (same_stamp b.stamp s) k
    over false k = more k

pub knows_brought : (ino : ℕ) (s : Stamp) (new : Brought) (bs : List Brought) → Knows ino s bs → Knows ino s (with_brought new bs)
knows_brought ino s new [] h = knows_after ino s new [] h
knows_brought ino s new (b ∷ bs) h = over (knows_brought ino s new bs) (is_brought_below new b) (same_brought new b)
  where
    over : (Knows ino s bs → Knows ino s (with_brought new bs)) → (x y : Bool) → Knows ino s (cond x (new ∷ b ∷ bs) (cond y (b ∷ bs) (b ∷ with_brought new bs)))
    over later true y = knows_after ino s new (b ∷ bs) h
    over later false true = h
    over later false false = knows_same ino s b bs (with_brought new bs) later h

pub knows_all : (ino : ℕ) (s : Stamp) (cs : List HeldCopy) (bs : List Brought) → Knows ino s bs → Knows ino s (with_all cs bs)
knows_all ino s [] bs h = h
knows_all ino s (c ∷ cs) bs h = knows_all ino s cs (with_brought (record { ino = c.ino; stamp = c.now }) bs) (knows_brought ino s (record { ino = c.ino; stamp = c.now }) bs h)

pub knows_published : (ino : ℕ) (s : Stamp) (f : FileId) (stamp : Option Stamp) (bs : List Brought) → Knows ino s bs → Knows ino s (published f stamp bs)
knows_published ino s f None bs h = h
knows_published ino s f (Some at) bs h = knows_brought ino s (record { ino = f.ino; stamp = at }) bs h

-- ---- record by record ----

known_record : (h : List Version) (r : Record) (t : TreeState) (ino : ℕ) (s : Stamp) → Knows ino s t.known → Knows ino s (next h r t).known
known_record h (says.Join site e m) t ino s k = over (same_epoch e t.epoch)
  where
    brought : (b : Bool) → Knows ino s (cond b (with_all (filter (λ (c : HeldCopy). c.site == site) (with_root t site)) t.known) t.known)
    brought true = knows_all ino s (filter (λ (c : HeldCopy). c.site == site) (with_root t site)) t.known k
    brought false = k

    over : (b : Bool) → Knows ino s (cond b (joined site m t) (left site t)).known
    over true = brought (has_pack t.config t.group site)
    over false = k
known_record h (says.Start e group copies) t ino s k = over (same_epoch e t.epoch && (group == t.group))
  where
    over : (b : Bool) → Knows ino s (cond b (record t { started = true }) t).known
    over true = k
    over false = k
known_record h (says.Grant e call request i m f stamp ss) t ino s k = subst (λ (bs : List Brought). Knows ino s bs) (sym (over (same_epoch e t.epoch))) k
  where
    over : (b : Bool) → (cond b (granted h (grant_of t call i m f ss) stamp t) t).known ≡ t.known
    over true = refl
    over false = refl
known_record h (says.Refuse e call request i m f why) t ino s k = over (same_epoch e t.epoch && ((f.group == t.group) && is_make m))
  where
    over : (b : Bool) → Knows ino s (cond b (record t { makes = without_make call t.makes }) t).known
    over true = k
    over false = k
known_record h (says.Act e i n o result) t ino s k = over (same_epoch e t.epoch && is_granted_here t i)
  where
    over : (b : Bool) → Knows ino s (cond b (acted h i o result t) t).known
    over true = k
    over false = k
known_record h (says.Release e i f stamp) t ino s k = over (same_epoch e t.epoch && (f.group == t.group))
  where
    over : (b : Bool) → Knows ino s (cond b (released i f stamp t) t).known
    over true = knows_published ino s f stamp t.known k
    over false = k
known_record h _ t ino s k = k

known_told : (c : Config) (n : ℕ) (x : Told) (before : Trace) (e : EpochId) (g ino : ℕ) (s : Stamp) → Knows ino s (tree_of c e g before).known → Knows ino s (tree_of c e g (onto_entries n x before)).known
known_told c n (Shown r) before e g ino s k = known_record (history c before) r (tree_of c e g before) ino s k
known_told c n _ before e g ino s k = k

-- what is known stays known
pub known_stays : (c : Config) (n : ℕ) (x : Told) (older : List Line) (e : EpochId) (f : FileId) (s : Stamp) → IsKnown c older e f s → IsKnown c (record { number = n; told = x } ∷ older) e f s
known_stays c n x older e f s k = known_told c n x (entries older) e f.group f.ino s k
