-- What becomes of the tree by a record, and the tree of a trace.
use Rattle.std.specs.Prelude.{ℕ, ◌==◌, Bool, true, false, not, ◌&&◌, List, [], ◌∷◌, ◌++◌, filter, map, Option, None, Some, cond}
use Rattle.std.specs.Option.{is_none}
use Rattle.locus_ids.specs.declared.config.Config.{Config}
use Rattle.locus_ids.specs.declared.sites.Members.{Members}
use Rattle.locus_ids.specs.declared.ids.FileId.{FileId}
use Rattle.locus_ids.specs.declared.ids.Stamp.{Stamp}
use Rattle.locus_ids.specs.declared.ids.EpochId.{EpochId}
use Rattle.locus_ids.specs.declared.ids.CallId.{CallId}
use Rattle.locus_ids.specs.declared.ids.Serial.{Serial}
use Rattle.locus_ids.specs.declared.ids.Mode.{Mode}
use Rattle.locus_ids.specs.declared.ids.Brought.{Brought}
use Rattle.commit_graph.specs.declared.history.Version.{Version}
use Rattle.dir_reconcile.specs.of_trace_book.Same.{same_epoch, same_call}
use Rattle.dir_reconcile.specs.of_trace_book.declared.record.Record.{Record}
use Rattle.dir_reconcile.specs.of_trace_book.declared.record.Record.TheVariants.{Up, Stopped, Leave, Join, Start, Accept, Grant, Refuse, Act, Commit, Release, Adopt}
use Rattle.dir_reconcile.specs.of_trace_book.declared.operation.Op.{Op}
use Rattle.dir_reconcile.specs.of_trace_book.declared.operation.Op.TheVariants as op
use Rattle.dir_reconcile.specs.of_trace_book.declared.operation.Outcome.{Outcome}
use Rattle.dir_reconcile.specs.of_trace_book.declared.operation.Outcome.TheVariants as outcome
use Rattle.file_effects.specs.Works.{begun, committed}
use Rattle.tree_model.specs.declared.copy.HeldCopy.{HeldCopy}
use Rattle.tree_model.specs.declared.instance.Granted.{Granted}
use Rattle.tree_model.specs.declared.instance.Instance.{Instance}
use Rattle.tree_model.specs.Lists.{change_first, without_first}
use Rattle.tree_model.specs.Folds.{Trace, over}
use Rattle.tree_model.specs.Packs.{has_pack}
use Rattle.tree_model.specs.Histories.{history, format_stamp, stamped_content}
use Rattle.tree_model.specs.State.{TreeState, empty_tree, is_inside, copy_of, with_copy, with_brought, with_all, stamps_of, kept_of, call_in, process_of, is_named, is_writer, instance_in, is_granted_here, is_make, held_at}
use Rattle.tree_model.specs.Working.{work_after}

-- Sites come and go.

abbrev pub without_number : ℕ → List ℕ → List ℕ
without_number n ns = filter (λ m. not (m == n)) ns

abbrev pub left : ℕ → TreeState → TreeState
left site t = record t { inside = without_number site t.inside }

-- the copies with the root directory of the format, where the site has a pack and no version of it yet
abbrev pub with_root : TreeState → ℕ → List HeldCopy
with_root t site = cond (has_pack t.config t.group site && is_none (copy_of t.copies site 1))
    (t.copies ++ record { site = site; ino = 1; now = format_stamp; held = None } ∷ [])
    t.copies

-- a copy in the epoch is the one of now, at the site that joins
abbrev pub entered : ℕ → HeldCopy → HeldCopy
entered site c = cond (c.site == site) (record c { held = Some c.now }) c

-- a site joins the epoch, and brings what it has of the group where it has a pack
abbrev pub joined : ℕ → Members → TreeState → TreeState
joined site members t = record t {
  members = Some members;
  inside = site ∷ without_number site t.inside;
  copies = map (entered site) (with_root t site);
  known = cond (has_pack t.config t.group site) (with_all (filter (λ (c : HeldCopy). c.site == site) (with_root t site)) t.known) t.known;
}

-- Versions.

-- the copy of a site that has this version now, in the epoch too while the site is there
abbrev pub copy_now : TreeState → ℕ → ℕ → Stamp → HeldCopy
copy_now t site ino stamp = record {
  site = site;
  ino = ino;
  now = stamp;
  held = cond (is_inside t site) (Some stamp) (held_at t site ino);
}

-- the site has this version of the file now
abbrev pub has_now : FileId → ℕ → Stamp → TreeState → TreeState
has_now f site stamp t = record t { copies = cond (f.group == t.group) (with_copy (copy_now t site f.ino stamp) t.copies) t.copies }

abbrev pub once_committed : Stamp → Instance → Instance
once_committed stamp x = record x { work = committed stamp x.work }

-- a commit is one of the open instance of its file at its site, while the site is in the epoch
abbrev pub committed_at : FileId → ℕ → Stamp → TreeState → TreeState
committed_at f site stamp t = record t {
  instances = cond (is_inside t site) (change_first (is_writer f site) (once_committed stamp) t.instances) t.instances;
}

abbrev pub published : FileId → Option Stamp → List Brought → List Brought
published f None known = known
published f (Some stamp) known = with_brought (record { ino = f.ino; stamp = stamp }) known

-- Instances.

abbrev pub grant_of : TreeState → CallId → Serial → Mode → FileId → ℕ → Granted
grant_of t call i m f ss = record { inst = i; call = call; process = process_of (call_in t.calls call); mode = m; file = f; ss = ss }

-- an instance as it is granted has the content of its version
abbrev pub opened : List Version → Granted → Option Stamp → Instance
opened h g stamp = record { grant = g; work = begun g.mode stamp (stamped_content h g.file stamp) }

abbrev pub granted : List Version → Granted → Option Stamp → TreeState → TreeState
granted h g stamp t = record t {
  grants = t.grants ++ g ∷ [];
  instances = cond (g.file.group == t.group) (t.instances ++ opened h g stamp ∷ []) t.instances;
}

-- the operation is a probe that finds the name free
abbrev pub is_passed_probe : Op → Outcome → Bool
is_passed_probe (op.Probe name) outcome.Done = true
is_passed_probe _ _ = false

abbrev pub with_make : Option Instance → List CallId → List CallId
with_make None calls = calls
with_make (Some x) calls = x.grant.call ∷ calls

abbrev pub without_make : CallId → List CallId → List CallId
without_make call calls = filter (λ d. not (same_call d call)) calls

-- the make of a released instance is over
abbrev pub without_made : Option Instance → List CallId → List CallId
without_made None calls = calls
without_made (Some x) calls = cond (is_make x.grant.mode) (without_make x.grant.call calls) calls

abbrev pub once_acted : List Version → TreeState → Op → Outcome → Instance → Instance
once_acted h t o result x = record x { work = work_after h t o result x }

abbrev pub acted : List Version → Serial → Op → Outcome → TreeState → TreeState
acted h i o result t = record t {
  instances = change_first (is_named i) (once_acted h t o result) t.instances;
  makes = cond (is_passed_probe o result) (with_make (instance_in t i) t.makes) t.makes;
}

abbrev pub released : Serial → FileId → Option Stamp → TreeState → TreeState
released i f stamp t = record t {
  known = published f stamp t.known;
  instances = without_first (is_named i) t.instances;
  makes = without_made (instance_in t i) t.makes;
}

-- The whole tree.

-- the tree after a record, by the history of the records before it
abbrev pub next : List Version → Record → TreeState → TreeState
next h (Up site boot) t = left site t
next h (Stopped site cause) t = left site t
next h (Leave site e) t = left site t
next h (Join site e members) t = cond (same_epoch e t.epoch) (joined site members t) (left site t)
next h (Start e group copies) t = cond (same_epoch e t.epoch && (group == t.group)) (record t { started = true }) t
next h (Accept site process call words) t = record t { calls = t.calls ++ record { call = call; process = process; words = words } ∷ [] }
next h (Commit f site stamp parents content) t = committed_at f site stamp (has_now f site stamp t)
next h (Adopt f site stamp) t = has_now f site stamp t
next h (Grant e call request i m f stamp ss) t = cond (same_epoch e t.epoch) (granted h (grant_of t call i m f ss) stamp t) t
next h (Refuse e call request i m f why) t = cond (same_epoch e t.epoch && ((f.group == t.group) && is_make m)) (record t { makes = without_make call t.makes }) t
next h (Act e i n o result) t = cond (same_epoch e t.epoch && is_granted_here t i) (acted h i o result t) t
next h (Release e i f stamp) t = cond (same_epoch e t.epoch && (f.group == t.group)) (released i f stamp t) t
next h _ t = t

-- the tree of an epoch and a group by the records so far
abbrev pub tree_of : Config → EpochId → ℕ → Trace → TreeState
tree_of c e group trace = over (empty_tree c e group) (λ r before t. next (history c before) r.what t) trace

-- What the records so far tell of a file in an epoch.

-- the versions of the file that members brought to the epoch or that were published in it, ascending
abbrev pub candidates : Config → Trace → EpochId → FileId → List Stamp
candidates c before e f = stamps_of (tree_of c e f.group before).known f.ino

-- the versions kept in the epoch: brought or published, and no proper ancestor of another such version
abbrev pub kept_in : Config → Trace → EpochId → FileId → List Stamp
kept_in c before e f = kept_of (history c before) (tree_of c e f.group before) f
