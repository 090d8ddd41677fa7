-- Runs whose trees compute, so that no definition is empty: the first calls at one site, and a file whose versions stand
-- beside each other.
use Rattle.std.proofs.Common.{ℕ, ◌≡◌, true, false, List, [], ◌∷◌, replicate, codes, None, Some, refl}
use Rattle.locus_ids.specs.declared.config.Config.{Config}
use Rattle.locus_ids.specs.declared.sites.Members.{Members}
use Rattle.locus_ids.specs.declared.ids.FileId.{FileId}
use Rattle.locus_ids.specs.declared.ids.Stamp.{Stamp}
use Rattle.locus_ids.specs.declared.ids.EpochId.{EpochId}
use Rattle.locus_ids.specs.declared.ids.CallId.{CallId}
use Rattle.locus_ids.specs.declared.ids.Serial.{Serial}
use Rattle.locus_ids.specs.declared.ids.Kind.TheVariants as kind
use Rattle.locus_ids.specs.declared.ids.Mode.TheVariants as mode
use Rattle.locus_ids.specs.declared.refusal.Refusal.TheVariants as refusal
use Rattle.trace_book.specs.declared.entry.Entry.{Entry}
use Rattle.trace_book.specs.declared.record.Record.{Record}
use Rattle.trace_book.specs.declared.record.Record.TheVariants as record_of
use Rattle.trace_book.specs.declared.call.Call.TheVariants as call
use Rattle.trace_book.specs.declared.call.OpenMode.TheVariants as how
use Rattle.trace_book.specs.declared.operation.Op.TheVariants as op
use Rattle.trace_book.specs.declared.operation.Outcome.TheVariants as outcome
use Rattle.trace_book.specs.declared.operation.What.TheVariants as what
use Rattle.trace_book.specs.declared.operation.Served.{Served}
use Rattle.trace_book.specs.declared.operation.Served.TheVariants as served
use Rattle.tree_model.specs.Folds.{Trace}
use Rattle.tree_model.specs.Histories.{history, held}
use Rattle.tree_model.specs.State.{TreeState, empty_tree, instance_in}
use Rattle.commit_graph.specs.declared.history.Version.{Version}
use Rattle.tree_model.specs.declared.instance.Instance.{Instance}
use Rattle.tree_model.specs.Given.{Gives, gives, gives_look}
use Rattle.tree_model.specs.Tree.{tree_of, kept_in}

abbrev one_site : Config
one_site = record { sites = 1; packs = record { 0 = 1 } ∷ record { 0 = 0 } ∷ record { 0 = 0 } ∷ record { 0 = 0 } ∷ []; mounts = [] }

abbrev alone : Members
alone = record { boot = 1 ∷ replicate 15 0 }

abbrev epoch : EpochId
epoch = record { number = 1; site = 1; boot = 1 }

abbrev caller : CallId
caller = record { site = 1; boot = 1; n = 1 }

abbrev instance : ℕ → Serial
instance n = record { us = 1; serial = n }

abbrev file : ℕ → FileId
file ino = record { group = 0; ino = ino }

abbrev stamp : ℕ → ℕ → Stamp
stamp site n = record { site = site; n = n }

abbrev at_line : ℕ → Record → Entry
at_line line what = record { line = line; what = what }

-- the bytes of a directory with one file
abbrev with_a : List ℕ
with_a = 1 ∷ 97 ∷ 0 ∷ 2 ∷ 1 ∷ 0 ∷ 0 ∷ 0 ∷ 1 ∷ []

abbrev started : Trace
started = at_line 4 (record_of.Start epoch 0 (record { ino = 1; stamp = stamp 0 0 } ∷ [])) ∷ at_line 3 (record_of.Join 1 epoch alone) ∷ []

abbrev root_opened : Trace
root_opened = at_line 6 (record_of.Grant epoch caller 1 (instance 1) mode.Write (file 1) (Some (stamp 0 0)) 1) ∷ at_line 5 (record_of.Accept 1 1 caller (call.Create (codes "/a") None)) ∷ started

abbrev probed : Trace
probed = at_line 6 (record_of.Act epoch (instance 1) 1 (op.Probe (codes "a")) outcome.Done) ∷ root_opened

abbrev making : Trace
making = at_line 6 (record_of.Grant epoch caller 3 (instance 2) mode.Make (file 2) None 1) ∷ probed

abbrev committed_new : Trace
committed_new = at_line 6 (record_of.Commit (file 2) 1 (stamp 1 1) [] []) ∷ making

abbrev made : Trace
made = at_line 6 (record_of.Release epoch (instance 2) (file 2) (Some (stamp 1 1))) ∷ committed_new

abbrev entered : Trace
entered = at_line 6 (record_of.Act epoch (instance 1) 2 (op.Insert (codes "a") 2 kind.File) outcome.Done) ∷ made

abbrev committed_root : Trace
committed_root = at_line 6 (record_of.Commit (file 1) 1 (stamp 1 1) (stamp 0 0 ∷ []) with_a) ∷ entered

abbrev created : Trace
created = at_line 6 (record_of.Release epoch (instance 1) (file 1) (Some (stamp 1 1))) ∷ committed_root

-- the tree gives the record that comes next
abbrev Follows : Trace → Record → Type 0
Follows before r = Gives (history one_site before) (tree_of one_site epoch 0 before) r

starts : Follows (at_line 3 (record_of.Join 1 epoch alone) ∷ []) (record_of.Start epoch 0 (record { ino = 1; stamp = stamp 0 0 } ∷ []))
starts = refl

grants_the_root : Follows (at_line 5 (record_of.Accept 1 1 caller (call.Create (codes "/a") None)) ∷ started) (record_of.Grant epoch caller 1 (instance 1) mode.Write (file 1) (Some (stamp 0 0)) 1)
grants_the_root = refl

grants_a_make : Follows probed (record_of.Grant epoch caller 3 (instance 2) mode.Make (file 2) None 1)
grants_a_make = refl

-- a second open of the root is busy while the first one is open
refuses_a_second : Follows probed (record_of.Refuse epoch caller 1 (instance 2) mode.Read (file 1) (refusal.Busy 1 1))
refuses_a_second = refl

-- the make has published its version, and the root's instance owes its entry
keeps_the_new_file : kept_in one_site made epoch (file 2) ≡ stamp 1 1 ∷ []
keeps_the_new_file = refl

-- the tree at the end: no instance is open, and both versions are kept
keeps_the_new_root : kept_in one_site created epoch (file 1) ≡ stamp 1 1 ∷ []
keeps_the_new_root = refl

closes_all : (tree_of one_site epoch 0 created).instances ≡ []
closes_all = refl

holds_the_new_root : held one_site created 1 (file 1) ≡ Some (stamp 1 1)
holds_the_new_root = refl

-- Operations.

abbrev root_instance : Instance
root_instance = record {
  grant = record { inst = instance 1; call = caller; process = 1; mode = mode.Write; file = file 1; ss = 1 };
  work = record { ops = 0; content = []; owes = false; last = Some (stamp 0 0); committed = None; fresh = false; changed = [] };
}

probes : Follows root_opened (record_of.Act epoch (instance 1) 1 (op.Probe (codes "a")) outcome.Done)
probes = refl

-- the insert leaves one changed page, and owes a commit
abbrev owing : Instance
owing = record root_instance { work = record { ops = 2; content = with_a; owes = true; last = Some (stamp 0 0); committed = None; fresh = false; changed = 0 ∷ [] } }

owes_the_entry : instance_in (tree_of one_site epoch 0 entered) (instance 1) ≡ Some owing
owes_the_entry = refl

-- A file with two versions beside each other.

abbrev version : Stamp → List Stamp → Version
version s parents = record { file = file 2; site = s.site; stamp = s; parents = parents; content = [] }

abbrev forked : List Version
forked = version (stamp 3 1) (stamp 1 1 ∷ []) ∷ version (stamp 1 2) (stamp 1 1 ∷ []) ∷ version (stamp 1 1) [] ∷ []

abbrev flagged : TreeState
flagged = record (empty_tree one_site epoch 0) {
  started = true;
  known = record { ino = 2; stamp = stamp 1 1 } ∷ record { ino = 2; stamp = stamp 1 2 } ∷ record { ino = 2; stamp = stamp 3 1 } ∷ [];
}

-- a look is served neither, and told both
tells_the_conflict : gives_look forked flagged (file 2) what.Stat (served.No (refusal.Conflict (stamp 1 2) (stamp 3 1))) ≡ true
tells_the_conflict = refl

-- the whole content of either may be asked
gives_either : gives_look forked flagged (file 2) (what.Whole (stamp 3 1)) (served.At (stamp 3 1)) ≡ true
gives_either = refl

-- and no other
gives_no_other : (result : Served) → gives_look forked flagged (file 2) (what.Whole (stamp 1 1)) result ≡ false
gives_no_other result = refl

-- What the tree of the first calls doesn't give.

abbrev Breaks : Trace → Record → Type 0
Breaks before r = gives (history one_site before) (tree_of one_site epoch 0 before) r ≡ false

-- an open that nobody excludes is busy
busy_with_nobody : Breaks started (record_of.Refuse epoch caller 1 (instance 2) mode.Read (file 1) (refusal.Busy 1 1))
busy_with_nobody = refl

-- an operation is counted twice, or not at all
skips_an_operation : Breaks root_opened (record_of.Act epoch (instance 1) 2 (op.Probe (codes "a")) outcome.Done)
skips_an_operation = refl

repeats_an_operation : Breaks probed (record_of.Act epoch (instance 1) 1 (op.Probe (codes "a")) outcome.Done)
repeats_an_operation = refl

-- a version is granted that isn't the only kept one
grants_an_older_version : Breaks (at_line 7 (record_of.Accept 1 1 caller (call.Open (codes "/a") how.Read)) ∷ created) (record_of.Grant epoch caller 2 (instance 3) mode.Read (file 1) (Some (stamp 0 0)) 1)
grants_an_older_version = refl

-- the number of the root, or one that is in use, is given to a new file
gives_the_root_again : Breaks probed (record_of.Grant epoch caller 3 (instance 2) mode.Make (file 1) None 1)
gives_the_root_again = refl

gives_a_number_again : Breaks making (record_of.Grant epoch caller 3 (instance 3) mode.Make (file 2) None 1)
gives_a_number_again = refl

-- a name of an instance is granted again
grants_a_name_again : Breaks probed (record_of.Grant epoch caller 3 (instance 1) mode.Make (file 2) None 1)
grants_a_name_again = refl

-- an instance ends that owes a commit
drops_a_change : Breaks entered (record_of.Release epoch (instance 1) (file 1) None)
drops_a_change = refl

-- the group starts twice, or without what a member brought
starts_again : Breaks started (record_of.Start epoch 0 (record { ino = 1; stamp = stamp 0 0 } ∷ []))
starts_again = refl

starts_with_nothing : Breaks (at_line 3 (record_of.Join 1 epoch alone) ∷ []) (record_of.Start epoch 0 [])
starts_with_nothing = refl

-- a pair of name and inode that stands is inserted
inserts_a_pair_again : Breaks entered (record_of.Act epoch (instance 1) 3 (op.Insert (codes "a") 2 kind.File) outcome.Done)
inserts_a_pair_again = refl

-- a remove without an instance of the file that it removes
removes_unseen : Breaks entered (record_of.Act epoch (instance 1) 3 (op.Remove (codes "a") 2) outcome.Done)
removes_unseen = refl
