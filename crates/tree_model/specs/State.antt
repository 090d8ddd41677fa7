-- The one tree of an epoch and a group as a value: what later steps ask of the records so far, and nothing else.
use Rattle.std.specs.Prelude.{ℕ, ◌==◌, Bool, true, false, not, ◌&&◌, ◌||◌, List, [], ◌∷◌, Option, None, Some, cond, filter, map, nat_lt}
use Rattle.std.specs.List.{find, list_any}
use Rattle.std.specs.Option.{option_map}
use Rattle.locus_ids.specs.declared.config.Config.{Config}
use Rattle.locus_ids.specs.declared.sites.Members.{Members}
use Rattle.locus_ids.specs.declared.ids.FileId.{FileId}
use Rattle.locus_ids.specs.declared.ids.Stamp.{Stamp}
use Rattle.locus_ids.specs.declared.ids.EpochId.{EpochId}
use Rattle.locus_ids.specs.declared.ids.CallId.{CallId}
use Rattle.locus_ids.specs.declared.ids.Serial.{Serial}
use Rattle.locus_ids.specs.declared.ids.Mode.{Mode}
use Rattle.locus_ids.specs.declared.ids.Mode.TheVariants as mode
use Rattle.locus_ids.specs.declared.ids.Brought.{Brought}
use Rattle.commit_graph.specs.declared.history.Version.{Version}
use Rattle.commit_graph.specs.Versions.{same_file, same_stamp, is_stamp_below, kept}
use Rattle.commit_graph.specs.Grants.{Opener, is_read}
use Rattle.dir_reconcile.specs.of_trace_book.Same.{same_call, same_serial}
use Rattle.dir_reconcile.specs.of_trace_book.declared.call.Call.{Call}
use Rattle.tree_model.specs.Lists.{put_first, latest}
use Rattle.tree_model.specs.Same.{same_brought}
use Rattle.tree_model.specs.declared.copy.HeldCopy.{HeldCopy}
use Rattle.tree_model.specs.declared.accepted.AcceptedCall.{AcceptedCall}
use Rattle.tree_model.specs.declared.instance.Granted.{Granted}
use Rattle.tree_model.specs.declared.instance.Instance.{Instance}

pub record TreeState : Type 0 where
  -- which tree it is
  pub config : Config
  pub epoch : EpochId
  pub group : ℕ
  -- the members of the epoch, once a site has joined it
  pub members : Option Members
  -- the sites that are in the epoch now
  pub inside : List ℕ
  -- what each site has of the group's files, now and in the epoch, with one entry for each site and inode
  pub copies : List HeldCopy
  -- the versions that were brought to the epoch or published in it, by inode and stamp, ascending, each once
  pub known : List Brought
  -- the group has started
  pub started : Bool
  -- the accepted calls, of all sites, the earliest first
  pub calls : List AcceptedCall
  -- the grants of the epoch, of all its groups, the earliest first
  pub grants : List Granted
  -- the open instances of the group, the earliest granted first
  pub instances : List Instance
  -- the calls whose makes in the group are underway, the latest first
  pub makes : List CallId

-- the tree before the first record
abbrev pub empty_tree : Config → EpochId → ℕ → TreeState
empty_tree c e group = record {
  config = c;
  epoch = e;
  group = group;
  members = None;
  inside = [];
  copies = [];
  known = [];
  started = false;
  calls = [];
  grants = [];
  instances = [];
  makes = [];
}

-- Sites and what they have.

abbrev pub has_number : List ℕ → ℕ → Bool
has_number ns n = list_any (λ m. m == n) ns

-- the site is in the epoch
abbrev pub is_inside : TreeState → ℕ → Bool
is_inside t site = has_number t.inside site

abbrev pub is_copy_of : ℕ → ℕ → HeldCopy → Bool
is_copy_of site ino c = (c.site == site) && (c.ino == ino)

-- what the site has of the inode
abbrev pub copy_of : List HeldCopy → ℕ → ℕ → Option HeldCopy
copy_of cs site ino = find (is_copy_of site ino) cs

abbrev pub held_of : Option HeldCopy → Option Stamp
held_of None = None
held_of (Some c) = c.held

-- the version that the site had of the inode in the epoch: it stays what it was when the site left
abbrev pub held_at : TreeState → ℕ → ℕ → Option Stamp
held_at t site ino = held_of (copy_of t.copies site ino)

-- the copies with this one in place of the one of its site and inode
abbrev pub with_copy : HeldCopy → List HeldCopy → List HeldCopy
with_copy new cs = put_first (is_copy_of new.site new.ino) new cs

-- Versions that were brought or published.

-- they ascend by inode, and those of one inode by stamp
abbrev pub is_brought_below : Brought → Brought → Bool
is_brought_below a b = nat_lt a.ino b.ino || ((a.ino == b.ino) && is_stamp_below a.stamp b.stamp)

-- a version at its place among those that ascend, once
abbrev pub with_brought : Brought → List Brought → List Brought
with_brought new [] = new ∷ []
with_brought new (b ∷ bs) = cond (is_brought_below new b) (new ∷ b ∷ bs) (cond (same_brought new b) (b ∷ bs) (b ∷ with_brought new bs))

-- these versions too
abbrev pub with_all : List HeldCopy → List Brought → List Brought
with_all [] known = known
with_all (c ∷ cs) known = with_all cs (with_brought (record { ino = c.ino; stamp = c.now }) known)

-- the stamps of the file, ascending
abbrev pub stamps_of : List Brought → ℕ → List Stamp
stamps_of known ino = map (λ (b : Brought). b.stamp) (filter (λ (b : Brought). b.ino == ino) known)

-- the versions of the file that are kept: brought or published, and no proper ancestor of another such version
abbrev pub kept_of : List Version → TreeState → FileId → List Stamp
kept_of h t f = kept h f (stamps_of t.known f.ino)

-- the stamp is one of these
abbrev pub has_stamp : List Stamp → Stamp → Bool
has_stamp ss s = list_any (λ t. same_stamp t s) ss

abbrev pub has_stamp_of : List Stamp → Option Stamp → Bool
has_stamp_of ss None = false
has_stamp_of ss (Some s) = has_stamp ss s

-- Calls.

abbrev pub is_call_of : CallId → AcceptedCall → Bool
is_call_of c a = same_call a.call c

-- the accepted call of this name, the latest
abbrev pub call_in : List AcceptedCall → CallId → Option AcceptedCall
call_in calls c = latest (is_call_of c) calls

abbrev pub process_of : Option AcceptedCall → ℕ
process_of None = 0
process_of (Some a) = a.process

abbrev pub words_of : Option AcceptedCall → Option Call
words_of found = option_map (λ (a : AcceptedCall). a.words) found

-- Grants and instances.

abbrev pub is_grant_of : Serial → Granted → Bool
is_grant_of i g = same_serial g.inst i

-- some grant of the epoch names the instance
abbrev pub is_granted : TreeState → Serial → Bool
is_granted t i = list_any (is_grant_of i) t.grants

-- the group of the grant
abbrev pub is_group_of : Option Granted → ℕ → Bool
is_group_of None group = false
is_group_of (Some g) group = g.file.group == group

-- the instance was granted in the group of the tree
abbrev pub is_granted_here : TreeState → Serial → Bool
is_granted_here t i = is_group_of (find (is_grant_of i) t.grants) t.group

-- some instance of the epoch was granted this file
abbrev pub is_taken : TreeState → FileId → Bool
is_taken t f = list_any (λ (g : Granted). same_file g.file f) t.grants

-- the open instance of this name
abbrev pub is_named : Serial → Instance → Bool
is_named i x = is_grant_of i x.grant

abbrev pub instance_in : TreeState → Serial → Option Instance
instance_in t i = find (is_named i) t.instances

-- an open instance by which the file may be committed at the site
abbrev pub is_writer : FileId → ℕ → Instance → Bool
is_writer f site x = same_file x.grant.file f && ((x.grant.ss == site) && not (is_read x.grant.mode))

-- the open instances of a file, as they exclude others, the earliest granted first
abbrev pub opener_of : Instance → Opener
opener_of x = record { site = x.grant.call.site; process = x.grant.process; mode = x.grant.mode }

abbrev pub openers : TreeState → FileId → List Opener
openers t f = map opener_of (filter (λ (x : Instance). same_file x.grant.file f) t.instances)

abbrev pub is_make : Mode → Bool
is_make mode.Make = true
is_make mode.Read = false
is_make mode.Write = false
is_make mode.Resolve = false
is_make mode.Mend = false
