-- What the records so far tell, as one value, and what it becomes by the next record.
use Rattle.std.specs.Prelude.{ℕ, ◌==◌, Bool, true, false, not, ◌&&◌, cond, nat_lt, List, [], ◌∷◌, length, filter, map, take, replicate, Option, None}
use Rattle.std.specs.List.{find, list_any}
use Rattle.std.specs.Option.{option_map}
use Rattle.locus_ids.specs.Sizes.{sites_max}
use Rattle.locus_ids.specs.declared.config.Config.{Config}
use Rattle.locus_ids.specs.declared.sites.Sites.{Sites}
use Rattle.locus_ids.specs.declared.sites.Members.{Members}
use Rattle.locus_ids.specs.declared.ids.FileId.{FileId}
use Rattle.locus_ids.specs.declared.ids.Stamp.{Stamp}
use Rattle.locus_ids.specs.declared.ids.EpochId.{EpochId}
use Rattle.locus_ids.specs.declared.ids.CallId.{CallId}
use Rattle.locus_ids.specs.declared.ids.Serial.{Serial}
use Rattle.locus_ids.specs.declared.ids.Kind.{Kind}
use Rattle.locus_ids.specs.declared.ids.Kind.TheVariants.{File, Dir}
use Rattle.commit_graph.specs.declared.history.Version.{Version}
use Rattle.commit_graph.specs.Versions.{same_file, kept}
use Rattle.commit_graph.specs.Vectors.{numbers_from}
use Rattle.commit_graph.specs.Grants.{is_read}
use Rattle.trace_book.specs.Same.{same_epoch, same_call, same_serial}
use Rattle.trace_book.specs.declared.call.Call.{Call}
use Rattle.trace_book.specs.declared.call.Call.TheVariants as call
use Rattle.trace_book.specs.declared.descriptor.Descriptor.{Descriptor}
use Rattle.trace_book.specs.declared.descriptor.Beginning.{Beginning}
use Rattle.trace_book.specs.declared.descriptor.Beginning.TheVariants as begins
use Rattle.lawful_trace.specs.of_file_effects.declared.work.Work.{Work}
use Rattle.lawful_trace.specs.of_call_rules.declared.answer.Answer.{Answer}
use Rattle.lawful_trace.specs.of_call_rules.declared.want.Want.{Want}
use Rattle.lawful_trace.specs.of_call_rules.Scripts.{wants}
use Rattle.lawful_trace.specs.of_call_rules.Walks.{root_of}
use Rattle.lawful_trace.specs.of_tree_model.declared.instance.Granted.{Granted}
use Rattle.lawful_trace.specs.of_tree_model.Epochs.{starts_up, is_in}
use Rattle.lawful_trace.specs.of_tree_model.Histories.{format_version, format_stamp}
use Rattle.lawful_trace.specs.of_tree_model.Packs.{has_pack, packs_of, is_member, all_sites, no_sites}

-- The value.

-- A version of a file.
pub record Copy : Type 0 where
  pub file : FileId
  pub stamp : Stamp

-- What a number of a process stands for.
pub record Named : Type 0 where
  pub process : ℕ
  pub fd : ℕ
  pub names : Descriptor

-- A site of the cluster.
pub record Site : Type 0 where
  pub number : ℕ
  pub up : Bool
  pub boot : ℕ
  -- the epoch that it is in, and the one that it joined last in this boot
  pub epoch : Option EpochId
  pub joined : Option EpochId
  -- how many calls it has accepted in this boot, mends included
  pub accepted : ℕ
  pub descriptors : List Named
  -- the version that it has of each file
  pub held : List Copy

-- An accepted call.
pub record CallSoFar : Type 0 where
  pub id : CallId
  pub process : ℕ
  pub words : Call
  -- the epoch that its site was in
  pub epoch : Option EpochId
  -- where it began by the descriptors of its process, the number that an open would take, and which use of its instance it is
  pub begins : Beginning
  pub free : Option ℕ
  pub turn : ℕ
  -- the instance that was granted to it last, as a descriptor would name it
  pub granted : Option Descriptor
  -- what its requests were answered, the earliest first
  pub answers : List Answer
  pub waits : Bool

-- An open instance.
pub record Instance : Type 0 where
  pub grant : Granted
  pub work : Work
  -- a descriptor has named it
  pub named : Bool
  -- a read of a steady descriptor has opened it, and is its first use
  pub again : Bool
  -- how many calls but its close were accepted on its descriptor, with that read
  pub uses : ℕ

-- A make whose name was found free, and that is neither refused nor released.
pub record Make : Type 0 where
  pub call : CallId
  pub group : ℕ

-- What a site had when it left an epoch, or stopped in it.
pub record Left : Type 0 where
  pub site : ℕ
  pub held : List Copy

-- An epoch, with its one tree of each group.
pub record Epoch : Type 0 where
  pub id : EpochId
  pub members : Members
  -- the sites that are or have been in it
  pub joined : List ℕ
  pub left : List Left
  -- the versions that were brought to it or published in it, ascending, each once
  pub known : List Copy
  -- the groups that have started
  pub started : List ℕ
  -- all grants, the latest first
  pub granted : List Granted
  -- the open instances, the earliest granted first
  pub opened : List Instance
  pub makes : List Make
  -- the directories of which a mend was refused for good
  pub unmended : List FileId

-- What the call that made a file said: its kind, and the sites that it is for.
pub record Making : Type 0 where
  pub file : FileId
  pub kind : Kind
  pub set : Sites

-- What the last record was, where the next may hang on it.
pub data Last : Type 0 where
  -- a site left its epoch, and by this its calls may have been answered so, up to those of this process
  Leaving : (site process : ℕ) → Last
  -- this call was accepted
  Accepting : CallId → Last
  Another : Last

-- What the records so far tell.
pub record Past : Type 0 where
  pub sites : List Site
  pub epochs : List Epoch
  pub calls : List CallSoFar
  -- each commit as a version, the newest first, and last the versions that the format made
  pub history : List Version
  pub files : List Making
  pub last : Last

-- Looking into it.

-- the first of a list that passes, or this value where none does
abbrev pub first_or : {X : Type 0} → X → (X → Bool) → List X → X
first_or other p [] = other
first_or other p (x ∷ xs) = cond (p x) x (first_or other p xs)

abbrev pub is_number : List ℕ → ℕ → Bool
is_number ns n = list_any (λ m. m == n) ns

-- a site that is none of the cluster: it never runs
abbrev pub no_site : Site
no_site = record { number = 0; up = false; boot = 0; epoch = None; joined = None; accepted = 0; descriptors = []; held = [] }

abbrev pub site_at : Past → ℕ → Site
site_at p site = first_or no_site (λ (s : Site). s.number == site) p.sites

-- an epoch that nobody has joined
abbrev pub unformed : EpochId → Epoch
unformed e = record { id = e; members = record { boot = replicate sites_max 0 }; joined = []; left = []; known = []; started = []; granted = []; opened = []; makes = []; unmended = [] }

abbrev pub epoch_at : Past → EpochId → Epoch
epoch_at p e = first_or (unformed e) (λ (t : Epoch). same_epoch t.id e) p.epochs

-- what the call that made the file said; of one that none has made, a plain file for no site
abbrev pub making_of : Past → FileId → Making
making_of p f = first_or (record { file = f; kind = File; set = no_sites }) (λ (m : Making). same_file m.file f) p.files

-- the version of the file among these
abbrev pub stamp_in : List Copy → FileId → Option Stamp
stamp_in copies f = option_map (λ (v : Copy). v.stamp) (find (λ (v : Copy). same_file v.file f) copies)

-- what a site has of a file now
abbrev pub held : Past → ℕ → FileId → Option Stamp
held p site f = stamp_in (site_at p site).held f

-- what a site has in an epoch: it stays what it was when the site left or stopped
abbrev pub copies_in : Past → Epoch → ℕ → List Copy
copies_in p t site = cond (is_in (site_at p site).epoch t.id)
    (site_at p site).held
    (first_or (record { site = site; held = [] }) (λ (l : Left). l.site == site) t.left).held

abbrev pub held_in : Past → Epoch → ℕ → FileId → Option Stamp
held_in p t site f = stamp_in (copies_in p t site) f

-- the versions of the file that were brought to the epoch or published in it, ascending
abbrev pub candidates : Epoch → FileId → List Stamp
candidates t f = map (λ (v : Copy). v.stamp) (filter (λ (v : Copy). same_file v.file f) t.known)

-- those of them that are no proper ancestor of another
abbrev pub kept_in : Past → Epoch → FileId → List Stamp
kept_in p t f = kept p.history f (candidates t f)

-- the members that have a pack of the group, ascending
abbrev pub packing : Config → Epoch → ℕ → List ℕ
packing c t group = filter (λ site. is_member t.members site && has_pack c group site) all_sites

-- the synchronization site of a group, the least of them; none where there is none
abbrev pub sync_of : Config → Epoch → ℕ → List ℕ
sync_of c t group = take 1 (packing c t group)

abbrev pub is_named : Serial → Instance → Bool
is_named i x = same_serial x.grant.inst i

-- an open instance of the file at this storage site that isn't only read
abbrev pub is_writer : FileId → ℕ → Instance → Bool
is_writer f site x = same_file x.grant.file f && ((x.grant.ss == site) && not (is_read x.grant.mode))

-- Calls and what they ask.

abbrev pub is_close : Call → Bool
is_close (call.Close fd) = true
is_close _ = false

-- the call began on a descriptor of this instance
abbrev pub is_on : Beginning → EpochId → Serial → Bool
is_on (begins.Uses epoch inst) e i = same_epoch epoch e && same_serial inst i
is_on (begins.Denied why) e i = false
is_on (begins.Walks id) e i = false
is_on (begins.Reopens version last) e i = false
is_on begins.Frees e i = false

-- operation n of the instance is a step of this call: of the n-th use of its descriptor, or, where none has named it or this call named
-- it by its first use, of the call that it was granted to
abbrev pub acts : EpochId → Instance → ℕ → CallSoFar → Bool
acts e x n k = cond (x.named && not (x.again && (n == 1))) (is_on k.begins e x.grant.inst && (not (is_close k.words) && (k.turn == n))) (same_call k.id x.grant.call)

-- its release is a step of this call: of the close of its descriptor, or of the call that it was granted to
abbrev pub ends : EpochId → Instance → CallSoFar → Bool
ends e x k = cond x.named (is_on k.begins e x.grant.inst && is_close k.words) (same_call k.id x.grant.call)

-- some member of the call's epoch has a pack of the group
abbrev pub is_packed : Config → Past → CallSoFar → ℕ → Bool
is_packed c p k group = list_any (λ (t : Epoch). is_in k.epoch t.id && nat_lt 0 (length (sync_of c t group))) p.epochs

-- what the script of the call asks next after these answers, or its reply
abbrev pub asks_after : Config → Past → CallSoFar → List Answer → Want
asks_after c p k answers = wants c.mounts (is_packed c p k) k.free k.words k.begins answers

abbrev pub asks : Config → Past → CallSoFar → Want
asks c p k = asks_after c p k k.answers

-- what the numbers of a process stand for
abbrev pub table : Past → ℕ → ℕ → ℕ → Option Descriptor
table p site process fd = option_map (λ (d : Named). d.names) (find (λ (d : Named). (d.process == process) && (d.fd == fd)) (site_at p site).descriptors)

-- The value before the first record.

abbrev pub groups : List ℕ
groups = numbers_from 0 4

-- a site as the cluster begins: it runs with boot number 1, and has the root directory of each group that it packs
abbrev pub first_site : Config → ℕ → Site
first_site c site = record no_site {
  number = site;
  up = starts_up c site;
  boot = 1;
  held = map (λ group. record { file = root_of group; stamp = format_stamp }) (filter (λ group. has_pack c group site) groups);
}

abbrev pub nothing_yet : Config → Past
nothing_yet c = record {
  sites = map (first_site c) (numbers_from 1 c.sites);
  epochs = [];
  calls = [];
  history = map format_version (filter (λ group. nat_lt 0 (packs_of c group).0) groups);
  files = map (λ group. record { file = root_of group; kind = Dir; set = packs_of c group }) groups;
  last = Another;
}
