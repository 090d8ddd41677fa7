-- Each script asks something first, or replies at once.
use Rattle.std.proofs.Common.{◌≡◌, ℕ, Bool, true, false, cond, List, [], ◌∷◌, Option, Some, None, refl}
use Rattle.locus_ids.specs.declared.ids.CallId.{CallId}
use Rattle.locus_ids.specs.declared.ids.EpochId.{EpochId}
use Rattle.locus_ids.specs.declared.ids.FileId.{FileId}
use Rattle.locus_ids.specs.declared.ids.Kind.{Kind}
use Rattle.locus_ids.specs.declared.ids.Kind.TheVariants as kind
use Rattle.locus_ids.specs.declared.ids.Serial.{Serial}
use Rattle.locus_ids.specs.declared.config.Mount.{Mount}
use Rattle.locus_ids.specs.declared.refusal.Refusal.{Refusal}
use Rattle.locus_ids.specs.declared.refusal.Refusal.TheVariants as refusal
use Rattle.commit_graph.specs.Grants.{is_read}
use Rattle.trace_book.specs.Names.{components, last_of, but_last}
use Rattle.trace_book.specs.declared.call.Call.{Call}
use Rattle.trace_book.specs.declared.call.Call.TheVariants as call
use Rattle.trace_book.specs.declared.call.OpenMode.{OpenMode}
use Rattle.trace_book.specs.declared.descriptor.Beginning.{Beginning}
use Rattle.trace_book.specs.declared.descriptor.Beginning.TheVariants as begins
use Rattle.trace_book.specs.declared.descriptor.Descriptor.{Descriptor}
use Rattle.trace_book.specs.declared.descriptor.OneVersion.{OneVersion}
use Rattle.trace_book.specs.declared.reply.Reply.TheVariants as reply
use Rattle.call_rules.specs.Mailing.{shown_messages}
use Rattle.call_rules.specs.declared.answer.Answer.{Answer}
use Rattle.call_rules.specs.declared.want.Want.{Want}
use Rattle.call_rules.specs.declared.want.Want.TheVariants as want
use Rattle.call_rules.specs.Descriptors.{lowest_free, is_in, begins_again, begins_change, begins_close, begins_read, begins_walk, begins_open, beginning, held_or, stale_or}
use Rattle.call_rules.specs.Making.{opens_dir, changes_dir}
use Rattle.call_rules.specs.Opening.{opens_file, uses_wants, lists, describes, Shows, shown_in}
use Rattle.call_rules.specs.Reopening.{reopen_wants}
use Rattle.call_rules.specs.Scripts.{path_wants, begun_wants, named_wants, in_group, where_packed, wants}
use Rattle.call_rules.specs.Walks.{Walked, Asks, Fails, There, Strays, root_of, mounted_in, passes, walk, walked}
use Rattle.call_rules.specs.Words.{is_badly_named, is_too_long}
use Rattle.row_laws.specs.CallRows.Scripts.{BeginsWith, Starts, OnDescriptor}

-- ---- where calls begin ----

-- not by a walk
abbrev OnFile : Beginning → Type 0
OnFile (begins.Walks id) = ⊥
OnFile _ = Unit {0}

-- not on a descriptor
abbrev OnPath : Beginning → Type 0
OnPath (begins.Uses e i) = ⊥
OnPath (begins.Reopens version last) = ⊥
OnPath _ = Unit {0}

-- neither by a walk nor by a read that opens again
abbrev OnHeld : Beginning → Type 0
OnHeld (begins.Walks id) = ⊥
OnHeld (begins.Reopens version last) = ⊥
OnHeld _ = Unit {0}

on_read : (now : Option EpochId) (o : Option Descriptor) → OnFile (begins_read now o)
on_read now None = tt
on_read now (Some d) = elim (is_in now d.epoch) as (λ b. OnFile (cond b (begins.Uses d.epoch d.inst) (stale_or (begins_again now d.epoch) d.epoch d.steady))) [ true ↦ tt | false ↦ unheld now d.steady ]
  where
    unheld : (at : Option EpochId) (v : Option OneVersion) → OnFile (stale_or (begins_again at d.epoch) d.epoch v)
    unheld at None = tt
    unheld None (Some version) = tt
    unheld (Some e) (Some version) = tt

on_close : (now : Option EpochId) (o : Option Descriptor) → OnHeld (begins_close now o)
on_close now None = tt
on_close now (Some d) = elim (is_in now d.epoch) as (λ b. OnHeld (cond b (begins.Uses d.epoch d.inst) (stale_or (λ version. begins.Frees) d.epoch d.steady))) [ true ↦ tt | false ↦ unheld d.steady ]
  where
    unheld : (v : Option OneVersion) → OnHeld (stale_or (λ version. begins.Frees) d.epoch v)
    unheld None = tt
    unheld (Some version) = tt

on_change : (now : Option EpochId) (o : Option Descriptor) → OnHeld (begins_change now o)
on_change now None = tt
on_change now (Some d) = by_version d.steady refl
  where
    plain : (a b : Bool) → OnHeld (cond a (cond b (begins.Denied refusal.ReadOnly) (begins.Uses d.epoch d.inst)) (begins.Denied (refusal.Stale d.epoch)))
    plain true true = tt
    plain true false = tt
    plain false b = tt

    by_version : (v : Option OneVersion) → d.steady ≡ v → OnHeld (begins_change now (Some d))
    by_version None e = rw e (plain (is_in now d.epoch) (is_read d.mode))
    by_version (Some version) e = rw e tt

on_path : (id : CallId) (now : Option EpochId) → OnPath (begins_walk now id)
on_path id None = tt
on_path id (Some e) = tt

on_open : (id : CallId) (now : Option EpochId) (free : Option ℕ) → OnPath (begins_open now id free)
on_open id now None = tt
on_open id now (Some fd) = on_path id now

-- ---- a walk without answers ----

abbrev Fresh : Walked → Type 0
Fresh (There at k rest) = rest ≡ []
Fresh Strays = ⊥
Fresh _ = Unit {0}

walk_fresh : (mounts : List Mount) (cs : List (List ℕ)) (reached : List ℕ) (at : FileId) (k : Kind) → Fresh (walk mounts cs reached at k [])
walk_fresh mounts [] reached at k = refl
walk_fresh mounts (c ∷ cs) reached at kind.File = tt
walk_fresh mounts (c ∷ cs) reached at kind.Dir = by_mount (λ next. walk_fresh mounts cs c next kind.Dir) (mounted_in mounts at c)
  where
    by_mount : ((next : FileId) → Fresh (walk mounts cs c next kind.Dir [])) → (o : Option ℕ) → Fresh (passes (walk mounts cs c) at c o [])
    by_mount go (Some group) = go (root_of group)
    by_mount go None = tt

walked_starts : (b : Beginning) (mounts : List Mount) (path : List (List ℕ)) (next : FileId → Kind → List Answer → Want) → ((at : FileId) (k : Kind) → Starts b (next at k [])) → Starts b (walked mounts path [] next)
walked_starts b mounts path next after = by_walk (walk mounts path [] (root_of 0) kind.Dir []) refl (walk_fresh mounts path [] (root_of 0) kind.Dir)
  where
    by_walk : (w : Walked) → walk mounts path [] (root_of 0) kind.Dir [] ≡ w → Fresh (walk mounts path [] (root_of 0) kind.Dir []) → Starts b (walked mounts path [] next)
    by_walk (Asks dir name) w f = rw w tt
    by_walk (Fails why) w f = rw w tt
    by_walk Strays w f = absurd (rw w at f)
    by_walk (There there found rest) w f =
        let none : rest ≡ [] = rw w at f in
        let k : Starts b (next there found rest) = rw none (after there found) in
        rw w k

-- ---- every call ----

box_starts : (b : Beginning) (mounts : List Mount) (names : List (List ℕ)) (next : ℕ → Serial → List Answer → Want) → Starts b (walked mounts names [] (λ dir k rest. opens_dir (last_of names) (next dir.group) dir k rest))
box_starts b mounts names next = walked_starts b mounts names (λ dir k rest. opens_dir (last_of names) (next dir.group) dir k rest) by_kind
  where
    by_kind : (at : FileId) (k : Kind) → Starts b (opens_dir (last_of names) (next at.group) at k [])
    by_kind at kind.File = tt
    by_kind at kind.Dir = tt

dir_starts : (b : Beginning) (mounts : List Mount) (path : List ℕ) (next : ℕ → Serial → List Answer → Want) → Starts b (changes_dir mounts path next [])
dir_starts b mounts path next = box_starts b mounts (but_last (components path)) next

lists_starts : (b : Beginning) (shows : Shows) (reached : List ℕ) (at : FileId) (k : Kind) → Starts b (lists shows reached at k [])
lists_starts b shows reached at kind.File = tt
lists_starts b shows reached at kind.Dir = tt

opens_starts : (b : Beginning) (m : OpenMode) (free : Option ℕ) (at : FileId) (k : Kind) → Starts b (opens_file m free at k [])
opens_starts b m free at kind.File = tt
opens_starts b m free at kind.Dir = tt

-- a call on a descriptor doesn't walk, and one that walks has none
abbrev Suits : Call → Beginning → Type 0
Suits (call.Read fd at len) b = OnFile b
Suits (call.Write fd at bytes) b = OnHeld b
Suits (call.Cut fd len) b = OnHeld b
Suits (call.Commit fd) b = OnHeld b
Suits (call.Abort fd) b = OnHeld b
Suits (call.Close fd) b = OnHeld b
Suits _ b = OnPath b

walks_start : (mounts : List Mount) (free : Option ℕ) (id : CallId) (words : Call) → Suits words (begins.Walks id) → Starts (begins.Walks id) (path_wants mounts free id words [])
walks_start mounts free id (call.Create path sites) h = dir_starts (begins.Walks id) mounts path _
walks_start mounts free id (call.MakeDir path) h = dir_starts (begins.Walks id) mounts path _
walks_start mounts free id (call.Unlink path) h = dir_starts (begins.Walks id) mounts path _
walks_start mounts free id (call.RemoveDir path) h = dir_starts (begins.Walks id) mounts path _
walks_start mounts free id (call.Rename path name) h = dir_starts (begins.Walks id) mounts path _
walks_start mounts free id (call.List path) h = walked_starts (begins.Walks id) mounts (components path) (lists (shown_in mounts) (last_of (components path))) (lists_starts (begins.Walks id) (shown_in mounts) (last_of (components path)))
walks_start mounts free id (call.Stat path) h = walked_starts (begins.Walks id) mounts (components path) describes (λ at k. tt)
walks_start mounts free id (call.Open path how) h = walked_starts (begins.Walks id) mounts (components path) (opens_file how free) (opens_starts (begins.Walks id) how free)
walks_start mounts free id (call.Mail path bytes) h = box_starts (begins.Walks id) mounts (components path) _
walks_start mounts free id (call.Mails path) h = walked_starts (begins.Walks id) mounts (components path) (lists shown_messages (last_of (components path))) (lists_starts (begins.Walks id) shown_messages (last_of (components path)))
walks_start mounts free id (call.Mend file) h = tt
walks_start mounts free id (call.Read fd at len) h = absurd h
walks_start mounts free id (call.Write fd at bytes) h = absurd h
walks_start mounts free id (call.Cut fd len) h = absurd h
walks_start mounts free id (call.Commit fd) h = absurd h
walks_start mounts free id (call.Abort fd) h = absurd h
walks_start mounts free id (call.Close fd) h = absurd h

uses_start : (words : Call) (e : EpochId) (i : Serial) → Suits words (begins.Uses e i) → Starts (begins.Uses e i) (uses_wants words i [])
uses_start (call.Read fd at len) e i h = (e, refl)
uses_start (call.Write fd at bytes) e i h = (e, refl)
uses_start (call.Cut fd len) e i h = (e, refl)
uses_start (call.Commit fd) e i h = (e, refl)
uses_start (call.Abort fd) e i h = (e, refl)
uses_start (call.Close fd) e i h = (e, refl)
uses_start (call.Create path sites) e i h = absurd h
uses_start (call.MakeDir path) e i h = absurd h
uses_start (call.Unlink path) e i h = absurd h
uses_start (call.RemoveDir path) e i h = absurd h
uses_start (call.Rename path name) e i h = absurd h
uses_start (call.List path) e i h = absurd h
uses_start (call.Stat path) e i h = absurd h
uses_start (call.Mail path bytes) e i h = absurd h
uses_start (call.Mails path) e i h = absurd h
uses_start (call.Open path how) e i h = absurd h
uses_start (call.Mend file) e i h = absurd h

reopen_start : (words : Call) (kept : OneVersion) (last : EpochId) → Suits words (begins.Reopens kept last) → Starts (begins.Reopens kept last) (reopen_wants words kept last [])
reopen_start (call.Read fd at len) kept last h = tt
reopen_start _ kept last h = absurd h

begun_starts : (mounts : List Mount) (free : Option ℕ) (words : Call) (b : Beginning) → Suits words b → Starts b (begun_wants mounts free words b [])
begun_starts mounts free words (begins.Denied why) h = tt
begun_starts mounts free words (begins.Uses e i) h = uses_start words e i h
begun_starts mounts free words (begins.Reopens kept last) h = reopen_start words kept last h
begun_starts mounts free words begins.Frees h = tt
begun_starts mounts free words (begins.Walks id) h = walks_start mounts free id words h

suits : (table : ℕ → Option Descriptor) (now : Option EpochId) (id : CallId) (words : Call) → Suits words (beginning table now id words)
suits table now id (call.Read fd at len) = on_read now (table fd)
suits table now id (call.Write fd at bytes) = elim (is_too_long (call.Write fd at bytes)) as (λ b. OnHeld (cond b (begins.Denied refusal.TooLong) (begins_change now (table fd)))) [ true ↦ tt | false ↦ on_change now (table fd) ]
suits table now id (call.Cut fd len) = on_change now (table fd)
suits table now id (call.Commit fd) = on_change now (table fd)
suits table now id (call.Abort fd) = on_change now (table fd)
suits table now id (call.Close fd) = on_close now (table fd)
suits table now id (call.Create path sites) = on_path id now
suits table now id (call.MakeDir path) = on_path id now
suits table now id (call.Unlink path) = on_path id now
suits table now id (call.RemoveDir path) = on_path id now
suits table now id (call.Rename path name) = on_path id now
suits table now id (call.List path) = on_path id now
suits table now id (call.Stat path) = on_path id now
suits table now id (call.Mail path bytes) = on_path id now
suits table now id (call.Mails path) = on_path id now
suits table now id (call.Open path how) = on_open id now (lowest_free table)
suits table now id (call.Mend file) = on_path id now

group_starts : (b : Beginning) (is_packed : ℕ → Bool) (group : ℕ) (w : Want) → Starts b w → Starts b (in_group is_packed group w)
group_starts b is_packed group w h = elim (is_packed group) as (λ t. Starts b (cond t w (want.Give (reply.No refusal.NoStorage)))) [ true ↦ h | false ↦ tt ]

packed_starts : (b : Beginning) (is_packed : ℕ → Bool) (w : Want) → Starts b w → Starts b (where_packed is_packed w)
packed_starts b is_packed (want.Look file x) h = group_starts b is_packed file.group (want.Look file x) h
packed_starts b is_packed (want.Open file how) h = group_starts b is_packed file.group (want.Open file how) h
packed_starts b is_packed (want.OpenToMend file) h = group_starts b is_packed file.group (want.OpenToMend file) h
packed_starts b is_packed (want.Make group k sites) h = group_starts b is_packed group (want.Make group k sites) h
packed_starts b is_packed (want.Do i o) h = h
packed_starts b is_packed (want.Close i) h = h
packed_starts b is_packed (want.Give r) h = h
packed_starts b is_packed want.Never h = h

-- without answers a call asks something, or it is given its reply
pub wants_starts : (mounts : List Mount) (is_packed : ℕ → Bool) (free : Option ℕ) (table : ℕ → Option Descriptor) (now : Option EpochId) (id : CallId) (words : Call) → Starts (beginning table now id words) (wants mounts is_packed free words (beginning table now id words) [])
wants_starts mounts is_packed free table now id words =
    packed_starts b is_packed (named_wants mounts free words b [])
    (elim (is_badly_named mounts words) as (λ n. Starts b (cond n (want.Give (reply.No refusal.BadName)) (begun_wants mounts free words b []))) [ true ↦ tt | false ↦ begun_starts mounts free words b (suits table now id words) ])
  where
    b : Beginning
    b = beginning table now id words

-- ---- on which descriptor ----

denied : (why : Refusal) (i : Serial) → BeginsWith (begins.Denied why) i → ⊥
denied why i h = differ h.0 h.1
  where
    differ : (e : EpochId) → begins.Denied why ≡ begins.Uses e i → ⊥
    differ e h = cc

walks_none : (id : CallId) (i : Serial) → BeginsWith (begins.Walks id) i → ⊥
walks_none id i h = differ h.0 h.1
  where
    differ : (e : EpochId) → (begins.Walks id) ≡ begins.Uses e i → ⊥
    differ e h = cc

uses_inst : (e : EpochId) (p i : Serial) → BeginsWith (begins.Uses e p) i → p ≡ i
uses_inst e p i h = same h.0 h.1
  where
    same : (x : EpochId) → begins.Uses e p ≡ begins.Uses x i → p ≡ i
    same x h = cc

again_none : (now : Option EpochId) (last : EpochId) (version : OneVersion) (i : Serial) → BeginsWith (begins_again now last version) i → ⊥
again_none None last version i h = denied refusal.NoPartition i h
again_none (Some e) last version i h = differ h.0 h.1
  where
    differ : (x : EpochId) → begins.Reopens version last ≡ begins.Uses x i → ⊥
    differ x k = cc

frees_none : (i : Serial) → BeginsWith begins.Frees i → ⊥
frees_none i h = differ h.0 h.1
  where
    differ : (x : EpochId) → begins.Frees ≡ begins.Uses x i → ⊥
    differ x k = cc

held_there : (now : Option EpochId) (d : Descriptor) (other : Beginning) (i : Serial) → (BeginsWith other i → ⊥) → BeginsWith (held_or now d other) i → OnDescriptor now (Some d) i
held_there now d other i none h =
    (elim (is_in now d.epoch) as (λ b. is_in now d.epoch ≡ b → BeginsWith (cond b (begins.Uses d.epoch d.inst) other) i → OnDescriptor now (Some d) i) [
      | true ↦ λ e k. record { descriptor = d; is = refl; open_now = e; inst_is = uses_inst d.epoch d.inst i k }
      | false ↦ λ e k. absurd (none k)
    ]) refl h

pub begins_read_there : (now : Option EpochId) (o : Option Descriptor) (i : Serial) → BeginsWith (begins_read now o) i → OnDescriptor now o i
begins_read_there now None i h = absurd (denied refusal.BadDescriptor i h)
begins_read_there now (Some d) i h = held_there now d (stale_or (begins_again now d.epoch) d.epoch d.steady) i (unheld d.steady) h
  where
    unheld : (v : Option OneVersion) → BeginsWith (stale_or (begins_again now d.epoch) d.epoch v) i → ⊥
    unheld None k = denied (refusal.Stale d.epoch) i k
    unheld (Some version) k = again_none now d.epoch version i k

pub begins_close_there : (now : Option EpochId) (o : Option Descriptor) (i : Serial) → BeginsWith (begins_close now o) i → OnDescriptor now o i
begins_close_there now None i h = absurd (denied refusal.BadDescriptor i h)
begins_close_there now (Some d) i h = held_there now d (stale_or (λ version. begins.Frees) d.epoch d.steady) i (unheld d.steady) h
  where
    unheld : (v : Option OneVersion) → BeginsWith (stale_or (λ version. begins.Frees) d.epoch v) i → ⊥
    unheld None k = denied (refusal.Stale d.epoch) i k
    unheld (Some version) k = frees_none i k

pub begins_change_there : (now : Option EpochId) (o : Option Descriptor) (i : Serial) → BeginsWith (begins_change now o) i → OnDescriptor now o i
begins_change_there now None i h = absurd (denied refusal.BadDescriptor i h)
begins_change_there now (Some d) i h = by_version d.steady refl
  where
    plain : (a b : Bool) → is_in now d.epoch ≡ a → BeginsWith (cond a (cond b (begins.Denied refusal.ReadOnly) (begins.Uses d.epoch d.inst)) (begins.Denied (refusal.Stale d.epoch))) i → OnDescriptor now (Some d) i
    plain true true e k = absurd (denied refusal.ReadOnly i k)
    plain true false e k = record { descriptor = d; is = refl; open_now = e; inst_is = uses_inst d.epoch d.inst i k }
    plain false b e k = absurd (denied (refusal.Stale d.epoch) i k)

    by_version : (v : Option OneVersion) → d.steady ≡ v → OnDescriptor now (Some d) i
    by_version None e = plain (is_in now d.epoch) (is_read d.mode) refl (rw e at h)
    by_version (Some version) e = absurd (denied refusal.ReadOnly i (rw e at h))

walk_none : (id : CallId) (now : Option EpochId) (i : Serial) → BeginsWith (begins_walk now id) i → ⊥
walk_none id None i h = denied refusal.NoPartition i h
walk_none id (Some e) i h = walks_none id i h

open_none : (id : CallId) (now : Option EpochId) (free : Option ℕ) (i : Serial) → BeginsWith (begins_open now id free) i → ⊥
open_none id now None i h = denied refusal.NoDescriptor i h
open_none id now (Some fd) i h = walk_none id now i h

-- a call that begins on an instance has it of a descriptor of the epoch at hand
pub begins_there : (table : ℕ → Option Descriptor) (now : Option EpochId) (id : CallId) (words : Call) (i : Serial) → BeginsWith (beginning table now id words) i → (fd : ℕ) × OnDescriptor now (table fd) i
begins_there table now id (call.Read fd at len) i h = (fd, begins_read_there now (table fd) i h)
begins_there table now id (call.Write fd at bytes) i h =
    (elim (is_too_long (call.Write fd at bytes)) as (λ b. BeginsWith (cond b (begins.Denied refusal.TooLong) (begins_change now (table fd))) i → (f : ℕ) × OnDescriptor now (table f) i) [
      | true ↦ λ k. absurd (denied refusal.TooLong i k)
      | false ↦ λ k. (fd, begins_change_there now (table fd) i k)
    ]) h
begins_there table now id (call.Cut fd len) i h = (fd, begins_change_there now (table fd) i h)
begins_there table now id (call.Commit fd) i h = (fd, begins_change_there now (table fd) i h)
begins_there table now id (call.Abort fd) i h = (fd, begins_change_there now (table fd) i h)
begins_there table now id (call.Close fd) i h = (fd, begins_close_there now (table fd) i h)
begins_there table now id (call.Create path sites) i h = absurd (walk_none id now i h)
begins_there table now id (call.MakeDir path) i h = absurd (walk_none id now i h)
begins_there table now id (call.Unlink path) i h = absurd (walk_none id now i h)
begins_there table now id (call.RemoveDir path) i h = absurd (walk_none id now i h)
begins_there table now id (call.Rename path name) i h = absurd (walk_none id now i h)
begins_there table now id (call.List path) i h = absurd (walk_none id now i h)
begins_there table now id (call.Stat path) i h = absurd (walk_none id now i h)
begins_there table now id (call.Mail path bytes) i h = absurd (walk_none id now i h)
begins_there table now id (call.Mails path) i h = absurd (walk_none id now i h)
begins_there table now id (call.Open path how) i h = absurd (open_none id now (lowest_free table) i h)
begins_there table now id (call.Mend file) i h = absurd (walk_none id now i h)
