-- A script that gives its reply before any request doesn't say that the epoch has changed.
use Rattle.std.proofs.Common.{◌≡◌, ℕ, Bool, true, false, cond, List, [], ◌∷◌, Option, Some, None, refl, sym, subst}
use Rattle.locus_ids.specs.declared.ids.CallId.{CallId}
use Rattle.locus_ids.specs.declared.ids.EpochId.{EpochId}
use Rattle.locus_ids.specs.declared.config.Mount.{Mount}
use Rattle.locus_ids.specs.declared.ids.FileId.{FileId}
use Rattle.locus_ids.specs.declared.ids.Kind.{Kind}
use Rattle.locus_ids.specs.declared.ids.Kind.TheVariants.{File, Dir}
use Rattle.locus_ids.specs.declared.ids.Serial.{Serial}
use Rattle.locus_ids.specs.declared.refusal.Refusal.TheVariants.{BadName, NoStorage}
use Rattle.trace_book.specs.Names.{components, last_of, but_last}
use Rattle.trace_book.specs.declared.call.Call.{Call}
use Rattle.trace_book.specs.declared.call.Call.TheVariants as call
use Rattle.trace_book.specs.declared.descriptor.Beginning.{Beginning}
use Rattle.trace_book.specs.declared.descriptor.OneVersion.{OneVersion}
use Rattle.trace_book.specs.declared.descriptor.Beginning.TheVariants.{Denied, Uses, Walks, Reopens, Frees}
use Rattle.trace_book.specs.declared.reply.Reply.TheVariants as reply
use Rattle.call_rules.specs.declared.answer.Answer.{Answer}
use Rattle.call_rules.specs.declared.want.Want.{Want}
use Rattle.call_rules.specs.declared.want.Want.TheVariants as want
use Rattle.call_rules.specs.Mailing.{shown_messages}
use Rattle.call_rules.specs.Making.{opens_dir, changes_dir}
use Rattle.call_rules.specs.Opening.{opens_file, uses_wants, lists, describes, shown_in, Shows}
use Rattle.call_rules.specs.Reopening.{reopen_wants}
use Rattle.call_rules.specs.Scripts.{wants, where_packed, named_wants, begun_wants, path_wants}
use Rattle.call_rules.specs.Walks.{Walked, Asks, Fails, There, Strays, walk, passes, walked, root_of, mounted_in}
use Rattle.call_rules.specs.Words.{is_badly_named}
use Rattle.past_laws.specs.Standing.{SaysOther, BeginsWell}

abbrev pub IsOther : Want → Type 0
IsOther (want.Give (reply.No why)) = SaysOther why
IsOther _ = Unit {0}

-- a walk without answers
abbrev IsFirst : Walked → Type 0
IsFirst (Fails why) = SaysOther why
IsFirst (There at kind rest) = rest ≡ []
IsFirst _ = Unit {0}

walk_first : (mounts : List Mount) (cs : List (List ℕ)) (reached : List ℕ) (at : FileId) (kind : Kind) → IsFirst (walk mounts cs reached at kind [])
walk_first mounts [] reached at kind = refl
walk_first mounts (c ∷ cs) reached at File = tt
walk_first mounts (c ∷ cs) reached at Dir = over (λ dir kind. walk_first mounts cs c dir kind) (mounted_in mounts at c)
  where
    over : ((dir : FileId) (kind : Kind) → IsFirst (walk mounts cs c dir kind [])) → (o : Option ℕ) → IsFirst (passes (walk mounts cs c) at c o [])
    over later None = tt
    over later (Some group) = later (root_of group) Dir

walked_first : (mounts : List Mount) (path : List (List ℕ)) (after : FileId → Kind → List Answer → Want) → ((at : FileId) (kind : Kind) → IsOther (after at kind [])) → IsOther (walked mounts path [] after)
walked_first mounts path after first = over (walk mounts path [] (root_of 0) Dir []) refl (walk_first mounts path [] (root_of 0) Dir)
  where
    over : (x : Walked) → walk mounts path [] (root_of 0) Dir [] ≡ x → IsFirst x → IsOther (walked mounts path [] after)
    over (Asks dir name) e k = rw e tt
    over (Fails why) e k = rw e k
    over (There at kind rest) e k = rw e (subst (λ xs. IsOther (after at kind xs)) (sym k) (first at kind))
    over Strays e k = rw e tt

opens_first : (mounts : List Mount) (names : List (List ℕ)) (next : ℕ → Serial → List Answer → Want) → IsOther (walked mounts names [] (λ dir kind rest. opens_dir (last_of names) (next dir.group) dir kind rest))
opens_first mounts names next = walked_first mounts names _ first
  where
    first : (dir : FileId) (kind : Kind) → IsOther (opens_dir (last_of names) (next dir.group) dir kind [])
    first dir File = tt
    first dir Dir = tt

changes_first : (mounts : List Mount) (path : List ℕ) (next : ℕ → Serial → List Answer → Want) → IsOther (changes_dir mounts path next [])
changes_first mounts path next = opens_first mounts (but_last (components path)) next

shows_first : (mounts : List Mount) (path : List ℕ) (shows : Shows) → IsOther (walked mounts (components path) [] (lists shows (last_of (components path))))
shows_first mounts path shows = walked_first mounts (components path) (lists shows (last_of (components path))) first
  where
    first : (at : FileId) (kind : Kind) → IsOther (lists shows (last_of (components path)) at kind [])
    first at File = tt
    first at Dir = tt

path_first : (mounts : List Mount) (free : Option ℕ) (id : CallId) (words : Call) → IsOther (path_wants mounts free id words [])
path_first mounts free id (call.Create path sites) = changes_first mounts path _
path_first mounts free id (call.MakeDir path) = changes_first mounts path _
path_first mounts free id (call.Unlink path) = changes_first mounts path _
path_first mounts free id (call.RemoveDir path) = changes_first mounts path _
path_first mounts free id (call.Rename path name) = changes_first mounts path _
path_first mounts free id (call.List path) = shows_first mounts path (shown_in mounts)
path_first mounts free id (call.Mail path bytes) = opens_first mounts (components path) _
path_first mounts free id (call.Mails path) = shows_first mounts path shown_messages
path_first mounts free id (call.Stat path) = walked_first mounts (components path) describes (λ at kind. tt)
path_first mounts free id (call.Open path how) = walked_first mounts (components path) (opens_file how free) first
  where
    first : (at : FileId) (kind : Kind) → IsOther (opens_file how free at kind [])
    first at File = tt
    first at Dir = tt
path_first mounts free id _ = tt

uses_first : (words : Call) (i : Serial) → IsOther (uses_wants words i [])
uses_first (call.Read fd at len) i = tt
uses_first _ i = tt

reopen_first : (words : Call) (kept : OneVersion) (last : EpochId) → IsOther (reopen_wants words kept last [])
reopen_first (call.Read fd at len) kept last = tt
reopen_first _ kept last = tt

begun_first : (mounts : List Mount) (free : Option ℕ) (words : Call) (b : Beginning) → BeginsWell b → IsOther (begun_wants mounts free words b [])
begun_first mounts free words (Denied why) h = h
begun_first mounts free words (Uses epoch inst) h = uses_first words inst
begun_first mounts free words (Walks id) h = path_first mounts free id words
begun_first mounts free words (Reopens kept last) h = reopen_first words kept last
begun_first mounts free words Frees h = tt

packed_first : (q : ℕ → Bool) (w : Want) → IsOther w → IsOther (where_packed q w)
packed_first q (want.Look file what) h = over (q file.group)
  where
    over : (b : Bool) → IsOther (cond b (want.Look file what) (want.Give (reply.No NoStorage)))
    over true = tt
    over false = tt
packed_first q (want.Open file how) h = over (q file.group)
  where
    over : (b : Bool) → IsOther (cond b (want.Open file how) (want.Give (reply.No NoStorage)))
    over true = tt
    over false = tt
packed_first q (want.OpenToMend file) h = over (q file.group)
  where
    over : (b : Bool) → IsOther (cond b (want.OpenToMend file) (want.Give (reply.No NoStorage)))
    over true = tt
    over false = tt
packed_first q (want.Make group kind sites) h = over (q group)
  where
    over : (b : Bool) → IsOther (cond b (want.Make group kind sites) (want.Give (reply.No NoStorage)))
    over true = tt
    over false = tt
packed_first q w h = h

pub wants_first : (mounts : List Mount) (q : ℕ → Bool) (free : Option ℕ) (words : Call) (b : Beginning) → BeginsWell b → IsOther (wants mounts q free words b [])
wants_first mounts q free words b h = packed_first q (named_wants mounts free words b []) (over (is_badly_named mounts words))
  where
    over : (bad : Bool) → IsOther (cond bad (want.Give (reply.No BadName)) (begun_wants mounts free words b []))
    over true = tt
    over false = begun_first mounts free words b h
