-- Whole scripts are sound, by the words of their calls and where these began.
use Rattle.std.proofs.Common.{◌≡◌, ℕ, ◌≤◌, Bool, true, false, cond, List, [], ◌∷◌, Option, Some, None, refl, sym, subst, arith}
use Rattle.locus_ids.specs.declared.ids.CallId.{CallId}
use Rattle.locus_ids.specs.declared.config.Mount.{Mount}
use Rattle.locus_ids.specs.declared.ids.EpochId.{EpochId}
use Rattle.locus_ids.specs.declared.ids.FileId.{FileId}
use Rattle.locus_ids.specs.declared.ids.Kind.{Kind}
use Rattle.locus_ids.specs.declared.ids.Kind.TheVariants as kind
use Rattle.locus_ids.specs.declared.ids.Serial.{Serial}
use Rattle.locus_ids.specs.declared.refusal.Refusal.TheVariants as refusal
use Rattle.trace_book.specs.Messages.{message_name}
use Rattle.trace_book.specs.Names.{but_last, components, last_of}
use Rattle.commit_graph.specs.Grants.{is_read}
use Rattle.trace_book.specs.declared.call.Call.{Call}
use Rattle.trace_book.specs.declared.call.Call.TheVariants as call
use Rattle.trace_book.specs.declared.call.OpenMode.{OpenMode}
use Rattle.trace_book.specs.declared.call.OpenMode.TheVariants as opens
use Rattle.trace_book.specs.declared.descriptor.Beginning.{Beginning}
use Rattle.trace_book.specs.declared.descriptor.Beginning.TheVariants as begins
use Rattle.trace_book.specs.declared.descriptor.Descriptor.{Descriptor}
use Rattle.trace_book.specs.declared.descriptor.OneVersion.{OneVersion}
use Rattle.trace_book.specs.declared.operation.Op.TheVariants as op
use Rattle.trace_book.specs.declared.operation.What.TheVariants as what
use Rattle.trace_book.specs.declared.reply.Reply.TheVariants as reply
use Rattle.call_rules.specs.Mailing.{tells_name, shown_messages}
use Rattle.call_rules.specs.declared.answer.Answer.{Answer}
use Rattle.call_rules.specs.declared.answer.Answer.TheVariants as answer
use Rattle.call_rules.specs.declared.want.Want.{Want}
use Rattle.call_rules.specs.declared.want.Want.TheVariants as want
use Rattle.call_rules.specs.Descriptors.{beginning, begins_again, begins_change, begins_close, begins_open, begins_read, begins_walk, held_or, is_in, lowest_free, stale_or}
use Rattle.call_rules.specs.Making.{changes_dir, opens_dir, probes}
use Rattle.call_rules.specs.Naming.{renames}
use Rattle.call_rules.specs.Reopening.{reopen_wants}
use Rattle.call_rules.specs.Removing.{finds}
use Rattle.call_rules.specs.Opening.{opens_file, uses_wants, lists, describes, shown_in}
use Rattle.call_rules.specs.Scripts.{path_wants, begun_wants, named_wants, where_packed, wants}
use Rattle.call_rules.specs.Walks.{Walked, Asks, Fails, There, Strays, walk, walked, root_of, passes, mounted_in}
use Rattle.call_rules.specs.Words.{is_badly_named, is_too_long}
use Rattle.store_laws.proofs.ScriptFitting.{NotChanged, Fits, OpensAs, ReadWords, UsesWords, IsSound, Script, Sound}
use Rattle.store_laws.proofs.ScriptSound.{sound_same, give_sound, probes_sound, opens_dir_sound, finds_sound, renames_sound, close_sound, mend_sound, opens_file_sound, lists_sound, describes_sound, op_sound, reopens_sound}

-- ---- walks ----

-- where a walk has come, and what comes after it
abbrev pub goes : (FileId → Kind → Script) → Walked → Want
goes after (Asks dir name) = want.Look dir (what.Name name)
goes after (Fails why) = want.Give (reply.No why)
goes after (There at k rest) = after at k rest
goes after Strays = want.Never

pub goes_walked : (mounts : List Mount) (path : List (List ℕ)) (after : FileId → Kind → Script) (xs : List Answer) → goes after (walk mounts path [] (root_of 0) kind.Dir xs) ≡ walked mounts path xs after
goes_walked mounts path after xs = over (walk mounts path [] (root_of 0) kind.Dir xs) refl
  where
    over : (w : Walked) → walk mounts path [] (root_of 0) kind.Dir xs ≡ w → goes after w ≡ walked mounts path xs after
    over (Asks dir name) e = rw e refl
    over (Fails why) e = rw e refl
    over (There at k rest) e = rw e refl
    over Strays e = rw e refl

one : 1 ≤ 1
one = omega arith

module _ (words : Call) (free : Option ℕ) where
  walk_sound : (mounts : List Mount) (path : List (List ℕ)) (reached : List ℕ) (at : FileId) → 1 ≤ at.ino → (k : Kind) (after : FileId → Kind → Script) → ((there : FileId) (found : Kind) → 1 ≤ there.ino → (ys : List Answer) → Sound words free (after there found) ys) → (xs : List Answer) →
      Sound words free (λ ys. goes after (walk mounts path reached at k ys)) xs
  walk_sound mounts [] reached at num k after h xs = h at k num xs
  walk_sound mounts (name ∷ path) reached at num kind.File after h xs = give_sound words free (reply.No (refusal.NotDir reached)) tt xs
  walk_sound mounts (name ∷ path) reached at num kind.Dir after h xs = over (λ next found n ys. walk_sound mounts path name next n found after h ys) (mounted_in mounts at name) xs
    where
      over : ((next : FileId) (found : Kind) → 1 ≤ next.ino → (ys : List Answer) → Sound words free (λ zs. goes after (walk mounts path name next found zs)) ys) → (o : Option ℕ) (ys : List Answer) → Sound words free (λ zs. goes after (passes (walk mounts path name) at name o zs)) ys
      over further (Some group) ys = further (root_of group) kind.Dir one ys
      over further None [] = tt
      over further None (answer.Entered ino found ∷ ys) = λ fit. further (record { group = at.group; ino = ino }) found fit ys
      over further None (answer.Refused why ∷ ys) = λ fit. give_sound words free (reply.No why) fit ys
      over further None (a ∷ ys) = λ fit. absurd fit

  walked_sound : (mounts : List Mount) (path : List (List ℕ)) (after : FileId → Kind → Script) → ((there : FileId) (found : Kind) → 1 ≤ there.ino → (ys : List Answer) → Sound words free (after there found) ys) → (xs : List Answer) → Sound words free (λ ys. walked mounts path ys after) xs
  walked_sound mounts path after h xs = sound_same words free (λ ys. goes after (walk mounts path [] (root_of 0) kind.Dir ys)) (λ ys. walked mounts path ys after) xs (goes_walked mounts path after) (walk_sound mounts path [] (root_of 0) one kind.Dir after h xs)

-- ---- by the words ----

-- the call walks a path, or mends
abbrev pub WalksWords : Call → Type 0
WalksWords (call.Create path sites) = Unit {0}
WalksWords (call.MakeDir path) = Unit {0}
WalksWords (call.Unlink path) = Unit {0}
WalksWords (call.RemoveDir path) = Unit {0}
WalksWords (call.Rename path name) = Unit {0}
WalksWords (call.List path) = Unit {0}
WalksWords (call.Stat path) = Unit {0}
WalksWords (call.Mail path bytes) = Unit {0}
WalksWords (call.Mails path) = Unit {0}
WalksWords (call.Open path m) = Unit {0}
WalksWords (call.Mend file) = Unit {0}
WalksWords _ = ⊥

-- where a call may begin that has these words
abbrev pub BeginsRight : Call → Beginning → Type 0
BeginsRight words (begins.Denied why) = NotChanged why
BeginsRight words (begins.Uses e i) = UsesWords words
BeginsRight words (begins.Walks id) = WalksWords words
BeginsRight words (begins.Reopens kept last) = ReadWords words
BeginsRight words begins.Frees = Unit {0}

-- an open that walks finds a free descriptor
abbrev pub HasFree : Option ℕ → Beginning → Call → Type 0
HasFree free (begins.Walks id) (call.Open path m) = (fd : ℕ) × (free ≡ Some fd)
HasFree free _ _ = Unit {0}

-- no call is both
pub words_apart : (words : Call) → WalksWords words → UsesWords words → ⊥
words_apart (call.Read fd at len) w u = w
words_apart (call.Write fd at bytes) w u = w
words_apart (call.Cut fd len) w u = w
words_apart (call.Commit fd) w u = w
words_apart (call.Abort fd) w u = w
words_apart (call.Close fd) w u = w
words_apart _ w u = u

walk_right : (id : CallId) (words : Call) (now : Option EpochId) → WalksWords words → BeginsRight words (begins_walk now id)
walk_right id words None h = tt
walk_right id words (Some e) h = h

held_right : (words : Call) (now : Option EpochId) (d : Descriptor) (otherwise : Beginning) → UsesWords words → BeginsRight words otherwise → BeginsRight words (held_or now d otherwise)
held_right words now d otherwise h k = over (is_in now d.epoch)
  where
    over : (b : Bool) → BeginsRight words (cond b (begins.Uses d.epoch d.inst) otherwise)
    over true = h
    over false = k

stale_right : (words : Call) (steady : OneVersion → Beginning) (last : EpochId) (o : Option OneVersion) → ((v : OneVersion) → BeginsRight words (steady v)) → BeginsRight words (stale_or steady last o)
stale_right words steady last None k = tt
stale_right words steady last (Some v) k = k v

again_right : (words : Call) (now : Option EpochId) (last : EpochId) (v : OneVersion) → ReadWords words → BeginsRight words (begins_again now last v)
again_right words None last v h = tt
again_right words (Some e) last v h = h

read_right : (words : Call) (now : Option EpochId) (o : Option Descriptor) → UsesWords words → ReadWords words → BeginsRight words (begins_read now o)
read_right words now None h r = tt
read_right words now (Some d) h r = held_right words now d (stale_or (begins_again now d.epoch) d.epoch d.steady) h (stale_right words (begins_again now d.epoch) d.epoch d.steady (λ v. again_right words now d.epoch v r))

close_right : (words : Call) (now : Option EpochId) (o : Option Descriptor) → UsesWords words → BeginsRight words (begins_close now o)
close_right words now None h = tt
close_right words now (Some d) h = held_right words now d (stale_or (λ v. begins.Frees) d.epoch d.steady) h (stale_right words (λ v. begins.Frees) d.epoch d.steady (λ v. tt))

change_right : (words : Call) (now : Option EpochId) (o : Option Descriptor) → UsesWords words → BeginsRight words (begins_change now o)
change_right words now None h = tt
change_right words now (Some d) h = by d.steady refl
  where
    at : d.steady ≡ None → (a b : Bool) → is_in now d.epoch ≡ a → is_read d.mode ≡ b → BeginsRight words (begins_change now (Some d))
    at s true true p q = rw s (rw p (rw q tt))
    at s true false p q = rw s (rw p (rw q h))
    at s false b p q = rw s (rw p tt)

    by : (o : Option OneVersion) → d.steady ≡ o → BeginsRight words (begins_change now (Some d))
    by None s = at s (is_in now d.epoch) (is_read d.mode) refl refl
    by (Some v) s = rw s tt

pub begins_right : (table : ℕ → Option Descriptor) (now : Option EpochId) (id : CallId) (words : Call) → BeginsRight words (beginning table now id words)
begins_right table now id (call.Open path m) = over (lowest_free table)
  where
    over : (o : Option ℕ) → BeginsRight (call.Open path m) (begins_open now id o)
    over None = tt
    over (Some fd) = walk_right id (call.Open path m) now tt
begins_right table now id (call.Read fd at len) = read_right (call.Read fd at len) now (table fd) tt tt
begins_right table now id (call.Write fd at bytes) = over (is_too_long (call.Write fd at bytes))
  where
    over : (b : Bool) → BeginsRight (call.Write fd at bytes) (cond b (begins.Denied refusal.TooLong) (begins_change now (table fd)))
    over true = tt
    over false = change_right (call.Write fd at bytes) now (table fd) tt
begins_right table now id (call.Cut fd len) = change_right (call.Cut fd len) now (table fd) tt
begins_right table now id (call.Commit fd) = change_right (call.Commit fd) now (table fd) tt
begins_right table now id (call.Abort fd) = change_right (call.Abort fd) now (table fd) tt
begins_right table now id (call.Close fd) = close_right (call.Close fd) now (table fd) tt
begins_right table now id (call.Create path sites) = walk_right id (call.Create path sites) now tt
begins_right table now id (call.MakeDir path) = walk_right id (call.MakeDir path) now tt
begins_right table now id (call.Unlink path) = walk_right id (call.Unlink path) now tt
begins_right table now id (call.RemoveDir path) = walk_right id (call.RemoveDir path) now tt
begins_right table now id (call.Rename path name) = walk_right id (call.Rename path name) now tt
begins_right table now id (call.List path) = walk_right id (call.List path) now tt
begins_right table now id (call.Stat path) = walk_right id (call.Stat path) now tt
begins_right table now id (call.Mail path bytes) = walk_right id (call.Mail path bytes) now tt
begins_right table now id (call.Mails path) = walk_right id (call.Mails path) now tt
begins_right table now id (call.Mend file) = walk_right id (call.Mend file) now tt

uses_sound : (words : Call) (free : Option ℕ) (i : Serial) → UsesWords words → (xs : List Answer) → Sound words free (uses_wants words i) xs
uses_sound (call.Read fd at len) free i h xs = op_sound (call.Read fd at len) free tt i (op.Read at len) xs
uses_sound (call.Write fd at bytes) free i h xs = op_sound (call.Write fd at bytes) free tt i (op.Write at bytes) xs
uses_sound (call.Cut fd len) free i h xs = op_sound (call.Cut fd len) free tt i (op.Cut len) xs
uses_sound (call.Commit fd) free i h xs = op_sound (call.Commit fd) free tt i op.Commit xs
uses_sound (call.Abort fd) free i h xs = op_sound (call.Abort fd) free tt i op.Abort xs
uses_sound (call.Close fd) free i h xs = close_sound (call.Close fd) free i xs
uses_sound _ free i h xs = absurd h

open_as : (path : List ℕ) (m : OpenMode) → OpensAs (call.Open path m) m
open_as path opens.Read = tt
open_as path opens.Write = tt
open_as path (opens.Resolve site) = refl
open_as path opens.Steady = tt

changes_sound : (words : Call) (free : Option ℕ) (mounts : List Mount) (path : List ℕ) (next : ℕ → Serial → Script) → ((g : ℕ) (p : Serial) (ys : List Answer) → Sound words free (next g p) ys) → (xs : List Answer) → Sound words free (changes_dir mounts path next) xs
changes_sound words free mounts path next h xs = walked_sound words free mounts (but_last (components path)) (λ dir k rest. opens_dir (last_of (but_last (components path))) (next dir.group) dir k rest)
    (λ dir k num rest. opens_dir_sound words free (last_of (but_last (components path))) (next dir.group) (h dir.group) dir num k rest) xs

path_sound : (mounts : List Mount) (free : Option ℕ) (id : CallId) (words : Call) → WalksWords words → HasFree free (begins.Walks id) words → (xs : List Answer) → Sound words free (path_wants mounts free id words) xs
path_sound mounts free id (call.Create path sites) w h xs = changes_sound (call.Create path sites) free mounts path (λ g p rest. probes p g (last_of (components path)) kind.File sites [] reply.Made rest) (λ g p ys. probes_sound (call.Create path sites) free p g (last_of (components path)) kind.File sites [] reply.Made (λ ino. tt) ys) xs
path_sound mounts free id (call.MakeDir path) w h xs = changes_sound (call.MakeDir path) free mounts path (λ g p rest. probes p g (last_of (components path)) kind.Dir None [] reply.Made rest) (λ g p ys. probes_sound (call.MakeDir path) free p g (last_of (components path)) kind.Dir None [] reply.Made (λ ino. tt) ys) xs
path_sound mounts free id (call.Unlink path) w h xs = changes_sound (call.Unlink path) free mounts path (λ g p rest. finds kind.File p g (last_of (components path)) rest) (λ g p ys. finds_sound (call.Unlink path) free kind.File p g (last_of (components path)) ys) xs
path_sound mounts free id (call.RemoveDir path) w h xs = changes_sound (call.RemoveDir path) free mounts path (λ g p rest. finds kind.Dir p g (last_of (components path)) rest) (λ g p ys. finds_sound (call.RemoveDir path) free kind.Dir p g (last_of (components path)) ys) xs
path_sound mounts free id (call.Rename path name) w h xs = changes_sound (call.Rename path name) free mounts path (λ g p rest. renames p (last_of (components path)) name rest) (λ g p ys. renames_sound (call.Rename path name) free p (last_of (components path)) name ys) xs
path_sound mounts free id (call.List path) w h xs = walked_sound (call.List path) free mounts (components path) (lists (shown_in mounts) (last_of (components path))) (λ f k num rest. lists_sound (call.List path) free (shown_in mounts) (last_of (components path)) f k rest) xs
path_sound mounts free id (call.Stat path) w h xs = walked_sound (call.Stat path) free mounts (components path) describes (λ f k num rest. describes_sound (call.Stat path) free f k rest) xs
path_sound mounts free id (call.Open path m) w h xs = subst (λ (o : Option ℕ). Sound (call.Open path m) free (λ ys. path_wants mounts o id (call.Open path m) ys) xs) (sym h.1)
    (walked_sound (call.Open path m) free mounts (components path) (opens_file m (Some h.0)) (λ f k num rest. opens_file_sound (call.Open path m) free m h.0 h.1 tt (open_as path m) f num k rest) xs)
path_sound mounts free id (call.Mail path bytes) w h xs = walked_sound (call.Mail path bytes) free mounts (components path) _
    (λ dir k num rest. opens_dir_sound (call.Mail path bytes) free (last_of (components path)) (λ p. probes p dir.group (message_name id) kind.File None bytes (tells_name (message_name id))) (λ p ys. probes_sound (call.Mail path bytes) free p dir.group (message_name id) kind.File None bytes (tells_name (message_name id)) (λ ino. tt) ys) dir num k rest) xs
path_sound mounts free id (call.Mails path) w h xs = walked_sound (call.Mails path) free mounts (components path) (lists shown_messages (last_of (components path))) (λ f k num rest. lists_sound (call.Mails path) free shown_messages (last_of (components path)) f k rest) xs
path_sound mounts free id (call.Mend file) w h xs = mend_sound (call.Mend file) free file refl xs
path_sound mounts free id _ w h xs = absurd w

reopen_sound : (words : Call) (free : Option ℕ) (kept : OneVersion) (last : EpochId) → ReadWords words → (xs : List Answer) → Sound words free (reopen_wants words kept last) xs
reopen_sound (call.Read fd at len) free kept last r xs = reopens_sound (call.Read fd at len) free r kept last at len xs
reopen_sound _ free kept last r xs = absurd r

begun_sound : (mounts : List Mount) (free : Option ℕ) (words : Call) (b : Beginning) → BeginsRight words b → HasFree free b words → (xs : List Answer) → Sound words free (begun_wants mounts free words b) xs
begun_sound mounts free words (begins.Denied why) r h xs = give_sound words free (reply.No why) r xs
begun_sound mounts free words (begins.Uses e i) r h xs = uses_sound words free i r xs
begun_sound mounts free words (begins.Walks id) r h xs = path_sound mounts free id words r h xs
begun_sound mounts free words (begins.Reopens kept last) r h xs = reopen_sound words free kept last r xs
begun_sound mounts free words begins.Frees r h xs = give_sound words free (reply.Closed None) tt xs

named_sound : (mounts : List Mount) (free : Option ℕ) (words : Call) (b : Beginning) → BeginsRight words b → HasFree free b words → (xs : List Answer) → Sound words free (named_wants mounts free words b) xs
named_sound mounts free words b r h xs = over (is_badly_named mounts words)
  where
    over : (x : Bool) → Sound words free (λ ys. cond x (want.Give (reply.No refusal.BadName)) (begun_wants mounts free words b ys)) xs
    over true = give_sound words free (reply.No refusal.BadName) tt xs
    over false = begun_sound mounts free words b r h xs

-- ---- where no member has a pack ----

packed_want : (p : ℕ → Bool) (words : Call) (free : Option ℕ) (w : Want) → IsSound words free w → IsSound words free (where_packed p w)
packed_want p words free w h = over w h
  where
    by_test : (x : Bool) (y : Want) → IsSound words free y → IsSound words free (cond x y (want.Give (reply.No refusal.NoStorage)))
    by_test true y k = k
    by_test false y k = tt

    over : (y : Want) → IsSound words free y → IsSound words free (where_packed p y)
    over (want.Look f what) k = by_test (p f.group) (want.Look f what) k
    over (want.Open f how) k = by_test (p f.group) (want.Open f how) k
    over (want.OpenToMend f) k = by_test (p f.group) (want.OpenToMend f) k
    over (want.Make g kind sites) k = by_test (p g) (want.Make g kind sites) k
    over (want.Do i o) k = k
    over (want.Close i) k = k
    over (want.Give r) k = k
    over want.Never k = k

packed_fits : (p : ℕ → Bool) (w : Want) (a : Answer) → Fits (where_packed p w) a → Fits w a
packed_fits p w a fit = over w fit
  where
    by_test : (x : Bool) (y : Want) → Fits (cond x y (want.Give (reply.No refusal.NoStorage))) a → Fits y a
    by_test true y k = k
    by_test false y k = absurd k

    over : (y : Want) → Fits (where_packed p y) a → Fits y a
    over (want.Look f what) k = by_test (p f.group) (want.Look f what) k
    over (want.Open f how) k = by_test (p f.group) (want.Open f how) k
    over (want.OpenToMend f) k = by_test (p f.group) (want.OpenToMend f) k
    over (want.Make g kind sites) k = by_test (p g) (want.Make g kind sites) k
    over (want.Do i o) k = k
    over (want.Close i) k = k
    over (want.Give r) k = k
    over want.Never k = k

packed_sound : (p : ℕ → Bool) (words : Call) (free : Option ℕ) (k : Script) (xs : List Answer) → Sound words free k xs → Sound words free (λ ys. where_packed p (k ys)) xs
packed_sound p words free k [] s = packed_want p words free (k []) s
packed_sound p words free k (a ∷ xs) s = λ fit. packed_sound p words free (λ ys. k (a ∷ ys)) xs (s (packed_fits p (k []) a fit))

-- the whole script of a call is sound
pub wants_sound : (mounts : List Mount) (p : ℕ → Bool) (free : Option ℕ) (words : Call) (b : Beginning) → BeginsRight words b → HasFree free b words → (xs : List Answer) → Sound words free (wants mounts p free words b) xs
wants_sound mounts p free words b r h xs = packed_sound p words free (named_wants mounts free words b) xs (named_sound mounts free words b r h xs)
