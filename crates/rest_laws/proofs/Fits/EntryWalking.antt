-- What the script of a call asks, where its looks were answered rightly: a component is asked of a directory, a call that opens opens a
-- file, and only a call on a descriptor writes or cuts.
use Rattle.std.proofs.Common.{◌≡◌, ℕ, Bool, true, false, cond, List, [], ◌∷◌, Option, Some, None, refl, sym, subst, inl, inr}
use Rattle.locus_ids.specs.declared.ids.CallId.{CallId}
use Rattle.locus_ids.specs.declared.ids.EpochId.{EpochId}
use Rattle.locus_ids.specs.declared.config.Mount.{Mount}
use Rattle.locus_ids.specs.declared.ids.FileId.{FileId}
use Rattle.locus_ids.specs.declared.ids.Kind.{Kind}
use Rattle.locus_ids.specs.declared.ids.Kind.TheVariants as kind
use Rattle.locus_ids.specs.declared.ids.Serial.{Serial}
use Rattle.locus_ids.specs.declared.refusal.Refusal.TheVariants as refusal
use Rattle.trace_book.specs.Messages.{message_name}
use Rattle.trace_book.specs.Names.{but_last, components}
use Rattle.trace_book.specs.declared.call.Call.{Call}
use Rattle.trace_book.specs.declared.call.Call.TheVariants as call
use Rattle.trace_book.specs.declared.call.OpenMode.{OpenMode}
use Rattle.trace_book.specs.declared.call.OpenMode.TheVariants as how
use Rattle.trace_book.specs.declared.descriptor.Beginning.{Beginning}
use Rattle.trace_book.specs.declared.descriptor.Beginning.TheVariants as begins
use Rattle.trace_book.specs.declared.descriptor.OneVersion.{OneVersion}
use Rattle.trace_book.specs.declared.operation.Op.{Op}
use Rattle.trace_book.specs.declared.operation.Op.TheVariants as op
use Rattle.trace_book.specs.declared.operation.What.{What}
use Rattle.trace_book.specs.declared.operation.What.TheVariants as what
use Rattle.trace_book.specs.declared.reply.Reply.{Reply}
use Rattle.trace_book.specs.declared.reply.Reply.TheVariants as reply
use Rattle.call_rules.specs.Mailing.{tells_name, shown_messages}
use Rattle.call_rules.specs.Opening.{opens_file, shown_in}
use Rattle.call_rules.specs.Reopening.{reopen_wants}
use Rattle.call_rules.specs.Scripts.{begun_wants, named_wants, path_wants, wants, where_packed}
use Rattle.call_rules.specs.Walks.{mounted_in, passes, root_of, walk, walked}
use Rattle.call_rules.specs.Words.{is_badly_named}
use Rattle.call_rules.specs.declared.answer.Answer.{Answer}
use Rattle.call_rules.specs.declared.answer.Answer.TheVariants as answer
use Rattle.call_rules.specs.declared.want.Want.{Want}
use Rattle.call_rules.specs.declared.want.Want.TheVariants as want
use Rattle.tree_laws.proofs.Holding.{Script}
use Rattle.store_laws.proofs.Holdings.MendReopens.{reopen_so}
use Rattle.store_laws.proofs.OneTree.RemoveScripts.{Along, IsOr, along_same, goes, goes_walked, packed_is}
use Rattle.rest_laws.specs.Fits.EntryEntries.{IsMail}
use Rattle.rest_laws.proofs.Fits.EntryAsked.{IsOfDirs, IsOfFiles, IsWhole, Parts, WritesSo, describes_so, finds_so, lists_so, mend_so, opens_dir_so, probes_so, renames_so, uses_so}

-- ---- what is asked ----

-- what a call opens that opens for a process is a file
abbrev pub OpensKnown : (FileId → Kind → Type 0) → Call → FileId → Type 0
OpensKnown Known (call.Open path m) f = Known f kind.File
OpensKnown Known _ f = Unit {0}

-- it isn't one of these
abbrev pub NotOpener : Call → Type 0
NotOpener (call.Open path m) = ⊥
NotOpener _ = Unit {0}

-- what a call asks that walks, or mends
abbrev pub WalkerAsks : (FileId → Kind → Type 0) → Call → Want → Type 0
WalkerAsks Known words (want.Look f (what.Name component)) = Known f kind.Dir
WalkerAsks Known words (want.Open f m) = OpensKnown Known words f
WalkerAsks Known words (want.OpenToMend f) = NotOpener words
WalkerAsks Known words (want.Make group k sites) = NotOpener words
WalkerAsks Known words (want.Do i (op.Write at bytes)) = IsMail words
WalkerAsks Known words (want.Do i (op.Cut len)) = ⊥
WalkerAsks Known words _ = Unit {0}

-- what a call asks that doesn't walk
abbrev pub UserAsks : Want → Type 0
UserAsks (want.Do i o) = IsOfFiles o
UserAsks (want.Close i) = Unit {0}
UserAsks (want.Give r) = Unit {0}
UserAsks want.Never = Unit {0}
UserAsks _ = ⊥

-- what a call asks that was refused at once
abbrev pub DeniedAsks : Want → Type 0
DeniedAsks (want.Give r) = Unit {0}
DeniedAsks _ = ⊥

-- what a read asks that opens a version again
abbrev pub RereaderAsks : Want → Type 0
RereaderAsks (want.Open f m) = m ≡ how.Read
RereaderAsks (want.Do i (op.Read at len)) = Unit {0}
RereaderAsks (want.Close i) = Unit {0}
RereaderAsks (want.Give r) = Unit {0}
RereaderAsks want.Never = Unit {0}
RereaderAsks _ = ⊥

pub rereader_so : (words : Call) (kept : OneVersion) (last : EpochId) (xs : List Answer) → RereaderAsks (reopen_wants words kept last xs)
rereader_so words kept last xs = reopen_so RereaderAsks kept (record { opens = refl; reads = λ i at len. tt; closes = λ i. tt; replies = λ r. tt; never = tt }) words last xs

abbrev pub AsksBy : (FileId → Kind → Type 0) → Call → Beginning → Want → Type 0
AsksBy Known words (begins.Walks id) w = WalkerAsks Known words w
AsksBy Known words (begins.Uses e i) w = UserAsks w
AsksBy Known words (begins.Denied why) w = DeniedAsks w
AsksBy Known words (begins.Reopens kept last) w = RereaderAsks w
AsksBy Known words begins.Frees w = DeniedAsks w

-- ---- a script ----

-- Each request was answered so. A component of a path that was entered is known, and so are the roots; and a reply isn't answered.
module _ (Q : Want → Answer → Type 0) (Known : FileId → Kind → Type 0) (entered : (at : FileId) (component : List ℕ) (ino : ℕ) (k : Kind) → Q (want.Look at (what.Name component)) (answer.Entered ino k) → Known (record { group = at.group; ino = ino }) k) (roots : (g : ℕ) → Known (root_of g) kind.Dir) (unanswered : (r : Reply) (a : Answer) → Q (want.Give r) a → ⊥) where
  module _ (P : Want → Type 0) (gives : (r : Reply) → P (want.Give r)) (never : P want.Never) (looks : (f : FileId) (component : List ℕ) → Known f kind.Dir → P (want.Look f (what.Name component))) (mounts : List Mount) (after : FileId → Kind → Script) (each : (f : FileId) (k : Kind) (ys : List Answer) → Known f k → P (after f k ys)) where
    walk_so : (cs : List (List ℕ)) (reached : List ℕ) (at : FileId) (k : Kind) (xs : List Answer) → Known at k → Along Q (λ ys. goes after (walk mounts cs reached at k ys)) xs → P (goes after (walk mounts cs reached at k xs))
    walk_so [] reached at k xs known h = each at k xs known
    walk_so (c ∷ cs) reached at kind.File xs known h = gives _
    walk_so (c ∷ cs) reached at kind.Dir xs known h = over (λ f k ys n l. walk_so cs c f k ys n l) (mounted_in mounts at c) xs h
      where
        over : ((f : FileId) (k : Kind) (ys : List Answer) → Known f k → Along Q (λ zs. goes after (walk mounts cs c f k zs)) ys → P (goes after (walk mounts cs c f k ys))) →
            (m : Option ℕ) (ys : List Answer) → Along Q (λ zs. goes after (passes (walk mounts cs c) at c m zs)) ys → P (goes after (passes (walk mounts cs c) at c m ys))
        over later (Some group) ys q = later (root_of group) kind.Dir ys (roots group) q
        over later None [] q = looks at c known
        over later None (answer.Entered m k ∷ rest) q = later (record { group = at.group; ino = m }) k rest (entered at c m k q.0) q.1
        over later None (answer.Refused why ∷ rest) q = gives _
        over later None (_ ∷ rest) q = never

    walked_so : (cs : List (List ℕ)) (xs : List Answer) → Along Q (λ ys. walked mounts cs ys after) xs → P (walked mounts cs xs after)
    walked_so cs xs h = subst P (goes_walked mounts cs after xs) (walk_so cs [] (root_of 0) kind.Dir xs (roots 0)
        (along_same Q (λ ys. walked mounts cs ys after) (λ ys. goes after (walk mounts cs [] (root_of 0) kind.Dir ys)) (λ ys. sym (goes_walked mounts cs after ys)) xs h))

  -- ---- a call that walks ----

  module _ (words : Call) where
    abbrev P : Want → Type 0
    P w = WalkerAsks Known words w

    looks_known : (f : FileId) (component : List ℕ) → Known f kind.Dir → P (want.Look f (what.Name component))
    looks_known f component k = k

    does_so : (i : Serial) (o : Op) → IsOfDirs o → P (want.Do i o)
    does_so i (op.Write at bytes) k = absurd k
    does_so i (op.Cut len) k = k
    does_so i _ k = tt

    looks_so : (f : FileId) (w : What) → IsWhole w → P (want.Look f w)
    looks_so f (what.Name component) k = absurd k
    looks_so f _ k = tt

    parts : ((f : FileId) → OpensKnown Known words f) → NotOpener words → Parts P
    parts opens other = record {
      gives = λ r. tt;
      never = tt;
      closes = λ i. tt;
      does = does_so;
      opens = λ f m. opens f;
      mends = λ f. other;
      makes = λ g k sites. other;
      looks = looks_so;
    }

    after_walk : (mounts : List Mount) (cs : List (List ℕ)) (after : FileId → Kind → Script) → ((f : FileId) (k : Kind) (ys : List Answer) → Known f k → P (after f k ys)) → (xs : List Answer) → Along Q (λ ys. walked mounts cs ys after) xs → P (walked mounts cs xs after)
    after_walk mounts cs after each xs h = walked_so P (λ r. tt) tt looks_known mounts after each cs xs h

  opens_file_so : (path : List ℕ) (m : OpenMode) (free : Option ℕ) (f : FileId) (k : Kind) (xs : List Answer) → Known f k → WalkerAsks Known (call.Open path m) (opens_file m free f k xs)
  opens_file_so path m free f kind.Dir xs known = tt
  opens_file_so path m free f kind.File [] known = known
  opens_file_so path m (Some fd) f kind.File (answer.Opened i ino ∷ []) known = tt
  opens_file_so path m (Some fd) f kind.File (answer.Reading i version ∷ []) known = tt
  opens_file_so path m None f kind.File (answer.Refused why ∷ []) known = tt
  opens_file_so path m (Some fd) f kind.File (answer.Refused why ∷ []) known = tt
  opens_file_so path m None f kind.File (_ ∷ rest) known = tt
  opens_file_so path m (Some fd) f kind.File (_ ∷ rest) known = tt

  path_so : (mounts : List Mount) (free : Option ℕ) (id : CallId) (words : Call) (xs : List Answer) → Along Q (path_wants mounts free id words) xs → WalkerAsks Known words (path_wants mounts free id words xs)
  path_so mounts free id (call.Create path sites) xs h = after_walk words mounts (but_last (components path)) _ (λ f k ys known. opens_dir_so (P words) (parts words (λ g. tt) tt) _ _ (λ p zs. probes_so (P words) (parts words (λ g. tt) tt) (λ i name ino kd. tt) p f.group _ kind.File sites [] reply.Made tt zs) f k ys) xs h
    where
      words : Call
      words = call.Create path sites
  path_so mounts free id (call.MakeDir path) xs h = after_walk words mounts (but_last (components path)) _ (λ f k ys known. opens_dir_so (P words) (parts words (λ g. tt) tt) _ _ (λ p zs. probes_so (P words) (parts words (λ g. tt) tt) (λ i name ino kd. tt) p f.group _ kind.Dir None [] reply.Made tt zs) f k ys) xs h
    where
      words : Call
      words = call.MakeDir path
  path_so mounts free id (call.Unlink path) xs h = after_walk words mounts (but_last (components path)) _ (λ f k ys known. opens_dir_so (P words) (parts words (λ g. tt) tt) _ _ (λ p zs. finds_so (P words) (parts words (λ g. tt) tt) kind.File p f.group _ zs) f k ys) xs h
    where
      words : Call
      words = call.Unlink path
  path_so mounts free id (call.RemoveDir path) xs h = after_walk words mounts (but_last (components path)) _ (λ f k ys known. opens_dir_so (P words) (parts words (λ g. tt) tt) _ _ (λ p zs. finds_so (P words) (parts words (λ g. tt) tt) kind.Dir p f.group _ zs) f k ys) xs h
    where
      words : Call
      words = call.RemoveDir path
  path_so mounts free id (call.Rename path name) xs h = after_walk words mounts (but_last (components path)) _ (λ f k ys known. opens_dir_so (P words) (parts words (λ g. tt) tt) _ _ (λ p zs. renames_so (P words) (parts words (λ g. tt) tt) p _ name zs) f k ys) xs h
    where
      words : Call
      words = call.Rename path name
  path_so mounts free id (call.List path) xs h = after_walk words mounts (components path) _ (λ f k ys known. lists_so (P words) (parts words (λ g. tt) tt) (shown_in mounts) _ f k ys) xs h
    where
      words : Call
      words = call.List path
  path_so mounts free id (call.Stat path) xs h = after_walk words mounts (components path) _ (λ f k ys known. describes_so (P words) (parts words (λ g. tt) tt) f k ys) xs h
    where
      words : Call
      words = call.Stat path
  path_so mounts free id (call.Mail path bytes) xs h = after_walk words mounts (components path) _ (λ f k ys known. opens_dir_so (P words) (parts words (λ g. tt) tt) _ _ (λ p zs. probes_so (P words) (parts words (λ g. tt) tt) (λ i name ino kd. tt) p f.group (message_name id) kind.File None bytes (tells_name (message_name id)) (mailed bytes) zs) f k ys) xs h
    where
      words : Call
      words = call.Mail path bytes

      mailed : (bs : List ℕ) → WritesSo (P words) (parts words (λ g. tt) tt) bs
      mailed [] = tt
      mailed (b ∷ bs) = λ i. tt
  path_so mounts free id (call.Mails path) xs h = after_walk words mounts (components path) _ (λ f k ys known. lists_so (P words) (parts words (λ g. tt) tt) shown_messages _ f k ys) xs h
    where
      words : Call
      words = call.Mails path
  path_so mounts free id (call.Open path m) xs h = after_walk (call.Open path m) mounts (components path) _ (λ f k ys known. opens_file_so path m free f k ys known) xs h
  path_so mounts free id (call.Mend f) xs h = mend_so (P (call.Mend f)) (parts (call.Mend f) (λ g. tt) tt) f xs
  path_so mounts free id _ xs h = tt

  -- ---- any call ----

  begun_so : (mounts : List Mount) (free : Option ℕ) (words : Call) (b : Beginning) (xs : List Answer) → Along Q (begun_wants mounts free words b) xs → AsksBy Known words b (begun_wants mounts free words b xs)
  begun_so mounts free words (begins.Walks id) xs h = path_so mounts free id words xs h
  begun_so mounts free words (begins.Denied why) xs h = tt
  begun_so mounts free words (begins.Uses e i) xs h = uses_so UserAsks (record { gives = λ r. tt; never = tt; closes = λ j. tt }) (λ j o k. k) words i xs
  begun_so mounts free words (begins.Reopens kept last) xs h = rereader_so words kept last xs
  begun_so mounts free words begins.Frees xs h = tt

  given_so : (words : Call) (b : Beginning) (r : Reply) → AsksBy Known words b (want.Give r)
  given_so words (begins.Walks id) r = tt
  given_so words (begins.Denied why) r = tt
  given_so words (begins.Uses e i) r = tt
  given_so words (begins.Reopens kept last) r = tt
  given_so words begins.Frees r = tt

  unpacked : (pk : ℕ → Bool) (w : Want) (a : Answer) → Q (where_packed pk w) a → Q w a
  unpacked pk w a k = over (packed_is pk w)
    where
      over : IsOr (where_packed pk w) w → Q w a
      over (inl e) = subst (λ (v : Want). Q v a) e k
      over (inr e) = absurd (unanswered (reply.No refusal.NoStorage) a (subst (λ (v : Want). Q v a) e k))

  along_unpacked : (pk : ℕ → Bool) (k : Script) (xs : List Answer) → Along Q (λ ys. where_packed pk (k ys)) xs → Along Q k xs
  along_unpacked pk k [] h = tt
  along_unpacked pk k (a ∷ xs) h = (unpacked pk (k []) a h.0, along_unpacked pk (λ ys. k (a ∷ ys)) xs h.1)

  pub wants_so : (mounts : List Mount) (pk : ℕ → Bool) (free : Option ℕ) (words : Call) (b : Beginning) (xs : List Answer) → Along Q (wants mounts pk free words b) xs → AsksBy Known words b (wants mounts pk free words b xs)
  wants_so mounts pk free words b xs h = packed (packed_is pk (named_wants mounts free words b xs))
    where
      named : (x : Bool) → Along Q (λ ys. cond x (want.Give (reply.No refusal.BadName)) (begun_wants mounts free words b ys)) xs → AsksBy Known words b (cond x (want.Give (reply.No refusal.BadName)) (begun_wants mounts free words b xs))
      named true q = given_so words b (reply.No refusal.BadName)
      named false q = begun_so mounts free words b xs q

      packed : IsOr (wants mounts pk free words b xs) (named_wants mounts free words b xs) → AsksBy Known words b (wants mounts pk free words b xs)
      packed (inl e) = subst (AsksBy Known words b) (sym e) (named (is_badly_named mounts words) (along_unpacked pk (named_wants mounts free words b) xs h))
      packed (inr e) = subst (AsksBy Known words b) (sym e) (given_so words b (reply.No refusal.NoStorage))
