-- Scripts that remove nothing: those of all calls but unlink and rmdir.
use Rattle.std.proofs.Common.{ℕ, List, [], ◌∷◌, Option, Some, None, ◌≡◌, refl}
use Rattle.locus_ids.specs.declared.ids.CallId.{CallId}
use Rattle.locus_ids.specs.declared.config.Mount.{Mount}
use Rattle.locus_ids.specs.declared.ids.EpochId.{EpochId}
use Rattle.locus_ids.specs.declared.ids.FileId.{FileId}
use Rattle.locus_ids.specs.declared.ids.Kind.{Kind}
use Rattle.locus_ids.specs.declared.ids.Kind.TheVariants as kind
use Rattle.locus_ids.specs.declared.ids.Serial.{Serial}
use Rattle.locus_ids.specs.declared.ids.Stamp.{Stamp}
use Rattle.locus_ids.specs.declared.refusal.Refusal.{Refusal}
use Rattle.locus_ids.specs.declared.sites.Sites.{Sites}
use Rattle.trace_book.specs.Names.{components}
use Rattle.trace_book.specs.declared.call.Call.{Call}
use Rattle.trace_book.specs.declared.call.Call.TheVariants as call
use Rattle.trace_book.specs.declared.call.OpenMode.{OpenMode}
use Rattle.trace_book.specs.declared.descriptor.OneVersion.{OneVersion}
use Rattle.trace_book.specs.declared.operation.Op.{Op}
use Rattle.trace_book.specs.declared.operation.Op.TheVariants as op
use Rattle.trace_book.specs.declared.reply.Reply.{Reply}
use Rattle.trace_book.specs.declared.reply.Reply.TheVariants as reply
use Rattle.call_rules.specs.Closing.{Unchanged, close_all, closes, give_up, gives}
use Rattle.call_rules.specs.Mailing.{shown_messages}
use Rattle.call_rules.specs.Making.{after_insert, after_make, fills, after_probe, changes_dir, opens_dir, probes}
use Rattle.call_rules.specs.Mending.{after_mend, brings, mend_wants}
use Rattle.call_rules.specs.Naming.{renames}
use Rattle.call_rules.specs.Opening.{close_wants, describes, lists, op_wants, opens_file, uses_wants, Shows, shown_in}
use Rattle.call_rules.specs.Reopening.{reopen_wants}
use Rattle.call_rules.specs.Scripts.{path_wants}
use Rattle.call_rules.specs.Walks.{Asks, Fails, Strays, There, Walked, root_of, walk, walked}
use Rattle.call_rules.specs.declared.answer.Answer.{Answer}
use Rattle.call_rules.specs.declared.answer.Answer.TheVariants as answer
use Rattle.call_rules.specs.declared.want.Want.{Want}
use Rattle.call_rules.specs.declared.want.Want.TheVariants as want
use Rattle.store_laws.proofs.Holdings.MendReopens.{reopen_so}

-- it removes no name
abbrev pub NotRemove : Want → Type 0
NotRemove (want.Do i (op.Remove name ino)) = ⊥
NotRemove _ = Unit {0}

-- ---- closing ----

gives_none : (r : Reply) (xs : List Answer) → NotRemove (gives r xs)
gives_none r [] = tt
gives_none r (x ∷ xs) = tt

closes_none : (i : Serial) (next : List Answer → Want) → ((xs : List Answer) → NotRemove (next xs)) → (xs : List Answer) → NotRemove (closes i next xs)
closes_none i next h [] = tt
closes_none i next h (answer.Ended stamp ∷ rest) = h rest
closes_none i next h (answer.Refused why ∷ rest) = h rest
closes_none i next h (_ ∷ rest) = tt

pub give_up_one : (p : Serial) (why : Refusal) (xs : List Answer) → NotRemove (give_up (Unchanged p ∷ []) why xs)
give_up_one p why xs = closes_none p (gives (reply.No why)) (gives_none (reply.No why)) xs

pub give_up_two : (p t : Serial) (why : Refusal) (xs : List Answer) → NotRemove (give_up (Unchanged p ∷ Unchanged t ∷ []) why xs)
give_up_two p t why xs = closes_none p (give_up (Unchanged t ∷ []) why) (give_up_one t why) xs

refused_none : (is : List Serial) (r : Reply) (i : Serial) (why : Refusal) (xs : List Answer) → NotRemove (close_all (i ∷ is) r (answer.Refused why ∷ xs))
refused_none [] r i why xs = gives_none _ xs
refused_none (j ∷ js) r i why [] = tt
refused_none (j ∷ js) r i why (answer.Ended stamp ∷ rest) = refused_none js r j why rest
refused_none (j ∷ js) r i why (answer.Refused other ∷ rest) = refused_none js r j why rest
refused_none (j ∷ js) r i why (_ ∷ rest) = tt

pub close_all_none : (is : List Serial) (r : Reply) (xs : List Answer) → NotRemove (close_all is r xs)
close_all_none [] r xs = gives_none r xs
close_all_none (i ∷ is) r [] = tt
close_all_none (i ∷ is) r (answer.Ended stamp ∷ rest) = close_all_none is r rest
close_all_none (i ∷ is) r (answer.Refused why ∷ rest) = refused_none is r i why rest
close_all_none (i ∷ is) r (_ ∷ rest) = tt

-- ---- walks and directories ----

go_none : (mounts : List Mount) (path : List (List ℕ)) (xs : List Answer) (after : FileId → Kind → List Answer → Want) → ((f : FileId) (k : Kind) (ys : List Answer) → NotRemove (after f k ys)) → NotRemove (walked mounts path xs after)
go_none mounts path xs after h = over (walk mounts path [] (root_of 0) kind.Dir xs) refl
  where
    over : (w : Walked) → walk mounts path [] (root_of 0) kind.Dir xs ≡ w → NotRemove (walked mounts path xs after)
    over (Asks dir c) e = rw e tt
    over (Fails why) e = rw e tt
    over (There at k rest) e = rw e (h at k rest)
    over Strays e = rw e tt

opens_dir_none : (reached : List ℕ) (next : Serial → List Answer → Want) → ((p : Serial) (xs : List Answer) → NotRemove (next p xs)) → (dir : FileId) (k : Kind) (xs : List Answer) → NotRemove (opens_dir reached next dir k xs)
opens_dir_none reached next h dir kind.File xs = tt
opens_dir_none reached next h dir kind.Dir [] = tt
opens_dir_none reached next h dir kind.Dir (answer.Opened p ino ∷ rest) = h p rest
opens_dir_none reached next h dir kind.Dir (answer.Refused why ∷ rest) = tt
opens_dir_none reached next h dir kind.Dir (_ ∷ rest) = tt

changes_none : (mounts : List Mount) (path : List ℕ) (next : ℕ → Serial → List Answer → Want) → ((g : ℕ) (p : Serial) (xs : List Answer) → NotRemove (next g p xs)) → (xs : List Answer) → NotRemove (changes_dir mounts path next xs)
changes_none mounts path next h xs = go_none mounts _ xs _ (λ dir k rest. opens_dir_none _ (next dir.group) (h dir.group) dir k rest)

-- ---- create, mkdir and rename ----

after_insert_none : (p : Serial) (name : List ℕ) (k : Kind) (ino : ℕ) (told : Reply) (xs : List Answer) → NotRemove (after_insert p name k ino told xs)
after_insert_none p name k ino told [] = tt
after_insert_none p name k ino told (answer.Did o ∷ rest) = close_all_none (p ∷ []) told rest
after_insert_none p name k ino told (answer.Refused why ∷ rest) = give_up_one p why rest
after_insert_none p name k ino told (_ ∷ rest) = tt

after_make_none : (p : Serial) (name : List ℕ) (k : Kind) (made : Serial) (ino : ℕ) (told : Reply) (xs : List Answer) → NotRemove (after_make p name k made ino told xs)
after_make_none p name k made ino told [] = tt
after_make_none p name k made ino told (answer.Ended stamp ∷ rest) = after_insert_none p name k ino told rest
after_make_none p name k made ino told (answer.Refused why ∷ rest) = give_up_one p why rest
after_make_none p name k made ino told (_ ∷ rest) = tt

fills_none : (p : Serial) (name : List ℕ) (k : Kind) (bytes : List ℕ) (made : Serial) (ino : ℕ) (told : Reply) (xs : List Answer) → NotRemove (fills p name k bytes made ino told xs)
fills_none p name k [] made ino told xs = after_make_none p name k made ino told xs
fills_none p name k (b ∷ bs) made ino told [] = tt
fills_none p name k (b ∷ bs) made ino told (answer.Did o ∷ rest) = after_make_none p name k made ino told rest
fills_none p name k (b ∷ bs) made ino told (answer.Refused why ∷ rest) = give_up_two made p why rest
fills_none p name k (b ∷ bs) made ino told (_ ∷ rest) = tt

after_probe_none : (p : Serial) (group : ℕ) (name : List ℕ) (k : Kind) (sites : Option Sites) (bytes : List ℕ) (tells : ℕ → Reply) → (xs : List Answer) → NotRemove (after_probe p group name k sites bytes tells xs)
after_probe_none p group name k sites bytes tells [] = tt
after_probe_none p group name k sites bytes tells (answer.Opened made ino ∷ rest) = fills_none p name k bytes made ino (tells ino) rest
after_probe_none p group name k sites bytes tells (answer.Refused why ∷ rest) = give_up_one p why rest
after_probe_none p group name k sites bytes tells (_ ∷ rest) = tt

probes_none : (p : Serial) (group : ℕ) (name : List ℕ) (k : Kind) (sites : Option Sites) (bytes : List ℕ) (tells : ℕ → Reply) → (xs : List Answer) → NotRemove (probes p group name k sites bytes tells xs)
probes_none p group name k sites bytes tells [] = tt
probes_none p group name k sites bytes tells (answer.Did o ∷ rest) = after_probe_none p group name k sites bytes tells rest
probes_none p group name k sites bytes tells (answer.Refused why ∷ rest) = give_up_one p why rest
probes_none p group name k sites bytes tells (_ ∷ rest) = tt

renames_none : (p : Serial) (component name : List ℕ) (xs : List Answer) → NotRemove (renames p component name xs)
renames_none p component name [] = tt
renames_none p component name (answer.Did o ∷ rest) = close_all_none (p ∷ []) reply.Done rest
renames_none p component name (answer.Refused why ∷ rest) = give_up_one p why rest
renames_none p component name (_ ∷ rest) = tt

-- ---- mend, open, list, stat, and uses ----

close_none : (i : Serial) (xs : List Answer) → NotRemove (close_wants i xs)
close_none i [] = tt
close_none i (answer.Ended stamp ∷ []) = tt
close_none i (answer.Refused why ∷ []) = tt
close_none i (_ ∷ rest) = tt

after_mend_none : (i : Serial) (xs : List Answer) → NotRemove (after_mend i xs)
after_mend_none i [] = tt
after_mend_none i (answer.Did o ∷ rest) = close_none i rest
after_mend_none i (answer.Refused why ∷ rest) = give_up_one i why rest
after_mend_none i (_ ∷ rest) = tt

brings_none : (i : Serial) (f : FileId) (stamps : List Stamp) (xs : List Answer) → NotRemove (brings i f stamps xs)
brings_none i f [] xs = after_mend_none i xs
brings_none i f (s ∷ ss) [] = tt
brings_none i f (s ∷ ss) (answer.Brought ∷ rest) = brings_none i f ss rest
brings_none i f (s ∷ ss) (answer.Refused why ∷ rest) = give_up_one i why rest
brings_none i f (s ∷ ss) (_ ∷ rest) = tt

mend_none : (f : FileId) (xs : List Answer) → NotRemove (mend_wants f xs)
mend_none f [] = tt
mend_none f (answer.Merging i kept ∷ rest) = brings_none i f kept rest
mend_none f (answer.Refused why ∷ []) = tt
mend_none f (_ ∷ rest) = tt

opens_file_none : (m : OpenMode) (free : Option ℕ) (f : FileId) (k : Kind) (xs : List Answer) → NotRemove (opens_file m free f k xs)
opens_file_none m free f kind.Dir xs = tt
opens_file_none m free f kind.File [] = tt
opens_file_none m (Some fd) f kind.File (answer.Opened i ino ∷ []) = tt
opens_file_none m (Some fd) f kind.File (answer.Reading i version ∷ []) = tt
opens_file_none m None f kind.File (answer.Refused why ∷ []) = tt
opens_file_none m (Some fd) f kind.File (answer.Refused why ∷ []) = tt
opens_file_none m None f kind.File (_ ∷ rest) = tt
opens_file_none m (Some fd) f kind.File (_ ∷ rest) = tt

lists_none : (shows : Shows) (reached : List ℕ) (f : FileId) (k : Kind) (xs : List Answer) → NotRemove (lists shows reached f k xs)
lists_none shows reached f kind.File xs = tt
lists_none shows reached f kind.Dir [] = tt
lists_none shows reached f kind.Dir (answer.Showed names ∷ []) = tt
lists_none shows reached f kind.Dir (answer.Refused why ∷ []) = tt
lists_none shows reached f kind.Dir (_ ∷ rest) = tt

describes_none : (f : FileId) (k : Kind) (xs : List Answer) → NotRemove (describes f k xs)
describes_none f k [] = tt
describes_none f k (answer.Described found size stamp ∷ []) = tt
describes_none f k (answer.Refused why ∷ []) = tt
describes_none f k (_ ∷ rest) = tt

op_none : (i : Serial) (o : Op) → NotRemove (want.Do i o) → (xs : List Answer) → NotRemove (op_wants i o xs)
op_none i o plain [] = plain
op_none i o plain (answer.Did result ∷ []) = tt
op_none i o plain (answer.Refused why ∷ []) = tt
op_none i o plain (_ ∷ rest) = tt

pub uses_none : (words : Call) (i : Serial) (xs : List Answer) → NotRemove (uses_wants words i xs)
uses_none (call.Read fd at len) i xs = op_none i (op.Read at len) tt xs
uses_none (call.Write fd at bytes) i xs = op_none i (op.Write at bytes) tt xs
uses_none (call.Cut fd len) i xs = op_none i (op.Cut len) tt xs
uses_none (call.Commit fd) i xs = op_none i op.Commit tt xs
uses_none (call.Abort fd) i xs = op_none i op.Abort tt xs
uses_none (call.Close fd) i xs = close_none i xs
uses_none _ i xs = tt

pub reopens_none : (words : Call) (kept : OneVersion) (last : EpochId) (xs : List Answer) → NotRemove (reopen_wants words kept last xs)
reopens_none words kept last xs = reopen_so NotRemove kept (record { opens = tt; reads = λ i at len. tt; closes = λ i. tt; replies = λ r. tt; never = tt }) words last xs

-- ---- all others ----

-- unlink and rmdir remove a name
abbrev pub Removes : Call → Type 0
Removes (call.Unlink path) = Unit {0}
Removes (call.RemoveDir path) = Unit {0}
Removes _ = ⊥

pub others_none : (mounts : List Mount) (free : Option ℕ) (id : CallId) (words : Call) → (Removes words → ⊥) → (xs : List Answer) → NotRemove (path_wants mounts free id words xs)
others_none mounts free id (call.Create path sites) other xs = changes_none mounts path _ (λ g p rest. probes_none p g _ kind.File sites [] reply.Made rest) xs
others_none mounts free id (call.MakeDir path) other xs = changes_none mounts path _ (λ g p rest. probes_none p g _ kind.Dir None [] reply.Made rest) xs
others_none mounts free id (call.Unlink path) other xs = absurd (other tt)
others_none mounts free id (call.RemoveDir path) other xs = absurd (other tt)
others_none mounts free id (call.Rename path name) other xs = changes_none mounts path _ (λ g p rest. renames_none p _ name rest) xs
others_none mounts free id (call.List path) other xs = go_none mounts (components path) xs _ (λ f k rest. lists_none (shown_in mounts) _ f k rest)
others_none mounts free id (call.Stat path) other xs = go_none mounts (components path) xs _ (λ f k rest. describes_none f k rest)
others_none mounts free id (call.Mail path bytes) other xs = go_none mounts (components path) xs _ (λ dir k rest. opens_dir_none _ _ (λ p ys. probes_none p dir.group _ kind.File None bytes _ ys) dir k rest)
others_none mounts free id (call.Mails path) other xs = go_none mounts (components path) xs _ (λ f k rest. lists_none shown_messages _ f k rest)
others_none mounts free id (call.Open path how) other xs = go_none mounts (components path) xs _ (λ f k rest. opens_file_none how free f k rest)
others_none mounts free id (call.Mend f) other xs = mend_none f xs
others_none mounts free id _ other xs = tt
