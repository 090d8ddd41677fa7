-- Scripts that make nothing: those of all calls but create, mkdir and mail, and of these once the make is answered.
use Rattle.std.proofs.Common.{ℕ, List, [], ◌∷◌, Option, Some, None, ◌≡◌, refl}
use Rattle.locus_ids.specs.declared.ids.CallId.{CallId}
use Rattle.locus_ids.specs.declared.config.Mount.{Mount}
use Rattle.locus_ids.specs.declared.ids.EpochId.{EpochId}
use Rattle.locus_ids.specs.declared.ids.FileId.{FileId}
use Rattle.locus_ids.specs.declared.ids.Kind.{Kind}
use Rattle.locus_ids.specs.declared.ids.Kind.TheVariants as kind
use Rattle.locus_ids.specs.declared.ids.Serial.{Serial}
use Rattle.locus_ids.specs.declared.ids.Stamp.{Stamp}
use Rattle.locus_ids.specs.declared.refusal.Refusal.{Refusal}
use Rattle.locus_ids.specs.declared.sites.Sites.{Sites}
use Rattle.trace_book.specs.Names.{components}
use Rattle.trace_book.specs.declared.call.Call.{Call}
use Rattle.trace_book.specs.declared.call.Call.TheVariants as call
use Rattle.trace_book.specs.declared.call.OpenMode.{OpenMode}
use Rattle.trace_book.specs.declared.descriptor.OneVersion.{OneVersion}
use Rattle.trace_book.specs.declared.operation.Op.{Op}
use Rattle.trace_book.specs.declared.operation.Op.TheVariants as op
use Rattle.trace_book.specs.declared.operation.Outcome.TheVariants as outcome
use Rattle.trace_book.specs.declared.reply.Reply.{Reply}
use Rattle.trace_book.specs.declared.reply.Reply.TheVariants as reply
use Rattle.call_rules.specs.Closing.{Unchanged, close_all, closes, give_up, gives}
use Rattle.call_rules.specs.Mailing.{shown_messages}
use Rattle.call_rules.specs.Making.{after_insert, after_make, after_probe, changes_dir, opens_dir, fills}
use Rattle.call_rules.specs.Mending.{after_mend, brings, mend_wants}
use Rattle.call_rules.specs.Naming.{renames}
use Rattle.call_rules.specs.Opening.{close_wants, describes, lists, op_wants, opens_file, uses_wants, Shows, shown_in}
use Rattle.call_rules.specs.Removing.{by_kind, empties, finds, opens_target, removes}
use Rattle.call_rules.specs.Reopening.{reopen_wants}
use Rattle.call_rules.specs.Scripts.{path_wants}
use Rattle.call_rules.specs.Walks.{Asks, Fails, Strays, There, Walked, root_of, walk, walked}
use Rattle.call_rules.specs.declared.answer.Answer.{Answer}
use Rattle.call_rules.specs.declared.answer.Answer.TheVariants as answer
use Rattle.call_rules.specs.declared.want.Want.{Want}
use Rattle.call_rules.specs.declared.want.Want.TheVariants as want
use Rattle.store_laws.proofs.Holdings.MendReopens.{reopen_so}

-- it asks no make
abbrev pub NotMake : Want → Type 0
NotMake (want.Make group kind sites) = ⊥
NotMake _ = Unit {0}

-- ---- closing ----

gives_none : (r : Reply) (xs : List Answer) → NotMake (gives r xs)
gives_none r [] = tt
gives_none r (x ∷ xs) = tt

closes_none : (i : Serial) (next : List Answer → Want) → ((xs : List Answer) → NotMake (next xs)) → (xs : List Answer) → NotMake (closes i next xs)
closes_none i next h [] = tt
closes_none i next h (answer.Ended stamp ∷ rest) = h rest
closes_none i next h (answer.Refused why ∷ rest) = h rest
closes_none i next h (_ ∷ rest) = tt

pub give_up_one : (p : Serial) (why : Refusal) (xs : List Answer) → NotMake (give_up (Unchanged p ∷ []) why xs)
give_up_one p why xs = closes_none p (gives (reply.No why)) (gives_none (reply.No why)) xs

pub give_up_two : (p t : Serial) (why : Refusal) (xs : List Answer) → NotMake (give_up (Unchanged p ∷ Unchanged t ∷ []) why xs)
give_up_two p t why xs = closes_none p (give_up (Unchanged t ∷ []) why) (give_up_one t why) xs

refused_none : (is : List Serial) (r : Reply) (i : Serial) (why : Refusal) (xs : List Answer) → NotMake (close_all (i ∷ is) r (answer.Refused why ∷ xs))
refused_none [] r i why xs = gives_none _ xs
refused_none (j ∷ js) r i why [] = tt
refused_none (j ∷ js) r i why (answer.Ended stamp ∷ rest) = refused_none js r j why rest
refused_none (j ∷ js) r i why (answer.Refused other ∷ rest) = refused_none js r j why rest
refused_none (j ∷ js) r i why (_ ∷ rest) = tt

pub close_all_none : (is : List Serial) (r : Reply) (xs : List Answer) → NotMake (close_all is r xs)
close_all_none [] r xs = gives_none r xs
close_all_none (i ∷ is) r [] = tt
close_all_none (i ∷ is) r (answer.Ended stamp ∷ rest) = close_all_none is r rest
close_all_none (i ∷ is) r (answer.Refused why ∷ rest) = refused_none is r i why rest
close_all_none (i ∷ is) r (_ ∷ rest) = tt

-- ---- walks and directories ----

go_none : (mounts : List Mount) (path : List (List ℕ)) (xs : List Answer) (after : FileId → Kind → List Answer → Want) → ((f : FileId) (k : Kind) (ys : List Answer) → NotMake (after f k ys)) → NotMake (walked mounts path xs after)
go_none mounts path xs after h = over (walk mounts path [] (root_of 0) kind.Dir xs) refl
  where
    over : (w : Walked) → walk mounts path [] (root_of 0) kind.Dir xs ≡ w → NotMake (walked mounts path xs after)
    over (Asks dir c) e = rw e tt
    over (Fails why) e = rw e tt
    over (There at k rest) e = rw e (h at k rest)
    over Strays e = rw e tt

opens_dir_none : (reached : List ℕ) (next : Serial → List Answer → Want) → ((p : Serial) (xs : List Answer) → NotMake (next p xs)) → (dir : FileId) (k : Kind) (xs : List Answer) → NotMake (opens_dir reached next dir k xs)
opens_dir_none reached next h dir kind.File xs = tt
opens_dir_none reached next h dir kind.Dir [] = tt
opens_dir_none reached next h dir kind.Dir (answer.Opened p ino ∷ rest) = h p rest
opens_dir_none reached next h dir kind.Dir (answer.Refused why ∷ rest) = tt
opens_dir_none reached next h dir kind.Dir (_ ∷ rest) = tt

changes_none : (mounts : List Mount) (path : List ℕ) (next : ℕ → Serial → List Answer → Want) → ((g : ℕ) (p : Serial) (xs : List Answer) → NotMake (next g p xs)) → (xs : List Answer) → NotMake (changes_dir mounts path next xs)
changes_none mounts path next h xs = go_none mounts _ xs _ (λ dir k rest. opens_dir_none _ (next dir.group) (h dir.group) dir k rest)

-- ---- create and mkdir ----

after_insert_none : (p : Serial) (name : List ℕ) (k : Kind) (ino : ℕ) (told : Reply) (xs : List Answer) → NotMake (after_insert p name k ino told xs)
after_insert_none p name k ino told [] = tt
after_insert_none p name k ino told (answer.Did o ∷ rest) = close_all_none (p ∷ []) told rest
after_insert_none p name k ino told (answer.Refused why ∷ rest) = give_up_one p why rest
after_insert_none p name k ino told (_ ∷ rest) = tt

after_make_none : (p : Serial) (name : List ℕ) (k : Kind) (made : Serial) (ino : ℕ) (told : Reply) (xs : List Answer) → NotMake (after_make p name k made ino told xs)
after_make_none p name k made ino told [] = tt
after_make_none p name k made ino told (answer.Ended stamp ∷ rest) = after_insert_none p name k ino told rest
after_make_none p name k made ino told (answer.Refused why ∷ rest) = give_up_one p why rest
after_make_none p name k made ino told (_ ∷ rest) = tt

fills_none : (p : Serial) (name : List ℕ) (k : Kind) (bytes : List ℕ) (made : Serial) (ino : ℕ) (told : Reply) (xs : List Answer) → NotMake (fills p name k bytes made ino told xs)
fills_none p name k [] made ino told xs = after_make_none p name k made ino told xs
fills_none p name k (b ∷ bs) made ino told [] = tt
fills_none p name k (b ∷ bs) made ino told (answer.Did o ∷ rest) = after_make_none p name k made ino told rest
fills_none p name k (b ∷ bs) made ino told (answer.Refused why ∷ rest) = give_up_two made p why rest
fills_none p name k (b ∷ bs) made ino told (_ ∷ rest) = tt

-- once the make is answered
pub made_none : (p : Serial) (group : ℕ) (name : List ℕ) (k : Kind) (sites : Option Sites) (bytes : List ℕ) (tells : ℕ → Reply) (a : Answer) (xs : List Answer) → NotMake (after_probe p group name k sites bytes tells (a ∷ xs))
made_none p group name k sites bytes tells (answer.Opened made ino) xs = fills_none p name k bytes made ino (tells ino) xs
made_none p group name k sites bytes tells (answer.Refused why) xs = give_up_one p why xs
made_none p group name k sites bytes tells _ xs = tt

-- ---- unlink, rmdir and rename ----

removes_none : (p t : Serial) (name : List ℕ) (ino : ℕ) (xs : List Answer) → NotMake (removes p t name ino xs)
removes_none p t name ino [] = tt
removes_none p t name ino (answer.Did o ∷ rest) = close_all_none (p ∷ t ∷ []) reply.Done rest
removes_none p t name ino (answer.Refused why ∷ rest) = give_up_two p t why rest
removes_none p t name ino (_ ∷ rest) = tt

empties_none : (k : Kind) (p t : Serial) (name : List ℕ) (ino : ℕ) (xs : List Answer) → NotMake (empties k p t name ino xs)
empties_none kind.File p t name ino xs = removes_none p t name ino xs
empties_none kind.Dir p t name ino [] = tt
empties_none kind.Dir p t name ino (answer.Did o ∷ rest) = removes_none p t name ino rest
empties_none kind.Dir p t name ino (answer.Refused why ∷ rest) = give_up_two p t why rest
empties_none kind.Dir p t name ino (_ ∷ rest) = tt

target_none : (k : Kind) (p : Serial) (group : ℕ) (name : List ℕ) (ino : ℕ) (xs : List Answer) → NotMake (opens_target k p group name ino xs)
target_none k p group name ino [] = tt
target_none k p group name ino (answer.Opened t found ∷ rest) = empties_none k p t name ino rest
target_none k p group name ino (answer.Refused why ∷ rest) = give_up_one p why rest
target_none k p group name ino (_ ∷ rest) = tt

by_kind_none : (k found : Kind) (p : Serial) (group : ℕ) (component : List ℕ) (ino : ℕ) (xs : List Answer) → NotMake (by_kind k found p group component ino xs)
by_kind_none kind.File kind.File p group component ino xs = target_none kind.File p group _ ino xs
by_kind_none kind.Dir kind.Dir p group component ino xs = target_none kind.Dir p group _ ino xs
by_kind_none kind.File kind.Dir p group component ino xs = give_up_one p _ xs
by_kind_none kind.Dir kind.File p group component ino xs = give_up_one p _ xs

finds_none : (k : Kind) (p : Serial) (group : ℕ) (component : List ℕ) (xs : List Answer) → NotMake (finds k p group component xs)
finds_none k p group component [] = tt
finds_none k p group component (answer.Did (outcome.Found ino found) ∷ rest) = by_kind_none k found p group component ino rest
finds_none k p group component (answer.Refused why ∷ rest) = give_up_one p why rest
finds_none k p group component (_ ∷ rest) = tt

renames_none : (p : Serial) (component name : List ℕ) (xs : List Answer) → NotMake (renames p component name xs)
renames_none p component name [] = tt
renames_none p component name (answer.Did o ∷ rest) = close_all_none (p ∷ []) reply.Done rest
renames_none p component name (answer.Refused why ∷ rest) = give_up_one p why rest
renames_none p component name (_ ∷ rest) = tt

-- ---- mend, open, list, stat, and uses ----

close_none : (i : Serial) (xs : List Answer) → NotMake (close_wants i xs)
close_none i [] = tt
close_none i (answer.Ended stamp ∷ []) = tt
close_none i (answer.Refused why ∷ []) = tt
close_none i (_ ∷ rest) = tt

after_mend_none : (i : Serial) (xs : List Answer) → NotMake (after_mend i xs)
after_mend_none i [] = tt
after_mend_none i (answer.Did o ∷ rest) = close_none i rest
after_mend_none i (answer.Refused why ∷ rest) = give_up_one i why rest
after_mend_none i (_ ∷ rest) = tt

brings_none : (i : Serial) (f : FileId) (stamps : List Stamp) (xs : List Answer) → NotMake (brings i f stamps xs)
brings_none i f [] xs = after_mend_none i xs
brings_none i f (s ∷ ss) [] = tt
brings_none i f (s ∷ ss) (answer.Brought ∷ rest) = brings_none i f ss rest
brings_none i f (s ∷ ss) (answer.Refused why ∷ rest) = give_up_one i why rest
brings_none i f (s ∷ ss) (_ ∷ rest) = tt

mend_none : (f : FileId) (xs : List Answer) → NotMake (mend_wants f xs)
mend_none f [] = tt
mend_none f (answer.Merging i kept ∷ rest) = brings_none i f kept rest
mend_none f (answer.Refused why ∷ []) = tt
mend_none f (_ ∷ rest) = tt

opens_file_none : (m : OpenMode) (free : Option ℕ) (f : FileId) (k : Kind) (xs : List Answer) → NotMake (opens_file m free f k xs)
opens_file_none m free f kind.Dir xs = tt
opens_file_none m free f kind.File [] = tt
opens_file_none m (Some fd) f kind.File (answer.Opened i ino ∷ []) = tt
opens_file_none m (Some fd) f kind.File (answer.Reading i version ∷ []) = tt
opens_file_none m None f kind.File (answer.Refused why ∷ []) = tt
opens_file_none m (Some fd) f kind.File (answer.Refused why ∷ []) = tt
opens_file_none m None f kind.File (_ ∷ rest) = tt
opens_file_none m (Some fd) f kind.File (_ ∷ rest) = tt

lists_none : (shows : Shows) (reached : List ℕ) (f : FileId) (k : Kind) (xs : List Answer) → NotMake (lists shows reached f k xs)
lists_none shows reached f kind.File xs = tt
lists_none shows reached f kind.Dir [] = tt
lists_none shows reached f kind.Dir (answer.Showed names ∷ []) = tt
lists_none shows reached f kind.Dir (answer.Refused why ∷ []) = tt
lists_none shows reached f kind.Dir (_ ∷ rest) = tt

describes_none : (f : FileId) (k : Kind) (xs : List Answer) → NotMake (describes f k xs)
describes_none f k [] = tt
describes_none f k (answer.Described found size stamp ∷ []) = tt
describes_none f k (answer.Refused why ∷ []) = tt
describes_none f k (_ ∷ rest) = tt

op_none : (i : Serial) (o : Op) (xs : List Answer) → NotMake (op_wants i o xs)
op_none i o [] = tt
op_none i o (answer.Did result ∷ []) = tt
op_none i o (answer.Refused why ∷ []) = tt
op_none i o (_ ∷ rest) = tt

pub uses_none : (words : Call) (i : Serial) (xs : List Answer) → NotMake (uses_wants words i xs)
uses_none (call.Read fd at len) i xs = op_none i (op.Read at len) xs
uses_none (call.Write fd at bytes) i xs = op_none i (op.Write at bytes) xs
uses_none (call.Cut fd len) i xs = op_none i (op.Cut len) xs
uses_none (call.Commit fd) i xs = op_none i op.Commit xs
uses_none (call.Abort fd) i xs = op_none i op.Abort xs
uses_none (call.Close fd) i xs = close_none i xs
uses_none _ i xs = tt

pub reopens_none : (words : Call) (kept : OneVersion) (last : EpochId) (xs : List Answer) → NotMake (reopen_wants words kept last xs)
reopens_none words kept last xs = reopen_so NotMake kept (record { opens = tt; reads = λ i at len. tt; closes = λ i. tt; replies = λ r. tt; never = tt }) words last xs

-- ---- all others ----

-- create, mkdir and mail make a file
abbrev pub Makes : Call → Type 0
Makes (call.Create path sites) = Unit {0}
Makes (call.MakeDir path) = Unit {0}
Makes (call.Mail path bytes) = Unit {0}
Makes _ = ⊥

pub others_none : (mounts : List Mount) (free : Option ℕ) (id : CallId) (words : Call) → (Makes words → ⊥) → (xs : List Answer) → NotMake (path_wants mounts free id words xs)
others_none mounts free id (call.Create path sites) other xs = absurd (other tt)
others_none mounts free id (call.MakeDir path) other xs = absurd (other tt)
others_none mounts free id (call.Mail path bytes) other xs = absurd (other tt)
others_none mounts free id (call.Unlink path) other xs = changes_none mounts path _ (λ g p rest. finds_none kind.File p g _ rest) xs
others_none mounts free id (call.RemoveDir path) other xs = changes_none mounts path _ (λ g p rest. finds_none kind.Dir p g _ rest) xs
others_none mounts free id (call.Rename path name) other xs = changes_none mounts path _ (λ g p rest. renames_none p _ name rest) xs
others_none mounts free id (call.List path) other xs = go_none mounts (components path) xs _ (λ f k rest. lists_none (shown_in mounts) _ f k rest)
others_none mounts free id (call.Mails path) other xs = go_none mounts (components path) xs _ (λ f k rest. lists_none shown_messages _ f k rest)
others_none mounts free id (call.Stat path) other xs = go_none mounts (components path) xs _ (λ f k rest. describes_none f k rest)
others_none mounts free id (call.Open path how) other xs = go_none mounts (components path) xs _ (λ f k rest. opens_file_none how free f k rest)
others_none mounts free id (call.Mend f) other xs = mend_none f xs
others_none mounts free id _ other xs = tt
