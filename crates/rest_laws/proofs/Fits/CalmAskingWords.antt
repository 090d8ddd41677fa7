-- What scripts ask of instances: names that may be given, and writes that end within the greatest size.
use Rattle.std.proofs.Common.{◌≡◌, ℕ, Bool, true, false, not, ◌&&◌, cond, List, [], ◌∷◌, Option, Some, None, refl, sym, ap, subst, ◌⊎◌, inl, inr}
use Rattle.role_steps.proofs.of_plain_facts.Tests.{and_first, and_second, not_false}
use Rattle.locus_ids.specs.declared.ids.CallId.{CallId}
use Rattle.locus_ids.specs.declared.config.Mount.{Mount}
use Rattle.locus_ids.specs.declared.ids.EpochId.{EpochId}
use Rattle.locus_ids.specs.declared.ids.FileId.{FileId}
use Rattle.locus_ids.specs.declared.ids.Kind.{Kind}
use Rattle.locus_ids.specs.declared.ids.Kind.TheVariants as kind
use Rattle.locus_ids.specs.declared.ids.Serial.{Serial}
use Rattle.locus_ids.specs.declared.ids.Stamp.{Stamp}
use Rattle.locus_ids.specs.declared.refusal.Refusal.{Refusal}
use Rattle.locus_ids.specs.declared.refusal.Refusal.TheVariants as refusal
use Rattle.locus_ids.specs.declared.sites.Sites.{Sites}
use Rattle.trace_book.specs.Messages.{message_name}
use Rattle.trace_book.specs.Names.{components, is_name, last_of}
use Rattle.trace_book.specs.declared.call.Call.{Call}
use Rattle.trace_book.specs.declared.call.Call.TheVariants as call
use Rattle.trace_book.specs.declared.call.OpenMode.{OpenMode}
use Rattle.trace_book.specs.declared.descriptor.Beginning.{Beginning}
use Rattle.trace_book.specs.declared.descriptor.Beginning.TheVariants as begins
use Rattle.trace_book.specs.declared.operation.Op.{Op}
use Rattle.trace_book.specs.declared.operation.Op.TheVariants as op
use Rattle.trace_book.specs.declared.operation.Outcome.TheVariants as outcome
use Rattle.trace_book.specs.declared.reply.Reply.{Reply}
use Rattle.trace_book.specs.declared.reply.Reply.TheVariants as reply
use Rattle.call_rules.specs.Closing.{Unchanged, close_all, closes, give_up, gives}
use Rattle.call_rules.specs.Mailing.{tells_name, shown_messages}
use Rattle.call_rules.specs.Making.{after_insert, after_make, after_probe, changes_dir, fills, opens_dir, probes}
use Rattle.call_rules.specs.Mending.{after_mend, brings, mend_wants}
use Rattle.call_rules.specs.Naming.{renames}
use Rattle.call_rules.specs.Opening.{close_wants, describes, lists, op_wants, opens_file, uses_wants, Shows, shown_in}
use Rattle.call_rules.specs.Removing.{by_kind, empties, finds, opens_target, removes}
use Rattle.call_rules.specs.Scripts.{begun_wants, named_wants, path_wants}
use Rattle.call_rules.specs.Walks.{Asks, Fails, Strays, There, Walked, root_of, walk, walked}
use Rattle.call_rules.specs.Words.{is_badly_named, is_mount_name, names_entry, names_new}
use Rattle.call_rules.specs.declared.answer.Answer.{Answer}
use Rattle.call_rules.specs.declared.answer.Answer.TheVariants as answer
use Rattle.call_rules.specs.declared.want.Want.{Want}
use Rattle.tree_laws.proofs.OwnWalks.{WalksAs}
use Rattle.call_rules.specs.declared.want.Want.TheVariants as want
use Rattle.rest_laws.proofs.Fits.EntryWalking.{RereaderAsks, rereader_so}

-- ---- what a call asks that walks ----

-- create, mkdir and mail make a file
abbrev pub Makes : Call → Type 0
Makes (call.Create path sites) = Unit {0}
Makes (call.MakeDir path) = Unit {0}
Makes (call.Mail path bytes) = Unit {0}
Makes _ = ⊥

-- the call mails these bytes
abbrev pub Mails : Call → List ℕ → Type 0
Mails (call.Mail path bytes) wrote = bytes ≡ wrote
Mails _ wrote = ⊥

-- a new name is given by the words, or it is that of the message of the call
abbrev pub NameSo : CallId → Call → List ℕ → Type 0
NameSo d (call.Mail path bytes) name = name ≡ message_name d
NameSo d _ name = is_name name ≡ true

-- no use of a descriptor; each new name is one, only who makes a file inserts an entry, and only a mail writes, from the beginning
abbrev pub WalkAsks : CallId → Call → Want → Type 0
WalkAsks d words (want.Do i (op.Read at len)) = ⊥
WalkAsks d words (want.Do i (op.Write at bytes)) = (at ≡ 0) × Mails words bytes
WalkAsks d words (want.Do i (op.Cut len)) = ⊥
WalkAsks d words (want.Do i op.Commit) = ⊥
WalkAsks d words (want.Do i op.Abort) = ⊥
WalkAsks d words (want.Do i (op.Probe name)) = NameSo d words name
WalkAsks d words (want.Do i (op.Insert name ino kind)) = NameSo d words name × Makes words
WalkAsks d words (want.Do i (op.Rename component name)) = is_name name ≡ true
WalkAsks d words _ = Unit {0}

module _ (d : CallId) (words : Call) where
  -- ---- closing ----

  gives_so : (r : Reply) (xs : List Answer) → WalkAsks d words (gives r xs)
  gives_so r [] = tt
  gives_so r (x ∷ xs) = tt

  closes_so : (i : Serial) (next : List Answer → Want) → ((xs : List Answer) → WalkAsks d words (next xs)) → (xs : List Answer) → WalkAsks d words (closes i next xs)
  closes_so i next h [] = tt
  closes_so i next h (answer.Ended stamp ∷ rest) = h rest
  closes_so i next h (answer.Refused why ∷ rest) = h rest
  closes_so i next h (_ ∷ rest) = tt

  pub give_up_one : (p : Serial) (why : Refusal) (xs : List Answer) → WalkAsks d words (give_up (Unchanged p ∷ []) why xs)
  give_up_one p why xs = closes_so p (gives (reply.No why)) (gives_so (reply.No why)) xs

  pub give_up_two : (p t : Serial) (why : Refusal) (xs : List Answer) → WalkAsks d words (give_up (Unchanged p ∷ Unchanged t ∷ []) why xs)
  give_up_two p t why xs = closes_so p (give_up (Unchanged t ∷ []) why) (give_up_one t why) xs

  refused_so : (is : List Serial) (r : Reply) (i : Serial) (why : Refusal) (xs : List Answer) → WalkAsks d words (close_all (i ∷ is) r (answer.Refused why ∷ xs))
  refused_so [] r i why xs = gives_so _ xs
  refused_so (j ∷ js) r i why [] = tt
  refused_so (j ∷ js) r i why (answer.Ended stamp ∷ rest) = refused_so js r j why rest
  refused_so (j ∷ js) r i why (answer.Refused other ∷ rest) = refused_so js r j why rest
  refused_so (j ∷ js) r i why (_ ∷ rest) = tt

  pub close_all_so : (is : List Serial) (r : Reply) (xs : List Answer) → WalkAsks d words (close_all is r xs)
  close_all_so [] r xs = gives_so r xs
  close_all_so (i ∷ is) r [] = tt
  close_all_so (i ∷ is) r (answer.Ended stamp ∷ rest) = close_all_so is r rest
  close_all_so (i ∷ is) r (answer.Refused why ∷ rest) = refused_so is r i why rest
  close_all_so (i ∷ is) r (_ ∷ rest) = tt

  -- ---- walks and directories ----

  go_so : (mounts : List Mount) (path : List (List ℕ)) (xs : List Answer) (after : FileId → Kind → List Answer → Want) → ((f : FileId) (k : Kind) (ys : List Answer) → WalkAsks d words (after f k ys)) → WalkAsks d words (walked mounts path xs after)
  go_so mounts path xs after h = over (walk mounts path [] (root_of 0) kind.Dir xs) refl
    where
      over : (w : Walked) → walk mounts path [] (root_of 0) kind.Dir xs ≡ w → WalkAsks d words (walked mounts path xs after)
      over (Asks dir c) e = rw e tt
      over (Fails why) e = rw e tt
      over (There at k rest) e = rw e (h at k rest)
      over Strays e = rw e tt

  opens_dir_so : (reached : List ℕ) (next : Serial → List Answer → Want) → ((p : Serial) (xs : List Answer) → WalkAsks d words (next p xs)) → (dir : FileId) (k : Kind) (xs : List Answer) → WalkAsks d words (opens_dir reached next dir k xs)
  opens_dir_so reached next h dir kind.File xs = tt
  opens_dir_so reached next h dir kind.Dir [] = tt
  opens_dir_so reached next h dir kind.Dir (answer.Opened p ino ∷ rest) = h p rest
  opens_dir_so reached next h dir kind.Dir (answer.Refused why ∷ rest) = tt
  opens_dir_so reached next h dir kind.Dir (_ ∷ rest) = tt

  changes_so : (mounts : List Mount) (path : List ℕ) (next : ℕ → Serial → List Answer → Want) → ((g : ℕ) (p : Serial) (xs : List Answer) → WalkAsks d words (next g p xs)) → (xs : List Answer) → WalkAsks d words (changes_dir mounts path next xs)
  changes_so mounts path next h xs = go_so mounts _ xs _ (λ dir k rest. opens_dir_so _ (next dir.group) (h dir.group) dir k rest)

  -- ---- create and mkdir ----

  -- what a new file begins with is what is mailed
  abbrev pub WritesSo : List ℕ → Type 0
  WritesSo [] = Unit {0}
  WritesSo (b ∷ bs) = Mails words (b ∷ bs)

  module _ (p : Serial) (name : List ℕ) (k : Kind) (named : NameSo d words name) (makes : Makes words) where
    after_insert_so : (ino : ℕ) (told : Reply) (xs : List Answer) → WalkAsks d words (after_insert p name k ino told xs)
    after_insert_so ino told [] = (named, makes)
    after_insert_so ino told (answer.Did o ∷ rest) = close_all_so (p ∷ []) told rest
    after_insert_so ino told (answer.Refused why ∷ rest) = give_up_one p why rest
    after_insert_so ino told (_ ∷ rest) = tt

    after_make_so : (made : Serial) (ino : ℕ) (told : Reply) (xs : List Answer) → WalkAsks d words (after_make p name k made ino told xs)
    after_make_so made ino told [] = tt
    after_make_so made ino told (answer.Ended stamp ∷ rest) = after_insert_so ino told rest
    after_make_so made ino told (answer.Refused why ∷ rest) = give_up_one p why rest
    after_make_so made ino told (_ ∷ rest) = tt

    fills_so : (bytes : List ℕ) (made : Serial) (ino : ℕ) (told : Reply) → WritesSo bytes → (xs : List Answer) → WalkAsks d words (fills p name k bytes made ino told xs)
    fills_so [] made ino told writes xs = after_make_so made ino told xs
    fills_so (b ∷ bs) made ino told writes [] = (refl, writes)
    fills_so (b ∷ bs) made ino told writes (answer.Did o ∷ rest) = after_make_so made ino told rest
    fills_so (b ∷ bs) made ino told writes (answer.Refused why ∷ rest) = give_up_two made p why rest
    fills_so (b ∷ bs) made ino told writes (_ ∷ rest) = tt

    after_probe_so : (group : ℕ) (sites : Option Sites) (bytes : List ℕ) (tells : ℕ → Reply) → WritesSo bytes → (xs : List Answer) → WalkAsks d words (after_probe p group name k sites bytes tells xs)
    after_probe_so group sites bytes tells writes [] = tt
    after_probe_so group sites bytes tells writes (answer.Opened made ino ∷ rest) = fills_so bytes made ino (tells ino) writes rest
    after_probe_so group sites bytes tells writes (answer.Refused why ∷ rest) = give_up_one p why rest
    after_probe_so group sites bytes tells writes (_ ∷ rest) = tt

    probes_so : (group : ℕ) (sites : Option Sites) (bytes : List ℕ) (tells : ℕ → Reply) → WritesSo bytes → (xs : List Answer) → WalkAsks d words (probes p group name k sites bytes tells xs)
    probes_so group sites bytes tells writes [] = named
    probes_so group sites bytes tells writes (answer.Did o ∷ rest) = after_probe_so group sites bytes tells writes rest
    probes_so group sites bytes tells writes (answer.Refused why ∷ rest) = give_up_one p why rest
    probes_so group sites bytes tells writes (_ ∷ rest) = tt

  -- ---- unlink, rmdir and rename ----

  removes_so : (p t : Serial) (name : List ℕ) (ino : ℕ) (xs : List Answer) → WalkAsks d words (removes p t name ino xs)
  removes_so p t name ino [] = tt
  removes_so p t name ino (answer.Did o ∷ rest) = close_all_so (p ∷ t ∷ []) reply.Done rest
  removes_so p t name ino (answer.Refused why ∷ rest) = give_up_two p t why rest
  removes_so p t name ino (_ ∷ rest) = tt

  empties_so : (k : Kind) (p t : Serial) (name : List ℕ) (ino : ℕ) (xs : List Answer) → WalkAsks d words (empties k p t name ino xs)
  empties_so kind.File p t name ino xs = removes_so p t name ino xs
  empties_so kind.Dir p t name ino [] = tt
  empties_so kind.Dir p t name ino (answer.Did o ∷ rest) = removes_so p t name ino rest
  empties_so kind.Dir p t name ino (answer.Refused why ∷ rest) = give_up_two p t why rest
  empties_so kind.Dir p t name ino (_ ∷ rest) = tt

  target_so : (k : Kind) (p : Serial) (group : ℕ) (name : List ℕ) (ino : ℕ) (xs : List Answer) → WalkAsks d words (opens_target k p group name ino xs)
  target_so k p group name ino [] = tt
  target_so k p group name ino (answer.Opened t found ∷ rest) = empties_so k p t name ino rest
  target_so k p group name ino (answer.Refused why ∷ rest) = give_up_one p why rest
  target_so k p group name ino (_ ∷ rest) = tt

  by_kind_so : (k found : Kind) (p : Serial) (group : ℕ) (component : List ℕ) (ino : ℕ) (xs : List Answer) → WalkAsks d words (by_kind k found p group component ino xs)
  by_kind_so kind.File kind.File p group component ino xs = target_so kind.File p group _ ino xs
  by_kind_so kind.Dir kind.Dir p group component ino xs = target_so kind.Dir p group _ ino xs
  by_kind_so kind.File kind.Dir p group component ino xs = give_up_one p _ xs
  by_kind_so kind.Dir kind.File p group component ino xs = give_up_one p _ xs

  finds_so : (k : Kind) (p : Serial) (group : ℕ) (component : List ℕ) (xs : List Answer) → WalkAsks d words (finds k p group component xs)
  finds_so k p group component [] = tt
  finds_so k p group component (answer.Did (outcome.Found ino found) ∷ rest) = by_kind_so k found p group component ino rest
  finds_so k p group component (answer.Refused why ∷ rest) = give_up_one p why rest
  finds_so k p group component (_ ∷ rest) = tt

  renames_so : (p : Serial) (component name : List ℕ) → is_name name ≡ true → (xs : List Answer) → WalkAsks d words (renames p component name xs)
  renames_so p component name named [] = named
  renames_so p component name named (answer.Did o ∷ rest) = close_all_so (p ∷ []) reply.Done rest
  renames_so p component name named (answer.Refused why ∷ rest) = give_up_one p why rest
  renames_so p component name named (_ ∷ rest) = tt

  -- ---- mend, open, list and stat ----

  close_so : (i : Serial) (xs : List Answer) → WalkAsks d words (close_wants i xs)
  close_so i [] = tt
  close_so i (answer.Ended stamp ∷ []) = tt
  close_so i (answer.Refused why ∷ []) = tt
  close_so i (_ ∷ rest) = tt

  after_mend_so : (i : Serial) (xs : List Answer) → WalkAsks d words (after_mend i xs)
  after_mend_so i [] = tt
  after_mend_so i (answer.Did o ∷ rest) = close_so i rest
  after_mend_so i (answer.Refused why ∷ rest) = give_up_one i why rest
  after_mend_so i (_ ∷ rest) = tt

  brings_so : (i : Serial) (f : FileId) (stamps : List Stamp) (xs : List Answer) → WalkAsks d words (brings i f stamps xs)
  brings_so i f [] xs = after_mend_so i xs
  brings_so i f (s ∷ ss) [] = tt
  brings_so i f (s ∷ ss) (answer.Brought ∷ rest) = brings_so i f ss rest
  brings_so i f (s ∷ ss) (answer.Refused why ∷ rest) = give_up_one i why rest
  brings_so i f (s ∷ ss) (_ ∷ rest) = tt

  mend_so : (f : FileId) (xs : List Answer) → WalkAsks d words (mend_wants f xs)
  mend_so f [] = tt
  mend_so f (answer.Merging i kept ∷ rest) = brings_so i f kept rest
  mend_so f (answer.Refused why ∷ []) = tt
  mend_so f (_ ∷ rest) = tt

  opens_file_so : (m : OpenMode) (free : Option ℕ) (f : FileId) (k : Kind) (xs : List Answer) → WalkAsks d words (opens_file m free f k xs)
  opens_file_so m free f kind.Dir xs = tt
  opens_file_so m free f kind.File [] = tt
  opens_file_so m (Some fd) f kind.File (answer.Opened i ino ∷ []) = tt
  opens_file_so m (Some fd) f kind.File (answer.Reading i version ∷ []) = tt
  opens_file_so m None f kind.File (answer.Refused why ∷ []) = tt
  opens_file_so m (Some fd) f kind.File (answer.Refused why ∷ []) = tt
  opens_file_so m None f kind.File (_ ∷ rest) = tt
  opens_file_so m (Some fd) f kind.File (_ ∷ rest) = tt

  lists_so : (shows : Shows) (reached : List ℕ) (f : FileId) (k : Kind) (xs : List Answer) → WalkAsks d words (lists shows reached f k xs)
  lists_so shows reached f kind.File xs = tt
  lists_so shows reached f kind.Dir [] = tt
  lists_so shows reached f kind.Dir (answer.Showed names ∷ []) = tt
  lists_so shows reached f kind.Dir (answer.Refused why ∷ []) = tt
  lists_so shows reached f kind.Dir (_ ∷ rest) = tt

  describes_so : (f : FileId) (k : Kind) (xs : List Answer) → WalkAsks d words (describes f k xs)
  describes_so f k [] = tt
  describes_so f k (answer.Described found size stamp ∷ []) = tt
  describes_so f k (answer.Refused why ∷ []) = tt
  describes_so f k (_ ∷ rest) = tt

-- ---- all calls that walk ----

mailed : (d : CallId) (path bytes : List ℕ) → WritesSo d (call.Mail path bytes) bytes
mailed d path [] = tt
mailed d path (b ∷ bs) = refl

pub path_so : (mounts : List Mount) (free : Option ℕ) (d : CallId) (words : Call) → is_badly_named mounts words ≡ false → (xs : List Answer) → WalkAsks d words (path_wants mounts free d words xs)
path_so mounts free d (call.Create path sites) h xs = changes_so d (call.Create path sites) mounts path _ (λ g p rest. probes_so d (call.Create path sites) p (last_of (components path)) kind.File (and_second (names_entry mounts path) (is_name (last_of (components path))) (not_false (names_new mounts path) h)) tt g sites [] reply.Made tt rest) xs
path_so mounts free d (call.MakeDir path) h xs = changes_so d (call.MakeDir path) mounts path _ (λ g p rest. probes_so d (call.MakeDir path) p (last_of (components path)) kind.Dir (and_second (names_entry mounts path) (is_name (last_of (components path))) (not_false (names_new mounts path) h)) tt g None [] reply.Made tt rest) xs
path_so mounts free d (call.Unlink path) h xs = changes_so d (call.Unlink path) mounts path _ (λ g p rest. finds_so d (call.Unlink path) kind.File p g _ rest) xs
path_so mounts free d (call.RemoveDir path) h xs = changes_so d (call.RemoveDir path) mounts path _ (λ g p rest. finds_so d (call.RemoveDir path) kind.Dir p g _ rest) xs
path_so mounts free d (call.Rename path name) h xs = changes_so d (call.Rename path name) mounts path _ (λ g p rest. renames_so d (call.Rename path name) p _ name (and_first (is_name name) (not (is_mount_name mounts path name)) (and_second (names_entry mounts path) (is_name name && not (is_mount_name mounts path name)) (not_false (names_entry mounts path && (is_name name && not (is_mount_name mounts path name))) h))) rest) xs
path_so mounts free d (call.List path) h xs = go_so d (call.List path) mounts (components path) xs _ (λ f k rest. lists_so d (call.List path) (shown_in mounts) _ f k rest)
path_so mounts free d (call.Stat path) h xs = go_so d (call.Stat path) mounts (components path) xs _ (λ f k rest. describes_so d (call.Stat path) f k rest)
path_so mounts free d (call.Mail path bytes) h xs = go_so d (call.Mail path bytes) mounts (components path) xs _
    (λ f k rest. opens_dir_so d (call.Mail path bytes) _ _ (λ p ys. probes_so d (call.Mail path bytes) p (message_name d) kind.File refl tt f.group None bytes (tells_name (message_name d)) (mailed d path bytes) ys) f k rest)
path_so mounts free d (call.Mails path) h xs = go_so d (call.Mails path) mounts (components path) xs _ (λ f k rest. lists_so d (call.Mails path) shown_messages _ f k rest)
path_so mounts free d (call.Open path how) h xs = go_so d (call.Open path how) mounts (components path) xs _ (λ f k rest. opens_file_so d (call.Open path how) how free f k rest)
path_so mounts free d (call.Mend f) h xs = mend_so d (call.Mend f) f xs
path_so mounts free d _ h xs = tt

-- ---- uses of a descriptor ----

-- the operation is what the words say
abbrev pub IsUse : Call → Op → Type 0
IsUse (call.Read fd at len) o = o ≡ op.Read at len
IsUse (call.Write fd at bytes) o = o ≡ op.Write at bytes
IsUse (call.Cut fd len) o = o ≡ op.Cut len
IsUse (call.Commit fd) o = o ≡ op.Commit
IsUse (call.Abort fd) o = o ≡ op.Abort
IsUse _ o = ⊥

abbrev NotDo : Want → Type 0
NotDo (want.Do i o) = ⊥
NotDo _ = Unit {0}

do_same : (j i : Serial) (p o : Op) → want.Do j p ≡ want.Do i o → (j ≡ i) × (o ≡ p)
do_same j i p o e = (cc, cc)

not_do : (w : Want) (i : Serial) (o : Op) → NotDo w → w ≡ want.Do i o → ⊥
not_do w i o h e = subst NotDo e h

op_use : (j : Serial) (p : Op) (i : Serial) (o : Op) (xs : List Answer) → op_wants j p xs ≡ want.Do i o → (j ≡ i) × (o ≡ p)
op_use j p i o [] e = do_same j i p o e
op_use j p i o (answer.Did result ∷ []) e = absurd (not_do _ i o tt e)
op_use j p i o (answer.Refused why ∷ []) e = absurd (not_do _ i o tt e)
op_use j p i o (_ ∷ rest) e = absurd (not_do _ i o tt e)

close_use : (j i : Serial) (o : Op) (xs : List Answer) → close_wants j xs ≡ want.Do i o → ⊥
close_use j i o [] e = not_do _ i o tt e
close_use j i o (answer.Ended stamp ∷ []) e = not_do _ i o tt e
close_use j i o (answer.Refused why ∷ []) e = not_do _ i o tt e
close_use j i o (_ ∷ rest) e = not_do _ i o tt e

pub use_so : (words : Call) (j i : Serial) (o : Op) (xs : List Answer) → uses_wants words j xs ≡ want.Do i o → (j ≡ i) × IsUse words o
use_so (call.Read fd at len) j i o xs e = op_use j (op.Read at len) i o xs e
use_so (call.Write fd at bytes) j i o xs e = op_use j (op.Write at bytes) i o xs e
use_so (call.Cut fd len) j i o xs e = op_use j (op.Cut len) i o xs e
use_so (call.Commit fd) j i o xs e = op_use j op.Commit i o xs e
use_so (call.Abort fd) j i o xs e = op_use j op.Abort i o xs e
use_so (call.Close fd) j i o xs e = absurd (close_use j i o xs e)
use_so _ j i o xs e = absurd (not_do _ i o tt e)

-- ---- the whole script ----

-- the call uses the instance that its descriptor stands for
pub record Uses (words : Call) (b : Beginning) (i : Serial) (o : Op) : Type 0 where
  pub epoch : EpochId
  pub begins_so : b ≡ begins.Uses epoch i
  pub is_use : IsUse words o

-- it is asked by a call that walks, by one that uses its descriptor, or by a read that opens a version again
abbrev pub AskedBy : CallId → Call → Beginning → Serial → Op → Type 0
AskedBy d words b i o = WalkAsks d words (want.Do i o) ⊎ (Uses words b i o ⊎ RereaderAsks (want.Do i o))

begun_so : (mounts : List Mount) (free : Option ℕ) (d : CallId) (words : Call) → is_badly_named mounts words ≡ false → (b : Beginning) → WalksAs d b → (xs : List Answer) (i : Serial) (o : Op) → begun_wants mounts free words b xs ≡ want.Do i o → AskedBy d words b i o
begun_so mounts free d words h (begins.Denied why) own xs i o e = absurd (not_do _ i o tt e)
begun_so mounts free d words h (begins.Uses epoch j) own xs i o e = (let k = use_so words j i o xs e in inr (inl (record { epoch = epoch; begins_so = ap (begins.Uses epoch) k.0; is_use = k.1 })))
begun_so mounts free d words h (begins.Walks id) own xs i o e = inl (subst (WalkAsks d words) e (subst (λ (z : CallId). WalkAsks d words (path_wants mounts free z words xs)) (sym own) (path_so mounts free d words h xs)))
begun_so mounts free d words h (begins.Reopens kept last) own xs i o e = inr (inr (subst RereaderAsks e (rereader_so words kept last xs)))
begun_so mounts free d words h begins.Frees own xs i o e = absurd (not_do _ i o tt e)

pub named_so : (mounts : List Mount) (free : Option ℕ) (d : CallId) (words : Call) (b : Beginning) → WalksAs d b → (xs : List Answer) (i : Serial) (o : Op) → named_wants mounts free words b xs ≡ want.Do i o → AskedBy d words b i o
named_so mounts free d words b own xs i o e = over (is_badly_named mounts words) refl e
  where
    over : (x : Bool) → is_badly_named mounts words ≡ x → cond x (want.Give (reply.No refusal.BadName)) (begun_wants mounts free words b xs) ≡ want.Do i o → AskedBy d words b i o
    over true k q = absurd (not_do _ i o tt q)
    over false k q = begun_so mounts free d words k b own xs i o q
