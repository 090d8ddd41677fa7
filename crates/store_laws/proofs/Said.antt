-- What a make wants is what the words of its call say: the kind of the file and its sites.
use Rattle.std.proofs.Common.{◌≡◌, ℕ, Bool, true, false, cond, List, [], ◌∷◌, Option, Some, None, refl, sym, ◌∙◌, ap, subst}
use Rattle.locus_ids.specs.declared.config.Config.{Config}
use Rattle.locus_ids.specs.declared.config.Mount.{Mount}
use Rattle.locus_ids.specs.declared.ids.CallId.{CallId}
use Rattle.locus_ids.specs.declared.ids.EpochId.{EpochId}
use Rattle.locus_ids.specs.declared.ids.FileId.{FileId}
use Rattle.locus_ids.specs.declared.ids.Kind.{Kind}
use Rattle.locus_ids.specs.declared.ids.Kind.TheVariants as kind
use Rattle.locus_ids.specs.declared.ids.Serial.{Serial}
use Rattle.locus_ids.specs.declared.ids.Stamp.{Stamp}
use Rattle.locus_ids.specs.declared.refusal.Refusal.{Refusal}
use Rattle.locus_ids.specs.declared.sites.Sites.{Sites}
use Rattle.trace_book.specs.declared.call.Call.{Call}
use Rattle.trace_book.specs.declared.call.Call.TheVariants as call
use Rattle.trace_book.specs.declared.descriptor.Beginning.{Beginning}
use Rattle.trace_book.specs.declared.descriptor.Beginning.TheVariants as begins
use Rattle.trace_book.specs.declared.call.OpenMode.{OpenMode}
use Rattle.trace_book.specs.declared.call.OpenMode.TheVariants as opens
use Rattle.trace_book.specs.declared.operation.Op.{Op}
use Rattle.trace_book.specs.declared.descriptor.OneVersion.{OneVersion}
use Rattle.trace_book.specs.declared.operation.Op.TheVariants as op
use Rattle.trace_book.specs.declared.operation.Outcome.TheVariants as outcome
use Rattle.trace_book.specs.declared.operation.What.{What}
use Rattle.trace_book.specs.declared.reply.Reply.{Reply}
use Rattle.trace_book.specs.declared.reply.Reply.TheVariants as reply
use Rattle.commit_graph.specs.Versions.{same_stamp}
use Rattle.locus_ids.specs.declared.refusal.Refusal.TheVariants as refusal
use Rattle.call_rules.specs.Mailing.{shown_messages}
use Rattle.call_rules.specs.declared.answer.Answer.{Answer}
use Rattle.call_rules.specs.declared.answer.Answer.TheVariants as answer
use Rattle.call_rules.specs.declared.want.Want.{Want}
use Rattle.call_rules.specs.declared.want.Want.TheVariants as want
use Rattle.std.specs.Option.{option_map}
use Rattle.call_rules.specs.Closing.{Own, Unchanged, Changed, closes, aborts, gives, give_up, close_all}
use Rattle.call_rules.specs.Making.{after_insert, after_make, fills, after_probe, probes, opens_dir, changes_dir, make_wants}
use Rattle.call_rules.specs.Mending.{after_mend, brings, mend_wants}
use Rattle.call_rules.specs.Naming.{renames}
use Rattle.call_rules.specs.Opening.{opens_file, op_wants, close_wants, uses_wants, lists, describes, Shows, shown_in}
use Rattle.trace_book.specs.Names.{components}
use Rattle.call_rules.specs.Reopening.{reads_again, reopened, reopen_wants}
use Rattle.call_rules.specs.Removing.{removes, empties, opens_target, by_kind, finds}
use Rattle.call_rules.specs.Scripts.{path_wants, begun_wants, named_wants, where_packed, wants}
use Rattle.call_rules.specs.Walks.{Walked, Asks as AsksFor, Fails, There, Strays, walk, walked, root_of}
use Rattle.call_rules.specs.Words.{is_badly_named}
use Rattle.wire_messages.specs.declared.body.Opening.TheVariants as how
use Rattle.role_steps.specs.Requests.{made_for, opening_of}
use Rattle.the_run.specs.Worlds.{Line}
use Rattle.tree_model.specs.declared.accepted.Waiting.{Waiting}
use Rattle.tree_model.specs.Calls.{call_named}
use Rattle.tree_model.specs.Files.{words_named, kind_made}
use Rattle.tree_model.specs.Folds.{Trace}
use Rattle.tree_model.specs.Opening.{sites_made}
use Rattle.tree_model.specs.Packs.{packs_of}
use Rattle.lawful_trace.specs.Progress.{is_packed_in}
use Rattle.lawful_trace.specs.Tables.{begun}
use Rattle.tree_laws.specs.Printed.{entries}
use Rattle.tree_laws.specs.Calls.{log, script, script_as}
use Rattle.tree_laws.specs.Instances.{AsksOpen, IsOpening}

-- what scripts want has a property, where each want but a make has it
module _ (P : Want → Type 0) (looking : (f : FileId) (w : What) → P (want.Look f w)) (opening : (f : FileId) (m : OpenMode) → P (want.Open f m)) (mending : (f : FileId) → P (want.OpenToMend f)) (doing : (i : Serial) (o : Op) → P (want.Do i o)) (closing : (i : Serial) → P (want.Close i)) (giving : (r : Reply) → P (want.Give r)) (never : P want.Never) where
  gives_so : (r : Reply) (xs : List Answer) → P (gives r xs)
  gives_so r [] = giving r
  gives_so r (x ∷ xs) = never

  closes_so : (i : Serial) (next : List Answer → Want) → ((xs : List Answer) → P (next xs)) → (xs : List Answer) → P (closes i next xs)
  closes_so i next h [] = closing i
  closes_so i next h (answer.Ended stamp ∷ rest) = h rest
  closes_so i next h (answer.Refused why ∷ rest) = h rest
  closes_so i next h (_ ∷ rest) = never

  aborts_so : (i : Serial) (next : List Answer → Want) → ((xs : List Answer) → P (next xs)) → (xs : List Answer) → P (aborts i next xs)
  aborts_so i next h [] = doing i op.Abort
  aborts_so i next h (answer.Did o ∷ rest) = h rest
  aborts_so i next h (answer.Refused why ∷ rest) = h rest
  aborts_so i next h (_ ∷ rest) = never

  give_up_so : (own : List Own) (why : Refusal) (xs : List Answer) → P (give_up own why xs)
  give_up_so [] why xs = gives_so _ xs
  give_up_so (Unchanged i ∷ own) why xs = closes_so i (give_up own why) (give_up_so own why) xs
  give_up_so (Changed i ∷ own) why xs = aborts_so i (closes i (give_up own why)) (closes_so i (give_up own why) (give_up_so own why)) xs

  refused_so : (is : List Serial) (r : Reply) (i : Serial) (why : Refusal) (xs : List Answer) → P (close_all (i ∷ is) r (answer.Refused why ∷ xs))
  refused_so [] r i why xs = gives_so _ xs
  refused_so (j ∷ js) r i why [] = closing j
  refused_so (j ∷ js) r i why (answer.Ended stamp ∷ rest) = refused_so js r j why rest
  refused_so (j ∷ js) r i why (answer.Refused other ∷ rest) = refused_so js r j why rest
  refused_so (j ∷ js) r i why (_ ∷ rest) = never

  close_all_so : (is : List Serial) (r : Reply) (xs : List Answer) → P (close_all is r xs)
  close_all_so [] r xs = gives_so r xs
  close_all_so (i ∷ is) r [] = closing i
  close_all_so (i ∷ is) r (answer.Ended stamp ∷ rest) = close_all_so is r rest
  close_all_so (i ∷ is) r (answer.Refused why ∷ rest) = refused_so is r i why rest
  close_all_so (i ∷ is) r (_ ∷ rest) = never

  -- ---- walks and directories ----

  go_so : (mounts : List Mount) (path : List (List ℕ)) (xs : List Answer) (after : FileId → Kind → List Answer → Want) → ((f : FileId) (k : Kind) (ys : List Answer) → P (after f k ys)) → P (walked mounts path xs after)
  go_so mounts path xs after h = over (walk mounts path [] (root_of 0) kind.Dir xs) refl
    where
      over : (w : Walked) → walk mounts path [] (root_of 0) kind.Dir xs ≡ w → P (walked mounts path xs after)
      over (AsksFor dir c) e = rw e (looking dir _)
      over (Fails why) e = rw e (giving _)
      over (There at k rest) e = rw e (h at k rest)
      over Strays e = rw e never

  opens_dir_so : (reached : List ℕ) (next : Serial → List Answer → Want) → ((p : Serial) (xs : List Answer) → P (next p xs)) → (dir : FileId) (k : Kind) (xs : List Answer) → P (opens_dir reached next dir k xs)
  opens_dir_so reached next h dir kind.File xs = giving _
  opens_dir_so reached next h dir kind.Dir [] = opening dir _
  opens_dir_so reached next h dir kind.Dir (answer.Opened p ino ∷ rest) = h p rest
  opens_dir_so reached next h dir kind.Dir (answer.Refused why ∷ rest) = giving _
  opens_dir_so reached next h dir kind.Dir (_ ∷ rest) = never

  changes_so : (mounts : List Mount) (path : List ℕ) (next : ℕ → Serial → List Answer → Want) → ((g : ℕ) (p : Serial) (xs : List Answer) → P (next g p xs)) → (xs : List Answer) → P (changes_dir mounts path next xs)
  changes_so mounts path next h xs = go_so mounts _ xs _ (λ dir k rest. opens_dir_so _ (next dir.group) (h dir.group) dir k rest)

  -- ---- create and mkdir ----

  after_insert_so : (p : Serial) (name : List ℕ) (k : Kind) (ino : ℕ) (told : Reply) (xs : List Answer) → P (after_insert p name k ino told xs)
  after_insert_so p name k ino told [] = doing p _
  after_insert_so p name k ino told (answer.Did o ∷ rest) = close_all_so (p ∷ []) told rest
  after_insert_so p name k ino told (answer.Refused why ∷ rest) = give_up_so (Unchanged p ∷ []) why rest
  after_insert_so p name k ino told (_ ∷ rest) = never

  after_make_so : (p : Serial) (name : List ℕ) (k : Kind) (made : Serial) (ino : ℕ) (told : Reply) (xs : List Answer) → P (after_make p name k made ino told xs)
  after_make_so p name k made ino told [] = closing made
  after_make_so p name k made ino told (answer.Ended stamp ∷ rest) = after_insert_so p name k ino told rest
  after_make_so p name k made ino told (answer.Refused why ∷ rest) = give_up_so (Unchanged p ∷ []) why rest
  after_make_so p name k made ino told (_ ∷ rest) = never

  fills_so : (p : Serial) (name : List ℕ) (k : Kind) (bytes : List ℕ) (made : Serial) (ino : ℕ) (told : Reply) (xs : List Answer) → P (fills p name k bytes made ino told xs)
  fills_so p name k [] made ino told xs = after_make_so p name k made ino told xs
  fills_so p name k (b ∷ bs) made ino told [] = doing made _
  fills_so p name k (b ∷ bs) made ino told (answer.Did o ∷ rest) = after_make_so p name k made ino told rest
  fills_so p name k (b ∷ bs) made ino told (answer.Refused why ∷ rest) = give_up_so (Unchanged made ∷ Unchanged p ∷ []) why rest
  fills_so p name k (b ∷ bs) made ino told (_ ∷ rest) = never

  after_probe_so : (p : Serial) (group : ℕ) (name : List ℕ) (k : Kind) (sites : Option Sites) (bytes : List ℕ) (tells : ℕ → Reply) → P (want.Make group k sites) → (xs : List Answer) → P (after_probe p group name k sites bytes tells xs)
  after_probe_so p group name k sites bytes tells makes [] = makes
  after_probe_so p group name k sites bytes tells makes (answer.Opened made ino ∷ rest) = fills_so p name k bytes made ino (tells ino) rest
  after_probe_so p group name k sites bytes tells makes (answer.Refused why ∷ rest) = give_up_so (Unchanged p ∷ []) why rest
  after_probe_so p group name k sites bytes tells makes (_ ∷ rest) = never

  probes_so : (p : Serial) (group : ℕ) (name : List ℕ) (k : Kind) (sites : Option Sites) (bytes : List ℕ) (tells : ℕ → Reply) → P (want.Make group k sites) → (xs : List Answer) → P (probes p group name k sites bytes tells xs)
  probes_so p group name k sites bytes tells makes [] = doing p _
  probes_so p group name k sites bytes tells makes (answer.Did o ∷ rest) = after_probe_so p group name k sites bytes tells makes rest
  probes_so p group name k sites bytes tells makes (answer.Refused why ∷ rest) = give_up_so (Unchanged p ∷ []) why rest
  probes_so p group name k sites bytes tells makes (_ ∷ rest) = never

  make_so : (mounts : List Mount) (path : List ℕ) (k : Kind) (sites : Option Sites) → ((g : ℕ) → P (want.Make g k sites)) → (xs : List Answer) → P (make_wants mounts path k sites xs)
  make_so mounts path k sites makes xs = changes_so mounts path _ (λ g p rest. probes_so p g _ k sites [] reply.Made (makes g) rest) xs

  -- ---- unlink, rmdir and rename ----

  removes_so : (p t : Serial) (name : List ℕ) (ino : ℕ) (xs : List Answer) → P (removes p t name ino xs)
  removes_so p t name ino [] = doing p _
  removes_so p t name ino (answer.Did o ∷ rest) = close_all_so (p ∷ t ∷ []) reply.Done rest
  removes_so p t name ino (answer.Refused why ∷ rest) = give_up_so (Unchanged p ∷ Unchanged t ∷ []) why rest
  removes_so p t name ino (_ ∷ rest) = never

  empties_so : (k : Kind) (p t : Serial) (name : List ℕ) (ino : ℕ) (xs : List Answer) → P (empties k p t name ino xs)
  empties_so kind.File p t name ino xs = removes_so p t name ino xs
  empties_so kind.Dir p t name ino [] = doing t _
  empties_so kind.Dir p t name ino (answer.Did o ∷ rest) = removes_so p t name ino rest
  empties_so kind.Dir p t name ino (answer.Refused why ∷ rest) = give_up_so (Unchanged p ∷ Unchanged t ∷ []) why rest
  empties_so kind.Dir p t name ino (_ ∷ rest) = never

  target_so : (k : Kind) (p : Serial) (group : ℕ) (name : List ℕ) (ino : ℕ) (xs : List Answer) → P (opens_target k p group name ino xs)
  target_so k p group name ino [] = opening _ _
  target_so k p group name ino (answer.Opened t found ∷ rest) = empties_so k p t name ino rest
  target_so k p group name ino (answer.Refused why ∷ rest) = give_up_so (Unchanged p ∷ []) why rest
  target_so k p group name ino (_ ∷ rest) = never

  by_kind_so : (k found : Kind) (p : Serial) (group : ℕ) (component : List ℕ) (ino : ℕ) (xs : List Answer) → P (by_kind k found p group component ino xs)
  by_kind_so kind.File kind.File p group component ino xs = target_so kind.File p group _ ino xs
  by_kind_so kind.Dir kind.Dir p group component ino xs = target_so kind.Dir p group _ ino xs
  by_kind_so kind.File kind.Dir p group component ino xs = give_up_so (Unchanged p ∷ []) _ xs
  by_kind_so kind.Dir kind.File p group component ino xs = give_up_so (Unchanged p ∷ []) _ xs

  finds_so : (k : Kind) (p : Serial) (group : ℕ) (component : List ℕ) (xs : List Answer) → P (finds k p group component xs)
  finds_so k p group component [] = doing p _
  finds_so k p group component (answer.Did (outcome.Found ino found) ∷ rest) = by_kind_so k found p group component ino rest
  finds_so k p group component (answer.Refused why ∷ rest) = give_up_so (Unchanged p ∷ []) why rest
  finds_so k p group component (_ ∷ rest) = never

  renames_so : (p : Serial) (component name : List ℕ) (xs : List Answer) → P (renames p component name xs)
  renames_so p component name [] = doing p _
  renames_so p component name (answer.Did o ∷ rest) = close_all_so (p ∷ []) reply.Done rest
  renames_so p component name (answer.Refused why ∷ rest) = give_up_so (Unchanged p ∷ []) why rest
  renames_so p component name (_ ∷ rest) = never

  -- ---- mend, open, list, stat, and uses ----

  close_so : (i : Serial) (xs : List Answer) → P (close_wants i xs)
  close_so i [] = closing i
  close_so i (answer.Ended stamp ∷ []) = giving _
  close_so i (answer.Refused why ∷ []) = giving _
  close_so i (_ ∷ rest) = never

  after_mend_so : (i : Serial) (xs : List Answer) → P (after_mend i xs)
  after_mend_so i [] = doing i _
  after_mend_so i (answer.Did o ∷ rest) = close_so i rest
  after_mend_so i (answer.Refused why ∷ rest) = give_up_so (Unchanged i ∷ []) why rest
  after_mend_so i (_ ∷ rest) = never

  brings_so : (i : Serial) (f : FileId) (stamps : List Stamp) (xs : List Answer) → P (brings i f stamps xs)
  brings_so i f [] xs = after_mend_so i xs
  brings_so i f (s ∷ ss) [] = looking f _
  brings_so i f (s ∷ ss) (answer.Brought ∷ rest) = brings_so i f ss rest
  brings_so i f (s ∷ ss) (answer.Refused why ∷ rest) = give_up_so (Unchanged i ∷ []) why rest
  brings_so i f (s ∷ ss) (_ ∷ rest) = never

  mend_so : (f : FileId) (xs : List Answer) → P (mend_wants f xs)
  mend_so f [] = mending f
  mend_so f (answer.Merging i kept ∷ rest) = brings_so i f kept rest
  mend_so f (answer.Refused why ∷ []) = giving _
  mend_so f (_ ∷ rest) = never

  opens_file_so : (m : OpenMode) (free : Option ℕ) (f : FileId) (k : Kind) (xs : List Answer) → P (opens_file m free f k xs)
  opens_file_so m free f kind.Dir xs = giving _
  opens_file_so m free f kind.File [] = opening f m
  opens_file_so m (Some fd) f kind.File (answer.Opened i ino ∷ []) = giving _
  opens_file_so m (Some fd) f kind.File (answer.Reading i version ∷ []) = giving _
  opens_file_so m None f kind.File (answer.Refused why ∷ []) = giving _
  opens_file_so m (Some fd) f kind.File (answer.Refused why ∷ []) = giving _
  opens_file_so m None f kind.File (_ ∷ rest) = never
  opens_file_so m (Some fd) f kind.File (_ ∷ rest) = never

  lists_so : (shows : Shows) (reached : List ℕ) (f : FileId) (k : Kind) (xs : List Answer) → P (lists shows reached f k xs)
  lists_so shows reached f kind.File xs = giving _
  lists_so shows reached f kind.Dir [] = looking f _
  lists_so shows reached f kind.Dir (answer.Showed names ∷ []) = giving _
  lists_so shows reached f kind.Dir (answer.Refused why ∷ []) = giving _
  lists_so shows reached f kind.Dir (_ ∷ rest) = never

  describes_so : (f : FileId) (k : Kind) (xs : List Answer) → P (describes f k xs)
  describes_so f k [] = looking f _
  describes_so f k (answer.Described found size stamp ∷ []) = giving _
  describes_so f k (answer.Refused why ∷ []) = giving _
  describes_so f k (_ ∷ rest) = never

  op_so : (i : Serial) (o : Op) (xs : List Answer) → P (op_wants i o xs)
  op_so i o [] = doing i o
  op_so i o (answer.Did result ∷ []) = giving _
  op_so i o (answer.Refused why ∷ []) = giving _
  op_so i o (_ ∷ rest) = never

  uses_so : (words : Call) (i : Serial) (xs : List Answer) → P (uses_wants words i xs)
  uses_so (call.Read fd at len) i xs = op_so i _ xs
  uses_so (call.Write fd at bytes) i xs = op_so i _ xs
  uses_so (call.Cut fd len) i xs = op_so i _ xs
  uses_so (call.Commit fd) i xs = op_so i _ xs
  uses_so (call.Abort fd) i xs = op_so i _ xs
  uses_so (call.Close fd) i xs = close_so i xs
  uses_so _ i xs = never

  -- ---- whole scripts ----

  path_so : (mounts : List Mount) (free : Option ℕ) (id : CallId) (words : Call) → ((g : ℕ) (path : List ℕ) (sites : Option Sites) → words ≡ call.Create path sites → P (want.Make g kind.File sites)) → ((g : ℕ) (path : List ℕ) → words ≡ call.MakeDir path → P (want.Make g kind.Dir None)) → ((g : ℕ) (path bytes : List ℕ) → words ≡ call.Mail path bytes → P (want.Make g kind.File None)) → (xs : List Answer) → P (path_wants mounts free id words xs)
  path_so mounts free id (call.Create path sites) creates dirs mails xs = make_so mounts path kind.File sites (λ g. creates g path sites refl) xs
  path_so mounts free id (call.MakeDir path) creates dirs mails xs = make_so mounts path kind.Dir None (λ g. dirs g path refl) xs
  path_so mounts free id (call.Unlink path) creates dirs mails xs = changes_so mounts path _ (λ g p rest. finds_so kind.File p g _ rest) xs
  path_so mounts free id (call.RemoveDir path) creates dirs mails xs = changes_so mounts path _ (λ g p rest. finds_so kind.Dir p g _ rest) xs
  path_so mounts free id (call.Rename path name) creates dirs mails xs = changes_so mounts path _ (λ g p rest. renames_so p _ name rest) xs
  path_so mounts free id (call.List path) creates dirs mails xs = go_so mounts (components path) xs _ (λ f k rest. lists_so (shown_in mounts) _ f k rest)
  path_so mounts free id (call.Stat path) creates dirs mails xs = go_so mounts (components path) xs _ (λ f k rest. describes_so f k rest)
  path_so mounts free id (call.Mail path bytes) creates dirs mails xs = go_so mounts (components path) xs _ (λ dir k rest. opens_dir_so _ _ (λ p ys. probes_so p dir.group _ kind.File None bytes _ (mails dir.group path bytes refl) ys) dir k rest)
  path_so mounts free id (call.Mails path) creates dirs mails xs = go_so mounts (components path) xs _ (λ f k rest. lists_so shown_messages _ f k rest)
  path_so mounts free id (call.Open path how) creates dirs mails xs = go_so mounts (components path) xs _ (λ f k rest. opens_file_so how free f k rest)
  path_so mounts free id (call.Mend f) creates dirs mails xs = mend_so f xs
  path_so mounts free id _ creates dirs mails xs = never

  reads_again_so : (i : Serial) (at len : ℕ) (xs : List Answer) → P (reads_again i at len xs)
  reads_again_so i at len [] = doing i _
  reads_again_so i at len (answer.Did result ∷ []) = giving _
  reads_again_so i at len (answer.Refused why ∷ rest) = give_up_so (Unchanged i ∷ []) why rest
  reads_again_so i at len (_ ∷ rest) = never

  reopened_so : (kept : OneVersion) (last : EpochId) (at len : ℕ) (i : Serial) (granted : OneVersion) (xs : List Answer) → P (reopened kept last at len i granted xs)
  reopened_so kept last at len i granted xs = over (same_stamp granted.stamp kept.stamp)
    where
      over : (b : Bool) → P (cond b (reads_again i at len xs) (give_up (Unchanged i ∷ []) (refusal.Stale last) xs))
      over true = reads_again_so i at len xs
      over false = give_up_so (Unchanged i ∷ []) (refusal.Stale last) xs

  reopen_so : (words : Call) (kept : OneVersion) (last : EpochId) (xs : List Answer) → P (reopen_wants words kept last xs)
  reopen_so (call.Read fd at len) kept last [] = opening kept.file _
  reopen_so (call.Read fd at len) kept last (answer.Reading i granted ∷ rest) = reopened_so kept last at len i granted rest
  reopen_so (call.Read fd at len) kept last (answer.Refused why ∷ []) = giving _
  reopen_so (call.Read fd at len) kept last (_ ∷ rest) = never
  reopen_so _ kept last xs = never

  begun_so : (mounts : List Mount) (free : Option ℕ) (words : Call) → ((id : CallId) (xs : List Answer) → P (path_wants mounts free id words xs)) → (b : Beginning) (xs : List Answer) → P (begun_wants mounts free words b xs)
  begun_so mounts free words h (begins.Denied why) xs = giving _
  begun_so mounts free words h (begins.Uses e i) xs = uses_so words i xs
  begun_so mounts free words h (begins.Walks id) xs = h id xs
  begun_so mounts free words h (begins.Reopens kept last) xs = reopen_so words kept last xs
  begun_so mounts free words h begins.Frees xs = giving _

  named_so : (mounts : List Mount) (free : Option ℕ) (words : Call) (b : Beginning) (xs : List Answer) → P (begun_wants mounts free words b xs) → P (named_wants mounts free words b xs)
  named_so mounts free words b xs h = over (is_badly_named mounts words)
    where
      over : (x : Bool) → P (cond x (want.Give (reply.No refusal.BadName)) (begun_wants mounts free words b xs))
      over true = giving _
      over false = h

  packed_so : (is_packed : ℕ → Bool) (w : Want) → P w → P (where_packed is_packed w)
  packed_so is_packed w h = over w h
    where
      by_test : (x : Bool) (y : Want) → P y → P (cond x y (want.Give (reply.No refusal.NoStorage)))
      by_test true y k = k
      by_test false y k = giving _

      over : (y : Want) → P y → P (where_packed is_packed y)
      over (want.Look f what) k = by_test (is_packed f.group) _ k
      over (want.Open f how) k = by_test (is_packed f.group) _ k
      over (want.OpenToMend f) k = by_test (is_packed f.group) _ k
      over (want.Make g k sites) h = by_test (is_packed g) _ h
      over (want.Do i o) k = k
      over (want.Close i) k = k
      over (want.Give r) k = k
      over want.Never k = k

  wants_so : (mounts : List Mount) (is_packed : ℕ → Bool) (free : Option ℕ) (words : Call) → ((g : ℕ) (path : List ℕ) (sites : Option Sites) → words ≡ call.Create path sites → P (want.Make g kind.File sites)) → ((g : ℕ) (path : List ℕ) → words ≡ call.MakeDir path → P (want.Make g kind.Dir None)) → ((g : ℕ) (path bytes : List ℕ) → words ≡ call.Mail path bytes → P (want.Make g kind.File None)) → (b : Beginning) (xs : List Answer) → P (wants mounts is_packed free words b xs)
  wants_so mounts is_packed free words creates dirs mails b xs = packed_so is_packed (named_wants mounts free words b xs) (named_so mounts free words b xs (begun_so mounts free words (λ id. path_so mounts free id words creates dirs mails) b xs))

-- ---- a make is as its words say ----

-- the make is of the kind and for the sites that the words of its call say
abbrev SaidSo : Config → Call → Want → Type 0
SaidSo c words (want.Make group k sites) = (k ≡ kind_made (Some words)) × (made_for c group sites ≡ sites_made (packs_of c group) (Some words))
SaidSo c words _ = Unit {0}

created_so : (c : Config) (words : Call) (g : ℕ) (path : List ℕ) (sites : Option Sites) → words ≡ call.Create path sites → SaidSo c words (want.Make g kind.File sites)
created_so c words g path None e = rw e (refl, refl)
created_so c words g path (Some sites) e = rw e (refl, refl)

dir_so : (c : Config) (words : Call) (g : ℕ) (path : List ℕ) → words ≡ call.MakeDir path → SaidSo c words (want.Make g kind.Dir None)
dir_so c words g path e = rw e (refl, refl)

mailed_so : (c : Config) (words : Call) (g : ℕ) (path bytes : List ℕ) → words ≡ call.Mail path bytes → SaidSo c words (want.Make g kind.File None)
mailed_so c words g path bytes e = rw e (refl, refl)

said_so : (c : Config) (before : Trace) (d : CallId) (free : Option ℕ) (xs : List Answer) (o : Option Waiting) (b : Option Beginning) (w : Want) → script_as c before o b free xs ≡ w → (group : ℕ) (k : Kind) (sites : Option Sites) → w ≡ want.Make group k sites → (words : Call) × (option_map (λ (y : Waiting). y.words) o ≡ Some words) × SaidSo c words (want.Make group k sites)
said_so c before d free xs None b w e group k sites is = absurd (not_make (e ∙ is))
  where
    not_make : want.Never ≡ want.Make group k sites → ⊥
    not_make e = cc
said_so c before d free xs (Some y) None w e group k sites is = absurd (not_make (e ∙ is))
  where
    not_make : want.Never ≡ want.Make group k sites → ⊥
    not_make e = cc
said_so c before d free xs (Some y) (Some b) w e group k sites is = (
  y.words,
  refl,
  subst (SaidSo c y.words) (e ∙ is)
      (wants_so (SaidSo c y.words) (λ f what. tt) (λ f m. tt) (λ f. tt) (λ i o. tt) (λ i. tt) (λ r. tt) tt c.mounts (is_packed_in c before y.epoch) free y.words (created_so c y.words) (dir_so c y.words) (mailed_so c y.words) b xs),
)

-- what is asked to be made is for the sites and of the kind that the words of its call say
pub asked_as_said : (c : Config) (trace : List Line) (e : EpochId) (d : CallId) (request serial : ℕ) (f : FileId) (set : Sites) (k : Kind) → AsksOpen c trace e d request serial f (how.Make set k) →
    (set ≡ sites_made (packs_of c f.group) (words_named (entries trace) (Some d))) × (k ≡ kind_made (words_named (entries trace) (Some d)))
asked_as_said c trace e d request serial f set k a = over a.wanted a.opening_is a.asks.asked
  where
    make_set : (a b : Sites) (j l : Kind) → how.Make a j ≡ how.Make b l → a ≡ b
    make_set a b j l e = cc

    make_kind : (a b : Sites) (j l : Kind) → how.Make a j ≡ how.Make b l → j ≡ l
    make_kind a b j l e = cc

    not_open : (m : OpenMode) → how.Make set k ≡ opening_of m → ⊥
    not_open opens.Read e = cc
    not_open opens.Write e = cc
    not_open (opens.Resolve site) e = cc
    not_open opens.Steady e = cc

    over : (w : Want) → IsOpening c w f (how.Make set k) → script c (entries trace) d None (log trace d) ≡ w → (set ≡ sites_made (packs_of c f.group) (words_named (entries trace) (Some d))) × (k ≡ kind_made (words_named (entries trace) (Some d)))
    over (want.Make group j sites) is e = (let s : (words : Call) × (words_named (entries trace) (Some d) ≡ Some words) × SaidSo c words (want.Make group j sites) = said_so c (entries trace) d None (log trace d) (call_named (entries trace) d) (begun (entries trace) d) (want.Make group j sites) e group j sites refl in (
      make_set set (made_for c group sites) k j is.2 ∙ (s.2.1 ∙ (ap (λ (g : ℕ). sites_made (packs_of c g) (Some s.0)) (sym is.0) ∙ ap (sites_made (packs_of c f.group)) (sym s.1))),
      make_kind set (made_for c group sites) k j is.2 ∙ (s.2.0 ∙ ap kind_made (sym s.1)),
    ))
    over (want.Open file m) is e = absurd (not_open m is.1)
    over (want.OpenToMend file) is e = absurd (not_mend is.1)
      where
        not_mend : how.Make set k ≡ how.Mend → ⊥
        not_mend e = cc
    over (want.Look file what) is e = absurd is
    over (want.Do i o) is e = absurd is
    over (want.Close i) is e = absurd is
    over (want.Give r) is e = absurd is
    over want.Never is e = absurd is
