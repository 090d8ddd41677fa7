-- What the scripts of calls want, want by want: no call but a mend opens to mend, or looks at whole contents.
use Rattle.std.proofs.Common.{◌≡◌, ℕ, Bool, true, false, cond, List, [], ◌∷◌, Option, Some, None, refl}
use Rattle.locus_ids.specs.declared.ids.CallId.{CallId}
use Rattle.locus_ids.specs.declared.config.Mount.{Mount}
use Rattle.locus_ids.specs.declared.ids.FileId.{FileId}
use Rattle.locus_ids.specs.declared.ids.Kind.{Kind}
use Rattle.locus_ids.specs.declared.ids.Kind.TheVariants as kind
use Rattle.locus_ids.specs.declared.ids.Serial.{Serial}
use Rattle.locus_ids.specs.declared.ids.Stamp.{Stamp}
use Rattle.locus_ids.specs.declared.refusal.Refusal.{Refusal}
use Rattle.locus_ids.specs.declared.sites.Sites.{Sites}
use Rattle.trace_book.specs.declared.call.Call.{Call}
use Rattle.trace_book.specs.declared.call.Call.TheVariants as call
use Rattle.trace_book.specs.declared.descriptor.Beginning.{Beginning}
use Rattle.trace_book.specs.declared.descriptor.Beginning.TheVariants as begins
use Rattle.trace_book.specs.declared.call.OpenMode.{OpenMode}
use Rattle.trace_book.specs.declared.call.OpenMode.TheVariants as how
use Rattle.trace_book.specs.declared.operation.Op.{Op}
use Rattle.trace_book.specs.declared.operation.Op.TheVariants as op
use Rattle.trace_book.specs.declared.operation.Outcome.TheVariants as outcome
use Rattle.trace_book.specs.declared.operation.What.{What}
use Rattle.trace_book.specs.declared.operation.What.TheVariants as what
use Rattle.trace_book.specs.declared.reply.Reply.{Reply}
use Rattle.trace_book.specs.declared.reply.Reply.TheVariants as reply
use Rattle.locus_ids.specs.declared.refusal.Refusal.TheVariants as refusal
use Rattle.call_rules.specs.Mailing.{shown_messages}
use Rattle.call_rules.specs.declared.answer.Answer.{Answer}
use Rattle.call_rules.specs.declared.answer.Answer.TheVariants as answer
use Rattle.call_rules.specs.declared.want.Want.{Want}
use Rattle.call_rules.specs.declared.want.Want.TheVariants as want
use Rattle.call_rules.specs.Closing.{Own, Unchanged, Changed, closes, aborts, gives, give_up, close_all}
use Rattle.call_rules.specs.Making.{after_insert, after_make, fills, after_probe, probes, opens_dir, changes_dir, make_wants}
use Rattle.call_rules.specs.Mending.{after_mend, brings, mend_wants}
use Rattle.call_rules.specs.Naming.{renames}
use Rattle.call_rules.specs.Opening.{opens_file, op_wants, close_wants, uses_wants, lists, describes, Shows, shown_in}
use Rattle.trace_book.specs.Names.{components}
use Rattle.call_rules.specs.Removing.{removes, empties, opens_target, by_kind, finds}
use Rattle.call_rules.specs.Scripts.{path_wants, begun_wants, named_wants, where_packed, wants}
use Rattle.call_rules.specs.Walks.{Walked, Asks as AsksFor, Fails, There, Strays, walk, walked, root_of}
use Rattle.call_rules.specs.Words.{is_badly_named}
use Rattle.store_laws.proofs.Holdings.MendReopens.{reopen_so}

-- looks at anything but whole contents
abbrev pub IsPlainLook : What → Type 0
IsPlainLook (what.Whole stamp) = ⊥
IsPlainLook _ = Unit {0}

-- operations that aren't the mending itself
abbrev pub IsPlainOp : Op → Type 0
IsPlainOp op.Mend = ⊥
IsPlainOp _ = Unit {0}

-- what scripts want has a property, where each want has it but the opens of mends, the looks at whole contents and the
-- mending itself
module _ (P : Want → Type 0) (looking : (f : FileId) (w : What) → IsPlainLook w → P (want.Look f w)) (opening : (f : FileId) (m : OpenMode) → P (want.Open f m)) (making : (g : ℕ) (k : Kind) (sites : Option Sites) → P (want.Make g k sites)) (doing : (i : Serial) (o : Op) → IsPlainOp o → P (want.Do i o)) (closing : (i : Serial) → P (want.Close i)) (giving : (r : Reply) → P (want.Give r)) (never : P want.Never) where
  gives_so : (r : Reply) (xs : List Answer) → P (gives r xs)
  gives_so r [] = giving r
  gives_so r (x ∷ xs) = never

  closes_so : (i : Serial) (next : List Answer → Want) → ((xs : List Answer) → P (next xs)) → (xs : List Answer) → P (closes i next xs)
  closes_so i next h [] = closing i
  closes_so i next h (answer.Ended stamp ∷ rest) = h rest
  closes_so i next h (answer.Refused why ∷ rest) = h rest
  closes_so i next h (_ ∷ rest) = never

  aborts_so : (i : Serial) (next : List Answer → Want) → ((xs : List Answer) → P (next xs)) → (xs : List Answer) → P (aborts i next xs)
  aborts_so i next h [] = doing i op.Abort tt
  aborts_so i next h (answer.Did o ∷ rest) = h rest
  aborts_so i next h (answer.Refused why ∷ rest) = h rest
  aborts_so i next h (_ ∷ rest) = never

  pub give_up_by : (own : List Own) (why : Refusal) (xs : List Answer) → P (give_up own why xs)
  give_up_by [] why xs = gives_so _ xs
  give_up_by (Unchanged i ∷ own) why xs = closes_so i (give_up own why) (give_up_by own why) xs
  give_up_by (Changed i ∷ own) why xs = aborts_so i (closes i (give_up own why)) (closes_so i (give_up own why) (give_up_by own why)) xs

  refused_so : (is : List Serial) (r : Reply) (i : Serial) (why : Refusal) (xs : List Answer) → P (close_all (i ∷ is) r (answer.Refused why ∷ xs))
  refused_so [] r i why xs = gives_so _ xs
  refused_so (j ∷ js) r i why [] = closing j
  refused_so (j ∷ js) r i why (answer.Ended stamp ∷ rest) = refused_so js r j why rest
  refused_so (j ∷ js) r i why (answer.Refused other ∷ rest) = refused_so js r j why rest
  refused_so (j ∷ js) r i why (_ ∷ rest) = never

  close_all_so : (is : List Serial) (r : Reply) (xs : List Answer) → P (close_all is r xs)
  close_all_so [] r xs = gives_so r xs
  close_all_so (i ∷ is) r [] = closing i
  close_all_so (i ∷ is) r (answer.Ended stamp ∷ rest) = close_all_so is r rest
  close_all_so (i ∷ is) r (answer.Refused why ∷ rest) = refused_so is r i why rest
  close_all_so (i ∷ is) r (_ ∷ rest) = never

  -- ---- walks and directories ----

  go_so : (mounts : List Mount) (path : List (List ℕ)) (xs : List Answer) (after : FileId → Kind → List Answer → Want) → ((f : FileId) (k : Kind) (ys : List Answer) → P (after f k ys)) → P (walked mounts path xs after)
  go_so mounts path xs after h = over (walk mounts path [] (root_of 0) kind.Dir xs) refl
    where
      over : (w : Walked) → walk mounts path [] (root_of 0) kind.Dir xs ≡ w → P (walked mounts path xs after)
      over (AsksFor dir c) e = rw e (looking dir (what.Name c) tt)
      over (Fails why) e = rw e (giving _)
      over (There at k rest) e = rw e (h at k rest)
      over Strays e = rw e never

  opens_dir_so : (reached : List ℕ) (next : Serial → List Answer → Want) → ((p : Serial) (xs : List Answer) → P (next p xs)) → (dir : FileId) (k : Kind) (xs : List Answer) → P (opens_dir reached next dir k xs)
  opens_dir_so reached next h dir kind.File xs = giving _
  opens_dir_so reached next h dir kind.Dir [] = opening dir _
  opens_dir_so reached next h dir kind.Dir (answer.Opened p ino ∷ rest) = h p rest
  opens_dir_so reached next h dir kind.Dir (answer.Refused why ∷ rest) = giving _
  opens_dir_so reached next h dir kind.Dir (_ ∷ rest) = never

  changes_so : (mounts : List Mount) (path : List ℕ) (next : ℕ → Serial → List Answer → Want) → ((g : ℕ) (p : Serial) (xs : List Answer) → P (next g p xs)) → (xs : List Answer) → P (changes_dir mounts path next xs)
  changes_so mounts path next h xs = go_so mounts _ xs _ (λ dir k rest. opens_dir_so _ (next dir.group) (h dir.group) dir k rest)

  -- ---- create and mkdir ----

  after_insert_so : (p : Serial) (name : List ℕ) (k : Kind) (ino : ℕ) (told : Reply) (xs : List Answer) → P (after_insert p name k ino told xs)
  after_insert_so p name k ino told [] = doing p _ tt
  after_insert_so p name k ino told (answer.Did o ∷ rest) = close_all_so (p ∷ []) told rest
  after_insert_so p name k ino told (answer.Refused why ∷ rest) = give_up_by (Unchanged p ∷ []) why rest
  after_insert_so p name k ino told (_ ∷ rest) = never

  after_make_so : (p : Serial) (name : List ℕ) (k : Kind) (made : Serial) (ino : ℕ) (told : Reply) (xs : List Answer) → P (after_make p name k made ino told xs)
  after_make_so p name k made ino told [] = closing made
  after_make_so p name k made ino told (answer.Ended stamp ∷ rest) = after_insert_so p name k ino told rest
  after_make_so p name k made ino told (answer.Refused why ∷ rest) = give_up_by (Unchanged p ∷ []) why rest
  after_make_so p name k made ino told (_ ∷ rest) = never

  fills_so : (p : Serial) (name : List ℕ) (k : Kind) (bytes : List ℕ) (made : Serial) (ino : ℕ) (told : Reply) (xs : List Answer) → P (fills p name k bytes made ino told xs)
  fills_so p name k [] made ino told xs = after_make_so p name k made ino told xs
  fills_so p name k (b ∷ bs) made ino told [] = doing made _ tt
  fills_so p name k (b ∷ bs) made ino told (answer.Did o ∷ rest) = after_make_so p name k made ino told rest
  fills_so p name k (b ∷ bs) made ino told (answer.Refused why ∷ rest) = give_up_by (Unchanged made ∷ Unchanged p ∷ []) why rest
  fills_so p name k (b ∷ bs) made ino told (_ ∷ rest) = never

  after_probe_so : (p : Serial) (group : ℕ) (name : List ℕ) (k : Kind) (sites : Option Sites) (bytes : List ℕ) (tells : ℕ → Reply) → (xs : List Answer) → P (after_probe p group name k sites bytes tells xs)
  after_probe_so p group name k sites bytes tells [] = making _ _ _
  after_probe_so p group name k sites bytes tells (answer.Opened made ino ∷ rest) = fills_so p name k bytes made ino (tells ino) rest
  after_probe_so p group name k sites bytes tells (answer.Refused why ∷ rest) = give_up_by (Unchanged p ∷ []) why rest
  after_probe_so p group name k sites bytes tells (_ ∷ rest) = never

  probes_so : (p : Serial) (group : ℕ) (name : List ℕ) (k : Kind) (sites : Option Sites) (bytes : List ℕ) (tells : ℕ → Reply) → (xs : List Answer) → P (probes p group name k sites bytes tells xs)
  probes_so p group name k sites bytes tells [] = doing p _ tt
  probes_so p group name k sites bytes tells (answer.Did o ∷ rest) = after_probe_so p group name k sites bytes tells rest
  probes_so p group name k sites bytes tells (answer.Refused why ∷ rest) = give_up_by (Unchanged p ∷ []) why rest
  probes_so p group name k sites bytes tells (_ ∷ rest) = never

  make_so : (mounts : List Mount) (path : List ℕ) (k : Kind) (sites : Option Sites) → (xs : List Answer) → P (make_wants mounts path k sites xs)
  make_so mounts path k sites xs = changes_so mounts path _ (λ g p rest. probes_so p g _ k sites [] reply.Made rest) xs

  -- ---- unlink, rmdir and rename ----

  removes_so : (p t : Serial) (name : List ℕ) (ino : ℕ) (xs : List Answer) → P (removes p t name ino xs)
  removes_so p t name ino [] = doing p _ tt
  removes_so p t name ino (answer.Did o ∷ rest) = close_all_so (p ∷ t ∷ []) reply.Done rest
  removes_so p t name ino (answer.Refused why ∷ rest) = give_up_by (Unchanged p ∷ Unchanged t ∷ []) why rest
  removes_so p t name ino (_ ∷ rest) = never

  empties_so : (k : Kind) (p t : Serial) (name : List ℕ) (ino : ℕ) (xs : List Answer) → P (empties k p t name ino xs)
  empties_so kind.File p t name ino xs = removes_so p t name ino xs
  empties_so kind.Dir p t name ino [] = doing t _ tt
  empties_so kind.Dir p t name ino (answer.Did o ∷ rest) = removes_so p t name ino rest
  empties_so kind.Dir p t name ino (answer.Refused why ∷ rest) = give_up_by (Unchanged p ∷ Unchanged t ∷ []) why rest
  empties_so kind.Dir p t name ino (_ ∷ rest) = never

  target_so : (k : Kind) (p : Serial) (group : ℕ) (name : List ℕ) (ino : ℕ) (xs : List Answer) → P (opens_target k p group name ino xs)
  target_so k p group name ino [] = opening _ _
  target_so k p group name ino (answer.Opened t found ∷ rest) = empties_so k p t name ino rest
  target_so k p group name ino (answer.Refused why ∷ rest) = give_up_by (Unchanged p ∷ []) why rest
  target_so k p group name ino (_ ∷ rest) = never

  by_kind_so : (k found : Kind) (p : Serial) (group : ℕ) (component : List ℕ) (ino : ℕ) (xs : List Answer) → P (by_kind k found p group component ino xs)
  by_kind_so kind.File kind.File p group component ino xs = target_so kind.File p group _ ino xs
  by_kind_so kind.Dir kind.Dir p group component ino xs = target_so kind.Dir p group _ ino xs
  by_kind_so kind.File kind.Dir p group component ino xs = give_up_by (Unchanged p ∷ []) _ xs
  by_kind_so kind.Dir kind.File p group component ino xs = give_up_by (Unchanged p ∷ []) _ xs

  finds_so : (k : Kind) (p : Serial) (group : ℕ) (component : List ℕ) (xs : List Answer) → P (finds k p group component xs)
  finds_so k p group component [] = doing p _ tt
  finds_so k p group component (answer.Did (outcome.Found ino found) ∷ rest) = by_kind_so k found p group component ino rest
  finds_so k p group component (answer.Refused why ∷ rest) = give_up_by (Unchanged p ∷ []) why rest
  finds_so k p group component (_ ∷ rest) = never

  renames_so : (p : Serial) (component name : List ℕ) (xs : List Answer) → P (renames p component name xs)
  renames_so p component name [] = doing p _ tt
  renames_so p component name (answer.Did o ∷ rest) = close_all_so (p ∷ []) reply.Done rest
  renames_so p component name (answer.Refused why ∷ rest) = give_up_by (Unchanged p ∷ []) why rest
  renames_so p component name (_ ∷ rest) = never

  -- ---- mend, open, list, stat, and uses ----

  close_so : (i : Serial) (xs : List Answer) → P (close_wants i xs)
  close_so i [] = closing i
  close_so i (answer.Ended stamp ∷ []) = giving _
  close_so i (answer.Refused why ∷ []) = giving _
  close_so i (_ ∷ rest) = never

  pub after_mend_by : (i : Serial) → P (want.Do i op.Mend) → (xs : List Answer) → P (after_mend i xs)
  after_mend_by i mends [] = mends
  after_mend_by i mends (answer.Did o ∷ rest) = close_so i rest
  after_mend_by i mends (answer.Refused why ∷ rest) = give_up_by (Unchanged i ∷ []) why rest
  after_mend_by i mends (_ ∷ rest) = never

  brings_so : (i : Serial) (f : FileId) (stamps : List Stamp) → ((s : Stamp) → P (want.Look f (what.Whole s))) → P (want.Do i op.Mend) → (xs : List Answer) → P (brings i f stamps xs)
  brings_so i f [] whole mends xs = after_mend_by i mends xs
  brings_so i f (s ∷ ss) whole mends [] = whole s
  brings_so i f (s ∷ ss) whole mends (answer.Brought ∷ rest) = brings_so i f ss whole mends rest
  brings_so i f (s ∷ ss) whole mends (answer.Refused why ∷ rest) = give_up_by (Unchanged i ∷ []) why rest
  brings_so i f (s ∷ ss) whole mends (_ ∷ rest) = never

  pub mend_by : (f : FileId) → ((s : Stamp) → P (want.Look f (what.Whole s))) → P (want.OpenToMend f) → ((i : Serial) → P (want.Do i op.Mend)) → (xs : List Answer) → P (mend_wants f xs)
  mend_by f whole opens mends [] = opens
  mend_by f whole opens mends (answer.Merging i kept ∷ rest) = brings_so i f kept whole (mends i) rest
  mend_by f whole opens mends (answer.Refused why ∷ []) = giving _
  mend_by f whole opens mends (_ ∷ rest) = never

  opens_file_so : (m : OpenMode) (free : Option ℕ) (f : FileId) (k : Kind) (xs : List Answer) → P (opens_file m free f k xs)
  opens_file_so m free f kind.Dir xs = giving _
  opens_file_so m free f kind.File [] = opening f m
  opens_file_so m (Some fd) f kind.File (answer.Opened i ino ∷ []) = giving _
  opens_file_so m (Some fd) f kind.File (answer.Reading i version ∷ []) = giving _
  opens_file_so m None f kind.File (answer.Refused why ∷ []) = giving _
  opens_file_so m (Some fd) f kind.File (answer.Refused why ∷ []) = giving _
  opens_file_so m None f kind.File (_ ∷ rest) = never
  opens_file_so m (Some fd) f kind.File (_ ∷ rest) = never

  lists_so : (shows : Shows) (reached : List ℕ) (f : FileId) (k : Kind) (xs : List Answer) → P (lists shows reached f k xs)
  lists_so shows reached f kind.File xs = giving _
  lists_so shows reached f kind.Dir [] = looking f what.List tt
  lists_so shows reached f kind.Dir (answer.Showed names ∷ []) = giving _
  lists_so shows reached f kind.Dir (answer.Refused why ∷ []) = giving _
  lists_so shows reached f kind.Dir (_ ∷ rest) = never

  describes_so : (f : FileId) (k : Kind) (xs : List Answer) → P (describes f k xs)
  describes_so f k [] = looking f what.Stat tt
  describes_so f k (answer.Described found size stamp ∷ []) = giving _
  describes_so f k (answer.Refused why ∷ []) = giving _
  describes_so f k (_ ∷ rest) = never

  op_so : (i : Serial) (o : Op) → IsPlainOp o → (xs : List Answer) → P (op_wants i o xs)
  op_so i o plain [] = doing i o plain
  op_so i o plain (answer.Did result ∷ []) = giving _
  op_so i o plain (answer.Refused why ∷ []) = giving _
  op_so i o plain (_ ∷ rest) = never

  uses_so : (words : Call) (i : Serial) (xs : List Answer) → P (uses_wants words i xs)
  uses_so (call.Read fd at len) i xs = op_so i _ tt xs
  uses_so (call.Write fd at bytes) i xs = op_so i _ tt xs
  uses_so (call.Cut fd len) i xs = op_so i _ tt xs
  uses_so (call.Commit fd) i xs = op_so i _ tt xs
  uses_so (call.Abort fd) i xs = op_so i _ tt xs
  uses_so (call.Close fd) i xs = close_so i xs
  uses_so _ i xs = never

  -- ---- whole scripts ----

  -- a call is no mend
  path_so : (mounts : List Mount) (free : Option ℕ) (id : CallId) (words : Call) → ((f : FileId) → words ≡ call.Mend f → ⊥) → (xs : List Answer) → P (path_wants mounts free id words xs)
  path_so mounts free id (call.Create path sites) other xs = make_so mounts path kind.File sites xs
  path_so mounts free id (call.MakeDir path) other xs = make_so mounts path kind.Dir None xs
  path_so mounts free id (call.Unlink path) other xs = changes_so mounts path _ (λ g p rest. finds_so kind.File p g _ rest) xs
  path_so mounts free id (call.RemoveDir path) other xs = changes_so mounts path _ (λ g p rest. finds_so kind.Dir p g _ rest) xs
  path_so mounts free id (call.Rename path name) other xs = changes_so mounts path _ (λ g p rest. renames_so p _ name rest) xs
  path_so mounts free id (call.List path) other xs = go_so mounts (components path) xs _ (λ f k rest. lists_so (shown_in mounts) _ f k rest)
  path_so mounts free id (call.Stat path) other xs = go_so mounts (components path) xs _ (λ f k rest. describes_so f k rest)
  path_so mounts free id (call.Mail path bytes) other xs = go_so mounts (components path) xs _ (λ dir k rest. opens_dir_so _ _ (λ p ys. probes_so p dir.group _ kind.File None bytes _ ys) dir k rest)
  path_so mounts free id (call.Mails path) other xs = go_so mounts (components path) xs _ (λ f k rest. lists_so shown_messages _ f k rest)
  path_so mounts free id (call.Open path how) other xs = go_so mounts (components path) xs _ (λ f k rest. opens_file_so how free f k rest)
  path_so mounts free id (call.Mend f) other xs = absurd (other f refl)
  path_so mounts free id _ other xs = never

  begun_so : (mounts : List Mount) (free : Option ℕ) (words : Call) → ((f : FileId) → words ≡ call.Mend f → ⊥) → (b : Beginning) (xs : List Answer) → P (begun_wants mounts free words b xs)
  begun_so mounts free words other (begins.Denied why) xs = giving _
  begun_so mounts free words other (begins.Uses e i) xs = uses_so words i xs
  begun_so mounts free words other (begins.Walks id) xs = path_so mounts free id words other xs
  begun_so mounts free words other (begins.Reopens kept last) xs = reopen_so P kept (record { opens = opening kept.file how.Read; reads = λ i at len. doing i (op.Read at len) tt; closes = closing; replies = giving; never = never }) words last xs
  begun_so mounts free words other begins.Frees xs = giving _

  named_so : (mounts : List Mount) (free : Option ℕ) (words : Call) → ((f : FileId) → words ≡ call.Mend f → ⊥) → (b : Beginning) (xs : List Answer) → P (named_wants mounts free words b xs)
  named_so mounts free words other b xs = over (is_badly_named mounts words)
    where
      over : (x : Bool) → P (cond x (want.Give (reply.No refusal.BadName)) (begun_wants mounts free words b xs))
      over true = giving _
      over false = begun_so mounts free words other b xs

  pub packed_by : (is_packed : ℕ → Bool) (w : Want) → P w → P (where_packed is_packed w)
  packed_by is_packed w h = over w h
    where
      by_test : (x : Bool) (y : Want) → P y → P (cond x y (want.Give (reply.No refusal.NoStorage)))
      by_test true y k = k
      by_test false y k = giving _

      over : (y : Want) → P y → P (where_packed is_packed y)
      over (want.Look f what) k = by_test (is_packed f.group) _ k
      over (want.Open f how) k = by_test (is_packed f.group) _ k
      over (want.OpenToMend f) k = by_test (is_packed f.group) _ k
      over (want.Make g k sites) h = by_test (is_packed g) _ h
      over (want.Do i o) k = k
      over (want.Close i) k = k
      over (want.Give r) k = k
      over want.Never k = k

  pub wants_by : (mounts : List Mount) (is_packed : ℕ → Bool) (free : Option ℕ) (words : Call) → ((f : FileId) → words ≡ call.Mend f → ⊥) → (b : Beginning) (xs : List Answer) → P (wants mounts is_packed free words b xs)
  wants_by mounts is_packed free words other b xs = packed_by is_packed (named_wants mounts free words b xs) (named_so mounts free words other b xs)

-- ---- where mending itself is no exception ----

module _ (P : Want → Type 0) (looking : (f : FileId) (w : What) → IsPlainLook w → P (want.Look f w)) (opening : (f : FileId) (m : OpenMode) → P (want.Open f m)) (making : (g : ℕ) (k : Kind) (sites : Option Sites) → P (want.Make g k sites)) (doing : (i : Serial) (o : Op) → P (want.Do i o)) (closing : (i : Serial) → P (want.Close i)) (giving : (r : Reply) → P (want.Give r)) (never : P want.Never) where
  pub give_up_so : (own : List Own) (why : Refusal) (xs : List Answer) → P (give_up own why xs)
  give_up_so own why xs = give_up_by P looking opening making (λ i o plain. doing i o) closing giving never own why xs

  pub after_mend_so : (i : Serial) (xs : List Answer) → P (after_mend i xs)
  after_mend_so i xs = after_mend_by P looking opening making (λ i o plain. doing i o) closing giving never i (doing i op.Mend) xs

  pub mend_so : (f : FileId) → ((s : Stamp) → P (want.Look f (what.Whole s))) → P (want.OpenToMend f) → (xs : List Answer) → P (mend_wants f xs)
  mend_so f whole opens xs = mend_by P looking opening making (λ i o plain. doing i o) closing giving never f whole opens (λ i. doing i op.Mend) xs

  pub wants_so : (mounts : List Mount) (is_packed : ℕ → Bool) (free : Option ℕ) (words : Call) → ((f : FileId) → words ≡ call.Mend f → ⊥) → (b : Beginning) (xs : List Answer) → P (wants mounts is_packed free words b xs)
  wants_so mounts is_packed free words other b xs = wants_by P looking opening making (λ i o plain. doing i o) closing giving never mounts is_packed free words other b xs
