-- Each script is sound: after answers that fit it doesn't stray, opens only files that have numbers, and gives no reply that says that
-- the epoch was left.
use Rattle.std.proofs.Common.{◌≡◌, ℕ, ◌≤◌, Bool, true, false, cond, List, [], ◌∷◌, Option, Some, refl, sym, subst, inl, inr}
use Rattle.locus_ids.specs.declared.config.Mount.{Mount}
use Rattle.commit_graph.specs.Versions.{same_stamp}
use Rattle.locus_ids.specs.declared.ids.EpochId.{EpochId}
use Rattle.locus_ids.specs.declared.ids.FileId.{FileId}
use Rattle.locus_ids.specs.declared.ids.Kind.{Kind}
use Rattle.locus_ids.specs.declared.ids.Kind.TheVariants as kind
use Rattle.locus_ids.specs.declared.ids.Serial.{Serial}
use Rattle.locus_ids.specs.declared.ids.Stamp.{Stamp}
use Rattle.locus_ids.specs.declared.refusal.Refusal.{Refusal}
use Rattle.locus_ids.specs.declared.refusal.Refusal.TheVariants as refusal
use Rattle.locus_ids.specs.declared.sites.Sites.{Sites}
use Rattle.trace_book.specs.declared.call.Call.{Call}
use Rattle.trace_book.specs.declared.call.Call.TheVariants as call
use Rattle.trace_book.specs.declared.call.OpenMode.{OpenMode}
use Rattle.trace_book.specs.declared.descriptor.OneVersion.{OneVersion}
use Rattle.trace_book.specs.declared.operation.Op.{Op}
use Rattle.trace_book.specs.declared.operation.Op.TheVariants as op
use Rattle.trace_book.specs.declared.operation.Outcome.{Outcome}
use Rattle.trace_book.specs.declared.operation.Outcome.TheVariants as outcome
use Rattle.trace_book.specs.declared.reply.Reply.{Reply}
use Rattle.trace_book.specs.declared.reply.Reply.TheVariants as reply
use Rattle.call_rules.specs.declared.answer.Answer.{Answer}
use Rattle.call_rules.specs.declared.answer.Answer.TheVariants as answer
use Rattle.call_rules.specs.declared.want.Want.{Want}
use Rattle.call_rules.specs.declared.want.Want.TheVariants as want
use Rattle.call_rules.specs.Closing.{Own, Unchanged, Changed, closes, aborts, gives, give_up, close_all}
use Rattle.call_rules.specs.Making.{after_insert, after_make, fills, after_probe, probes, opens_dir}
use Rattle.call_rules.specs.Mending.{after_mend, brings, mend_wants}
use Rattle.call_rules.specs.Naming.{renames}
use Rattle.call_rules.specs.Opening.{opens_file, op_wants, close_wants, lists, describes, reply_to, Shows}
use Rattle.call_rules.specs.Reopening.{reads_again, reopened, reopens}
use Rattle.call_rules.specs.Removing.{removes, empties, opens_target, by_kind, finds}
use Rattle.store_laws.proofs.ScriptFitting.{NotChanged, ResultFits, Fits, OpensAs, GivesRight, OpensWords, ReadWords, UsesWords, IsSound, Script, Sound}

module _ (words : Call) (free : Option ℕ) where
  -- scripts that want the same
  pub sound_same : (k l : Script) (xs : List Answer) → ((ys : List Answer) → k ys ≡ l ys) → Sound words free k xs → Sound words free l xs
  sound_same k l [] h s = subst (IsSound words free) (h []) s
  sound_same k l (a ∷ xs) h s = λ fit. sound_same (λ ys. k (a ∷ ys)) (λ ys. l (a ∷ ys)) xs (λ ys. h (a ∷ ys)) (s (subst (λ (w : Want). Fits w a) (sym (h [])) fit))

  -- ---- how a call ends ----

  pub give_sound : (r : Reply) → GivesRight words free r → (xs : List Answer) → Sound words free (λ ys. want.Give r) xs
  give_sound r h [] = h
  give_sound r h (a ∷ xs) = λ fit. absurd fit

  gives_sound : (r : Reply) → GivesRight words free r → (xs : List Answer) → Sound words free (gives r) xs
  gives_sound r h [] = h
  gives_sound r h (a ∷ xs) = λ fit. absurd fit

  closes_sound : (i : Serial) (next : Script) → ((ys : List Answer) → Sound words free next ys) → (xs : List Answer) → Sound words free (closes i next) xs
  closes_sound i next h [] = tt
  closes_sound i next h (answer.Ended stamp ∷ rest) = λ fit. h rest
  closes_sound i next h (answer.Refused why ∷ rest) = λ fit. h rest
  closes_sound i next h (a ∷ rest) = λ fit. absurd fit

  aborts_sound : (i : Serial) (next : Script) → ((ys : List Answer) → Sound words free next ys) → (xs : List Answer) → Sound words free (aborts i next) xs
  aborts_sound i next h [] = tt
  aborts_sound i next h (answer.Did o ∷ rest) = λ fit. h rest
  aborts_sound i next h (answer.Refused why ∷ rest) = λ fit. h rest
  aborts_sound i next h (a ∷ rest) = λ fit. absurd fit

  give_up_sound : (own : List Own) (why : Refusal) → NotChanged why → (xs : List Answer) → Sound words free (give_up own why) xs
  give_up_sound [] why h xs = gives_sound (reply.No why) h xs
  give_up_sound (Unchanged i ∷ own) why h xs = closes_sound i (give_up own why) (λ ys. give_up_sound own why h ys) xs
  give_up_sound (Changed i ∷ own) why h xs = aborts_sound i (closes i (give_up own why)) (λ ys. closes_sound i (give_up own why) (λ zs. give_up_sound own why h zs) ys) xs

  refused_sound : (is : List Serial) (r : Reply) (i : Serial) (why : Refusal) → NotChanged why → (xs : List Answer) → Sound words free (λ ys. close_all (i ∷ is) r (answer.Refused why ∷ ys)) xs
  refused_sound [] r i why h xs = gives_sound (reply.No why) h xs
  refused_sound (j ∷ js) r i why h [] = tt
  refused_sound (j ∷ js) r i why h (answer.Ended stamp ∷ rest) = λ fit. refused_sound js r j why h rest
  refused_sound (j ∷ js) r i why h (answer.Refused other ∷ rest) = λ fit. refused_sound js r j why h rest
  refused_sound (j ∷ js) r i why h (a ∷ rest) = λ fit. absurd fit

  close_all_sound : (is : List Serial) (r : Reply) → GivesRight words free r → (xs : List Answer) → Sound words free (close_all is r) xs
  close_all_sound [] r h xs = gives_sound r h xs
  close_all_sound (i ∷ is) r h [] = tt
  close_all_sound (i ∷ is) r h (answer.Ended stamp ∷ rest) = λ fit. close_all_sound is r h rest
  close_all_sound (i ∷ is) r h (answer.Refused why ∷ rest) = λ fit. refused_sound is r i why fit rest
  close_all_sound (i ∷ is) r h (a ∷ rest) = λ fit. absurd fit

  -- ---- create and mkdir ----

  after_insert_sound : (p : Serial) (name : List ℕ) (k : Kind) (ino : ℕ) (told : Reply) → GivesRight words free told → (xs : List Answer) → Sound words free (after_insert p name k ino told) xs
  after_insert_sound p name k ino told right [] = tt
  after_insert_sound p name k ino told right (answer.Did o ∷ rest) = λ fit. close_all_sound (p ∷ []) told right rest
  after_insert_sound p name k ino told right (answer.Refused why ∷ rest) = λ fit. give_up_sound (Unchanged p ∷ []) why fit rest
  after_insert_sound p name k ino told right (a ∷ rest) = λ fit. absurd fit

  after_make_sound : (p : Serial) (name : List ℕ) (k : Kind) (made : Serial) (ino : ℕ) (told : Reply) → GivesRight words free told → (xs : List Answer) → Sound words free (after_make p name k made ino told) xs
  after_make_sound p name k made ino told right [] = tt
  after_make_sound p name k made ino told right (answer.Ended stamp ∷ rest) = λ fit. after_insert_sound p name k ino told right rest
  after_make_sound p name k made ino told right (answer.Refused why ∷ rest) = λ fit. give_up_sound (Unchanged p ∷ []) why fit rest
  after_make_sound p name k made ino told right (a ∷ rest) = λ fit. absurd fit

  fills_sound : (p : Serial) (name : List ℕ) (k : Kind) (bytes : List ℕ) (made : Serial) (ino : ℕ) (told : Reply) → GivesRight words free told → (xs : List Answer) → Sound words free (fills p name k bytes made ino told) xs
  fills_sound p name k [] made ino told right xs = after_make_sound p name k made ino told right xs
  fills_sound p name k (b ∷ bs) made ino told right [] = tt
  fills_sound p name k (b ∷ bs) made ino told right (answer.Did o ∷ rest) = λ fit. after_make_sound p name k made ino told right rest
  fills_sound p name k (b ∷ bs) made ino told right (answer.Refused why ∷ rest) = λ fit. give_up_sound (Unchanged made ∷ Unchanged p ∷ []) why fit rest
  fills_sound p name k (b ∷ bs) made ino told right (a ∷ rest) = λ fit. absurd fit

  after_probe_sound : (p : Serial) (group : ℕ) (name : List ℕ) (k : Kind) (sites : Option Sites) (bytes : List ℕ) (tells : ℕ → Reply) → ((ino : ℕ) → GivesRight words free (tells ino)) → (xs : List Answer) → Sound words free (after_probe p group name k sites bytes tells) xs
  after_probe_sound p group name k sites bytes tells right [] = tt
  after_probe_sound p group name k sites bytes tells right (answer.Opened made ino ∷ rest) = λ fit. fills_sound p name k bytes made ino (tells ino) (right ino) rest
  after_probe_sound p group name k sites bytes tells right (answer.Refused why ∷ rest) = λ fit. give_up_sound (Unchanged p ∷ []) why fit rest
  after_probe_sound p group name k sites bytes tells right (a ∷ rest) = λ fit. absurd fit

  pub probes_sound : (p : Serial) (group : ℕ) (name : List ℕ) (k : Kind) (sites : Option Sites) (bytes : List ℕ) (tells : ℕ → Reply) → ((ino : ℕ) → GivesRight words free (tells ino)) → (xs : List Answer) → Sound words free (probes p group name k sites bytes tells) xs
  probes_sound p group name k sites bytes tells right [] = tt
  probes_sound p group name k sites bytes tells right (answer.Did o ∷ rest) = λ fit. after_probe_sound p group name k sites bytes tells right rest
  probes_sound p group name k sites bytes tells right (answer.Refused why ∷ rest) = λ fit. give_up_sound (Unchanged p ∷ []) why fit rest
  probes_sound p group name k sites bytes tells right (a ∷ rest) = λ fit. absurd fit

  pub opens_dir_sound : (reached : List ℕ) (next : Serial → Script) → ((p : Serial) (ys : List Answer) → Sound words free (next p) ys) → (dir : FileId) → 1 ≤ dir.ino → (k : Kind) (xs : List Answer) → Sound words free (opens_dir reached next dir k) xs
  opens_dir_sound reached next h dir num kind.File xs = give_sound (reply.No (refusal.NotDir reached)) tt xs
  opens_dir_sound reached next h dir num kind.Dir [] = inl (num, tt)
  opens_dir_sound reached next h dir num kind.Dir (answer.Opened p ino ∷ rest) = λ fit. h p rest
  opens_dir_sound reached next h dir num kind.Dir (answer.Refused why ∷ rest) = λ fit. give_sound (reply.No why) fit rest
  opens_dir_sound reached next h dir num kind.Dir (a ∷ rest) = λ fit. absurd fit

  -- ---- unlink, rmdir and rename ----

  removes_sound : (p t : Serial) (name : List ℕ) (ino : ℕ) (xs : List Answer) → Sound words free (removes p t name ino) xs
  removes_sound p t name ino [] = tt
  removes_sound p t name ino (answer.Did o ∷ rest) = λ fit. close_all_sound (p ∷ t ∷ []) reply.Done tt rest
  removes_sound p t name ino (answer.Refused why ∷ rest) = λ fit. give_up_sound (Unchanged p ∷ Unchanged t ∷ []) why fit rest
  removes_sound p t name ino (a ∷ rest) = λ fit. absurd fit

  empties_sound : (k : Kind) (p t : Serial) (name : List ℕ) (ino : ℕ) (xs : List Answer) → Sound words free (empties k p t name ino) xs
  empties_sound kind.File p t name ino xs = removes_sound p t name ino xs
  empties_sound kind.Dir p t name ino [] = tt
  empties_sound kind.Dir p t name ino (answer.Did o ∷ rest) = λ fit. removes_sound p t name ino rest
  empties_sound kind.Dir p t name ino (answer.Refused why ∷ rest) = λ fit. give_up_sound (Unchanged p ∷ Unchanged t ∷ []) why fit rest
  empties_sound kind.Dir p t name ino (a ∷ rest) = λ fit. absurd fit

  target_sound : (k : Kind) (p : Serial) (group : ℕ) (name : List ℕ) (ino : ℕ) → 1 ≤ ino → (xs : List Answer) → Sound words free (opens_target k p group name ino) xs
  target_sound k p group name ino num [] = inl (num, tt)
  target_sound k p group name ino num (answer.Opened t found ∷ rest) = λ fit. empties_sound k p t name ino rest
  target_sound k p group name ino num (answer.Refused why ∷ rest) = λ fit. give_up_sound (Unchanged p ∷ []) why fit rest
  target_sound k p group name ino num (a ∷ rest) = λ fit. absurd fit

  by_kind_sound : (k found : Kind) (p : Serial) (group : ℕ) (component : List ℕ) (ino : ℕ) → 1 ≤ ino → (xs : List Answer) → Sound words free (by_kind k found p group component ino) xs
  by_kind_sound kind.File kind.File p group component ino num xs = target_sound kind.File p group _ ino num xs
  by_kind_sound kind.Dir kind.Dir p group component ino num xs = target_sound kind.Dir p group _ ino num xs
  by_kind_sound kind.File kind.Dir p group component ino num xs = give_up_sound (Unchanged p ∷ []) _ tt xs
  by_kind_sound kind.Dir kind.File p group component ino num xs = give_up_sound (Unchanged p ∷ []) _ tt xs

  pub finds_sound : (k : Kind) (p : Serial) (group : ℕ) (component : List ℕ) (xs : List Answer) → Sound words free (finds k p group component) xs
  finds_sound k p group component [] = tt
  finds_sound k p group component (answer.Did (outcome.Found ino found) ∷ rest) = λ fit. by_kind_sound k found p group component ino fit rest
  finds_sound k p group component (answer.Refused why ∷ rest) = λ fit. give_up_sound (Unchanged p ∷ []) why fit rest
  finds_sound k p group component (a ∷ rest) = λ fit. absurd fit

  pub renames_sound : (p : Serial) (component name : List ℕ) (xs : List Answer) → Sound words free (renames p component name) xs
  renames_sound p component name [] = tt
  renames_sound p component name (answer.Did o ∷ rest) = λ fit. close_all_sound (p ∷ []) reply.Done tt rest
  renames_sound p component name (answer.Refused why ∷ rest) = λ fit. give_up_sound (Unchanged p ∷ []) why fit rest
  renames_sound p component name (a ∷ rest) = λ fit. absurd fit

  -- ---- mend ----

  pub close_sound : (i : Serial) (xs : List Answer) → Sound words free (close_wants i) xs
  close_sound i [] = tt
  close_sound i (answer.Ended stamp ∷ []) = λ fit. tt
  close_sound i (answer.Ended stamp ∷ (a ∷ rest)) = λ fit more. absurd more
  close_sound i (answer.Refused why ∷ []) = λ fit. fit
  close_sound i (answer.Refused why ∷ (a ∷ rest)) = λ fit more. absurd more
  close_sound i (a ∷ rest) = λ fit. absurd fit

  after_mend_sound : (i : Serial) (xs : List Answer) → Sound words free (after_mend i) xs
  after_mend_sound i [] = tt
  after_mend_sound i (answer.Did o ∷ rest) = λ fit. close_sound i rest
  after_mend_sound i (answer.Refused why ∷ rest) = λ fit. give_up_sound (Unchanged i ∷ []) why fit rest
  after_mend_sound i (a ∷ rest) = λ fit. absurd fit

  brings_sound : (i : Serial) (f : FileId) (stamps : List Stamp) (xs : List Answer) → Sound words free (brings i f stamps) xs
  brings_sound i f [] xs = after_mend_sound i xs
  brings_sound i f (s ∷ ss) [] = tt
  brings_sound i f (s ∷ ss) (answer.Brought ∷ rest) = λ fit. brings_sound i f ss rest
  brings_sound i f (s ∷ ss) (answer.Refused why ∷ rest) = λ fit. give_up_sound (Unchanged i ∷ []) why fit rest
  brings_sound i f (s ∷ ss) (a ∷ rest) = λ fit. absurd fit

  pub mend_sound : (f : FileId) → words ≡ call.Mend f → (xs : List Answer) → Sound words free (mend_wants f) xs
  mend_sound f is [] = is
  mend_sound f is (answer.Merging i kept ∷ rest) = λ fit. brings_sound i f kept rest
  mend_sound f is (answer.Refused why ∷ []) = λ fit. fit
  mend_sound f is (answer.Refused why ∷ (a ∷ rest)) = λ fit more. absurd more
  mend_sound f is (a ∷ rest) = λ fit. absurd fit

  -- ---- open, list, stat, and uses ----

  pub opens_file_sound : (m : OpenMode) (fd : ℕ) → free ≡ Some fd → OpensWords words → OpensAs words m → (f : FileId) → 1 ≤ f.ino → (k : Kind) (xs : List Answer) → Sound words free (opens_file m (Some fd) f k) xs
  opens_file_sound m fd is opens as_said f num kind.Dir xs = give_sound (reply.No refusal.IsDir) tt xs
  opens_file_sound m fd is opens as_said f num kind.File [] = inl (num, as_said)
  opens_file_sound m fd is opens as_said f num kind.File (answer.Opened i ino ∷ []) = λ fit. (is, opens)
  opens_file_sound m fd is opens as_said f num kind.File (answer.Opened i ino ∷ (a ∷ rest)) = λ fit more. absurd more
  opens_file_sound m fd is opens as_said f num kind.File (answer.Reading i version ∷ []) = λ fit. (is, opens)
  opens_file_sound m fd is opens as_said f num kind.File (answer.Reading i version ∷ (a ∷ rest)) = λ fit more. absurd more
  opens_file_sound m fd is opens as_said f num kind.File (answer.Refused why ∷ []) = λ fit. fit
  opens_file_sound m fd is opens as_said f num kind.File (answer.Refused why ∷ (a ∷ rest)) = λ fit more. absurd more
  opens_file_sound m fd is opens as_said f num kind.File (a ∷ rest) = λ fit. absurd fit

  pub lists_sound : (shows : Shows) (reached : List ℕ) (f : FileId) (k : Kind) (xs : List Answer) → Sound words free (lists shows reached f k) xs
  lists_sound shows reached f kind.File xs = give_sound (reply.No (refusal.NotDir reached)) tt xs
  lists_sound shows reached f kind.Dir [] = tt
  lists_sound shows reached f kind.Dir (answer.Showed names ∷ []) = λ fit. tt
  lists_sound shows reached f kind.Dir (answer.Showed names ∷ (a ∷ rest)) = λ fit more. absurd more
  lists_sound shows reached f kind.Dir (answer.Refused why ∷ []) = λ fit. fit
  lists_sound shows reached f kind.Dir (answer.Refused why ∷ (a ∷ rest)) = λ fit more. absurd more
  lists_sound shows reached f kind.Dir (a ∷ rest) = λ fit. absurd fit

  pub describes_sound : (f : FileId) (k : Kind) (xs : List Answer) → Sound words free (describes f k) xs
  describes_sound f k [] = tt
  describes_sound f k (answer.Described found size stamp ∷ []) = λ fit. tt
  describes_sound f k (answer.Described found size stamp ∷ (a ∷ rest)) = λ fit more. absurd more
  describes_sound f k (answer.Refused why ∷ []) = λ fit. fit
  describes_sound f k (answer.Refused why ∷ (a ∷ rest)) = λ fit more. absurd more
  describes_sound f k (a ∷ rest) = λ fit. absurd fit

  replies_right : UsesWords words → (o : Op) (result : Outcome) → ResultFits o result → GivesRight words free (reply_to result)
  replies_right uses o outcome.Done fit = tt
  replies_right uses o (outcome.Found ino found) fit = tt
  replies_right uses o (outcome.Data bytes) fit = uses
  replies_right uses o (outcome.Committed stamp) fit = tt
  replies_right uses o (outcome.No why) fit = absurd fit

  pub op_sound : UsesWords words → (i : Serial) (o : Op) (xs : List Answer) → Sound words free (op_wants i o) xs
  op_sound uses i o [] = tt
  op_sound uses i o (answer.Did result ∷ []) = λ fit. replies_right uses o result fit
  op_sound uses i o (answer.Did result ∷ (a ∷ rest)) = λ fit more. absurd more
  op_sound uses i o (answer.Refused why ∷ []) = λ fit. fit
  op_sound uses i o (answer.Refused why ∷ (a ∷ rest)) = λ fit more. absurd more
  op_sound uses i o (a ∷ rest) = λ fit. absurd fit

  -- ---- a read that opens a version again ----

  reads_use : (y : Call) → ReadWords y → UsesWords y
  reads_use (call.Read fd at len) r = tt
  reads_use _ r = absurd r

  reads_again_sound : ReadWords words → (i : Serial) (at len : ℕ) (xs : List Answer) → Sound words free (reads_again i at len) xs
  reads_again_sound reads i at len [] = tt
  reads_again_sound reads i at len (answer.Did result ∷ []) = λ fit. replies_right (reads_use words reads) (op.Read at len) result fit
  reads_again_sound reads i at len (answer.Did result ∷ (a ∷ rest)) = λ fit more. absurd more
  reads_again_sound reads i at len (answer.Refused why ∷ rest) = λ fit. give_up_sound (Unchanged i ∷ []) why fit rest
  reads_again_sound reads i at len (a ∷ rest) = λ fit. absurd fit

  reopened_sound : ReadWords words → (kept : OneVersion) (last : EpochId) (at len : ℕ) (i : Serial) (granted : OneVersion) (xs : List Answer) → Sound words free (reopened kept last at len i granted) xs
  reopened_sound reads kept last at len i granted xs = over (same_stamp granted.stamp kept.stamp)
    where
      over : (b : Bool) → Sound words free (λ ys. cond b (reads_again i at len ys) (give_up (Unchanged i ∷ []) (refusal.Stale last) ys)) xs
      over true = reads_again_sound reads i at len xs
      over false = give_up_sound (Unchanged i ∷ []) (refusal.Stale last) tt xs

  pub reopens_sound : ReadWords words → (kept : OneVersion) (last : EpochId) (at len : ℕ) (xs : List Answer) → Sound words free (reopens kept last at len) xs
  reopens_sound reads kept last at len [] = inr (reads, refl)
  reopens_sound reads kept last at len (answer.Reading i granted ∷ rest) = λ fit. reopened_sound reads kept last at len i granted rest
  reopens_sound reads kept last at len (answer.Refused why ∷ []) = λ fit. fit
  reopens_sound reads kept last at len (answer.Refused why ∷ (a ∷ rest)) = λ fit more. absurd more
  reopens_sound reads kept last at len (a ∷ rest) = λ fit. absurd fit
