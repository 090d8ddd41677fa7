-- What each script asks on the way: an operation that changes a file is of what was opened to write.
use Rattle.std.proofs.Common.{◌≡◌, ℕ, ◌⊎◌, Bool, true, false, cond, List, [], ◌∷◌, Option, Some, None, refl, sym, ◌∙◌, ap, subst, inl, inr}
use Rattle.run_laws.proofs.of_plain_facts.Tests.{false_true}
use Rattle.locus_ids.specs.declared.ids.EpochId.{EpochId}
use Rattle.locus_ids.specs.declared.ids.FileId.{FileId}
use Rattle.locus_ids.specs.declared.ids.Kind.{Kind}
use Rattle.locus_ids.specs.declared.ids.Kind.TheVariants as kind
use Rattle.locus_ids.specs.declared.ids.Serial.{Serial}
use Rattle.locus_ids.specs.declared.ids.Stamp.{Stamp}
use Rattle.locus_ids.specs.declared.sites.Sites.{Sites}
use Rattle.locus_ids.specs.declared.config.Mount.{Mount}
use Rattle.locus_ids.specs.declared.refusal.Refusal.{Refusal}
use Rattle.locus_ids.specs.declared.refusal.Refusal.TheVariants as refusal
use Rattle.commit_graph.specs.Versions.{same_stamp}
use Rattle.trace_book.specs.declared.call.Call.{Call}
use Rattle.trace_book.specs.declared.call.Call.TheVariants as call
use Rattle.trace_book.specs.declared.call.OpenMode.{OpenMode}
use Rattle.trace_book.specs.declared.descriptor.OneVersion.{OneVersion}
use Rattle.trace_book.specs.declared.operation.Op.{Op}
use Rattle.trace_book.specs.declared.operation.Op.TheVariants as op
use Rattle.trace_book.specs.declared.operation.Outcome.TheVariants as outcome
use Rattle.trace_book.specs.declared.operation.What.{What}
use Rattle.trace_book.specs.declared.operation.What.TheVariants as what
use Rattle.trace_book.specs.declared.reply.Reply.{Reply}
use Rattle.trace_book.specs.Names.{plain_name}
use Rattle.call_rules.specs.declared.answer.Answer.{Answer}
use Rattle.call_rules.specs.declared.answer.Answer.TheVariants as answer
use Rattle.call_rules.specs.declared.want.Want.{Want}
use Rattle.call_rules.specs.declared.want.Want.TheVariants as want
use Rattle.call_rules.specs.Closing.{Own, Unchanged, Changed, closes, aborts, gives, give_up, close_all}
use Rattle.call_rules.specs.Making.{after_insert, after_make, fills, after_probe, probes, opens_dir}
use Rattle.call_rules.specs.Reopening.{reads_again, reopened, reopen_wants}
use Rattle.call_rules.specs.Removing.{removes, empties, opens_target, by_kind, finds}
use Rattle.call_rules.specs.Naming.{renames}
use Rattle.call_rules.specs.Mending.{after_mend, brings, mend_wants}
use Rattle.call_rules.specs.Opening.{opens_file, close_wants, lists, describes, Shows}
use Rattle.site_laws.specs.Locks.Writing.{changes, OpensToWrite, Opens, IsOpenedToWrite}

-- a script after its first answer
abbrev pub After : (List Answer → Want) → Answer → List Answer → Want
After script a rest = script (a ∷ rest)

-- what it asks then is no operation that changes a file
abbrev pub Quiet : Want → Type 0
Quiet w = (i : Serial) (o : Op) → w ≡ want.Do i o → changes o ≡ true → ⊥

-- such an operation is asked of what was opened to write
abbrev pub Sound : (List Answer → Want) → List Answer → Type 0
Sound script answers = (i : Serial) (o : Op) → script answers ≡ want.Do i o → changes o ≡ true → IsOpenedToWrite script answers i

-- or of this instance
abbrev pub Within : (List Answer → Want) → Serial → List Answer → Type 0
Within script p answers = (i : Serial) (o : Op) → script answers ≡ want.Do i o → changes o ≡ true → (p ≡ i) ⊎ IsOpenedToWrite script answers i

pub shifted : (script : List Answer → Want) (a : Answer) (rest : List Answer) (i : Serial) → IsOpenedToWrite (After script a) rest i → IsOpenedToWrite script (a ∷ rest) i
shifted script a rest i h = record { before = a ∷ h.before; opening = h.opening; after = h.after; answers_are = ap (λ (xs : List Answer). a ∷ xs) h.answers_are; asked = h.asked; opened = h.opened }

pub within_after : (script : List Answer → Want) (p : Serial) (a : Answer) (rest : List Answer) → Within (After script a) p rest → Within script p (a ∷ rest)
within_after script p a rest h i o e c = either (h i o e c)
  where
    either : (p ≡ i) ⊎ IsOpenedToWrite (After script a) rest i → (p ≡ i) ⊎ IsOpenedToWrite script (a ∷ rest) i
    either (inl same) = inl same
    either (inr k) = inr (shifted script a rest i k)

pub quiet_within : (script : List Answer → Want) (p : Serial) (answers : List Answer) → Quiet (script answers) → Within script p answers
quiet_within script p answers h i o e c = absurd (h i o e c)

pub quiet_sound : (script : List Answer → Want) (answers : List Answer) → Quiet (script answers) → Sound script answers
quiet_sound script answers h i o e c = absurd (h i o e c)

-- the first answer opened the instance, where an open to write was asked
pub opened_sound : (script : List Answer → Want) (p : Serial) (a : Answer) (rest : List Answer) → OpensToWrite (script []) → Opens p a → Within (After script a) p rest → Sound script (a ∷ rest)
opened_sound script p a rest asked opened h i o e c = either (h i o e c)
  where
    either : (p ≡ i) ⊎ IsOpenedToWrite (After script a) rest i → IsOpenedToWrite script (a ∷ rest) i
    either (inl same) = record { before = []; opening = a; after = rest; answers_are = refl; asked = asked; opened = subst (λ (q : Serial). Opens q a) same opened }
    either (inr k) = shifted script a rest i k

-- or it is asked of the one or the other of two
abbrev pub Both : (List Answer → Want) → Serial → Serial → List Answer → Type 0
Both script p q answers = (i : Serial) (o : Op) → script answers ≡ want.Do i o → changes o ≡ true → (p ≡ i) ⊎ ((q ≡ i) ⊎ IsOpenedToWrite script answers i)

pub within_both : (script : List Answer → Want) (p q : Serial) (answers : List Answer) → Within script p answers → Both script p q answers
within_both script p q answers h i o e c = either (h i o e c)
  where
    either : (p ≡ i) ⊎ IsOpenedToWrite script answers i → (p ≡ i) ⊎ ((q ≡ i) ⊎ IsOpenedToWrite script answers i)
    either (inl same) = inl same
    either (inr k) = inr (inr k)

-- the first answer opened the second of them, where an open to write was asked
pub opened_within : (script : List Answer → Want) (p q : Serial) (a : Answer) (rest : List Answer) → OpensToWrite (script []) → Opens q a → Both (After script a) p q rest → Within script p (a ∷ rest)
opened_within script p q a rest asked opened h i o e c = either (h i o e c)
  where
    either : (p ≡ i) ⊎ ((q ≡ i) ⊎ IsOpenedToWrite (After script a) rest i) → (p ≡ i) ⊎ IsOpenedToWrite script (a ∷ rest) i
    either (inl same) = inl same
    either (inr (inl same)) = inr (record { before = []; opening = a; after = rest; answers_are = refl; asked = asked; opened = subst (λ (x : Serial). Opens x a) same opened })
    either (inr (inr k)) = inr (shifted script a rest i k)

pub never_do : (i : Serial) (o : Op) → want.Never ≡ want.Do i o → ⊥
never_do i o e = cc

pub give_do : (r : Reply) (i : Serial) (o : Op) → want.Give r ≡ want.Do i o → ⊥
give_do r i o e = cc

pub look_do : (file : FileId) (w : What) (i : Serial) (o : Op) → want.Look file w ≡ want.Do i o → ⊥
look_do file w i o e = cc

pub mend_do : (file : FileId) (i : Serial) (o : Op) → want.OpenToMend file ≡ want.Do i o → ⊥
mend_do file i o e = cc

pub do_inst : (p i : Serial) (x o : Op) → want.Do p x ≡ want.Do i o → p ≡ i
do_inst p i x o e = cc

pub do_op : (p i : Serial) (x o : Op) → want.Do p x ≡ want.Do i o → x ≡ o
do_op p i x o e = cc

-- an operation that changes nothing
pub idle : (p : Serial) (x : Op) → changes x ≡ false → Quiet (want.Do p x)
idle p x none i o e c = false_true (sym none ∙ (ap changes (do_op p i x o e) ∙ c))

pub doing : (script : List Answer → Want) (p : Serial) (x : Op) (answers : List Answer) → script answers ≡ want.Do p x → Within script p answers
doing script p x answers is i o e c = inl (do_inst p i x o (sym is ∙ e))

pub quiet_close : (p : Serial) → Quiet (want.Close p)
quiet_close p i o e c = cc

pub quiet_give : (r : Reply) → Quiet (want.Give r)
quiet_give r i o e c = cc

pub quiet_never : Quiet want.Never
quiet_never i o e c = cc

pub quiet_make : (group : ℕ) (k : Kind) (sites : Option Sites) → Quiet (want.Make group k sites)
quiet_make group k sites i o e c = cc

pub quiet_open : (file : FileId) (m : OpenMode) → Quiet (want.Open file m)
quiet_open file m i o e c = cc

-- ---- how a call ends ----

pub gives_quiet : (r : Reply) (answers : List Answer) → Quiet (gives r answers)
gives_quiet r [] = quiet_give r
gives_quiet r (a ∷ rest) = quiet_never

pub closes_quiet : (p : Serial) (next : List Answer → Want) (answers : List Answer) → ((rest : List Answer) → Quiet (next rest)) → Quiet (closes p next answers)
closes_quiet p next [] h = quiet_close p
closes_quiet p next (answer.Ended stamp ∷ rest) h = h rest
closes_quiet p next (answer.Refused why ∷ rest) h = h rest
closes_quiet p next (_ ∷ rest) h = quiet_never

pub aborts_quiet : (p : Serial) (next : List Answer → Want) (answers : List Answer) → ((rest : List Answer) → Quiet (next rest)) → Quiet (aborts p next answers)
aborts_quiet p next [] h = idle p op.Abort refl
aborts_quiet p next (answer.Did r ∷ rest) h = h rest
aborts_quiet p next (answer.Refused why ∷ rest) h = h rest
aborts_quiet p next (_ ∷ rest) h = quiet_never

pub give_up_quiet : (own : List Own) (why : Refusal) (answers : List Answer) → Quiet (give_up own why answers)
give_up_quiet [] why answers = gives_quiet _ answers
give_up_quiet (Unchanged p ∷ own) why answers = closes_quiet p (give_up own why) answers (give_up_quiet own why)
give_up_quiet (Changed p ∷ own) why answers = aborts_quiet p (closes p (give_up own why)) answers (λ rest. closes_quiet p (give_up own why) rest (give_up_quiet own why))

pub close_all_quiet : (ps : List Serial) (r : Reply) (answers : List Answer) → Quiet (close_all ps r answers)
close_all_quiet [] r answers = gives_quiet r answers
close_all_quiet (p ∷ ps) r [] = quiet_close p
close_all_quiet (p ∷ ps) r (answer.Ended stamp ∷ rest) = close_all_quiet ps r rest
close_all_quiet (p ∷ ps) r (answer.Refused why ∷ rest) = refused ps r p why rest
  where
    refused : (ps : List Serial) (r : Reply) (p : Serial) (why : Refusal) (rest : List Answer) → Quiet (close_all (p ∷ ps) r (answer.Refused why ∷ rest))
    refused [] r p why rest = gives_quiet _ rest
    refused (q ∷ qs) r p why [] = quiet_close q
    refused (q ∷ qs) r p why (answer.Ended stamp ∷ rest) = refused qs r q why rest
    refused (q ∷ qs) r p why (answer.Refused other ∷ rest) = refused qs r q why rest
    refused (q ∷ qs) r p why (_ ∷ rest) = quiet_never
close_all_quiet (p ∷ ps) r (_ ∷ rest) = quiet_never

-- ---- create and mkdir ----

pub after_insert_within : (p : Serial) (name : List ℕ) (k : Kind) (ino : ℕ) (told : Reply) (answers : List Answer) → Within (after_insert p name k ino told) p answers
after_insert_within p name k ino told [] = doing (after_insert p name k ino told) p (op.Insert name ino k) [] refl
after_insert_within p name k ino told (answer.Did r ∷ rest) = quiet_within (after_insert p name k ino told) p (answer.Did r ∷ rest) (close_all_quiet (p ∷ []) _ rest)
after_insert_within p name k ino told (answer.Refused why ∷ rest) = quiet_within (after_insert p name k ino told) p (answer.Refused why ∷ rest) (give_up_quiet (Unchanged p ∷ []) why rest)
after_insert_within p name k ino told (_ ∷ rest) = λ i o e c. absurd (never_do i o e)

pub after_make_within : (p : Serial) (name : List ℕ) (k : Kind) (made : Serial) (ino : ℕ) (told : Reply) (answers : List Answer) → Within (after_make p name k made ino told) p answers
after_make_within p name k made ino told [] = quiet_within (after_make p name k made ino told) p [] (quiet_close made)
after_make_within p name k made ino told (answer.Ended stamp ∷ rest) = within_after (after_make p name k made ino told) p (answer.Ended stamp) rest (after_insert_within p name k ino told rest)
after_make_within p name k made ino told (answer.Refused why ∷ rest) = quiet_within (after_make p name k made ino told) p (answer.Refused why ∷ rest) (give_up_quiet (Unchanged p ∷ []) why rest)
after_make_within p name k made ino told (_ ∷ rest) = λ i o e c. absurd (never_do i o e)

pub fills_both : (p : Serial) (name : List ℕ) (k : Kind) (bytes : List ℕ) (made : Serial) (ino : ℕ) (told : Reply) (answers : List Answer) → Both (fills p name k bytes made ino told) p made answers
fills_both p name k [] made ino told answers = within_both (fills p name k [] made ino told) p made answers (after_make_within p name k made ino told answers)
fills_both p name k (b ∷ bs) made ino told [] = λ i o e c. inr (inl (do_inst made i (op.Write 0 (b ∷ bs)) o e))
fills_both p name k (b ∷ bs) made ino told (answer.Did r ∷ rest) = within_both (fills p name k (b ∷ bs) made ino told) p made (answer.Did r ∷ rest)
    (within_after (fills p name k (b ∷ bs) made ino told) p (answer.Did r) rest (after_make_within p name k made ino told rest))
fills_both p name k (b ∷ bs) made ino told (answer.Refused why ∷ rest) = within_both (fills p name k (b ∷ bs) made ino told) p made (answer.Refused why ∷ rest)
    (quiet_within (fills p name k (b ∷ bs) made ino told) p (answer.Refused why ∷ rest) (give_up_quiet (Unchanged made ∷ Unchanged p ∷ []) why rest))
fills_both p name k (b ∷ bs) made ino told (_ ∷ rest) = λ i o e c. absurd (never_do i o e)

pub after_probe_within : (p : Serial) (group : ℕ) (name : List ℕ) (k : Kind) (sites : Option Sites) (bytes : List ℕ) (tells : ℕ → Reply) (answers : List Answer) → Within (after_probe p group name k sites bytes tells) p answers
after_probe_within p group name k sites bytes tells [] = quiet_within (after_probe p group name k sites bytes tells) p [] (quiet_make group k sites)
after_probe_within p group name k sites bytes tells (answer.Opened made ino ∷ rest) = opened_within (after_probe p group name k sites bytes tells) p made (answer.Opened made ino) rest tt refl (fills_both p name k bytes made ino (tells ino) rest)
after_probe_within p group name k sites bytes tells (answer.Refused why ∷ rest) = quiet_within (after_probe p group name k sites bytes tells) p (answer.Refused why ∷ rest) (give_up_quiet (Unchanged p ∷ []) why rest)
after_probe_within p group name k sites bytes tells (_ ∷ rest) = λ i o e c. absurd (never_do i o e)

pub probes_within : (p : Serial) (group : ℕ) (name : List ℕ) (k : Kind) (sites : Option Sites) (bytes : List ℕ) (tells : ℕ → Reply) (answers : List Answer) → Within (probes p group name k sites bytes tells) p answers
probes_within p group name k sites bytes tells [] = quiet_within (probes p group name k sites bytes tells) p [] (idle p (op.Probe name) refl)
probes_within p group name k sites bytes tells (answer.Did r ∷ rest) = within_after (probes p group name k sites bytes tells) p (answer.Did r) rest (after_probe_within p group name k sites bytes tells rest)
probes_within p group name k sites bytes tells (answer.Refused why ∷ rest) = quiet_within (probes p group name k sites bytes tells) p (answer.Refused why ∷ rest) (give_up_quiet (Unchanged p ∷ []) why rest)
probes_within p group name k sites bytes tells (_ ∷ rest) = λ i o e c. absurd (never_do i o e)

pub opens_dir_sound : (reached : List ℕ) (next : Serial → List Answer → Want) (dir : FileId) (k : Kind) (answers : List Answer) → ((p : Serial) (rest : List Answer) → Within (next p) p rest) → Sound (opens_dir reached next dir k) answers
opens_dir_sound reached next dir kind.File answers h = quiet_sound (opens_dir reached next dir kind.File) answers (quiet_give _)
opens_dir_sound reached next dir kind.Dir [] h = quiet_sound (opens_dir reached next dir kind.Dir) [] (quiet_open dir _)
opens_dir_sound reached next dir kind.Dir (answer.Opened p ino ∷ rest) h = opened_sound (opens_dir reached next dir kind.Dir) p (answer.Opened p ino) rest tt refl (h p rest)
opens_dir_sound reached next dir kind.Dir (answer.Refused why ∷ rest) h = quiet_sound (opens_dir reached next dir kind.Dir) (answer.Refused why ∷ rest) (quiet_give _)
opens_dir_sound reached next dir kind.Dir (_ ∷ rest) h = λ i o e c. absurd (never_do i o e)

-- ---- unlink and rmdir ----

pub removes_within : (p t : Serial) (name : List ℕ) (ino : ℕ) (answers : List Answer) → Within (removes p t name ino) p answers
removes_within p t name ino [] = doing (removes p t name ino) p (op.Remove name ino) [] refl
removes_within p t name ino (answer.Did r ∷ rest) = quiet_within (removes p t name ino) p (answer.Did r ∷ rest) (close_all_quiet (p ∷ t ∷ []) _ rest)
removes_within p t name ino (answer.Refused why ∷ rest) = quiet_within (removes p t name ino) p (answer.Refused why ∷ rest) (give_up_quiet (Unchanged p ∷ Unchanged t ∷ []) why rest)
removes_within p t name ino (_ ∷ rest) = λ i o e c. absurd (never_do i o e)

pub empties_within : (k : Kind) (p t : Serial) (name : List ℕ) (ino : ℕ) (answers : List Answer) → Within (empties k p t name ino) p answers
empties_within kind.File p t name ino answers = removes_within p t name ino answers
empties_within kind.Dir p t name ino [] = quiet_within (empties kind.Dir p t name ino) p [] (idle t op.Empty refl)
empties_within kind.Dir p t name ino (answer.Did r ∷ rest) = within_after (empties kind.Dir p t name ino) p (answer.Did r) rest (removes_within p t name ino rest)
empties_within kind.Dir p t name ino (answer.Refused why ∷ rest) = quiet_within (empties kind.Dir p t name ino) p (answer.Refused why ∷ rest) (give_up_quiet (Unchanged p ∷ Unchanged t ∷ []) why rest)
empties_within kind.Dir p t name ino (_ ∷ rest) = λ i o e c. absurd (never_do i o e)

pub opens_target_within : (k : Kind) (p : Serial) (group : ℕ) (name : List ℕ) (ino : ℕ) (answers : List Answer) → Within (opens_target k p group name ino) p answers
opens_target_within k p group name ino [] = quiet_within (opens_target k p group name ino) p [] (quiet_open _ _)
opens_target_within k p group name ino (answer.Opened t found ∷ rest) = within_after (opens_target k p group name ino) p (answer.Opened t found) rest (empties_within k p t name ino rest)
opens_target_within k p group name ino (answer.Refused why ∷ rest) = quiet_within (opens_target k p group name ino) p (answer.Refused why ∷ rest) (give_up_quiet (Unchanged p ∷ []) why rest)
opens_target_within k p group name ino (_ ∷ rest) = λ i o e c. absurd (never_do i o e)

pub by_kind_within : (k found : Kind) (p : Serial) (group : ℕ) (component : List ℕ) (ino : ℕ) (answers : List Answer) → Within (by_kind k found p group component ino) p answers
by_kind_within kind.File kind.File p group component ino answers = opens_target_within kind.File p group (plain_name component) ino answers
by_kind_within kind.Dir kind.Dir p group component ino answers = opens_target_within kind.Dir p group (plain_name component) ino answers
by_kind_within kind.File kind.Dir p group component ino answers = quiet_within (by_kind kind.File kind.Dir p group component ino) p answers (give_up_quiet (Unchanged p ∷ []) _ answers)
by_kind_within kind.Dir kind.File p group component ino answers = quiet_within (by_kind kind.Dir kind.File p group component ino) p answers (give_up_quiet (Unchanged p ∷ []) _ answers)

pub finds_within : (k : Kind) (p : Serial) (group : ℕ) (component : List ℕ) (answers : List Answer) → Within (finds k p group component) p answers
finds_within k p group component [] = quiet_within (finds k p group component) p [] (idle p (op.Find component) refl)
finds_within k p group component (answer.Did (outcome.Found ino found) ∷ rest) = within_after (finds k p group component) p (answer.Did (outcome.Found ino found)) rest (by_kind_within k found p group component ino rest)
finds_within k p group component (answer.Refused why ∷ rest) = quiet_within (finds k p group component) p (answer.Refused why ∷ rest) (give_up_quiet (Unchanged p ∷ []) why rest)
finds_within k p group component (_ ∷ rest) = λ i o e c. absurd (never_do i o e)

-- ---- rename ----

pub renames_within : (p : Serial) (component name : List ℕ) (answers : List Answer) → Within (renames p component name) p answers
renames_within p component name [] = doing (renames p component name) p (op.Rename component name) [] refl
renames_within p component name (answer.Did r ∷ rest) = quiet_within (renames p component name) p (answer.Did r ∷ rest) (close_all_quiet (p ∷ []) _ rest)
renames_within p component name (answer.Refused why ∷ rest) = quiet_within (renames p component name) p (answer.Refused why ∷ rest) (give_up_quiet (Unchanged p ∷ []) why rest)
renames_within p component name (_ ∷ rest) = λ i o e c. absurd (never_do i o e)

-- ---- mend ----

pub close_quiet : (p : Serial) (answers : List Answer) → Quiet (close_wants p answers)
close_quiet p [] = quiet_close p
close_quiet p (answer.Ended stamp ∷ []) = quiet_give _
close_quiet p (answer.Refused why ∷ []) = quiet_give _
close_quiet p (_ ∷ rest) = quiet_never

pub after_mend_within : (p : Serial) (answers : List Answer) → Within (after_mend p) p answers
after_mend_within p [] = doing (after_mend p) p op.Mend [] refl
after_mend_within p (answer.Did r ∷ rest) = quiet_within (after_mend p) p (answer.Did r ∷ rest) (close_quiet p rest)
after_mend_within p (answer.Refused why ∷ rest) = quiet_within (after_mend p) p (answer.Refused why ∷ rest) (give_up_quiet (Unchanged p ∷ []) why rest)
after_mend_within p (_ ∷ rest) = λ i o e c. absurd (never_do i o e)

pub brings_within : (p : Serial) (file : FileId) (stamps : List Stamp) (answers : List Answer) → Within (brings p file stamps) p answers
brings_within p file [] answers = after_mend_within p answers
brings_within p file (stamp ∷ stamps) [] = λ i o e c. absurd (look_do file (what.Whole stamp) i o e)
brings_within p file (stamp ∷ stamps) (answer.Brought ∷ rest) = within_after (brings p file (stamp ∷ stamps)) p answer.Brought rest (brings_within p file stamps rest)
brings_within p file (stamp ∷ stamps) (answer.Refused why ∷ rest) = quiet_within (brings p file (stamp ∷ stamps)) p (answer.Refused why ∷ rest) (give_up_quiet (Unchanged p ∷ []) why rest)
brings_within p file (stamp ∷ stamps) (_ ∷ rest) = λ i o e c. absurd (never_do i o e)

pub mend_sound : (file : FileId) (answers : List Answer) → Sound (mend_wants file) answers
mend_sound file [] = λ i o e c. absurd (mend_do file i o e)
mend_sound file (answer.Merging p kept ∷ rest) = opened_sound (mend_wants file) p (answer.Merging p kept) rest tt refl (brings_within p file kept rest)
mend_sound file (answer.Refused why ∷ []) = quiet_sound (mend_wants file) (answer.Refused why ∷ []) (quiet_give _)
mend_sound file (_ ∷ rest) = λ i o e c. absurd (never_do i o e)

-- ---- open, list and stat ----

pub opens_file_quiet : (m : OpenMode) (free : Option ℕ) (file : FileId) (k : Kind) (answers : List Answer) → Quiet (opens_file m free file k answers)
opens_file_quiet m free file kind.Dir answers = quiet_give _
opens_file_quiet m free file kind.File [] = quiet_open file m
opens_file_quiet m (Some fd) file kind.File (answer.Opened p ino ∷ []) = quiet_give _
opens_file_quiet m (Some fd) file kind.File (answer.Reading p version ∷ []) = quiet_give _
opens_file_quiet m None file kind.File (answer.Refused why ∷ []) = quiet_give _
opens_file_quiet m (Some fd) file kind.File (answer.Refused why ∷ []) = quiet_give _
opens_file_quiet m None file kind.File (_ ∷ rest) = quiet_never
opens_file_quiet m (Some fd) file kind.File (_ ∷ rest) = quiet_never

-- ---- a version is opened again ----

reads_again_quiet : (p : Serial) (at len : ℕ) (answers : List Answer) → Quiet (reads_again p at len answers)
reads_again_quiet p at len [] = idle p (op.Read at len) refl
reads_again_quiet p at len (answer.Did r ∷ []) = quiet_give _
reads_again_quiet p at len (answer.Refused why ∷ rest) = give_up_quiet (Unchanged p ∷ []) why rest
reads_again_quiet p at len (_ ∷ rest) = quiet_never

reopened_quiet : (kept : OneVersion) (last : EpochId) (at len : ℕ) (p : Serial) (granted : OneVersion) (answers : List Answer) → Quiet (reopened kept last at len p granted answers)
reopened_quiet kept last at len p granted answers = over (same_stamp granted.stamp kept.stamp)
  where
    over : (b : Bool) → Quiet (cond b (reads_again p at len answers) (give_up (Unchanged p ∷ []) (refusal.Stale last) answers))
    over true = reads_again_quiet p at len answers
    over false = give_up_quiet (Unchanged p ∷ []) (refusal.Stale last) answers

pub reopen_quiet : (words : Call) (kept : OneVersion) (last : EpochId) (answers : List Answer) → Quiet (reopen_wants words kept last answers)
reopen_quiet (call.Read fd at len) kept last [] = quiet_open kept.file _
reopen_quiet (call.Read fd at len) kept last (answer.Reading p granted ∷ rest) = reopened_quiet kept last at len p granted rest
reopen_quiet (call.Read fd at len) kept last (answer.Refused why ∷ []) = quiet_give _
reopen_quiet (call.Read fd at len) kept last (_ ∷ rest) = quiet_never
reopen_quiet _ kept last answers = quiet_never

-- ---- list and stat ----

pub lists_quiet : (shows : Shows) (reached : List ℕ) (at : FileId) (k : Kind) (answers : List Answer) → Quiet (lists shows reached at k answers)
lists_quiet shows reached at kind.File answers = quiet_give _
lists_quiet shows reached at kind.Dir [] = λ i o e c. look_do at what.List i o e
lists_quiet shows reached at kind.Dir (answer.Showed names ∷ []) = quiet_give _
lists_quiet shows reached at kind.Dir (answer.Refused why ∷ []) = quiet_give _
lists_quiet shows reached at kind.Dir (_ ∷ rest) = quiet_never

pub describes_quiet : (at : FileId) (k : Kind) (answers : List Answer) → Quiet (describes at k answers)
describes_quiet at k [] = λ i o e c. look_do at what.Stat i o e
describes_quiet at k (answer.Described found size stamp ∷ []) = quiet_give _
describes_quiet at k (answer.Refused why ∷ []) = quiet_give _
describes_quiet at k (_ ∷ rest) = quiet_never
