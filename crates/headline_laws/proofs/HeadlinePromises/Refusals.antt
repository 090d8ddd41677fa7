-- A call that is refused has made no version, but for a file that it made: by its script and what its closes are answered.
use Rattle.std.proofs.Common.{◌≡◌, ℕ, ◌≤◌, ◌&&◌, ◌||◌, nat_le, not, Bool, true, false, cond, List, [], ◌∷◌, filter, length, Option, Some, None, refl, sym, ap, subst, ◌∙◌, arith}
use Rattle.std.proofs.lemmas.Bool.Decides.{nat_tests}
use Rattle.locus_ids.specs.declared.ids.CallId.{CallId}
use Rattle.locus_ids.specs.declared.config.Mount.{Mount}
use Rattle.locus_ids.specs.declared.ids.EpochId.{EpochId}
use Rattle.locus_ids.specs.declared.ids.FileId.{FileId}
use Rattle.locus_ids.specs.declared.ids.Serial.{Serial}
use Rattle.locus_ids.specs.declared.ids.Stamp.{Stamp}
use Rattle.locus_ids.specs.declared.ids.Kind.{Kind}
use Rattle.locus_ids.specs.declared.ids.Kind.TheVariants as kind
use Rattle.locus_ids.specs.declared.sites.Sites.{Sites}
use Rattle.locus_ids.specs.declared.refusal.Refusal.{Refusal}
use Rattle.locus_ids.specs.declared.refusal.Refusal.TheVariants.{BadName, IsDir, NoStorage, NotDir, Stale}
use Rattle.trace_book.specs.Messages.{message_name}
use Rattle.trace_book.specs.Names.{but_last, components, last_of, plain_name}
use Rattle.trace_book.specs.Same.{same_serial}
use Rattle.trace_book.specs.declared.call.Call.{Call}
use Rattle.trace_book.specs.declared.call.Call.TheVariants as call
use Rattle.trace_book.specs.declared.call.OpenMode.{OpenMode}
use Rattle.trace_book.specs.declared.descriptor.Beginning.{Beginning}
use Rattle.trace_book.specs.declared.descriptor.Beginning.TheVariants as begins
use Rattle.trace_book.specs.declared.descriptor.OneVersion.{OneVersion}
use Rattle.trace_book.specs.declared.operation.Op.{Op}
use Rattle.trace_book.specs.declared.operation.Op.TheVariants as op
use Rattle.trace_book.specs.declared.operation.What.TheVariants as what
use Rattle.trace_book.specs.declared.call.OpenMode.TheVariants as how
use Rattle.locus_ids.specs.declared.config.Config.{Config}
use Rattle.trace_book.specs.declared.operation.Outcome.{Outcome}
use Rattle.trace_book.specs.declared.operation.Outcome.TheVariants as outcome
use Rattle.trace_book.specs.declared.reply.Reply.{Reply}
use Rattle.trace_book.specs.declared.reply.Reply.TheVariants as reply
use Rattle.call_rules.specs.Mailing.{tells_name, shown_messages}
use Rattle.call_rules.specs.declared.answer.Answer.{Answer}
use Rattle.call_rules.specs.declared.answer.Answer.TheVariants as answer
use Rattle.call_rules.specs.declared.want.Want.{Want}
use Rattle.call_rules.specs.declared.want.Want.TheVariants as want
use Rattle.call_rules.specs.Closing.{Unchanged, closes as closes_then, gives, give_up, close_all}
use Rattle.call_rules.specs.Making.{after_insert, after_make, fills, after_probe, probes, opens_dir, changes_dir}
use Rattle.call_rules.specs.Mending.{after_mend, brings, mend_wants}
use Rattle.call_rules.specs.Naming.{renames}
use Rattle.call_rules.specs.Opening.{opens_file, op_wants, close_wants, uses_wants, lists, describes, Shows, shown_in}
use Rattle.call_rules.specs.Removing.{removes, empties, opens_target, by_kind, finds}
use Rattle.call_rules.specs.Scripts.{path_wants, named_wants, where_packed}
use Rattle.call_rules.specs.Walks.{Walked, Asks, Fails, There, Strays, walk, walked, root_of, passes, mounted_in}
use Rattle.call_rules.specs.Words.{is_badly_named}
use Rattle.call_rules.specs.Reopening.{reads_again, reopen_wants, reopened, reopens}
use Rattle.promises.specs.Past.{CallSoFar, Past, asks, asks_after, is_packed}
use Rattle.promises.specs.Beside.{is_version_made, makes_file}
use Rattle.past_laws.proofs.Names.{both_parts, false_true}
use Rattle.headline_laws.proofs.HeadlinePromises.FairAnswers.{NotUses}
use Rattle.headline_laws.specs.HeadlinePromises.Fair.{Script, closes, earns, fits, is_fair, none_won, won_after}
use Rattle.commit_graph.specs.Versions.{same_stamp}

-- no instance may tell a version
abbrev pub NoneWon : (Serial → Bool) → Type 0
NoneWon won = (j : Serial) → won j ≡ false

-- this one alone
abbrev OneWon : (Serial → Bool) → Serial → Type 0
OneWon won i = (j : Serial) → (not (same_serial i j) && won j) ≡ false

-- versions that closes told
abbrev pub versions : List Answer → ℕ
versions xs = length (filter is_version_made xs)

-- the call may be refused now: its script refuses, or asks for what no storage of the group may answer
abbrev pub stalls : Want → Bool
stalls (want.Look f w) = true
stalls (want.Open f m) = true
stalls (want.OpenToMend f) = true
stalls (want.Make group k sites) = true
stalls (want.Do i o) = false
stalls (want.Close i) = false
stalls (want.Give (reply.No why)) = true
stalls (want.Give _) = false
stalls want.Never = false

-- where the script refuses, so many at most were told
abbrev pub Bounds : ℕ → (Serial → Bool) → Script → List Answer → Type 0
Bounds n won k xs = is_fair won k xs ≡ true → stalls (k xs) ≡ true → versions xs ≤ n

more : (n : ℕ) (won : Serial → Bool) (k : Script) (xs : List Answer) → Bounds 0 won k xs → Bounds n won k xs
more n won k xs b f e = (let h = b f e in omega (arith, h))

-- what was won before stays so where nothing is earned or closed
stays : (won : Serial → Bool) (w : Want) (a : Answer) → ((j : Serial) → closes w j ≡ false) → ((j : Serial) → earns w a j ≡ false) → NoneWon won → NoneWon (won_after won w a)
stays won w a c e n = λ j. rw (c j, n j, e j) refl

closed_stays : (won : Serial → Bool) (i : Serial) (a : Answer) → ((j : Serial) → earns (want.Close i) a j ≡ false) → NoneWon won → NoneWon (won_after won (want.Close i) a)
closed_stays won i a e n = λ j. rw (n j, e j) (none (same_serial i j))
  where
    none : (b : Bool) → (not b && false) ≡ false
    none true = refl
    none false = refl

-- How a call ends.

-- a script that gives its reply whatever is answered
given_bounds : (won : Serial → Bool) (r : Reply) (xs : List Answer) → Bounds 0 won (λ ys. want.Give r) xs
given_bounds won r [] f e = omega arith
given_bounds won r (answer.Ended s ∷ xs) f e = false_true f
given_bounds won r (answer.Opened i ino ∷ xs) f e = given_bounds _ r xs f e
given_bounds won r (answer.Reading i version ∷ xs) f e = given_bounds _ r xs f e
given_bounds won r (answer.Merging i kept ∷ xs) f e = given_bounds _ r xs f e
given_bounds won r (answer.Did o ∷ xs) f e = given_bounds _ r xs f e
given_bounds won r (answer.Refused why ∷ xs) f e = given_bounds _ r xs f e
given_bounds won r (answer.Entered ino k ∷ xs) f e = given_bounds _ r xs f e
given_bounds won r (answer.Showed names ∷ xs) f e = given_bounds _ r xs f e
given_bounds won r (answer.Described k size stamp ∷ xs) f e = given_bounds _ r xs f e
given_bounds won r (answer.Brought ∷ xs) f e = given_bounds _ r xs f e

gives_bounds : (won : Serial → Bool) (r : Reply) (xs : List Answer) → Bounds 0 won (gives r) xs
gives_bounds won r [] f e = omega arith
gives_bounds won r (a ∷ xs) f e = false_true e

closes_bounds : (won : Serial → Bool) (i : Serial) (next : Script) → NoneWon won → ((w : Serial → Bool) → NoneWon w → (xs : List Answer) → Bounds 0 w next xs) → (xs : List Answer) → Bounds 0 won (closes_then i next) xs
closes_bounds won i next n k [] f e = omega arith
closes_bounds won i next n k (answer.Ended None ∷ xs) f e = k (won_after won (want.Close i) (answer.Ended None)) (closed_stays won i (answer.Ended None) (λ j. refl) n) xs f e
closes_bounds won i next n k (answer.Ended (Some s) ∷ xs) f e = false_true (sym (n i) ∙ (both_parts (won i) _ f).0)
closes_bounds won i next n k (answer.Refused r ∷ xs) f e = false_true f
closes_bounds won i next n k (_ ∷ xs) f e = false_true f

one_up : (won : Serial → Bool) (p : Serial) (r : Refusal) → NoneWon won → (xs : List Answer) → Bounds 0 won (give_up (Unchanged p ∷ []) r) xs
one_up won p r n xs = closes_bounds won p (give_up [] r) n (λ w m ys. gives_bounds w (reply.No r) ys) xs

two_up : (won : Serial → Bool) (p t : Serial) (r : Refusal) → NoneWon won → (xs : List Answer) → Bounds 0 won (give_up (Unchanged p ∷ Unchanged t ∷ []) r) xs
two_up won p t r n xs = closes_bounds won p (give_up (Unchanged t ∷ []) r) n (λ w m ys. one_up w t r m ys) xs

-- where each close ends, another reply is given than a refusal
ends_well : {A : Type 0} (won : Serial → Bool) (is : List Serial) (r : Reply) → stalls (want.Give r) ≡ false → (xs : List Answer) → is_fair won (close_all is r) xs ≡ true → stalls (close_all is r xs) ≡ true → A
ends_well won [] r o [] f e = false_true (sym o ∙ e)
ends_well won [] r o (a ∷ xs) f e = false_true e
ends_well won (i ∷ is) r o [] f e = false_true e
ends_well won (i ∷ is) r o (answer.Ended None ∷ xs) f e = ends_well (won_after won (want.Close i) (answer.Ended None)) is r o xs f e
ends_well won (i ∷ is) r o (answer.Ended (Some s) ∷ xs) f e = ends_well (won_after won (want.Close i) (answer.Ended (Some s))) is r o xs (both_parts (won i) _ f).1 e
ends_well won (i ∷ is) r o (answer.Refused x ∷ xs) f e = false_true f
ends_well won (i ∷ is) r o (_ ∷ xs) f e = false_true f

-- Create and mkdir.

-- the reply is no refusal
abbrev EndsWell : Reply → Type 0
EndsWell r = stalls (want.Give r) ≡ false

insert_bounds : (won : Serial → Bool) (p : Serial) (name : List ℕ) (k : Kind) (ino : ℕ) (told : Reply) → EndsWell told → NoneWon won → (xs : List Answer) → Bounds 0 won (after_insert p name k ino told) xs
insert_bounds won p name k ino told good n [] f e = omega arith
insert_bounds won p name k ino told good n (answer.Did r ∷ xs) f e = ends_well _ (p ∷ []) told good xs f e
insert_bounds won p name k ino told good n (answer.Refused r ∷ xs) f e = one_up _ p r (stays won (want.Do p (op.Insert name ino k)) (answer.Refused r) (λ j. refl) (λ j. refl) n) xs f e
insert_bounds won p name k ino told good n (answer.Ended s ∷ xs) f e = false_true e
insert_bounds won p name k ino told good n (_ ∷ xs) f e = false_true e

-- the file that was made is closed, and may tell its version
after_closed : (won : Serial → Bool) (made : Serial) (s : Option Stamp) → OneWon won made → NoneWon (won_after won (want.Close made) (answer.Ended s))
after_closed won made s one = λ j. none (same_serial made j) (won j) (one j)
  where
    none : (a b : Bool) → (not a && b) ≡ false → (not a && (b || false)) ≡ false
    none true b h = refl
    none false true h = h
    none false false h = refl

made_bounds : (won : Serial → Bool) (p : Serial) (name : List ℕ) (k : Kind) (made : Serial) (ino : ℕ) (told : Reply) → EndsWell told → OneWon won made → (xs : List Answer) → Bounds 1 won (after_make p name k made ino told) xs
made_bounds won p name k made ino told good one [] f e = false_true e
made_bounds won p name k made ino told good one (answer.Ended None ∷ xs) f e = (let h = insert_bounds _ p name k ino told good (after_closed won made None one) xs f e in omega (arith, h))
made_bounds won p name k made ino told good one (answer.Ended (Some s) ∷ xs) f e = (let h = insert_bounds _ p name k ino told good (after_closed won made (Some s) one) xs (both_parts (won made) _ f).1 e in omega (arith, h))
made_bounds won p name k made ino told good one (answer.Refused r ∷ xs) f e = false_true f
made_bounds won p name k made ino told good one (_ ∷ xs) f e = false_true f

makes_one : (won : Serial → Bool) (group : ℕ) (k : Kind) (sites : Option Sites) (made : Serial) (ino : ℕ) → NoneWon won → OneWon (won_after won (want.Make group k sites) (answer.Opened made ino)) made
makes_one won group k sites made ino n = λ j. rw (n j) (none (same_serial made j))
  where
    none : (b : Bool) → (not b && (true && (false || b))) ≡ false
    none true = refl
    none false = refl

-- where a write of it is refused it may tell its version all the same, and where it is written just so
one_stays : (won : Serial → Bool) (made : Serial) (o : Op) (a : Answer) → ((j : Serial) → earns (want.Do made o) a j ≡ false) → OneWon won made → OneWon (won_after won (want.Do made o) a) made
one_stays won made o a e one = λ j. rw (e j) (none (same_serial made j) (won j) (one j))
  where
    none : (a b : Bool) → (not a && b) ≡ false → (not a && (b || false)) ≡ false
    none true b h = refl
    none false true h = h
    none false false h = refl

one_written : (won : Serial → Bool) (made : Serial) (at : ℕ) (bytes : List ℕ) (o : Outcome) → OneWon won made → OneWon (won_after won (want.Do made (op.Write at bytes)) (answer.Did o)) made
one_written won made at bytes o one = λ j. none (same_serial made j) (won j) (one j)
  where
    none : (a b : Bool) → (not a && b) ≡ false → (not a && (b || a)) ≡ false
    none true b h = refl
    none false true h = h
    none false false h = refl

fresh_up : (won : Serial → Bool) (made p : Serial) (r : Refusal) → OneWon won made → (xs : List Answer) → Bounds 1 won (give_up (Unchanged made ∷ Unchanged p ∷ []) r) xs
fresh_up won made p r one [] f e = omega arith
fresh_up won made p r one (answer.Ended None ∷ xs) f e = (let h = one_up _ p r (after_closed won made None one) xs f e in omega (arith, h))
fresh_up won made p r one (answer.Ended (Some s) ∷ xs) f e = (let h = one_up _ p r (after_closed won made (Some s) one) xs (both_parts (won made) _ f).1 e in omega (arith, h))
fresh_up won made p r one (answer.Refused x ∷ xs) f e = false_true f
fresh_up won made p r one (_ ∷ xs) f e = false_true f

fills_bounds : (won : Serial → Bool) (p : Serial) (name : List ℕ) (k : Kind) (bytes : List ℕ) (made : Serial) (ino : ℕ) (told : Reply) → EndsWell told → OneWon won made → (xs : List Answer) → Bounds 1 won (fills p name k bytes made ino told) xs
fills_bounds won p name k [] made ino told good one xs f e = made_bounds won p name k made ino told good one xs f e
fills_bounds won p name k (b ∷ bs) made ino told good one [] f e = omega arith
fills_bounds won p name k (b ∷ bs) made ino told good one (answer.Did o ∷ xs) f e = made_bounds _ p name k made ino told good (one_written won made 0 (b ∷ bs) o one) xs f e
fills_bounds won p name k (b ∷ bs) made ino told good one (answer.Refused r ∷ xs) f e = fresh_up _ made p r (one_stays won made (op.Write 0 (b ∷ bs)) (answer.Refused r) (λ j. refl) one) xs f e
fills_bounds won p name k (b ∷ bs) made ino told good one (answer.Ended s ∷ xs) f e = false_true e
fills_bounds won p name k (b ∷ bs) made ino told good one (_ ∷ xs) f e = false_true e

probe_bounds : (won : Serial → Bool) (p : Serial) (group : ℕ) (name : List ℕ) (k : Kind) (sites : Option Sites) (bytes : List ℕ) (tells : ℕ → Reply) → ((ino : ℕ) → EndsWell (tells ino)) → NoneWon won → (xs : List Answer) → Bounds 1 won (after_probe p group name k sites bytes tells) xs
probe_bounds won p group name k sites bytes tells good n [] f e = omega arith
probe_bounds won p group name k sites bytes tells good n (answer.Opened made ino ∷ xs) f e = fills_bounds _ p name k bytes made ino (tells ino) (good ino) (makes_one won group k sites made ino n) xs f e
probe_bounds won p group name k sites bytes tells good n (answer.Refused r ∷ xs) f e = more 1 _ (give_up (Unchanged p ∷ []) r) xs (one_up _ p r (stays won (want.Make group k sites) (answer.Refused r) (λ j. refl) (λ j. refl) n) xs) f e
probe_bounds won p group name k sites bytes tells good n (answer.Ended s ∷ xs) f e = false_true e
probe_bounds won p group name k sites bytes tells good n (_ ∷ xs) f e = false_true e

probes_bounds : (won : Serial → Bool) (p : Serial) (group : ℕ) (name : List ℕ) (k : Kind) (sites : Option Sites) (bytes : List ℕ) (tells : ℕ → Reply) → ((ino : ℕ) → EndsWell (tells ino)) → NoneWon won → (xs : List Answer) → Bounds 1 won (probes p group name k sites bytes tells) xs
probes_bounds won p group name k sites bytes tells good n [] f e = omega arith
probes_bounds won p group name k sites bytes tells good n (answer.Did o ∷ xs) f e = probe_bounds _ p group name k sites bytes tells good (stays won (want.Do p (op.Probe name)) (answer.Did o) (λ j. refl) (λ j. refl) n) xs f e
probes_bounds won p group name k sites bytes tells good n (answer.Refused r ∷ xs) f e = more 1 _ (give_up (Unchanged p ∷ []) r) xs (one_up _ p r (stays won (want.Do p (op.Probe name)) (answer.Refused r) (λ j. refl) (λ j. refl) n) xs) f e
probes_bounds won p group name k sites bytes tells good n (answer.Ended s ∷ xs) f e = false_true e
probes_bounds won p group name k sites bytes tells good n (_ ∷ xs) f e = false_true e

-- Unlink and rmdir.

removes_bounds : (won : Serial → Bool) (p t : Serial) (name : List ℕ) (ino : ℕ) → NoneWon won → (xs : List Answer) → Bounds 0 won (removes p t name ino) xs
removes_bounds won p t name ino n [] f e = omega arith
removes_bounds won p t name ino n (answer.Did o ∷ xs) f e = ends_well _ (p ∷ t ∷ []) reply.Done refl xs f e
removes_bounds won p t name ino n (answer.Refused r ∷ xs) f e = two_up _ p t r (stays won (want.Do p (op.Remove name ino)) (answer.Refused r) (λ j. refl) (λ j. refl) n) xs f e
removes_bounds won p t name ino n (answer.Ended s ∷ xs) f e = false_true e
removes_bounds won p t name ino n (_ ∷ xs) f e = false_true e

empties_bounds : (won : Serial → Bool) (k : Kind) (p t : Serial) (name : List ℕ) (ino : ℕ) → NoneWon won → (xs : List Answer) → Bounds 0 won (empties k p t name ino) xs
empties_bounds won kind.File p t name ino n xs f e = removes_bounds won p t name ino n xs f e
empties_bounds won kind.Dir p t name ino n [] f e = omega arith
empties_bounds won kind.Dir p t name ino n (answer.Did o ∷ xs) f e = removes_bounds _ p t name ino (stays won (want.Do t op.Empty) (answer.Did o) (λ j. refl) (λ j. refl) n) xs f e
empties_bounds won kind.Dir p t name ino n (answer.Refused r ∷ xs) f e = two_up _ p t r (stays won (want.Do t op.Empty) (answer.Refused r) (λ j. refl) (λ j. refl) n) xs f e
empties_bounds won kind.Dir p t name ino n (answer.Ended s ∷ xs) f e = false_true e
empties_bounds won kind.Dir p t name ino n (_ ∷ xs) f e = false_true e

target_bounds : (won : Serial → Bool) (k : Kind) (p : Serial) (group : ℕ) (name : List ℕ) (ino : ℕ) → NoneWon won → (xs : List Answer) → Bounds 0 won (opens_target k p group name ino) xs
target_bounds won k p group name ino n [] f e = omega arith
target_bounds won k p group name ino n (answer.Opened t found ∷ xs) f e = empties_bounds _ k p t name ino (stays won (want.Open (record { group = group; ino = ino }) how.Write) (answer.Opened t found) (λ j. refl) (λ j. refl) n) xs f e
target_bounds won k p group name ino n (answer.Refused r ∷ xs) f e = one_up _ p r (stays won (want.Open (record { group = group; ino = ino }) how.Write) (answer.Refused r) (λ j. refl) (λ j. refl) n) xs f e
target_bounds won k p group name ino n (answer.Ended s ∷ xs) f e = false_true e
target_bounds won k p group name ino n (_ ∷ xs) f e = false_true e

kind_bounds : (won : Serial → Bool) (k found : Kind) (p : Serial) (group : ℕ) (component : List ℕ) (ino : ℕ) → NoneWon won → (xs : List Answer) → Bounds 0 won (by_kind k found p group component ino) xs
kind_bounds won kind.File kind.File p group component ino n xs f e = target_bounds won kind.File p group (plain_name component) ino n xs f e
kind_bounds won kind.Dir kind.Dir p group component ino n xs f e = target_bounds won kind.Dir p group (plain_name component) ino n xs f e
kind_bounds won kind.File kind.Dir p group component ino n xs f e = one_up won p IsDir n xs f e
kind_bounds won kind.Dir kind.File p group component ino n xs f e = one_up won p (NotDir component) n xs f e

finds_bounds : (won : Serial → Bool) (k : Kind) (p : Serial) (group : ℕ) (component : List ℕ) → NoneWon won → (xs : List Answer) → Bounds 0 won (finds k p group component) xs
finds_bounds won k p group component n [] f e = omega arith
finds_bounds won k p group component n (answer.Did (outcome.Found ino found) ∷ xs) f e = kind_bounds _ k found p group component ino (stays won (want.Do p (op.Find component)) (answer.Did (outcome.Found ino found)) (λ j. refl) (λ j. refl) n) xs f e
finds_bounds won k p group component n (answer.Refused r ∷ xs) f e = one_up _ p r (stays won (want.Do p (op.Find component)) (answer.Refused r) (λ j. refl) (λ j. refl) n) xs f e
finds_bounds won k p group component n (answer.Ended s ∷ xs) f e = false_true e
finds_bounds won k p group component n (_ ∷ xs) f e = false_true e

-- Rename.

renames_bounds : (won : Serial → Bool) (p : Serial) (component name : List ℕ) → NoneWon won → (xs : List Answer) → Bounds 0 won (renames p component name) xs
renames_bounds won p component name n [] f e = omega arith
renames_bounds won p component name n (answer.Did o ∷ xs) f e = ends_well _ (p ∷ []) reply.Done refl xs f e
renames_bounds won p component name n (answer.Refused r ∷ xs) f e = one_up _ p r (stays won (want.Do p (op.Rename component name)) (answer.Refused r) (λ j. refl) (λ j. refl) n) xs f e
renames_bounds won p component name n (answer.Ended s ∷ xs) f e = false_true e
renames_bounds won p component name n (_ ∷ xs) f e = false_true e

-- Mend.

close_bounds : (won : Serial → Bool) (i : Serial) (xs : List Answer) → Bounds 0 won (close_wants i) xs
close_bounds won i [] f e = omega arith
close_bounds won i (answer.Ended s ∷ []) f e = false_true e
close_bounds won i (answer.Ended s ∷ b ∷ xs) f e = false_true e
close_bounds won i (answer.Refused r ∷ xs) f e = false_true f
close_bounds won i (_ ∷ xs) f e = false_true f

after_mend_bounds : (won : Serial → Bool) (i : Serial) → NoneWon won → (xs : List Answer) → Bounds 0 won (after_mend i) xs
after_mend_bounds won i n [] f e = omega arith
after_mend_bounds won i n (answer.Did o ∷ xs) f e = close_bounds _ i xs f e
after_mend_bounds won i n (answer.Refused r ∷ xs) f e = one_up _ i r (stays won (want.Do i op.Mend) (answer.Refused r) (λ j. refl) (λ j. refl) n) xs f e
after_mend_bounds won i n (answer.Ended s ∷ xs) f e = false_true e
after_mend_bounds won i n (_ ∷ xs) f e = false_true e

brings_bounds : (won : Serial → Bool) (i : Serial) (file : FileId) (stamps : List Stamp) → NoneWon won → (xs : List Answer) → Bounds 0 won (brings i file stamps) xs
brings_bounds won i file [] n xs f e = after_mend_bounds won i n xs f e
brings_bounds won i file (s ∷ ss) n [] f e = omega arith
brings_bounds won i file (s ∷ ss) n (answer.Brought ∷ xs) f e = brings_bounds _ i file ss (stays won (want.Look file (what.Whole s)) answer.Brought (λ j. refl) (λ j. refl) n) xs f e
brings_bounds won i file (s ∷ ss) n (answer.Refused r ∷ xs) f e = one_up _ i r (stays won (want.Look file (what.Whole s)) (answer.Refused r) (λ j. refl) (λ j. refl) n) xs f e
brings_bounds won i file (s ∷ ss) n (answer.Ended t ∷ xs) f e = false_true e
brings_bounds won i file (s ∷ ss) n (_ ∷ xs) f e = false_true e

mend_bounds : (won : Serial → Bool) (file : FileId) → NoneWon won → (xs : List Answer) → Bounds 0 won (mend_wants file) xs
mend_bounds won file n [] f e = omega arith
mend_bounds won file n (answer.Merging i kept ∷ xs) f e = brings_bounds _ i file kept (stays won (want.OpenToMend file) (answer.Merging i kept) (λ j. refl) (λ j. refl) n) xs f e
mend_bounds won file n (answer.Refused r ∷ []) f e = omega arith
mend_bounds won file n (answer.Refused r ∷ b ∷ xs) f e = false_true e
mend_bounds won file n (answer.Ended t ∷ xs) f e = false_true e
mend_bounds won file n (_ ∷ xs) f e = false_true e

-- A read that opens a version again.

reads_bounds : (won : Serial → Bool) (i : Serial) (at len : ℕ) → NoneWon won → (xs : List Answer) → Bounds 0 won (reads_again i at len) xs
reads_bounds won i at len n [] f e = omega arith
reads_bounds won i at len n (answer.Did o ∷ []) f e = omega arith
reads_bounds won i at len n (answer.Did o ∷ b ∷ xs) f e = false_true e
reads_bounds won i at len n (answer.Refused r ∷ xs) f e = one_up _ i r (stays won (want.Do i (op.Read at len)) (answer.Refused r) (λ j. refl) (λ j. refl) n) xs f e
reads_bounds won i at len n (answer.Ended s ∷ xs) f e = false_true e
reads_bounds won i at len n (_ ∷ xs) f e = false_true e

reopened_bounds : (won : Serial → Bool) (kept : OneVersion) (last : EpochId) (at len : ℕ) (i : Serial) (granted : OneVersion) → NoneWon won → (xs : List Answer) → Bounds 0 won (reopened kept last at len i granted) xs
reopened_bounds won kept last at len i granted n xs = over (same_stamp granted.stamp kept.stamp)
  where
    over : (b : Bool) → Bounds 0 won (λ ys. cond b (reads_again i at len ys) (give_up (Unchanged i ∷ []) (Stale last) ys)) xs
    over true = reads_bounds won i at len n xs
    over false = one_up won i (Stale last) n xs

reopens_bounds : (won : Serial → Bool) (kept : OneVersion) (last : EpochId) (at len : ℕ) → NoneWon won → (xs : List Answer) → Bounds 0 won (reopens kept last at len) xs
reopens_bounds won kept last at len n [] f e = omega arith
reopens_bounds won kept last at len n (answer.Reading i granted ∷ xs) f e = reopened_bounds _ kept last at len i granted (stays won (want.Open kept.file how.Read) (answer.Reading i granted) (λ j. refl) (λ j. refl) n) xs f e
reopens_bounds won kept last at len n (answer.Refused r ∷ []) f e = omega arith
reopens_bounds won kept last at len n (answer.Refused r ∷ b ∷ xs) f e = false_true e
reopens_bounds won kept last at len n (answer.Ended s ∷ xs) f e = false_true e
reopens_bounds won kept last at len n (_ ∷ xs) f e = false_true e

-- Open, list and stat, where their walks have come.

opens_bounds : (won : Serial → Bool) (m : OpenMode) (free : Option ℕ) (file : FileId) (k : Kind) (xs : List Answer) → Bounds 0 won (opens_file m free file k) xs
opens_bounds won m free file kind.Dir xs f e = given_bounds won (reply.No IsDir) xs f e
opens_bounds won m free file kind.File [] f e = omega arith
opens_bounds won m free file kind.File (answer.Ended t ∷ xs) f e = false_true f
opens_bounds won m (Some fd) file kind.File (answer.Opened i ino ∷ []) f e = omega arith
opens_bounds won m None file kind.File (answer.Opened i ino ∷ []) f e = omega arith
opens_bounds won m (Some fd) file kind.File (answer.Opened i ino ∷ b ∷ xs) f e = false_true e
opens_bounds won m None file kind.File (answer.Opened i ino ∷ b ∷ xs) f e = false_true e
opens_bounds won m (Some fd) file kind.File (answer.Reading i version ∷ []) f e = omega arith
opens_bounds won m None file kind.File (answer.Reading i version ∷ []) f e = omega arith
opens_bounds won m (Some fd) file kind.File (answer.Reading i version ∷ b ∷ xs) f e = false_true e
opens_bounds won m None file kind.File (answer.Reading i version ∷ b ∷ xs) f e = false_true e
opens_bounds won m free file kind.File (answer.Refused r ∷ []) f e = omega arith
opens_bounds won (m) (Some fd) file kind.File (answer.Refused r ∷ b ∷ xs) f e = false_true e
opens_bounds won (m) None file kind.File (answer.Refused r ∷ b ∷ xs) f e = false_true e
opens_bounds won m (Some fd) file kind.File (_ ∷ xs) f e = false_true e
opens_bounds won m None file kind.File (_ ∷ xs) f e = false_true e

lists_bounds : (won : Serial → Bool) (shows : Shows) (reached : List ℕ) (at : FileId) (k : Kind) (xs : List Answer) → Bounds 0 won (lists shows reached at k) xs
lists_bounds won shows reached at kind.File xs f e = given_bounds won (reply.No (NotDir reached)) xs f e
lists_bounds won shows reached at kind.Dir [] f e = omega arith
lists_bounds won shows reached at kind.Dir (answer.Ended t ∷ xs) f e = false_true f
lists_bounds won shows reached at kind.Dir (answer.Showed names ∷ []) f e = omega arith
lists_bounds won shows reached at kind.Dir (answer.Showed names ∷ b ∷ xs) f e = false_true e
lists_bounds won shows reached at kind.Dir (answer.Refused r ∷ []) f e = omega arith
lists_bounds won shows reached at kind.Dir (answer.Refused r ∷ b ∷ xs) f e = false_true e
lists_bounds won shows reached at kind.Dir (_ ∷ xs) f e = false_true e

describes_bounds : (won : Serial → Bool) (at : FileId) (k : Kind) (xs : List Answer) → Bounds 0 won (describes at k) xs
describes_bounds won at k [] f e = omega arith
describes_bounds won at k (answer.Ended t ∷ xs) f e = false_true f
describes_bounds won at k (answer.Described found size stamp ∷ []) f e = omega arith
describes_bounds won at k (answer.Described found size stamp ∷ b ∷ xs) f e = false_true e
describes_bounds won at k (answer.Refused r ∷ []) f e = omega arith
describes_bounds won at k (answer.Refused r ∷ b ∷ xs) f e = false_true e
describes_bounds won at k (_ ∷ xs) f e = false_true e

-- Walks.

open_bounds : (n : ℕ) (won : Serial → Bool) (reached : List ℕ) (next : Serial → Script) → ((p : Serial) (w : Serial → Bool) → NoneWon w → (ys : List Answer) → Bounds n w (next p) ys) → (dir : FileId) (k : Kind) → NoneWon won → (xs : List Answer) → Bounds n won (opens_dir reached next dir k) xs
open_bounds n won reached next h dir kind.File none xs f e = more n won (λ ys. want.Give (reply.No (NotDir reached))) xs (given_bounds won (reply.No (NotDir reached)) xs) f e
open_bounds n won reached next h dir kind.Dir none [] f e = omega arith
open_bounds n won reached next h dir kind.Dir none (answer.Opened p ino ∷ xs) f e = h p _ (stays won (want.Open dir how.Write) (answer.Opened p ino) (λ j. refl) (λ j. refl) none) xs f e
open_bounds n won reached next h dir kind.Dir none (answer.Refused r ∷ xs) f e = more n _ (λ ys. want.Give (reply.No r)) xs (given_bounds _ (reply.No r) xs) f e
open_bounds n won reached next h dir kind.Dir none (answer.Ended t ∷ xs) f e = false_true e
open_bounds n won reached next h dir kind.Dir none (_ ∷ xs) f e = false_true e

-- what a walk asks
abbrev goes : (FileId → Kind → Script) → Walked → Want
goes after (Asks dir name) = want.Look dir (what.Name name)
goes after (Fails why) = want.Give (reply.No why)
goes after (There at k rest) = after at k rest
goes after Strays = want.Never

goes_walked : (mounts : List Mount) (path : List (List ℕ)) (after : FileId → Kind → Script) (xs : List Answer) → goes after (walk mounts path [] (root_of 0) kind.Dir xs) ≡ walked mounts path xs after
goes_walked mounts path after xs = over (walk mounts path [] (root_of 0) kind.Dir xs) refl
  where
    over : (w : Walked) → walk mounts path [] (root_of 0) kind.Dir xs ≡ w → goes after w ≡ walked mounts path xs after
    over (Asks dir c) e = rw e refl
    over (Fails why) e = rw e refl
    over (There at k rest) e = rw e refl
    over Strays e = rw e refl

walk_bounds : (n : ℕ) (mounts : List Mount) (path : List (List ℕ)) (reached : List ℕ) (at : FileId) (k : Kind) (after : FileId → Kind → Script) → ((w : Serial → Bool) → NoneWon w → (there : FileId) (found : Kind) (ys : List Answer) → Bounds n w (after there found) ys) → (won : Serial → Bool) → NoneWon won → (xs : List Answer) →
    Bounds n won (λ ys. goes after (walk mounts path reached at k ys)) xs
walk_bounds n mounts [] reached at k after h won none xs = h won none at k xs
walk_bounds n mounts (name ∷ path) reached at kind.File after h won none xs = more n won (λ ys. want.Give (reply.No (NotDir reached))) xs (given_bounds won (reply.No (NotDir reached)) xs)
walk_bounds n mounts (name ∷ path) reached at kind.Dir after h won none xs = over (λ w m next found ys. walk_bounds n mounts path name next found after h w m ys) (mounted_in mounts at name) xs
  where
    over : ((w : Serial → Bool) → NoneWon w → (next : FileId) (found : Kind) (ys : List Answer) → Bounds n w (λ zs. goes after (walk mounts path name next found zs)) ys) → (o : Option ℕ) (ys : List Answer) → Bounds n won (λ zs. goes after (passes (walk mounts path name) at name o zs)) ys
    over further (Some group) ys = further won none (root_of group) kind.Dir ys
    over further None [] = λ f e. omega arith
    over further None (answer.Entered ino found ∷ ys) = further _ (stays won (want.Look at (what.Name name)) (answer.Entered ino found) (λ j. refl) (λ j. refl) none) (record { group = at.group; ino = ino }) found ys
    over further None (answer.Refused why ∷ ys) = λ f e. more n _ (λ zs. want.Give (reply.No why)) ys (given_bounds _ (reply.No why) ys) f e
    over further None (answer.Ended s ∷ ys) = λ f e. false_true e
    over further None (a ∷ ys) = λ f e. false_true e

-- scripts that ask the same
fair_same : (won : Serial → Bool) (k m : Script) → ((ys : List Answer) → k ys ≡ m ys) → (xs : List Answer) → is_fair won m xs ≡ is_fair won k xs
fair_same won k m h [] = refl
fair_same won k m h (a ∷ xs) = rw (sym (h [])) (ap (λ b. fits won (k []) a && b) (fair_same (won_after won (k []) a) (λ ys. k (a ∷ ys)) (λ ys. m (a ∷ ys)) (λ ys. h (a ∷ ys)) xs))

bounds_same : (n : ℕ) (won : Serial → Bool) (k m : Script) → ((ys : List Answer) → k ys ≡ m ys) → (xs : List Answer) → Bounds n won k xs → Bounds n won m xs
bounds_same n won k m h xs b f e = b (sym (fair_same won k m h xs) ∙ f) (ap stalls (h xs) ∙ e)

walked_bounds : (n : ℕ) (mounts : List Mount) (path : List (List ℕ)) (after : FileId → Kind → Script) → ((w : Serial → Bool) → NoneWon w → (there : FileId) (found : Kind) (ys : List Answer) → Bounds n w (after there found) ys) → (won : Serial → Bool) → NoneWon won → (xs : List Answer) → Bounds n won (λ ys. walked mounts path ys after) xs
walked_bounds n mounts path after h won none xs = bounds_same n won (λ ys. goes after (walk mounts path [] (root_of 0) kind.Dir ys)) (λ ys. walked mounts path ys after) (goes_walked mounts path after) xs (walk_bounds n mounts path [] (root_of 0) kind.Dir after h won none xs)

dir_bounds : (n : ℕ) (mounts : List Mount) (path : List ℕ) (next : ℕ → Serial → Script) → ((group : ℕ) (p : Serial) (w : Serial → Bool) → NoneWon w → (ys : List Answer) → Bounds n w (next group p) ys) → (won : Serial → Bool) → NoneWon won → (xs : List Answer) → Bounds n won (changes_dir mounts path next) xs
dir_bounds n mounts path next h won none xs = walked_bounds n mounts (but_last (components path)) (λ dir k rest. opens_dir (last_of (but_last (components path))) (next dir.group) dir k rest)
    (λ w m there found ys. open_bounds n w (last_of (but_last (components path))) (next there.group) (λ p v l zs. h there.group p v l zs) there found m ys) won none xs

-- so many versions a call may have told that is refused
abbrev most : Call → ℕ
most words = cond (makes_file words) 1 0

path_bounds : (mounts : List Mount) (free : Option ℕ) (id : CallId) (words : Call) (xs : List Answer) → Bounds (most words) (λ j. false) (path_wants mounts free id words) xs
path_bounds mounts free id (call.Create path sites) xs = dir_bounds 1 mounts path (λ group p rest. probes p group (last_of (components path)) kind.File sites [] reply.Made rest) (λ group p w n ys. probes_bounds w p group (last_of (components path)) kind.File sites [] reply.Made (λ ino. refl) n ys) _ (λ j. refl) xs
path_bounds mounts free id (call.MakeDir path) xs = dir_bounds 1 mounts path (λ group p rest. probes p group (last_of (components path)) kind.Dir None [] reply.Made rest) (λ group p w n ys. probes_bounds w p group (last_of (components path)) kind.Dir None [] reply.Made (λ ino. refl) n ys) _ (λ j. refl) xs
path_bounds mounts free id (call.Unlink path) xs = dir_bounds 0 mounts path (λ group p rest. finds kind.File p group (last_of (components path)) rest) (λ group p w n ys. finds_bounds w kind.File p group (last_of (components path)) n ys) _ (λ j. refl) xs
path_bounds mounts free id (call.RemoveDir path) xs = dir_bounds 0 mounts path (λ group p rest. finds kind.Dir p group (last_of (components path)) rest) (λ group p w n ys. finds_bounds w kind.Dir p group (last_of (components path)) n ys) _ (λ j. refl) xs
path_bounds mounts free id (call.Rename path name) xs = dir_bounds 0 mounts path (λ group p rest. renames p (last_of (components path)) name rest) (λ group p w n ys. renames_bounds w p (last_of (components path)) name n ys) _ (λ j. refl) xs
path_bounds mounts free id (call.List path) xs = walked_bounds 0 mounts (components path) (lists (shown_in mounts) (last_of (components path))) (λ w n there found ys. lists_bounds w (shown_in mounts) (last_of (components path)) there found ys) _ (λ j. refl) xs
path_bounds mounts free id (call.Stat path) xs = walked_bounds 0 mounts (components path) describes (λ w n there found ys. describes_bounds w there found ys) _ (λ j. refl) xs
path_bounds mounts free id (call.Mail path bytes) xs = walked_bounds 1 mounts (components path) _
    (λ w m there found ys. open_bounds 1 w (last_of (components path)) (λ p. probes p there.group (message_name id) kind.File None bytes (tells_name (message_name id))) (λ p v l zs. probes_bounds v p there.group (message_name id) kind.File None bytes (tells_name (message_name id)) (λ ino. refl) l zs) there found m ys) _ (λ j. refl) xs
path_bounds mounts free id (call.Mails path) xs = walked_bounds 0 mounts (components path) (lists shown_messages (last_of (components path))) (λ w n there found ys. lists_bounds w shown_messages (last_of (components path)) there found ys) _ (λ j. refl) xs
path_bounds mounts free id (call.Open path m) xs = walked_bounds 0 mounts (components path) (opens_file m free) (λ w n there found ys. opens_bounds w m free there found ys) _ (λ j. refl) xs
path_bounds mounts free id (call.Mend file) xs = mend_bounds _ file (λ j. refl) xs
path_bounds mounts free id (call.Read fd at len) xs = λ f e. false_true e
path_bounds mounts free id (call.Write fd at bytes) xs = λ f e. false_true e
path_bounds mounts free id (call.Cut fd len) xs = λ f e. false_true e
path_bounds mounts free id (call.Commit fd) xs = λ f e. false_true e
path_bounds mounts free id (call.Abort fd) xs = λ f e. false_true e
path_bounds mounts free id (call.Close fd) xs = λ f e. false_true e

reopen_bounds : (words : Call) (kept : OneVersion) (last : EpochId) (xs : List Answer) → Bounds (most words) none_won (reopen_wants words kept last) xs
reopen_bounds (call.Read fd at len) kept last xs = reopens_bounds none_won kept last at len (λ j. refl) xs
reopen_bounds _ kept last xs = λ f e. false_true e

-- a call that uses a descriptor tells no version before its reply
op_none : (i : Serial) (o : Op) (xs : List Answer) → stalls (op_wants i o xs) ≡ true → versions xs ≤ 0
op_none i o [] e = omega arith
op_none i o (answer.Did result ∷ []) e = omega arith
op_none i o (answer.Did result ∷ b ∷ xs) e = false_true e
op_none i o (answer.Refused r ∷ []) e = omega arith
op_none i o (answer.Refused r ∷ b ∷ xs) e = false_true e
op_none i o (answer.Ended s ∷ xs) e = false_true e
op_none i o (_ ∷ xs) e = false_true e

close_none : (i : Serial) (xs : List Answer) → stalls (close_wants i xs) ≡ true → versions xs ≤ 0
close_none i [] e = omega arith
close_none i (answer.Ended s ∷ []) e = false_true e
close_none i (answer.Ended s ∷ b ∷ xs) e = false_true e
close_none i (answer.Refused r ∷ []) e = omega arith
close_none i (answer.Refused r ∷ b ∷ xs) e = false_true e
close_none i (_ ∷ xs) e = false_true e

uses_none : (words : Call) (i : Serial) (xs : List Answer) → stalls (uses_wants words i xs) ≡ true → versions xs ≤ most words
uses_none (call.Read fd at len) i xs e = op_none i (op.Read at len) xs e
uses_none (call.Write fd at bytes) i xs e = op_none i (op.Write at bytes) xs e
uses_none (call.Cut fd len) i xs e = op_none i (op.Cut len) xs e
uses_none (call.Commit fd) i xs e = op_none i op.Commit xs e
uses_none (call.Abort fd) i xs e = op_none i op.Abort xs e
uses_none (call.Close fd) i xs e = close_none i xs e
uses_none (call.Create path sites) i xs e = false_true e
uses_none (call.MakeDir path) i xs e = false_true e
uses_none (call.Unlink path) i xs e = false_true e
uses_none (call.RemoveDir path) i xs e = false_true e
uses_none (call.Rename path name) i xs e = false_true e
uses_none (call.List path) i xs e = false_true e
uses_none (call.Stat path) i xs e = false_true e
uses_none (call.Mail path bytes) i xs e = false_true e
uses_none (call.Mails path) i xs e = false_true e
uses_none (call.Open path m) i xs e = false_true e
uses_none (call.Mend file) i xs e = false_true e

-- Where no storage holds the group.

packed_stalls : (pk : ℕ → Bool) (w : Want) → stalls (where_packed pk w) ≡ true → stalls w ≡ true
packed_stalls pk (want.Look f w) e = refl
packed_stalls pk (want.Open f m) e = refl
packed_stalls pk (want.OpenToMend f) e = refl
packed_stalls pk (want.Make group k sites) e = refl
packed_stalls pk (want.Do i o) e = e
packed_stalls pk (want.Close i) e = e
packed_stalls pk (want.Give r) e = e
packed_stalls pk want.Never e = e

-- what one of them wins, the other wins too
abbrev Within : (Serial → Bool) → (Serial → Bool) → Type 0
Within v w = (j : Serial) → v j ≡ true → w j ≡ true

abbrev IsPlain : Want → Type 0
IsPlain (want.Close i) = ⊥
IsPlain _ = Unit {0}

abbrev is_no_end : Answer → Bool
is_no_end (answer.Ended s) = false
is_no_end _ = true

fits_plain : (v : Serial → Bool) (x : Want) → IsPlain x → (a : Answer) → fits v x a ≡ is_no_end a
fits_plain v (want.Close i) p a = absurd p
fits_plain v (want.Look f w) p (answer.Ended s) = refl
fits_plain v (want.Look f w) p _ = refl
fits_plain v (want.Open f m) p (answer.Ended s) = refl
fits_plain v (want.Open f m) p _ = refl
fits_plain v (want.OpenToMend f) p (answer.Ended s) = refl
fits_plain v (want.OpenToMend f) p _ = refl
fits_plain v (want.Make group k sites) p (answer.Ended s) = refl
fits_plain v (want.Make group k sites) p _ = refl
fits_plain v (want.Do i o) p (answer.Ended s) = refl
fits_plain v (want.Do i o) p _ = refl
fits_plain v (want.Give r) p (answer.Ended s) = refl
fits_plain v (want.Give r) p _ = refl
fits_plain v want.Never p (answer.Ended s) = refl
fits_plain v want.Never p _ = refl

plain_fits : (v w : Serial → Bool) (x y : Want) → IsPlain x → IsPlain y → (a : Answer) → fits v x a ≡ true → fits w y a ≡ true
plain_fits v w x y p q a e = fits_plain w y q a ∙ (sym (fits_plain v x p a) ∙ e)

packed_fits : (pk : ℕ → Bool) (x : Want) (v w : Serial → Bool) → Within v w → (a : Answer) → fits v (where_packed pk x) a ≡ true → fits w x a ≡ true
packed_fits pk (want.Look f t) v w h a = over (pk f.group)
  where
    over : (b : Bool) → fits v (cond b (want.Look f t) (want.Give (reply.No NoStorage))) a ≡ true → fits w (want.Look f t) a ≡ true
    over true = plain_fits v w (want.Look f t) (want.Look f t) tt tt a
    over false = plain_fits v w (want.Give (reply.No NoStorage)) (want.Look f t) tt tt a
packed_fits pk (want.Open f m) v w h a = over (pk f.group)
  where
    over : (b : Bool) → fits v (cond b (want.Open f m) (want.Give (reply.No NoStorage))) a ≡ true → fits w (want.Open f m) a ≡ true
    over true = plain_fits v w (want.Open f m) (want.Open f m) tt tt a
    over false = plain_fits v w (want.Give (reply.No NoStorage)) (want.Open f m) tt tt a
packed_fits pk (want.OpenToMend f) v w h a = over (pk f.group)
  where
    over : (b : Bool) → fits v (cond b (want.OpenToMend f) (want.Give (reply.No NoStorage))) a ≡ true → fits w (want.OpenToMend f) a ≡ true
    over true = plain_fits v w (want.OpenToMend f) (want.OpenToMend f) tt tt a
    over false = plain_fits v w (want.Give (reply.No NoStorage)) (want.OpenToMend f) tt tt a
packed_fits pk (want.Make group k sites) v w h a = over (pk group)
  where
    over : (b : Bool) → fits v (cond b (want.Make group k sites) (want.Give (reply.No NoStorage))) a ≡ true → fits w (want.Make group k sites) a ≡ true
    over true = plain_fits v w (want.Make group k sites) (want.Make group k sites) tt tt a
    over false = plain_fits v w (want.Give (reply.No NoStorage)) (want.Make group k sites) tt tt a
packed_fits pk (want.Do i o) v w h a = plain_fits v w (want.Do i o) (want.Do i o) tt tt a
packed_fits pk (want.Close i) v w h (answer.Ended None) = λ e. refl
packed_fits pk (want.Close i) v w h (answer.Ended (Some s)) = h i
packed_fits pk (want.Close i) v w h _ = λ e. e
packed_fits pk (want.Give r) v w h a = plain_fits v w (want.Give r) (want.Give r) tt tt a
packed_fits pk want.Never v w h a = plain_fits v w want.Never want.Never tt tt a

mono : (c b d e f : Bool) → (b ≡ true → d ≡ true) → (e ≡ true → f ≡ true) → (not c && (b || e)) ≡ true → (not c && (d || f)) ≡ true
mono true b d e f h k x = x
mono false true d e f h k x = rw (h refl) refl
mono false false true e f h k x = refl
mono false false false e f h k x = k x

packed_within : (pk : ℕ → Bool) (x : Want) (v w : Serial → Bool) → Within v w → (a : Answer) → Within (won_after v (where_packed pk x) a) (won_after w x a)
packed_within pk (want.Look f t) v w h a j = over (pk f.group)
  where
    over : (b : Bool) → won_after v (cond b (want.Look f t) (want.Give (reply.No NoStorage))) a j ≡ true → won_after w (want.Look f t) a j ≡ true
    over true = mono false (v j) (w j) false false (h j) (λ e. e)
    over false = mono false (v j) (w j) false false (h j) (λ e. e)
packed_within pk (want.Open f m) v w h a j = over (pk f.group)
  where
    over : (b : Bool) → won_after v (cond b (want.Open f m) (want.Give (reply.No NoStorage))) a j ≡ true → won_after w (want.Open f m) a j ≡ true
    over true = mono false (v j) (w j) (earns (want.Open f m) a j) (earns (want.Open f m) a j) (h j) (λ e. e)
    over false = mono false (v j) (w j) false (earns (want.Open f m) a j) (h j) (λ e. false_true e)
packed_within pk (want.OpenToMend f) v w h a j = over (pk f.group)
  where
    over : (b : Bool) → won_after v (cond b (want.OpenToMend f) (want.Give (reply.No NoStorage))) a j ≡ true → won_after w (want.OpenToMend f) a j ≡ true
    over true = mono false (v j) (w j) false false (h j) (λ e. e)
    over false = mono false (v j) (w j) false false (h j) (λ e. e)
packed_within pk (want.Make group k sites) v w h a j = over (pk group)
  where
    over : (b : Bool) → won_after v (cond b (want.Make group k sites) (want.Give (reply.No NoStorage))) a j ≡ true → won_after w (want.Make group k sites) a j ≡ true
    over true = mono false (v j) (w j) (earns (want.Make group k sites) a j) (earns (want.Make group k sites) a j) (h j) (λ e. e)
    over false = mono false (v j) (w j) false (earns (want.Make group k sites) a j) (h j) (λ e. false_true e)
packed_within pk (want.Do i o) v w h a j = mono false (v j) (w j) (earns (want.Do i o) a j) (earns (want.Do i o) a j) (h j) (λ e. e)
packed_within pk (want.Close i) v w h a j = mono (same_serial i j) (v j) (w j) false false (h j) (λ e. e)
packed_within pk (want.Give r) v w h a j = mono false (v j) (w j) false false (h j) (λ e. e)
packed_within pk want.Never v w h a j = mono false (v j) (w j) false false (h j) (λ e. e)

packed_fair : (pk : ℕ → Bool) (s : Script) (v w : Serial → Bool) → Within v w → (xs : List Answer) → is_fair v (λ ys. where_packed pk (s ys)) xs ≡ true → is_fair w s xs ≡ true
packed_fair pk s v w h [] f = refl
packed_fair pk s v w h (a ∷ xs) f =
    (let (one, rest) = both_parts (fits v (where_packed pk (s [])) a) _ f in
    rw (packed_fits pk (s []) v w h a one) (packed_fair pk (λ ys. s (a ∷ ys)) (won_after v (where_packed pk (s [])) a) (won_after w (s []) a) (packed_within pk (s []) v w h a) xs rest))

-- Every call.

-- a call that uses one names no path
abbrev pub UsesPlainly : Config → CallSoFar → Type 0
UsesPlainly c k = (e : EpochId) (i : Serial) → k.begins ≡ begins.Uses e i → is_badly_named c.mounts k.words ≡ false

-- A call that its script refuses has made no version of a named file: where its closes are fair, and a call that uses a
-- descriptor names no path.
pub refused_bounds : (c : Config) (p : Past) (k : CallSoFar) → (NotUses k.begins → is_fair none_won (asks_after c p k) k.answers ≡ true) → UsesPlainly c k → stalls (asks c p k) ≡ true → nat_le (versions k.answers) (cond (makes_file k.words) 1 0) ≡ true
refused_bounds c p k fair plain e = over k.begins refl
  where
    pk : ℕ → Bool
    pk = is_packed c p k

    bad : Bool
    bad = is_badly_named c.mounts k.words

    walk_so : (id : CallId) (b : Bool) (xs : List Answer) → Bounds (most k.words) none_won (λ ys. cond b (want.Give (reply.No BadName)) (path_wants c.mounts k.free id k.words ys)) xs
    walk_so id true xs = more (most k.words) none_won (λ ys. want.Give (reply.No BadName)) xs (given_bounds none_won (reply.No BadName) xs)
    walk_so id false xs = path_bounds c.mounts k.free id k.words xs

    again_so : (kept : OneVersion) (last : EpochId) (b : Bool) (xs : List Answer) → Bounds (most k.words) none_won (λ ys. cond b (want.Give (reply.No BadName)) (reopen_wants k.words kept last ys)) xs
    again_so kept last true xs = more (most k.words) none_won (λ ys. want.Give (reply.No BadName)) xs (given_bounds none_won (reply.No BadName) xs)
    again_so kept last false xs = reopen_bounds k.words kept last xs

    given_so : (r : Reply) (b : Bool) (xs : List Answer) → Bounds (most k.words) none_won (λ ys. cond b (want.Give (reply.No BadName)) (want.Give r)) xs
    given_so r true xs = more (most k.words) none_won (λ ys. want.Give (reply.No BadName)) xs (given_bounds none_won (reply.No BadName) xs)
    given_so r false xs = more (most k.words) none_won (λ ys. want.Give r) xs (given_bounds none_won r xs)

    uses_so : (i : Serial) (b : Bool) → b ≡ false → (xs : List Answer) → stalls (cond b (want.Give (reply.No BadName)) (uses_wants k.words i xs)) ≡ true → versions xs ≤ most k.words
    uses_so i true h xs = false_true (sym h)
    uses_so i false h xs = uses_none k.words i xs

    given : (b : Beginning) → k.begins ≡ b → NotUses b → is_fair none_won (λ ys. where_packed pk (named_wants c.mounts k.free k.words b ys)) k.answers ≡ true
    given b h n = subst (λ x. is_fair none_won (λ ys. where_packed pk (named_wants c.mounts k.free k.words x ys)) k.answers ≡ true) h (fair (subst NotUses (sym h) n))

    stalled : (b : Beginning) → k.begins ≡ b → stalls (named_wants c.mounts k.free k.words b k.answers) ≡ true
    stalled b h = packed_stalls pk (named_wants c.mounts k.free k.words b k.answers) (subst (λ x. stalls (where_packed pk (named_wants c.mounts k.free k.words x k.answers)) ≡ true) h e)

    ends : versions k.answers ≤ most k.words → nat_le (versions k.answers) (cond (makes_file k.words) 1 0) ≡ true
    ends le = grind (arith, nat_tests, le)

    over : (b : Beginning) → k.begins ≡ b → nat_le (versions k.answers) (cond (makes_file k.words) 1 0) ≡ true
    over (begins.Walks id) h = ends (walk_so id bad k.answers (packed_fair pk (named_wants c.mounts k.free k.words (begins.Walks id)) none_won none_won (λ j x. x) k.answers (given (begins.Walks id) h tt)) (stalled (begins.Walks id) h))
    over (begins.Reopens kept last) h = ends (again_so kept last bad k.answers (packed_fair pk (named_wants c.mounts k.free k.words (begins.Reopens kept last)) none_won none_won (λ j x. x) k.answers (given (begins.Reopens kept last) h tt)) (stalled (begins.Reopens kept last) h))
    over begins.Frees h = ends (given_so (reply.Closed None) bad k.answers (packed_fair pk (named_wants c.mounts k.free k.words begins.Frees) none_won none_won (λ j x. x) k.answers (given begins.Frees h tt)) (stalled begins.Frees h))
    over (begins.Denied why) h = ends (given_so (reply.No why) bad k.answers (packed_fair pk (named_wants c.mounts k.free k.words (begins.Denied why)) none_won none_won (λ j x. x) k.answers (given (begins.Denied why) h tt)) (stalled (begins.Denied why) h))
    over (begins.Uses at i) h = ends (uses_so i bad (plain at i h) k.answers (stalled (begins.Uses at i) h))
