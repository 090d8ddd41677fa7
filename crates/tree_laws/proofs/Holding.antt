-- A script asks operations and closes of what it has alone, where each open is answered by an instance that it hasn't yet.
use Rattle.std.proofs.Common.{◌≡◌, ℕ, Bool, true, false, not, cond, ◌&&◌, ◌||◌, List, [], ◌∷◌, Option, refl, sym, ◌∙◌, ap, subst}
use Rattle.the_run.proofs.of_plain_facts.Tests.{true_false}
use Rattle.locus_ids.specs.declared.ids.EpochId.{EpochId}
use Rattle.locus_ids.specs.declared.ids.FileId.{FileId}
use Rattle.locus_ids.specs.declared.ids.Kind.{Kind}
use Rattle.locus_ids.specs.declared.ids.Kind.TheVariants as kind
use Rattle.locus_ids.specs.declared.ids.Serial.{Serial}
use Rattle.locus_ids.specs.declared.ids.Stamp.{Stamp}
use Rattle.locus_ids.specs.declared.sites.Sites.{Sites}
use Rattle.locus_ids.specs.declared.refusal.Refusal.{Refusal}
use Rattle.locus_ids.specs.declared.refusal.Refusal.TheVariants as refusal
use Rattle.trace_book.specs.Names.{plain_name}
use Rattle.commit_graph.specs.Versions.{same_stamp}
use Rattle.trace_book.specs.Same.{same_serial}
use Rattle.trace_book.specs.declared.call.Call.{Call}
use Rattle.trace_book.specs.declared.call.Call.TheVariants as call
use Rattle.trace_book.specs.declared.descriptor.OneVersion.{OneVersion}
use Rattle.trace_book.specs.declared.call.OpenMode.TheVariants as how
use Rattle.trace_book.specs.declared.operation.Op.TheVariants as op
use Rattle.trace_book.specs.declared.operation.Outcome.TheVariants as outcome
use Rattle.trace_book.specs.declared.operation.What.TheVariants as what
use Rattle.trace_book.specs.declared.reply.Reply.{Reply}
use Rattle.trace_book.specs.declared.reply.Reply.TheVariants as reply
use Rattle.call_rules.specs.declared.answer.Answer.{Answer}
use Rattle.call_rules.specs.declared.answer.Answer.TheVariants as answer
use Rattle.call_rules.specs.declared.want.Want.{Want}
use Rattle.call_rules.specs.declared.want.Want.TheVariants as want
use Rattle.call_rules.specs.Closing.{Unchanged, closes, gives, give_up, close_all}
use Rattle.call_rules.specs.Making.{after_insert, after_make, fills, after_probe, probes, opens_dir}
use Rattle.call_rules.specs.Mending.{after_mend, brings, mend_wants}
use Rattle.call_rules.specs.Naming.{renames}
use Rattle.call_rules.specs.Opening.{close_wants, reply_to}
use Rattle.call_rules.specs.Reopening.{reads_again, reopened, reopens, reopen_wants}
use Rattle.call_rules.specs.Removing.{removes, empties, opens_target, by_kind, finds}
use Rattle.tree_laws.specs.Holding.{Instances, closed_by, had_after, IsOf}
use Rattle.tree_laws.proofs.Names.{same_serial_eq, same_serial_own}

abbrev pub Script : Type 0
Script = List Answer → Want

-- what an answer opens is none of these
abbrev pub IsNew : Answer → Instances → Type 0
IsNew (answer.Opened i ino) own = own i ≡ false
IsNew (answer.Reading i version) own = own i ≡ false
IsNew (answer.Merging i kept) own = own i ≡ false
IsNew _ own = Unit {0}

-- after these answers the script asks of what it has then
abbrev pub Safe : Script → Instances → List Answer → Type 0
Safe k own [] = IsOf own (k [])
Safe k own (a ∷ xs) = IsNew a own → Safe (λ ys. k (a ∷ ys)) (had_after (k []) a own) xs

abbrev pub Within : Instances → Instances → Type 0
Within own more = (i : Serial) → own i ≡ true → more i ≡ true

-- ---- more is as safe ----

is_of_more : (own more : Instances) (w : Want) → Within own more → IsOf own w → IsOf more w
is_of_more own more (want.Do i o) h k = h i k
is_of_more own more (want.Close i) h k = h i k
is_of_more own more _ h k = tt

not_in : (own more : Instances) (i : Serial) → Within own more → more i ≡ false → own i ≡ false
not_in own more i h k = at (own i) refl
  where
    at : (b : Bool) → own i ≡ b → own i ≡ false
    at true e = absurd (true_false (sym (h i e) ∙ k))
    at false e = e

new_less : (a : Answer) (own more : Instances) → Within own more → IsNew a more → IsNew a own
new_less (answer.Opened i ino) own more h k = not_in own more i h k
new_less (answer.Reading i version) own more h k = not_in own more i h k
new_less (answer.Merging i kept) own more h k = not_in own more i h k
new_less _ own more h k = tt

or_more : (a b d : Bool) → (b ≡ true → d ≡ true) → (a || b) ≡ true → (a || d) ≡ true
or_more true b d h k = refl
or_more false b d h k = h k

and_more : (a b d : Bool) → (b ≡ true → d ≡ true) → (a && b) ≡ true → (a && d) ≡ true
and_more true b d h k = h k
and_more false b d h k = k

closed_more : (w : Want) (own more : Instances) → Within own more → Within (closed_by w own) (closed_by w more)
closed_more (want.Close inst) own more h i k = and_more (not (same_serial inst i)) (own i) (more i) (h i) k
closed_more _ own more h i k = h i k

had_more : (w : Want) (a : Answer) (own more : Instances) → Within own more → Within (had_after w a own) (had_after w a more)
had_more w (answer.Opened inst ino) own more h i k = or_more (same_serial inst i) (own i) (more i) (h i) k
had_more w (answer.Reading inst version) own more h i k = or_more (same_serial inst i) (own i) (more i) (h i) k
had_more w (answer.Merging inst kept) own more h i k = or_more (same_serial inst i) (own i) (more i) (h i) k
had_more w _ own more h i k = closed_more w own more h i k

pub safe_more : (k : Script) (own more : Instances) (xs : List Answer) → Within own more → Safe k own xs → Safe k more xs
safe_more k own more [] h s = is_of_more own more (k []) h s
safe_more k own more (a ∷ xs) h s = λ new. safe_more (λ ys. k (a ∷ ys)) (had_after (k []) a own) (had_after (k []) a more) xs (had_more (k []) a own more h) (s (new_less a own more h new))

-- ---- scripts that ask the same ----

pub safe_same : (k l : Script) (own : Instances) (xs : List Answer) → ((ys : List Answer) → k ys ≡ l ys) → Safe k own xs → Safe l own xs
safe_same k l own [] h s = subst (IsOf own) (h []) s
safe_same k l own (a ∷ xs) h s = λ new. subst (λ (w : Want). Safe (λ ys. l (a ∷ ys)) (had_after w a own) xs) (h []) (safe_same (λ ys. k (a ∷ ys)) (λ ys. l (a ∷ ys)) (had_after (k []) a own) xs (λ ys. h (a ∷ ys)) (s new))

-- ---- scripts that ask nothing of instances any more ----

-- it asks nothing of an instance
abbrev IsFree : Want → Type 0
IsFree w = (own : Instances) → IsOf own w

pub free_safe : (w : Want) (own : Instances) (xs : List Answer) → IsFree w → Safe (λ ys. w) own xs
free_safe w own [] h = h own
free_safe w own (a ∷ xs) h = λ new. free_safe w (had_after w a own) xs h

pub never_safe : (own : Instances) (xs : List Answer) → Safe (λ ys. want.Never) own xs
never_safe own xs = free_safe want.Never own xs (λ more. tt)

pub give_safe : (r : Reply) (own : Instances) (xs : List Answer) → Safe (λ ys. want.Give r) own xs
give_safe r own xs = free_safe (want.Give r) own xs (λ more. tt)

gives_safe : (r : Reply) (own : Instances) (xs : List Answer) → Safe (gives r) own xs
gives_safe r own [] = tt
gives_safe r own (a ∷ xs) = λ new. never_safe (had_after (want.Give r) a own) xs

-- ---- sets of one and of two ----

abbrev pub One : Serial → Instances
One p i = same_serial p i

abbrev Two : Serial → Serial → Instances
Two t p i = same_serial t i || same_serial p i

pub one_own : (p : Serial) → One p p ≡ true
one_own p = same_serial_own p

two_first : (t p : Serial) → Two t p t ≡ true
two_first t p = ap (λ (b : Bool). b || same_serial p t) (same_serial_own t)

two_second : (t p : Serial) → Two t p p ≡ true
two_second t p = over (same_serial t p)
  where
    over : (b : Bool) → (b || same_serial p p) ≡ true
    over true = refl
    over false = same_serial_own p

-- what is left of two after the second is closed, where the first is another
first_left : (t p : Serial) → same_serial p t ≡ false → Within (One t) (λ i. not (same_serial p i) && Two t p i)
first_left t p apart i k = subst (λ (j : Serial). (not (same_serial p j) && Two t p j) ≡ true) is (ap (λ (b : Bool). not b && Two t p t) apart ∙ two_first t p)
  where
    is : t ≡ i
    is = same_serial_eq t i k

-- ---- how a call ends ----

closes_safe : (p : Serial) (next : Script) (own : Instances) (xs : List Answer) → own p ≡ true → ((ys : List Answer) → Safe next (λ i. not (same_serial p i) && own i) ys) → Safe (closes p next) own xs
closes_safe p next own [] h k = h
closes_safe p next own (answer.Ended stamp ∷ xs) h k = λ new. k xs
closes_safe p next own (answer.Refused why ∷ xs) h k = λ new. k xs
closes_safe p next own (a ∷ xs) h k = λ new. never_safe (had_after (want.Close p) a own) xs

-- one is closed
give_up_one : (p : Serial) (why : Refusal) (own : Instances) (xs : List Answer) → own p ≡ true → Safe (give_up (Unchanged p ∷ []) why) own xs
give_up_one p why own xs h = closes_safe p (give_up [] why) own xs h (λ ys. gives_safe (reply.No why) (λ i. not (same_serial p i) && own i) ys)

give_up_two : (p t : Serial) (why : Refusal) (xs : List Answer) → same_serial p t ≡ false → Safe (give_up (Unchanged p ∷ Unchanged t ∷ []) why) (Two t p) xs
give_up_two p t why xs apart = closes_safe p (give_up (Unchanged t ∷ []) why) (Two t p) xs (two_second t p) (λ ys. give_up_one t why (λ i. not (same_serial p i) && Two t p i) ys (first_left t p apart t (one_own t)))

close_one : (p : Serial) (r : Reply) (own : Instances) (xs : List Answer) → own p ≡ true → Safe (close_all (p ∷ []) r) own xs
close_one p r own [] h = h
close_one p r own (answer.Ended stamp ∷ xs) h = λ new. gives_safe r (λ i. not (same_serial p i) && own i) xs
close_one p r own (answer.Refused why ∷ xs) h = λ new. gives_safe (reply.No why) (λ i. not (same_serial p i) && own i) xs
close_one p r own (a ∷ xs) h = λ new. never_safe (had_after (want.Close p) a own) xs

close_two : (p t : Serial) (r : Reply) (xs : List Answer) → same_serial p t ≡ false → Safe (close_all (p ∷ t ∷ []) r) (Two t p) xs
close_two p t r [] apart = two_second t p
close_two p t r (answer.Ended stamp ∷ xs) apart = λ new. close_one t r (λ i. not (same_serial p i) && Two t p i) xs (first_left t p apart t (one_own t))
close_two p t r (answer.Refused why ∷ xs) apart = λ new. closes_safe t (gives (reply.No why)) (λ i. not (same_serial p i) && Two t p i) xs (first_left t p apart t (one_own t)) (λ ys. gives_safe (reply.No why) (λ j. not (same_serial t j) && (not (same_serial p j) && Two t p j)) ys)
close_two p t r (a ∷ xs) apart = λ new. never_safe (had_after (want.Close p) a (Two t p)) xs

-- ---- create and mkdir ----

after_insert_safe : (p : Serial) (name : List ℕ) (k : Kind) (ino : ℕ) (told : Reply) (own : Instances) (xs : List Answer) → own p ≡ true → Safe (after_insert p name k ino told) own xs
after_insert_safe p name k ino told own [] h = h
after_insert_safe p name k ino told own (answer.Did o ∷ xs) h = λ new. close_one p told own xs h
after_insert_safe p name k ino told own (answer.Refused why ∷ xs) h = λ new. give_up_one p why own xs h
after_insert_safe p name k ino told own (a ∷ xs) h = λ new. never_safe (had_after (want.Do p (op.Insert name ino k)) a own) xs

other_left : (made p : Serial) → same_serial p made ≡ false → (not (same_serial made p) && Two made p p) ≡ true
other_left made p apart = over (same_serial made p) refl
  where
    over : (b : Bool) → same_serial made p ≡ b → (not b && Two made p p) ≡ true
    over true e = absurd (true_false (sym (subst (λ (j : Serial). same_serial p j ≡ true) (sym (same_serial_eq made p e)) (same_serial_own p)) ∙ apart))
    over false e = two_second made p

after_make_safe : (p : Serial) (name : List ℕ) (k : Kind) (made : Serial) (ino : ℕ) (told : Reply) (xs : List Answer) → same_serial p made ≡ false → Safe (after_make p name k made ino told) (Two made p) xs
after_make_safe p name k made ino told [] apart = two_first made p
after_make_safe p name k made ino told (answer.Ended stamp ∷ xs) apart = λ new. after_insert_safe p name k ino told (λ i. not (same_serial made i) && Two made p i) xs (other_left made p apart)
after_make_safe p name k made ino told (answer.Refused why ∷ xs) apart = λ new. give_up_one p why (λ i. not (same_serial made i) && Two made p i) xs (other_left made p apart)
after_make_safe p name k made ino told (a ∷ xs) apart = λ new. never_safe (had_after (want.Close made) a (Two made p)) xs

give_up_made : (p made : Serial) (why : Refusal) (xs : List Answer) → same_serial p made ≡ false → Safe (give_up (Unchanged made ∷ Unchanged p ∷ []) why) (Two made p) xs
give_up_made p made why xs apart = closes_safe made (give_up (Unchanged p ∷ []) why) (Two made p) xs (two_first made p) (λ ys. give_up_one p why (λ i. not (same_serial made i) && Two made p i) ys (other_left made p apart))

fills_safe : (p : Serial) (name : List ℕ) (k : Kind) (bytes : List ℕ) (made : Serial) (ino : ℕ) (told : Reply) (xs : List Answer) → same_serial p made ≡ false → Safe (fills p name k bytes made ino told) (Two made p) xs
fills_safe p name k [] made ino told xs apart = after_make_safe p name k made ino told xs apart
fills_safe p name k (b ∷ bs) made ino told [] apart = two_first made p
fills_safe p name k (b ∷ bs) made ino told (answer.Did o ∷ xs) apart = λ new. after_make_safe p name k made ino told xs apart
fills_safe p name k (b ∷ bs) made ino told (answer.Refused why ∷ xs) apart = λ new. give_up_made p made why xs apart
fills_safe p name k (b ∷ bs) made ino told (a ∷ xs) apart = λ new. never_safe (had_after (want.Do made (op.Write 0 (b ∷ bs))) a (Two made p)) xs

after_probe_safe : (p : Serial) (group : ℕ) (name : List ℕ) (k : Kind) (sites : Option Sites) (bytes : List ℕ) (tells : ℕ → Reply) (xs : List Answer) → Safe (after_probe p group name k sites bytes tells) (One p) xs
after_probe_safe p group name k sites bytes tells [] = tt
after_probe_safe p group name k sites bytes tells (answer.Opened made ino ∷ xs) = λ new. fills_safe p name k bytes made ino (tells ino) xs new
after_probe_safe p group name k sites bytes tells (answer.Refused why ∷ xs) = λ new. give_up_one p why (One p) xs (one_own p)
after_probe_safe p group name k sites bytes tells (a ∷ xs) = λ new. never_safe (had_after (want.Make group k sites) a (One p)) xs

pub probes_safe : (p : Serial) (group : ℕ) (name : List ℕ) (k : Kind) (sites : Option Sites) (bytes : List ℕ) (tells : ℕ → Reply) (xs : List Answer) → Safe (probes p group name k sites bytes tells) (One p) xs
probes_safe p group name k sites bytes tells [] = one_own p
probes_safe p group name k sites bytes tells (answer.Did o ∷ xs) = λ new. after_probe_safe p group name k sites bytes tells xs
probes_safe p group name k sites bytes tells (answer.Refused why ∷ xs) = λ new. give_up_one p why (One p) xs (one_own p)
probes_safe p group name k sites bytes tells (a ∷ xs) = λ new. never_safe (had_after (want.Do p (op.Probe name)) a (One p)) xs

pub opens_dir_safe : (reached : List ℕ) (next : Serial → Script) (dir : FileId) (k : Kind) (own : Instances) (xs : List Answer) → ((p : Serial) (ys : List Answer) → Safe (next p) (One p) ys) → Safe (opens_dir reached next dir k) own xs
opens_dir_safe reached next dir kind.File own xs h = give_safe (reply.No (refusal.NotDir reached)) own xs
opens_dir_safe reached next dir kind.Dir own [] h = tt
opens_dir_safe reached next dir kind.Dir own (answer.Opened p ino ∷ xs) h = λ new. safe_more (next p) (One p) (λ i. same_serial p i || own i) xs (λ i e. ap (λ (b : Bool). b || own i) e) (h p xs)
opens_dir_safe reached next dir kind.Dir own (answer.Refused why ∷ xs) h = λ new. give_safe (reply.No why) own xs
opens_dir_safe reached next dir kind.Dir own (a ∷ xs) h = λ new. never_safe (had_after (want.Open dir how.Write) a own) xs

-- ---- unlink and rmdir ----

removes_safe : (p t : Serial) (name : List ℕ) (ino : ℕ) (xs : List Answer) → same_serial p t ≡ false → Safe (removes p t name ino) (Two t p) xs
removes_safe p t name ino [] apart = two_second t p
removes_safe p t name ino (answer.Did o ∷ xs) apart = λ new. close_two p t reply.Done xs apart
removes_safe p t name ino (answer.Refused why ∷ xs) apart = λ new. give_up_two p t why xs apart
removes_safe p t name ino (a ∷ xs) apart = λ new. never_safe (had_after (want.Do p (op.Remove name ino)) a (Two t p)) xs

empties_safe : (k : Kind) (p t : Serial) (name : List ℕ) (ino : ℕ) (xs : List Answer) → same_serial p t ≡ false → Safe (empties k p t name ino) (Two t p) xs
empties_safe kind.File p t name ino xs apart = removes_safe p t name ino xs apart
empties_safe kind.Dir p t name ino [] apart = two_first t p
empties_safe kind.Dir p t name ino (answer.Did o ∷ xs) apart = λ new. removes_safe p t name ino xs apart
empties_safe kind.Dir p t name ino (answer.Refused why ∷ xs) apart = λ new. give_up_two p t why xs apart
empties_safe kind.Dir p t name ino (a ∷ xs) apart = λ new. never_safe (had_after (want.Do t op.Empty) a (Two t p)) xs

opens_target_safe : (k : Kind) (p : Serial) (group : ℕ) (name : List ℕ) (ino : ℕ) (xs : List Answer) → Safe (opens_target k p group name ino) (One p) xs
opens_target_safe k p group name ino [] = tt
opens_target_safe k p group name ino (answer.Opened t found ∷ xs) = λ new. empties_safe k p t name ino xs new
opens_target_safe k p group name ino (answer.Refused why ∷ xs) = λ new. give_up_one p why (One p) xs (one_own p)
opens_target_safe k p group name ino (a ∷ xs) = λ new. never_safe (had_after (want.Open (record { group = group; ino = ino }) how.Write) a (One p)) xs

by_kind_safe : (k found : Kind) (p : Serial) (group : ℕ) (component : List ℕ) (ino : ℕ) (xs : List Answer) → Safe (by_kind k found p group component ino) (One p) xs
by_kind_safe kind.File kind.File p group component ino xs = opens_target_safe kind.File p group (plain_name component) ino xs
by_kind_safe kind.Dir kind.Dir p group component ino xs = opens_target_safe kind.Dir p group (plain_name component) ino xs
by_kind_safe kind.File kind.Dir p group component ino xs = give_up_one p _ (One p) xs (one_own p)
by_kind_safe kind.Dir kind.File p group component ino xs = give_up_one p _ (One p) xs (one_own p)

pub finds_safe : (k : Kind) (p : Serial) (group : ℕ) (component : List ℕ) (xs : List Answer) → Safe (finds k p group component) (One p) xs
finds_safe k p group component [] = one_own p
finds_safe k p group component (answer.Did (outcome.Found ino found) ∷ xs) = λ new. by_kind_safe k found p group component ino xs
finds_safe k p group component (answer.Refused why ∷ xs) = λ new. give_up_one p why (One p) xs (one_own p)
finds_safe k p group component (a ∷ xs) = λ new. never_safe (had_after (want.Do p (op.Find component)) a (One p)) xs

-- ---- rename ----

pub renames_safe : (p : Serial) (component name : List ℕ) (xs : List Answer) → Safe (renames p component name) (One p) xs
renames_safe p component name [] = one_own p
renames_safe p component name (answer.Did o ∷ xs) = λ new. close_one p reply.Done (One p) xs (one_own p)
renames_safe p component name (answer.Refused why ∷ xs) = λ new. give_up_one p why (One p) xs (one_own p)
renames_safe p component name (a ∷ xs) = λ new. never_safe (had_after (want.Do p (op.Rename component name)) a (One p)) xs

pub close_safe : (p : Serial) (own : Instances) (xs : List Answer) → own p ≡ true → Safe (close_wants p) own xs
close_safe p own [] h = h
close_safe p own (answer.Ended stamp ∷ []) h = λ new. tt
close_safe p own (answer.Ended stamp ∷ (a ∷ xs)) h = λ new fresh. never_safe (had_after (want.Give (reply.Closed stamp)) a (λ i. not (same_serial p i) && own i)) xs
close_safe p own (answer.Refused why ∷ []) h = λ new. tt
close_safe p own (answer.Refused why ∷ (a ∷ xs)) h = λ new fresh. never_safe (had_after (want.Give (reply.No why)) a (λ i. not (same_serial p i) && own i)) xs
close_safe p own (a ∷ xs) h = λ new. never_safe (had_after (want.Close p) a own) xs

-- ---- a read that opens a version again ----

reads_again_safe : (p : Serial) (at len : ℕ) (own : Instances) (xs : List Answer) → own p ≡ true → Safe (reads_again p at len) own xs
reads_again_safe p at len own [] h = h
reads_again_safe p at len own (answer.Did result ∷ []) h = λ new. tt
reads_again_safe p at len own (answer.Did result ∷ (a ∷ xs)) h = λ new fresh. never_safe (had_after (want.Give (reply_to result)) a own) xs
reads_again_safe p at len own (answer.Refused why ∷ xs) h = λ new. give_up_one p why own xs h
reads_again_safe p at len own (a ∷ xs) h = λ new. never_safe (had_after (want.Do p (op.Read at len)) a own) xs

reopened_safe : (kept : OneVersion) (last : EpochId) (at len : ℕ) (p : Serial) (granted : OneVersion) (own : Instances) (xs : List Answer) → own p ≡ true → Safe (reopened kept last at len p granted) own xs
reopened_safe kept last at len p granted own xs h = over (same_stamp granted.stamp kept.stamp)
  where
    over : (b : Bool) → Safe (λ ys. cond b (reads_again p at len ys) (give_up (Unchanged p ∷ []) (refusal.Stale last) ys)) own xs
    over true = reads_again_safe p at len own xs h
    over false = give_up_one p (refusal.Stale last) own xs h

reopens_safe : (kept : OneVersion) (last : EpochId) (at len : ℕ) (own : Instances) (xs : List Answer) → Safe (reopens kept last at len) own xs
reopens_safe kept last at len own [] = tt
reopens_safe kept last at len own (answer.Reading p granted ∷ xs) = λ new. reopened_safe kept last at len p granted (λ i. same_serial p i || own i) xs (ap (λ (b : Bool). b || own p) (same_serial_own p))
reopens_safe kept last at len own (answer.Refused why ∷ []) = λ new. tt
reopens_safe kept last at len own (answer.Refused why ∷ (a ∷ xs)) = λ new fresh. never_safe (had_after (want.Give (reply.No why)) a own) xs
reopens_safe kept last at len own (a ∷ xs) = λ new. never_safe (had_after (want.Open kept.file how.Read) a own) xs

pub reopen_safe : (words : Call) (kept : OneVersion) (last : EpochId) (own : Instances) (xs : List Answer) → Safe (reopen_wants words kept last) own xs
reopen_safe (call.Read fd at len) kept last own xs = reopens_safe kept last at len own xs
reopen_safe _ kept last own xs = never_safe own xs

-- ---- mend ----

after_mend_safe : (p : Serial) (own : Instances) (xs : List Answer) → own p ≡ true → Safe (after_mend p) own xs
after_mend_safe p own [] h = h
after_mend_safe p own (answer.Did o ∷ xs) h = λ new. close_safe p own xs h
after_mend_safe p own (answer.Refused why ∷ xs) h = λ new. give_up_one p why own xs h
after_mend_safe p own (a ∷ xs) h = λ new. never_safe (had_after (want.Do p op.Mend) a own) xs

brings_safe : (p : Serial) (file : FileId) (stamps : List Stamp) (own : Instances) (xs : List Answer) → own p ≡ true → Safe (brings p file stamps) own xs
brings_safe p file [] own xs h = after_mend_safe p own xs h
brings_safe p file (s ∷ stamps) own [] h = tt
brings_safe p file (s ∷ stamps) own (answer.Brought ∷ xs) h = λ new. brings_safe p file stamps own xs h
brings_safe p file (s ∷ stamps) own (answer.Refused why ∷ xs) h = λ new. give_up_one p why own xs h
brings_safe p file (s ∷ stamps) own (a ∷ xs) h = λ new. never_safe (had_after (want.Look file (what.Whole s)) a own) xs

pub mend_safe : (file : FileId) (own : Instances) (xs : List Answer) → Safe (mend_wants file) own xs
mend_safe file own [] = tt
mend_safe file own (answer.Merging p kept ∷ xs) = λ new. brings_safe p file kept (λ i. same_serial p i || own i) xs (ap (λ (b : Bool). b || own p) (same_serial_own p))
mend_safe file own (answer.Refused why ∷ []) = λ new. tt
mend_safe file own (answer.Refused why ∷ (a ∷ xs)) = λ new fresh. never_safe (had_after (want.Give (reply.No why)) a own) xs
mend_safe file own (a ∷ xs) = λ new. never_safe (had_after (want.OpenToMend file) a own) xs
