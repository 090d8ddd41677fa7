-- Each script ends: a call makes no more requests than its path has components and six, and a mail one more.
use Rattle.std.proofs.Common.{◌≡◌, ℕ, suc, ◌+◌, ◌≤◌, nat_lt, Bool, true, false, cond, not, ◌&&◌, List, [], ◌∷◌, length, Option, Some, None, refl, arith}
use Rattle.std.proofs.lemmas.Bool.Decides.{nat_tests}
use Rattle.role_steps.proofs.of_plain_facts.Tests.{and_first, and_second, not_false}
use Rattle.locus_ids.specs.declared.ids.CallId.{CallId}
use Rattle.locus_ids.specs.declared.ids.EpochId.{EpochId}
use Rattle.locus_ids.specs.declared.ids.FileId.{FileId}
use Rattle.locus_ids.specs.declared.ids.Serial.{Serial}
use Rattle.locus_ids.specs.declared.ids.Stamp.{Stamp}
use Rattle.locus_ids.specs.declared.ids.Kind.{Kind}
use Rattle.locus_ids.specs.declared.ids.Kind.TheVariants.{File, Dir}
use Rattle.locus_ids.specs.declared.config.Mount.{Mount}
use Rattle.locus_ids.specs.declared.refusal.Refusal.TheVariants.{BadName, NoStorage}
use Rattle.trace_book.specs.Messages.{message_name}
use Rattle.trace_book.specs.Names.{components, but_last, last_of}
use Rattle.trace_book.specs.declared.call.Call.{Call}
use Rattle.trace_book.specs.declared.call.Call.TheVariants as call
use Rattle.trace_book.specs.declared.descriptor.Beginning.{Beginning}
use Rattle.trace_book.specs.declared.descriptor.OneVersion.{OneVersion}
use Rattle.trace_book.specs.declared.descriptor.Beginning.TheVariants.{Denied, Uses, Walks, Reopens, Frees}
use Rattle.trace_book.specs.declared.reply.Reply.TheVariants as reply
use Rattle.call_rules.specs.declared.answer.Answer.{Answer}
use Rattle.call_rules.specs.declared.answer.Answer.TheVariants.{Entered, Brought, Opened, Merging, Did, Refused}
use Rattle.call_rules.specs.declared.want.Want.{Want}
use Rattle.call_rules.specs.declared.want.Want.TheVariants as want
use Rattle.call_rules.specs.Closing.{Unchanged, give_up}
use Rattle.call_rules.specs.Mailing.{shown_messages, tells_name}
use Rattle.call_rules.specs.Making.{opens_dir, changes_dir}
use Rattle.call_rules.specs.Mending.{after_mend, brings, mend_wants}
use Rattle.call_rules.specs.Opening.{describes, close_wants, uses_wants, shown_in}
use Rattle.call_rules.specs.Paths.{is_path}
use Rattle.call_rules.specs.Reopening.{reopen_wants}
use Rattle.call_rules.specs.Scripts.{path_wants, begun_wants, named_wants, where_packed, wants}
use Rattle.call_rules.specs.Walks.{Walked, Asks, Fails, There, Strays, root_of, mounted_in, passes, walk, walked}
use Rattle.call_rules.specs.Words.{names_entry, names_new, is_badly_named}
use Rattle.row_laws.specs.Bounds.Requests.{most_requests, is_mend, IsRequest}
use Rattle.row_laws.proofs.Bounds.Parts.{lift, more, one_up, probes_most, finds_most, renames_most, lists_most, describes_most, opens_most, op_most, close_most, reopens_most, writes, writes_once, Within, AtMost}

-- ---- walks ----

-- a walk along so many components, after these answers: what it asks for is one of them, and each answer that isn't left is of one
abbrev WalkFits : List Answer → ℕ → Walked → Type 0
WalkFits answers n (Asks dir c) = length answers + 1 ≤ n
WalkFits answers n (There at kind rest) = length answers ≤ n + length rest
WalkFits answers n _ = Unit {0}

-- one component more, and one answer more or none
fits_further : (answers shorter : List Answer) (n : ℕ) (w : Walked) → length answers ≤ length shorter + 1 → WalkFits shorter n w → WalkFits answers (suc n) w
fits_further answers shorter n (Asks dir c) le h = omega (arith, le, h)
fits_further answers shorter n (There at kind rest) le h = omega (arith, le, h)
fits_further answers shorter n (Fails why) le h = tt
fits_further answers shorter n Strays le h = tt

walk_fits : (mounts : List Mount) (cs : List (List ℕ)) (reached : List ℕ) (at : FileId) (kind : Kind) (answers : List Answer) → WalkFits answers (length cs) (walk mounts cs reached at kind answers)
walk_fits mounts [] reached at kind answers = omega arith
walk_fits mounts (c ∷ cs) reached at File answers = tt
walk_fits mounts (c ∷ cs) reached at Dir answers = passes_fits (λ f k. walk_fits mounts cs c f k) (mounted_in mounts at c) answers
  where
    passes_fits : ((f : FileId) (k : Kind) (rest : List Answer) → WalkFits rest (length cs) (walk mounts cs c f k rest)) → (o : Option ℕ) (answers : List Answer) → WalkFits answers (suc (length cs)) (passes (walk mounts cs c) at c o answers)
    passes_fits h (Some group) answers = fits_further answers answers (length cs) (walk mounts cs c (root_of group) Dir answers) (omega arith) (h (root_of group) Dir answers)
    passes_fits h None [] = omega arith
    passes_fits h None (Entered ino kind ∷ rest) = fits_further (Entered ino kind ∷ rest) rest (length cs) (walk mounts cs c (record { group = at.group; ino = ino }) kind rest) (omega arith) (h (record { group = at.group; ino = ino }) kind rest)
    passes_fits h None (Refused why ∷ rest) = tt
    passes_fits h None (_ ∷ rest) = tt

walked_most : (n : ℕ) (mounts : List Mount) (path : List (List ℕ)) (after : FileId → Kind → List Answer → Want) → ((at : FileId) (kind : Kind) → AtMost n (after at kind)) → AtMost (length path + n) (λ answers. walked mounts path answers after)
walked_most n mounts path after h answers = by_walk (walk mounts path [] (root_of 0) Dir answers) refl (walk_fits mounts path [] (root_of 0) Dir answers)
  where
    by_walk : (w : Walked) → walk mounts path [] (root_of 0) Dir answers ≡ w → WalkFits answers (length path) (walk mounts path [] (root_of 0) Dir answers) → Within (length path + n) (length answers) (walked mounts path answers after)
    by_walk (Asks dir c) e = rw e (λ f. omega (arith, f))
    by_walk (Fails why) e = rw e (λ f. tt)
    by_walk (There at kind rest) e = rw e (λ f. lift n (length path + n) (length rest) (length answers) (after at kind rest) (omega (arith, f)) (h at kind rest))
    by_walk Strays e = rw e (λ f. tt)

-- ---- changes of a directory ----

dir_most : (n : ℕ) (reached : List ℕ) (next : Serial → List Answer → Want) → ((p : Serial) → AtMost n (next p)) → (dir : FileId) (kind : Kind) → AtMost (n + 1) (opens_dir reached next dir kind)
dir_most n reached next h dir File answers = tt
dir_most n reached next h dir Dir [] = omega arith
dir_most n reached next h dir Dir (Opened p ino ∷ rest) = more n (next p) (Opened p ino) rest (h p)
dir_most n reached next h dir Dir (Refused why ∷ rest) = tt
dir_most n reached next h dir Dir (_ ∷ rest) = tt

change_most : (n : ℕ) (mounts : List Mount) (path : List ℕ) (next : ℕ → Serial → List Answer → Want) → ((group : ℕ) (p : Serial) → AtMost n (next group p)) → AtMost (length (but_last (components path)) + (n + 1)) (changes_dir mounts path next)
change_most n mounts path next h = walked_most (n + 1) mounts (but_last (components path)) _ (λ dir kind. dir_most n (last_of (but_last (components path))) (next dir.group) (h dir.group) dir kind)

-- ---- the calls ----

one_less : {X : Type 0} (xs : List X) → 1 ≤ length xs → length (but_last xs) + 1 ≡ length xs
one_less [] h = absurd (omega (arith, h))
one_less (x ∷ []) h = refl
one_less (x ∷ y ∷ ys) h = (let e : length (but_last (y ∷ ys)) + 1 ≡ length (y ∷ ys) = one_less (y ∷ ys) (omega arith) in omega (arith, e))

is_some : (n : ℕ) → nat_lt 0 n ≡ true → 1 ≤ n
is_some n h = grind (arith, nat_tests)

some_component : (mounts : List Mount) (path : List ℕ) → names_entry mounts path ≡ true → 1 ≤ length (components path)
some_component mounts path h = is_some (length (components path)) (and_first (nat_lt 0 (length (components path))) _ (and_second (is_path path) _ h))

-- a path whose last component may be an entry's has one; the directory is reached by all but that one
entry_most : (n : ℕ) (mounts : List Mount) (path : List ℕ) (f : List Answer → Want) → names_entry mounts path ≡ true → n ≤ 6 → AtMost (length (but_last (components path)) + (n + 1)) f → AtMost (length (components path) + 6) f
entry_most n mounts path f h le g answers =
    let e : length (but_last (components path)) + 1 ≡ length (components path) = one_less (components path) (some_component mounts path h) in
    lift (length (but_last (components path)) + (n + 1)) (length (components path) + 6) (length answers) (length answers) (f answers) (omega (arith, e, le)) (g answers)

new_entry : (mounts : List Mount) (path : List ℕ) → not (names_new mounts path) ≡ false → names_entry mounts path ≡ true
new_entry mounts path h = and_first (names_entry mounts path) _ (not_false (names_new mounts path) h)

renamed_entry : (mounts : List Mount) (path : List ℕ) (b : Bool) → not (names_entry mounts path && b) ≡ false → names_entry mounts path ≡ true
renamed_entry mounts path b h = and_first (names_entry mounts path) b (not_false (names_entry mounts path && b) h)

-- one request after the walk
single_most : (n : ℕ) (f : List Answer → Want) → AtMost (n + 1) f → AtMost (n + 6) f
single_most n f h answers = lift (n + 1) (n + 6) (length answers) (length answers) (f answers) (omega arith) (h answers)

path_most : (mounts : List Mount) (free : Option ℕ) (id : CallId) (words : Call) → is_mend words ≡ false → is_badly_named mounts words ≡ false → AtMost (most_requests words) (path_wants mounts free id words)
path_most mounts free id (call.Create path sites) usual named = entry_most 5 mounts path _ (new_entry mounts path named) (omega arith) (change_most 5 mounts path _ (λ group p. probes_most p group (last_of (components path)) File sites [] reply.Made))
path_most mounts free id (call.MakeDir path) usual named = entry_most 5 mounts path _ (new_entry mounts path named) (omega arith) (change_most 5 mounts path _ (λ group p. probes_most p group (last_of (components path)) Dir None [] reply.Made))
path_most mounts free id (call.Unlink path) usual named = entry_most 6 mounts path _ (not_false (names_entry mounts path) named) (omega arith) (change_most 6 mounts path _ (λ group p. finds_most File p group (last_of (components path))))
path_most mounts free id (call.RemoveDir path) usual named = entry_most 6 mounts path _ (not_false (names_entry mounts path) named) (omega arith) (change_most 6 mounts path _ (λ group p. finds_most Dir p group (last_of (components path))))
path_most mounts free id (call.Rename path name) usual named = entry_most 2 mounts path _ (renamed_entry mounts path _ named) (omega arith) (change_most 2 mounts path _ (λ group p. renames_most p (last_of (components path)) name))
path_most mounts free id (call.List path) usual named = single_most (length (components path)) _ (walked_most 1 mounts (components path) _ (lists_most (shown_in mounts) (last_of (components path))))
path_most mounts free id (call.Stat path) usual named = single_most (length (components path)) _ (walked_most 1 mounts (components path) describes describes_most)
path_most mounts free id (call.Mail path bytes) usual named = walked_most 7 mounts (components path) _ (λ dir kind answers. lift (5 + writes bytes + 1) 7 (length answers) (length answers) _ (let e : writes bytes ≤ 1 = writes_once bytes in omega (arith, e))
    (dir_most (5 + writes bytes) (last_of (components path)) _ (λ p. probes_most p dir.group (message_name id) File None bytes (tells_name (message_name id))) dir kind answers))
path_most mounts free id (call.Mails path) usual named = single_most (length (components path)) _ (walked_most 1 mounts (components path) _ (lists_most shown_messages (last_of (components path))))
path_most mounts free id (call.Open path mode) usual named = single_most (length (components path)) _ (walked_most 1 mounts (components path) _ (opens_most mode free))
path_most mounts free id (call.Mend file) usual named = absurd (cc)
path_most mounts free id _ usual named = λ answers. tt

uses_most : (words : Call) (i : Serial) → AtMost 1 (uses_wants words i)
uses_most (call.Read fd at len) i answers = op_most i _ answers
uses_most (call.Write fd at bytes) i answers = op_most i _ answers
uses_most (call.Cut fd len) i answers = op_most i _ answers
uses_most (call.Commit fd) i answers = op_most i _ answers
uses_most (call.Abort fd) i answers = op_most i _ answers
uses_most (call.Close fd) i answers = close_most i answers
uses_most _ i answers = tt

reopen_most : (words : Call) (kept : OneVersion) (last : EpochId) → AtMost 3 (reopen_wants words kept last)
reopen_most (call.Read fd at len) kept last answers = reopens_most kept last at len answers
reopen_most _ kept last answers = tt

-- three requests are within the bound of each call
within_walk : (words : Call) (k : ℕ) → 3 + k ≤ most_requests words + k
within_walk (call.Mail path bytes) k = omega arith
within_walk _ k = omega arith

begun_most : (mounts : List Mount) (free : Option ℕ) (words : Call) (begins : Beginning) → is_mend words ≡ false → is_badly_named mounts words ≡ false → AtMost (most_requests words) (begun_wants mounts free words begins)
begun_most mounts free words (Denied why) usual named answers = tt
begun_most mounts free words (Uses epoch inst) usual named answers = lift 1 (most_requests words) (length answers) (length answers) (uses_wants words inst answers) (let h : 3 + length answers ≤ most_requests words + length answers = within_walk words (length answers) in omega (arith, h)) (uses_most words inst answers)
begun_most mounts free words (Walks id) usual named answers = path_most mounts free id words usual named answers
begun_most mounts free words (Reopens kept last) usual named answers = lift 3 (most_requests words) (length answers) (length answers) (reopen_wants words kept last answers) (within_walk words (length answers)) (reopen_most words kept last answers)
begun_most mounts free words Frees usual named answers = tt

named_most : (mounts : List Mount) (free : Option ℕ) (words : Call) (begins : Beginning) → is_mend words ≡ false → AtMost (most_requests words) (named_wants mounts free words begins)
named_most mounts free words begins usual answers =
    (elim (is_badly_named mounts words) as (λ b. is_badly_named mounts words ≡ b → Within (most_requests words) (length answers) (cond b (want.Give (reply.No BadName)) (begun_wants mounts free words begins answers))) [
      | true ↦ λ e. tt
      | false ↦ λ e. begun_most mounts free words begins usual e answers
    ]) refl

-- where nobody packs the group, nothing is asked
packed_within : (is_packed : ℕ → Bool) (n k : ℕ) (w : Want) → Within n k w → Within n k (where_packed is_packed w)
packed_within is_packed n k w h = over w h
  where
    by_test : (b : Bool) (y : Want) → Within n k y → Within n k (cond b y (want.Give (reply.No NoStorage)))
    by_test true y g = g
    by_test false y g = tt

    over : (y : Want) → Within n k y → Within n k (where_packed is_packed y)
    over (want.Look file what) g = by_test (is_packed file.group) (want.Look file what) g
    over (want.Open file mode) g = by_test (is_packed file.group) (want.Open file mode) g
    over (want.OpenToMend file) g = absurd g
    over (want.Make group kind sites) g = by_test (is_packed group) (want.Make group kind sites) g
    over (want.Do i o) g = g
    over (want.Close i) g = g
    over (want.Give r) g = g
    over want.Never g = g

scripts_within : (mounts : List Mount) (is_packed : ℕ → Bool) (free : Option ℕ) (words : Call) (begins : Beginning) → is_mend words ≡ false → AtMost (most_requests words) (wants mounts is_packed free words begins)
scripts_within mounts is_packed free words begins usual answers = packed_within is_packed (most_requests words) (length answers) (named_wants mounts free words begins answers) (named_most mounts free words begins usual answers)

request_within : (n k : ℕ) (w : Want) → Within n k w → IsRequest w → k + 1 ≤ n
request_within n k (want.Look file what) h q = h
request_within n k (want.Open file mode) h q = h
request_within n k (want.OpenToMend file) h q = absurd h
request_within n k (want.Make group kind sites) h q = h
request_within n k (want.Do i o) h q = h
request_within n k (want.Close i) h q = h
request_within n k (want.Give r) h q = absurd q
request_within n k want.Never h q = absurd q

pub scripts_end : (mounts : List Mount) (is_packed : ℕ → Bool) (free : Option ℕ) (words : Call) (begins : Beginning) (answers : List Answer) →
    is_mend words ≡ false → IsRequest (wants mounts is_packed free words begins answers) → length answers + 1 ≤ most_requests words
scripts_end mounts is_packed free words begins answers usual q = request_within (most_requests words) (length answers) (wants mounts is_packed free words begins answers) (scripts_within mounts is_packed free words begins usual answers) q

-- ---- mends ----

-- it asks no open to mend
abbrev pub OpensNoMend : Want → Type 0
OpensNoMend (want.OpenToMend file) = ⊥
OpensNoMend _ = Unit {0}

within_no_mend : (n k : ℕ) (w : Want) → Within n k w → OpensNoMend w
within_no_mend n k (want.OpenToMend file) h = h
within_no_mend n k _ h = tt

mend_most : (i : Serial) (answers : List Answer) → OpensNoMend (after_mend i answers)
mend_most i [] = tt
mend_most i (Did o ∷ rest) = within_no_mend 1 (length rest) (close_wants i rest) (close_most i rest)
mend_most i (Refused why ∷ rest) = within_no_mend 1 (length rest) (give_up (Unchanged i ∷ []) why rest) (one_up i why rest)
mend_most i (_ ∷ rest) = tt

brings_most : (i : Serial) (file : FileId) (stamps : List Stamp) (answers : List Answer) → OpensNoMend (brings i file stamps answers)
brings_most i file [] answers = mend_most i answers
brings_most i file (stamp ∷ stamps) [] = tt
brings_most i file (stamp ∷ stamps) (Brought ∷ rest) = brings_most i file stamps rest
brings_most i file (stamp ∷ stamps) (Refused why ∷ rest) = within_no_mend 1 (length rest) (give_up (Unchanged i ∷ []) why rest) (one_up i why rest)
brings_most i file (stamp ∷ stamps) (_ ∷ rest) = tt

mend_wants_most : (file : FileId) (a : Answer) (rest : List Answer) → OpensNoMend (mend_wants file (a ∷ rest))
mend_wants_most file (Merging i kept) rest = brings_most i file kept rest
mend_wants_most file (Refused why) [] = tt
mend_wants_most file (Refused why) (b ∷ rest) = tt
mend_wants_most file _ rest = tt

packed_no_mend : (is_packed : ℕ → Bool) (w : Want) → OpensNoMend w → OpensNoMend (where_packed is_packed w)
packed_no_mend is_packed w h = over w h
  where
    by_test : (b : Bool) (y : Want) → OpensNoMend y → OpensNoMend (cond b y (want.Give (reply.No NoStorage)))
    by_test true y g = g
    by_test false y g = tt

    over : (y : Want) → OpensNoMend y → OpensNoMend (where_packed is_packed y)
    over (want.Look file what) g = by_test (is_packed file.group) (want.Look file what) g
    over (want.Open file mode) g = by_test (is_packed file.group) (want.Open file mode) g
    over (want.OpenToMend file) g = absurd g
    over (want.Make group kind sites) g = by_test (is_packed group) (want.Make group kind sites) g
    over (want.Do i o) g = g
    over (want.Close i) g = g
    over (want.Give r) g = g
    over want.Never g = g

mend_later : (mounts : List Mount) (is_packed : ℕ → Bool) (free : Option ℕ) (file : FileId) (begins : Beginning) (a : Answer) (rest : List Answer) → OpensNoMend (wants mounts is_packed free (call.Mend file) begins (a ∷ rest))
mend_later mounts is_packed free file (Denied why) a rest = tt
mend_later mounts is_packed free file (Uses epoch inst) a rest = tt
mend_later mounts is_packed free file (Reopens kept last) a rest = tt
mend_later mounts is_packed free file Frees a rest = tt
mend_later mounts is_packed free file (Walks id) a rest = packed_no_mend is_packed (mend_wants file (a ∷ rest)) (mend_wants_most file a rest)

-- only the first request of a call opens a directory to mend it
pub opened_first : (mounts : List Mount) (is_packed : ℕ → Bool) (free : Option ℕ) (words : Call) (begins : Beginning) (a : Answer) (rest : List Answer) → OpensNoMend (wants mounts is_packed free words begins (a ∷ rest))
opened_first mounts is_packed free (call.Mend file) begins a rest = mend_later mounts is_packed free file begins a rest
opened_first mounts is_packed free words begins a rest = within_no_mend (most_requests words) (length (a ∷ rest)) (wants mounts is_packed free words begins (a ∷ rest)) (scripts_within mounts is_packed free words begins refl (a ∷ rest))
