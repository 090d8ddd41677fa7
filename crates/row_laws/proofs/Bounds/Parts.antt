-- How many requests each part of a script makes at most.
use Rattle.std.proofs.Common.{ℕ, ◌+◌, ◌≤◌, Bool, true, false, cond, List, [], ◌∷◌, length, Option, Some, arith}
use Rattle.locus_ids.specs.declared.ids.EpochId.{EpochId}
use Rattle.locus_ids.specs.declared.ids.FileId.{FileId}
use Rattle.locus_ids.specs.declared.ids.Serial.{Serial}
use Rattle.locus_ids.specs.declared.ids.Kind.{Kind}
use Rattle.locus_ids.specs.declared.ids.Kind.TheVariants.{File, Dir}
use Rattle.locus_ids.specs.declared.sites.Sites.{Sites}
use Rattle.locus_ids.specs.declared.config.Mount.{Mount}
use Rattle.locus_ids.specs.declared.refusal.Refusal.{Refusal}
use Rattle.locus_ids.specs.declared.refusal.Refusal.TheVariants.{NotDir, IsDir, Stale}
use Rattle.commit_graph.specs.Versions.{same_stamp}
use Rattle.trace_book.specs.Names.{plain_name}
use Rattle.trace_book.specs.declared.call.OpenMode.{OpenMode}
use Rattle.trace_book.specs.declared.descriptor.OneVersion.{OneVersion}
use Rattle.trace_book.specs.declared.operation.Op.{Op}
use Rattle.trace_book.specs.declared.operation.Outcome.TheVariants as outcome
use Rattle.trace_book.specs.declared.reply.Reply.{Reply}
use Rattle.trace_book.specs.declared.reply.Reply.TheVariants as reply
use Rattle.call_rules.specs.declared.answer.Answer.{Answer}
use Rattle.call_rules.specs.declared.answer.Answer.TheVariants.{Showed, Described, Opened, Reading, Did, Ended, Refused}
use Rattle.call_rules.specs.declared.want.Want.{Want}
use Rattle.call_rules.specs.declared.want.Want.TheVariants as want
use Rattle.call_rules.specs.Closing.{Unchanged, closes, gives, give_up, close_all}
use Rattle.call_rules.specs.Making.{after_insert, after_make, fills, after_probe, probes}
use Rattle.call_rules.specs.Naming.{renames}
use Rattle.call_rules.specs.Opening.{opens_file, lists, describes, op_wants, close_wants, Shows}
use Rattle.call_rules.specs.Removing.{removes, empties, opens_target, by_kind, finds}
use Rattle.call_rules.specs.Reopening.{reads_again, reopened, reopens}

-- ---- parts of scripts ----

-- what is wanted after so many answers is a request among the first ones, and not that of a mend, or no request
abbrev pub Within : ℕ → ℕ → Want → Type 0
Within n k (want.Give r) = Unit {0}
Within n k want.Never = Unit {0}
Within n k (want.OpenToMend file) = ⊥
Within n k _ = k + 1 ≤ n

-- it makes so many requests at most
abbrev pub AtMost : ℕ → (List Answer → Want) → Type 0
AtMost n f = (answers : List Answer) → Within n (length answers) (f answers)

-- among more, or after fewer answers
pub lift : (n m k l : ℕ) (w : Want) → n + l ≤ m + k → Within n k w → Within m l w
lift n m k l (want.Look file what) le h = omega (arith, le, h)
lift n m k l (want.Open file mode) le h = omega (arith, le, h)
lift n m k l (want.OpenToMend file) le h = h
lift n m k l (want.Make group kind sites) le h = omega (arith, le, h)
lift n m k l (want.Do i o) le h = omega (arith, le, h)
lift n m k l (want.Close i) le h = omega (arith, le, h)
lift n m k l (want.Give r) le h = tt
lift n m k l want.Never le h = tt

pub more : (n : ℕ) (f : List Answer → Want) (a : Answer) (rest : List Answer) → AtMost n f → Within (n + 1) (length (a ∷ rest)) (f rest)
more n f a rest h = lift n (n + 1) (length rest) (length (a ∷ rest)) (f rest) (omega arith) (h rest)

-- one more answer, of many more
pub further : (n m : ℕ) (f : List Answer → Want) (a : Answer) (rest : List Answer) → n + 1 ≤ m → AtMost n f → Within m (length (a ∷ rest)) (f rest)
further n m f a rest le h = lift n m (length rest) (length (a ∷ rest)) (f rest) (omega (arith, le)) (h rest)

pub gives_most : (r : Reply) → AtMost 0 (gives r)
gives_most r [] = tt
gives_most r (a ∷ rest) = tt

pub closes_most : (n : ℕ) (i : Serial) (next : List Answer → Want) → AtMost n next → AtMost (n + 1) (closes i next)
closes_most n i next h [] = omega arith
closes_most n i next h (Ended stamp ∷ rest) = more n next (Ended stamp) rest h
closes_most n i next h (Refused why ∷ rest) = more n next (Refused why) rest h
closes_most n i next h (_ ∷ rest) = tt

pub one_up : (p : Serial) (why : Refusal) → AtMost 1 (give_up (Unchanged p ∷ []) why)
one_up p why = closes_most 0 p (give_up [] why) (gives_most (reply.No why))

pub two_up : (p t : Serial) (why : Refusal) → AtMost 2 (give_up (Unchanged p ∷ Unchanged t ∷ []) why)
two_up p t why = closes_most 1 p (give_up (Unchanged t ∷ []) why) (one_up t why)

-- after a close that was refused the others are closed
pub one_closed : (i : Serial) (r : Reply) → AtMost 1 (close_all (i ∷ []) r)
one_closed i r [] = omega arith
one_closed i r (Ended stamp ∷ rest) = more 0 (gives r) (Ended stamp) rest (gives_most r)
one_closed i r (Refused why ∷ rest) = more 0 (gives (reply.No why)) (Refused why) rest (gives_most (reply.No why))
one_closed i r (_ ∷ rest) = tt

pub two_closed : (i j : Serial) (r : Reply) → AtMost 2 (close_all (i ∷ j ∷ []) r)
two_closed i j r [] = omega arith
two_closed i j r (Ended stamp ∷ rest) = more 1 (close_all (j ∷ []) r) (Ended stamp) rest (one_closed j r)
two_closed i j r (Refused why ∷ rest) = more 1 (closes j (gives (reply.No why))) (Refused why) rest (closes_most 0 j (gives (reply.No why)) (gives_most (reply.No why)))
two_closed i j r (_ ∷ rest) = tt

-- ---- create and mkdir ----

pub insert_most : (p : Serial) (name : List ℕ) (kind : Kind) (ino : ℕ) (told : Reply) → AtMost 2 (after_insert p name kind ino told)
insert_most p name kind ino told [] = omega arith
insert_most p name kind ino told (Did o ∷ rest) = more 1 (close_all (p ∷ []) told) (Did o) rest (one_closed p told)
insert_most p name kind ino told (Refused why ∷ rest) = more 1 (give_up (Unchanged p ∷ []) why) (Refused why) rest (one_up p why)
insert_most p name kind ino told (_ ∷ rest) = tt

pub make_most : (p : Serial) (name : List ℕ) (kind : Kind) (made : Serial) (ino : ℕ) (told : Reply) → AtMost 3 (after_make p name kind made ino told)
make_most p name kind made ino told [] = omega arith
make_most p name kind made ino told (Ended stamp ∷ rest) = more 2 (after_insert p name kind ino told) (Ended stamp) rest (insert_most p name kind ino told)
make_most p name kind made ino told (Refused why ∷ rest) = further 1 3 (give_up (Unchanged p ∷ []) why) (Refused why) rest (omega arith) (one_up p why)
make_most p name kind made ino told (_ ∷ rest) = tt

-- a file that begins with some bytes takes one request more
abbrev pub writes : List ℕ → ℕ
writes [] = 0
writes (b ∷ bs) = 1

pub writes_once : (bytes : List ℕ) → writes bytes ≤ 1
writes_once [] = omega arith
writes_once (b ∷ bs) = omega arith

pub fills_most : (p : Serial) (name : List ℕ) (kind : Kind) (bytes : List ℕ) (made : Serial) (ino : ℕ) (told : Reply) → AtMost (3 + writes bytes) (fills p name kind bytes made ino told)
fills_most p name kind [] made ino told answers = make_most p name kind made ino told answers
fills_most p name kind (b ∷ bs) made ino told [] = omega arith
fills_most p name kind (b ∷ bs) made ino told (Did o ∷ rest) = more 3 (after_make p name kind made ino told) (Did o) rest (make_most p name kind made ino told)
fills_most p name kind (b ∷ bs) made ino told (Refused why ∷ rest) = further 2 4 (give_up (Unchanged made ∷ Unchanged p ∷ []) why) (Refused why) rest (omega arith) (two_up made p why)
fills_most p name kind (b ∷ bs) made ino told (_ ∷ rest) = tt

pub probe_most : (p : Serial) (group : ℕ) (name : List ℕ) (kind : Kind) (sites : Option Sites) (bytes : List ℕ) (tells : ℕ → Reply) → AtMost (4 + writes bytes) (after_probe p group name kind sites bytes tells)
probe_most p group name kind sites bytes tells [] = omega arith
probe_most p group name kind sites bytes tells (Opened made ino ∷ rest) = further (3 + writes bytes) (4 + writes bytes) (fills p name kind bytes made ino (tells ino)) (Opened made ino) rest (omega arith) (fills_most p name kind bytes made ino (tells ino))
probe_most p group name kind sites bytes tells (Refused why ∷ rest) = further 1 (4 + writes bytes) (give_up (Unchanged p ∷ []) why) (Refused why) rest (omega arith) (one_up p why)
probe_most p group name kind sites bytes tells (_ ∷ rest) = tt

pub probes_most : (p : Serial) (group : ℕ) (name : List ℕ) (kind : Kind) (sites : Option Sites) (bytes : List ℕ) (tells : ℕ → Reply) → AtMost (5 + writes bytes) (probes p group name kind sites bytes tells)
probes_most p group name kind sites bytes tells [] = omega arith
probes_most p group name kind sites bytes tells (Did o ∷ rest) = further (4 + writes bytes) (5 + writes bytes) (after_probe p group name kind sites bytes tells) (Did o) rest (omega arith) (probe_most p group name kind sites bytes tells)
probes_most p group name kind sites bytes tells (Refused why ∷ rest) = further 1 (5 + writes bytes) (give_up (Unchanged p ∷ []) why) (Refused why) rest (omega arith) (one_up p why)
probes_most p group name kind sites bytes tells (_ ∷ rest) = tt

-- ---- unlink and rmdir ----

pub removes_most : (p t : Serial) (name : List ℕ) (ino : ℕ) → AtMost 3 (removes p t name ino)
removes_most p t name ino [] = omega arith
removes_most p t name ino (Did o ∷ rest) = more 2 (close_all (p ∷ t ∷ []) reply.Done) (Did o) rest (two_closed p t reply.Done)
removes_most p t name ino (Refused why ∷ rest) = more 2 (give_up (Unchanged p ∷ Unchanged t ∷ []) why) (Refused why) rest (two_up p t why)
removes_most p t name ino (_ ∷ rest) = tt

pub empties_most : (kind : Kind) (p t : Serial) (name : List ℕ) (ino : ℕ) → AtMost 4 (empties kind p t name ino)
empties_most File p t name ino answers = lift 3 4 (length answers) (length answers) (removes p t name ino answers) (omega arith) (removes_most p t name ino answers)
empties_most Dir p t name ino [] = omega arith
empties_most Dir p t name ino (Did o ∷ rest) = more 3 (removes p t name ino) (Did o) rest (removes_most p t name ino)
empties_most Dir p t name ino (Refused why ∷ rest) = further 2 4 (give_up (Unchanged p ∷ Unchanged t ∷ []) why) (Refused why) rest (omega arith) (two_up p t why)
empties_most Dir p t name ino (_ ∷ rest) = tt

pub target_most : (kind : Kind) (p : Serial) (group : ℕ) (name : List ℕ) (ino : ℕ) → AtMost 5 (opens_target kind p group name ino)
target_most kind p group name ino [] = omega arith
target_most kind p group name ino (Opened t found ∷ rest) = more 4 (empties kind p t name ino) (Opened t found) rest (empties_most kind p t name ino)
target_most kind p group name ino (Refused why ∷ rest) = further 1 5 (give_up (Unchanged p ∷ []) why) (Refused why) rest (omega arith) (one_up p why)
target_most kind p group name ino (_ ∷ rest) = tt

pub kind_most : (asked found : Kind) (p : Serial) (group : ℕ) (component : List ℕ) (ino : ℕ) → AtMost 5 (by_kind asked found p group component ino)
kind_most File File p group component ino answers = target_most File p group (plain_name component) ino answers
kind_most Dir Dir p group component ino answers = target_most Dir p group (plain_name component) ino answers
kind_most File Dir p group component ino answers = lift 1 5 (length answers) (length answers) (give_up (Unchanged p ∷ []) IsDir answers) (omega arith) (one_up p IsDir answers)
kind_most Dir File p group component ino answers = lift 1 5 (length answers) (length answers) (give_up (Unchanged p ∷ []) (NotDir component) answers) (omega arith) (one_up p (NotDir component) answers)

pub finds_most : (kind : Kind) (p : Serial) (group : ℕ) (component : List ℕ) → AtMost 6 (finds kind p group component)
finds_most kind p group component [] = omega arith
finds_most kind p group component (Did (outcome.Found ino found) ∷ rest) = more 5 (by_kind kind found p group component ino) (Did (outcome.Found ino found)) rest (kind_most kind found p group component ino)
finds_most kind p group component (Refused why ∷ rest) = further 1 6 (give_up (Unchanged p ∷ []) why) (Refused why) rest (omega arith) (one_up p why)
finds_most kind p group component (_ ∷ rest) = tt

-- ---- rename ----

pub renames_most : (p : Serial) (component name : List ℕ) → AtMost 2 (renames p component name)
renames_most p component name [] = omega arith
renames_most p component name (Did o ∷ rest) = more 1 (close_all (p ∷ []) reply.Done) (Did o) rest (one_closed p reply.Done)
renames_most p component name (Refused why ∷ rest) = more 1 (give_up (Unchanged p ∷ []) why) (Refused why) rest (one_up p why)
renames_most p component name (_ ∷ rest) = tt

-- ---- calls of one request ----

pub lists_most : (shows : Shows) (reached : List ℕ) (at : FileId) (kind : Kind) → AtMost 1 (lists shows reached at kind)
lists_most shows reached at File answers = tt
lists_most shows reached at Dir [] = omega arith
lists_most shows reached at Dir (Showed names ∷ []) = tt
lists_most shows reached at Dir (Refused why ∷ []) = tt
lists_most shows reached at Dir (_ ∷ rest) = tt

pub describes_most : (at : FileId) (kind : Kind) → AtMost 1 (describes at kind)
describes_most at kind [] = omega arith
describes_most at kind (Described k size stamp ∷ []) = tt
describes_most at kind (Refused why ∷ []) = tt
describes_most at kind (_ ∷ rest) = tt

pub opens_most : (mode : OpenMode) (free : Option ℕ) (file : FileId) (kind : Kind) → AtMost 1 (opens_file mode free file kind)
opens_most mode free file Dir answers = tt
opens_most mode free file File [] = omega arith
opens_most mode (Some fd) file File (Opened i ino ∷ []) = tt
opens_most mode (Some fd) file File (Reading i version ∷ []) = tt
opens_most mode free file File (Refused why ∷ []) = tt
opens_most mode free file File (_ ∷ rest) = tt

pub op_most : (i : Serial) (o : Op) → AtMost 1 (op_wants i o)
op_most i o [] = omega arith
op_most i o (Did result ∷ []) = tt
op_most i o (Refused why ∷ []) = tt
op_most i o (_ ∷ rest) = tt

pub close_most : (i : Serial) → AtMost 1 (close_wants i)
close_most i [] = omega arith
close_most i (Ended stamp ∷ []) = tt
close_most i (Refused why ∷ []) = tt
close_most i (_ ∷ rest) = tt

-- ---- a version is opened again ----

reads_again_most : (i : Serial) (at len : ℕ) → AtMost 2 (reads_again i at len)
reads_again_most i at len [] = omega arith
reads_again_most i at len (Did result ∷ []) = tt
reads_again_most i at len (Refused why ∷ rest) = more 1 (give_up (Unchanged i ∷ []) why) (Refused why) rest (one_up i why)
reads_again_most i at len (_ ∷ rest) = tt

reopened_most : (kept : OneVersion) (last : EpochId) (at len : ℕ) (i : Serial) (granted : OneVersion) → AtMost 2 (reopened kept last at len i granted)
reopened_most kept last at len i granted answers = over (same_stamp granted.stamp kept.stamp)
  where
    over : (b : Bool) → Within 2 (length answers) (cond b (reads_again i at len answers) (give_up (Unchanged i ∷ []) (Stale last) answers))
    over true = reads_again_most i at len answers
    over false = lift 1 2 (length answers) (length answers) (give_up (Unchanged i ∷ []) (Stale last) answers) (omega arith) (one_up i (Stale last) answers)

pub reopens_most : (kept : OneVersion) (last : EpochId) (at len : ℕ) → AtMost 3 (reopens kept last at len)
reopens_most kept last at len [] = omega arith
reopens_most kept last at len (Reading i granted ∷ rest) = more 2 (reopened kept last at len i granted) (Reading i granted) rest (reopened_most kept last at len i granted)
reopens_most kept last at len (Refused why ∷ []) = tt
reopens_most kept last at len (_ ∷ rest) = tt
