-- What is so of each want that a script may come to is so of what the call asks.
use Rattle.std.proofs.Common.{◌≡◌, ℕ, Bool, true, false, cond, List, [], ◌∷◌, ◌++◌, Option, Some, None, refl, sym, ◌∙◌, ap, subst}
use Rattle.role_steps.proofs.of_plain_facts.Options.{some_same}
use Rattle.role_steps.proofs.of_plain_facts.Tests.{true_false}
use Rattle.locus_ids.specs.declared.config.Config.{Config}
use Rattle.locus_ids.specs.declared.config.Mount.{Mount}
use Rattle.locus_ids.specs.declared.ids.CallId.{CallId}
use Rattle.locus_ids.specs.declared.ids.EpochId.{EpochId}
use Rattle.locus_ids.specs.declared.ids.FileId.{FileId}
use Rattle.locus_ids.specs.declared.ids.Kind.{Kind}
use Rattle.locus_ids.specs.declared.ids.Kind.TheVariants as kind
use Rattle.locus_ids.specs.declared.ids.Serial.{Serial}
use Rattle.locus_ids.specs.declared.refusal.Refusal.{Refusal}
use Rattle.locus_ids.specs.declared.refusal.Refusal.TheVariants as refusal
use Rattle.commit_graph.specs.Versions.{same_stamp}
use Rattle.trace_book.specs.Names.{components}
use Rattle.trace_book.specs.declared.call.Call.{Call}
use Rattle.trace_book.specs.declared.call.Call.TheVariants as call
use Rattle.trace_book.specs.declared.call.OpenMode.{OpenMode}
use Rattle.trace_book.specs.declared.descriptor.Beginning.{Beginning}
use Rattle.trace_book.specs.declared.descriptor.Beginning.TheVariants as begins
use Rattle.trace_book.specs.declared.descriptor.Descriptor.{Descriptor}
use Rattle.trace_book.specs.declared.descriptor.OneVersion.{OneVersion}
use Rattle.trace_book.specs.declared.operation.Op.{Op}
use Rattle.trace_book.specs.declared.operation.Op.TheVariants as op
use Rattle.trace_book.specs.declared.operation.What.{What}
use Rattle.trace_book.specs.declared.reply.Reply.{Reply}
use Rattle.trace_book.specs.declared.reply.Reply.TheVariants as reply
use Rattle.call_rules.specs.declared.answer.Answer.{Answer}
use Rattle.call_rules.specs.declared.answer.Answer.TheVariants as answer
use Rattle.call_rules.specs.declared.want.Want.{Want}
use Rattle.call_rules.specs.declared.want.Want.TheVariants as want
use Rattle.call_rules.specs.Descriptors.{beginning, begins_open, begins_walk, lowest_free}
use Rattle.call_rules.specs.Closing.{Unchanged, give_up}
use Rattle.call_rules.specs.Opening.{op_wants, opens_file, uses_wants}
use Rattle.call_rules.specs.Reopening.{reads_again, reopens}
use Rattle.call_rules.specs.Scripts.{begun_wants, wants, where_packed}
use Rattle.call_rules.specs.Walks.{Asks, Fails, root_of, Strays, There, walk, Walked, walked}
use Rattle.call_rules.specs.Words.{is_badly_named}
use Rattle.the_run.specs.Worlds.{Line}
use Rattle.tree_model.specs.declared.accepted.Waiting.{Waiting}
use Rattle.tree_model.specs.Calls.{call_named}
use Rattle.lawful_trace.specs.Progress.{is_packed_in}
use Rattle.lawful_trace.specs.Tables.{begun, is_close}
use Rattle.tree_laws.specs.Printed.{entries}
use Rattle.tree_laws.specs.Calls.{log, script, script_as}
use Rattle.tree_laws.specs.Serials.{asked_now, is_op_on}
use Rattle.tree_laws.proofs.Names.{same_serial_own}

-- the script of an accepted call, by its words and where it began
pub script_is : (c : Config) (t : List Line) (d : CallId) (w : Waiting) (b : Beginning) (free : Option ℕ) (xs : List Answer) → call_named (entries t) d ≡ Some w → begun (entries t) d ≡ Some b → script c (entries t) d free xs ≡ wants c.mounts (is_packed_in c (entries t) w.epoch) free w.words b xs
script_is c t d w b free xs named starts = ap (λ (o : Option Waiting). script_as c (entries t) o (begun (entries t) d) free xs) named ∙ ap (λ (o : Option Beginning). script_as c (entries t) (Some w) o free xs) starts

-- ---- of each want ----

module _ (P : Want → Type 0) (gives : (r : Reply) → P (want.Give r)) where
  packed_so : (pk : ℕ → Bool) (w : Want) → P w → P (where_packed pk w)
  packed_so pk w k = over w k
    where
      by_test : (b : Bool) (y : Want) → P y → P (cond b y (want.Give (reply.No refusal.NoStorage)))
      by_test true y k = k
      by_test false y k = gives (reply.No refusal.NoStorage)

      over : (y : Want) → P y → P (where_packed pk y)
      over (want.Look f w) k = by_test (pk f.group) (want.Look f w) k
      over (want.Open f m) k = by_test (pk f.group) (want.Open f m) k
      over (want.OpenToMend f) k = by_test (pk f.group) (want.OpenToMend f) k
      over (want.Make g kind sites) k = by_test (pk g) (want.Make g kind sites) k
      over (want.Do i o) k = k
      over (want.Close i) k = k
      over (want.Give r) k = k
      over want.Never k = k

  wants_so : (mounts : List Mount) (pk : ℕ → Bool) (free : Option ℕ) (words : Call) (b : Beginning) (xs : List Answer) → P (begun_wants mounts free words b xs) → P (wants mounts pk free words b xs)
  wants_so mounts pk free words b xs k = packed_so pk _ (over (is_badly_named mounts words))
    where
      over : (x : Bool) → P (cond x (want.Give (reply.No refusal.BadName)) (begun_wants mounts free words b xs))
      over true = gives (reply.No refusal.BadName)
      over false = k

  -- what an accepted call asks
  pub asked_so : P want.Never → (c : Config) (t : List Line) (d : CallId) → ((w : Waiting) (b : Beginning) → call_named (entries t) d ≡ Some w → begun (entries t) d ≡ Some b → P (begun_wants c.mounts None w.words b (log t d))) → P (asked_now c t d)
  asked_so never c t d each = over (call_named (entries t) d) (begun (entries t) d) refl refl
    where
      over : (o : Option Waiting) (b : Option Beginning) → call_named (entries t) d ≡ o → begun (entries t) d ≡ b → P (script_as c (entries t) o b None (log t d))
      over None b p q = never
      over (Some w) None p q = never
      over (Some w) (Some s) p q = wants_so c.mounts (is_packed_in c (entries t) w.epoch) None w.words s (log t d) (each w s p q)

  -- what a walk comes to
  pub walked_so : P want.Never → ((f : FileId) (w : What) → P (want.Look f w)) → (mounts : List Mount) (path : List (List ℕ)) (xs : List Answer) (after : FileId → Kind → List Answer → Want) → ((f : FileId) (k : Kind) (ys : List Answer) → P (after f k ys)) → P (walked mounts path xs after)
  walked_so never looks mounts path xs after each = over (walk mounts path [] (root_of 0) kind.Dir xs) refl
    where
      over : (w : Walked) → walk mounts path [] (root_of 0) kind.Dir xs ≡ w → P (walked mounts path xs after)
      over (Asks dir name) e = rw e (looks _ _)
      over (Fails why) e = rw e (gives _)
      over (There f k rest) e = rw e (each f k rest)
      over Strays e = rw e never

-- ---- no operation ----

-- it asks no operation
abbrev pub AsksNoOp : Want → Type 0
AsksNoOp (want.Do i o) = ⊥
AsksNoOp _ = Unit {0}

opens_no_op : (how : OpenMode) (free : Option ℕ) (f : FileId) (k : Kind) (ys : List Answer) → AsksNoOp (opens_file how free f k ys)
opens_no_op how free f kind.Dir ys = tt
opens_no_op how free f kind.File [] = tt
opens_no_op how (Some fd) f kind.File (answer.Opened i ino ∷ []) = tt
opens_no_op how (Some fd) f kind.File (answer.Opened i ino ∷ (a ∷ xs)) = tt
opens_no_op how (Some fd) f kind.File (answer.Reading i version ∷ []) = tt
opens_no_op how (Some fd) f kind.File (answer.Reading i version ∷ (a ∷ xs)) = tt
opens_no_op how (Some fd) f kind.File (answer.Refused why ∷ []) = tt
opens_no_op how (Some fd) f kind.File (answer.Refused why ∷ (a ∷ xs)) = tt
opens_no_op how (Some fd) f kind.File (_ ∷ xs) = tt
opens_no_op how None f kind.File (answer.Refused why ∷ []) = tt
opens_no_op how None f kind.File (answer.Refused why ∷ (a ∷ xs)) = tt
opens_no_op how None f kind.File (_ ∷ xs) = tt

-- an open asks no operation
pub opener_no_op : (c : Config) (t : List Line) (d : CallId) (w : Waiting) (path : List ℕ) (how : OpenMode) → call_named (entries t) d ≡ Some w → w.words ≡ call.Open path how → AsksNoOp (asked_now c t d)
opener_no_op c t d w path how named words = asked_so AsksNoOp (λ r. tt) tt c t d (λ v b at starts. subst (λ (z : Waiting). AsksNoOp (begun_wants c.mounts None z.words b (log t d))) (some_same w v (sym named ∙ at)) (subst (λ (z : Call). AsksNoOp (begun_wants c.mounts None z b (log t d))) (sym words) (over b)))
  where
    over : (b : Beginning) → AsksNoOp (begun_wants c.mounts None (call.Open path how) b (log t d))
    over (begins.Denied why) = tt
    over (begins.Uses e i) = tt
    over (begins.Reopens kept last) = tt
    over begins.Frees = tt
    over (begins.Walks id) = walked_so AsksNoOp (λ r. tt) tt (λ f v. tt) c.mounts (components path) (log t d) (opens_file how None) (λ f k ys. opens_no_op how None f k ys)

op_no_more : (i : Serial) (o : Op) (a : Answer) (xs : List Answer) → AsksNoOp (op_wants i o (a ∷ xs))
op_no_more i o (answer.Did result) [] = tt
op_no_more i o (answer.Did result) (a ∷ xs) = tt
op_no_more i o (answer.Refused why) [] = tt
op_no_more i o (answer.Refused why) (a ∷ xs) = tt
op_no_more i o _ xs = tt

uses_no_more : (words : Call) (i : Serial) (a : Answer) (xs : List Answer) → AsksNoOp (uses_wants words i (a ∷ xs))
uses_no_more (call.Read fd at len) i a xs = op_no_more i (op.Read at len) a xs
uses_no_more (call.Write fd at bytes) i a xs = op_no_more i (op.Write at bytes) a xs
uses_no_more (call.Cut fd len) i a xs = op_no_more i (op.Cut len) a xs
uses_no_more (call.Commit fd) i a xs = op_no_more i op.Commit a xs
uses_no_more (call.Abort fd) i a xs = op_no_more i op.Abort a xs
uses_no_more (call.Close fd) i (answer.Ended stamp) [] = tt
uses_no_more (call.Close fd) i (answer.Ended stamp) (a ∷ xs) = tt
uses_no_more (call.Close fd) i (answer.Refused why) [] = tt
uses_no_more (call.Close fd) i (answer.Refused why) (a ∷ xs) = tt
uses_no_more (call.Close fd) i _ xs = tt
uses_no_more _ i a xs = tt

-- a call on a descriptor that has taken an answer asks no operation
pub user_no_more : (c : Config) (t : List Line) (d : CallId) (e : EpochId) (i : Serial) (a : Answer) (xs : List Answer) → begun (entries t) d ≡ Some (begins.Uses e i) → log t d ≡ xs ++ a ∷ [] → AsksNoOp (asked_now c t d)
user_no_more c t d e i a xs starts taken = asked_so AsksNoOp (λ r. tt) tt c t d (λ w b named at. subst (λ (z : Beginning). AsksNoOp (begun_wants c.mounts None w.words z (log t d))) (some_same (begins.Uses e i) b (sym starts ∙ at)) (subst (λ (ys : List Answer). AsksNoOp (uses_wants w.words i ys)) (sym taken) (over w.words xs)))
  where
    over : (words : Call) (ys : List Answer) → AsksNoOp (uses_wants words i (ys ++ a ∷ []))
    over words [] = uses_no_more words i a []
    over words (y ∷ ys) = uses_no_more words i y (ys ++ a ∷ [])

-- ---- a use asks its operation at once ----

walks_use : (id : CallId) (now : Option EpochId) (e : EpochId) (i : Serial) → begins_walk now id ≡ begins.Uses e i → ⊥
walks_use id None e i k = cc
walks_use id (Some at) e i k = cc

opens_use : (id : CallId) (now : Option EpochId) (free : Option ℕ) (e : EpochId) (i : Serial) → begins_open now id free ≡ begins.Uses e i → ⊥
opens_use id now None e i k = cc
opens_use id now (Some fd) e i k = walks_use id now e i k

-- where a call that is no close begins at an instance, it asks an operation of it
pub use_asks : (mounts : List Mount) (pk : ℕ → Bool) (table : ℕ → Option Descriptor) (now : Option EpochId) (id : CallId) (words : Call) (e : EpochId) (i : Serial) → beginning table now id words ≡ begins.Uses e i → is_close words ≡ false → is_op_on i (wants mounts pk None words (begins.Uses e i) []) ≡ true
use_asks mounts pk table now id (call.Read fd at len) e i k plain = same_serial_own i
use_asks mounts pk table now id (call.Write fd at bytes) e i k plain = same_serial_own i
use_asks mounts pk table now id (call.Cut fd len) e i k plain = same_serial_own i
use_asks mounts pk table now id (call.Commit fd) e i k plain = same_serial_own i
use_asks mounts pk table now id (call.Abort fd) e i k plain = same_serial_own i
use_asks mounts pk table now id (call.Close fd) e i k plain = absurd (true_false plain)
use_asks mounts pk table now id (call.Open path how) e i k plain = absurd (opens_use id now (lowest_free table) e i k)
use_asks mounts pk table now id (call.Create path sites) e i k plain = absurd (walks_use id now e i k)
use_asks mounts pk table now id (call.MakeDir path) e i k plain = absurd (walks_use id now e i k)
use_asks mounts pk table now id (call.Unlink path) e i k plain = absurd (walks_use id now e i k)
use_asks mounts pk table now id (call.RemoveDir path) e i k plain = absurd (walks_use id now e i k)
use_asks mounts pk table now id (call.Rename path name) e i k plain = absurd (walks_use id now e i k)
use_asks mounts pk table now id (call.List path) e i k plain = absurd (walks_use id now e i k)
use_asks mounts pk table now id (call.Stat path) e i k plain = absurd (walks_use id now e i k)
use_asks mounts pk table now id (call.Mail path bytes) e i k plain = absurd (walks_use id now e i k)
use_asks mounts pk table now id (call.Mails path) e i k plain = absurd (walks_use id now e i k)
use_asks mounts pk table now id (call.Mend file) e i k plain = absurd (walks_use id now e i k)

-- ---- a read that opens a version again asks one operation, once it has its instance ----

give_up_no_op : (i : Serial) (why : Refusal) (xs : List Answer) → AsksNoOp (give_up (Unchanged i ∷ []) why xs)
give_up_no_op i why [] = tt
give_up_no_op i why (answer.Ended stamp ∷ []) = tt
give_up_no_op i why (answer.Ended stamp ∷ (a ∷ xs)) = tt
give_up_no_op i why (answer.Refused reason ∷ []) = tt
give_up_no_op i why (answer.Refused reason ∷ (a ∷ xs)) = tt
give_up_no_op i why (_ ∷ xs) = tt

read_no_more : (i : Serial) (at len : ℕ) (a : Answer) (xs : List Answer) → AsksNoOp (reads_again i at len (a ∷ xs))
read_no_more i at len (answer.Did result) [] = tt
read_no_more i at len (answer.Did result) (a ∷ xs) = tt
read_no_more i at len (answer.Refused why) xs = give_up_no_op i why xs
read_no_more i at len _ xs = tt

module _ (c : Config) (t : List Line) (d : CallId) (w : Waiting) (fd at len : ℕ) (kept : OneVersion) (last : EpochId) (named : call_named (entries t) d ≡ Some w) (words : w.words ≡ call.Read fd at len) (starts : begun (entries t) d ≡ Some (begins.Reopens kept last)) where
  again_so : (P : Want → Type 0) → ((r : Reply) → P (want.Give r)) → P want.Never → P (reopens kept last at len (log t d)) → P (asked_now c t d)
  again_so P gives never k = asked_so P gives never c t d (λ v b called began. subst (λ (z : Waiting). P (begun_wants c.mounts None z.words b (log t d))) (some_same w v (sym named ∙ called))
      (subst (λ (y : Call). P (begun_wants c.mounts None y b (log t d))) (sym words) (subst (λ (z : Beginning). P (begun_wants c.mounts None (call.Read fd at len) z (log t d))) (some_same (begins.Reopens kept last) b (sym starts ∙ began)) k)))

  -- before it has it, it asks none
  pub first_no_op : log t d ≡ [] → AsksNoOp (asked_now c t d)
  first_no_op e = again_so AsksNoOp (λ r. tt) tt (subst (λ (xs : List Answer). AsksNoOp (reopens kept last at len xs)) (sym e) tt)

  -- and none after another answer
  pub later_no_op : (i : Serial) (version : OneVersion) (a : Answer) (xs : List Answer) → log t d ≡ answer.Reading i version ∷ (a ∷ xs) → AsksNoOp (asked_now c t d)
  later_no_op i version a xs e = again_so AsksNoOp (λ r. tt) tt (subst (λ (ys : List Answer). AsksNoOp (reopens kept last at len ys)) (sym e) (over (same_stamp version.stamp kept.stamp)))
    where
      over : (b : Bool) → AsksNoOp (cond b (reads_again i at len (a ∷ xs)) (give_up (Unchanged i ∷ []) (refusal.Stale last) (a ∷ xs)))
      over true = read_no_more i at len a xs
      over false = give_up_no_op i (refusal.Stale last) (a ∷ xs)

  -- of what it has it asks one at once, where the version is the kept one
  pub again_asks : (i : Serial) (version : OneVersion) → log t d ≡ answer.Reading i version ∷ [] → same_stamp version.stamp kept.stamp ≡ true → is_op_on i (asked_now c t d) ≡ true
  again_asks i version e same = ap (is_op_on i) (script_is c t d w (begins.Reopens kept last) None (log t d) named starts) ∙ (ap (λ (xs : List Answer). is_op_on i (wants c.mounts (is_packed_in c (entries t) w.epoch) None w.words (begins.Reopens kept last) xs)) e
      ∙ (ap (λ (y : Call). is_op_on i (wants c.mounts (is_packed_in c (entries t) w.epoch) None y (begins.Reopens kept last) (answer.Reading i version ∷ []))) words
      ∙ over (same_stamp version.stamp kept.stamp) same))
    where
      over : (b : Bool) → b ≡ true → is_op_on i (where_packed (is_packed_in c (entries t) w.epoch) (cond b (want.Do i (op.Read at len)) (want.Close i))) ≡ true
      over true k = same_serial_own i
      over false k = absurd (true_false (sym k))
