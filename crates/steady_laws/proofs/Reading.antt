-- A read that gives bytes has had one operation's outcome, by its script.
use Rattle.std.proofs.Common.{ℕ, ◌≡◌, Bool, true, false, cond, List, [], ◌∷◌, Option, None, Some, refl, ap, inl, inr}
use Rattle.locus_ids.specs.declared.ids.EpochId.{EpochId}
use Rattle.locus_ids.specs.declared.ids.Serial.{Serial}
use Rattle.locus_ids.specs.declared.config.Mount.{Mount}
use Rattle.locus_ids.specs.declared.refusal.Refusal.{Refusal}
use Rattle.locus_ids.specs.declared.refusal.Refusal.TheVariants.{NoStorage, Stale}
use Rattle.commit_graph.specs.Versions.{same_stamp}
use Rattle.trace_book.specs.declared.call.Call.TheVariants as call
use Rattle.trace_book.specs.declared.descriptor.Beginning.{Beginning}
use Rattle.trace_book.specs.declared.descriptor.Beginning.TheVariants.{Denied, Uses, Walks, Reopens, Frees}
use Rattle.trace_book.specs.declared.descriptor.OneVersion.{OneVersion}
use Rattle.trace_book.specs.declared.operation.Op.TheVariants as op
use Rattle.trace_book.specs.declared.operation.Outcome.{Outcome}
use Rattle.trace_book.specs.declared.operation.Outcome.TheVariants as outcome
use Rattle.trace_book.specs.declared.reply.Reply.TheVariants as reply
use Rattle.call_rules.specs.declared.answer.Answer.{Answer}
use Rattle.call_rules.specs.declared.answer.Answer.TheVariants.{Entered, Showed, Described, Brought, Opened, Reading, Merging, Did, Ended, Refused}
use Rattle.call_rules.specs.declared.want.Want.{Want}
use Rattle.call_rules.specs.declared.want.Want.TheVariants.{Look, Open, OpenToMend, Make, Do, Close, Give, Never}
use Rattle.call_rules.specs.Closing.{give_up}
use Rattle.call_rules.specs.Closing.Own.{Unchanged}
use Rattle.call_rules.specs.Opening.{op_wants, reply_to}
use Rattle.call_rules.specs.Reopening.{reads_again, reopened, reopens}
use Rattle.call_rules.specs.Scripts.{begun_wants, wants, where_packed}
use Rattle.steady_laws.specs.Reads.{IsRead, IsReopened}

abbrev bytes_of : Want → Option (List ℕ)
bytes_of (Give (reply.Data bytes)) = Some bytes
bytes_of _ = None

-- what is wanted gives these bytes
abbrev Gives : List ℕ → Want → Type 0
Gives bytes w = bytes_of w ≡ Some bytes

none_some : (bytes : List ℕ) → None ≡ Some bytes → ⊥
none_some bytes e = cc

some_same : (a b : List ℕ) → Some a ≡ Some b → a ≡ b
some_same a b e = cc

-- one operation's outcome
did_bytes : (result : Outcome) (bytes : List ℕ) → Gives bytes (Give (reply_to result)) → result ≡ outcome.Data bytes
did_bytes outcome.Done bytes e = absurd (none_some bytes e)
did_bytes (outcome.Found ino kind) bytes e = absurd (none_some bytes e)
did_bytes (outcome.Data b) bytes e = ap outcome.Data (some_same b bytes e)
did_bytes (outcome.Committed stamp) bytes e = absurd (none_some bytes e)
did_bytes (outcome.No why) bytes e = absurd (none_some bytes e)

one_answer : (i : Serial) (at len : ℕ) (answers : List Answer) (bytes : List ℕ) → Gives bytes (op_wants i (op.Read at len) answers) → answers ≡ Did (outcome.Data bytes) ∷ []
one_answer i at len [] bytes e = absurd (none_some bytes e)
one_answer i at len (Did result ∷ []) bytes e = ap (λ (r : Outcome). Did r ∷ []) (did_bytes result bytes e)
one_answer i at len (Did result ∷ a ∷ rest) bytes e = absurd (none_some bytes e)
one_answer i at len (Refused why ∷ []) bytes e = absurd (none_some bytes e)
one_answer i at len (Refused why ∷ a ∷ rest) bytes e = absurd (none_some bytes e)
one_answer i at len ((Entered k l) ∷ rest) bytes e = absurd (none_some bytes e)
one_answer i at len ((Showed k) ∷ rest) bytes e = absurd (none_some bytes e)
one_answer i at len ((Described k l m) ∷ rest) bytes e = absurd (none_some bytes e)
one_answer i at len (Brought ∷ rest) bytes e = absurd (none_some bytes e)
one_answer i at len ((Opened k l) ∷ rest) bytes e = absurd (none_some bytes e)
one_answer i at len ((Reading k l) ∷ rest) bytes e = absurd (none_some bytes e)
one_answer i at len ((Merging k l) ∷ rest) bytes e = absurd (none_some bytes e)
one_answer i at len ((Ended k) ∷ rest) bytes e = absurd (none_some bytes e)

-- what is given up gives a refusal
closed_up : (i : Serial) (why : Refusal) (answers : List Answer) (bytes : List ℕ) → Gives bytes (give_up (Unchanged i ∷ []) why answers) → ⊥
closed_up i why [] bytes e = none_some bytes e
closed_up i why (Ended stamp ∷ []) bytes e = none_some bytes e
closed_up i why (Ended stamp ∷ a ∷ rest) bytes e = none_some bytes e
closed_up i why (Refused other ∷ []) bytes e = none_some bytes e
closed_up i why (Refused other ∷ a ∷ rest) bytes e = none_some bytes e
closed_up i why ((Entered k l) ∷ rest) bytes e = none_some bytes e
closed_up i why ((Showed k) ∷ rest) bytes e = none_some bytes e
closed_up i why ((Described k l m) ∷ rest) bytes e = none_some bytes e
closed_up i why (Brought ∷ rest) bytes e = none_some bytes e
closed_up i why ((Opened k l) ∷ rest) bytes e = none_some bytes e
closed_up i why ((Reading k l) ∷ rest) bytes e = none_some bytes e
closed_up i why ((Merging k l) ∷ rest) bytes e = none_some bytes e
closed_up i why ((Did k) ∷ rest) bytes e = none_some bytes e

read_again : (i : Serial) (at len : ℕ) (answers : List Answer) (bytes : List ℕ) → Gives bytes (reads_again i at len answers) → answers ≡ Did (outcome.Data bytes) ∷ []
read_again i at len [] bytes e = absurd (none_some bytes e)
read_again i at len (Did result ∷ []) bytes e = ap (λ (r : Outcome). Did r ∷ []) (did_bytes result bytes e)
read_again i at len (Did result ∷ a ∷ rest) bytes e = absurd (none_some bytes e)
read_again i at len (Refused why ∷ rest) bytes e = absurd (closed_up i why rest bytes e)
read_again i at len ((Entered k l) ∷ rest) bytes e = absurd (none_some bytes e)
read_again i at len ((Showed k) ∷ rest) bytes e = absurd (none_some bytes e)
read_again i at len ((Described k l m) ∷ rest) bytes e = absurd (none_some bytes e)
read_again i at len (Brought ∷ rest) bytes e = absurd (none_some bytes e)
read_again i at len ((Opened k l) ∷ rest) bytes e = absurd (none_some bytes e)
read_again i at len ((Reading k l) ∷ rest) bytes e = absurd (none_some bytes e)
read_again i at len ((Merging k l) ∷ rest) bytes e = absurd (none_some bytes e)
read_again i at len ((Ended k) ∷ rest) bytes e = absurd (none_some bytes e)

reopened_read : (kept : OneVersion) (last : EpochId) (at len : ℕ) (i : Serial) (granted : OneVersion) (answers : List Answer) (bytes : List ℕ) → Gives bytes (reopened kept last at len i granted answers)
    → (same_stamp granted.stamp kept.stamp ≡ true) × (answers ≡ Did (outcome.Data bytes) ∷ [])
reopened_read kept last at len i granted answers bytes e = over (same_stamp granted.stamp kept.stamp) refl e
  where
    over : (b : Bool) → same_stamp granted.stamp kept.stamp ≡ b → Gives bytes (cond b (reads_again i at len answers) (give_up (Unchanged i ∷ []) (Stale last) answers)) → (same_stamp granted.stamp kept.stamp ≡ true) × (answers ≡ Did (outcome.Data bytes) ∷ [])
    over true q e = (q, read_again i at len answers bytes e)
    over false q e = absurd (closed_up i (Stale last) answers bytes e)

-- what gives bytes is sent to nobody, so it is wanted as it is
packed_gives : (packed : ℕ → Bool) (w : Want) (bytes : List ℕ) → Gives bytes (where_packed packed w) → Gives bytes w
packed_gives packed (Look f what) bytes e = over (packed f.group) e
  where
    over : (b : Bool) → Gives bytes (cond b (Look f what) (Give (reply.No NoStorage))) → Gives bytes (Look f what)
    over true e = e
    over false e = e
packed_gives packed (Open f how) bytes e = over (packed f.group) e
  where
    over : (b : Bool) → Gives bytes (cond b (Open f how) (Give (reply.No NoStorage))) → Gives bytes (Open f how)
    over true e = e
    over false e = e
packed_gives packed (OpenToMend f) bytes e = over (packed f.group) e
  where
    over : (b : Bool) → Gives bytes (cond b (OpenToMend f) (Give (reply.No NoStorage))) → Gives bytes (OpenToMend f)
    over true e = e
    over false e = e
packed_gives packed (Make group kind sites) bytes e = over (packed group) e
  where
    over : (b : Bool) → Gives bytes (cond b (Make group kind sites) (Give (reply.No NoStorage))) → Gives bytes (Make group kind sites)
    over true e = e
    over false e = e
packed_gives packed (Do i o) bytes e = e
packed_gives packed (Close i) bytes e = e
packed_gives packed (Give r) bytes e = e
packed_gives packed Never bytes e = e

reopening : (kept : OneVersion) (last : EpochId) (at len : ℕ) (answers : List Answer) (bytes : List ℕ) → Gives bytes (reopens kept last at len answers) → IsReopened (Reopens kept last) answers bytes
reopening kept last at len [] bytes e = absurd (none_some bytes e)
reopening kept last at len (Reading i granted ∷ rest) bytes e = over (reopened_read kept last at len i granted rest bytes e)
  where
    over : (same_stamp granted.stamp kept.stamp ≡ true) × (rest ≡ Did (outcome.Data bytes) ∷ []) → IsReopened (Reopens kept last) (Reading i granted ∷ rest) bytes
    over k = record { kept = kept; last = last; begun = refl; inst = i; granted = granted; same = k.0; answered = ap (λ (more : List Answer). Reading i granted ∷ more) k.1 }
reopening kept last at len (Refused why ∷ []) bytes e = absurd (none_some bytes e)
reopening kept last at len (Refused why ∷ a ∷ rest) bytes e = absurd (none_some bytes e)
reopening kept last at len ((Entered k l) ∷ rest) bytes e = absurd (none_some bytes e)
reopening kept last at len ((Showed k) ∷ rest) bytes e = absurd (none_some bytes e)
reopening kept last at len ((Described k l m) ∷ rest) bytes e = absurd (none_some bytes e)
reopening kept last at len (Brought ∷ rest) bytes e = absurd (none_some bytes e)
reopening kept last at len ((Opened k l) ∷ rest) bytes e = absurd (none_some bytes e)
reopening kept last at len ((Merging k l) ∷ rest) bytes e = absurd (none_some bytes e)
reopening kept last at len ((Did k) ∷ rest) bytes e = absurd (none_some bytes e)
reopening kept last at len ((Ended k) ∷ rest) bytes e = absurd (none_some bytes e)

read_begun : (mounts : List Mount) (free : Option ℕ) (fd at len : ℕ) (begins : Beginning) (answers : List Answer) (bytes : List ℕ) → Gives bytes (begun_wants mounts free (call.Read fd at len) begins answers) → IsRead begins answers bytes
read_begun mounts free fd at len (Denied why) answers bytes e = absurd (none_some bytes e)
read_begun mounts free fd at len (Uses epoch i) answers bytes e = inl (record { epoch = epoch; inst = i; begun = refl; answered = one_answer i at len answers bytes e })
read_begun mounts free fd at len (Walks id) answers bytes e = absurd (none_some bytes e)
read_begun mounts free fd at len (Reopens kept last) answers bytes e = inr (reopening kept last at len answers bytes e)
read_begun mounts free fd at len Frees answers bytes e = absurd (none_some bytes e)

pub read_is : (mounts : List Mount) (packed : ℕ → Bool) (free : Option ℕ) (fd at len : ℕ) (begins : Beginning) (answers : List Answer) (bytes : List ℕ) → wants mounts packed free (call.Read fd at len) begins answers ≡ Give (reply.Data bytes) → IsRead begins answers bytes
read_is mounts packed free fd at len begins answers bytes e = read_begun mounts free fd at len begins answers bytes (packed_gives packed (begun_wants mounts free (call.Read fd at len) begins answers) bytes (ap bytes_of e))
