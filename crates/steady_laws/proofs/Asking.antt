-- The one operation that a read asks, by its script.
use Rattle.std.proofs.Common.{ℕ, ◌≡◌, Bool, true, false, cond, List, [], ◌∷◌, Option, None, Some, refl, sym, ap, ◌∙◌, inl, inr}
use Rattle.locus_ids.specs.declared.ids.EpochId.{EpochId}
use Rattle.locus_ids.specs.declared.ids.Serial.{Serial}
use Rattle.locus_ids.specs.declared.config.Mount.{Mount}
use Rattle.locus_ids.specs.declared.refusal.Refusal.{Refusal}
use Rattle.locus_ids.specs.declared.refusal.Refusal.TheVariants.{NoStorage, Stale}
use Rattle.commit_graph.specs.Versions.{same_stamp}
use Rattle.trace_book.specs.declared.call.Call.TheVariants as call
use Rattle.trace_book.specs.declared.descriptor.Beginning.{Beginning}
use Rattle.trace_book.specs.declared.descriptor.Beginning.TheVariants.{Denied, Uses, Walks, Reopens, Frees}
use Rattle.trace_book.specs.declared.descriptor.OneVersion.{OneVersion}
use Rattle.trace_book.specs.declared.operation.Op.{Op}
use Rattle.trace_book.specs.declared.operation.Op.TheVariants as op
use Rattle.trace_book.specs.declared.reply.Reply.TheVariants as reply
use Rattle.call_rules.specs.declared.answer.Answer.{Answer}
use Rattle.call_rules.specs.declared.answer.Answer.TheVariants.{Entered, Showed, Described, Brought, Opened, Reading, Merging, Did, Ended, Refused}
use Rattle.call_rules.specs.declared.want.Want.{Want}
use Rattle.call_rules.specs.declared.want.Want.TheVariants.{Look, Open, OpenToMend, Make, Do, Close, Give, Never}
use Rattle.call_rules.specs.Closing.{give_up}
use Rattle.call_rules.specs.Closing.Own.{Unchanged}
use Rattle.call_rules.specs.Opening.{op_wants}
use Rattle.call_rules.specs.Reopening.{reads_again, reopens}
use Rattle.call_rules.specs.Scripts.{begun_wants, wants, where_packed}
use Rattle.steady_laws.specs.Reads.{AsksAgain, AsksRead}

abbrev done_by : Want → Option Op
done_by (Do i o) = Some o
done_by _ = None

abbrev done_on : Want → Option Serial
done_on (Do i o) = Some i
done_on _ = None

-- this operation is wanted on this instance
abbrev Does : Serial → Op → Want → Type 0
Does i o w = (done_on w ≡ Some i) × (done_by w ≡ Some o)

none_some : (o : Op) → None ≡ Some o → ⊥
none_some o e = cc

op_same : (a b : Op) → Some a ≡ Some b → a ≡ b
op_same a b e = cc

serial_same : (a b : Serial) → Some a ≡ Some b → a ≡ b
serial_same a b e = cc

one_asked : (j : Serial) (at len : ℕ) (answers : List Answer) (i : Serial) (o : Op) → Does i o (op_wants j (op.Read at len) answers) → (j ≡ i) × (op.Read at len ≡ o) × (answers ≡ [])
one_asked j at len [] i o e = (serial_same j i e.0, op_same (op.Read at len) o e.1, refl)
one_asked j at len (Did result ∷ []) i o e = absurd (none_some o e.1)
one_asked j at len (Did result ∷ a ∷ rest) i o e = absurd (none_some o e.1)
one_asked j at len (Refused why ∷ []) i o e = absurd (none_some o e.1)
one_asked j at len (Refused why ∷ a ∷ rest) i o e = absurd (none_some o e.1)
one_asked j at len ((Entered k l) ∷ rest) i o e = absurd (none_some o e.1)
one_asked j at len ((Showed k) ∷ rest) i o e = absurd (none_some o e.1)
one_asked j at len ((Described k l m) ∷ rest) i o e = absurd (none_some o e.1)
one_asked j at len (Brought ∷ rest) i o e = absurd (none_some o e.1)
one_asked j at len ((Opened k l) ∷ rest) i o e = absurd (none_some o e.1)
one_asked j at len ((Reading k l) ∷ rest) i o e = absurd (none_some o e.1)
one_asked j at len ((Merging k l) ∷ rest) i o e = absurd (none_some o e.1)
one_asked j at len ((Ended k) ∷ rest) i o e = absurd (none_some o e.1)

-- what is given up is only closed
closed_up : (j : Serial) (why : Refusal) (answers : List Answer) (i : Serial) (o : Op) → Does i o (give_up (Unchanged j ∷ []) why answers) → ⊥
closed_up j why [] i o e = none_some o e.1
closed_up j why (Ended stamp ∷ []) i o e = none_some o e.1
closed_up j why (Ended stamp ∷ a ∷ rest) i o e = none_some o e.1
closed_up j why (Refused other ∷ []) i o e = none_some o e.1
closed_up j why (Refused other ∷ a ∷ rest) i o e = none_some o e.1
closed_up j why ((Entered k l) ∷ rest) i o e = none_some o e.1
closed_up j why ((Showed k) ∷ rest) i o e = none_some o e.1
closed_up j why ((Described k l m) ∷ rest) i o e = none_some o e.1
closed_up j why (Brought ∷ rest) i o e = none_some o e.1
closed_up j why ((Opened k l) ∷ rest) i o e = none_some o e.1
closed_up j why ((Reading k l) ∷ rest) i o e = none_some o e.1
closed_up j why ((Merging k l) ∷ rest) i o e = none_some o e.1
closed_up j why ((Did k) ∷ rest) i o e = none_some o e.1

again_asked : (j : Serial) (at len : ℕ) (answers : List Answer) (i : Serial) (o : Op) → Does i o (reads_again j at len answers) → (j ≡ i) × (op.Read at len ≡ o) × (answers ≡ [])
again_asked j at len [] i o e = (serial_same j i e.0, op_same (op.Read at len) o e.1, refl)
again_asked j at len (Did result ∷ []) i o e = absurd (none_some o e.1)
again_asked j at len (Did result ∷ a ∷ rest) i o e = absurd (none_some o e.1)
again_asked j at len (Refused why ∷ rest) i o e = absurd (closed_up j why rest i o e)
again_asked j at len ((Entered k l) ∷ rest) i o e = absurd (none_some o e.1)
again_asked j at len ((Showed k) ∷ rest) i o e = absurd (none_some o e.1)
again_asked j at len ((Described k l m) ∷ rest) i o e = absurd (none_some o e.1)
again_asked j at len (Brought ∷ rest) i o e = absurd (none_some o e.1)
again_asked j at len ((Opened k l) ∷ rest) i o e = absurd (none_some o e.1)
again_asked j at len ((Reading k l) ∷ rest) i o e = absurd (none_some o e.1)
again_asked j at len ((Merging k l) ∷ rest) i o e = absurd (none_some o e.1)
again_asked j at len ((Ended k) ∷ rest) i o e = absurd (none_some o e.1)

reopening : (kept : OneVersion) (last : EpochId) (at len : ℕ) (answers : List Answer) (i : Serial) (o : Op) → Does i o (reopens kept last at len answers) → AsksAgain (Reopens kept last) at len answers i o
reopening kept last at len [] i o e = absurd (none_some o e.1)
reopening kept last at len (Reading j granted ∷ rest) i o e = over (same_stamp granted.stamp kept.stamp) refl e
  where
    over : (b : Bool) → same_stamp granted.stamp kept.stamp ≡ b → Does i o (cond b (reads_again j at len rest) (give_up (Unchanged j ∷ []) (Stale last) rest)) → AsksAgain (Reopens kept last) at len (Reading j granted ∷ rest) i o
    over true q e = by (again_asked j at len rest i o e)
      where
        by : (j ≡ i) × (op.Read at len ≡ o) × (rest ≡ []) → AsksAgain (Reopens kept last) at len (Reading j granted ∷ rest) i o
        by k = record { kept = kept; last = last; begun = refl; granted = granted; same = q; read = sym k.1; answered = ap (λ (more : List Answer). Reading j granted ∷ more) k.2 ∙ ap (λ (s : Serial). Reading s granted ∷ []) k.0 }
    over false q e = absurd (closed_up j (Stale last) rest i o e)
reopening kept last at len (Refused why ∷ []) i o e = absurd (none_some o e.1)
reopening kept last at len (Refused why ∷ a ∷ rest) i o e = absurd (none_some o e.1)
reopening kept last at len ((Entered k l) ∷ rest) i o e = absurd (none_some o e.1)
reopening kept last at len ((Showed k) ∷ rest) i o e = absurd (none_some o e.1)
reopening kept last at len ((Described k l m) ∷ rest) i o e = absurd (none_some o e.1)
reopening kept last at len (Brought ∷ rest) i o e = absurd (none_some o e.1)
reopening kept last at len ((Opened k l) ∷ rest) i o e = absurd (none_some o e.1)
reopening kept last at len ((Merging k l) ∷ rest) i o e = absurd (none_some o e.1)
reopening kept last at len ((Did k) ∷ rest) i o e = absurd (none_some o e.1)
reopening kept last at len ((Ended k) ∷ rest) i o e = absurd (none_some o e.1)

-- an operation is wanted as it is
packed_does : (packed : ℕ → Bool) (w : Want) (i : Serial) (o : Op) → Does i o (where_packed packed w) → Does i o w
packed_does packed (Look f what) i o e = over (packed f.group) e
  where
    over : (b : Bool) → Does i o (cond b (Look f what) (Give (reply.No NoStorage))) → Does i o (Look f what)
    over true e = e
    over false e = absurd (none_some o e.1)
packed_does packed (Open f how) i o e = over (packed f.group) e
  where
    over : (b : Bool) → Does i o (cond b (Open f how) (Give (reply.No NoStorage))) → Does i o (Open f how)
    over true e = e
    over false e = absurd (none_some o e.1)
packed_does packed (OpenToMend f) i o e = over (packed f.group) e
  where
    over : (b : Bool) → Does i o (cond b (OpenToMend f) (Give (reply.No NoStorage))) → Does i o (OpenToMend f)
    over true e = e
    over false e = absurd (none_some o e.1)
packed_does packed (Make group kind sites) i o e = over (packed group) e
  where
    over : (b : Bool) → Does i o (cond b (Make group kind sites) (Give (reply.No NoStorage))) → Does i o (Make group kind sites)
    over true e = e
    over false e = absurd (none_some o e.1)
packed_does packed (Do j p) i o e = e
packed_does packed (Close j) i o e = absurd (none_some o e.1)
packed_does packed (Give r) i o e = absurd (none_some o e.1)
packed_does packed Never i o e = absurd (none_some o e.1)

asks_begun : (mounts : List Mount) (free : Option ℕ) (fd at len : ℕ) (begins : Beginning) (answers : List Answer) (i : Serial) (o : Op) → Does i o (begun_wants mounts free (call.Read fd at len) begins answers) → AsksRead begins at len answers i o
asks_begun mounts free fd at len (Denied why) answers i o e = absurd (none_some o e.1)
asks_begun mounts free fd at len (Uses epoch j) answers i o e = by (one_asked j at len answers i o e)
  where
    by : (j ≡ i) × (op.Read at len ≡ o) × (answers ≡ []) → AsksRead (Uses epoch j) at len answers i o
    by k = inl (record { epoch = epoch; begun = ap (Uses epoch) k.0; read = sym k.1; answered = k.2 })
asks_begun mounts free fd at len (Walks id) answers i o e = absurd (none_some o e.1)
asks_begun mounts free fd at len (Reopens kept last) answers i o e = inr (reopening kept last at len answers i o e)
asks_begun mounts free fd at len Frees answers i o e = absurd (none_some o e.1)

pub asks_read : (mounts : List Mount) (packed : ℕ → Bool) (free : Option ℕ) (fd at len : ℕ) (begins : Beginning) (answers : List Answer) (i : Serial) (o : Op) → wants mounts packed free (call.Read fd at len) begins answers ≡ Do i o → AsksRead begins at len answers i o
asks_read mounts packed free fd at len begins answers i o e =
    asks_begun mounts free fd at len begins answers i o (packed_does packed (begun_wants mounts free (call.Read fd at len) begins answers) i o (ap done_on e, ap done_by e))
