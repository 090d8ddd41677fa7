-- What a read asks, wherever it began: nothing but to open a file to read, to read its own place, and to close.
use Rattle.std.proofs.Common.{◌≡◌, ℕ, Bool, true, false, cond, List, [], ◌∷◌, Option, Some, refl, sym, ◌∙◌, ap}
use Rattle.plain_facts.proofs.Tests.{true_false}
use Rattle.locus_ids.specs.declared.config.Config.{Config}
use Rattle.locus_ids.specs.declared.config.Mount.{Mount}
use Rattle.locus_ids.specs.declared.ids.CallId.{CallId}
use Rattle.locus_ids.specs.declared.ids.EpochId.{EpochId}
use Rattle.locus_ids.specs.declared.ids.FileId.{FileId}
use Rattle.locus_ids.specs.declared.ids.Mode.{Mode}
use Rattle.locus_ids.specs.declared.ids.Mode.TheVariants as mode
use Rattle.locus_ids.specs.declared.ids.Serial.{Serial}
use Rattle.locus_ids.specs.declared.refusal.Refusal.{Refusal}
use Rattle.locus_ids.specs.declared.refusal.Refusal.TheVariants as refusal
use Rattle.commit_graph.specs.Versions.{same_stamp}
use Rattle.trace_book.specs.declared.call.Call.{Call}
use Rattle.trace_book.specs.declared.call.Call.TheVariants as call
use Rattle.trace_book.specs.declared.call.OpenMode.{OpenMode}
use Rattle.trace_book.specs.declared.call.OpenMode.TheVariants as opens
use Rattle.trace_book.specs.declared.descriptor.Beginning.{Beginning}
use Rattle.trace_book.specs.declared.descriptor.Beginning.TheVariants as begins
use Rattle.trace_book.specs.declared.descriptor.OneVersion.{OneVersion}
use Rattle.trace_book.specs.declared.operation.Op.TheVariants as op
use Rattle.trace_book.specs.declared.reply.Reply.TheVariants as reply
use Rattle.call_rules.specs.declared.answer.Answer.TheVariants as answer
use Rattle.call_rules.specs.declared.want.Want.{Want}
use Rattle.call_rules.specs.declared.want.Want.TheVariants as want
use Rattle.call_rules.specs.Closing.{Unchanged, give_up}
use Rattle.call_rules.specs.Descriptors.{lowest_free}
use Rattle.call_rules.specs.Opening.{op_wants}
use Rattle.call_rules.specs.Reopening.{reads_again, reopens}
use Rattle.call_rules.specs.Scripts.{begun_wants, wants, where_packed}
use Rattle.tree_model.specs.declared.accepted.Waiting.{Waiting}
use Rattle.tree_model.specs.Calls.{call_named}
use Rattle.tree_model.specs.Folds.{Trace}
use Rattle.lawful_trace.specs.Progress.{Answers, is_packed_in, wants_after, wants_as}
use Rattle.lawful_trace.specs.Tables.{begun, descriptor}
use Rattle.lawful_trace.specs.TreeRows.{is_open_of}

abbrev pub AsRead : ℕ → ℕ → Want → Type 0
AsRead at len (want.Look f w) = ⊥
AsRead at len (want.Open f m) = m ≡ opens.Read
AsRead at len (want.OpenToMend f) = ⊥
AsRead at len (want.Make group kind sites) = ⊥
AsRead at len (want.Do i o) = o ≡ op.Read at len
AsRead at len _ = Unit {0}

packed_read : (at len : ℕ) (pk : ℕ → Bool) (w : Want) → AsRead at len w → AsRead at len (where_packed pk w)
packed_read at len pk (want.Look f w) k = absurd k
packed_read at len pk (want.Open f m) k = over (pk f.group)
  where
    over : (b : Bool) → AsRead at len (cond b (want.Open f m) (want.Give (reply.No refusal.NoStorage)))
    over true = k
    over false = tt
packed_read at len pk (want.OpenToMend f) k = absurd k
packed_read at len pk (want.Make g kind sites) k = absurd k
packed_read at len pk (want.Do i o) k = k
packed_read at len pk (want.Close i) k = tt
packed_read at len pk (want.Give r) k = tt
packed_read at len pk want.Never k = tt

op_read : (i : Serial) (at len : ℕ) (xs : Answers) → AsRead at len (op_wants i (op.Read at len) xs)
op_read i at len [] = refl
op_read i at len (answer.Did result ∷ []) = tt
op_read i at len (answer.Did result ∷ (a ∷ rest)) = tt
op_read i at len (answer.Refused why ∷ []) = tt
op_read i at len (answer.Refused why ∷ (a ∷ rest)) = tt
op_read i at len (_ ∷ rest) = tt

give_up_read : (at len : ℕ) (i : Serial) (why : Refusal) (xs : Answers) → AsRead at len (give_up (Unchanged i ∷ []) why xs)
give_up_read at len i why [] = tt
give_up_read at len i why (answer.Ended stamp ∷ []) = tt
give_up_read at len i why (answer.Ended stamp ∷ (a ∷ xs)) = tt
give_up_read at len i why (answer.Refused reason ∷ []) = tt
give_up_read at len i why (answer.Refused reason ∷ (a ∷ xs)) = tt
give_up_read at len i why (_ ∷ xs) = tt

again_read : (i : Serial) (at len : ℕ) (xs : Answers) → AsRead at len (reads_again i at len xs)
again_read i at len [] = refl
again_read i at len (answer.Did result ∷ []) = tt
again_read i at len (answer.Did result ∷ (a ∷ rest)) = tt
again_read i at len (answer.Refused why ∷ rest) = give_up_read at len i why rest
again_read i at len (_ ∷ rest) = tt

reopens_read : (kept : OneVersion) (last : EpochId) (at len : ℕ) (xs : Answers) → AsRead at len (reopens kept last at len xs)
reopens_read kept last at len [] = refl
reopens_read kept last at len (answer.Reading i granted ∷ xs) = over (same_stamp granted.stamp kept.stamp)
  where
    over : (b : Bool) → AsRead at len (cond b (reads_again i at len xs) (give_up (Unchanged i ∷ []) (refusal.Stale last) xs))
    over true = again_read i at len xs
    over false = give_up_read at len i (refusal.Stale last) xs
reopens_read kept last at len (answer.Refused why ∷ []) = tt
reopens_read kept last at len (answer.Refused why ∷ (a ∷ xs)) = tt
reopens_read kept last at len (_ ∷ xs) = tt

begun_read : (mounts : List Mount) (free : Option ℕ) (fd at len : ℕ) (b : Beginning) (xs : Answers) → AsRead at len (begun_wants mounts free (call.Read fd at len) b xs)
begun_read mounts free fd at len (begins.Denied why) xs = tt
begun_read mounts free fd at len (begins.Uses e i) xs = op_read i at len xs
begun_read mounts free fd at len (begins.Walks id) xs = tt
begun_read mounts free fd at len (begins.Reopens kept last) xs = reopens_read kept last at len xs
begun_read mounts free fd at len begins.Frees xs = tt

pub read_asks : (mounts : List Mount) (pk : ℕ → Bool) (free : Option ℕ) (fd at len : ℕ) (b : Beginning) (xs : Answers) → AsRead at len (wants mounts pk free (call.Read fd at len) b xs)
read_asks mounts pk free fd at len b xs = packed_read at len pk (begun_wants mounts free (call.Read fd at len) b xs) (begun_read mounts free fd at len b xs)

-- what it opens, it opens to read
pub read_opens : (at len : ℕ) (m : Mode) (f : FileId) (w : Want) → AsRead at len w → is_open_of m f w ≡ true → m ≡ mode.Read
read_opens at len m f (want.Open g how) k is = by m how k is
  where
    by : (n : Mode) (o : OpenMode) → o ≡ opens.Read → is_open_of n f (want.Open g o) ≡ true → n ≡ mode.Read
    by mode.Read o k e = refl
    by mode.Write o k e = absurd (true_false (sym (rw k at e)))
    by mode.Resolve o k e = absurd (true_false (sym (rw k at e)))
    by mode.Mend o k e = absurd (true_false (sym e))
    by mode.Make o k e = absurd (true_false (sym e))
read_opens at len m f (want.OpenToMend g) k is = absurd k
read_opens at len m f (want.Make g kind sites) k is = absurd k
read_opens at len m f (want.Look g w) k is = absurd k
read_opens at len m f w k is = none m is
  where
    none : (n : Mode) → is_open_of n f w ≡ true → n ≡ mode.Read
    none mode.Read e = refl
    none mode.Write e = absurd (true_false (sym e))
    none mode.Resolve e = absurd (true_false (sym e))
    none mode.Mend e = absurd (true_false (sym e))
    none mode.Make e = absurd (true_false (sym e))

-- what an accepted read wants after these answers, by its script
pub read_wants : (c : Config) (before : Trace) (d : CallId) (w : Waiting) (b : Beginning) (fd at len : ℕ) (xs : Answers) → call_named before d ≡ Some w → begun before d ≡ Some b → w.words ≡ call.Read fd at len →
    wants_after c before d xs ≡ wants c.mounts (is_packed_in c before w.epoch) (lowest_free (descriptor before w.site w.process)) (call.Read fd at len) b xs
read_wants c before d w b fd at len xs named starts reads = ap (λ (o : Option Waiting). wants_as c before o (begun before d) xs) named ∙ (ap (λ (o : Option Beginning). wants_as c before (Some w) o xs) starts
    ∙ ap (λ (y : Call). wants c.mounts (is_packed_in c before w.epoch) (lowest_free (descriptor before w.site w.process)) y b xs) reads)
