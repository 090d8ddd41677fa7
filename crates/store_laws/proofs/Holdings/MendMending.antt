-- A call that asks to mend is a mend, has brought all that its open told, and these are what is kept of its file.
use Rattle.std.proofs.Common.{◌≡◌, ℕ, Bool, List, [], ◌∷◌, Option, Some, None, refl, sym, ◌∙◌, ap, subst, ◌⊎◌, inl, inr}
use Rattle.tree_laws.proofs.of_plain_facts.Options.{some_same}
use Rattle.locus_ids.specs.declared.config.Config.{Config}
use Rattle.locus_ids.specs.declared.config.Mount.{Mount}
use Rattle.locus_ids.specs.declared.ids.CallId.{CallId}
use Rattle.locus_ids.specs.declared.ids.EpochId.{EpochId}
use Rattle.locus_ids.specs.declared.ids.FileId.{FileId}
use Rattle.locus_ids.specs.declared.ids.Mode.TheVariants as mode
use Rattle.locus_ids.specs.declared.ids.Serial.{Serial}
use Rattle.locus_ids.specs.declared.ids.Stamp.{Stamp}
use Rattle.locus_ids.specs.declared.refusal.Refusal.TheVariants as refusal
use Rattle.trace_book.specs.declared.call.Call.{Call}
use Rattle.trace_book.specs.declared.call.Call.TheVariants as call
use Rattle.trace_book.specs.declared.descriptor.Beginning.{Beginning}
use Rattle.trace_book.specs.declared.descriptor.Beginning.TheVariants as begins
use Rattle.trace_book.specs.declared.operation.Op.{Op}
use Rattle.trace_book.specs.declared.operation.Op.TheVariants as op
use Rattle.trace_book.specs.declared.reply.Reply.{Reply}
use Rattle.trace_book.specs.declared.reply.Reply.TheVariants as reply
use Rattle.call_rules.specs.declared.answer.Answer.TheVariants as answer
use Rattle.call_rules.specs.declared.want.Want.{Want}
use Rattle.call_rules.specs.declared.want.Want.TheVariants as want
use Rattle.call_rules.specs.Closing.{Unchanged}
use Rattle.call_rules.specs.Mending.{brings, mend_wants}
use Rattle.call_rules.specs.Scripts.{wants, where_packed}
use Rattle.tree_laws.specs.of_the_run.Worlds.{Line}
use Rattle.tree_model.specs.declared.accepted.Waiting.{Waiting}
use Rattle.tree_model.specs.Folds.{Trace}
use Rattle.tree_model.specs.Tree.{kept_in}
use Rattle.tree_laws.specs.of_lawful_trace.Progress.{Answers, is_packed_in}
use Rattle.tree_laws.specs.of_lawful_trace.Tables.{begun}
use Rattle.tree_laws.specs.of_lawful_trace.TreeRows.{IsCallIn}
use Rattle.tree_laws.specs.Calls.{Asks, log, script_as}
use Rattle.tree_laws.specs.Following.{IsFollowed}
use Rattle.tree_laws.specs.Past.{WasGranted, WasReleased}
use Rattle.tree_laws.specs.Printed.{entries}
use Rattle.tree_laws.specs.Users.{brought_of, taken_whole}
use Rattle.tree_laws.specs.Orders.Joining.{PacksAreOfSites}
use Rattle.tree_laws.specs.Orders.ProcessAsked.{IsOpenOf}
use Rattle.tree_laws.proofs.Orders.ProcessOpen.{asked_open}
use Rattle.store_laws.proofs.Holdings.Made.{CommitsAreNew}
use Rattle.store_laws.specs.Holdings.MendWorking.{MendsNow}
use Rattle.store_laws.proofs.Holdings.MendGranted.{MendOf, all_mends}
use Rattle.store_laws.proofs.Holdings.MendMends.{IsMendCall, MendsIt, no_mend, packed_or}
use Rattle.store_laws.proofs.Holdings.MendWants.{IsPlainOp, after_mend_by, give_up_by, wants_by}

-- ---- who asks so ----

-- it doesn't ask to mend
abbrev Unmending : Want → Type 0
Unmending (want.Do i op.Mend) = ⊥
Unmending _ = Unit {0}

plain_unmending : (i : Serial) (o : Op) → IsPlainOp o → Unmending (want.Do i o)
plain_unmending i op.Mend k = absurd k
plain_unmending i _ k = tt

unmending : (mounts : List Mount) (p : ℕ → Bool) (free : Option ℕ) (words : Call) → ((f : FileId) → words ≡ call.Mend f → ⊥) → (b : Beginning) (xs : Answers) → Unmending (wants mounts p free words b xs)
unmending = wants_by Unmending (λ f w k. tt) (λ f m. tt) (λ g k sites. tt) plain_unmending (λ i. tt) (λ r. tt) tt

asked_by_mend : (mounts : List Mount) (p : ℕ → Bool) (free : Option ℕ) (words : Call) (b : Beginning) (xs : Answers) (i : Serial) → wants mounts p free words b xs ≡ want.Do i op.Mend → (file : FileId) × MendsIt words b file
asked_by_mend mounts p free words b xs i e = over words refl
  where
    others : (IsMendCall words → ⊥) → ⊥
    others k = subst Unmending e (unmending mounts p free words (no_mend words k) b xs)

    begins_so : (file : FileId) → words ≡ call.Mend file → (o : Beginning) → b ≡ o → (f : FileId) × MendsIt words b f
    begins_so file is (begins.Denied why) k = absurd (subst Unmending e (subst (λ (y : Call). Unmending (wants mounts p free y b xs)) (sym is) (subst (λ (y : Beginning). Unmending (wants mounts p free (call.Mend file) y xs)) (sym k) tt)))
    begins_so file is (begins.Reopens kept last) k = absurd (subst Unmending e (subst (λ (y : Call). Unmending (wants mounts p free y b xs)) (sym is) (subst (λ (y : Beginning). Unmending (wants mounts p free (call.Mend file) y xs)) (sym k) tt)))
    begins_so file is begins.Frees k = absurd (subst Unmending e (subst (λ (y : Call). Unmending (wants mounts p free y b xs)) (sym is) (subst (λ (y : Beginning). Unmending (wants mounts p free (call.Mend file) y xs)) (sym k) tt)))
    begins_so file is (begins.Uses epoch inst) k = absurd (subst Unmending e (subst (λ (y : Call). Unmending (wants mounts p free y b xs)) (sym is) (subst (λ (y : Beginning). Unmending (wants mounts p free (call.Mend file) y xs)) (sym k) tt)))
    begins_so file is (begins.Walks id) k = (file, record { words_are = is; by = id; walks = k })

    apart : (y : Call) → words ≡ y → (IsMendCall y → ⊥) → IsMendCall words → ⊥
    apart y is k m = k (subst IsMendCall is m)

    over : (y : Call) → words ≡ y → (f : FileId) × MendsIt words b f
    over (call.Mend file) is = begins_so file is b refl
    over y is = absurd (others (apart y is (λ k. k)))

-- ---- what it has brought ----

-- it asks to mend nothing but this
abbrev MendsOn : Serial → Want → Type 0
MendsOn i (want.Do j op.Mend) = i ≡ j
MendsOn i _ = Unit {0}

plain_on : (k i : Serial) (o : Op) → IsPlainOp o → MendsOn k (want.Do i o)
plain_on k i op.Mend p = absurd p
plain_on k i _ p = tt

-- all was brought
record BroughtAll (i : Serial) (kept : List Stamp) (rest : Answers) (j : Serial) : Type 0 where
  all : brought_of kept rest ≡ kept
  inst_is : i ≡ j

brought_all : (i : Serial) (file : FileId) (kept : List Stamp) (rest : Answers) (j : Serial) → brings i file kept rest ≡ want.Do j op.Mend → BroughtAll i kept rest j
brought_all i file [] rest j e = record { all = refl; inst_is = subst (MendsOn i) e (after_mend_by (MendsOn i) (λ f w k. tt) (λ f m. tt) (λ g k sites. tt) (plain_on i) (λ i. tt) (λ r. tt) tt i refl rest) }
brought_all i file (s ∷ ss) [] j e = absurd (subst Asking (sym e) tt)
  where
    Asking : Want → Type 0
    Asking (want.Do k o) = Unit {0}
    Asking _ = ⊥
brought_all i file (s ∷ ss) (answer.Brought ∷ rest) j e = more (brought_all i file ss rest j e)
  where
    more : BroughtAll i ss rest j → BroughtAll i (s ∷ ss) (answer.Brought ∷ rest) j
    more k = record { all = ap (λ (xs : List Stamp). s ∷ xs) k.all; inst_is = k.inst_is }
brought_all i file (s ∷ ss) (answer.Refused why ∷ rest) j e = absurd (subst Unmending e (give_up_by Unmending (λ f w k. tt) (λ f m. tt) (λ g k sites. tt) plain_unmending (λ i. tt) (λ r. tt) tt (Unchanged i ∷ []) why rest))
brought_all i file (s ∷ ss) (a ∷ rest) j e = absurd (subst Unmending e tt)

-- what was answered to a mend that asks to mend
record MendsAfter (log : Answers) (i : Serial) : Type 0 where
  kept : List Stamp
  rest : Answers
  log_is : log ≡ answer.Merging i kept ∷ rest
  all : taken_whole log ≡ kept

mends_after : (file : FileId) (log : Answers) (i : Serial) → mend_wants file log ≡ want.Do i op.Mend → MendsAfter log i
mends_after file [] i e = absurd (subst Unmending e tt)
mends_after file (answer.Merging j kept ∷ rest) i e = over (brought_all j file kept rest i e)
  where
    over : BroughtAll j kept rest i → MendsAfter (answer.Merging j kept ∷ rest) i
    over k = record { kept = kept; rest = rest; log_is = ap (λ (y : Serial). answer.Merging y kept ∷ rest) k.inst_is; all = k.all }
mends_after file (answer.Refused why ∷ []) i e = absurd (subst Unmending e tt)
mends_after file (answer.Refused why ∷ (a ∷ rest)) i e = absurd (subst Unmending e tt)
mends_after file (a ∷ rest) i e = absurd (subst Unmending e tt)

no_give : (r : Reply) (i : Serial) → want.Give r ≡ want.Do i op.Mend → ⊥
no_give r i e = cc

unpacked : (p : ℕ → Bool) (w : Want) (i : Serial) → where_packed p w ≡ want.Do i op.Mend → w ≡ want.Do i op.Mend
unpacked p w i e = over (packed_or p w)
  where
    over : (where_packed p w ≡ w) ⊎ (where_packed p w ≡ want.Give (reply.No refusal.NoStorage)) → w ≡ want.Do i op.Mend
    over (inl k) = sym k ∙ e
    over (inr k) = absurd (no_give (reply.No refusal.NoStorage) i (sym k ∙ e))

-- ---- by the script ----

record MendsThen (words : Call) (log : Answers) (i : Serial) : Type 0 where
  file : FileId
  words_are : words ≡ call.Mend file
  after : MendsAfter log i

mends_then : (c : Config) (before : Trace) (w : Waiting) (o : Option Beginning) (log : Answers) (i : Serial) → script_as c before (Some w) o None log ≡ want.Do i op.Mend → MendsThen w.words log i
mends_then c before w None log i e = absurd (subst Unmending e tt)
mends_then c before w (Some b) log i e = over (asked_by_mend c.mounts p None w.words b log i e)
  where
    p : ℕ → Bool
    p = is_packed_in c before w.epoch

    over : (file : FileId) × MendsIt w.words b file → MendsThen w.words log i
    over (file, m) = record { file = file; words_are = m.words_are; after = mends_after file log i asks }
      where
        asks : mend_wants file log ≡ want.Do i op.Mend
        asks = unpacked p (mend_wants file log) i
            (subst (λ (y : Beginning). wants c.mounts p None (call.Mend file) y log ≡ want.Do i op.Mend) m.walks (subst (λ (y : Call). wants c.mounts p None y b log ≡ want.Do i op.Mend) m.words_are e))

pub mends_now : (c : Config) (t : List Line) (e : EpochId) (d : CallId) (i : Serial) → PacksAreOfSites c → IsFollowed c t → CommitsAreNew c (entries t) → IsCallIn (entries t) e d → Asks c t d (want.Do i op.Mend) → MendsNow c t e d i
mends_now c t e d i few h new inside asks = record {
  caller = w;
  named = inside.named;
  file = m.file;
  words_are = ap (λ (y : Waiting). y.words) (sym one) ∙ m.words_are;
  request = m.request;
  stamp = m.stamp;
  place = m.place;
  was = subst (λ (y : EpochId). WasGranted t y d m.request i mode.Mend m.file m.stamp m.place) epoch_is m.was;
  unreleased = open_of.unreleased;
  taken_is = k.after.all ∙ subst (λ (y : EpochId). k.after.kept ≡ kept_in c (entries t) y m.file) epoch_is (m.stays live);
}
  where
    w : Waiting
    w = inside.accepted

    k : MendsThen w.words (log t d) i
    k = mends_then c (entries t) w (begun (entries t) d) (log t d) i (subst (λ (o : Option Waiting). script_as c (entries t) o (begun (entries t) d) None (log t d) ≡ want.Do i op.Mend) inside.named asks.asked)

    m : MendOf c t d i k.after.kept
    m = all_mends c t few h new d i k.after.kept k.after.rest (asks.nothing_waits ∙ k.after.log_is)

    one : m.caller ≡ w
    one = some_same m.caller w (sym m.named ∙ inside.named)

    epoch_is : m.epoch ≡ e
    epoch_is = some_same m.epoch e (sym m.made_in ∙ (ap (λ (y : Waiting). y.epoch) one ∙ inside.made_in))

    open_of : IsOpenOf c t e i d.site
    open_of = asked_open c t e d i h inside (inl (op.Mend, asks))

    live : WasReleased t m.epoch i → ⊥
    live r = open_of.unreleased (subst (λ (y : EpochId). WasReleased t y i) epoch_is r)
