-- A call that opens to mend, or looks at whole contents, is a mend; and what it looks at is kept, as its open was answered.
use Rattle.std.proofs.Common.{◌≡◌, ℕ, Bool, true, false, cond, ◌||◌, List, [], ◌∷◌, ◌++◌, Option, Some, None, refl, sym, ◌∙◌, ap, subst, ◌⊎◌, inl, inr, arith}
use Rattle.std.proofs.lemmas.Bool.Decides.{nat_tests}
use Rattle.tree_laws.proofs.of_plain_facts.Tests.{true_false}
use Rattle.locus_ids.specs.declared.config.Config.{Config}
use Rattle.locus_ids.specs.declared.config.Mount.{Mount}
use Rattle.locus_ids.specs.declared.ids.CallId.{CallId}
use Rattle.locus_ids.specs.declared.ids.FileId.{FileId}
use Rattle.locus_ids.specs.declared.ids.Mode.TheVariants as mode
use Rattle.locus_ids.specs.declared.ids.Serial.{Serial}
use Rattle.locus_ids.specs.declared.ids.Stamp.{Stamp}
use Rattle.locus_ids.specs.declared.refusal.Refusal.TheVariants as refusal
use Rattle.commit_graph.specs.Versions.{same_stamp}
use Rattle.trace_book.specs.declared.call.Call.{Call}
use Rattle.trace_book.specs.declared.call.Call.TheVariants as call
use Rattle.trace_book.specs.declared.descriptor.Beginning.{Beginning}
use Rattle.trace_book.specs.declared.descriptor.Beginning.TheVariants as begins
use Rattle.trace_book.specs.declared.operation.What.{What}
use Rattle.trace_book.specs.declared.operation.What.TheVariants as what
use Rattle.trace_book.specs.declared.reply.Reply.{Reply}
use Rattle.trace_book.specs.declared.reply.Reply.TheVariants as reply
use Rattle.call_rules.specs.declared.answer.Answer.TheVariants as answer
use Rattle.call_rules.specs.declared.want.Want.{Want}
use Rattle.call_rules.specs.declared.want.Want.TheVariants as want
use Rattle.call_rules.specs.Closing.{Unchanged}
use Rattle.call_rules.specs.Mending.{brings, mend_wants}
use Rattle.call_rules.specs.Scripts.{wants, where_packed}
use Rattle.tree_model.specs.declared.accepted.Waiting.{Waiting}
use Rattle.tree_model.specs.Folds.{Trace}
use Rattle.tree_model.specs.State.{has_stamp}
use Rattle.tree_laws.specs.of_lawful_trace.Progress.{Answers, is_packed_in, wants_as}
use Rattle.call_rules.specs.Descriptors.{lowest_free}
use Rattle.tree_laws.specs.of_lawful_trace.Tables.{descriptor}
use Rattle.tree_laws.specs.of_lawful_trace.TreeRows.{is_open_of}
use Rattle.tree_laws.specs.Calls.{script_as}
use Rattle.tree_laws.specs.Holding.{Instances, IsOf, closed_by, had_after}
use Rattle.tree_laws.proofs.Holding.{Safe, Script}
use Rattle.tree_laws.proofs.Orders.Standing.{same_file_eq}
use Rattle.store_laws.proofs.Holdings.MendWants.{IsPlainLook, after_mend_so, give_up_so, mend_so, wants_so}

-- ---- who asks so ----

-- neither an open to mend nor a look at whole contents
abbrev IsOther : Want → Type 0
IsOther (want.OpenToMend f) = ⊥
IsOther (want.Look f (what.Whole s)) = ⊥
IsOther _ = Unit {0}

other_looks : (f : FileId) (w : What) → IsPlainLook w → IsOther (want.Look f w)
other_looks f (what.Name component) k = tt
other_looks f what.List k = tt
other_looks f what.Stat k = tt
other_looks f (what.Whole s) k = k

-- no look at whole contents
abbrev Unwhole : Want → Type 0
Unwhole (want.Look f (what.Whole s)) = ⊥
Unwhole _ = Unit {0}

unwhole_looks : (f : FileId) (w : What) → IsPlainLook w → Unwhole (want.Look f w)
unwhole_looks f (what.Name component) k = tt
unwhole_looks f what.List k = tt
unwhole_looks f what.Stat k = tt
unwhole_looks f (what.Whole s) k = k

-- it opens this file to mend, and looks at its whole contents
abbrev IsAt : FileId → Want → Type 0
IsAt file (want.OpenToMend f) = f ≡ file
IsAt file (want.Look f (what.Whole s)) = f ≡ file
IsAt file _ = Unit {0}

at_looks : (file f : FileId) (w : What) → IsPlainLook w → IsAt file (want.Look f w)
at_looks file f (what.Name component) k = tt
at_looks file f what.List k = tt
at_looks file f what.Stat k = tt
at_looks file f (what.Whole s) k = absurd k

mend_at : (file : FileId) (xs : Answers) → IsAt file (mend_wants file xs)
mend_at file xs = mend_so (IsAt file) (at_looks file) (λ f m. tt) (λ g k sites. tt) (λ i o. tt) (λ i. tt) (λ r. tt) tt file (λ s. refl) refl xs

abbrev pub IsMendCall : Call → Type 0
IsMendCall (call.Mend f) = Unit {0}
IsMendCall _ = ⊥

pub no_mend : (words : Call) → (IsMendCall words → ⊥) → (f : FileId) → words ≡ call.Mend f → ⊥
no_mend words none f e = none (subst IsMendCall (sym e) tt)

-- the call is a mend of this file
pub record MendsIt (words : Call) (b : Beginning) (file : FileId) : Type 0 where
  pub words_are : words ≡ call.Mend file
  pub by : CallId
  pub walks : b ≡ begins.Walks by

asked_by_mend : (mounts : List Mount) (p : ℕ → Bool) (free : Option ℕ) (words : Call) (b : Beginning) (xs : Answers) (w : Want) → wants mounts p free words b xs ≡ w → (IsOther w → ⊥) → (file : FileId) × MendsIt words b file
asked_by_mend mounts p free words b xs w e none = over words refl
  where
    others : (IsMendCall words → ⊥) → ⊥
    others k = none (subst IsOther e (wants_so IsOther other_looks (λ f m. tt) (λ g k sites. tt) (λ i o. tt) (λ i. tt) (λ r. tt) tt mounts p free words (no_mend words k) b xs))

    begins_so : (file : FileId) → words ≡ call.Mend file → (o : Beginning) → b ≡ o → (f : FileId) × MendsIt words b f
    begins_so file is (begins.Denied why) k = absurd (none (subst IsOther e (subst (λ (y : Call). IsOther (wants mounts p free y b xs)) (sym is) (subst (λ (y : Beginning). IsOther (wants mounts p free (call.Mend file) y xs)) (sym k) tt))))
    begins_so file is (begins.Reopens kept last) k = absurd (none (subst IsOther e (subst (λ (y : Call). IsOther (wants mounts p free y b xs)) (sym is) (subst (λ (y : Beginning). IsOther (wants mounts p free (call.Mend file) y xs)) (sym k) tt))))
    begins_so file is begins.Frees k = absurd (none (subst IsOther e (subst (λ (y : Call). IsOther (wants mounts p free y b xs)) (sym is) (subst (λ (y : Beginning). IsOther (wants mounts p free (call.Mend file) y xs)) (sym k) tt))))
    begins_so file is (begins.Uses epoch i) k = absurd (none (subst IsOther e (subst (λ (y : Call). IsOther (wants mounts p free y b xs)) (sym is) (subst (λ (y : Beginning). IsOther (wants mounts p free (call.Mend file) y xs)) (sym k) tt))))
    begins_so file is (begins.Walks id) k = (file, record { words_are = is; by = id; walks = k })

    apart : (y : Call) → words ≡ y → (IsMendCall y → ⊥) → IsMendCall words → ⊥
    apart y is k m = k (subst IsMendCall is m)

    over : (y : Call) → words ≡ y → (f : FileId) × MendsIt words b f
    over (call.Mend file) is = begins_so file is b refl
    over y is = absurd (others (apart y is (λ k. k)))

no_give : (r : Reply) (f : FileId) (x : What) → want.Give r ≡ want.Look f x → ⊥
no_give r f x e = cc

give_opens : (r : Reply) (f : FileId) → want.Give r ≡ want.OpenToMend f → ⊥
give_opens r f e = cc

pub packed_or : (p : ℕ → Bool) (w : Want) → (where_packed p w ≡ w) ⊎ (where_packed p w ≡ want.Give (reply.No refusal.NoStorage))
packed_or p w = over w
  where
    by_test : (b : Bool) (y : Want) → (cond b y (want.Give (reply.No refusal.NoStorage)) ≡ y) ⊎ (cond b y (want.Give (reply.No refusal.NoStorage)) ≡ want.Give (reply.No refusal.NoStorage))
    by_test true y = inl refl
    by_test false y = inr refl

    over : (y : Want) → (where_packed p y ≡ y) ⊎ (where_packed p y ≡ want.Give (reply.No refusal.NoStorage))
    over (want.Look f x) = by_test (p f.group) (want.Look f x)
    over (want.Open f how) = by_test (p f.group) (want.Open f how)
    over (want.OpenToMend f) = by_test (p f.group) (want.OpenToMend f)
    over (want.Make g k sites) = by_test (p g) (want.Make g k sites)
    over (want.Do i o) = inl refl
    over (want.Close i) = inl refl
    over (want.Give r) = inl refl
    over want.Never = inl refl

look_unpacked : (p : ℕ → Bool) (w : Want) (f : FileId) (x : What) → where_packed p w ≡ want.Look f x → w ≡ want.Look f x
look_unpacked p w f x e = over (packed_or p w)
  where
    over : (where_packed p w ≡ w) ⊎ (where_packed p w ≡ want.Give (reply.No refusal.NoStorage)) → w ≡ want.Look f x
    over (inl k) = sym k ∙ e
    over (inr k) = absurd (no_give (reply.No refusal.NoStorage) f x (sym k ∙ e))

open_unpacked : (p : ℕ → Bool) (w : Want) (f : FileId) → where_packed p w ≡ want.OpenToMend f → w ≡ want.OpenToMend f
open_unpacked p w f e = over (packed_or p w)
  where
    over : (where_packed p w ≡ w) ⊎ (where_packed p w ≡ want.Give (reply.No refusal.NoStorage)) → w ≡ want.OpenToMend f
    over (inl k) = sym k ∙ e
    over (inr k) = absurd (give_opens (reply.No refusal.NoStorage) f (sym k ∙ e))

-- ---- the contents that a mend brings ----

-- after these answers the mend brings this version, and then these
record Left (i : Serial) (file : FileId) (kept : List Stamp) (rest : Answers) (stamp : Stamp) : Type 0 where
  left : List Stamp
  goes : (ys : Answers) → brings i file kept (rest ++ ys) ≡ brings i file (stamp ∷ left) ys
  among : has_stamp kept stamp ≡ true

look_stamp : (f g : FileId) (s stamp : Stamp) → want.Look f (what.Whole s) ≡ want.Look g (what.Whole stamp) → s ≡ stamp
look_stamp f g s stamp e = cc

own_stamp : (s : Stamp) → same_stamp s s ≡ true
own_stamp s = grind (arith, nat_tests)

here_stamp : (s stamp : Stamp) (ss : List Stamp) → s ≡ stamp → has_stamp (s ∷ ss) stamp ≡ true
here_stamp s stamp ss e = ap (λ (b : Bool). b || has_stamp ss stamp) (subst (λ (y : Stamp). same_stamp s y ≡ true) e (own_stamp s))

later_stamp : (s stamp : Stamp) (ss : List Stamp) → has_stamp ss stamp ≡ true → has_stamp (s ∷ ss) stamp ≡ true
later_stamp s stamp ss e = over (same_stamp s stamp)
  where
    over : (b : Bool) → (b || has_stamp ss stamp) ≡ true
    over true = refl
    over false = e

still_brings : (i : Serial) (file : FileId) (kept : List Stamp) (rest : Answers) (f : FileId) (stamp : Stamp) → brings i file kept rest ≡ want.Look f (what.Whole stamp) → Left i file kept rest stamp
still_brings i file [] rest f stamp e = absurd (subst Unwhole e (after_mend_so Unwhole unwhole_looks (λ f m. tt) (λ g k sites. tt) (λ i o. tt) (λ i. tt) (λ r. tt) tt i rest))
still_brings i file (s ∷ ss) [] f stamp e = record {
  left = ss;
  goes = λ ys. ap (λ (y : Stamp). brings i file (y ∷ ss) ys) (look_stamp file f s stamp e);
  among = here_stamp s stamp ss (look_stamp file f s stamp e);
}
still_brings i file (s ∷ ss) (answer.Brought ∷ rest) f stamp e = more (still_brings i file ss rest f stamp e)
  where
    more : Left i file ss rest stamp → Left i file (s ∷ ss) (answer.Brought ∷ rest) stamp
    more k = record { left = k.left; goes = k.goes; among = later_stamp s stamp ss k.among }
still_brings i file (s ∷ ss) (answer.Refused why ∷ rest) f stamp e = absurd (subst Unwhole e (give_up_so Unwhole unwhole_looks (λ f m. tt) (λ g k sites. tt) (λ i o. tt) (λ i. tt) (λ r. tt) tt (Unchanged i ∷ []) why rest))
still_brings i file (s ∷ ss) (a ∷ rest) f stamp e = absurd (subst Unwhole e tt)

-- the mend has its instance, and brings this one of the versions that were kept
pub record Bringing (file : FileId) (log : Answers) (stamp : Stamp) : Type 0 where
  pub inst : Serial
  pub kept : List Stamp
  pub rest : Answers
  pub log_is : log ≡ answer.Merging inst kept ∷ rest
  pub left : List Stamp
  pub goes : (ys : Answers) → mend_wants file (log ++ ys) ≡ brings inst file (stamp ∷ left) ys
  pub among : has_stamp kept stamp ≡ true

mend_brings : (file : FileId) (log : Answers) (f : FileId) (stamp : Stamp) → mend_wants file log ≡ want.Look f (what.Whole stamp) → Bringing file log stamp
mend_brings file [] f stamp e = absurd (subst Unwhole e tt)
mend_brings file (answer.Merging i kept ∷ rest) f stamp e = whole (still_brings i file kept rest f stamp e)
  where
    whole : Left i file kept rest stamp → Bringing file (answer.Merging i kept ∷ rest) stamp
    whole k = record { inst = i; kept = kept; rest = rest; log_is = refl; left = k.left; goes = k.goes; among = k.among }
mend_brings file (answer.Refused why ∷ []) f stamp e = absurd (subst Unwhole e tt)
mend_brings file (answer.Refused why ∷ (a ∷ rest)) f stamp e = absurd (subst Unwhole e tt)
mend_brings file (a ∷ rest) f stamp e = absurd (subst Unwhole e tt)

-- ---- by the script ----

-- the call is a mend of the file at which it looks
pub record LooksWhole (words : Call) (o : Option Beginning) (log : Answers) (f : FileId) (stamp : Stamp) : Type 0 where
  pub words_are : words ≡ call.Mend f
  pub by : CallId
  pub begins_so : o ≡ Some (begins.Walks by)
  pub brings_it : Bringing f log stamp

pub whole_looked : (c : Config) (before : Trace) (w : Waiting) (o : Option Beginning) (log : Answers) (f : FileId) (stamp : Stamp) → script_as c before (Some w) o None log ≡ want.Look f (what.Whole stamp) → LooksWhole w.words o log f stamp
whole_looked c before w None log f stamp e = absurd (subst Unwhole e tt)
whole_looked c before w (Some b) log f stamp e = over (asked_by_mend c.mounts p None w.words b log (want.Look f (what.Whole stamp)) e (λ k. k))
  where
    p : ℕ → Bool
    p = is_packed_in c before w.epoch

    over : (file : FileId) × MendsIt w.words b file → LooksWhole w.words (Some b) log f stamp
    over (file, m) = record {
      words_are = subst (λ (y : FileId). w.words ≡ call.Mend y) (sym same) m.words_are;
      by = m.by;
      begins_so = ap Some m.walks;
      brings_it = subst (λ (y : FileId). Bringing y log stamp) (sym same) (mend_brings file log f stamp asks);
    }
      where
        asks : mend_wants file log ≡ want.Look f (what.Whole stamp)
        asks = look_unpacked p (mend_wants file log) f (what.Whole stamp)
            (subst (λ (y : Beginning). wants c.mounts p None (call.Mend file) y log ≡ want.Look f (what.Whole stamp)) m.walks (subst (λ (y : Call). wants c.mounts p None y b log ≡ want.Look f (what.Whole stamp)) m.words_are e))

        same : f ≡ file
        same = subst (IsAt file) asks (mend_at file log)

-- an open to mend is of a mend of that file
open_to_mend : (f : FileId) (w : Want) → is_open_of mode.Mend f w ≡ true → w ≡ want.OpenToMend f
open_to_mend f (want.OpenToMend g) e = ap want.OpenToMend (same_file_eq g f e)
open_to_mend f w e = absurd (true_false (sym e))

pub mend_opened : (c : Config) (before : Trace) (w : Waiting) (o : Option Beginning) (log : Answers) (f : FileId) → is_open_of mode.Mend f (wants_as c before (Some w) o log) ≡ true → w.words ≡ call.Mend f
mend_opened c before w None log f e = absurd (true_false (sym e))
mend_opened c before w (Some b) log f e = over (asked_by_mend c.mounts p free w.words b log (want.OpenToMend f) opens (λ k. k))
  where
    p : ℕ → Bool
    p = is_packed_in c before w.epoch

    free : Option ℕ
    free = lowest_free (descriptor before w.site w.process)

    opens : wants c.mounts p free w.words b log ≡ want.OpenToMend f
    opens = open_to_mend f (wants c.mounts p free w.words b log) e

    over : (file : FileId) × MendsIt w.words b file → w.words ≡ call.Mend f
    over (file, m) = subst (λ (y : FileId). w.words ≡ call.Mend y) (sym same) m.words_are
      where
        asks : mend_wants file log ≡ want.OpenToMend f
        asks = open_unpacked p (mend_wants file log) f
            (subst (λ (y : Beginning). wants c.mounts p free (call.Mend file) y log ≡ want.OpenToMend f) m.walks (subst (λ (y : Call). wants c.mounts p free y b log ≡ want.OpenToMend f) m.words_are opens))

        same : f ≡ file
        same = subst (IsAt file) asks (mend_at file log)

-- ---- the mend has its instance while it brings ----

abbrev pub all_brought : List Stamp → Answers
all_brought [] = []
all_brought (s ∷ ss) = answer.Brought ∷ all_brought ss

pub bringing_has : (p : ℕ → Bool) (i : Serial) (file : FileId) (stamps : List Stamp) (k : Script) (own : Instances) → ((ys : Answers) → k ys ≡ where_packed p (brings i file stamps ys)) → Safe k own (all_brought stamps) → own i ≡ true
bringing_has p i file [] k own same safe = subst (IsOf own) (same []) safe
bringing_has p i file (s ∷ ss) k own same safe = unclosed (p file.group) (subst (λ (w : Want). closed_by w own i ≡ true) (same []) (bringing_has p i file ss (λ ys. k (answer.Brought ∷ ys)) (had_after (k []) answer.Brought own) (λ ys. same (answer.Brought ∷ ys)) (safe tt)))
  where
    unclosed : (b : Bool) → closed_by (cond b (want.Look file (what.Whole s)) (want.Give (reply.No refusal.NoStorage))) own i ≡ true → own i ≡ true
    unclosed true e = e
    unclosed false e = e
