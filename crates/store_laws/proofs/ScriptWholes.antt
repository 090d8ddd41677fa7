-- Whole contents are looked at by mends alone, of the kept versions one after another, and served of the version that was asked.
use Rattle.std.proofs.Common.{◌≡◌, ℕ, Bool, true, false, cond, ◌&&◌, List, [], ◌∷◌, ◌++◌, Option, Some, None, refl, sym, ◌∙◌, ap, subst, append-nil, inl, inr}
use Rattle.role_steps.proofs.of_plain_facts.Tests.{and_second, true_false}
use Rattle.locus_ids.specs.declared.config.Config.{Config}
use Rattle.locus_ids.specs.declared.ids.CallId.{CallId}
use Rattle.locus_ids.specs.declared.ids.EpochId.{EpochId}
use Rattle.locus_ids.specs.declared.ids.FileId.{FileId}
use Rattle.locus_ids.specs.declared.ids.Serial.{Serial}
use Rattle.locus_ids.specs.declared.ids.Stamp.{Stamp}
use Rattle.trace_book.specs.declared.call.Call.TheVariants as call
use Rattle.trace_book.specs.declared.operation.What.{What}
use Rattle.trace_book.specs.declared.operation.What.TheVariants as what
use Rattle.trace_book.specs.declared.operation.Served.{Served}
use Rattle.trace_book.specs.declared.operation.Served.TheVariants as served
use Rattle.trace_book.specs.declared.record.Record.TheVariants as says
use Rattle.call_rules.specs.declared.answer.Answer.TheVariants as answer
use Rattle.call_rules.specs.declared.want.Want.{Want}
use Rattle.call_rules.specs.declared.want.Want.TheVariants as want
use Rattle.call_rules.specs.Closing.{Unchanged}
use Rattle.call_rules.specs.Mending.{brings, mend_wants}
use Rattle.role_steps.specs.Views.{Told, Shown}
use Rattle.the_run.specs.Worlds.{Line}
use Rattle.tree_model.specs.declared.accepted.Waiting.{Waiting}
use Rattle.tree_model.specs.Calls.{call_named}
use Rattle.tree_model.specs.Given.{served_by}
use Rattle.tree_model.specs.Same.{is_served}
use Rattle.tree_model.specs.Histories.{history}
use Rattle.tree_model.specs.State.{has_stamp, kept_of}
use Rattle.tree_model.specs.Tree.{tree_of}
use Rattle.lawful_trace.specs.Progress.{Answers}
use Rattle.lawful_trace.specs.Tables.{begun}
use Rattle.tree_laws.specs.Calls.{log, script_as}
use Rattle.tree_laws.specs.Following.{IsFollowed, MayTell}
use Rattle.tree_laws.specs.Past.{WasLooked, Printed, LookRecord}
use Rattle.tree_laws.specs.Printed.{entries}
use Rattle.tree_laws.specs.Serials.{asked_now}
use Rattle.tree_laws.specs.Users.{brought_of, taken_whole}
use Rattle.tree_laws.proofs.Orders.Standing.{same_stamp_eq}
use Rattle.store_laws.proofs.Holdings.MendMends.{LooksWhole, whole_looked}
use Rattle.store_laws.proofs.Holdings.MendWants.{IsPlainLook, give_up_so, after_mend_so}

-- ---- the contents that a mend has brought ----

-- no look at whole contents
abbrev Unwhole : Want → Type 0
Unwhole (want.Look f (what.Whole s)) = ⊥
Unwhole _ = Unit {0}

unwhole_looks : (f : FileId) (w : What) → IsPlainLook w → Unwhole (want.Look f w)
unwhole_looks f (what.Name component) k = tt
unwhole_looks f what.List k = tt
unwhole_looks f what.Stat k = tt
unwhole_looks f (what.Whole s) k = k

look_stamp : (f g : FileId) (s stamp : Stamp) → want.Look f (what.Whole s) ≡ want.Look g (what.Whole stamp) → s ≡ stamp
look_stamp f g s stamp e = cc

brought_none : (ss : List Stamp) → brought_of ss [] ≡ []
brought_none [] = refl
brought_none (s ∷ ss) = refl

brought_more : (i : Serial) (file : FileId) (kept : List Stamp) (rest : Answers) (stamp : Stamp) → brings i file kept rest ≡ want.Look file (what.Whole stamp) → brought_of kept (rest ++ answer.Brought ∷ []) ≡ brought_of kept rest ++ stamp ∷ []
brought_more i file [] rest stamp e = absurd (subst Unwhole e (after_mend_so Unwhole unwhole_looks (λ f m. tt) (λ g k sites. tt) (λ i o. tt) (λ i. tt) (λ r. tt) tt i rest))
brought_more i file (s ∷ ss) [] stamp e = ap (λ (xs : List Stamp). s ∷ xs) (brought_none ss) ∙ ap (λ (y : Stamp). y ∷ []) (look_stamp file file s stamp e)
brought_more i file (s ∷ ss) (answer.Brought ∷ rest) stamp e = ap (λ (xs : List Stamp). s ∷ xs) (brought_more i file ss rest stamp e)
brought_more i file (s ∷ ss) (answer.Refused why ∷ rest) stamp e = absurd (subst Unwhole e (give_up_so Unwhole unwhole_looks (λ f m. tt) (λ g k sites. tt) (λ i o. tt) (λ i. tt) (λ r. tt) tt (Unchanged i ∷ []) why rest))
brought_more i file (s ∷ ss) (a ∷ rest) stamp e = absurd (subst Unwhole e tt)

taken_more : (file : FileId) (xs : Answers) (i : Serial) (kept : List Stamp) (rest : Answers) (stamp : Stamp) → xs ≡ answer.Merging i kept ∷ rest → mend_wants file (xs ++ []) ≡ want.Look file (what.Whole stamp) → taken_whole (xs ++ answer.Brought ∷ []) ≡ taken_whole xs ++ stamp ∷ []
taken_more file xs i kept rest stamp is e = subst (λ (ys : Answers). taken_whole (ys ++ answer.Brought ∷ []) ≡ taken_whole ys ++ stamp ∷ []) (sym is)
    (brought_more i file kept rest stamp (ap (brings i file kept) (sym (append-nil rest)) ∙ subst (λ (ys : Answers). mend_wants file (ys ++ []) ≡ want.Look file (what.Whole stamp)) is e))

pub wholes_brought : (c : Config) (t : List Line) (d : CallId) (caller : Waiting) (file : FileId) (stamp : Stamp) → call_named (entries t) d ≡ Some caller → asked_now c t d ≡ want.Look file (what.Whole stamp) →
    (caller.words ≡ call.Mend file) × (taken_whole (log t d ++ answer.Brought ∷ []) ≡ taken_whole (log t d) ++ stamp ∷ [])
wholes_brought c t d caller file stamp named asked = (k.words_are, taken_more file (log t d) k.brings_it.inst k.brings_it.kept k.brings_it.rest stamp k.brings_it.log_is (k.brings_it.goes []))
  where
    k : LooksWhole caller.words (begun (entries t) d) (log t d) file stamp
    k = whole_looked c (entries t) caller (begun (entries t) d) (log t d) file stamp (subst (λ (o : Option Waiting). script_as c (entries t) o (begun (entries t) d) None (log t d) ≡ want.Look file (what.Whole stamp)) named asked)

-- ---- what is served ----

served_asked : (asked s : Stamp) (kept : List Stamp) → is_served (served_by (what.Whole asked) kept) (served.At s) ≡ true → s ≡ asked
served_asked asked s kept e = over (has_stamp kept asked) e
  where
    over : (b : Bool) → is_served (cond b (Some (served.At asked)) None) (served.At s) ≡ true → s ≡ asked
    over true k = sym (same_stamp_eq asked s k)
    over false k = absurd (true_false (sym k))

look_asked : (c : Config) (older : List Line) (x : Told) (e : EpochId) (d : CallId) (request times : ℕ) (f : FileId) (asked s : Stamp) → MayTell c older x → Printed (LookRecord e d request times f (what.Whole asked) (served.At s)) older x → s ≡ asked
look_asked c older (Shown (says.Look at call number file w result)) e d request times f asked s may k = served_asked asked s kept
    (subst (λ (r : Served). is_served (served_by (what.Whole asked) kept) r ≡ true) k.served_is (subst (λ (y : What). is_served (served_by y kept) result ≡ true) k.what_is
    (and_second (tree_of c at file.group (entries older)).started (is_served (served_by w kept) result) may.row.gives)))
  where
    kept : List Stamp
    kept = kept_of (history c (entries older)) (tree_of c at file.group (entries older)) file
look_asked c older x e d request times f asked s may k = absurd k

pub whole_served : (c : Config) (t : List Line) (e : EpochId) (d : CallId) (request times : ℕ) (f : FileId) (asked s : Stamp) → IsFollowed c t → WasLooked t e d request times f (what.Whole asked) (served.At s) → s ≡ asked
whole_served c [] e d request times f asked s h was = absurd was
whole_served c (x ∷ older) e d request times f asked s h (inl now) = look_asked c older x.told e d request times f asked s h.0 now
whole_served c (x ∷ older) e d request times f asked s h (inr was) = whole_served c older e d request times f asked s h.1 was
