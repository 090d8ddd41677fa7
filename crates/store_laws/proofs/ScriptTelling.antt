-- What the records answer fits what was asked.
use Rattle.std.proofs.Common.{◌≡◌, ℕ, ◌-◌, ◌==◌, Bool, true, false, not, cond, List, [], ◌∷◌, ◌++◌, take, Option, Some, None, refl, sym, ◌∙◌, ap, subst}
use Rattle.std.specs.Option.{is_none, option_or}
use Rattle.role_steps.proofs.of_plain_facts.Options.{none_some, some_same}
use Rattle.role_steps.proofs.of_plain_facts.Tests.{and_first, and_second, true_false}
use Rattle.locus_ids.specs.declared.config.Config.{Config}
use Rattle.locus_ids.specs.declared.ids.CallId.{CallId}
use Rattle.locus_ids.specs.declared.ids.FileId.{FileId}
use Rattle.locus_ids.specs.declared.ids.Mode.{Mode}
use Rattle.locus_ids.specs.declared.ids.Mode.TheVariants as mode
use Rattle.locus_ids.specs.declared.ids.Serial.{Serial}
use Rattle.locus_ids.specs.declared.ids.Stamp.{Stamp}
use Rattle.locus_ids.specs.declared.refusal.Refusal.{Refusal}
use Rattle.locus_ids.specs.declared.refusal.Refusal.TheVariants as refusal
use Rattle.commit_graph.specs.Grants.{Opener, excludes, grant_refusal, kept_refusal}
use Rattle.commit_graph.specs.declared.history.Version.{Version}
use Rattle.trace_book.specs.declared.call.OpenMode.{OpenMode}
use Rattle.trace_book.specs.declared.call.OpenMode.TheVariants as opens
use Rattle.trace_book.specs.declared.operation.Op.{Op}
use Rattle.trace_book.specs.declared.operation.Op.TheVariants as op
use Rattle.trace_book.specs.declared.operation.Outcome.{Outcome}
use Rattle.trace_book.specs.declared.operation.Outcome.TheVariants as outcome
use Rattle.trace_book.specs.declared.operation.Served.{Served}
use Rattle.trace_book.specs.declared.operation.Served.TheVariants as served
use Rattle.trace_book.specs.declared.operation.What.{What}
use Rattle.trace_book.specs.declared.operation.What.TheVariants as what
use Rattle.trace_book.specs.declared.record.Record.{Record}
use Rattle.trace_book.specs.declared.record.Record.TheVariants as says
use Rattle.dir_format.specs.declared.looking.LookResult.{LookResult}
use Rattle.dir_format.specs.declared.looking.LookResult.TheVariants as look
use Rattle.dir_format.specs.Contents.{entries_of}
use Rattle.dir_format.specs.Lookups.{lookup}
use Rattle.commit_graph.specs.Versions.{content_of}
use Rattle.call_rules.specs.declared.answer.Answer.{Answer}
use Rattle.call_rules.specs.declared.answer.Answer.TheVariants as answer
use Rattle.call_rules.specs.declared.want.Want.{Want}
use Rattle.call_rules.specs.declared.want.Want.TheVariants as want
use Rattle.wire_messages.specs.declared.body.Opening.{Opening}
use Rattle.role_steps.specs.Opens.{mode_of}
use Rattle.role_steps.specs.Requests.{opening_of}
use Rattle.role_steps.specs.Views.{Told, Shown}
use Rattle.the_run.specs.Worlds.{Line}
use Rattle.tree_model.specs.declared.instance.Instance.{Instance}
use Rattle.tree_model.specs.Folds.{Trace}
use Rattle.tree_model.specs.Given.{gives_grant, gives_refusal, is_unnumbered, only_kept, refuses, served_by}
use Rattle.tree_model.specs.Histories.{history}
use Rattle.tree_model.specs.Opening.{held_by, is_only, is_placed, making_set, open_refusal, place_refusal, resolving_site}
use Rattle.tree_model.specs.Packs.{is_good_set}
use Rattle.lawful_trace.specs.TreeRows.{granted_group}
use Rattle.tree_model.specs.Same.{is_served, same_served, is_no_inode}
use Rattle.tree_model.specs.State.{TreeState, is_granted, has_stamp, has_stamp_of, instance_in, is_make, kept_of, openers}
use Rattle.tree_model.specs.Tree.{kept_in, tree_of}
use Rattle.lawful_trace.specs.Progress.{Answers, close_answer, entered, granted_answer, look_answer, outcome_answer}
use Rattle.lawful_trace.specs.Tables.{call_of_act, call_of_release}
use Rattle.tree_laws.specs.Calls.{heard, log, Waits}
use Rattle.tree_laws.specs.Following.{MayTell}
use Rattle.tree_laws.specs.Instances.{IsOpening}
use Rattle.tree_laws.specs.Printed.{entries}
use Rattle.tree_laws.specs.Serials.{asked_now}
use Rattle.tree_laws.proofs.Asking.{StepRecord}
use Rattle.tree_laws.proofs.Awaiting.{by_own, by_owner, last_same}
use Rattle.store_laws.proofs.Users.OpenGrants.{TellsVersion, tells_version}
use Rattle.store_laws.proofs.ScriptFitting.{NotChanged, LookFits, OpenFits, MakeFits, MendFits, DoFits, CloseFits, Fits}
use Rattle.store_laws.proofs.ScriptResults.{FoundRight, ResultRight, act_right, found_right, refusal_right}

abbrev With : ℕ → Told → List Line → List Line
With n x older = record { number = n; told = x } ∷ older

-- ---- looks ----

only_right : (kept : List Stamp) (why : Refusal) → same_served (only_kept kept) (served.No why) ≡ true → NotChanged why
only_right [] why e = refusal_right refusal.NoStorage why tt e
only_right (a ∷ []) why e = absurd (true_false (sym e))
only_right (a ∷ b ∷ others) why e = refusal_right (refusal.Conflict a b) why tt e

no_served : (w : What) (kept : List Stamp) (why : Refusal) → is_served (served_by w kept) (served.No why) ≡ true → NotChanged why
no_served (what.Name component) kept why e = only_right kept why e
no_served what.List kept why e = only_right kept why e
no_served what.Stat kept why e = only_right kept why e
no_served (what.Whole asked) kept why e = over (has_stamp kept asked) e
  where
    over : (b : Bool) → is_served (cond b (Some (served.At asked)) None) (served.No why) ≡ true → NotChanged why
    over true k = absurd (true_false (sym k))
    over false k = absurd (true_false (sym k))

refused_look : (w : What) (why : Refusal) → NotChanged why → LookFits w (answer.Refused why)
refused_look (what.Name component) why h = h
refused_look what.List why h = h
refused_look what.Stat why h = h
refused_look (what.Whole asked) why h = h

entered_fits : (component : List ℕ) (r : LookResult) → FoundRight r → LookFits (what.Name component) (entered component r)
entered_fits component (look.Found ino kind) h = h
entered_fits component look.Absent h = tt
entered_fits component (look.Ambiguous a b) h = tt

look_told : (c : Config) (before : Trace) (f : FileId) (w : What) (result : Served) (kept : List Stamp) → is_served (served_by w kept) result ≡ true → LookFits w (look_answer c before f w result)
look_told c before f w (served.No why) kept e = refused_look w why (no_served w kept why e)
look_told c before f (what.Name component) (served.At stamp) kept e = entered_fits component (lookup (entries_of (content_of (history c before) f stamp)) component) (found_right (content_of (history c before) f stamp) component)
look_told c before f what.List (served.At stamp) kept e = tt
look_told c before f what.Stat (served.At stamp) kept e = tt
look_told c before f (what.Whole asked) (served.At stamp) kept e = tt

-- ---- opens ----

granted_open : (m : OpenMode) (i : Serial) (f : FileId) (stamp : Option Stamp) (kept : List Stamp) → TellsVersion (mode_of (opening_of m)) stamp → OpenFits (granted_answer (mode_of (opening_of m)) i f stamp kept) m
granted_open opens.Read i f (Some v) kept on = tt
granted_open opens.Read i f None kept on = absurd (none_some on.0 on.1)
granted_open opens.Steady i f (Some v) kept on = tt
granted_open opens.Steady i f None kept on = absurd (none_some on.0 on.1)
granted_open opens.Write i f stamp kept on = tt
granted_open (opens.Resolve site) i f stamp kept on = tt

grant_told : (c : Config) (w : Want) (asked : FileId) (it : Opening) (m : Mode) (i : Serial) (f : FileId) (stamp : Option Stamp) (kept : List Stamp) → TellsVersion m stamp → mode_of it ≡ m → IsOpening c w asked it → Fits w (granted_answer m i f stamp kept)
grant_told c (want.Open file om) asked it m i f stamp kept on is o = subst (λ (y : Mode). OpenFits (granted_answer y i f stamp kept) om) (ap mode_of (sym o.1) ∙ is) (granted_open om i f stamp kept (subst (λ (y : Mode). TellsVersion y stamp) (sym (ap mode_of (sym o.1) ∙ is)) on))
grant_told c (want.OpenToMend file) asked it m i f stamp kept on is o = subst (λ (y : Mode). MendFits (granted_answer y i f stamp kept)) (ap mode_of (sym o.1) ∙ is) tt
grant_told c (want.Make group kind sites) asked it m i f stamp kept on is o = subst (λ (y : Mode). MakeFits (granted_answer y i f stamp kept)) (ap mode_of (sym o.2) ∙ is) tt
grant_told c (want.Look file w) asked it m i f stamp kept on is o = absurd o
grant_told c (want.Do j p) asked it m i f stamp kept on is o = absurd o
grant_told c (want.Close j) asked it m i f stamp kept on is o = absurd o
grant_told c (want.Give r) asked it m i f stamp kept on is o = absurd o
grant_told c want.Never asked it m i f stamp kept on is o = absurd o

refused_open : (c : Config) (w : Want) (asked : FileId) (it : Opening) (why : Refusal) → NotChanged why → IsOpening c w asked it → Fits w (answer.Refused why)
refused_open c (want.Open file om) asked it why h o = h
refused_open c (want.OpenToMend file) asked it why h o = h
refused_open c (want.Make group kind sites) asked it why h o = h
refused_open c (want.Look file w) asked it why h o = absurd o
refused_open c (want.Do j p) asked it why h o = absurd o
refused_open c (want.Close j) asked it why h o = absurd o
refused_open c (want.Give r) asked it why h o = absurd o
refused_open c want.Never asked it why h o = absurd o

abbrev MaybeRight : Option Refusal → Type 0
MaybeRight None = Unit {0}
MaybeRight (Some r) = NotChanged r

kept_right : (m : Mode) (kept : List Stamp) → MaybeRight (kept_refusal m kept)
kept_right mode.Read [] = tt
kept_right mode.Read (a ∷ []) = tt
kept_right mode.Read (a ∷ b ∷ others) = tt
kept_right mode.Write [] = tt
kept_right mode.Write (a ∷ []) = tt
kept_right mode.Write (a ∷ b ∷ others) = tt
kept_right mode.Resolve [] = tt
kept_right mode.Resolve (a ∷ []) = tt
kept_right mode.Resolve (a ∷ b ∷ others) = tt
kept_right mode.Mend [] = tt
kept_right mode.Mend (a ∷ []) = tt
kept_right mode.Mend (a ∷ b ∷ others) = tt
kept_right mode.Make kept = tt

grant_right : (m : Mode) (os : List Opener) (kept : List Stamp) → MaybeRight (grant_refusal m os kept)
grant_right m [] kept = kept_right m kept
grant_right m (o ∷ os) kept = over (excludes m o) refl (grant_right m os kept)
  where
    over : (b : Bool) → excludes m o ≡ b → MaybeRight (grant_refusal m os kept) → MaybeRight (grant_refusal m (o ∷ os) kept)
    over true e k = rw e tt
    over false e k = rw e k

either_right : (a b : Option Refusal) → MaybeRight a → MaybeRight b → MaybeRight (option_or a b)
either_right None b h k = k
either_right (Some r) b h k = h

place_right : (h : List Version) (t : TreeState) (m : Mode) (call : CallId) (f : FileId) → MaybeRight (place_refusal h t m call f)
place_right h t mode.Resolve call f = over (has_stamp_of (kept_of h t f) (held_by t (resolving_site t call) f.ino))
  where
    over : (b : Bool) → MaybeRight (cond b None (Some refusal.NoStorage))
    over true = tt
    over false = tt
place_right h t mode.Make call f = over (is_good_set t.config t.group t.members (making_set t call))
  where
    over : (b : Bool) → MaybeRight (cond b None (Some refusal.NoStorage))
    over true = tt
    over false = tt
place_right h t _ call f = tt

open_right : (h : List Version) (t : TreeState) (m : Mode) (call : CallId) (f : FileId) → MaybeRight (open_refusal h t m call f)
open_right h t mode.Make call f = place_right h t mode.Make call f
open_right h t m call f = either_right (grant_refusal m (openers t f) (kept_of h t f)) (place_refusal h t m call f) (grant_right m (openers t f) (kept_of h t f)) (place_right h t m call f)

refuses_right : (h : List Version) (t : TreeState) (call : CallId) (m : Mode) (f : FileId) (why : Refusal) → gives_refusal h t call m f why ≡ true → NotChanged why
refuses_right h t call m f why e = over (open_refusal h t m call f) (open_right h t m call f) (and_second (is_unnumbered m f) _ (and_second t.started _ e))
  where
    no_inode : (r : Refusal) → is_no_inode r ≡ true → NotChanged r
    no_inode (refusal.Changed at) k = absurd (true_false (sym k))
    no_inode r k = tt

    over : (o : Option Refusal) → MaybeRight o → refuses h t call m f why o ≡ true → NotChanged why
    over None k r = no_inode why (and_first (is_no_inode why) _ (and_second (is_make m) _ r))
    over (Some old) k r = refusal_right old why k r

-- ---- operations and closes ----

outcome_told : (i : Serial) (o : Op) (result : Outcome) → ResultRight o result → DoFits o (outcome_answer result)
outcome_told i o (outcome.No why) h = h
outcome_told i (op.Find component) (outcome.Found ino kind) h = h
outcome_told i (op.Find component) outcome.Done h = absurd h
outcome_told i (op.Find component) (outcome.Data bytes) h = absurd h
outcome_told i (op.Find component) (outcome.Committed stamp) h = absurd h
outcome_told i o outcome.Done h = tt
outcome_told i o (outcome.Found ino kind) h = tt
outcome_told i o (outcome.Data bytes) h = tt
outcome_told i o (outcome.Committed stamp) h = tt

close_told : (stamp : Option Stamp) (o : Option Instance) → CloseFits (close_answer stamp o)
close_told stamp None = tt
close_told stamp (Some x) = over x.work.owes
  where
    over : (b : Bool) → CloseFits (cond b (answer.Refused refusal.Spent) (answer.Ended (cond x.work.fresh stamp None)))
    over true = tt
    over false = tt

-- ---- every record ----

-- what waits is what was told
told_fits : (c : Config) (n : ℕ) (r : Record) (older : List Line) (d : CallId) (a b : Answer) (w : Want) (xs : Answers) → heard c (With n (Shown r) older) d ≡ xs ++ b ∷ [] → asked_now c older d ≡ w → Fits w b → Waits c (With n (Shown r) older) d a → Fits (asked_now c older d) a
told_fits c n r older d a b w xs is asked fit waits = subst (λ (v : Want). Fits v a) (sym asked) (subst (Fits w) (sym (last_same (log older d) xs a b (sym waits ∙ is))) fit)

-- a step of a call answers it by what fits its request
pub step_fits : (c : Config) (n : ℕ) (r : Record) (older : List Line) (d : CallId) (a : Answer) → MayTell c older (Shown r) → StepRecord (entries older) r d → Waits c (With n (Shown r) older) d a → Fits (asked_now c older d) a
step_fits c n (says.Look e call request f w result) older d a may step waits = told_fits c n (says.Look e call request f w result) older d a (look_answer c (entries older) f w result) (want.Look f w) (take (request - 1) (heard c older d)) (by_own call d _ (heard c older d) step)
    (subst (λ (y : CallId). asked_now c older y ≡ want.Look f w) step may.in_time.asks.asked) (look_told c (entries older) f w result (kept_of (history c (entries older)) (tree_of c e f.group (entries older)) f) (and_second (tree_of c e f.group (entries older)).started _ may.row.gives)) waits
step_fits c n (says.Grant e call request i m f stamp ss) older d a may step waits = told_fits c n (says.Grant e call request i m f stamp ss) older d a (granted_answer m i f stamp (kept_in c (entries older) e f)) may.in_time.opens.asks.wanted (heard c older d) (by_own call d _ (heard c older d) step)
    (subst (λ (y : CallId). asked_now c older y ≡ may.in_time.opens.asks.wanted) step may.in_time.opens.asks.asks.asked)
    (grant_told c may.in_time.opens.asks.wanted may.in_time.opens.asked may.in_time.opens.it m i f stamp (kept_in c (entries older) e f) (tells_version (history c (entries older)) (tree_of c e f.group (entries older)) call i m f stamp ss may.row.gives) may.in_time.opens.mode_is may.in_time.opens.asks.opening_is) waits
step_fits c n (says.Refuse e call request i m f why) older d a may step waits = told_fits c n (says.Refuse e call request i m f why) older d a (answer.Refused why) may.in_time.opens.asks.wanted (heard c older d) (by_own call d _ (heard c older d) step)
    (subst (λ (y : CallId). asked_now c older y ≡ may.in_time.opens.asks.wanted) step may.in_time.opens.asks.asks.asked)
    (refused_open c may.in_time.opens.asks.wanted may.in_time.opens.asked may.in_time.opens.it why (refuses_right (history c (entries older)) (tree_of c e f.group (entries older)) call m f why may.row.gives) may.in_time.opens.asks.opening_is) waits
step_fits c n (says.Act e i number o result) older d a may step waits = told_fits c n (says.Act e i number o result) older d a (outcome_answer result) (want.Do i o) (heard c older d) (by_owner (call_of_act (entries older) e i number) d _ (heard c older d) step)
    (subst (λ (y : CallId). asked_now c older y ≡ want.Do i o) (some_same may.in_time.call d (sym may.in_time.owner ∙ step)) may.in_time.asks.asked)
    (outcome_told i o result (act_right (history c (entries older)) (tree_of c e (granted_group (entries older) e i) (entries older)) i number o result may.row.gives)) waits
step_fits c n (says.Release e i f stamp) older d a may step waits = told_fits c n (says.Release e i f stamp) older d a (close_answer stamp (instance_in (tree_of c e f.group (entries older)) i)) (want.Close i) (heard c older d) (by_owner (call_of_release (entries older) e i) d _ (heard c older d) step)
    (subst (λ (y : CallId). asked_now c older y ≡ want.Close i) (some_same may.in_time.call d (sym may.in_time.owner ∙ step)) may.in_time.asks.asked) (close_told stamp (instance_in (tree_of c e f.group (entries older)) i)) waits
step_fits c n _ older d a may step waits = absurd step
