-- Of what a read was answered, no refusal says that a descriptor is stale, and nothing that was done was refused.
use Rattle.std.proofs.Common.{◌≡◌, ℕ, ◌==◌, ◌+◌, ◌-◌, Bool, true, false, cond, List, [], ◌∷◌, ◌++◌, Option, Some, None, refl, sym, ◌∙◌, ap, subst, take}
use Rattle.std.specs.Prelude.{nat_lt}
use Rattle.std.specs.Option.{option_or}
use Rattle.plain_facts.proofs.Options.{none_some, some_same}
use Rattle.plain_facts.proofs.Tests.{and_second, true_false}
use Rattle.locus_ids.specs.declared.config.Config.{Config}
use Rattle.locus_ids.specs.declared.ids.CallId.{CallId}
use Rattle.locus_ids.specs.declared.ids.FileId.{FileId}
use Rattle.locus_ids.specs.declared.ids.Mode.{Mode}
use Rattle.locus_ids.specs.declared.ids.Mode.TheVariants as mode
use Rattle.locus_ids.specs.declared.ids.Serial.{Serial}
use Rattle.locus_ids.specs.declared.ids.Stamp.{Stamp}
use Rattle.locus_ids.specs.declared.refusal.Refusal.{Refusal}
use Rattle.locus_ids.specs.declared.refusal.Refusal.TheVariants as refusal
use Rattle.commit_graph.specs.Grants.{Opener, excluder, kept_refusal}
use Rattle.commit_graph.specs.declared.history.Version.{Version}
use Rattle.file_content.specs.Contents.{part}
use Rattle.trace_book.specs.Same.{same_call}
use Rattle.trace_book.specs.declared.call.Call.TheVariants as call
use Rattle.trace_book.specs.declared.descriptor.Beginning.{Beginning}
use Rattle.trace_book.specs.declared.operation.Op.{Op}
use Rattle.trace_book.specs.declared.operation.Op.TheVariants as op
use Rattle.trace_book.specs.declared.operation.Outcome.{Outcome}
use Rattle.trace_book.specs.declared.operation.Outcome.TheVariants as outcome
use Rattle.trace_book.specs.declared.record.Record.{Record}
use Rattle.trace_book.specs.declared.record.Record.TheVariants as says
use Rattle.call_rules.specs.declared.answer.Answer.{Answer}
use Rattle.call_rules.specs.declared.answer.Answer.TheVariants as answer
use Rattle.call_rules.specs.declared.want.Want.TheVariants as want
use Rattle.call_rules.specs.Descriptors.{lowest_free}
use Rattle.role_steps.specs.Own.{Every}
use Rattle.role_steps.specs.Views.{Told, Shown}
use Rattle.the_run.specs.Worlds.{Line}
use Rattle.tree_model.specs.declared.accepted.Waiting.{Waiting}
use Rattle.tree_model.specs.declared.instance.Instance.{Instance}
use Rattle.tree_model.specs.Calls.{call_named}
use Rattle.tree_model.specs.Given.{gives_act, gives_refusal, instance_gives, is_unnumbered, refuses}
use Rattle.tree_model.specs.Histories.{history}
use Rattle.tree_model.specs.Opening.{open_refusal}
use Rattle.tree_model.specs.Same.{same_outcome, same_refusal}
use Rattle.tree_model.specs.State.{TreeState, instance_in, kept_of, openers}
use Rattle.tree_model.specs.Tree.{kept_in, tree_of}
use Rattle.tree_model.specs.Working.{free_pages}
use Rattle.lawful_trace.specs.Progress.{Answers, answers, close_answer, granted_answer, is_packed_in, look_answer, outcome_answer, wants_after, wants_next}
use Rattle.lawful_trace.specs.Tables.{begun, call_of_act, call_of_release, descriptor, is_call}
use Rattle.lawful_trace.specs.TreeRows.{MayAct, MayRefuse, granted_group}
use Rattle.tree_laws.specs.Following.{IsFollowed, MayTell}
use Rattle.tree_laws.specs.Printed.{entries}
use Rattle.tree_laws.proofs.Awaiting.{named_before}
use Rattle.tree_laws.proofs.Fresh.{IsNamed, calls_are_low, next_is_new, numbered}
use Rattle.tree_laws.proofs.Names.{same_call_eq}
use Rattle.tree_laws.proofs.Owing.{every_added}
use Rattle.tree_laws.proofs.Scripts.{begun_stays, named_stays}
use Rattle.headline_laws.proofs.OneVersion.Asks.{AsRead, read_asks, read_opens, read_wants}
use Rattle.headline_laws.proofs.OneVersion.Granted.{Blank, blank}

abbrev With : ℕ → Told → List Line → List Line
With n x older = record { number = n; told = x } ∷ older

-- it doesn't say that a descriptor is stale
abbrev pub NotStale : Refusal → Type 0
NotStale (refusal.Stale e) = ⊥
NotStale _ = Unit {0}

abbrev pub AnswerRight : Answer → Type 0
AnswerRight (answer.Refused why) = NotStale why
AnswerRight (answer.Did (outcome.No why)) = ⊥
AnswerRight _ = Unit {0}

-- ---- what the tree gives ----

same_not_stale : (r why : Refusal) → NotStale r → same_refusal r why ≡ true → NotStale why
same_not_stale (refusal.Stale a) why h e = absurd h
same_not_stale r (refusal.Stale b) h e = absurd (true_false (sym e))
same_not_stale r why h e = tt

-- an operation that reads is refused for want of room at most
read_right : (h : List Version) (t : TreeState) (i : Serial) (n at len : ℕ) (result : Outcome) → gives_act h t i n (op.Read at len) result ≡ true → AnswerRight (outcome_answer result)
read_right h t i n at len result e = over (instance_in t i) e
  where
    over : (o : Option Instance) → instance_gives h t n (op.Read at len) result o ≡ true → AnswerRight (outcome_answer result)
    over None k = absurd (true_false (sym k))
    over (Some x) k = by (nat_lt (free_pages h t x.grant.ss) 0) result (and_second (n == x.work.ops + 1) _ k)
      where
        by : (b : Bool) (r : Outcome) → same_outcome (cond b (outcome.No (refusal.NoSpace 0 (free_pages h t x.grant.ss))) (outcome.Data (part x.work.content at len))) r ≡ true → AnswerRight (outcome_answer r)
        by true (outcome.No why) q = same_not_stale (refusal.NoSpace 0 (free_pages h t x.grant.ss)) why tt q
        by false (outcome.No why) q = absurd (true_false (sym q))
        by b outcome.Done q = tt
        by b (outcome.Found ino kind) q = tt
        by b (outcome.Data bytes) q = tt
        by b (outcome.Committed stamp) q = tt

abbrev MaybeRight : Option Refusal → Type 0
MaybeRight None = Unit {0}
MaybeRight (Some why) = NotStale why

kept_right : (kept : List Stamp) → MaybeRight (kept_refusal mode.Read kept)
kept_right [] = tt
kept_right (a ∷ []) = tt
kept_right (a ∷ b ∷ others) = tt

open_right : (h : List Version) (t : TreeState) (id : CallId) (f : FileId) → MaybeRight (open_refusal h t mode.Read id f)
open_right h t id f = by (excluder mode.Read (openers t f)) refl
  where
    none : (o : Option Refusal) → MaybeRight o → MaybeRight (option_or o None)
    none None k = k
    none (Some why) k = k

    by : (o : Option Opener) → excluder mode.Read (openers t f) ≡ o → MaybeRight (open_refusal h t mode.Read id f)
    by None q = rw q (none (kept_refusal mode.Read (kept_of h t f)) (kept_right (kept_of h t f)))
    by (Some x) q = rw q tt

refused_right : (h : List Version) (t : TreeState) (id : CallId) (f : FileId) (why : Refusal) → gives_refusal h t id mode.Read f why ≡ true → NotStale why
refused_right h t id f why e = over (open_refusal h t mode.Read id f) (open_right h t id f) (and_second (is_unnumbered mode.Read f) _ (and_second t.started _ e))
  where
    over : (o : Option Refusal) → MaybeRight o → refuses h t id mode.Read f why o ≡ true → NotStale why
    over None k r = absurd (true_false (sym r))
    over (Some old) k r = same_not_stale old why k r

close_right : (stamp : Option Stamp) (o : Option Instance) → AnswerRight (close_answer stamp o)
close_right stamp None = tt
close_right stamp (Some x) = over x.work.owes
  where
    over : (b : Bool) → AnswerRight (cond b (answer.Refused refusal.Spent) (answer.Ended (cond x.work.fresh stamp None)))
    over true = tt
    over false = tt

granted_right : (m : Mode) (i : Serial) (f : FileId) (stamp : Option Stamp) (kept : List Stamp) → AnswerRight (granted_answer m i f stamp kept)
granted_right mode.Mend i f stamp kept = tt
granted_right mode.Read i f (Some stamp) kept = tt
granted_right mode.Read i f None kept = tt
granted_right mode.Write i f stamp kept = tt
granted_right mode.Resolve i f stamp kept = tt
granted_right mode.Make i f stamp kept = tt

-- ---- line by line ----

module _ (c : Config) (d : CallId) (w : Waiting) (fd at len : ℕ) (reads : w.words ≡ call.Read fd at len) (b : Beginning) where
  abbrev Right : List Line → Type 0
  Right t = Every AnswerRight (answers c (entries t) d)

  module _ (n : ℕ) (older : List Line) (named : call_named (entries older) d ≡ Some w) (starts : begun (entries older) d ≡ Some b) (k : Right older) where
    abbrev old : Answers
    old = answers c (entries older) d

    asks_so : (xs : Answers) → AsRead at len (wants_after c (entries older) d xs)
    asks_so xs = subst (AsRead at len) (sym (read_wants c (entries older) d w b fd at len xs named starts reads)) (read_asks c.mounts (is_packed_in c (entries older) w.epoch) (lowest_free (descriptor (entries older) w.site w.process)) fd at len b xs)

    more : (a : Answer) (q : Bool) → (q ≡ true → AnswerRight a) → Every AnswerRight (cond q (old ++ a ∷ []) old)
    more a true right = every_added AnswerRight old a k (right refl)
    more a false right = k

    acted : (it : _) (i : Serial) (number : ℕ) (o : Op) (result : Outcome) → MayAct c (entries older) it i number o result → is_call (call_of_act (entries older) it i number) d ≡ true → AnswerRight (outcome_answer result)
    acted it i number o result row is = read_right (history c (entries older)) (tree_of c it (granted_group (entries older) it i) (entries older)) i number at len result (subst (λ (p : Op). gives_act (history c (entries older)) (tree_of c it (granted_group (entries older) it i) (entries older)) i number p result ≡ true) asked row.gives)
      where
        mine : row.step.call ≡ d
        mine = same_call_eq row.step.call d (subst (λ (z : Option CallId). is_call z d ≡ true) row.step.owned is)

        asked : o ≡ op.Read at len
        asked = subst (AsRead at len) (subst (λ (y : CallId). wants_after c (entries older) y (answers c (entries older) y) ≡ want.Do i o) mine row.step.asked) (asks_so old)

    refused : (it : _) (who : CallId) (request : ℕ) (m : Mode) (f : FileId) (why : Refusal) → MayRefuse c (entries older) it who request m f why → same_call who d ≡ true → NotStale why
    refused it who request m f why row is = refused_right (history c (entries older)) (tree_of c it f.group (entries older)) who f why (subst (λ (y : Mode). gives_refusal (history c (entries older)) (tree_of c it f.group (entries older)) who y f why ≡ true) reading row.gives)
      where
        reading : m ≡ mode.Read
        reading = read_opens at len m f (wants_next c (entries older) who) (subst (λ (y : CallId). AsRead at len (wants_after c (entries older) y (answers c (entries older) y))) (sym (same_call_eq who d is)) (asks_so old)) row.opens.asked

    right_record : (r : Record) → MayTell c older (Shown r) → Right (With n (Shown r) older)
    right_record (says.Look it who request f what result) may = over (same_call who d) refl
      where
        over : (q : Bool) → same_call who d ≡ q → Every AnswerRight (cond q (take (request - 1) old ++ look_answer c (entries older) f what result ∷ []) old)
        over true q = absurd (subst (AsRead at len) (subst (λ (y : CallId). wants_after c (entries older) y (take (request - 1) (answers c (entries older) y)) ≡ want.Look f what) (same_call_eq who d q) may.row.asked) (asks_so (take (request - 1) old)))
        over false q = k
    right_record (says.Grant it who request i m f stamp ss) may = more (granted_answer m i f stamp (kept_in c (entries older) it f)) (same_call who d) (λ q. granted_right m i f stamp (kept_in c (entries older) it f))
    right_record (says.Refuse it who request i m f why) may = more (answer.Refused why) (same_call who d) (λ q. refused it who request m f why may.row q)
    right_record (says.Act it i number o result) may = more (outcome_answer result) (is_call (call_of_act (entries older) it i number) d) (λ q. acted it i number o result may.row q)
    right_record (says.Release it i f stamp) may = more (close_answer stamp (instance_in (tree_of c it f.group (entries older)) i)) (is_call (call_of_release (entries older) it i) d) (λ q. close_right stamp (instance_in (tree_of c it f.group (entries older)) i))
    right_record r may = k

    right_told : (x : Told) → MayTell c older x → Right (With n x older)
    right_told (Shown r) may = right_record r may
    right_told x may = k

  pub answers_right : (t : List Line) → IsFollowed c t → call_named (entries t) d ≡ Some w → begun (entries t) d ≡ Some b → Every AnswerRight (answers c (entries t) d)
  answers_right [] h named starts = absurd (none_some w named)
  answers_right (x ∷ older) h named starts = named_before c x.number x.told older d (Right (x ∷ older)) h.0 new (was (λ then began. answers_right older h.1 then began)) (w, named)
    where
      new : (s process : ℕ) (words : _) → x.told ≡ Shown (says.Accept s process d words) → Right (x ∷ older)
      new s process words is = subst (λ (y : Told). Right (With x.number y older)) (sym is) (subst (Every AnswerRight) (sym none.answers_are) tt)
        where
          may : MayTell c older (Shown (says.Accept s process d words))
          may = subst (MayTell c older) is h.0

          none : Blank c (entries older) d
          none = blank c older h.1 d (λ k. next_is_new (entries older) s d (calls_are_low c older h.1 d k) (numbered c (entries older) s process d words may.row))

      was : (call_named (entries older) d ≡ Some w → begun (entries older) d ≡ Some b → Right older) → IsNamed (entries older) d → Right (x ∷ older)
      was before k = (let same : k.0 ≡ w = some_same k.0 w (sym (named_stays c x.number x.told older d h.1 h.0 k ∙ k.1) ∙ named) in
          let then : call_named (entries older) d ≡ Some w = k.1 ∙ ap Some same in
          let began : begun (entries older) d ≡ Some b = sym (begun_stays c x.number x.told older d h.1 h.0 k) ∙ starts in
          right_told x.number older then began (before then began) x.told h.0)
