-- Of two calls of a process that ask something in an epoch each is the other, mends of one group among them.
use Rattle.std.proofs.Common.{◌≡◌, ℕ, ◌<◌, ◌==◌, Bool, true, false, cond, List, [], ◌∷◌, Option, Some, None, refl, sym, ◌∙◌, ap, subst, ◌⊎◌, inl, inr, arith}
use Rattle.std.proofs.lemmas.Bool.Decides.{nat_tests}
use Rattle.role_steps.proofs.of_plain_facts.Options.{none_some, some_same}
use Rattle.role_steps.proofs.of_plain_facts.Tests.{true_false}
use Rattle.locus_ids.specs.declared.config.Config.{Config}
use Rattle.locus_ids.specs.declared.ids.CallId.{CallId}
use Rattle.locus_ids.specs.declared.ids.EpochId.{EpochId}
use Rattle.locus_ids.specs.declared.ids.FileId.{FileId}
use Rattle.locus_ids.specs.declared.ids.Serial.{Serial}
use Rattle.locus_ids.specs.declared.ids.Stamp.{Stamp}
use Rattle.locus_ids.specs.declared.refusal.Refusal.{Refusal}
use Rattle.locus_ids.specs.declared.refusal.Refusal.TheVariants as refusal
use Rattle.trace_book.specs.Same.{same_call}
use Rattle.trace_book.specs.declared.call.Call.{Call}
use Rattle.trace_book.specs.declared.call.Call.TheVariants as call
use Rattle.trace_book.specs.declared.descriptor.Beginning.{Beginning}
use Rattle.trace_book.specs.declared.descriptor.Beginning.TheVariants as begins
use Rattle.trace_book.specs.declared.operation.What.{What}
use Rattle.trace_book.specs.declared.record.Record.{Record}
use Rattle.trace_book.specs.declared.record.Record.TheVariants as says
use Rattle.trace_book.specs.declared.reply.Reply.TheVariants as reply
use Rattle.call_rules.specs.declared.answer.Answer.TheVariants as answer
use Rattle.call_rules.specs.declared.want.Want.{Want}
use Rattle.call_rules.specs.declared.want.Want.TheVariants as want
use Rattle.call_rules.specs.Closing.{Unchanged, give_up}
use Rattle.call_rules.specs.Mending.{after_mend, brings, mend_wants}
use Rattle.call_rules.specs.Opening.{close_wants}
use Rattle.call_rules.specs.Scripts.{begun_wants, where_packed}
use Rattle.wire_messages.specs.declared.body.Opening.{Opening}
use Rattle.role_steps.specs.Views.{Told, Shown}
use Rattle.the_run.specs.Worlds.{Line}
use Rattle.tree_model.specs.declared.accepted.Waiting.{Waiting}
use Rattle.tree_model.specs.Calls.{call_named, accepted_as}
use Rattle.lawful_trace.specs.CallRows.{is_mend_in}
use Rattle.lawful_trace.specs.Progress.{Answers, is_packed_in}
use Rattle.lawful_trace.specs.Tables.{begun}
use Rattle.lawful_trace.specs.TreeRows.{IsCallIn}
use Rattle.tree_laws.specs.Printed.{entries}
use Rattle.tree_laws.specs.Calls.{is_request, log, script_as}
use Rattle.tree_laws.specs.Following.{IsFollowed, MayTell}
use Rattle.tree_laws.specs.Instances.{IsOpening}
use Rattle.tree_laws.specs.Processes.{IsMend, OnlyMends, WaitsFor}
use Rattle.tree_laws.specs.Serials.{asked_now}
use Rattle.tree_laws.proofs.Alone.{compare, call_is}
use Rattle.tree_laws.proofs.Later.{earlier_is_over}
use Rattle.tree_laws.proofs.OneBoot.{one_boot}

-- ---- a mend wants of files its own directory alone ----

abbrev WantsOf : FileId → Want → Type 0
WantsOf file (want.Look f w) = f ≡ file
WantsOf file (want.OpenToMend f) = f ≡ file
WantsOf file (want.Open f m) = ⊥
WantsOf file (want.Make group kind sites) = ⊥
WantsOf file _ = Unit {0}

gives_up : (file : FileId) (i : Serial) (why : Refusal) (xs : Answers) → WantsOf file (give_up (Unchanged i ∷ []) why xs)
gives_up file i why [] = tt
gives_up file i why (answer.Ended stamp ∷ []) = tt
gives_up file i why (answer.Ended stamp ∷ (x ∷ xs)) = tt
gives_up file i why (answer.Refused reason ∷ []) = tt
gives_up file i why (answer.Refused reason ∷ (x ∷ xs)) = tt
gives_up file i why (_ ∷ xs) = tt

closes_it : (file : FileId) (i : Serial) (xs : Answers) → WantsOf file (close_wants i xs)
closes_it file i [] = tt
closes_it file i (answer.Ended stamp ∷ []) = tt
closes_it file i (answer.Refused why ∷ []) = tt
closes_it file i (answer.Ended stamp ∷ (x ∷ xs)) = tt
closes_it file i (answer.Refused why ∷ (x ∷ xs)) = tt
closes_it file i (_ ∷ xs) = tt

mends_it : (file : FileId) (i : Serial) (xs : Answers) → WantsOf file (after_mend i xs)
mends_it file i [] = tt
mends_it file i (answer.Did o ∷ xs) = closes_it file i xs
mends_it file i (answer.Refused why ∷ xs) = gives_up file i why xs
mends_it file i (_ ∷ xs) = tt

brings_it : (file : FileId) (i : Serial) (stamps : List Stamp) (xs : Answers) → WantsOf file (brings i file stamps xs)
brings_it file i [] xs = mends_it file i xs
brings_it file i (s ∷ stamps) [] = refl
brings_it file i (s ∷ stamps) (answer.Brought ∷ xs) = brings_it file i stamps xs
brings_it file i (s ∷ stamps) (answer.Refused why ∷ xs) = gives_up file i why xs
brings_it file i (s ∷ stamps) (_ ∷ xs) = tt

mend_its : (file : FileId) (xs : Answers) → WantsOf file (mend_wants file xs)
mend_its file [] = refl
mend_its file (answer.Merging i kept ∷ xs) = brings_it file i kept xs
mend_its file (answer.Refused why ∷ []) = tt
mend_its file (answer.Refused why ∷ (x ∷ xs)) = tt
mend_its file (_ ∷ xs) = tt

packed_its : (file : FileId) (packed : ℕ → Bool) (w : Want) → WantsOf file w → WantsOf file (where_packed packed w)
packed_its file packed w k = over w k
  where
    by_test : (b : Bool) (y : Want) → WantsOf file y → WantsOf file (cond b y (want.Give (reply.No refusal.NoStorage)))
    by_test true y k = k
    by_test false y k = tt

    over : (y : Want) → WantsOf file y → WantsOf file (where_packed packed y)
    over (want.Look f what) k = by_test (packed f.group) (want.Look f what) k
    over (want.Open f how) k = absurd k
    over (want.OpenToMend f) k = by_test (packed f.group) (want.OpenToMend f) k
    over (want.Make group kind sites) k = absurd k
    over (want.Do i o) k = tt
    over (want.Close i) k = tt
    over (want.Give r) k = tt
    over want.Never k = tt

begun_its : (c : Config) (file : FileId) (b : Beginning) (xs : Answers) → WantsOf file (begun_wants c.mounts None (call.Mend file) b xs)
begun_its c file (begins.Denied why) xs = tt
begun_its c file (begins.Uses e i) xs = tt
begun_its c file (begins.Walks id) xs = mend_its file xs
begun_its c file (begins.Reopens kept last) xs = tt
begun_its c file begins.Frees xs = tt

script_its : (c : Config) (before : _) (file : FileId) (w : Waiting) (o : Option Beginning) (xs : Answers) → w.words ≡ call.Mend file → WantsOf file (script_as c before (Some w) o None xs)
script_its c before file w None xs is = tt
script_its c before file w (Some b) xs is = subst (λ (words : Call). WantsOf file (script_as c before (Some (record w { words = words })) (Some b) None xs)) (sym is) (packed_its file (is_packed_in c before w.epoch) (begun_wants c.mounts None (call.Mend file) b xs) (begun_its c file b xs))

asked_its : (c : Config) (t : List Line) (d : CallId) (w : Waiting) (file : FileId) → call_named (entries t) d ≡ Some w → w.words ≡ call.Mend file → WantsOf file (asked_now c t d)
asked_its c t d w file named is = subst (λ (o : Option Waiting). WantsOf file (script_as c (entries t) o (begun (entries t) d) None (log t d))) (sym named) (script_its c (entries t) file w (begun (entries t) d) (log t d) is)

-- a mend asks of its own directory alone
abbrev pub LooksIn : ℕ → Call → Type 0
LooksIn g (call.Mend file) = file.group ≡ g
LooksIn g _ = Unit {0}

-- what is asked of a file of the group is asked by no mend of another one
pub look_in : (c : Config) (t : List Line) (d : CallId) (w : Waiting) (f : FileId) (what : What) → call_named (entries t) d ≡ Some w → asked_now c t d ≡ want.Look f what → LooksIn f.group w.words
look_in c t d w f what named asked = over w.words refl
  where
    over : (words : Call) → w.words ≡ words → LooksIn f.group words
    over (call.Mend file) is = ap (λ (x : FileId). x.group) (sym (subst (WantsOf file) asked (asked_its c t d w file named is)))
    over _ is = tt

pub open_in : (c : Config) (t : List Line) (d : CallId) (w : Waiting) (wanted : Want) (f : FileId) (it : Opening) → call_named (entries t) d ≡ Some w → asked_now c t d ≡ wanted → IsOpening c wanted f it → LooksIn f.group w.words
open_in c t d w wanted f it named asked opening = over w.words refl
  where
    mended : (file : FileId) (y : Want) → WantsOf file y → IsOpening c y f it → file.group ≡ f.group
    mended file (want.OpenToMend g) k o = ap (λ (x : FileId). x.group) (sym (o.0 ∙ k))
    mended file (want.Open g m) k o = absurd k
    mended file (want.Make group kind sites) k o = absurd k
    mended file _ k o = absurd o

    over : (words : Call) → w.words ≡ words → LooksIn f.group words
    over (call.Mend file) is = mended file wanted (subst (WantsOf file) asked (asked_its c t d w file named is)) opening
    over _ is = tt

-- ---- mends are of process 0 ----

abbrev MendsAreSystem : List Line → Type 0
MendsAreSystem t = (d : CallId) (w : Waiting) → call_named (entries t) d ≡ Some w → IsMend w.words → w.process ≡ 0

system_accept : (c : Config) (n s process : ℕ) (new : CallId) (words : Call) (older : List Line) → MayTell c older (Shown (says.Accept s process new words)) → MendsAreSystem older → MendsAreSystem (record { number = n; told = Shown (says.Accept s process new words) } ∷ older)
system_accept c n s process new (call.Mend file) older may k d w named is = over (same_call new d) named
  where
    over : (b : Bool) → cond b (Some (accepted_as (entries older) s process new (call.Mend file))) (call_named (entries older) d) ≡ Some w → w.process ≡ 0
    over true e = sym (ap (λ (x : Waiting). x.process) (some_same (accepted_as (entries older) s process new (call.Mend file)) w e)) ∙ may.row.system
    over false e = k d w e is
system_accept c n s process new words older may k d w named is = over (same_call new d) named
  where
    over : (b : Bool) → cond b (Some (accepted_as (entries older) s process new words)) (call_named (entries older) d) ≡ Some w → w.process ≡ 0
    over true e = absurd (subst (λ (x : Waiting). IsMend x.words) (sym (some_same (accepted_as (entries older) s process new words) w e)) is)
    over false e = k d w e is

system_record : (c : Config) (n : ℕ) (r : Record) (older : List Line) → MayTell c older (Shown r) → MendsAreSystem older → MendsAreSystem (record { number = n; told = Shown r } ∷ older)
system_record c n (says.Accept s process new words) older may k = system_accept c n s process new words older may k
system_record c n r older may k = λ d w named is. k d w named is

system_told : (c : Config) (n : ℕ) (x : Told) (older : List Line) → MayTell c older x → MendsAreSystem older → MendsAreSystem (record { number = n; told = x } ∷ older)
system_told c n (Shown r) older may k = system_record c n r older may k
system_told c n _ older may k = k

mends_are_system : (c : Config) (trace : List Line) → IsFollowed c trace → MendsAreSystem trace
mends_are_system c [] h d w named is = absurd (none_some w named)
mends_are_system c (x ∷ older) h d w named is = system_told c x.number x.told older h.0 (mends_are_system c older h.1) d w named is

-- ---- calls of one process ----

-- a call of the process in the epoch; a mend is one of the group
pub record IsCaller (c : Config) (t : List Line) (e : EpochId) (group : ℕ) (d : CallId) (site process : ℕ) : Type 0 where
  pub inside : IsCallIn (entries t) e d
  pub site_is : d.site ≡ site
  pub process_is : inside.accepted.process ≡ process
  pub mends : LooksIn group inside.accepted.words

module _ (c : Config) (t : List Line) (h : IsFollowed c t) (only : OnlyMends t) (e : EpochId) (group : ℕ) where
  waits_for : (later earlier : Call) → LooksIn group later → LooksIn group earlier → (IsMend later → IsMend earlier) → WaitsFor later earlier
  waits_for (call.Mend f) earlier a b both = over earlier b (both tt)
    where
      test : (i j : ℕ) → i ≡ j → (i == j) ≡ true
      test i j same = grind (arith, nat_tests)

      over : (words : Call) → LooksIn group words → IsMend words → is_mend_in f.group words ≡ true
      over (call.Mend g) own is = test g.group f.group (own ∙ sym a)
      over _ own is = absurd is
  waits_for _ earlier a b both = tt

  -- the earlier one asks nothing
  pub earlier_idle : (d other : CallId) (site process : ℕ) → IsCaller c t e group d site process → IsCaller c t e group other site process → d.n < other.n → is_request (asked_now c t d) ≡ false
  earlier_idle d other site process a b below = (earlier_is_over c t h e d other (record {
    first = a.inside;
    second = b.inside;
    site_same = a.site_is ∙ sym b.site_is;
    process_same = a.process_is ∙ sym b.process_is;
    waits_for = waits_for b.inside.accepted.words a.inside.accepted.words b.mends a.mends (λ is. only d a.inside.accepted a.inside.named (a.process_is ∙ (sym b.process_is ∙ mends_are_system c t h other b.inside.accepted b.inside.named is)));
    later = below;
  })).asks_nothing

  pub one_caller : (d other : CallId) (site process : ℕ) → IsCaller c t e group d site process → IsCaller c t e group other site process → is_request (asked_now c t d) ≡ true → is_request (asked_now c t other) ≡ true → d ≡ other
  one_caller d other site process a b asks others = over (compare d.n other.n)
    where
      over : (d.n < other.n) ⊎ ((other.n < d.n) ⊎ (d.n ≡ other.n)) → d ≡ other
      over (inl below) = absurd (true_false (sym asks ∙ earlier_idle d other site process a b below))
      over (inr (inl above)) = absurd (true_false (sym others ∙ earlier_idle other d site process b a above))
      over (inr (inr same)) = call_is d other (a.site_is ∙ sym b.site_is) (one_boot c t e d other h a.inside b.inside (a.site_is ∙ sym b.site_is)) same
