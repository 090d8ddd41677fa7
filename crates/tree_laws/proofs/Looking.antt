-- The looks of a process in a group ascend by call, request and times; and a mend looks at its own directory alone.
use Rattle.std.proofs.Common.{◌≡◌, ℕ, ◌+◌, ◌≤◌, ◌<◌, ◌==◌, Bool, true, false, cond, ◌&&◌, List, [], ◌∷◌, ◌++◌, length, Option, Some, None, refl, sym, ◌∙◌, ap, subst, arith, ◌⊎◌, inl, inr, length-append}
use Rattle.std.proofs.lemmas.Bool.Decides.{nat_tests}
use Rattle.the_run.proofs.of_plain_facts.Numbers.{equal, equal_self}
use Rattle.the_run.proofs.of_plain_facts.Options.{none_some, some_same}
use Rattle.the_run.proofs.of_plain_facts.Tests.{true_false}
use Rattle.locus_ids.specs.declared.config.Config.{Config}
use Rattle.locus_ids.specs.declared.ids.CallId.{CallId}
use Rattle.locus_ids.specs.declared.ids.EpochId.{EpochId}
use Rattle.locus_ids.specs.declared.ids.FileId.{FileId}
use Rattle.locus_ids.specs.declared.ids.Serial.{Serial}
use Rattle.locus_ids.specs.declared.ids.Stamp.{Stamp}
use Rattle.locus_ids.specs.declared.refusal.Refusal.{Refusal}
use Rattle.locus_ids.specs.declared.refusal.Refusal.TheVariants as refusal
use Rattle.trace_book.specs.Same.{same_call, same_epoch}
use Rattle.trace_book.specs.declared.call.Call.{Call}
use Rattle.trace_book.specs.declared.call.Call.TheVariants as call
use Rattle.trace_book.specs.declared.descriptor.Beginning.{Beginning}
use Rattle.trace_book.specs.declared.descriptor.Beginning.TheVariants as begins
use Rattle.trace_book.specs.declared.operation.Served.{Served}
use Rattle.trace_book.specs.declared.operation.What.{What}
use Rattle.trace_book.specs.declared.reply.Reply.TheVariants as reply
use Rattle.trace_book.specs.declared.record.Record.{Record}
use Rattle.trace_book.specs.declared.record.Record.TheVariants as says
use Rattle.call_rules.specs.declared.answer.Answer.TheVariants as answer
use Rattle.call_rules.specs.declared.want.Want.{Want}
use Rattle.call_rules.specs.declared.want.Want.TheVariants as want
use Rattle.call_rules.specs.Closing.{Unchanged, give_up}
use Rattle.call_rules.specs.Mending.{after_mend, brings, mend_wants}
use Rattle.call_rules.specs.Opening.{close_wants}
use Rattle.call_rules.specs.Scripts.{begun_wants, where_packed}
use Rattle.the_run.specs.of_role_steps.Views.{Told, Shown, Takes, LooksAgain}
use Rattle.the_run.specs.Worlds.{Line}
use Rattle.lawful_trace.specs.of_tree_model.declared.accepted.Waiting.{Waiting}
use Rattle.lawful_trace.specs.of_tree_model.Calls.{call_named, accepted_as}
use Rattle.lawful_trace.specs.CallRows.{is_mend_in}
use Rattle.lawful_trace.specs.Progress.{Answers, is_packed_in}
use Rattle.lawful_trace.specs.Tables.{begun}
use Rattle.lawful_trace.specs.TreeRows.{IsCallIn}
use Rattle.tree_laws.specs.Printed.{entries}
use Rattle.tree_laws.specs.Calls.{log, tries, script, script_as, Asks, request_number}
use Rattle.tree_laws.specs.Past.{WasLooked}
use Rattle.tree_laws.specs.Following.{MayTell, IsFollowed}
use Rattle.tree_laws.specs.Processes.{WaitsFor, IsMend, OnlyMends, IsUpTo, turn_by, IsUnder}
use Rattle.tree_laws.specs.Tables.{Turn, is_look_of, last_turn}
use Rattle.tree_laws.proofs.Alone.{compare, call_is, asking}
use Rattle.tree_laws.proofs.Later.{earlier_is_over}
use Rattle.tree_laws.proofs.Names.{same_call_eq, same_epoch_eq, same_epoch_own}
use Rattle.tree_laws.proofs.OneBoot.{one_boot}
use Rattle.tree_laws.proofs.Scripts.{named_stays}

abbrev With : ℕ → Told → List Line → List Line
With n x older = record { number = n; told = x } ∷ older

-- ---- a mend looks at its own directory ----

abbrev LooksAt : FileId → Want → Type 0
LooksAt file (want.Look f w) = f ≡ file
LooksAt file _ = Unit {0}

gives_up : (file : FileId) (i : Serial) (why : Refusal) (xs : Answers) → LooksAt file (give_up (Unchanged i ∷ []) why xs)
gives_up file i why [] = tt
gives_up file i why (answer.Ended stamp ∷ []) = tt
gives_up file i why (answer.Ended stamp ∷ (x ∷ xs)) = tt
gives_up file i why (answer.Refused reason ∷ []) = tt
gives_up file i why (answer.Refused reason ∷ (x ∷ xs)) = tt
gives_up file i why (_ ∷ xs) = tt

closes_it : (file : FileId) (i : Serial) (xs : Answers) → LooksAt file (close_wants i xs)
closes_it file i [] = tt
closes_it file i (answer.Ended stamp ∷ []) = tt
closes_it file i (answer.Refused why ∷ []) = tt
closes_it file i (answer.Ended stamp ∷ (x ∷ xs)) = tt
closes_it file i (answer.Refused why ∷ (x ∷ xs)) = tt
closes_it file i (_ ∷ xs) = tt

mends_it : (file : FileId) (i : Serial) (xs : Answers) → LooksAt file (after_mend i xs)
mends_it file i [] = tt
mends_it file i (answer.Did o ∷ xs) = closes_it file i xs
mends_it file i (answer.Refused why ∷ xs) = gives_up file i why xs
mends_it file i (_ ∷ xs) = tt

brings_it : (file : FileId) (i : Serial) (stamps : List Stamp) (xs : Answers) → LooksAt file (brings i file stamps xs)
brings_it file i [] xs = mends_it file i xs
brings_it file i (s ∷ stamps) [] = refl
brings_it file i (s ∷ stamps) (answer.Brought ∷ xs) = brings_it file i stamps xs
brings_it file i (s ∷ stamps) (answer.Refused why ∷ xs) = gives_up file i why xs
brings_it file i (s ∷ stamps) (_ ∷ xs) = tt

mend_looks : (file : FileId) (xs : Answers) → LooksAt file (mend_wants file xs)
mend_looks file [] = tt
mend_looks file (answer.Merging i kept ∷ xs) = brings_it file i kept xs
mend_looks file (answer.Refused why ∷ []) = tt
mend_looks file (answer.Refused why ∷ (x ∷ xs)) = tt
mend_looks file (_ ∷ xs) = tt

packed_looks : (file : FileId) (packed : ℕ → Bool) (w : Want) → LooksAt file w → LooksAt file (where_packed packed w)
packed_looks file packed (want.Look f what) k = over (packed f.group)
  where
    over : (b : Bool) → LooksAt file (cond b (want.Look f what) (want.Give (reply.No refusal.NoStorage)))
    over true = k
    over false = tt
packed_looks file packed (want.Open f how) k = over (packed f.group)
  where
    over : (b : Bool) → LooksAt file (cond b (want.Open f how) (want.Give (reply.No refusal.NoStorage)))
    over true = tt
    over false = tt
packed_looks file packed (want.OpenToMend f) k = over (packed f.group)
  where
    over : (b : Bool) → LooksAt file (cond b (want.OpenToMend f) (want.Give (reply.No refusal.NoStorage)))
    over true = tt
    over false = tt
packed_looks file packed (want.Make group kind sites) k = over (packed group)
  where
    over : (b : Bool) → LooksAt file (cond b (want.Make group kind sites) (want.Give (reply.No refusal.NoStorage)))
    over true = tt
    over false = tt
packed_looks file packed _ k = tt

begun_looks : (c : Config) (free : Option ℕ) (file : FileId) (b : Beginning) (xs : Answers) → LooksAt file (begun_wants c.mounts free (call.Mend file) b xs)
begun_looks c free file (begins.Denied why) xs = tt
begun_looks c free file (begins.Uses e i) xs = tt
begun_looks c free file (begins.Walks id) xs = mend_looks file xs
begun_looks c free file (begins.Reopens kept last) xs = tt
begun_looks c free file begins.Frees xs = tt

script_looks : (c : Config) (before : _) (file : FileId) (w : Waiting) (o : Option Beginning) (xs : Answers) → w.words ≡ call.Mend file → LooksAt file (script_as c before (Some w) o None xs)
script_looks c before file w None xs is = tt
script_looks c before file w (Some b) xs is = subst (λ (words : Call). LooksAt file (script_as c before (Some (record w { words = words })) (Some b) None xs)) (sym is) (packed_looks file (is_packed_in c before w.epoch) (begun_wants c.mounts None (call.Mend file) b xs) (begun_looks c None file b xs))

looks_at : (file f : FileId) (w : Want) (what : What) → w ≡ want.Look f what → LooksAt file w → f ≡ file
looks_at file f w what e k = subst (LooksAt file) e k

-- where the call is a mend, it is one of this group
abbrev LooksIn : ℕ → Call → Type 0
LooksIn g (call.Mend file) = file.group ≡ g
LooksIn g _ = Unit {0}

-- a mend that asks a look asks it of its directory
pub mend_asks : (c : Config) (t : List Line) (d : CallId) (w : Waiting) (f : FileId) (what : What) → call_named (entries t) d ≡ Some w → Asks c t d (want.Look f what) → LooksIn f.group w.words
mend_asks c t d w f what named k = over w.words refl
  where
    over : (words : Call) → w.words ≡ words → LooksIn f.group words
    over (call.Mend file) is = ap (λ (x : FileId). x.group) (sym (looks_at file f (script c (entries t) d None (log t d)) what k.asked
        (subst (λ (o : Option Waiting). LooksAt file (script_as c (entries t) o (begun (entries t) d) None (log t d))) (sym named) (script_looks c (entries t) file w (begun (entries t) d) (log t d) is))))
    over _ is = tt

-- ---- mends are of process 0 ----

abbrev MendsAreSystem : List Line → Type 0
MendsAreSystem t = (d : CallId) (w : Waiting) → call_named (entries t) d ≡ Some w → IsMend w.words → w.process ≡ 0

system_accept : (c : Config) (n s process : ℕ) (new : CallId) (words : Call) (older : List Line) → MayTell c older (Shown (says.Accept s process new words)) → MendsAreSystem older → MendsAreSystem (With n (Shown (says.Accept s process new words)) older)
system_accept c n s process new (call.Mend file) older may k d w named is = over (same_call new d) named
  where
    over : (b : Bool) → cond b (Some (accepted_as (entries older) s process new (call.Mend file))) (call_named (entries older) d) ≡ Some w → w.process ≡ 0
    over true e = sym (ap (λ (x : Waiting). x.process) (some_same (accepted_as (entries older) s process new (call.Mend file)) w e)) ∙ may.row.system
    over false e = k d w e is
system_accept c n s process new words older may k d w named is = over (same_call new d) named
  where
    over : (b : Bool) → cond b (Some (accepted_as (entries older) s process new words)) (call_named (entries older) d) ≡ Some w → w.process ≡ 0
    over true e = absurd (subst (λ (x : Waiting). IsMend x.words) (sym (some_same (accepted_as (entries older) s process new words) w e)) is)
    over false e = k d w e is

system_record : (c : Config) (n : ℕ) (r : Record) (older : List Line) → MayTell c older (Shown r) → MendsAreSystem older → MendsAreSystem (With n (Shown r) older)
system_record c n (says.Accept s process new words) older may k = system_accept c n s process new words older may k
system_record c n r older may k = λ d w named is. k d w named is

system_told : (c : Config) (n : ℕ) (x : Told) (older : List Line) → MayTell c older x → MendsAreSystem older → MendsAreSystem (With n x older)
system_told c n (Shown r) older may k = system_record c n r older may k
system_told c n _ older may k = k

pub mends_are_system : (c : Config) (trace : List Line) → IsFollowed c trace → MendsAreSystem trace
mends_are_system c [] h d w named is = absurd (none_some w named)
mends_are_system c (x ∷ older) h d w named is = system_told c x.number x.told older h.0 (mends_are_system c older h.1) d w named is

-- ---- the last turn ----

-- the call has come so far
abbrev Reached : List Line → CallId → ℕ → ℕ → Type 0
Reached t d request times = (request < request_number t d) ⊎ ((request ≡ request_number t d) × (times ≤ tries t d))

reached_told : (c : Config) (n : ℕ) (x : Told) (older : List Line) (d : CallId) (request times : ℕ) → MayTell c older x → Reached older d request times → Reached (With n x older) d request times
reached_told c n (Takes s it number k a) older d request times may r = at (same_call it d) r
  where
    more : length (log older d ++ a ∷ []) ≡ length (log older d) + 1
    more = length-append (log older d) (a ∷ [])

    at : (b : Bool) → Reached older d request times → (request < length (cond b (log older d ++ a ∷ []) (log older d)) + 1) ⊎ ((request ≡ length (cond b (log older d ++ a ∷ []) (log older d)) + 1) × (times ≤ cond b 1 (tries older d)))
    at true (inl below) = let m : length (log older d ++ a ∷ []) ≡ length (log older d) + 1 = more in let l : request < length (log older d) + 1 = below in inl (omega (arith, m, l))
    at true (inr same) = let m : length (log older d ++ a ∷ []) ≡ length (log older d) + 1 = more in let l : request ≡ length (log older d) + 1 = same.0 in inl (omega (arith, m, l))
    at false k = k
reached_told c n (LooksAgain s it number k) older d request times may r = at (same_call it d) refl r
  where
    at : (b : Bool) → same_call it d ≡ b → Reached older d request times → (request < request_number older d) ⊎ ((request ≡ request_number older d) × (times ≤ cond b k (tries older d)))
    at b e (inl below) = inl below
    at true e (inr same) = let m : k ≡ tries older d + 1 = may.times_are ∙ ap (λ (x : CallId). tries older x + 1) (same_call_eq it d e) in let l : times ≤ tries older d = same.1 in inr (same.0, omega (arith, m, l))
    at false e (inr same) = inr same
reached_told c n _ older d request times may r = r

-- the turn was that of a look of this process in the group
record LastBy (t : List Line) (e : EpochId) (group us process : ℕ) (u : Turn) : Type 0 where
  by : CallId
  inside : IsCallIn (entries t) e by
  site_is : by.site ≡ us
  process_is : inside.accepted.process ≡ process
  number_is : by.n ≡ u.call
  looks_in : LooksIn group inside.accepted.words
  reached : Reached t by u.request u.times

last_stays : (c : Config) (n : ℕ) (x : Told) (older : List Line) (e : EpochId) (group us process : ℕ) (u : Turn) → IsFollowed c older → MayTell c older x → LastBy older e group us process u → LastBy (With n x older) e group us process u
last_stays c n x older e group us process u h may l = record {
  by = l.by;
  inside = record { accepted = l.inside.accepted; named = named_stays c n x older l.by h may (l.inside.accepted, l.inside.named) ∙ l.inside.named; made_in = l.inside.made_in };
  site_is = l.site_is;
  process_is = l.process_is;
  number_is = l.number_is;
  looks_in = l.looks_in;
  reached = reached_told c n x older l.by u.request u.times may l.reached;
}

up_to_own : (a : Turn) → IsUpTo a a
up_to_own a = inr (refl, inr (refl, omega (arith)))

up_to_next : (a b d : Turn) → IsUpTo a b → IsUpTo b d → IsUpTo a d
up_to_next a b d (inl p) (inl q) = inl (omega (arith, p, q))
up_to_next a b d (inl p) (inr q) = let s : b.call ≡ d.call = q.0 in inl (omega (arith, p, s))
up_to_next a b d (inr p) (inl q) = let s : a.call ≡ b.call = p.0 in inl (omega (arith, q, s))
up_to_next a b d (inr p) (inr q) = inr (p.0 ∙ q.0, over p.1 q.1)
  where
    over : (a.request < b.request) ⊎ ((a.request ≡ b.request) × (a.times ≤ b.times)) → (b.request < d.request) ⊎ ((b.request ≡ d.request) × (b.times ≤ d.times)) → (a.request < d.request) ⊎ ((a.request ≡ d.request) × (a.times ≤ d.times))
    over (inl x) (inl y) = inl (omega (arith, x, y))
    over (inl x) (inr y) = let s : b.request ≡ d.request = y.0 in inl (omega (arith, x, s))
    over (inr x) (inl y) = let s : a.request ≡ b.request = x.0 in inl (omega (arith, y, s))
    over (inr x) (inr y) = let s : a.times ≤ b.times = x.1 in let z : b.times ≤ d.times = y.1 in inr (x.0 ∙ y.0, omega (arith, s, z))

-- what stands is up to the last turn, which is that of a call of the process
record Ascends (t : List Line) : Type 0 where
  last : (e : EpochId) (group us process : ℕ) (u : Turn) → last_turn t e group us process ≡ Some u → LastBy t e group us process u
  all : (e : EpochId) (d : CallId) (request times : ℕ) (f : FileId) (w : What) (result : Served) → WasLooked t e d request times f w result → IsUnder t e d request times f.group

-- ---- a look ----

module _ (c : Config) (n : ℕ) (older : List Line) (at : EpochId) (it : CallId) (number : ℕ) (file : FileId) (what : What) (served : Served) (h : IsFollowed c older) (may : MayTell c older (Shown (says.Look at it number file what served))) (only : OnlyMends older) (k : Ascends older) where
  abbrev x : Told
  x = Shown (says.Look at it number file what served)

  abbrev caller : Waiting
  caller = may.row.step.accepted

  looks_in : LooksIn file.group caller.words
  looks_in = mend_asks c older it caller file what may.row.step.named may.in_time.asks

  -- the mend of another group doesn't wait for it
  waits_for : (later : Call) (process : ℕ) → LooksIn file.group later → (IsMend later → IsMend caller.words) → WaitsFor later caller.words
  waits_for (call.Mend f) process inside both = over caller.words looks_in (both tt)
    where
      test : (a b : ℕ) → a ≡ b → (a == b) ≡ true
      test a b same = grind (arith, nat_tests)

      over : (words : Call) → LooksIn file.group words → IsMend words → is_mend_in f.group words ≡ true
      over (call.Mend g) own is = test g.group f.group (own ∙ sym inside)
      over _ own is = absurd is
  waits_for _ process inside both = tt

  -- the last turn of its process is up to the new one
  above : (u : Turn) → LastBy older at file.group it.site caller.process u → IsUpTo u (turn_by it number (tries older it))
  above u l = over (compare l.by.n it.n)
    where
      mends : IsMend l.inside.accepted.words → IsMend caller.words
      mends is = only it caller may.row.step.named (sym l.process_is ∙ mends_are_system c older h l.by l.inside.accepted l.inside.named is)

      over : (l.by.n < it.n) ⊎ ((it.n < l.by.n) ⊎ (l.by.n ≡ it.n)) → IsUpTo u (turn_by it number (tries older it))
      over (inl below) = let s : l.by.n ≡ u.call = l.number_is in inl (omega (arith, below, s))
      over (inr (inl above)) = absurd (true_false (sym (asking c older it (want.Look file what) may.in_time.asks) ∙ (earlier_is_over c older h at it l.by (record { first = may.row.step; second = l.inside; site_same = sym l.site_is; process_same = sym l.process_is; waits_for = waits_for l.inside.accepted.words l.inside.accepted.process l.looks_in mends; later = above })).asks_nothing))
      over (inr (inr same)) = inr (sym l.number_is ∙ same, requests l.reached)
        where
          is : l.by ≡ it
          is = call_is l.by it l.site_is (one_boot c older at l.by it h l.inside may.row.step l.site_is) same

          requests : Reached older l.by u.request u.times → (u.request < number) ⊎ ((u.request ≡ number) × (u.times ≤ tries older it))
          requests (inl b) = inl (subst (λ (m : ℕ). u.request < m) (sym may.in_time.request_is) (subst (λ (y : CallId). u.request < request_number older y) is b))
          requests (inr b) = inr (subst (λ (y : CallId). u.request ≡ request_number older y) is b.0 ∙ sym may.in_time.request_is, subst (λ (y : CallId). u.times ≤ tries older y) is b.1)

  -- the look is one of its process in its group
  own_look : is_look_of older at file.group it.site at it file (call_named (entries older) it) caller.process ≡ true
  own_look = ap (λ (o : Option Waiting). is_look_of older at file.group it.site at it file o caller.process) may.row.step.named ∙ all_four (same_epoch at at) (file.group == file.group) (it.site == it.site) (caller.process == caller.process) (same_epoch_own at) (equal_self file.group) (equal_self it.site) (equal_self caller.process)
    where
      all_four : (a b d e : Bool) → a ≡ true → b ≡ true → d ≡ true → e ≡ true → a && (b && (d && e)) ≡ true
      all_four true true true true p q r s = refl
      all_four true true true false p q r s = s
      all_four true true false e p q r s = r
      all_four true false d e p q r s = q
      all_four false b d e p q r s = p

  -- which look it is
  record IsItsLook (e : EpochId) (group us process : ℕ) : Type 0 where
    epoch_is : at ≡ e
    group_is : file.group ≡ group
    site_is : it.site ≡ us
    process_is : caller.process ≡ process

  split : (e : EpochId) (group us process : ℕ) → is_look_of older e group us at it file (call_named (entries older) it) process ≡ true → IsItsLook e group us process
  split e group us process t = over (sym (ap (λ (o : Option Waiting). is_look_of older e group us at it file o process) may.row.step.named) ∙ t)
    where
      parts : (a b d q : Bool) → a && (b && (d && q)) ≡ true → (a ≡ true) × ((b ≡ true) × ((d ≡ true) × (q ≡ true)))
      parts true true true true t = (refl, (refl, (refl, refl)))
      parts true true true false t = absurd (true_false (sym t))
      parts true true false q t = absurd (true_false (sym t))
      parts true false d q t = absurd (true_false (sym t))
      parts false b d q t = absurd (true_false (sym t))

      over : (same_epoch at e && ((file.group == group) && ((it.site == us) && (caller.process == process)))) ≡ true → IsItsLook e group us process
      over y = (let p : (same_epoch at e ≡ true) × (((file.group == group) ≡ true) × (((it.site == us) ≡ true) × ((caller.process == process) ≡ true))) = parts (same_epoch at e) (file.group == group) (it.site == us) (caller.process == process) y in
          record { epoch_is = same_epoch_eq at e p.0; group_is = equal file.group group p.1.0; site_is = equal it.site us p.1.1.0; process_is = equal caller.process process p.1.1.1 })

  new_last : LastBy (With n x older) at file.group it.site caller.process (turn_by it number (tries older it))
  new_last = record {
    by = it;
    inside = record { accepted = may.row.step.accepted; named = may.row.step.named; made_in = may.row.step.made_in };
    site_is = refl;
    process_is = refl;
    number_is = refl;
    looks_in = looks_in;
    reached = inr (may.in_time.request_is, omega (arith));
  }

  own_last : last_turn (With n x older) at file.group it.site caller.process ≡ Some (turn_by it number (tries older it))
  own_last = ap (λ (b : Bool). cond b (Some (turn_by it number (tries older it))) (last_turn older at file.group it.site caller.process)) own_look

  last_up : (e : EpochId) (group us process : ℕ) (u : Turn) → last_turn older e group us process ≡ Some u → (v : Turn) × (last_turn (With n x older) e group us process ≡ Some v) × IsUpTo u v
  last_up e group us process u l = over (is_look_of older e group us at it file (call_named (entries older) it) process) refl
    where
      same : IsItsLook e group us process → IsUpTo u (turn_by it number (tries older it))
      same i = above u (subst (λ (p : ℕ). LastBy older at file.group it.site p u) (sym i.process_is) (subst (λ (m : ℕ). LastBy older at file.group m process u) (sym i.site_is)
          (subst (λ (g : ℕ). LastBy older at g us process u) (sym i.group_is) (subst (λ (y : EpochId). LastBy older y group us process u) (sym i.epoch_is) (k.last e group us process u l)))))

      over : (b : Bool) → is_look_of older e group us at it file (call_named (entries older) it) process ≡ b → (v : Turn) × (cond b (Some (turn_by it number (tries older it))) (last_turn older e group us process) ≡ Some v) × IsUpTo u v
      over true t = (turn_by it number (tries older it), refl, same (split e group us process t))
      over false t = (u, l, up_to_own u)

  last_new : (e : EpochId) (group us process : ℕ) (u : Turn) → last_turn (With n x older) e group us process ≡ Some u → LastBy (With n x older) e group us process u
  last_new e group us process u l = over (is_look_of older e group us at it file (call_named (entries older) it) process) refl l
    where
      own : IsItsLook e group us process → LastBy (With n x older) e group us process (turn_by it number (tries older it))
      own i = subst (λ (p : ℕ). LastBy (With n x older) e group us p (turn_by it number (tries older it))) i.process_is (subst (λ (m : ℕ). LastBy (With n x older) e group m caller.process (turn_by it number (tries older it))) i.site_is
          (subst (λ (g : ℕ). LastBy (With n x older) e g it.site caller.process (turn_by it number (tries older it))) i.group_is (subst (λ (y : EpochId). LastBy (With n x older) y file.group it.site caller.process (turn_by it number (tries older it))) i.epoch_is new_last)))

      over : (b : Bool) → is_look_of older e group us at it file (call_named (entries older) it) process ≡ b → cond b (Some (turn_by it number (tries older it))) (last_turn older e group us process) ≡ Some u → LastBy (With n x older) e group us process u
      over true t m = subst (LastBy (With n x older) e group us process) (some_same (turn_by it number (tries older it)) u m) (own (split e group us process t))
      over false t m = last_stays c n x older e group us process u h may (k.last e group us process u m)

  all_new : (e : EpochId) (d : CallId) (request times : ℕ) (f : FileId) (w : What) (result : Served) → WasLooked (With n x older) e d request times f w result → IsUnder (With n x older) e d request times f.group
  all_new e d request times f w result (inl l) = subst (λ (y : EpochId). IsUnder (With n x older) y d request times f.group) l.epoch_is (subst (λ (y : CallId). IsUnder (With n x older) at y request times f.group) l.call_is
      (subst (λ (m : ℕ). IsUnder (With n x older) at it request m f.group) (ap (tries older) l.call_is ∙ l.tries_are) (subst (λ (m : ℕ). IsUnder (With n x older) at it m (tries older it) f.group) l.request_is (subst (λ (y : FileId). IsUnder (With n x older) at it number (tries older it) y.group) l.file_is
      (record { inside = record { accepted = may.row.step.accepted; named = may.row.step.named; made_in = may.row.step.made_in }; last = turn_by it number (tries older it); last_is = own_last; under = up_to_own (turn_by it number (tries older it)) })))))
  all_new e d request times f w result (inr was) = (let u : IsUnder older e d request times f.group = k.all e d request times f w result was in let v : (v : Turn) × (last_turn (With n x older) e f.group d.site u.inside.accepted.process ≡ Some v) × IsUpTo u.last v = last_up e f.group d.site u.inside.accepted.process u.last u.last_is in
      record { inside = record { accepted = u.inside.accepted; named = u.inside.named; made_in = u.inside.made_in }; last = v.0; last_is = v.1; under = up_to_next (turn_by d request times) u.last v.0 u.under v.2 })

  look_ascends : Ascends (With n x older)
  look_ascends = record { last = last_new; all = all_new }

-- ---- line by line ----

under_stays : (c : Config) (n : ℕ) (x : Told) (older : List Line) → IsFollowed c older → MayTell c older x → ((e : EpochId) (group us process : ℕ) → last_turn (With n x older) e group us process ≡ last_turn older e group us process) →
    ((e : EpochId) (d : CallId) (request times : ℕ) (f : FileId) (w : What) (result : Served) → WasLooked (With n x older) e d request times f w result → WasLooked older e d request times f w result) → Ascends older → Ascends (With n x older)
under_stays c n x older h may same back k = record {
  last = λ e group us process u l. last_stays c n x older e group us process u h may (k.last e group us process u (sym (same e group us process) ∙ l));
  all = λ e d request times f w result was. still e d request times f (k.all e d request times f w result (back e d request times f w result was));
}
  where
    still : (e : EpochId) (d : CallId) (request times : ℕ) (f : FileId) → IsUnder older e d request times f.group → IsUnder (With n x older) e d request times f.group
    still e d request times f u = record {
      inside = record { accepted = u.inside.accepted; named = named_stays c n x older d h may (u.inside.accepted, u.inside.named) ∙ u.inside.named; made_in = u.inside.made_in };
      last = u.last;
      last_is = same e f.group d.site u.inside.accepted.process ∙ u.last_is;
      under = u.under;
    }

ascends_record : (c : Config) (n : ℕ) (r : Record) (older : List Line) → IsFollowed c older → MayTell c older (Shown r) → OnlyMends older → Ascends older → Ascends (With n (Shown r) older)
ascends_record c n (says.Look at it number file what served) older h may only k = look_ascends c n older at it number file what served h may only k
ascends_record c n r older h may only k = under_stays c n (Shown r) older h may (λ e group us process. refl) (λ e d request times f w result was. over was) k
  where
    over : {A : Type 0} → ⊥ ⊎ A → A
    over (inl none) = absurd none
    over (inr a) = a

ascends_told : (c : Config) (n : ℕ) (x : Told) (older : List Line) → IsFollowed c older → MayTell c older x → OnlyMends older → Ascends older → Ascends (With n x older)
ascends_told c n (Shown r) older h may only k = ascends_record c n r older h may only k
ascends_told c n x older h may only k = under_stays c n x older h may (λ e group us process. refl) (λ e d request times f w result was. over was) k
  where
    over : {A : Type 0} → ⊥ ⊎ A → A
    over (inl none) = absurd none
    over (inr a) = a

only_before : (c : Config) (n : ℕ) (x : Told) (older : List Line) → IsFollowed c older → MayTell c older x → OnlyMends (With n x older) → OnlyMends older
only_before c n x older h may only d w named zero = only d w (named_stays c n x older d h may (w, named) ∙ named) zero

ascends : (c : Config) (trace : List Line) → IsFollowed c trace → OnlyMends trace → Ascends trace
ascends c [] h only = record { last = λ e group us process u l. absurd (none_some u l); all = λ e d request times f w result was. absurd was }
ascends c (x ∷ older) h only = (let before : OnlyMends older = only_before c x.number x.told older h.1 h.0 only in ascends_told c x.number x.told older h.1 h.0 before (ascends c older h.1 before))

-- a look that stands is up to the last look of its process in its group
pub looked_low : (c : Config) (trace : List Line) → IsFollowed c trace → OnlyMends trace → (e : EpochId) (d : CallId) (request times : ℕ) (f : FileId) (w : What) (result : Served) → WasLooked trace e d request times f w result → IsUnder trace e d request times f.group
looked_low c trace h only = (ascends c trace h only).all
