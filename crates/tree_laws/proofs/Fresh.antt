-- An accepted call has a name below the next one, so a name is one call's for good; an epoch that a site has been in is
-- listed, with one list of members for good. So what a call's script is stays.
use Rattle.std.proofs.Common.{◌≡◌, ℕ, ◌+◌, ◌≤◌, ◌<◌, ◌==◌, Bool, true, false, cond, List, [], ◌∷◌, Option, Some, None, refl, sym, ◌∙◌, ap, subst, arith, ◌⊎◌, inl, inr, ⊎_elim}
use Rattle.std.proofs.lemmas.Bool.Decides.{nat_tests}
use Rattle.std.specs.Prelude.{nat_lt}
use Rattle.the_run.proofs.of_plain_facts.Numbers.{equal}
use Rattle.the_run.proofs.of_plain_facts.Options.{none_some, some_same}
use Rattle.the_run.proofs.of_plain_facts.Tests.{true_false}
use Rattle.locus_ids.specs.declared.config.Config.{Config}
use Rattle.locus_ids.specs.declared.ids.CallId.{CallId}
use Rattle.locus_ids.specs.declared.ids.EpochId.{EpochId}
use Rattle.locus_ids.specs.declared.sites.Members.{Members}
use Rattle.trace_book.specs.Same.{same_call, same_epoch}
use Rattle.trace_book.specs.declared.call.Call.{Call}
use Rattle.trace_book.specs.declared.call.Call.TheVariants as call
use Rattle.trace_book.specs.declared.record.Record.{Record}
use Rattle.trace_book.specs.declared.record.Record.TheVariants as says
use Rattle.the_run.specs.of_role_steps.Views.{Told, Shown}
use Rattle.the_run.specs.Worlds.{Line}
use Rattle.lawful_trace.specs.of_tree_model.declared.accepted.Waiting.{Waiting}
use Rattle.lawful_trace.specs.of_tree_model.Calls.{call_named, accepted_as}
use Rattle.lawful_trace.specs.of_tree_model.Epochs.{boot_of, calls_accepted, epoch_of, members_of}
use Rattle.lawful_trace.specs.of_tree_model.Folds.{Trace}
use Rattle.lawful_trace.specs.CallRows.{CallRow, next_call}
use Rattle.lawful_trace.specs.Lawful.{MayCome}
use Rattle.tree_laws.specs.Printed.{entries, onto_entries}
use Rattle.tree_laws.specs.Following.{MayTell, IsFollowed}
use Rattle.tree_laws.proofs.Names.{true_or_false, same_call_eq, same_epoch_own}

-- the trace with one printed record more
abbrev With : ℕ → Record → Trace → Trace
With n r before = record { line = n; what = r } ∷ before

-- ---- names of calls ----

-- the name is of an earlier boot of its site, or of a call that it has accepted in this one
abbrev pub IsLow : Trace → CallId → Type 0
IsLow before d = (d.boot < boot_of before d.site) ⊎ ((d.boot ≡ boot_of before d.site) × (d.n ≤ calls_accepted before d.site))

-- the call was accepted
abbrev pub IsNamed : Trace → CallId → Type 0
IsNamed before d = (w : Waiting) × (call_named before d ≡ Some w)

abbrev AllLow : Trace → Type 0
AllLow before = (d : CallId) → IsNamed before d → IsLow before d

pub numbered : (c : Config) (before : Trace) (s process : ℕ) (d : CallId) (words : Call) → CallRow c before s process d words → d ≡ next_call before s
numbered c before s process d (call.Mend file) h = h.numbered
numbered c before s process d _ h = h.numbered

-- the next call of a site is none that was accepted
pub next_is_new : (before : Trace) (s : ℕ) (d : CallId) → IsLow before d → d ≡ next_call before s → ⊥
next_is_new before s d low e = over (ap (λ (x : CallId). x.site) e) (ap (λ (x : CallId). x.boot) e) (ap (λ (x : CallId). x.n) e) low
  where
    over : d.site ≡ s → d.boot ≡ boot_of before s → d.n ≡ calls_accepted before s + 1 → IsLow before d → ⊥
    over site boot n (inl h) = let k : boot_of before d.site ≡ boot_of before s = ap (boot_of before) site in omega (arith, k)
    over site boot n (inr h) = let k : calls_accepted before d.site ≡ calls_accepted before s = ap (calls_accepted before) site in omega (arith, k, h.1)

low_accept : (n s process : ℕ) (new : CallId) (words : Call) (before : Trace) → new ≡ next_call before s → AllLow before → AllLow (With n (says.Accept s process new words) before)
low_accept n s process new words before is all d named = ⊎_elim (λ (e : same_call new d ≡ true). mine e) (λ (e : same_call new d ≡ false). other e) (true_or_false (same_call new d))
  where
    mine : same_call new d ≡ true → IsLow (With n (says.Accept s process new words) before) d
    mine e = (let same : d ≡ next_call before s = sym (same_call_eq new d e) ∙ is in at (ap (λ (x : CallId). x.site) same) (ap (λ (x : CallId). x.boot) same) (ap (λ (x : CallId). x.n) same)) where
      at : d.site ≡ s → d.boot ≡ boot_of before s → d.n ≡ calls_accepted before s + 1 → IsLow (With n (says.Accept s process new words) before) d
      at site boot number = inr (boot ∙ ap (boot_of before) (sym site), count (s == d.site) (test s d.site (sym site)) (ap (calls_accepted before) site) number)
        where
          test : (a b : ℕ) → a ≡ b → (a == b) ≡ true
          test a b h = grind (arith, nat_tests)

          count : (b : Bool) → b ≡ true → calls_accepted before d.site ≡ calls_accepted before s → d.n ≡ calls_accepted before s + 1 → d.n ≤ cond b (calls_accepted before d.site + 1) (calls_accepted before d.site)
          count true h k m = omega (arith, k, m)
          count false h k m = absurd (true_false (sym h))

    more : (b : Bool) → d.n ≤ calls_accepted before d.site → d.n ≤ cond b (calls_accepted before d.site + 1) (calls_accepted before d.site)
    more true h = omega (arith, h)
    more false h = h

    other : same_call new d ≡ false → IsLow (With n (says.Accept s process new words) before) d
    other e = ⊎_elim (λ (h : d.boot < boot_of before d.site). inl h) (λ (h : (d.boot ≡ boot_of before d.site) × (d.n ≤ calls_accepted before d.site)). inr (h.0, more (s == d.site) h.1)) (all d (named.0, (rw e at named.1)))

low_up : (n s boot : ℕ) (before : Trace) → nat_lt (boot_of before s) boot ≡ true → AllLow before → AllLow (With n (says.Up s boot) before)
low_up n s boot before above all d named = ⊎_elim (λ (e : (s == d.site) ≡ true). here e) (λ (e : (s == d.site) ≡ false). there e) (true_or_false (s == d.site))
  where
    at_most : IsLow before d → d.boot ≤ boot_of before d.site
    at_most (inl h) = omega (arith, h)
    at_most (inr h) = omega (arith, h.0)

    new_boot : (b : Bool) → b ≡ true → d.boot < boot → d.boot < cond b boot (boot_of before d.site)
    new_boot true e h = h
    new_boot false e h = absurd (true_false (sym e))

    here : (s == d.site) ≡ true → IsLow (With n (says.Up s boot) before) d
    here e = (let same : boot_of before s ≡ boot_of before d.site = ap (boot_of before) (equal s d.site e) in let le : d.boot ≤ boot_of before d.site = at_most (all d named) in inl (new_boot (s == d.site) e (lower (boot_of before s) (boot_of before d.site) same le above)))
      where
        lower : (a b : ℕ) → a ≡ b → d.boot ≤ b → nat_lt a boot ≡ true → d.boot < boot
        lower a b same le lt = grind (arith, nat_tests)

    stays : (b : Bool) → b ≡ false → IsLow before d → (d.boot < cond b boot (boot_of before d.site)) ⊎ ((d.boot ≡ cond b boot (boot_of before d.site)) × (d.n ≤ cond b 0 (calls_accepted before d.site)))
    stays true e h = absurd (true_false e)
    stays false e h = h

    there : (s == d.site) ≡ false → IsLow (With n (says.Up s boot) before) d
    there e = stays (s == d.site) e (all d named)

low_record : (c : Config) (n : ℕ) (r : Record) (before : Trace) → MayCome c before r → AllLow before → AllLow (With n r before)
low_record c n (says.Accept s process new words) before may all = low_accept n s process new words before (numbered c before s process new words may) all
low_record c n (says.Up s boot) before may all = low_up n s boot before may.above all
low_record c n _ before may all = all

low_told : (c : Config) (n : ℕ) (x : Told) (older : List Line) → MayTell c older x → AllLow (entries older) → AllLow (onto_entries n x (entries older))
low_told c n (Shown r) older may all = low_record c n r (entries older) may.row all
low_told c n _ older may all = all

pub calls_are_low : (c : Config) (trace : List Line) → IsFollowed c trace → (d : CallId) → IsNamed (entries trace) d → IsLow (entries trace) d
calls_are_low c [] h d named = absurd (none named.0 named.1)
  where
    none : (w : Waiting) → ◌≡◌ {A = Option Waiting} None (Some w) → ⊥
    none w e = cc
calls_are_low c (x ∷ older) h d named = low_told c x.number x.told older h.0 (calls_are_low c older h.1) d named

-- ---- lists of epochs ----

abbrev pub IsListed : Trace → EpochId → Type 0
IsListed before e = (m : Members) × (members_of before e ≡ Some m)

-- what has to stand of epochs: whoever is in one, or has a call of one, has it listed
record Listed (before : Trace) : Type 0 where
  inside : (s : ℕ) (e : EpochId) → epoch_of before s ≡ Some e → IsListed before e
  calls : (d : CallId) (w : Waiting) (e : EpochId) → call_named before d ≡ Some w → w.epoch ≡ Some e → IsListed before e

listed_more : (n : ℕ) (r : Record) (before : Trace) (e : EpochId) → IsListed before e → IsListed (With n r before) e
listed_more n (says.Join s at members) before e h = over (same_epoch at e)
  where
    over : (b : Bool) → (m : Members) × (cond b (Some members) (members_of before e) ≡ Some m)
    over true = (members, refl)
    over false = h
listed_more n _ before e h = h

listed_join : (n s : ℕ) (at : EpochId) (members : Members) (before : Trace) → Listed before → Listed (With n (says.Join s at members) before)
listed_join n s at members before l = record { inside = λ t e. in_it (t) e (s == t); calls = λ d w e named in_epoch. listed_more n (says.Join s at members) before e (l.calls d w e named in_epoch) }
  where
    own : (e : EpochId) → at ≡ e → (m : Members) × (cond (same_epoch at e) (Some members) (members_of before e) ≡ Some m)
    own e same = (members, ap (λ b. cond b (Some members) (members_of before e)) (subst (λ (x : EpochId). same_epoch at x ≡ true) same (same_epoch_own at)))

    in_it : (t : ℕ) (e : EpochId) (b : Bool) → cond b (Some at) (epoch_of before t) ≡ Some e → IsListed (With n (says.Join s at members) before) e
    in_it t e true h = own e (some_same at e h)
    in_it t e false h = listed_more n (says.Join s at members) before e (l.inside t e h)

listed_out : (n t : ℕ) (r : Record) (before : Trace) (e : EpochId) (b : Bool) → Listed before → cond b None (epoch_of before t) ≡ Some e → IsListed (With n r before) e
listed_out n t r before e true l h = absurd (none_some e h)
listed_out n t r before e false l h = listed_more n r before e (l.inside t e h)

listed_accept : (n s process : ℕ) (new : CallId) (words : Call) (before : Trace) → Listed before → Listed (With n (says.Accept s process new words) before)
listed_accept n s process new words before l = record { inside = l.inside; calls = λ d w e. named d w e (same_call new d) }
  where
    named : (d : CallId) (w : Waiting) (e : EpochId) (b : Bool) → cond b (Some (accepted_as before s process new words)) (call_named before d) ≡ Some w → w.epoch ≡ Some e → IsListed before e
    named d w e true h k = l.inside s e (ap (λ (x : Waiting). x.epoch) (some_same (accepted_as before s process new words) w h) ∙ k)
    named d w e false h k = l.calls d w e h k

listed_record : (n : ℕ) (r : Record) (before : Trace) → Listed before → Listed (With n r before)
listed_record n (says.Join s at members) before l = listed_join n s at members before l
listed_record n (says.Leave s at) before l = record { inside = λ t e. listed_out n t (says.Leave s at) before e (s == t) l; calls = l.calls }
listed_record n (says.Stopped s cause) before l = record { inside = λ t e. listed_out n t (says.Stopped s cause) before e (s == t) l; calls = l.calls }
listed_record n (says.Up s boot) before l = record { inside = λ t e. listed_out n t (says.Up s boot) before e (s == t) l; calls = l.calls }
listed_record n (says.Accept s process new words) before l = listed_accept n s process new words before l
listed_record n _ before l = record { inside = l.inside; calls = l.calls }

listed_told : (n : ℕ) (x : Told) (before : Trace) → Listed before → Listed (onto_entries n x before)
listed_told n (Shown r) before l = listed_record n r before l
listed_told n _ before l = l

-- whatever is told, followed or not
listed : (trace : List Line) → Listed (entries trace)
listed [] = record { inside = λ s e h. absurd (none_some e h); calls = λ d w e h k. absurd (none_some w h) }
listed (x ∷ older) = listed_told x.number x.told (entries older) (listed older)

pub epoch_listed : (trace : List Line) (s : ℕ) (e : EpochId) → epoch_of (entries trace) s ≡ Some e → IsListed (entries trace) e
epoch_listed trace s e h = (listed trace).inside s e h

pub call_listed : (trace : List Line) (d : CallId) (w : Waiting) (e : EpochId) → call_named (entries trace) d ≡ Some w → w.epoch ≡ Some e → IsListed (entries trace) e
call_listed trace d w e h k = (listed trace).calls d w e h k
