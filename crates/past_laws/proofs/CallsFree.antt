-- The number that a waiting open would take stays the lowest free one of its process.
use Rattle.std.proofs.Common.{◌≡◌, ℕ, suc, ◌≤◌, ◌==◌, Bool, true, false, not, cond, ◌&&◌, List, [], ◌∷◌, length, map, filter, Option, Some, None, refl, sym, ◌∙◌, ap, subst, zero, ◌+◌}
use Rattle.std.specs.List.{find, AllByRecursion}
use Rattle.std.specs.Option.{is_some}
use Rattle.locus_ids.specs.Sizes.{descriptors_max}
use Rattle.locus_ids.specs.declared.config.Config.{Config}
use Rattle.locus_ids.specs.declared.config.Mount.{Mount}
use Rattle.locus_ids.specs.declared.ids.CallId.{CallId}
use Rattle.locus_ids.specs.declared.ids.EpochId.{EpochId}
use Rattle.trace_book.specs.Same.{same_call}
use Rattle.trace_book.specs.declared.call.Call.{Call}
use Rattle.trace_book.specs.declared.call.Call.TheVariants as call
use Rattle.trace_book.specs.declared.descriptor.Beginning.{Beginning}
use Rattle.trace_book.specs.declared.descriptor.Descriptor.{Descriptor}
use Rattle.trace_book.specs.declared.record.StopCause.{StopCause}
use Rattle.trace_book.specs.declared.record.Record.{Record}
use Rattle.trace_book.specs.declared.record.Record.TheVariants as says
use Rattle.trace_book.specs.declared.reply.Reply.{Reply}
use Rattle.trace_book.specs.declared.reply.Reply.TheVariants as reply
use Rattle.call_rules.specs.declared.answer.Answer.{Answer}
use Rattle.call_rules.specs.declared.want.Want.{Want}
use Rattle.call_rules.specs.declared.want.Want.TheVariants as want
use Rattle.call_rules.specs.Descriptors.{lowest_free, free_or, lowest_free_from}
use Rattle.call_rules.specs.Scripts.{wants}
use Rattle.tree_model.specs.declared.accepted.Waiting.{Waiting}
use Rattle.tree_model.specs.Calls.{call_named, waiting_of, is_of, opening_of}
use Rattle.tree_model.specs.Folds.{Trace}
use Rattle.promises.specs.of_lawful_trace.Lawful.{MayCome}
use Rattle.promises.specs.of_lawful_trace.Progress.{answers, is_packed_in, left_epoch, unless_left, wants_next}
use Rattle.promises.specs.of_lawful_trace.Tables.{descriptor, closed_by, held_again, names_instance, opened_by, reads_by}
use Rattle.promises.specs.Past.{Past, CallSoFar, table}
use Rattle.promises.specs.After.{is_id, told_by}
use Rattle.past_laws.specs.Agreement.{Agrees, SaysGiven, waiting_as}
use Rattle.past_laws.specs.Standing.{is_open, is_mend, is_alone}
use Rattle.past_laws.proofs.Names.{false_true, none_some, some_same, number_eq, number_own, call_own}
use Rattle.past_laws.proofs.SitesFree.{FreeWant, wants_free, with_bytes}
use Rattle.past_laws.proofs.CallsLists.{each_found, WasFound, was_found, one_passes}
use Rattle.past_laws.proofs.CallsGranted.{With}
use Rattle.past_laws.proofs.CallsUsers.{numbered, idle}
use Rattle.past_laws.proofs.CallsAlike.{with_waits, Was, was_there}
use Rattle.past_laws.proofs.CallsSame.{waits_same}
use Rattle.past_laws.proofs.CallsFields.{accepted_call, waiting_in, IsAnswered, answered_one, answered_past}
use Rattle.past_laws.proofs.CallsAsks.{other_same, wants_by}

-- ---- numbers ----

-- an accept of another call than a close, and a reply that opens nothing, leave them
closed_other : (words : Call) (fd : ℕ) (old : Option Descriptor) → is_open words ≡ true → closed_by words fd old ≡ old
closed_other (call.Open path how) fd old h = refl
closed_other (call.Close n) fd old h = false_true h
closed_other _ fd old h = refl

closed_mend : (words : Call) (fd : ℕ) (old : Option Descriptor) → is_mend words ≡ true → closed_by words fd old ≡ old
closed_mend (call.Mend f) fd old h = refl
closed_mend (call.Close n) fd old h = false_true h
closed_mend _ fd old h = refl

lowest_same : (f g : ℕ → Option Descriptor) → ((fd : ℕ) → f fd ≡ g fd) → lowest_free f ≡ lowest_free g
lowest_same f g same = ap lowest_free (λ i fd. same fd i)

-- the lowest free number hangs on which numbers are taken alone
free_alike : (n : ℕ) (later : Option ℕ) (a b : Option Descriptor) → is_some a ≡ is_some b → free_or n later a ≡ free_or n later b
free_alike n later None None h = refl
free_alike n later (Some x) (Some y) h = refl
free_alike n later None (Some y) h = false_true h
free_alike n later (Some x) None h = false_true (sym h)

from_alike : (f g : ℕ → Option Descriptor) → ((fd : ℕ) → is_some (f fd) ≡ is_some (g fd)) → (left n : ℕ) → lowest_free_from f n left ≡ lowest_free_from g n left
from_alike f g same zero n = refl
from_alike f g same (suc left) n = ap (λ (later : Option ℕ). free_or n later (f n)) (from_alike f g same left (n + 1)) ∙ free_alike n (lowest_free_from g (n + 1) left) (f n) (g n) (same n)

lowest_alike : (f g : ℕ → Option Descriptor) → ((fd : ℕ) → is_some (f fd) ≡ is_some (g fd)) → lowest_free f ≡ lowest_free g
lowest_alike f g same = from_alike f g same descriptors_max 0

open_no_mend : (words : Call) → is_open words ≡ true → is_mend words ≡ false
open_no_mend (call.Mend f) h = false_true h
open_no_mend _ h = refl

-- ---- who waits ----

-- where none is found that waits and passes, a call that waits doesn't
waits_not : (q : Waiting → Bool) (ks : List CallSoFar) → find q (waiting_in ks) ≡ None → AllByRecursion (λ (k : CallSoFar). k.waits ≡ true → q (waiting_as k) ≡ false) ks
waits_not q [] h = tt
waits_not q (k ∷ ks) h = over (waits_not q ks) k.waits (q (waiting_as k)) refl refl h
  where
    over : (find q (waiting_in ks) ≡ None → AllByRecursion (λ (x : CallSoFar). x.waits ≡ true → q (waiting_as x) ≡ false) ks) → (a b : Bool) → k.waits ≡ a → q (waiting_as k) ≡ b → find q (map waiting_as (cond a (k ∷ filter (λ (x : CallSoFar). x.waits) ks) (filter (λ (x : CallSoFar). x.waits) ks))) ≡ None
        → (k.waits ≡ true → q (waiting_as k) ≡ false) × AllByRecursion (λ (x : CallSoFar). x.waits ≡ true → q (waiting_as x) ≡ false) ks
    over later true true f g e = none_some (waiting_as k) (sym (rw g at e))
    over later true false f g e = (λ t. g, later (rw g at e))
    over later false b f g e = (λ t. false_true (sym f ∙ t), later e)

-- how many wait and pass
many_waiting : (q : Waiting → Bool) (ks : List CallSoFar) → length (filter (λ (k : CallSoFar). k.waits && q (waiting_as k)) ks) ≡ length (filter q (waiting_in ks))
many_waiting q [] = refl
many_waiting q (k ∷ ks) = over k.waits (q (waiting_as k)) refl (many_waiting q ks)
  where
    over : (a b : Bool) → q (waiting_as k) ≡ b → length (filter (λ (x : CallSoFar). x.waits && q (waiting_as x)) ks) ≡ length (filter q (waiting_in ks))
        → length (cond (a && b) (k ∷ filter (λ (x : CallSoFar). x.waits && q (waiting_as x)) ks) (filter (λ (x : CallSoFar). x.waits && q (waiting_as x)) ks)) ≡ length (filter q (map waiting_as (cond a (k ∷ filter (λ (x : CallSoFar). x.waits) ks) (filter (λ (x : CallSoFar). x.waits) ks))))
    over true true e later = rw e (ap suc later)
    over true false e later = rw e later
    over false b e later = later

-- two that wait and pass are the same, where at most one does
same_waiting : (q : Waiting → Bool) (ks : List CallSoFar) → length (filter q (waiting_in ks)) ≤ 1 → (x y : CallSoFar) → find (is_id x.id) ks ≡ Some x → find (is_id y.id) ks ≡ Some y → x.waits && q (waiting_as x) ≡ true → y.waits && q (waiting_as y) ≡ true → x ≡ y
same_waiting q ks few x y found there passes too = first (sym (only x found passes) ∙ only y there too)
  where
    first : ◌≡◌ {A = List CallSoFar} (x ∷ []) (y ∷ []) → x ≡ y
    first e = cc

    few_here : length (filter (λ (k : CallSoFar). k.waits && q (waiting_as k)) ks) ≤ 1
    few_here = subst (λ (m : ℕ). m ≤ 1) (sym (many_waiting q ks)) few

    only : (z : CallSoFar) → find (is_id z.id) ks ≡ Some z → z.waits && q (waiting_as z) ≡ true → filter (λ (k : CallSoFar). k.waits && q (waiting_as k)) ks ≡ z ∷ []
    only z at it = one_passes (λ (k : CallSoFar). k.waits && q (waiting_as k)) (is_id z.id) ks z few_here at it

both_is : (a b : Bool) → a ≡ true → b ≡ true → a && b ≡ true
both_is true b e f = f
both_is false b e f = e

-- ---- an open that is answered ----

-- the script that gives a descriptor is that of an open
pub opened_open : (mounts : List Mount) (q : ℕ → Bool) (free : Option ℕ) (words : Call) (b : Beginning) (xs : List Answer) (fd : ℕ) → wants mounts q free words b xs ≡ want.Give (reply.Opened fd) → is_open words ≡ true
opened_open mounts q free words b xs fd h = over (is_open words) refl
  where
    over : (v : Bool) → is_open words ≡ v → v ≡ true
    over true e = refl
    over false e = none_some fd (subst (FreeWant (with_bytes None)) (sym (other_same mounts q free None words b xs e) ∙ h) (wants_free (with_bytes None) mounts q words b (λ k. refl) xs))

-- it isn't answered so because its site has left
pub scripted : (o : Option EpochId) (w : Want) (r : Reply) → names_instance r ≡ true → unless_left o w ≡ want.Give r → w ≡ want.Give r
scripted None w r names h = h
scripted (Some e) w (reply.Opened fd) names h = absurd (cc)
scripted (Some e) w (reply.Data bytes) names h = absurd (cc)
scripted (Some e) w _ names h = false_true names

answered_open : (c : Config) (before : Trace) (p : Past) (s process : ℕ) (id : CallId) (fd : ℕ) → Agrees c before p → SaysGiven c before (says.Answer s process id (reply.Opened fd)) → (k : IsAnswered before p s process id) → is_open k.one.words ≡ true
answered_open c before p s process id fd a given k = opened_open c.mounts (is_packed_in c before k.one.epoch) (lowest_free (descriptor before k.one.id.site k.one.process)) k.one.words k.one.begins (answers c before k.one.id) fd
    (sym (wants_by c before p a k.one (ap (λ (d : CallId). find (is_id d) p.calls) k.id_is ∙ k.found) (answers c before k.one.id)) ∙ scripted (left_epoch before (waiting_as k.one)) (wants_next c before k.one.id) (reply.Opened fd) refl (given (waiting_as k.one) k.caller))

-- ---- each record ----

free_accept : (c : Config) (n s process : ℕ) (new : CallId) (words : Call) (before : Trace) (p : Past) → MayCome c before (says.Accept s process new words) → Agrees c before p → (k : CallSoFar) → find (is_id k.id) (told_by c (says.Accept s process new words) p).calls ≡ Some k → k.waits ≡ true → is_open k.words ≡ true
    → k.free ≡ lowest_free (descriptor (With n (says.Accept s process new words) before) k.id.site k.process)
free_accept c n s process new words before p may a k found waits opens = over (same_call new k.id) refl found
  where
    own : is_open words ≡ true → lowest_free (table p s process) ≡ lowest_free (descriptor (With n (says.Accept s process new words) before) new.site process)
    own o = lowest_same (table p s process) (descriptor (With n (says.Accept s process new words) before) new.site process) (λ fd. a.sites.table s process fd
        ∙ (ap (λ (x : ℕ). descriptor before x process fd) (sym (ap (λ (x : CallId). x.site) (numbered c before s process new words may))) ∙ at ((s == new.site) && (process == process)) fd))
      where
        at : (b : Bool) (fd : ℕ) → descriptor before new.site process fd ≡ cond b (closed_by words fd (descriptor before new.site process fd)) (descriptor before new.site process fd)
        at true fd = sym (closed_other words fd (descriptor before new.site process fd) o)
        at false fd = refl

    -- another call of the process is a mend
    mends : (x : CallSoFar) → find (is_id x.id) p.calls ≡ Some x → x.waits ≡ true → (s == x.id.site) ≡ true → (process == x.process) ≡ true → is_mend words ≡ true
    mends x there w at_site of = by_mend (is_mend words) refl
      where
        by_mend : (b : Bool) → is_mend words ≡ b → b ≡ true
        by_mend true e = refl
        by_mend false e = false_true (sym ((each_found (λ (y : CallSoFar). y.waits ≡ true → is_of s process (waiting_as y) ≡ false) (is_id x.id) p.calls x there (waits_not (is_of s process) p.calls (ap (waiting_of s process) a.calls.waits ∙ idle c before s process new words may e))).0 w)
            ∙ both_is (x.id.site == s) (x.process == process) (subst (λ (y : ℕ). (y == s) ≡ true) (number_eq s x.id.site at_site) (number_own s)) (subst (λ (y : ℕ). (y == process) ≡ true) (number_eq process x.process of) (number_own process)))

    other : (x : CallSoFar) → find (is_id x.id) p.calls ≡ Some x → x.waits ≡ true → is_open x.words ≡ true → x.free ≡ lowest_free (descriptor (With n (says.Accept s process new words) before) x.id.site x.process)
    other x there w o = a.calls.free x there w o ∙ lowest_same (descriptor before x.id.site x.process) (descriptor (With n (says.Accept s process new words) before) x.id.site x.process) (λ fd. at fd (s == x.id.site) (process == x.process) refl refl)
      where
        at : (fd : ℕ) (b d : Bool) → (s == x.id.site) ≡ b → (process == x.process) ≡ d → descriptor before x.id.site x.process fd ≡ cond (b && d) (closed_by words fd (descriptor before x.id.site x.process fd)) (descriptor before x.id.site x.process fd)
        at fd true true e f = sym (closed_mend words fd (descriptor before x.id.site x.process fd) (mends x there w e f))
        at fd true false e f = refl
        at fd false d e f = refl

    over : (b : Bool) → same_call new k.id ≡ b → cond b (Some (accepted_call p s process new words)) (find (is_id k.id) p.calls) ≡ Some k → k.free ≡ lowest_free (descriptor (With n (says.Accept s process new words) before) k.id.site k.process)
    over true e q = (let is = some_same (accepted_call p s process new words) k q in subst (λ (x : CallSoFar). x.free ≡ lowest_free (descriptor (With n (says.Accept s process new words) before) x.id.site x.process)) is (own (ap (λ (x : CallSoFar). is_open x.words) is ∙ opens)))
    over false e q = other k q waits opens

free_answer : (c : Config) (n s process : ℕ) (id : CallId) (r : Reply) (before : Trace) (p : Past) → MayCome c before (says.Answer s process id r) → SaysGiven c before (says.Answer s process id r) → Agrees c before p → (k : CallSoFar) → find (is_id k.id) (told_by c (says.Answer s process id r) p).calls ≡ Some k → k.waits ≡ true → is_open k.words ≡ true
    → k.free ≡ lowest_free (descriptor (With n (says.Answer s process id r) before) k.id.site k.process)
free_answer c n s process id r before p may given a k found waits opens = at (answered_one c before p s process id r may a)
  where
    at : IsAnswered before p s process id → k.free ≡ lowest_free (descriptor (With n (says.Answer s process id r) before) k.id.site k.process)
    at it = from (was_found (is_id k.id) (is_id it.one.id) (λ (x : CallSoFar). record x { waits = false }) (λ x. refl) p.calls k (ap (λ (q : Past). find (is_id k.id) q.calls) (sym (answered_past before p s process id r c it)) ∙ found))
      where
        from : WasFound (is_id k.id) (is_id it.one.id) (λ (x : CallSoFar). record x { waits = false }) p.calls k → k.free ≡ lowest_free (descriptor (With n (says.Answer s process id r) before) k.id.site k.process)
        from y = over (is_id it.one.id y.was) refl y.is
          where
            here : (x : CallSoFar) → find (is_id x.id) p.calls ≡ Some x → x.waits ≡ true → is_open x.words ≡ true → is_id it.one.id x ≡ false → x.free ≡ lowest_free (descriptor (With n (says.Answer s process id r) before) x.id.site x.process)
            here x there w o apart = a.calls.free x there w o ∙ lowest_alike (descriptor before x.id.site x.process) (descriptor (With n (says.Answer s process id r) before) x.id.site x.process) (λ fd. on fd (s == x.id.site) (process == x.process) refl refl)
              where
                -- an open of the same process is the same call
                clash : {A : Type 0} (fd : ℕ) → r ≡ reply.Opened fd → (s == x.id.site) ≡ true → (process == x.process) ≡ true → A
                clash fd e p_s p_q = false_true (sym apart ∙ (ap (λ (z : CallSoFar). is_id it.one.id z) same ∙ call_own it.one.id))
                  where
                    passes : (z : CallSoFar) → z.waits ≡ true → (z.id.site == s) ≡ true → (z.process == process) ≡ true → is_open z.words ≡ true → z.waits && is_alone s process (waiting_as z) ≡ true
                    passes z zw zs zp zo = both_is z.waits (is_alone s process (waiting_as z)) zw (both_is ((z.id.site == s) && (z.process == process)) (not (is_mend z.words)) (both_is (z.id.site == s) (z.process == process) zs zp) (ap not (open_no_mend z.words zo)))

                    turned : (m l : ℕ) → (m == l) ≡ true → (l == m) ≡ true
                    turned m l h = subst (λ (y : ℕ). (y == m) ≡ true) (number_eq m l h) (number_own m)

                    is_own : (m l : ℕ) → m ≡ l → (m == l) ≡ true
                    is_own m l h = subst (λ (y : ℕ). (m == y) ≡ true) h (number_own m)

                    same : x ≡ it.one
                    same = same_waiting (is_alone s process) p.calls (subst (λ (ws : List Waiting). length (filter (is_alone s process) ws) ≤ 1) (sym a.calls.waits) (a.calls.users.alone s process)) x it.one there (ap (λ (d : CallId). find (is_id d) p.calls) it.id_is ∙ it.found)
                        (passes x w (turned s x.id.site p_s) (turned process x.process p_q) o)
                        (passes it.one it.waits (is_own it.one.id.site s it.site_is) (is_own it.one.process process it.process_is) (answered_open c before p s process id fd a (subst (λ (z : Reply). SaysGiven c before (says.Answer s process id z)) e given) it))

                -- a descriptor that is held again was there
                again_there : (opening old : Option Descriptor) → is_some old ≡ is_some (held_again opening old)
                again_there None old = refl
                again_there (Some o) None = refl
                again_there (Some o) (Some y) = refl

                opened_none : (z : Reply) (fd : ℕ) (old : Option Descriptor) → ((m : ℕ) → z ≡ reply.Opened m → ⊥) → is_some old ≡ is_some (opened_by z before id fd old)
                opened_none (reply.Opened m) fd old none = absurd (none m refl)
                opened_none (reply.Data bytes) fd old none = by (reads_by (call_named before id) fd)
                  where
                    by : (b : Bool) → is_some old ≡ is_some (cond b (held_again (opening_of before id) old) old)
                    by true = again_there (opening_of before id) old
                    by false = refl
                opened_none _ fd old none = refl

                on : (fd : ℕ) (b d : Bool) → (s == x.id.site) ≡ b → (process == x.process) ≡ d → is_some (descriptor before x.id.site x.process fd) ≡ is_some (cond (b && d) (opened_by r before id fd (descriptor before x.id.site x.process fd)) (descriptor before x.id.site x.process fd))
                on fd true true e f = opened_none r fd (descriptor before x.id.site x.process fd) (λ m h. clash m h e f)
                on fd true false e f = refl
                on fd false d e f = refl

            over : (b : Bool) → is_id it.one.id y.was ≡ b → cond b (record y.was { waits = false }) y.was ≡ k → k.free ≡ lowest_free (descriptor (With n (says.Answer s process id r) before) k.id.site k.process)
            over true e q = false_true (ap (λ (x : CallSoFar). x.waits) q ∙ waits)
            over false e q = here k (ap (λ (x : CallSoFar). find (is_id k.id) p.calls) q ∙ (y.found ∙ ap Some q)) waits opens (ap (is_id it.one.id) (sym q) ∙ e)

free_stop : (n s : ℕ) (cause : StopCause) (before : Trace) (c : Config) (p : Past) → Agrees c before p → (k : CallSoFar) → find (is_id k.id) (told_by c (says.Stopped s cause) p).calls ≡ Some k → k.waits ≡ true → is_open k.words ≡ true → k.free ≡ lowest_free (descriptor (With n (says.Stopped s cause) before) k.id.site k.process)
free_stop n s cause before c p a k found waits opens = from (was_found (is_id k.id) (λ (x : CallSoFar). x.id.site == s) (λ (x : CallSoFar). record x { waits = false }) (λ x. refl) p.calls k found)
  where
    from : WasFound (is_id k.id) (λ (x : CallSoFar). x.id.site == s) (λ (x : CallSoFar). record x { waits = false }) p.calls k → k.free ≡ lowest_free (descriptor (With n (says.Stopped s cause) before) k.id.site k.process)
    from y = over (y.was.id.site == s) refl y.is
      where
        here : (x : CallSoFar) → find (is_id x.id) p.calls ≡ Some x → x.waits ≡ true → is_open x.words ≡ true → (x.id.site == s) ≡ false → x.free ≡ lowest_free (descriptor (With n (says.Stopped s cause) before) x.id.site x.process)
        here x there w o apart = a.calls.free x there w o ∙ lowest_same (descriptor before x.id.site x.process) (descriptor (With n (says.Stopped s cause) before) x.id.site x.process) (λ fd. on fd (s == x.id.site) refl)
          where
            on : (fd : ℕ) (b : Bool) → (s == x.id.site) ≡ b → descriptor before x.id.site x.process fd ≡ cond b None (descriptor before x.id.site x.process fd)
            on fd true e = false_true (sym apart ∙ subst (λ (m : ℕ). (m == s) ≡ true) (number_eq s x.id.site e) (number_own s))
            on fd false e = refl

        over : (b : Bool) → (y.was.id.site == s) ≡ b → cond b (record y.was { waits = false }) y.was ≡ k → k.free ≡ lowest_free (descriptor (With n (says.Stopped s cause) before) k.id.site k.process)
        over true e q = false_true (ap (λ (x : CallSoFar). x.waits) q ∙ waits)
        over false e q = here k (y.found ∙ ap Some q) waits opens (ap (λ (x : CallSoFar). x.id.site == s) (sym q) ∙ e)

pub free_step : (c : Config) (n : ℕ) (w : Record) (before : Trace) (p : Past) → MayCome c before w → SaysGiven c before w → Agrees c before p → (k : CallSoFar) → find (is_id k.id) (told_by c w p).calls ≡ Some k → k.waits ≡ true → is_open k.words ≡ true
    → k.free ≡ lowest_free (descriptor (With n w before) k.id.site k.process)
free_step c n (says.Accept s process new words) before p may given a k found waits opens = free_accept c n s process new words before p may a k found waits opens
free_step c n (says.Answer s process id r) before p may given a k found waits opens = free_answer c n s process id r before p may given a k found waits opens
free_step c n (says.Stopped s cause) before p may given a k found waits opens = free_stop n s cause before c p a k found waits opens
free_step c n w before p may given a k found waits opens = at (was_there with_waits (λ d x. refl) p.calls (told_by c w p).calls (sym (waits_same c w p tt)) k found)
  where
    at : Was with_waits p.calls k → k.free ≡ lowest_free (descriptor before k.id.site k.process)
    at it = ap (λ (x : CallSoFar). x.free) (sym it.same) ∙ (a.calls.free it.was (ap (λ (x : CallSoFar). find (is_id x.id) p.calls) it.same ∙ it.found) (ap (λ (x : CallSoFar). x.waits) it.same ∙ waits) (ap (λ (x : CallSoFar). is_open x.words) it.same ∙ opens)
        ∙ ap (λ (x : CallSoFar). lowest_free (descriptor before x.id.site x.process)) it.same)
