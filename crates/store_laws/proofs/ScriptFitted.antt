-- What a process has taken fits its script, answer by answer; so the script is sound.
use Rattle.std.proofs.Common.{◌≡◌, ℕ, Bool, true, false, cond, List, [], ◌∷◌, ◌++◌, Option, Some, None, refl, sym, ◌∙◌, ap, subst, ◌⊎◌, inl, inr}
use Rattle.role_steps.proofs.of_plain_facts.Options.{none_some, some_same}
use Rattle.locus_ids.specs.declared.config.Config.{Config}
use Rattle.locus_ids.specs.declared.ids.CallId.{CallId}
use Rattle.trace_book.specs.Same.{same_call}
use Rattle.trace_book.specs.declared.call.Call.{Call}
use Rattle.trace_book.specs.declared.call.Call.TheVariants as call
use Rattle.trace_book.specs.declared.descriptor.Beginning.{Beginning}
use Rattle.trace_book.specs.declared.descriptor.Beginning.TheVariants as begins
use Rattle.trace_book.specs.declared.descriptor.Descriptor.{Descriptor}
use Rattle.trace_book.specs.declared.record.Record.TheVariants as says
use Rattle.call_rules.specs.declared.answer.Answer.{Answer}
use Rattle.call_rules.specs.declared.want.Want.{Want}
use Rattle.call_rules.specs.declared.want.Want.TheVariants as want
use Rattle.call_rules.specs.Descriptors.{beginning}
use Rattle.call_rules.specs.Scripts.{wants}
use Rattle.role_steps.specs.Views.{Told, Shown, Takes, LooksAgain}
use Rattle.the_run.specs.Worlds.{Line}
use Rattle.tree_model.specs.declared.accepted.Waiting.{Waiting}
use Rattle.tree_model.specs.Calls.{accepted_as, call_named}
use Rattle.lawful_trace.specs.Progress.{Answers, is_packed_in}
use Rattle.lawful_trace.specs.Tables.{begins_now, begun, descriptor}
use Rattle.tree_laws.specs.Calls.{heard, is_request, log, script, script_as, Waits}
use Rattle.tree_laws.specs.Following.{IsFollowed, MayTell}
use Rattle.tree_laws.specs.Printed.{entries, onto_entries}
use Rattle.tree_laws.specs.Serials.{asked_now}
use Rattle.tree_laws.proofs.Asking.{Same, StepOf, Turns, not_longer, same_told}
use Rattle.tree_laws.proofs.Awaiting.{named_before, turn_clear}
use Rattle.tree_laws.proofs.Counting.{asked_same}
use Rattle.tree_laws.proofs.Free.{AsksSame, free_same}
use Rattle.tree_laws.proofs.Fresh.{IsNamed, calls_are_low, next_is_new, numbered}
use Rattle.tree_laws.proofs.Having.{Untaken, named_or_untaken}
use Rattle.tree_laws.proofs.Names.{same_call_own, same_call_eq}
use Rattle.tree_laws.proofs.Scripts.{script_stays}
use Rattle.store_laws.proofs.ScriptFitting.{AllFit, Fits, IsSound, Script, sound_where}
use Rattle.store_laws.proofs.ScriptSoundCalls.{BeginsRight, HasFree, begins_right, wants_sound}
use Rattle.store_laws.proofs.ScriptTelling.{step_fits}

abbrev With : ℕ → Told → List Line → List Line
With n x older = record { number = n; told = x } ∷ older

-- ---- lists of answers that fit ----

pub fit_same : (k l : Script) (xs : List Answer) → ((ys : List Answer) → k ys ≡ l ys) → AllFit k xs → AllFit l xs
fit_same k l [] h f = tt
fit_same k l (a ∷ xs) h f = (subst (λ (w : Want). Fits w a) (h []) f.0, fit_same (λ ys. k (a ∷ ys)) (λ ys. l (a ∷ ys)) xs (λ ys. h (a ∷ ys)) f.1)

fit_more : (k : Script) (xs : List Answer) (a : Answer) → AllFit k xs → Fits (k xs) a → AllFit k (xs ++ a ∷ [])
fit_more k [] a f fit = (fit, tt)
fit_more k (x ∷ xs) a f fit = (f.0, fit_more (λ ys. k (x ∷ ys)) xs a f.1 fit)

-- only requests are answered
pub fits_request : (w : Want) (a : Answer) → Fits w a → is_request w ≡ true
fits_request (want.Give r) a f = absurd f
fits_request want.Never a f = absurd f
fits_request w a f = refl

fit_free : (k l : Script) (xs : List Answer) → ((ys : List Answer) → AsksSame (k ys) (l ys)) → AllFit k xs → AllFit l xs
fit_free k l [] h f = tt
fit_free k l (a ∷ xs) h f = (subst (λ (w : Want). Fits w a) (sym (h [] (fits_request (k []) a f.0))) f.0, fit_free (λ ys. k (a ∷ ys)) (λ ys. l (a ∷ ys)) xs (λ ys. h (a ∷ ys)) f.1)

-- ---- line by line ----

-- what the call has taken fits, and what waits fits what it asks
record FitSo (c : Config) (t : List Line) (d : CallId) : Type 0 where
  fits : AllFit (script c (entries t) d None) (log t d)
  next : (a : Answer) → Waits c t d a → Fits (asked_now c t d) a

fit_told : (c : Config) (n : ℕ) (x : Told) (older : List Line) (d : CallId) → IsFollowed c older → MayTell c older x → IsNamed (entries older) d → FitSo c older d → FitSo c (With n x older) d
fit_told c n x older d h may named k = over x may (same_told c older n x d)
  where
    kept : (y : Told) → MayTell c older y → log (With n y older) d ≡ log older d → AllFit (script c (onto_entries n y (entries older)) d None) (log (With n y older) d)
    kept y m same = subst (AllFit (script c (onto_entries n y (entries older)) d None)) (sym same) (fit_same (script c (entries older) d None) (script c (onto_entries n y (entries older)) d None) (log older d) (λ ys. sym (script_stays c n y older d None ys h m named)) k.fits)

    clear : (y : Told) → MayTell c older y → Turns y d → (a : Answer) → Waits c (With n y older) d a → Fits (asked_now c (With n y older) d) a
    clear y m turn a w = absurd (not_longer (heard c (With n y older) d) (log (With n y older) d) a (turn_clear c n y older d m turn) w)

    taken : (s : ℕ) (it : CallId) (request times : ℕ) (a : Answer) → MayTell c older (Takes s it request times a) → it ≡ d → AllFit (script c (entries older) d None) (log (With n (Takes s it request times a) older) d)
    taken s it request times a m turn = subst (AllFit (script c (entries older) d None)) (sym (ap (λ (b : Bool). cond b (log older d ++ a ∷ []) (log older d)) (subst (λ (z : CallId). same_call it z ≡ true) turn (same_call_own it))))
        (fit_more (script c (entries older) d None) (log older d) a k.fits (k.next a (subst (λ (z : CallId). Waits c older z a) turn m.answer)))

    over : (y : Told) → MayTell c older y → Same c older n y d ⊎ (StepOf older y d ⊎ Turns y d) → FitSo c (With n y older) d
    over y m (inl s) = record {
      fits = kept y m s.log_same;
      next = λ a w. subst (λ (v : Want). Fits v a) (sym (asked_same c older n y d h m named s.log_same)) (k.next a (sym s.heard_same ∙ (w ∙ ap (λ (xs : Answers). xs ++ a ∷ []) s.log_same)));
    }
    over (Shown r) m (inr (inl step)) = record { fits = kept (Shown r) m refl; next = λ a w. subst (λ (v : Want). Fits v a) (sym (asked_same c older n (Shown r) d h m named refl)) (step_fits c n r older d a m step w) }
    over (Takes s it request times a) m (inr (inr turn)) = record { fits = taken s it request times a m turn; next = clear (Takes s it request times a) m turn }
    over (LooksAgain s it request times) m (inr (inr turn)) = record { fits = kept (LooksAgain s it request times) m refl; next = clear (LooksAgain s it request times) m turn }
    over (Shown r) m (inr (inr turn)) = absurd turn
    over y m (inr (inl step)) = absurd step
    over y m (inr (inr turn)) = absurd turn

fit_new : (c : Config) (n s process : ℕ) (d : CallId) (words : Call) (older : List Line) → IsFollowed c older → MayTell c older (Shown (says.Accept s process d words)) → FitSo c (With n (Shown (says.Accept s process d words)) older) d
fit_new c n s process d words older h may = over (named_or_untaken c older h d)
  where
    x : Told
    x = Shown (says.Accept s process d words)

    over : IsNamed (entries older) d ⊎ Untaken c older d → FitSo c (With n x older) d
    over (inl named) = absurd (next_is_new (entries older) s d (calls_are_low c older h d named) (numbered c (entries older) s process d words may.row))
    over (inr u) = record {
      fits = subst (AllFit (script c (entries (With n x older)) d None)) (sym u.log_is) tt;
      next = λ a w. absurd (not_longer (heard c older d) (log older d) a (u.heard_is ∙ sym u.log_is) w);
    }

fitted : (c : Config) (t : List Line) → IsFollowed c t → (d : CallId) → IsNamed (entries t) d → FitSo c t d
fitted c [] h d named = absurd (none_some named.0 named.1)
fitted c (x ∷ older) h d named = at (λ was. fitted c older h.1 d was)
  where
    at : (IsNamed (entries older) d → FitSo c older d) → FitSo c (x ∷ older) d
    at later = named_before c x.number x.told older d (FitSo c (x ∷ older) d) h.0 new (λ was. fit_told c x.number x.told older d h.1 h.0 was (later was)) named
      where
        new : (s process : ℕ) (words : Call) → x.told ≡ Shown (says.Accept s process d words) → FitSo c (x ∷ older) d
        new s process words is = subst (λ (y : Told). FitSo c (With x.number y older) d) (sym is) (fit_new c x.number s process d words older h.1 (subst (MayTell c older) is h.0))

-- what the call has taken fits its script
pub log_fits : (c : Config) (t : List Line) (d : CallId) → IsFollowed c t → IsNamed (entries t) d → AllFit (script c (entries t) d None) (log t d)
log_fits c t d h named = (fitted c t h d named).fits

-- what waits fits what is asked
pub waits_fits : (c : Config) (t : List Line) (d : CallId) (a : Answer) → IsFollowed c t → IsNamed (entries t) d → Waits c t d a → Fits (asked_now c t d) a
waits_fits c t d a h named w = (fitted c t h d named).next a w

-- ---- where calls began ----

-- where an accepted call has begun it began by its words, and by some descriptors
pub record Began (t : List Line) (d : CallId) (w : Waiting) : Type 0 where
  pub table : ℕ → Option Descriptor
  pub begun_is : begun (entries t) d ≡ Some (beginning table w.epoch d w.words)

pub began : (t : List Line) (d : CallId) (w : Waiting) → call_named (entries t) d ≡ Some w → Began t d w
began [] d w named = absurd (none_some w named)
began (x ∷ older) d w named = at (λ was. began older d w was) x.told named
  where
    at : (call_named (entries older) d ≡ Some w → Began older d w) → (y : Told) → call_named (onto_entries x.number y (entries older)) d ≡ Some w → Began (With x.number y older) d w
    at later (Shown (says.Accept s process new words)) named = over (same_call new d) refl named
      where
        over : (b : Bool) → same_call new d ≡ b → cond b (Some (accepted_as (entries older) s process new words)) (call_named (entries older) d) ≡ Some w → Began (With x.number (Shown (says.Accept s process new words)) older) d w
        over true e k = record { table = descriptor (entries older) s process; begun_is = ap (λ (b : Bool). cond b (Some (begins_now (entries older) s process new words)) (begun (entries older) d)) e ∙ (ap (λ (v : Waiting). Some (beginning (descriptor (entries older) s process) v.epoch new v.words)) (some_same (accepted_as (entries older) s process new words) w k) ∙ ap (λ (z : CallId). Some (beginning (descriptor (entries older) s process) w.epoch z w.words)) (same_call_eq new d e)) }
        over false e k = (let b : Began older d w = later k in record { table = b.table; begun_is = ap (λ (p : Bool). cond p (Some (begins_now (entries older) s process new words)) (begun (entries older) d)) e ∙ b.begun_is })
    at later (Shown r) named = (let b : Began older d w = later named in record { table = b.table; begun_is = b.begun_is })
    at later y named = (let b : Began older d w = later named in record { table = b.table; begun_is = b.begun_is })

-- a call began by its words
pub began_right : (t : List Line) (d : CallId) (w : Waiting) (b : Beginning) → call_named (entries t) d ≡ Some w → begun (entries t) d ≡ Some b → BeginsRight w.words b
began_right t d w b named starts = (let k : Began t d w = began t d w named in subst (BeginsRight w.words) (some_same (beginning k.table w.epoch d w.words) b (sym k.begun_is ∙ starts)) (begins_right k.table w.epoch d w.words))

-- ---- what is wanted ----

-- what a call wants, it wants rightly
pub script_sound : (c : Config) (t : List Line) (d : CallId) (w : Waiting) (b : Beginning) (free : Option ℕ) → IsFollowed c t → call_named (entries t) d ≡ Some w → begun (entries t) d ≡ Some b → HasFree free b w.words → IsSound w.words free (script c (entries t) d free (log t d))
script_sound c t d w b free h named starts has = subst (λ (o : Option Waiting). IsSound w.words free (script_as c (entries t) o (begun (entries t) d) free (log t d))) (sym named)
    (subst (λ (o : Option Beginning). IsSound w.words free (script_as c (entries t) (Some w) o free (log t d))) (sym starts) sound)
  where
    fit : AllFit (script_as c (entries t) (Some w) (Some b) free) (log t d)
    fit = subst (λ (o : Option Beginning). AllFit (script_as c (entries t) (Some w) o free) (log t d)) starts
        (subst (λ (o : Option Waiting). AllFit (script_as c (entries t) o (begun (entries t) d) free) (log t d)) named
        (fit_free (script c (entries t) d None) (script c (entries t) d free) (log t d) (λ ys. free_same c (entries t) (call_named (entries t) d) (begun (entries t) d) free ys) (fitted c t h d (w, named)).fits))

    sound : IsSound w.words free (wants c.mounts (is_packed_in c (entries t) w.epoch) free w.words b (log t d))
    sound = sound_where w.words free (wants c.mounts (is_packed_in c (entries t) w.epoch) free w.words b) (log t d) (wants_sound c.mounts (is_packed_in c (entries t) w.epoch) free w.words b (began_right t d w b named starts) has (log t d)) fit

zero_free : (b : Beginning) (words : Call) → HasFree (Some 0) b words
zero_free (begins.Walks id) (call.Open path m) = (0, refl)
zero_free (begins.Walks id) words = tt
zero_free (begins.Denied why) words = tt
zero_free (begins.Uses e i) words = tt
zero_free (begins.Reopens kept last) words = tt
zero_free begins.Frees words = tt

-- what a call asks, it asks rightly
pub asked_sound : (c : Config) (t : List Line) (d : CallId) (w : Waiting) → IsFollowed c t → call_named (entries t) d ≡ Some w → is_request (asked_now c t d) ≡ true → IsSound w.words (Some 0) (asked_now c t d)
asked_sound c t d w h named r = subst (IsSound w.words (Some 0)) (free_same c (entries t) (call_named (entries t) d) (begun (entries t) d) (Some 0) (log t d) r)
    (script_sound c t d w (beginning k.table w.epoch d w.words) (Some 0) h named k.begun_is (zero_free (beginning k.table w.epoch d w.words) w.words))
  where
    k : Began t d w
    k = began t d w named
