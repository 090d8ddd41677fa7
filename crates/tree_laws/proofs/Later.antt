-- Of two calls of a process in an epoch the earlier is over: it doesn't wait, and asks nothing. Mends wait for mends of their
-- group alone.
use Rattle.std.proofs.Common.{◌≡◌, ℕ, ◌+◌, ◌≤◌, ◌<◌, ◌==◌, Bool, true, false, not, cond, ◌&&◌, ◌||◌, List, [], ◌∷◌, ◌++◌, Option, Some, None, refl, sym, ◌∙◌, ap, subst, arith, inl, inr}
use Rattle.std.specs.List.{find, list_any}
use Rattle.std.proofs.lemmas.Bool.Decides.{nat_tests}
use Rattle.the_run.proofs.of_plain_facts.Options.{none_some, some_none, some_same}
use Rattle.the_run.proofs.of_plain_facts.Tests.{true_false}
use Rattle.locus_ids.specs.declared.config.Config.{Config}
use Rattle.locus_ids.specs.declared.ids.CallId.{CallId}
use Rattle.locus_ids.specs.declared.ids.EpochId.{EpochId}
use Rattle.trace_book.specs.Same.{same_call}
use Rattle.trace_book.specs.declared.call.Call.{Call}
use Rattle.trace_book.specs.declared.call.Call.TheVariants as call
use Rattle.trace_book.specs.declared.record.Record.{Record}
use Rattle.trace_book.specs.declared.record.Record.TheVariants as says
use Rattle.the_run.specs.of_role_steps.Own.{Every}
use Rattle.the_run.specs.of_role_steps.Views.{Told, Shown, Takes}
use Rattle.the_run.specs.Kept.{Among}
use Rattle.the_run.specs.Worlds.{Line}
use Rattle.lawful_trace.specs.of_tree_model.declared.accepted.Waiting.{Waiting}
use Rattle.lawful_trace.specs.of_tree_model.Calls.{call_named, accepted_as, waiting, is_of}
use Rattle.lawful_trace.specs.of_tree_model.Epochs.{boot_of, calls_accepted, epoch_of}
use Rattle.lawful_trace.specs.CallRows.{CallRow, is_mend_in, is_this, next_call}
use Rattle.lawful_trace.specs.TreeRows.{IsCallIn}
use Rattle.tree_laws.specs.Printed.{entries}
use Rattle.tree_laws.specs.Calls.{log, is_request}
use Rattle.tree_laws.specs.Serials.{asked_now}
use Rattle.tree_laws.specs.Following.{MayTell, IsFollowed}
use Rattle.tree_laws.specs.Processes.{WaitsFor, Follows, Quiet, IsOver}
use Rattle.tree_laws.proofs.Boots.{every_filter, every_pair, found_every}
use Rattle.tree_laws.proofs.Counting.{asked_same}
use Rattle.tree_laws.proofs.Fresh.{IsLow, IsNamed, numbered, next_is_new, calls_are_low}
use Rattle.tree_laws.proofs.Names.{same_call_eq}
use Rattle.tree_laws.proofs.OneBoot.{one_boot}
use Rattle.tree_laws.proofs.Waiting.{accepted, asking_waits}

abbrev With : ℕ → Told → List Line → List Line
With n x older = record { number = n; told = x } ∷ older

-- ---- lists ----

-- what isn't found passes nowhere
pub none_every : {A : Type 0} (p : A → Bool) (xs : List A) → find p xs ≡ None → Every (λ (x : A). p x ≡ false) xs
none_every p [] e = tt
none_every {A} p (x ∷ xs) e = at (λ (k : find p xs ≡ None). none_every p xs k) (p x) refl e
  where
    at : (find p xs ≡ None → Every (λ (y : A). p y ≡ false) xs) → (b : Bool) → p x ≡ b → cond b (Some x) (find p xs) ≡ None → (p x ≡ false) × Every (λ (y : A). p y ≡ false) xs
    at later true t k = absurd (some_none x k)
    at later false t k = (t, later k)

pub any_every : {A : Type 0} (p : A → Bool) (xs : List A) → list_any p xs ≡ false → Every (λ (x : A). p x ≡ false) xs
any_every p [] e = tt
any_every {A} p (x ∷ xs) e = at (λ (k : list_any p xs ≡ false). any_every p xs k) (p x) refl e
  where
    at : (list_any p xs ≡ false → Every (λ (y : A). p y ≡ false) xs) → (b : Bool) → p x ≡ b → (b || list_any p xs) ≡ false → (p x ≡ false) × Every (λ (y : A). p y ≡ false) xs
    at later true t k = absurd (true_false k)
    at later false t k = (t, later k)

pub every_among : {A : Type 0} (P : A → Type 0) (x : A) (xs : List A) → Every P xs → Among x xs → P x
every_among P x [] h k = absurd k
every_among P x (y ∷ ys) h (inl same) = subst P (sym same) h.0
every_among P x (y ∷ ys) h (inr k) = every_among P x ys h.1 k

abbrev NotIt : CallId → Waiting → Type 0
NotIt d w = w.call ≡ d → ⊥

abbrev AllOver : Config → List Line → Type 0
AllOver c t = (e : EpochId) (d other : CallId) → Follows (entries t) e d other → IsOver c t d

-- ---- what is over stays over ----

third : (p q b : Bool) → (p && q && b) ≡ true → b ≡ true
third p q true t = refl
third true true false t = absurd (true_false (sym t))
third true false false t = absurd (true_false (sym t))
third false q false t = absurd (true_false (sym t))

quiet_record : (c : Config) (n : ℕ) (r : Record) (older : List Line) → IsFollowed c older → MayTell c older (Shown r) → (d : CallId) → IsNamed (entries older) d → Quiet (entries older) d → Quiet (entries (With n (Shown r) older)) d
quiet_record c n (says.Accept s process new words) older h may d named q = ((λ (same : new ≡ d). next_is_new (entries older) s d (calls_are_low c older h d named) (sym same ∙ numbered c (entries older) s process new words may.row)), q)
quiet_record c n (says.Answer s process call r) older h may d named q = every_filter (NotIt d) (λ (w : Waiting). not (same_call w.call call)) (waiting (entries older)) q
quiet_record c n (says.Stopped s cause) older h may d named q = every_filter (NotIt d) (λ (w : Waiting). not (w.site == s)) (waiting (entries older)) q
quiet_record c n r older h may d named q = q

quiet_told : (c : Config) (n : ℕ) (x : Told) (older : List Line) → IsFollowed c older → MayTell c older x → (d : CallId) → IsNamed (entries older) d → Quiet (entries older) d → Quiet (entries (With n x older)) d
quiet_told c n (Shown r) older h may d named q = quiet_record c n r older h may d named q
quiet_told c n _ older h may d named q = q

-- a call that doesn't wait takes nothing
log_told : (c : Config) (n : ℕ) (x : Told) (older : List Line) → MayTell c older x → (d : CallId) → Quiet (entries older) d → log (With n x older) d ≡ log older d
log_told c n (Takes s it request times a) older may d q = at (same_call it d) refl
  where
    found : NotIt d may.waits_for.caller × (is_this s may.waits_for.process it may.waits_for.caller ≡ true)
    found = found_every (NotIt d) (is_this s may.waits_for.process it) (waiting (entries older)) may.waits_for.caller may.waits_for.found q

    at : (b : Bool) → same_call it d ≡ b → cond b (log older d ++ a ∷ []) (log older d) ≡ log older d
    at true t = absurd (found.0 (same_call_eq may.waits_for.caller.call it (third (may.waits_for.caller.site == s) (may.waits_for.caller.process == may.waits_for.process) (same_call may.waits_for.caller.call it) found.1) ∙ same_call_eq it d t))
    at false t = refl
log_told c n _ older may d q = refl

pub over_stays : (c : Config) (n : ℕ) (x : Told) (older : List Line) → IsFollowed c older → MayTell c older x → (d : CallId) → IsNamed (entries older) d → IsOver c older d → IsOver c (With n x older) d
over_stays c n x older h may d named o = record {
  quiet = quiet_told c n x older h may d named o.quiet;
  asks_nothing = ap is_request (asked_same c older n x d h may named (log_told c n x older may d o.quiet)) ∙ o.asks_nothing;
}

-- ---- a call is accepted ----

-- no call of the process waits that this one waits for
quiet_before : (c : Config) (older : List Line) (s process : ℕ) (new : CallId) (words : Call) (d : CallId) (w : Waiting) → IsFollowed c older → CallRow c (entries older) s process new words → call_named (entries older) d ≡ Some w → d.site ≡ s → w.process ≡ process → WaitsFor words w.words → Quiet (entries older) d
quiet_before c older s process new words d w h row named site process_is waits = over words row waits
  where
    site_is : w.site ≡ s
    site_is = ((accepted c older h).named d w named).site_is ∙ site

    -- what waits and is the call is what was accepted
    is_it : (v : Waiting) → call_named (entries older) v.call ≡ Some v → v.call ≡ d → v ≡ w
    is_it v k same = some_same v w (sym k ∙ (ap (call_named (entries older)) same ∙ named))

    both : (a b : Bool) → a ≡ true → b ≡ true → a && b ≡ true
    both true true p q = refl
    both true false p q = q
    both false b p q = p

    test : (a b : ℕ) → a ≡ b → (a == b) ≡ true
    test a b same = grind (arith, nat_tests)

    apart : (p : Waiting → Bool) → p w ≡ true → (v : Waiting) → call_named (entries older) v.call ≡ Some v → p v ≡ false → NotIt d v
    apart p t v k f same = true_false (sym t ∙ (ap p (sym (is_it v k same)) ∙ f))

    over : (words : Call) → CallRow c (entries older) s process new words → WaitsFor words w.words → Quiet (entries older) d
    over (call.Mend file) row waits = every_pair (λ (v : Waiting). call_named (entries older) v.call ≡ Some v) (λ (v : Waiting). ((v.site == s) && is_mend_in file.group v.words) ≡ false) (NotIt d) (waiting (entries older))
        (apart (λ (v : Waiting). (v.site == s) && is_mend_in file.group v.words) (both (w.site == s) (is_mend_in file.group w.words) (test w.site s site_is) waits))
        (accepted c older h).waits (any_every (λ (v : Waiting). (v.site == s) && is_mend_in file.group v.words) (waiting (entries older)) row.alone)
    over _ row waits = every_pair (λ (v : Waiting). call_named (entries older) v.call ≡ Some v) (λ (v : Waiting). is_of s process v ≡ false) (NotIt d) (waiting (entries older))
        (apart (is_of s process) (both (w.site == s) (w.process == process) (test w.site s site_is) (test w.process process process_is)))
        (accepted c older h).waits (none_every (is_of s process) (waiting (entries older)) row.idle)

module _ (c : Config) (n s process : ℕ) (new : CallId) (words : Call) (older : List Line) (h : IsFollowed c older) (may : MayTell c older (Shown (says.Accept s process new words))) (k : AllOver c older) where
  abbrev it : Waiting
  it = accepted_as (entries older) s process new words

  abbrev now : List Line
  now = With n (Shown (says.Accept s process new words)) older

  is : new ≡ next_call (entries older) s
  is = numbered c (entries older) s process new words may.row

  old : (e : EpochId) (d : CallId) → same_call new d ≡ false → IsCallIn (entries now) e d → IsCallIn (entries older) e d
  old e d f i = record { accepted = i.accepted; named = sym (ap (λ (b : Bool). cond b (Some it) (call_named (entries older) d)) f) ∙ i.named; made_in = i.made_in }

  own : (e : EpochId) (d : CallId) → same_call new d ≡ true → (i : IsCallIn (entries now) e d) → it ≡ i.accepted
  own e d f i = some_same it i.accepted (sym (ap (λ (b : Bool). cond b (Some it) (call_named (entries older) d)) f) ∙ i.named)

  -- no call is later than the new one
  last : (e : EpochId) (d other : CallId) → Follows (entries now) e d other → new ≡ d → same_call new other ≡ false → ⊥
  last e d other f same away = over (calls_are_low c older h other (i.accepted, i.named))
    where
      i : IsCallIn (entries older) e other
      i = old e other away f.second

      boot : other.boot ≡ boot_of (entries older) s
      boot = sym (one_boot c now e d other (may, h) f.first f.second f.site_same) ∙ (ap (λ (x : CallId). x.boot) (sym same) ∙ ap (λ (x : CallId). x.boot) is)

      site : other.site ≡ s
      site = sym f.site_same ∙ (ap (λ (x : CallId). x.site) (sym same) ∙ ap (λ (x : CallId). x.site) is)

      number : d.n ≡ calls_accepted (entries older) s + 1
      number = ap (λ (x : CallId). x.n) (sym same) ∙ ap (λ (x : CallId). x.n) is

      over : IsLow (entries older) other → ⊥
      over (inl low) = (let a : boot_of (entries older) other.site ≡ boot_of (entries older) s = ap (boot_of (entries older)) site in omega (arith, low, a, boot))
      over (inr low) = (let a : calls_accepted (entries older) other.site ≡ calls_accepted (entries older) s = ap (calls_accepted (entries older)) site in let b : other.n ≤ calls_accepted (entries older) other.site = low.1 in let l : d.n < other.n = f.later in omega (arith, a, b, l, number))

  still : (d : CallId) → (w : Waiting) → call_named (entries older) d ≡ Some w → IsOver c older d → IsOver c now d
  still d w named o = over_stays c n (Shown (says.Accept s process new words)) older h may d (w, named) o

  -- the calls before it are over
  before : (e : EpochId) (d other : CallId) → Follows (entries now) e d other → same_call new other ≡ true → same_call new d ≡ false → IsOver c older d
  unfolding old
  before e d other f same away = record { quiet = quiet; asks_nothing = nothing (is_request (asked_now c older d)) refl }
    where
      i : IsCallIn (entries older) e d
      i = old e d away f.first

      second : it ≡ f.second.accepted
      second = own e other same f.second

      site : d.site ≡ s
      site = f.site_same ∙ (ap (λ (x : CallId). x.site) (sym (same_call_eq new other same)) ∙ ap (λ (x : CallId). x.site) is)

      quiet : Quiet (entries older) d
      quiet = quiet_before c older s process new words d i.accepted h may.row i.named site (f.process_same ∙ ap (λ (x : Waiting). x.process) (sym second)) (subst (λ (x : Waiting). WaitsFor x.words i.accepted.words) (sym second) f.waits_for)

      inside : epoch_of (entries older) d.site ≡ Some e
      inside = ap (epoch_of (entries older)) site ∙ (ap (λ (x : Waiting). x.epoch) second ∙ f.second.made_in)

      nothing : (b : Bool) → is_request (asked_now c older d) ≡ b → is_request (asked_now c older d) ≡ false
      nothing true asks = absurd (every_among (NotIt d) i.accepted (waiting (entries older)) quiet (asking_waits c older e d h i inside asks) ((accepted c older h).named d i.accepted i.named).call_is)
      nothing false asks = asks

  over_accept : AllOver c now
  unfolding old
  over_accept e d other f = at (same_call new d) (same_call new other) refl refl
    where
      at : (a b : Bool) → same_call new d ≡ a → same_call new other ≡ b → IsOver c now d
      at true true p q = absurd (not_below (ap (λ (x : CallId). x.n) (sym (same_call_eq new d p) ∙ same_call_eq new other q)) f.later)
        where
          not_below : d.n ≡ other.n → d.n < other.n → ⊥
          not_below same below = omega (arith, same, below)
      at true false p q = absurd (last e d other f (same_call_eq new d p) q)
      at false true p q = still d (old e d p f.first).accepted (old e d p f.first).named (before e d other f q p)
      at false false p q = still d (old e d p f.first).accepted (old e d p f.first).named (k e d other (record { first = old e d p f.first; second = old e other q f.second; site_same = f.site_same; process_same = f.process_same; waits_for = f.waits_for; later = f.later }))

-- ---- line by line ----

over_record : (c : Config) (n : ℕ) (r : Record) (older : List Line) → IsFollowed c older → MayTell c older (Shown r) → AllOver c older → AllOver c (With n (Shown r) older)
over_record c n (says.Accept s process new words) older h may k e d other f = over_accept c n s process new words older h may k e d other f
over_record c n r older h may k e d other f = over_stays c n (Shown r) older h may d (f.first.accepted, f.first.named) (k e d other (record {
  first = record { accepted = f.first.accepted; named = f.first.named; made_in = f.first.made_in };
  second = record { accepted = f.second.accepted; named = f.second.named; made_in = f.second.made_in };
  site_same = f.site_same;
  process_same = f.process_same;
  waits_for = f.waits_for;
  later = f.later;
}))

over_told : (c : Config) (n : ℕ) (x : Told) (older : List Line) → IsFollowed c older → MayTell c older x → AllOver c older → AllOver c (With n x older)
over_told c n (Shown r) older h may k = over_record c n r older h may k
over_told c n x older h may k = λ e d other f. over_stays c n x older h may d (f.first.accepted, f.first.named) (k e d other f)

-- the earlier of two calls of a process in an epoch doesn't wait, and asks nothing
pub earlier_is_over : (c : Config) (trace : List Line) → IsFollowed c trace → (e : EpochId) (d other : CallId) → Follows (entries trace) e d other → IsOver c trace d
earlier_is_over c [] h e d other f = absurd (none_some f.first.accepted f.first.named)
earlier_is_over c (x ∷ older) h e d other f = over_told c x.number x.told older h.1 h.0 (earlier_is_over c older h.1) e d other f
