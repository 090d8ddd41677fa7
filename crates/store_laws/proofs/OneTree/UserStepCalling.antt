-- A call that a line asks is accepted at a site in its epoch.
use Rattle.std.proofs.Common.{◌≡◌, ℕ, ◌+◌, ◌*◌, ◌==◌, ◌≤◌, ◌<◌, arith, Bool, true, false, cond, ◌&&◌, ◌||◌, List, [], ◌∷◌, length, Option, Some, None, refl, sym, ◌∙◌, ap, subst, ◌⊎◌, inl, inr}
use Rattle.std.proofs.lemmas.Bool.Decides.{nat_tests}
use Rattle.std.specs.List.{find, list_any}
use Rattle.role_steps.proofs.of_plain_facts.Numbers.{equal, equal_self}
use Rattle.role_steps.proofs.of_plain_facts.Options.{some_same}
use Rattle.role_steps.proofs.of_plain_facts.Tests.{and_first, true_false}
use Rattle.locus_ids.specs.declared.config.Config.{Config}
use Rattle.locus_ids.specs.declared.ids.CallId.{CallId}
use Rattle.locus_ids.specs.declared.ids.FileId.{FileId}
use Rattle.locus_ids.specs.Sizes.{descriptor_span}
use Rattle.trace_book.specs.Same.{same_call}
use Rattle.trace_book.specs.declared.call.Call.{Call}
use Rattle.trace_book.specs.declared.call.Call.TheVariants as call
use Rattle.schedule_lines.specs.Ranges.{fits_call, fits_event, is_between, is_descriptor, is_site}
use Rattle.schedule_lines.specs.declared.line.Line.TheVariants as line
use Rattle.role_steps.specs.Own.{Every}
use Rattle.role_steps.specs.Requests.{waiting_key, waiting_of, waiting_span}
use Rattle.role_steps.specs.Using.{on_call}
use Rattle.role_steps.specs.Views.{Frame, Users}
use Rattle.role_steps.specs.declared.users.WaitingCall.{WaitingCall}
use Rattle.the_run.specs.Kept.{Among}
use Rattle.the_run.specs.Worlds.{Line}
use Rattle.tree_model.specs.Calls.{call_named, is_of, waiting, waiting_of as waits_of}
use Rattle.tree_model.specs.Epochs.{boot_of}
use Rattle.tree_model.specs.Packs as tree
use Rattle.tree_model.specs.declared.accepted.Waiting.{Waiting}
use Rattle.tree_laws.specs.of_lawful_trace.CallRows.{CallRow, MayAccept, is_this}
use Rattle.tree_laws.specs.Printed.{entries}
use Rattle.tree_laws.specs.Doing.{FrameFact, UsersInside}
use Rattle.tree_laws.specs.Following.{IsFollowed}
use Rattle.tree_laws.specs.Processes.{IsMend}
use Rattle.tree_laws.specs.Users.{own_call, WaitingFact}
use Rattle.tree_laws.proofs.Boots.{found_every}
use Rattle.tree_laws.proofs.Mending.{mends_at_sync}
use Rattle.tree_laws.proofs.Names.{same_call_own}
use Rattle.tree_laws.proofs.Waiting.{accepted, found_among}
use Rattle.store_laws.specs.Users.Turning.{it, IsNumbered}
use Rattle.store_laws.proofs.Users.Accepting.{call_fine}
use Rattle.store_laws.proofs.Users.Tabled.{every_among}
use Rattle.store_laws.specs.OneTree.Places.{UsersOf}
use Rattle.store_laws.specs.OneTree.Rest.{AllRest}
use Rattle.store_laws.specs.OneTree.Roles.{CallsFine, MayCall, Ready}
use Rattle.store_laws.specs.OneTree.UserStepRests.{UserRests}
use Rattle.store_laws.proofs.OneTree.UserStepGroups.{synced_low}
use Rattle.store_laws.proofs.OneTree.UserStepResting.{calls_fine, staying}

-- ---- what a line may ask ----

low_descriptor : (fd : ℕ) → is_descriptor fd ≡ true → fd < descriptor_span
low_descriptor fd e = grind (arith, nat_tests)

-- its words name a descriptor that a line can name
pub words_low : (sites : ℕ) (words : Call) → fits_call sites words ≡ true → IsNumbered words
words_low sites (call.Read fd at len) e = low_descriptor fd (and_first (is_descriptor fd) _ (and_first _ _ e))
words_low sites (call.Write fd at bytes) e = low_descriptor fd (and_first (is_descriptor fd) _ (and_first _ _ (and_first _ _ e)))
words_low sites (call.Cut fd len) e = low_descriptor fd (and_first (is_descriptor fd) _ e)
words_low sites (call.Commit fd) e = low_descriptor fd e
words_low sites (call.Abort fd) e = low_descriptor fd e
words_low sites (call.Close fd) e = low_descriptor fd e
words_low sites (call.Create path copies) e = tt
words_low sites (call.MakeDir path) e = tt
words_low sites (call.Unlink path) e = tt
words_low sites (call.RemoveDir path) e = tt
words_low sites (call.Rename path name) e = tt
words_low sites (call.List path) e = tt
words_low sites (call.Stat path) e = tt
words_low sites (call.Mail path bytes) e = tt
words_low sites (call.Mails path) e = tt
words_low sites (call.Open path how) e = tt
words_low sites (call.Mend file) e = tt

pub no_mend : (sites : ℕ) (words : Call) → fits_call sites words ≡ true → IsMend words → ⊥
no_mend sites (call.Mend file) e m = true_false (sym e)
no_mend sites _ e m = m

-- its process is 1 or above
pub process_above : (sites me process : ℕ) (words : Call) → fits_event sites (line.Call me process words) ≡ true → (1 ≤ process) × (fits_call sites words ≡ true)
process_above sites me process words e = over (is_site sites me) (is_between 1 8 process) (fits_call sites words) refl refl e
  where
    above : is_between 1 8 process ≡ true → 1 ≤ process
    above t = grind (arith, nat_tests)

    over : (a b d : Bool) → is_between 1 8 process ≡ b → fits_call sites words ≡ d → (a && b && d) ≡ true → (1 ≤ process) × (d ≡ true)
    over true true true p q z = (above p, refl)
    over true true false p q z = absurd (true_false (sym z))
    over true false d p q z = absurd (true_false (sym z))
    over false b d p q z = absurd (true_false (sym z))

pub plain_row : (c : Config) (t : List Line) (s process : ℕ) (d : CallId) (words : Call) → (IsMend words → ⊥) → MayAccept c (entries t) s process d → CallRow c (entries t) s process d words
plain_row c t s process d (call.Mend file) none k = absurd (none tt)
plain_row c t s process d _ none k = k

plain_key : (process : ℕ) (words : Call) → (IsMend words → ⊥) → waiting_of process words ≡ waiting_span * process
plain_key process (call.Mend file) none = absurd (none tt)
plain_key process _ none = refl

-- ---- who waits ----

found_some : {A : Type 0} (p : A → Bool) (x : A) (xs : List A) → Among x xs → p x ≡ true → (y : A) × (find p xs ≡ Some y)
found_some p x [] m e = absurd m
found_some {A} p x (y ∷ ys) m e = at (λ (q : Among x ys). found_some p x ys q e) (p y) refl m
  where
    at : (Among x ys → (z : A) × (find p ys ≡ Some z)) → (b : Bool) → p y ≡ b → (x ≡ y) ⊎ Among x ys → (z : A) × (cond b (Some y) (find p ys) ≡ Some z)
    at later true f m = (y, refl)
    at later false f (inl i) = absurd (true_false (sym e ∙ (ap p i ∙ f)))
    at later false f (inr q) = later q

none_other : (process : ℕ) (ws : List WaitingCall) (v : WaitingCall) → list_any (λ (w : WaitingCall). w.process == process) ws ≡ false → Among v ws → v.process ≡ process → ⊥
none_other process [] v idle m e = m
none_other process (w ∷ ws) v idle m e = at (λ p k. none_other process ws v p k e) (w.process == process) (list_any (λ (w : WaitingCall). w.process == process) ws) refl refl idle m
  where
    at : (list_any (λ (w : WaitingCall). w.process == process) ws ≡ false → Among v ws → ⊥) → (a b : Bool) → (w.process == process) ≡ a → list_any (λ (w : WaitingCall). w.process == process) ws ≡ b → (a || b) ≡ false → (v ≡ w) ⊎ Among v ws → ⊥
    at later true b p q z m = true_false z
    at later false true p q z m = true_false z
    at later false false p q z (inl i) = true_false (sym (subst (λ (k : ℕ). (w.process == k) ≡ true) (ap (λ (x : WaitingCall). x.process) (sym i) ∙ e) (equal_self w.process)) ∙ p)
    at later false false p q z (inr k) = later q k

module _ (c : Config) (t : List Line) (f : Frame) (process : ℕ) (words : Call) (u : Users) (h : IsFollowed c t) (frame : FrameFact c t f) (k : UsersInside c f t u) (may : MayCall c f.me process words u) where
  idle : waits_of f.me process (waiting (entries t)) ≡ None
  idle = over (waits_of f.me process (waiting (entries t))) refl
    where
      over : (o : Option Waiting) → waits_of f.me process (waiting (entries t)) ≡ o → o ≡ None
      over None e = refl
      over (Some x) e = absurd (none_other process u.waiting mine.0 may.idle mine.1 process_is)
        where
          is : (call_named (entries t) x.call ≡ Some x) × (is_of f.me process x ≡ true)
          is = found_every (λ (y : Waiting). call_named (entries t) y.call ≡ Some y) (is_of f.me process) (waiting (entries t)) x e (accepted c t h).waits

          this : is_this f.me process x.call x ≡ true
          this = both (is_of f.me process x) (same_call x.call x.call) is.1 (same_call_own x.call)
            where
              both : (a b : Bool) → a ≡ true → b ≡ true → (a && b) ≡ true
              both true true p q = refl
              both true false p q = absurd (true_false (sym q))
              both false b p q = absurd (true_false (sym p))

          found : (y : Waiting) × (find (is_this f.me process x.call) (waiting (entries t)) ≡ Some y)
          found = found_some (is_this f.me process x.call) x (waiting (entries t)) (found_among (is_of f.me process) (waiting (entries t)) x e) this

          mine : (v : WaitingCall) × Among v u.waiting × (x.call ≡ own_call f.me f.boot v.call)
          mine = k.inside.all x.call process found.0 found.1

          fact : WaitingFact c t f mine.0
          fact = every_among (WaitingFact c t f) mine.0 u.waiting mine.1 k.inside.calls

          process_is : mine.0.process ≡ process
          process_is = ap (λ (y : Waiting). y.process) (sym fact.caller_is ∙ some_same fact.caller x (sym fact.named ∙ (ap (call_named (entries t)) (sym mine.2) ∙ is.0))) ∙ equal x.process process (second (x.site == f.me) (x.process == process) is.1)
            where
              second : (a b : Bool) → (a && b) ≡ true → b ≡ true
              second true b p = p
              second false b p = absurd (true_false (sym p))

  row_is : (IsMend words → ⊥) → CallRow c (entries t) f.me process (own_call f.me f.boot (u.calls + 1)) words
  row_is none = plain_row c t f.me process (own_call f.me f.boot (u.calls + 1)) words none (record {
    up = frame.up;
    idle = idle;
    numbered = ap (λ (b : ℕ). own_call f.me b (u.calls + 1)) k.always.boot_is ∙ ap (λ (m : ℕ). own_call f.me (boot_of (entries t) f.me) (m + 1)) k.always.calls;
  })

  -- no call that waits has the key of the new one
  apart : length c.packs ≤ 4 → 1 ≤ process → (IsMend words → ⊥) → Every (λ (v : WaitingCall). waiting_key v ≡ waiting_of process words → ⊥) u.waiting
  apart few one none = each u.waiting (λ v m. m)
    where
      synced : (v : WaitingCall) (file : FileId) → WaitingFact c t f v → v.words ≡ call.Mend file → file.group < 4
      synced v file l e = synced_low c f.members file.group f.me few (ap (tree.sync_site c file.group) (sym frame.members_are)
          ∙ (mends_at_sync c t h (it f v) l.caller f.epoch file l.named (ap (λ (x : Waiting). x.epoch) l.caller_is) (ap (λ (x : Waiting). x.words) l.caller_is ∙ e) ∙ ap (λ (x : Waiting). Some x.site) l.caller_is))

      differ : (a b : ℕ) → waiting_span * a ≡ waiting_span * b → a ≡ b
      differ a b e = omega (arith, e)

      above : (g : ℕ) → g < 4 → g ≡ waiting_span * process → ⊥
      above g lt e = omega (arith, lt, e, one)

      one_key : (v : WaitingCall) → Among v u.waiting → (said : Call) → v.words ≡ said → waiting_of v.process said ≡ waiting_of process words → ⊥
      one_key v m (call.Mend file) e same = above file.group (synced v file (every_among (WaitingFact c t f) v u.waiting m k.inside.calls) e) (same ∙ plain_key process words none)
      one_key v m _ e same = none_other process u.waiting v may.idle m (differ v.process process (same ∙ plain_key process words none))

      each : (vs : List WaitingCall) → ((v : WaitingCall) → Among v vs → Among v u.waiting) → Every (λ (v : WaitingCall). waiting_key v ≡ waiting_of process words → ⊥) vs
      each [] within = tt
      each (v ∷ vs) within = (one_key v (within v (inl refl)) v.words refl, each vs (λ y m. within y (inr m)))

pub calls : (c : Config) → UserRests c → (n : ℕ) (t : List Line) (f : Frame) (process : ℕ) (words : Call) (u : Users) → Ready c t f → UsersOf c f t u → MayCall c f.me process words u → AllRest c n t (on_call f (Some f.epoch) process words u).told → CallsFine c n t f (on_call f (Some f.epoch) process words u)
calls c rests n t f process words u ready k may rest = calls_fine c n t f (on_call f (Some f.epoch) process words u)
    (call_fine c n t f process words u ready.past.followed ready.frame k.inside (row_is c t f process words u ready.past.followed ready.frame k.inside may none) (words_low c.sites words fits.1) (apart c t f process words u ready.past.followed ready.frame k.inside may rests.few fits.0 none) (staying c rests n t (on_call f (Some f.epoch) process words u).told ready.past rest))
  where
    fits : (1 ≤ process) × (fits_call c.sites words ≡ true)
    fits = process_above c.sites f.me process words may.fits

    none : IsMend words → ⊥
    none = no_mend c.sites words fits.1
