-- What the using site of a site counts and has of its calls stays when somebody else tells a line.
use Rattle.std.proofs.Common.{◌≡◌, ℕ, ◌+◌, ◌==◌, Bool, true, false, not, cond, ◌&&◌, List, [], ◌∷◌, ◌++◌, Option, Some, None, refl, sym, ◌∙◌, ap, filter}
use Rattle.std.specs.List.{find}
use Rattle.role_steps.proofs.of_plain_facts.Numbers.{apart_test, equal}
use Rattle.role_steps.proofs.of_plain_facts.Options.{none_some, some_same}
use Rattle.role_steps.proofs.of_plain_facts.Tests.{true_false}
use Rattle.locus_ids.specs.declared.config.Config.{Config}
use Rattle.locus_ids.specs.declared.ids.CallId.{CallId}
use Rattle.locus_ids.specs.declared.ids.Serial.{Serial}
use Rattle.trace_book.specs.Same.{same_call}
use Rattle.trace_book.specs.declared.call.Call.{Call}
use Rattle.trace_book.specs.declared.record.Record.{Record}
use Rattle.trace_book.specs.declared.record.Record.TheVariants as says
use Rattle.trace_book.specs.declared.reply.Reply.{Reply}
use Rattle.role_steps.specs.Views.{Told, Shown, Takes, LooksAgain}
use Rattle.tree_laws.specs.of_the_run.Worlds.{Line}
use Rattle.tree_model.specs.declared.accepted.Waiting.{Waiting}
use Rattle.tree_model.specs.Calls.{call_named, accepted_as, waiting, opening_of}
use Rattle.tree_model.specs.Folds.{Trace}
use Rattle.tree_model.specs.Epochs.{boot_of, calls_accepted}
use Rattle.tree_laws.specs.of_lawful_trace.CallRows.{is_this}
use Rattle.tree_laws.specs.of_lawful_trace.Tables.{descriptor, closed_by, opened_by}
use Rattle.tree_laws.specs.Printed.{entries, onto_entries}
use Rattle.tree_laws.specs.Calls.{log, tries}
use Rattle.tree_laws.specs.Doing.{IsOfUsers, IsOfSite}
use Rattle.tree_laws.specs.Following.{MayTell, IsFollowed}
use Rattle.tree_laws.specs.Serials.{asked_now, is_open_want, is_op_on, opens_asked, serial_asked, ops_asked}
use Rattle.tree_laws.specs.Users.{had, had_by}
use Rattle.tree_laws.proofs.Asking.{Turns}
use Rattle.tree_laws.proofs.Boots.{found_every}
use Rattle.tree_laws.proofs.Fresh.{numbered}
use Rattle.tree_laws.proofs.Names.{same_call_eq}
use Rattle.tree_laws.proofs.Waiting.{accepted}

abbrev pub With : ℕ → Told → List Line → List Line
With n x older = record { number = n; told = x } ∷ older

-- ---- the site's own counts ----

boots_record : (n me : ℕ) (r : Record) (before : Trace) → (IsOfSite me (Shown r) → ⊥) → boot_of (record { line = n; what = r } ∷ before) me ≡ boot_of before me
boots_record n me (says.Up s boot) before calm = ap (λ (b : Bool). cond b boot (boot_of before me)) (apart_test s me calm)
boots_record n me _ before calm = refl

pub boots_stay : (n me : ℕ) (x : Told) (older : List Line) → (IsOfSite me x → ⊥) → boot_of (onto_entries n x (entries older)) me ≡ boot_of (entries older) me
boots_stay n me (Shown r) older calm = boots_record n me r (entries older) calm
boots_stay n me _ older calm = refl

calls_record : (n me : ℕ) (r : Record) (before : Trace) → (IsOfUsers me (Shown r) → ⊥) → (IsOfSite me (Shown r) → ⊥) → calls_accepted (record { line = n; what = r } ∷ before) me ≡ calls_accepted before me
calls_record n me (says.Up s boot) before away calm = ap (λ (b : Bool). cond b 0 (calls_accepted before me)) (apart_test s me calm)
calls_record n me (says.Accept s process d words) before away calm = ap (λ (b : Bool). cond b (calls_accepted before me + 1) (calls_accepted before me)) (apart_test s me away)
calls_record n me _ before away calm = refl

pub calls_stay : (n me : ℕ) (x : Told) (older : List Line) → (IsOfUsers me x → ⊥) → (IsOfSite me x → ⊥) → calls_accepted (onto_entries n x (entries older)) me ≡ calls_accepted (entries older) me
calls_stay n me (Shown r) older away calm = calls_record n me r (entries older) away calm
calls_stay n me _ older away calm = refl

pub opens_stay : (c : Config) (n me : ℕ) (x : Told) (older : List Line) → (IsOfUsers me x → ⊥) → (IsOfSite me x → ⊥) → opens_asked c (With n x older) me ≡ opens_asked c older me
opens_stay c n me (Shown (says.Up s boot)) older away calm = ap (λ (b : Bool). cond b 0 (opens_asked c older me)) (apart_test s me calm)
opens_stay c n me (Shown (says.Accept s process d words)) older away calm = ap (λ (b : Bool). cond (b && is_open_want (asked_now c (With n (Shown (says.Accept s process d words)) older) d)) (opens_asked c older me + 1) (opens_asked c older me)) (apart_test s me away)
opens_stay c n me (Takes s d request times a) older away calm = ap (λ (b : Bool). cond (b && is_open_want (asked_now c (With n (Takes s d request times a) older) d)) (opens_asked c older me + 1) (opens_asked c older me)) (apart_test s me away)
opens_stay c n me (Shown r) older away calm = refl
opens_stay c n me _ older away calm = refl

pub ops_stay : (c : Config) (n me : ℕ) (x : Told) (older : List Line) (i : Serial) → i.us ≡ me → (IsOfUsers me x → ⊥) → (IsOfSite me x → ⊥) → ops_asked c (With n x older) i ≡ ops_asked c older i
ops_stay c n me (Shown (says.Up s boot)) older i own away calm = ap (λ (b : Bool). cond b 0 (ops_asked c older i)) (apart_test s i.us (λ e. calm (e ∙ own)))
ops_stay c n me (Shown (says.Accept s process d words)) older i own away calm = ap (λ (b : Bool). cond (b && is_op_on i (asked_now c (With n (Shown (says.Accept s process d words)) older) d)) (ops_asked c older i + 1) (ops_asked c older i)) (apart_test s i.us (λ e. away (e ∙ own)))
ops_stay c n me (Takes s d request times a) older i own away calm = ap (λ (b : Bool). cond (b && is_op_on i (asked_now c (With n (Takes s d request times a) older) d)) (ops_asked c older i + 1) (ops_asked c older i)) (apart_test s i.us (λ e. away (e ∙ own)))
ops_stay c n me (Shown r) older i own away calm = refl
ops_stay c n me _ older i own away calm = refl

pub had_stays : (c : Config) (n me : ℕ) (x : Told) (older : List Line) → (IsOfUsers me x → ⊥) → (IsOfSite me x → ⊥) → had c (With n x older) me ≡ had c older me
had_stays c n me (Shown (says.Up s boot)) older away calm = ap (λ (b : Bool). cond b [] (had c older me)) (apart_test s me calm)
had_stays c n me (Shown (says.Leave s e)) older away calm = ap (λ (b : Bool). cond b [] (had c older me)) (apart_test s me calm)
had_stays c n me (Shown (says.Stopped s cause)) older away calm = ap (λ (b : Bool). cond b [] (had c older me)) (apart_test s me calm)
had_stays c n me (Takes s d request times a) older away calm = ap (λ (b : Bool). cond b (had_by (asked_now c older d) a (had c older me)) (had c older me)) (apart_test s me away)
had_stays c n me (Shown r) older away calm = refl
had_stays c n me _ older away calm = refl

descriptor_record : (n me process fd : ℕ) (r : Record) (before : Trace) → (IsOfUsers me (Shown r) → ⊥) → (IsOfSite me (Shown r) → ⊥) → descriptor (record { line = n; what = r } ∷ before) me process fd ≡ descriptor before me process fd
descriptor_record n me process fd (says.Accept s user d words) before away calm = ap (λ (b : Bool). cond (b && (user == process)) (closed_by words fd (descriptor before me process fd)) (descriptor before me process fd)) (apart_test s me away)
descriptor_record n me process fd (says.Answer s user d r) before away calm = ap (λ (b : Bool). cond (b && (user == process)) (opened_by r before d fd (descriptor before me process fd)) (descriptor before me process fd)) (apart_test s me away)
descriptor_record n me process fd (says.Stopped s cause) before away calm = ap (λ (b : Bool). cond b None (descriptor before me process fd)) (apart_test s me calm)
descriptor_record n me process fd _ before away calm = refl

pub descriptors_stay : (n me process fd : ℕ) (x : Told) (older : List Line) → (IsOfUsers me x → ⊥) → (IsOfSite me x → ⊥) → descriptor (onto_entries n x (entries older)) me process fd ≡ descriptor (entries older) me process fd
descriptors_stay n me process fd (Shown r) older away calm = descriptor_record n me process fd r (entries older) away calm
descriptors_stay n me process fd _ older away calm = refl

-- ---- a call of the site ----

-- nobody else takes its answers or asks its looks again
pub unturned : (c : Config) (n me : ℕ) (x : Told) (older : List Line) (d : CallId) → MayTell c older x → d.site ≡ me → (IsOfUsers me x → ⊥) → Turns x d → ⊥
unturned c n me (Takes s it request times a) older d may own away turn = away (sym may.site_is ∙ (ap (λ (y : CallId). y.site) turn ∙ own))
unturned c n me (LooksAgain s it request times) older d may own away turn = away (sym may.site_is ∙ (ap (λ (y : CallId). y.site) turn ∙ own))
unturned c n me _ older d may own away turn = turn

pub other_call : (it d : CallId) → (it ≡ d → ⊥) → same_call it d ≡ false
other_call it d ne = at (same_call it d) refl
  where
    at : (t : Bool) → same_call it d ≡ t → same_call it d ≡ false
    at true e = absurd (ne (same_call_eq it d e))
    at false e = e

pub log_stays : (n : ℕ) (x : Told) (older : List Line) (d : CallId) → (Turns x d → ⊥) → log (With n x older) d ≡ log older d
log_stays n (Takes s it request times a) older d away = ap (λ (b : Bool). cond b (log older d ++ a ∷ []) (log older d)) (other_call it d away)
log_stays n _ older d away = refl

pub tries_stay : (n : ℕ) (x : Told) (older : List Line) (d : CallId) → (Turns x d → ⊥) → tries (With n x older) d ≡ tries older d
tries_stay n (Takes s it request times a) older d away = ap (λ (b : Bool). cond b 1 (tries older d)) (other_call it d away)
tries_stay n (LooksAgain s it request times) older d away = ap (λ (b : Bool). cond b times (tries older d)) (other_call it d away)
tries_stay n _ older d away = refl

pub serial_stays : (c : Config) (n me : ℕ) (x : Told) (older : List Line) (d : CallId) → MayTell c older x → d.site ≡ me → (IsOfUsers me x → ⊥) → serial_asked c (With n x older) d ≡ serial_asked c older d
serial_stays c n me (Shown (says.Accept s process it words)) older d may own away = ap (λ (b : Bool). cond b (opens_asked c (With n (Shown (says.Accept s process it words)) older) s) (serial_asked c older d)) (other_call it d (λ e. away (sym (ap (λ (y : CallId). y.site) (numbered c (entries older) s process it words may.row)) ∙ (ap (λ (y : CallId). y.site) e ∙ own))))
serial_stays c n me (Takes s it request times a) older d may own away = ap (λ (b : Bool). cond b (opens_asked c (With n (Takes s it request times a) older) s) (serial_asked c older d)) (other_call it d (λ e. away (sym may.site_is ∙ (ap (λ (y : CallId). y.site) e ∙ own))))
serial_stays c n me (Shown r) older d may own away = refl
serial_stays c n me _ older d may own away = refl

-- ---- the calls that wait ----

pub find_kept : {A : Type 0} (p q : A → Bool) (xs : List A) (x : A) → find p xs ≡ Some x → q x ≡ true → find p (filter q xs) ≡ Some x
find_kept p q [] x e k = absurd (none_some x e)
find_kept {A} p q (y ∷ ys) x e k = at (λ (m : find p ys ≡ Some x). find_kept p q ys x m k) (p y) (q y) refl refl e
  where
    at : (find p ys ≡ Some x → find p (filter q ys) ≡ Some x) → (a b : Bool) → p y ≡ a → q y ≡ b → cond a (Some y) (find p ys) ≡ Some x → find p (cond b (y ∷ filter q ys) (filter q ys)) ≡ Some x
    at later true true f g m = ap (λ (b : Bool). cond b (Some y) (find p (filter q ys))) f ∙ m
    at later true false f g m = absurd (true_false (sym k ∙ (ap q (sym (some_same y x m)) ∙ g)))
    at later false true f g m = ap (λ (b : Bool). cond b (Some y) (find p (filter q ys))) f ∙ later m
    at later false false f g m = later m

pub find_before : {A : Type 0} (p q : A → Bool) (xs : List A) (x : A) → find p (filter q xs) ≡ Some x → (y : A) × (find p xs ≡ Some y)
find_before p q [] x e = absurd (none_some x e)
find_before {A} p q (z ∷ zs) x e = at (λ (m : find p (filter q zs) ≡ Some x). find_before p q zs x m) (q z) (p z) refl e
  where
    at : (find p (filter q zs) ≡ Some x → (y : A) × (find p zs ≡ Some y)) → (b a : Bool) → p z ≡ a → find p (cond b (z ∷ filter q zs) (filter q zs)) ≡ Some x → (y : A) × (cond a (Some z) (find p zs) ≡ Some y)
    at later b true f m = (z, refl)
    at later true false f m = later (sym (ap (λ (a : Bool). cond a (Some z) (find p (filter q zs))) f) ∙ m)
    at later false false f m = later m

parts : (a b d : Bool) → (a && b && d) ≡ true → (a ≡ true) × ((b ≡ true) × (d ≡ true))
parts true true true t = (refl, (refl, refl))
parts true true false t = absurd (true_false (sym t))
parts true false d t = absurd (true_false (sym t))
parts false b d t = absurd (true_false (sym t))

passes : (p : Waiting → Bool) (xs : List Waiting) (x : Waiting) → find p xs ≡ Some x → p x ≡ true
passes p [] x e = absurd (none_some x e)
passes p (y ∷ ys) x e = at (λ (k : find p ys ≡ Some x). passes p ys x k) (p y) refl e
  where
    at : (find p ys ≡ Some x → p x ≡ true) → (b : Bool) → p y ≡ b → cond b (Some y) (find p ys) ≡ Some x → p x ≡ true
    at later true t k = ap p (sym (some_same y x k)) ∙ t
    at later false t k = later k

module _ (c : Config) (n me : ℕ) (older : List Line) (h : IsFollowed c older) (process : ℕ) (d : CallId) (own : d.site ≡ me) where
  -- a call that is answered at another site isn't this one
  not_answered : (s user : ℕ) (it : CallId) (r : Reply) → MayTell c older (Shown (says.Answer s user it r)) → (s ≡ me → ⊥) → it ≡ d → ⊥
  not_answered s user it r may away same = away (sym (equal may.row.caller.site s is.0) ∙ (((accepted c older h).named may.row.caller.call may.row.caller found.0).site_is ∙ (ap (λ (y : CallId). y.site) (same_call_eq may.row.caller.call it is.1.1 ∙ same) ∙ own)))
    where
      found : (call_named (entries older) may.row.caller.call ≡ Some may.row.caller) × (is_this s user it may.row.caller ≡ true)
      found = found_every (λ (w : Waiting). call_named (entries older) w.call ≡ Some w) (is_this s user it) (waiting (entries older)) may.row.caller may.row.waits (accepted c older h).waits

      is : ((may.row.caller.site == s) ≡ true) × (((may.row.caller.process == user) ≡ true) × (same_call may.row.caller.call it ≡ true))
      is = parts (may.row.caller.site == s) (may.row.caller.process == user) (same_call may.row.caller.call it) found.1

  -- what is accepted at another site isn't this one
  not_this : (s user : ℕ) (it : CallId) (words : Call) → (s ≡ me → ⊥) → is_this me process d (accepted_as (entries older) s user it words) ≡ false
  not_this s user it words away = ap (λ (b : Bool). b && (user == process) && same_call it d) (apart_test s me away)

  found_record : (r : Record) → MayTell c older (Shown r) → (IsOfUsers me (Shown r) → ⊥) → (IsOfSite me (Shown r) → ⊥) → (w : Waiting) → find (is_this me process d) (waiting (entries older)) ≡ Some w → find (is_this me process d) (waiting (entries (With n (Shown r) older))) ≡ Some w
  found_record (says.Accept s user it words) may away calm w e = ap (λ (b : Bool). cond b (Some (accepted_as (entries older) s user it words)) (find (is_this me process d) (waiting (entries older)))) (not_this s user it words away) ∙ e
  found_record (says.Answer s user it r) may away calm w e = find_kept (is_this me process d) (λ (x : Waiting). not (same_call x.call it)) (waiting (entries older)) w e (ap not (other_call w.call it (λ same. not_answered s user it r may away (sym same ∙ same_call_eq w.call d is.1.1))))
    where
      is : ((w.site == me) ≡ true) × (((w.process == process) ≡ true) × (same_call w.call d ≡ true))
      is = parts (w.site == me) (w.process == process) (same_call w.call d) (passes (is_this me process d) (waiting (entries older)) w e)
  found_record (says.Stopped s cause) may away calm w e = find_kept (is_this me process d) (λ (x : Waiting). not (x.site == s)) (waiting (entries older)) w e (ap not (apart_test w.site s (λ same. calm (sym same ∙ equal w.site me is.0))))
    where
      is : ((w.site == me) ≡ true) × (((w.process == process) ≡ true) × (same_call w.call d ≡ true))
      is = parts (w.site == me) (w.process == process) (same_call w.call d) (passes (is_this me process d) (waiting (entries older)) w e)
  found_record _ may away calm w e = e

  before_record : (r : Record) → (IsOfUsers me (Shown r) → ⊥) → (w : Waiting) → find (is_this me process d) (waiting (entries (With n (Shown r) older))) ≡ Some w → (v : Waiting) × (find (is_this me process d) (waiting (entries older)) ≡ Some v)
  before_record (says.Accept s user it words) away w e = (w, sym (ap (λ (b : Bool). cond b (Some (accepted_as (entries older) s user it words)) (find (is_this me process d) (waiting (entries older)))) (not_this s user it words away)) ∙ e)
  before_record (says.Answer s user it r) away w e = find_before (is_this me process d) (λ (x : Waiting). not (same_call x.call it)) (waiting (entries older)) w e
  before_record (says.Stopped s cause) away w e = find_before (is_this me process d) (λ (x : Waiting). not (x.site == s)) (waiting (entries older)) w e
  before_record _ away w e = (w, e)

  -- a call of the site that waits waits still
  found_told : (x : Told) → MayTell c older x → (IsOfUsers me x → ⊥) → (IsOfSite me x → ⊥) → (w : Waiting) → find (is_this me process d) (waiting (entries older)) ≡ Some w → find (is_this me process d) (waiting (entries (With n x older))) ≡ Some w
  found_told (Shown r) may away calm w e = found_record r may away calm w e
  found_told _ may away calm w e = e

  -- and it waited before
  before_told : (x : Told) → (IsOfUsers me x → ⊥) → (w : Waiting) → find (is_this me process d) (waiting (entries (With n x older))) ≡ Some w → (v : Waiting) × (find (is_this me process d) (waiting (entries older)) ≡ Some v)
  before_told (Shown r) away w e = before_record r away w e
  before_told _ away w e = (w, e)

pub waits_still : (c : Config) (n me : ℕ) (x : Told) (older : List Line) (process : ℕ) (d : CallId) (w : Waiting) → IsFollowed c older → MayTell c older x → d.site ≡ me → (IsOfUsers me x → ⊥) → (IsOfSite me x → ⊥) → find (is_this me process d) (waiting (entries older)) ≡ Some w → find (is_this me process d) (waiting (onto_entries n x (entries older))) ≡ Some w
waits_still c n me x older process d w h may own away calm e = found_told c n me older h process d own x may away calm w e

pub waited_before : (c : Config) (n me : ℕ) (x : Told) (older : List Line) (process : ℕ) (d : CallId) (w : Waiting) → IsFollowed c older → d.site ≡ me → (IsOfUsers me x → ⊥) → find (is_this me process d) (waiting (onto_entries n x (entries older))) ≡ Some w → (v : Waiting) × (find (is_this me process d) (waiting (entries older)) ≡ Some v)
waited_before c n me x older process d w h own away e = before_told c n me older h process d own x away w e
