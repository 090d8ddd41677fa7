-- Opens are counted: of two calls of one boot of a site that ask opens, each has a serial number of its own.
use Rattle.std.proofs.Common.{◌≡◌, ℕ, ◌+◌, ◌≤◌, ◌==◌, Bool, true, false, cond, ◌&&◌, List, [], ◌∷◌, ◌++◌, Option, Some, None, refl, sym, ◌∙◌, ap, subst, arith, inl, inr}
use Rattle.std.proofs.lemmas.Bool.Decides.{nat_tests}
use Rattle.std.specs.Prelude.{nat_lt}
use Rattle.the_run.proofs.of_plain_facts.Numbers.{equal_self, equal as test_same}
use Rattle.locus_ids.specs.declared.config.Config.{Config}
use Rattle.locus_ids.specs.declared.ids.CallId.{CallId}
use Rattle.trace_book.specs.Same.{same_call}
use Rattle.trace_book.specs.declared.call.Call.{Call}
use Rattle.trace_book.specs.declared.record.Record.{Record}
use Rattle.trace_book.specs.declared.record.Record.TheVariants as says
use Rattle.call_rules.specs.declared.answer.Answer.{Answer}
use Rattle.the_run.specs.of_role_steps.Views.{Told, Shown, Takes}
use Rattle.the_run.specs.Worlds.{Line}
use Rattle.lawful_trace.specs.of_tree_model.declared.accepted.Waiting.{Waiting}
use Rattle.lawful_trace.specs.of_tree_model.Calls.{call_named, accepted_as}
use Rattle.lawful_trace.specs.of_tree_model.Epochs.{boot_of}
use Rattle.lawful_trace.specs.CallRows.{next_call}
use Rattle.tree_laws.specs.Printed.{entries, onto_entries}
use Rattle.tree_laws.specs.Calls.{log, script}
use Rattle.tree_laws.specs.Serials.{asked_now, is_open_want, opens_asked, serial_asked}
use Rattle.tree_laws.specs.Following.{MayTell, IsFollowed}
use Rattle.tree_laws.proofs.Boots.{waiting_boot}
use Rattle.tree_laws.proofs.Fresh.{IsLow, IsNamed, numbered, calls_are_low}
use Rattle.tree_laws.proofs.Names.{same_call_eq, same_call_own}
use Rattle.tree_laws.proofs.Scripts.{script_stays}

abbrev With : ℕ → Told → List Line → List Line
With n x older = record { number = n; told = x } ∷ older

-- the call asks an open now, whether its answer waits or not
abbrev pub Opens : Config → List Line → CallId → Type 0
Opens c t d = is_open_want (asked_now c t d) ≡ true

-- the call is of the boot in which its site runs
abbrev pub IsNow : List Line → CallId → Type 0
IsNow t d = d.boot ≡ boot_of (entries t) d.site

pub record Counted (c : Config) (t : List Line) : Type 0 where
  pub counted : (d : CallId) → IsNamed (entries t) d → Opens c t d → IsNow t d → serial_asked c t d ≤ opens_asked c t d.site
  pub apart : (d other : CallId) → IsNamed (entries t) d → IsNamed (entries t) other → d.site ≡ other.site → d.boot ≡ other.boot → Opens c t d → Opens c t other → serial_asked c t d ≡ serial_asked c t other → d ≡ other

-- ---- a call that begins to ask something ----

-- the call was accepted or has taken an answer, in the boot of now; all others are as they were
pub record Turned (c : Config) (older : List Line) (n : ℕ) (x : Told) (it : CallId) : Type 0 where
  pub serial_own : serial_asked c (With n x older) it ≡ opens_asked c (With n x older) it.site
  pub serial_other : (d : CallId) → same_call it d ≡ false → serial_asked c (With n x older) d ≡ serial_asked c older d
  pub count_open : Opens c (With n x older) it → opens_asked c (With n x older) it.site ≡ opens_asked c older it.site + 1
  pub count_more : (site : ℕ) → opens_asked c older site ≤ opens_asked c (With n x older) site
  pub other : (d : CallId) → IsNamed (entries (With n x older)) d → same_call it d ≡ false → IsNamed (entries older) d × (asked_now c (With n x older) d ≡ asked_now c older d)
  pub boots : (site : ℕ) → boot_of (entries (With n x older)) site ≡ boot_of (entries older) site
  pub now : IsNow older it

opens_before : (c : Config) (old new : List Line) (d : CallId) → asked_now c new d ≡ asked_now c old d → Opens c new d → Opens c old d
opens_before c old new d e h = ap is_open_want (sym e) ∙ h

counted_turn : (c : Config) (older : List Line) (n : ℕ) (x : Told) (it : CallId) → Turned c older n x it → Counted c older → Counted c (With n x older)
counted_turn c older n x it t k = record { counted = λ d named opens now. counted d named opens now (same_call it d) refl; apart = λ d other a b site boot p q e. apart d other a b site boot p q e (same_call it d) (same_call it other) refl refl }
  where
    -- what an old call of this site and boot asks has a number up to the count of before
    low : (d : CallId) → IsNamed (entries (With n x older)) d → same_call it d ≡ false → Opens c (With n x older) d → IsNow older d → serial_asked c (With n x older) d ≤ opens_asked c older d.site
    low d named e opens now = (let o : IsNamed (entries older) d × (asked_now c (With n x older) d ≡ asked_now c older d) = t.other d named e in
        let le : serial_asked c older d ≤ opens_asked c older d.site = k.counted d o.0 (opens_before c older (With n x older) d o.1 opens) now in
        let same : serial_asked c (With n x older) d ≡ serial_asked c older d = t.serial_other d e in omega (arith, le, same))

    counted : (d : CallId) → IsNamed (entries (With n x older)) d → Opens c (With n x older) d → IsNow (With n x older) d → (b : Bool) → same_call it d ≡ b → serial_asked c (With n x older) d ≤ opens_asked c (With n x older) d.site
    counted d named opens now true e = subst (λ (y : CallId). serial_asked c (With n x older) y ≤ opens_asked c (With n x older) y.site) (same_call_eq it d e) (let same : serial_asked c (With n x older) it ≡ opens_asked c (With n x older) it.site = t.serial_own in omega (arith, same))
    counted d named opens now false e = (let le : serial_asked c (With n x older) d ≤ opens_asked c older d.site = low d named e opens (now ∙ t.boots d.site) in let more : opens_asked c older d.site ≤ opens_asked c (With n x older) d.site = t.count_more d.site in omega (arith, le, more))

    -- the new number is above all old ones
    above : (d other : CallId) → it ≡ d → d.site ≡ other.site → d.boot ≡ other.boot → IsNamed (entries (With n x older)) other → same_call it other ≡ false → Opens c (With n x older) d → Opens c (With n x older) other → serial_asked c (With n x older) d ≡ serial_asked c (With n x older) other → ⊥
    above d other same site boot named e opens others equal =
        (let le : serial_asked c (With n x older) other ≤ opens_asked c older other.site = low other named e others (sym boot ∙ (ap (λ (y : CallId). y.boot) (sym same) ∙ (t.now ∙ ap (boot_of (entries older)) (ap (λ (y : CallId). y.site) same ∙ site)))) in
        let own : serial_asked c (With n x older) d ≡ opens_asked c older d.site + 1 = subst (λ (y : CallId). serial_asked c (With n x older) y ≡ opens_asked c older y.site + 1) same (t.serial_own ∙ t.count_open (subst (λ (y : CallId). Opens c (With n x older) y) (sym same) opens)) in
        let at : opens_asked c older d.site ≡ opens_asked c older other.site = ap (opens_asked c older) site in omega (arith, le, own, at, equal))

    apart : (d other : CallId) → IsNamed (entries (With n x older)) d → IsNamed (entries (With n x older)) other → d.site ≡ other.site → d.boot ≡ other.boot → Opens c (With n x older) d → Opens c (With n x older) other → serial_asked c (With n x older) d ≡ serial_asked c (With n x older) other →
        (a b : Bool) → same_call it d ≡ a → same_call it other ≡ b → d ≡ other
    apart d other p q site boot o r equal true true e f = sym (same_call_eq it d e) ∙ same_call_eq it other f
    apart d other p q site boot o r equal true false e f = absurd (above d other (same_call_eq it d e) site boot q f o r equal)
    apart d other p q site boot o r equal false true e f = absurd (above other d (same_call_eq it other f) (sym site) (sym boot) p e r o (sym equal))
    apart d other p q site boot o r equal false false e f = (let a : IsNamed (entries older) d × (asked_now c (With n x older) d ≡ asked_now c older d) = t.other d p e in let b : IsNamed (entries older) other × (asked_now c (With n x older) other ≡ asked_now c older other) = t.other other q f in
        k.apart d other a.0 b.0 site boot (opens_before c older (With n x older) d a.1 o) (opens_before c older (With n x older) other b.1 r) (sym (t.serial_other d e) ∙ (equal ∙ t.serial_other other f)))

-- ---- a line at which no call begins to ask ----

pub record Unturned (c : Config) (older : List Line) (n : ℕ) (x : Told) : Type 0 where
  pub each : (d : CallId) → IsNamed (entries (With n x older)) d → IsNamed (entries older) d × (asked_now c (With n x older) d ≡ asked_now c older d)
  pub serial : (d : CallId) → serial_asked c (With n x older) d ≡ serial_asked c older d
  pub count : (d : CallId) → IsNamed (entries older) d → IsNow (With n x older) d → IsNow older d × (opens_asked c (With n x older) d.site ≡ opens_asked c older d.site)

counted_still : (c : Config) (older : List Line) (n : ℕ) (x : Told) → Unturned c older n x → Counted c older → Counted c (With n x older)
counted_still c older n x u k = record {
  counted = λ d named opens now. (let o : IsNamed (entries older) d × (asked_now c (With n x older) d ≡ asked_now c older d) = u.each d named in
      let b : IsNow older d × (opens_asked c (With n x older) d.site ≡ opens_asked c older d.site) = u.count d o.0 now in
      subst (λ (m : ℕ). serial_asked c (With n x older) d ≤ m) (sym b.1) (subst (λ (m : ℕ). m ≤ opens_asked c older d.site) (sym (u.serial d)) (k.counted d o.0 (opens_before c older (With n x older) d o.1 opens) b.0)));
  apart = λ d other p q site boot o r equal. (let a : IsNamed (entries older) d × (asked_now c (With n x older) d ≡ asked_now c older d) = u.each d p in let b : IsNamed (entries older) other × (asked_now c (With n x older) other ≡ asked_now c older other) = u.each other q in
      k.apart d other a.0 b.0 site boot (opens_before c older (With n x older) d a.1 o) (opens_before c older (With n x older) other b.1 r) (sym (u.serial d) ∙ (equal ∙ u.serial other)));
}

-- what a call asks stays where it has taken nothing
pub asked_same : (c : Config) (older : List Line) (n : ℕ) (x : Told) (d : CallId) → IsFollowed c older → MayTell c older x → IsNamed (entries older) d → log (With n x older) d ≡ log older d → asked_now c (With n x older) d ≡ asked_now c older d
asked_same c older n x d h may named e = ap (script c (onto_entries n x (entries older)) d None) e ∙ script_stays c n x older d None (log older d) h may named

-- ---- which line is which ----

pub accept_turned : (c : Config) (older : List Line) (n s process : ℕ) (new : CallId) (words : Call) → IsFollowed c older → MayTell c older (Shown (says.Accept s process new words)) → Turned c older n (Shown (says.Accept s process new words)) new
accept_turned c older n s process new words h may = record {
  serial_own = subst (λ (m : ℕ). serial_asked c now_told new ≡ opens_asked c now_told m) (sym at_site) own;
  serial_other = λ d e. ap (λ (b : Bool). cond b (opens_asked c now_told s) (serial_asked c older d)) e;
  count_open = λ o. subst (λ (m : ℕ). opens_asked c now_told m ≡ opens_asked c older m + 1) (sym at_site) (ap (λ (b : Bool). cond (b && is_open_want (asked_now c now_told new)) (opens_asked c older s + 1) (opens_asked c older s)) (equal_self s) ∙ ap (λ (b : Bool). cond b (opens_asked c older s + 1) (opens_asked c older s)) o);
  count_more = λ site. more ((s == site) && is_open_want (asked_now c now_told new)) (opens_asked c older site);
  other = λ d named e. (old d named e, asked_same c older n x d h may (old d named e) refl);
  boots = λ site. refl;
  now = ap (λ (y : CallId). y.boot) is ∙ ap (boot_of (entries older)) (sym at_site);
}
  where
    x : Told
    x = Shown (says.Accept s process new words)

    now_told : List Line
    now_told = With n x older

    is : new ≡ next_call (entries older) s
    is = numbered c (entries older) s process new words may.row

    at_site : new.site ≡ s
    at_site = ap (λ (y : CallId). y.site) is

    own : serial_asked c now_told new ≡ opens_asked c now_told s
    own = ap (λ (b : Bool). cond b (opens_asked c now_told s) (serial_asked c older new)) (same_call_own new)

    more : (b : Bool) (m : ℕ) → m ≤ cond b (m + 1) m
    more true m = omega arith
    more false m = omega arith

    old : (d : CallId) → IsNamed (entries now_told) d → same_call new d ≡ false → IsNamed (entries older) d
    old d named e = (named.0, sym (ap (λ (b : Bool). cond b (Some (accepted_as (entries older) s process new words)) (call_named (entries older) d)) e) ∙ named.1)

pub take_turned : (c : Config) (older : List Line) (n s : ℕ) (it : CallId) (request times : ℕ) (a : Answer) → IsFollowed c older → MayTell c older (Takes s it request times a) → Turned c older n (Takes s it request times a) it
take_turned c older n s it request times a h may = record {
  serial_own = subst (λ (m : ℕ). serial_asked c now_told it ≡ opens_asked c now_told m) (sym may.site_is) own;
  serial_other = λ d e. ap (λ (b : Bool). cond b (opens_asked c now_told s) (serial_asked c older d)) e;
  count_open = λ o. subst (λ (m : ℕ). opens_asked c now_told m ≡ opens_asked c older m + 1) (sym may.site_is) (ap (λ (b : Bool). cond (b && is_open_want (asked_now c now_told it)) (opens_asked c older s + 1) (opens_asked c older s)) (equal_self s) ∙ ap (λ (b : Bool). cond b (opens_asked c older s + 1) (opens_asked c older s)) o);
  count_more = λ site. more ((s == site) && is_open_want (asked_now c now_told it)) (opens_asked c older site);
  other = λ d named e. (named, asked_same c older n x d h may named (ap (λ (b : Bool). cond b (log older d ++ a ∷ []) (log older d)) e));
  boots = λ site. refl;
  now = waiting_boot c older s it h may.waits_for;
}
  where
    x : Told
    x = Takes s it request times a

    now_told : List Line
    now_told = With n x older

    own : serial_asked c now_told it ≡ opens_asked c now_told s
    own = ap (λ (b : Bool). cond b (opens_asked c now_told s) (serial_asked c older it)) (same_call_own it)

    more : (b : Bool) (m : ℕ) → m ≤ cond b (m + 1) m
    more true m = omega arith
    more false m = omega arith

pub up_still : (c : Config) (older : List Line) (n s boot : ℕ) → IsFollowed c older → MayTell c older (Shown (says.Up s boot)) → Unturned c older n (Shown (says.Up s boot))
up_still c older n s boot h may = record {
  each = λ d named. (named, asked_same c older n (Shown (says.Up s boot)) d h may named refl);
  serial = λ d. refl;
  count = λ d named now. at d named (s == d.site) refl now;
}
  where
    low : (d : CallId) → IsLow (entries older) d → d.boot ≤ boot_of (entries older) d.site
    low d (inl k) = omega (arith, k)
    low d (inr k) = omega (arith, k.0)

    never : (d : CallId) → (s == d.site) ≡ true → IsLow (entries older) d → d.boot ≡ boot → ⊥
    never d e k now = (let le : d.boot ≤ boot_of (entries older) d.site = low d k in let same : boot_of (entries older) s ≡ boot_of (entries older) d.site = ap (boot_of (entries older)) (test_same s d.site e) in over (boot_of (entries older) s) (boot_of (entries older) d.site) same le may.row.above)
      where
        over : (p q : ℕ) → p ≡ q → d.boot ≤ q → nat_lt p boot ≡ true → ⊥
        over p q same le lt = grind (arith, nat_tests)

    at : (d : CallId) → IsNamed (entries older) d → (b : Bool) → (s == d.site) ≡ b → d.boot ≡ cond b boot (boot_of (entries older) d.site) → IsNow older d × (cond b 0 (opens_asked c older d.site) ≡ opens_asked c older d.site)
    at d named true e now = absurd (never d e (calls_are_low c older h d named) now)
    at d named false e now = (now, refl)

counted_record : (c : Config) (older : List Line) (n : ℕ) (r : Record) → IsFollowed c older → MayTell c older (Shown r) → Counted c older → Counted c (With n (Shown r) older)
counted_record c older n (says.Accept s process new words) h may k = counted_turn c older n (Shown (says.Accept s process new words)) new (accept_turned c older n s process new words h may) k
counted_record c older n (says.Up s boot) h may k = counted_still c older n (Shown (says.Up s boot)) (up_still c older n s boot h may) k
counted_record c older n r h may k = counted_still c older n (Shown r) (record { each = λ d named. (named, asked_same c older n (Shown r) d h may named refl); serial = λ d. refl; count = λ d named now. (now, refl) }) k

counted_told : (c : Config) (older : List Line) (n : ℕ) (x : Told) → IsFollowed c older → MayTell c older x → Counted c older → Counted c (With n x older)
counted_told c older n (Shown r) h may k = counted_record c older n r h may k
counted_told c older n (Takes s it request times a) h may k = counted_turn c older n (Takes s it request times a) it (take_turned c older n s it request times a h may) k
counted_told c older n x h may k = counted_still c older n x (record { each = λ d named. (named, asked_same c older n x d h may named refl); serial = λ d. refl; count = λ d named now. (now, refl) }) k

pub calls_counted : (c : Config) (trace : List Line) → IsFollowed c trace → Counted c trace
calls_counted c [] h = record { counted = λ d named. absurd (none named.0 named.1); apart = λ d other named. absurd (none named.0 named.1) }
  where
    none : (w : Waiting) → ◌≡◌ {A = Option Waiting} None (Some w) → ⊥
    none w e = cc
calls_counted c (x ∷ older) h = counted_told c older x.number x.told h.1 h.0 (calls_counted c older h.1)
