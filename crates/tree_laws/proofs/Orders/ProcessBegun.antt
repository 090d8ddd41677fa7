-- What a call has it began with, or was granted; who begins at an instance is a use of it, or its close.
use Rattle.std.proofs.Common.{◌≡◌, ℕ, Bool, true, false, not, cond, ◌&&◌, List, [], ◌∷◌, Option, Some, None, refl, sym, ◌∙◌, ap, subst, ◌⊎◌, inl, inr}
use Rattle.plain_facts.proofs.Options.{none_some, some_same}
use Rattle.locus_ids.specs.declared.config.Config.{Config}
use Rattle.locus_ids.specs.declared.ids.CallId.{CallId}
use Rattle.locus_ids.specs.declared.ids.EpochId.{EpochId}
use Rattle.locus_ids.specs.declared.ids.Serial.{Serial}
use Rattle.locus_ids.specs.declared.refusal.Refusal.TheVariants as refusal
use Rattle.trace_book.specs.Same.{same_call, same_epoch, same_serial}
use Rattle.trace_book.specs.declared.call.Call.{Call}
use Rattle.trace_book.specs.declared.call.Call.TheVariants as call
use Rattle.trace_book.specs.declared.descriptor.Beginning.{Beginning}
use Rattle.trace_book.specs.declared.descriptor.Beginning.TheVariants as begins
use Rattle.trace_book.specs.declared.operation.Op.{Op}
use Rattle.trace_book.specs.declared.operation.Op.TheVariants as op
use Rattle.trace_book.specs.declared.record.Record.{Record}
use Rattle.trace_book.specs.declared.record.Record.TheVariants as says
use Rattle.trace_book.specs.declared.reply.Reply.TheVariants as reply
use Rattle.call_rules.specs.declared.answer.Answer.TheVariants as answer
use Rattle.call_rules.specs.declared.want.Want.{Want}
use Rattle.call_rules.specs.declared.want.Want.TheVariants as want
use Rattle.call_rules.specs.Opening.{op_wants, close_wants, uses_wants}
use Rattle.call_rules.specs.Scripts.{where_packed}
use Rattle.call_rules.specs.Words.{is_badly_named}
use Rattle.role_steps.specs.Views.{Told, Shown, Takes}
use Rattle.the_run.specs.Kept.{Among}
use Rattle.the_run.specs.Worlds.{Line}
use Rattle.tree_model.specs.declared.accepted.Waiting.{Waiting}
use Rattle.tree_model.specs.Calls.{granted_to, call_named, accepted_as, opening_of}
use Rattle.tree_model.specs.Epochs.{epoch_of}
use Rattle.tree_model.specs.Folds.{Trace}
use Rattle.lawful_trace.specs.Progress.{Answers, is_packed_in}
use Rattle.lawful_trace.specs.Tables.{begins_now, begun, is_close, is_opening, uses_by, uses_of, close_of, descriptor}
use Rattle.lawful_trace.specs.TreeRows.{IsCallIn}
use Rattle.tree_laws.specs.Printed.{entries, onto_entries}
use Rattle.tree_laws.specs.Calls.{log, script_as, Waits}
use Rattle.tree_laws.specs.Following.{MayTell, IsFollowed}
use Rattle.tree_laws.specs.Holding.{has_instances, had_after}
use Rattle.tree_laws.specs.Serials.{asked_now}
use Rattle.tree_laws.proofs.Awaiting.{all_have, had_from, OpensIt, new_has, begun_uses, named_before}
use Rattle.tree_laws.proofs.CarriedLooks.{one_epoch}
use Rattle.tree_laws.proofs.Descriptors.{FromDescriptor, uses_from, uses_is}
use Rattle.tree_laws.proofs.Fresh.{IsNamed, next_is_new, numbered, calls_are_low}
use Rattle.tree_laws.proofs.Having.{Untaken, named_or_untaken, has_stays}
use Rattle.tree_laws.proofs.Names.{same_call_eq, same_call_own, same_epoch_own, same_serial_own}
use Rattle.tree_laws.proofs.Owners.{granted_same, closed_same}
use Rattle.tree_laws.proofs.Scripts.{named_stays, begun_stays}

abbrev With : ℕ → Told → List Line → List Line
With n x older = record { number = n; told = x } ∷ older

-- ---- what a call has it began with, or was granted ----

abbrev pub Comes : List Line → EpochId → CallId → Serial → Type 0
Comes t e d i = (granted_to (entries t) e i ≡ Some d) ⊎ (begun (entries t) d ≡ Some (begins.Uses e i))

comes_stays : (c : Config) (n : ℕ) (x : Told) (older : List Line) (e : EpochId) (d : CallId) (i : Serial) → IsFollowed c older → MayTell c older x → IsNamed (entries older) d → Comes older e d i → Comes (With n x older) e d i
comes_stays c n x older e d i h may named (inl g) = inl (over x may)
  where
    over : (y : Told) → MayTell c older y → granted_to (onto_entries n y (entries older)) e i ≡ Some d
    over (Shown r) m = granted_same c older n r e i d m g
    over _ m = g
comes_stays c n x older e d i h may named (inr b) = inr (begun_stays c n x older d h may named ∙ b)

-- a call that is accepted
comes_new : (c : Config) (n s process : ℕ) (d : CallId) (words : Call) (older : List Line) (e : EpochId) (i : Serial) → IsFollowed c older → MayTell c older (Shown (says.Accept s process d words)) → IsCallIn (entries (With n (Shown (says.Accept s process d words)) older)) e d → has_instances c (With n (Shown (says.Accept s process d words)) older) d i ≡ true → Comes (With n (Shown (says.Accept s process d words)) older) e d i
comes_new c n s process d words older e i h may inside has = inr (ap (λ (t : Bool). cond t (Some (begins_now (entries older) s process d words)) (begun (entries older) d)) (same_call_own d) ∙ ap Some (uses_is (begins_now (entries older) s process d words) e i (subst (λ (y : EpochId). uses_by (begins_now (entries older) s process d words) y i ≡ true) (sym there) b.1)))
  where
    untaken : IsNamed (entries older) d ⊎ Untaken c older d → Untaken c older d
    untaken (inl named) = absurd (next_is_new (entries older) s d (calls_are_low c older h d named) (numbered c (entries older) s process d words may.row))
    untaken (inr u) = u

    b : (y : EpochId) × (uses_by (begins_now (entries older) s process d words) y i ≡ true)
    b = begun_uses (begins_now (entries older) s process d words) i (sym (new_has c n s process d words older i (untaken (named_or_untaken c older h d))) ∙ has)

    f : FromDescriptor (descriptor (entries older) s process) (epoch_of (entries older) s) words b.0 i
    f = uses_from (descriptor (entries older) s process) (epoch_of (entries older) s) d words b.0 i (uses_is (begins_now (entries older) s process d words) b.0 i b.1)

    made : epoch_of (entries older) s ≡ Some e
    made = ap (λ (w : Waiting). w.epoch) (some_same (accepted_as (entries older) s process d words) inside.accepted (sym (ap (λ (t : Bool). cond t (Some (accepted_as (entries older) s process d words)) (call_named (entries older) d)) (same_call_own d)) ∙ inside.named)) ∙ inside.made_in

    there : e ≡ b.0
    there = some_same e b.0 (sym made ∙ f.inside)

comes_old : (c : Config) (n : ℕ) (x : Told) (older : List Line) (e : EpochId) (d : CallId) (i : Serial) → IsFollowed c older → MayTell c older x → IsCallIn (entries older) e d → (has_instances c older d i ≡ true → Comes older e d i) → has_instances c (With n x older) d i ≡ true → Comes (With n x older) e d i
comes_old c n x older e d i h may inside was has = comes_stays c n x older e d i h may (inside.accepted, inside.named) (over x may has (λ same. has_stays c n x older h may d (inside.accepted, inside.named) same i))
  where
    over : (y : Told) → MayTell c older y → has_instances c (With n y older) d i ≡ true → (log (With n y older) d ≡ log older d → has_instances c (With n y older) d i ≡ has_instances c older d i) → Comes older e d i
    over (Takes s it request times a) m has same = at (same_call it d) refl has
      where
        taken : it ≡ d → OpensIt a i ⊎ (has_instances c older d i ≡ true) → Comes older e d i
        taken is (inl o) = (let g : (y : EpochId) × IsCallIn (entries older) y d × (granted_to (entries older) y i ≡ Some d) × (has_instances c older d i ≡ false) = ((all_have c older h).awaits d a (inside.accepted, inside.named) (subst (λ (z : CallId). Waits c older z a) is m.answer)).opened i o in
            inl (subst (λ (y : EpochId). granted_to (entries older) y i ≡ Some d) (one_epoch older g.0 e d g.1 inside) g.2))
        taken is (inr old) = was old

        at : (b : Bool) → same_call it d ≡ b → cond b (had_after (asked_now c older it) a (has_instances c older d) i) (has_instances c older d i) ≡ true → Comes older e d i
        at true t k = taken (same_call_eq it d t) (had_from (asked_now c older it) a (has_instances c older d) i k)
        at false t k = was k
    over (Shown r) m has same = was (sym (same refl) ∙ has)
    over y m has same = was (sym (same refl) ∙ has)

pub comes_from : (c : Config) (t : List Line) → IsFollowed c t → (e : EpochId) (d : CallId) (i : Serial) → IsCallIn (entries t) e d → has_instances c t d i ≡ true → Comes t e d i
comes_from c [] h e d i inside has = absurd (none_some inside.accepted inside.named)
comes_from c (x ∷ older) h e d i inside has = at (λ here had. comes_from c older h.1 e d i here had)
  where
    at : ((here : IsCallIn (entries older) e d) → has_instances c older d i ≡ true → Comes older e d i) → Comes (x ∷ older) e d i
    at later = named_before c x.number x.told older d (Comes (x ∷ older) e d i) h.0 new old (inside.accepted, inside.named)
      where
        old : IsNamed (entries older) d → Comes (x ∷ older) e d i
        old named = (let here : IsCallIn (entries older) e d = record { accepted = named.0; named = named.1; made_in = ap (λ (w : Waiting). w.epoch) (some_same named.0 inside.accepted (sym (named_stays c x.number x.told older d h.1 h.0 named ∙ named.1) ∙ inside.named)) ∙ inside.made_in } in
            comes_old c x.number x.told older e d i h.1 h.0 here (λ had. later here had) has)

        new : (s process : ℕ) (words : Call) → x.told ≡ Shown (says.Accept s process d words) → Comes (x ∷ older) e d i
        new s process words is = subst (λ (y : Told). Comes (With x.number y older) e d i) (sym is) (comes_new c x.number s process d words older e i h.1 (subst (MayTell c older) is h.0)
            (subst (λ (y : Told). IsCallIn (entries (With x.number y older)) e d) is inside) (subst (λ (y : Told). has_instances c (With x.number y older) d i ≡ true) is has))

-- ---- who begins at an instance is a use of it, or its close ----

-- a close is the close, another call is a use
abbrev pub UsesIt : Trace → EpochId → Serial → CallId → Bool → Type 0
UsesIt before e i d true = close_of before e i ≡ Some d
UsesIt before e i d false = Among d (uses_of before e i)

uses_stay : (c : Config) (n : ℕ) (r : Record) (older : List Line) (e : EpochId) (i : Serial) (d : CallId) (b : Bool) → MayTell c older (Shown r) → UsesIt (entries older) e i d b → UsesIt (record { line = n; what = r } ∷ entries older) e i d b
uses_stay c n r older e i d true may k = closed_same c older n r e i d may k
uses_stay c n (says.Accept s process new words) older e i d false may k = over (not (is_close words) && uses_by (begins_now (entries older) s process new words) e i)
  where
    over : (b : Bool) → Among d (cond b (new ∷ uses_of (entries older) e i) (uses_of (entries older) e i))
    over true = inr k
    over false = k
uses_stay c n (says.Answer s process reader (reply.Data bytes)) older e i d false may k = over (is_opening (opening_of (entries older) reader) e i)
  where
    over : (b : Bool) → Among d (cond b (reader ∷ uses_of (entries older) e i) (uses_of (entries older) e i))
    over true = inr k
    over false = k
uses_stay c n r older e i d false may k = k

-- each call that began at the instance
abbrev AllUse : Trace → Type 0
AllUse before = (d : CallId) (w : Waiting) (e : EpochId) (i : Serial) → call_named before d ≡ Some w → begun before d ≡ Some (begins.Uses e i) → UsesIt before e i d (is_close w.words)

uses_own : (e : EpochId) (i : Serial) (b : Beginning) → b ≡ begins.Uses e i → uses_by b e i ≡ true
uses_own e i b k = ap (λ (z : Beginning). uses_by z e i) k ∙ both (same_epoch e e) (same_serial i i) (same_epoch_own e) (same_serial_own i)
  where
    both : (a b : Bool) → a ≡ true → b ≡ true → a && b ≡ true
    both true true p q = refl
    both true false p q = q
    both false b p q = p

use_accept : (c : Config) (n s process : ℕ) (new : CallId) (words : Call) (older : List Line) → IsFollowed c older → MayTell c older (Shown (says.Accept s process new words)) → AllUse (entries older) → AllUse (entries (With n (Shown (says.Accept s process new words)) older))
use_accept c n s process new words older h may k d w e i named starts = at (same_call new d) refl named starts
  where
    r : Record
    r = says.Accept s process new words

    own : (b : Bool) → is_close words ≡ b → uses_by (begins_now (entries older) s process new words) e i ≡ true → UsesIt (entries (With n (Shown r) older)) e i new b
    own true t u = ap (λ (a : Bool). cond (a && uses_by (begins_now (entries older) s process new words) e i) (Some new) (close_of (entries older) e i)) t ∙ ap (λ (a : Bool). cond a (Some new) (close_of (entries older) e i)) u
    own false t u = subst (Among new) (sym (ap (λ (a : Bool). cond (not a && uses_by (begins_now (entries older) s process new words) e i) (new ∷ uses_of (entries older) e i) (uses_of (entries older) e i)) t ∙ ap (λ (a : Bool). cond a (new ∷ uses_of (entries older) e i) (uses_of (entries older) e i)) u)) (inl refl)

    at : (b : Bool) → same_call new d ≡ b → cond b (Some (accepted_as (entries older) s process new words)) (call_named (entries older) d) ≡ Some w → cond b (Some (begins_now (entries older) s process new words)) (begun (entries older) d) ≡ Some (begins.Uses e i) → UsesIt (entries (With n (Shown r) older)) e i d (is_close w.words)
    at true t p q = subst (λ (z : CallId). UsesIt (entries (With n (Shown r) older)) e i z (is_close w.words)) (same_call_eq new d t)
        (subst (λ (z : Waiting). UsesIt (entries (With n (Shown r) older)) e i new (is_close z.words)) (some_same (accepted_as (entries older) s process new words) w p)
        (own (is_close words) refl (uses_own e i (begins_now (entries older) s process new words) (some_same (begins_now (entries older) s process new words) (begins.Uses e i) q))))
    at false t p q = uses_stay c n r older e i d (is_close w.words) may (k d w e i p q)

use_record : (c : Config) (n : ℕ) (r : Record) (older : List Line) → IsFollowed c older → MayTell c older (Shown r) → AllUse (entries older) → AllUse (entries (With n (Shown r) older))
use_record c n (says.Accept s process new words) older h may k d w e i named starts = use_accept c n s process new words older h may k d w e i named starts
use_record c n r older h may k d w e i named starts = uses_stay c n r older e i d (is_close w.words) may (k d w e i named starts)

use_told : (c : Config) (n : ℕ) (x : Told) (older : List Line) → IsFollowed c older → MayTell c older x → AllUse (entries older) → AllUse (entries (With n x older))
use_told c n (Shown r) older h may k = use_record c n r older h may k
use_told c n _ older h may k = k

pub all_use : (c : Config) (t : List Line) → IsFollowed c t → AllUse (entries t)
all_use c [] h = λ d w e i named. absurd (none_some w named)
all_use c (x ∷ older) h = use_told c x.number x.told older h.1 h.0 (all_use c older h.1)

-- ---- what a call on a descriptor asks ----

-- an operation is asked by no close, and a close by a close
abbrev pub Fits : Bool → Want → Type 0
Fits b (want.Do i o) = b ≡ false
Fits b (want.Close i) = b ≡ true
Fits b _ = Unit {0}

op_fits : (i : Serial) (o : Op) (xs : Answers) → Fits false (op_wants i o xs)
op_fits i o [] = refl
op_fits i o (answer.Did result ∷ []) = tt
op_fits i o (answer.Did result ∷ (a ∷ xs)) = tt
op_fits i o (answer.Refused why ∷ []) = tt
op_fits i o (answer.Refused why ∷ (a ∷ xs)) = tt
op_fits i o (_ ∷ xs) = tt

close_fits : (i : Serial) (xs : Answers) → Fits true (close_wants i xs)
close_fits i [] = refl
close_fits i (answer.Ended stamp ∷ []) = tt
close_fits i (answer.Ended stamp ∷ (a ∷ xs)) = tt
close_fits i (answer.Refused why ∷ []) = tt
close_fits i (answer.Refused why ∷ (a ∷ xs)) = tt
close_fits i (_ ∷ xs) = tt

uses_fit : (words : Call) (i : Serial) (xs : Answers) → Fits (is_close words) (uses_wants words i xs)
uses_fit (call.Read fd at len) i xs = op_fits i (op.Read at len) xs
uses_fit (call.Write fd at bytes) i xs = op_fits i (op.Write at bytes) xs
uses_fit (call.Cut fd len) i xs = op_fits i (op.Cut len) xs
uses_fit (call.Commit fd) i xs = op_fits i op.Commit xs
uses_fit (call.Abort fd) i xs = op_fits i op.Abort xs
uses_fit (call.Close fd) i xs = close_fits i xs
uses_fit _ i xs = tt

packed_fits : (p : ℕ → Bool) (b : Bool) (w : Want) → Fits b w → Fits b (where_packed p w)
packed_fits p b (want.Look f what) k = over (p f.group)
  where
    over : (x : Bool) → Fits b (cond x (want.Look f what) (want.Give (reply.No refusal.NoStorage)))
    over true = tt
    over false = tt
packed_fits p b (want.Open f how) k = over (p f.group)
  where
    over : (x : Bool) → Fits b (cond x (want.Open f how) (want.Give (reply.No refusal.NoStorage)))
    over true = tt
    over false = tt
packed_fits p b (want.OpenToMend f) k = over (p f.group)
  where
    over : (x : Bool) → Fits b (cond x (want.OpenToMend f) (want.Give (reply.No refusal.NoStorage)))
    over true = tt
    over false = tt
packed_fits p b (want.Make group kind sites) k = over (p group)
  where
    over : (x : Bool) → Fits b (cond x (want.Make group kind sites) (want.Give (reply.No refusal.NoStorage)))
    over true = tt
    over false = tt
packed_fits p b _ k = k

begun_fits : (c : Config) (before : Trace) (w : Waiting) (e : EpochId) (i : Serial) (xs : Answers) → Fits (is_close w.words) (script_as c before (Some w) (Some (begins.Uses e i)) None xs)
begun_fits c before w e i xs = packed_fits (is_packed_in c before w.epoch) (is_close w.words) _ (over (is_badly_named c.mounts w.words))
  where
    over : (b : Bool) → Fits (is_close w.words) (cond b (want.Give (reply.No refusal.BadName)) (uses_wants w.words i xs))
    over true = tt
    over false = uses_fit w.words i xs

-- what it asks fits its words
pub asked_fits : (c : Config) (t : List Line) (d : CallId) (w : Waiting) (e : EpochId) (i : Serial) → call_named (entries t) d ≡ Some w → begun (entries t) d ≡ Some (begins.Uses e i) → Fits (is_close w.words) (asked_now c t d)
asked_fits c t d w e i named starts = subst (λ (o : Option Waiting). Fits (is_close w.words) (script_as c (entries t) o (begun (entries t) d) None (log t d))) (sym named)
    (subst (λ (o : Option Beginning). Fits (is_close w.words) (script_as c (entries t) (Some w) o None (log t d))) (sym starts) (begun_fits c (entries t) w e i (log t d)))
