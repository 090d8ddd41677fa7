-- What was granted to a call last, in its epoch; and which descriptor a reply makes stand for it: one way for an open, which gives a number, and for a
-- read that has opened a version again, which has one.
use Rattle.std.proofs.Common.{◌≡◌, ℕ, ◌==◌, Bool, true, false, cond, ◌&&◌, List, [], ◌∷◌, Option, option_map, Some, None, refl, sym, ◌∙◌, ap, subst, ◌⊎◌, inl, inr}
use Rattle.the_run.proofs.of_plain_facts.Numbers.{equal}
use Rattle.the_run.proofs.of_plain_facts.Options.{none_some, some_same}
use Rattle.the_run.proofs.of_plain_facts.Tests.{true_false}
use Rattle.locus_ids.specs.declared.config.Config.{Config}
use Rattle.locus_ids.specs.declared.ids.CallId.{CallId}
use Rattle.locus_ids.specs.declared.ids.EpochId.{EpochId}
use Rattle.locus_ids.specs.declared.ids.Serial.{Serial}
use Rattle.trace_book.specs.Same.{same_call, same_epoch, same_serial}
use Rattle.trace_book.specs.declared.call.Call.{Call}
use Rattle.trace_book.specs.declared.call.Call.TheVariants as call
use Rattle.trace_book.specs.declared.descriptor.Descriptor.{Descriptor}
use Rattle.trace_book.specs.declared.descriptor.OneVersion.{OneVersion}
use Rattle.trace_book.specs.declared.record.Record.{Record}
use Rattle.trace_book.specs.declared.record.Record.TheVariants as says
use Rattle.trace_book.specs.declared.reply.Reply.{Reply}
use Rattle.trace_book.specs.declared.reply.Reply.TheVariants as reply
use Rattle.call_rules.specs.Opening.{is_steady}
use Rattle.the_run.specs.of_role_steps.Views.{Told, Shown}
use Rattle.the_run.specs.Worlds.{Line}
use Rattle.lawful_trace.specs.of_tree_model.declared.accepted.Waiting.{Waiting}
use Rattle.lawful_trace.specs.of_tree_model.Calls.{call_named, granted_to, opening_of, version_of}
use Rattle.lawful_trace.specs.of_tree_model.Folds.{Trace}
use Rattle.lawful_trace.specs.Tables.{kept_by, opened_as, reads_by, held_again, opened_by, names_instance}
use Rattle.lawful_trace.specs.TreeRows.{IsCallIn}
use Rattle.tree_laws.specs.Printed.{entries, onto_entries}
use Rattle.tree_laws.specs.Following.{AnswersInTime, MayTell, IsFollowed}
use Rattle.tree_laws.specs.Holding.{has_instances}
use Rattle.tree_laws.proofs.Names.{same_call_eq, same_epoch_own, same_serial_own}
use Rattle.tree_laws.proofs.Owners.{granted_same, naming_reply}
use Rattle.tree_laws.proofs.Scripts.{in_stays}

abbrev With : ℕ → Record → Trace → Trace
With n r before = record { line = n; what = r } ∷ before

-- ---- what was granted last ----

abbrev AllOpening : Trace → Type 0
AllOpening before = (d : CallId) (x : Descriptor) → opening_of before d ≡ Some x → granted_to before x.epoch x.inst ≡ Some d

opening_record : (c : Config) (older : List Line) (n : ℕ) (r : Record) → MayTell c older (Shown r) → AllOpening (entries older) → AllOpening (With n r (entries older))
opening_record c older n (says.Grant at call request inst m f stamp ss) may k d x h = over (same_call call d) refl h
  where
    own : (g : CallId) (o : Option CallId) → cond (same_epoch at at && same_serial inst inst) (Some g) o ≡ Some g
    own g o = ap (λ (b : Bool). cond (b && same_serial inst inst) (Some g) o) (same_epoch_own at) ∙ ap (λ (b : Bool). cond b (Some g) o) (same_serial_own inst)

    over : (b : Bool) → same_call call d ≡ b → cond b (Some (record { mode = m; epoch = at; inst = inst; steady = None })) (opening_of (entries older) d) ≡ Some x → granted_to (With n (says.Grant at call request inst m f stamp ss) (entries older)) x.epoch x.inst ≡ Some d
    over true p q = subst (λ (y : Descriptor). granted_to (With n (says.Grant at call request inst m f stamp ss) (entries older)) y.epoch y.inst ≡ Some d) (some_same (record { mode = m; epoch = at; inst = inst; steady = None }) x q) (own call (granted_to (entries older) at inst) ∙ ap Some (same_call_eq call d p))
    over false p q = granted_same c older n (says.Grant at call request inst m f stamp ss) x.epoch x.inst d may (k d x q)
opening_record c older n r may k d x h = granted_same c older n r x.epoch x.inst d may (k d x h)

opening_told : (c : Config) (older : List Line) (n : ℕ) (x : Told) → MayTell c older x → AllOpening (entries older) → AllOpening (onto_entries n x (entries older))
opening_told c older n (Shown r) may k = opening_record c older n r may k
opening_told c older n _ may k = k

pub all_opening : (c : Config) (trace : List Line) → IsFollowed c trace → AllOpening (entries trace)
all_opening c [] h = λ d x k. absurd (none_some x k)
all_opening c (x ∷ older) h = opening_told c older x.number x.told h.0 (all_opening c older h.1)

-- and the call is one of its epoch
abbrev AllOpenInside : Trace → Type 0
AllOpenInside before = (d : CallId) (x : Descriptor) → opening_of before d ≡ Some x → IsCallIn before x.epoch d

inside_record : (c : Config) (older : List Line) (n : ℕ) (r : Record) → IsFollowed c older → MayTell c older (Shown r) → AllOpenInside (entries older) → AllOpenInside (With n r (entries older))
inside_record c older n (says.Grant at call request inst m f stamp ss) h may k d x e = over (same_call call d) refl e
  where
    over : (b : Bool) → same_call call d ≡ b → cond b (Some (record { mode = m; epoch = at; inst = inst; steady = None })) (opening_of (entries older) d) ≡ Some x → IsCallIn (With n (says.Grant at call request inst m f stamp ss) (entries older)) x.epoch d
    over true p q = subst (λ (y : Descriptor). IsCallIn (With n (says.Grant at call request inst m f stamp ss) (entries older)) y.epoch d) (some_same (record { mode = m; epoch = at; inst = inst; steady = None }) x q)
        (in_stays c n (Shown (says.Grant at call request inst m f stamp ss)) older at d h may (subst (IsCallIn (entries older) at) (same_call_eq call d p) may.row.opens.step))
    over false p q = in_stays c n (Shown (says.Grant at call request inst m f stamp ss)) older x.epoch d h may (k d x q)
inside_record c older n r h may k d x e = in_stays c n (Shown r) older x.epoch d h may (k d x e)

inside_told : (c : Config) (older : List Line) (n : ℕ) (x : Told) → IsFollowed c older → MayTell c older x → AllOpenInside (entries older) → AllOpenInside (onto_entries n x (entries older))
inside_told c older n (Shown r) h may k = inside_record c older n r h may k
inside_told c older n _ h may k = k

pub open_inside : (c : Config) (trace : List Line) → IsFollowed c trace → AllOpenInside (entries trace)
open_inside c [] h = λ d x k. absurd (none_some x k)
open_inside c (x ∷ older) h = inside_told c older x.number x.told h.1 h.0 (open_inside c older h.1)

-- ---- what a reply names ----

-- the number that an open's reply gives, or by which the call of a read reads
abbrev pub gives_number : Trace → CallId → Reply → ℕ → Bool
gives_number before d (reply.Opened n) fd = n == fd
gives_number before d (reply.Data bytes) fd = reads_by (call_named before d) fd
gives_number before d _ fd = false

-- the descriptor of this number stands from now on for what was granted to the call last
pub record IsNamedBy (before : Trace) (d : CallId) (r : Reply) (fd : ℕ) (x : Descriptor) : Type 0 where
  pub opening : Descriptor
  pub opened : opening_of before d ≡ Some opening
  pub epoch_is : opening.epoch ≡ x.epoch
  pub inst_is : opening.inst ≡ x.inst
  pub names : names_instance r ≡ true
  pub number : gives_number before d r fd ≡ true

-- a reply names it so, or leaves it
pub opened_left : (r : Reply) (before : Trace) (d : CallId) (fd : ℕ) (old : Option Descriptor) (x : Descriptor) (P : Type 0) → (IsNamedBy before d r fd x → P) → (old ≡ Some x → P) → opened_by r before d fd old ≡ Some x → P
opened_left (reply.Opened n) before d fd old x P new was h = over (n == fd) refl h
  where
    found : (n == fd) ≡ true → (o : Option Descriptor) → opening_of before d ≡ o → option_map (λ (y : Descriptor). record y { steady = kept_by (call_named before d) (version_of before d) }) o ≡ Some x → P
    found t None e k = absurd (none_some x k)
    found t (Some y) e k = (let is : record y { steady = kept_by (call_named before d) (version_of before d) } ≡ x = some_same (record y { steady = kept_by (call_named before d) (version_of before d) }) x k in
        new (record { opening = y; opened = e; epoch_is = ap (λ (z : Descriptor). z.epoch) is; inst_is = ap (λ (z : Descriptor). z.inst) is; names = refl; number = t }))

    over : (b : Bool) → (n == fd) ≡ b → cond b (opened_as before d) old ≡ Some x → P
    over true t k = found t (opening_of before d) refl k
    over false t k = was k
opened_left (reply.Data bytes) before d fd old x P new was h = over (reads_by (call_named before d) fd) refl h
  where
    again : reads_by (call_named before d) fd ≡ true → (y : Descriptor) → opening_of before d ≡ Some y → (o : Option Descriptor) → option_map (λ (z : Descriptor). record y { steady = z.steady }) o ≡ Some x → P
    again t y e None k = absurd (none_some x k)
    again t y e (Some z) k = (let is : record y { steady = z.steady } ≡ x = some_same (record y { steady = z.steady }) x k in
        new (record { opening = y; opened = e; epoch_is = ap (λ (v : Descriptor). v.epoch) is; inst_is = ap (λ (v : Descriptor). v.inst) is; names = refl; number = t }))

    found : reads_by (call_named before d) fd ≡ true → (o : Option Descriptor) → opening_of before d ≡ o → held_again o old ≡ Some x → P
    found t None e k = was k
    found t (Some y) e k = again t y e old k

    over : (b : Bool) → reads_by (call_named before d) fd ≡ b → cond b (held_again (opening_of before d) old) old ≡ Some x → P
    over true t k = found t (opening_of before d) refl k
    over false t k = was k
opened_left _ before d fd old x P new was h = was h

-- the version that a descriptor keeps after a reply is that of its open, or it kept it before
pub steady_left : (r : Reply) (before : Trace) (d : CallId) (fd : ℕ) (old : Option Descriptor) (x : Descriptor) (v : OneVersion) → opened_by r before d fd old ≡ Some x → x.steady ≡ Some v → (version_of before d ≡ Some v) ⊎ ((y : Descriptor) × (old ≡ Some y) × (y.steady ≡ Some v))
steady_left (reply.Opened n) before d fd old x v h keeps = over (n == fd) h
  where
    kept : (o : Option Waiting) → kept_by o (version_of before d) ≡ Some v → version_of before d ≡ Some v
    kept None e = absurd (none_some v e)
    kept (Some w) e = by (is_steady w.words) e
      where
        by : (b : Bool) → cond b (version_of before d) None ≡ Some v → version_of before d ≡ Some v
        by true k = k
        by false k = absurd (none_some v k)

    found : (o : Option Descriptor) → option_map (λ (y : Descriptor). record y { steady = kept_by (call_named before d) (version_of before d) }) o ≡ Some x → version_of before d ≡ Some v
    found None k = absurd (none_some x k)
    found (Some y) k = kept (call_named before d) (ap (λ (z : Descriptor). z.steady) (some_same (record y { steady = kept_by (call_named before d) (version_of before d) }) x k) ∙ keeps)

    over : (b : Bool) → cond b (opened_as before d) old ≡ Some x → (version_of before d ≡ Some v) ⊎ ((y : Descriptor) × (old ≡ Some y) × (y.steady ≡ Some v))
    over true k = inl (found (opening_of before d) k)
    over false k = inr (x, k, keeps)
steady_left (reply.Data bytes) before d fd old x v h keeps = over (reads_by (call_named before d) fd) h
  where
    again : (y : Descriptor) (o : Option Descriptor) → old ≡ o → option_map (λ (z : Descriptor). record y { steady = z.steady }) o ≡ Some x → (version_of before d ≡ Some v) ⊎ ((z : Descriptor) × (old ≡ Some z) × (z.steady ≡ Some v))
    again y None e k = absurd (none_some x k)
    again y (Some z) e k = inr (z, e, ap (λ (q : Descriptor). q.steady) (some_same (record y { steady = z.steady }) x k) ∙ keeps)

    found : (o : Option Descriptor) → held_again o old ≡ Some x → (version_of before d ≡ Some v) ⊎ ((z : Descriptor) × (old ≡ Some z) × (z.steady ≡ Some v))
    found None k = inr (x, k, keeps)
    found (Some y) k = again y old refl k

    over : (b : Bool) → cond b (held_again (opening_of before d) old) old ≡ Some x → (version_of before d ≡ Some v) ⊎ ((z : Descriptor) × (old ≡ Some z) × (z.steady ≡ Some v))
    over true k = found (opening_of before d) k
    over false k = inr (x, k, keeps)
steady_left _ before d fd old x v h keeps = inr (x, h, keeps)

module _ (c : Config) (t : List Line) (h : IsFollowed c t) (d : CallId) (r : Reply) (fd : ℕ) (x : Descriptor) (k : IsNamedBy (entries t) d r fd x) where
  -- it was granted to the call, in its epoch
  pub named_granted : granted_to (entries t) x.epoch x.inst ≡ Some d
  named_granted = subst (λ (e : EpochId). granted_to (entries t) e x.inst ≡ Some d) k.epoch_is (subst (λ (i : Serial). granted_to (entries t) k.opening.epoch i ≡ Some d) k.inst_is (all_opening c t h d k.opening k.opened))

  pub named_inside : IsCallIn (entries t) x.epoch d
  named_inside = subst (λ (e : EpochId). IsCallIn (entries t) e d) k.epoch_is (open_inside c t h d k.opening k.opened)

  -- and the call has it when the reply comes
  pub named_held : AnswersInTime c t d r → has_instances c t d x.inst ≡ true
  named_held may = subst (λ (i : Serial). has_instances c t d i ≡ true) k.inst_is ((naming_reply c t d r may k.names).held k.opening k.opened)

-- a reply gives one number
pub one_number : (before : Trace) (d : CallId) (r : Reply) (fd other : ℕ) → gives_number before d r fd ≡ true → gives_number before d r other ≡ true → fd ≡ other
one_number before d (reply.Opened n) fd other a b = sym (equal n fd a) ∙ equal n other b
one_number before d (reply.Data bytes) fd other a b = reads (call_named before d) a b
  where
    reads : (o : Option Waiting) → reads_by o fd ≡ true → reads_by o other ≡ true → fd ≡ other
    reads None p q = absurd (true_false (sym p))
    reads (Some w) p q = at w.words refl
      where
        at : (words : Call) → w.words ≡ words → fd ≡ other
        at (call.Read n place len) e = sym (equal n fd (rw e at p)) ∙ equal n other (rw e at q)
        at _ e = absurd (true_false (sym (rw e at p)))
one_number before d _ fd other a b = absurd (true_false (sym a))
