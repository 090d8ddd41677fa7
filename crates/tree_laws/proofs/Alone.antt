-- One call at a time asks something of an instance.
use Rattle.std.proofs.Common.{◌≡◌, ℕ, suc, ◌<◌, ◌==◌, Bool, true, false, cond, List, [], ◌∷◌, length, Option, Some, None, refl, sym, ◌∙◌, ap, subst, arith, ◌⊎◌, inl, inr}
use Rattle.std.proofs.lemmas.Bool.Decides.{nat_tests}
use Rattle.std.specs.Prelude.{nat_lt}
use Rattle.the_run.proofs.of_plain_facts.Options.{none_some, some_same}
use Rattle.the_run.proofs.of_plain_facts.Tests.{true_false}
use Rattle.locus_ids.specs.declared.config.Config.{Config}
use Rattle.locus_ids.specs.declared.ids.CallId.{CallId}
use Rattle.locus_ids.specs.declared.ids.EpochId.{EpochId}
use Rattle.locus_ids.specs.declared.ids.Serial.{Serial}
use Rattle.trace_book.specs.declared.call.Call.{Call}
use Rattle.trace_book.specs.declared.call.Call.TheVariants as call
use Rattle.trace_book.specs.declared.operation.Op.{Op}
use Rattle.call_rules.specs.declared.want.Want.{Want}
use Rattle.call_rules.specs.declared.want.Want.TheVariants as want
use Rattle.the_run.specs.of_role_steps.Own.{Every}
use Rattle.the_run.specs.Worlds.{Line}
use Rattle.lawful_trace.specs.of_tree_model.declared.accepted.Waiting.{Waiting}
use Rattle.lawful_trace.specs.of_tree_model.Calls.{call_named, granted_to}
use Rattle.lawful_trace.specs.Tables.{uses_of, use_number, close_of, has_named, unless_named, call_of_act, call_of_release}
use Rattle.tree_laws.specs.Printed.{entries}
use Rattle.tree_laws.specs.Calls.{Asks, is_request}
use Rattle.tree_laws.specs.Serials.{asked_now}
use Rattle.tree_laws.specs.Following.{IsFollowed}
use Rattle.tree_laws.specs.Processes.{WaitsFor}
use Rattle.tree_laws.proofs.CarriedLooks.{one_want}
use Rattle.tree_laws.proofs.Descriptors.{IsPlain, IsUser, AreUsers, are_users}
use Rattle.tree_laws.proofs.Later.{earlier_is_over}
use Rattle.tree_laws.proofs.OneBoot.{one_boot}

pub compare : (a b : ℕ) → (a < b) ⊎ ((b < a) ⊎ (a ≡ b))
compare a b = at (nat_lt a b) (nat_lt b a) refl refl
  where
    below : (x y : ℕ) → nat_lt x y ≡ true → x < y
    below x y t = grind (arith, nat_tests)

    neither : nat_lt a b ≡ false → nat_lt b a ≡ false → a ≡ b
    neither p q = grind (arith, nat_tests)

    at : (x y : Bool) → nat_lt a b ≡ x → nat_lt b a ≡ y → (a < b) ⊎ ((b < a) ⊎ (a ≡ b))
    at true y p q = inl (below a b p)
    at false true p q = inr (inl (below b a q))
    at false false p q = inr (inr (neither p q))

pub call_is : (a b : CallId) → a.site ≡ b.site → a.boot ≡ b.boot → a.n ≡ b.n → a ≡ b
call_is a b e f g = λ i. record { site = e i; boot = f i; n = g i }

plain_waits : (later earlier : Call) → IsPlain later → WaitsFor later earlier
plain_waits (call.Mend file) earlier p = absurd p
plain_waits _ earlier p = tt

-- of two users of an instance that ask something each is the other
pub one_asks : (c : Config) (t : List Line) (e : EpochId) (i : Serial) (d other : CallId) → IsFollowed c t → IsUser (entries t) e i d → IsUser (entries t) e i other → is_request (asked_now c t d) ≡ true → is_request (asked_now c t other) ≡ true → d ≡ other
one_asks c t e i d other h a b asks others = at (compare d.n other.n)
  where
    granted : a.for.granted ≡ b.for.granted
    granted = some_same a.for.granted b.for.granted (sym a.for.is_granted ∙ b.for.is_granted)

    caller : a.for.caller ≡ b.for.caller
    caller = some_same a.for.caller b.for.caller (sym a.for.named ∙ (ap (call_named (entries t)) granted ∙ b.for.named))

    site : d.site ≡ other.site
    site = sym a.for.site_is ∙ (ap (λ (w : Waiting). w.site) caller ∙ b.for.site_is)

    process : a.inside.accepted.process ≡ b.inside.accepted.process
    process = sym a.for.process_is ∙ (ap (λ (w : Waiting). w.process) caller ∙ b.for.process_is)

    at : (d.n < other.n) ⊎ ((other.n < d.n) ⊎ (d.n ≡ other.n)) → d ≡ other
    at (inl below) = absurd (true_false (sym asks ∙ (earlier_is_over c t h e d other (record { first = a.inside; second = b.inside; site_same = site; process_same = process; waits_for = plain_waits b.inside.accepted.words a.inside.accepted.words b.plain; later = below })).asks_nothing))
    at (inr (inl above)) = absurd (true_false (sym others ∙ (earlier_is_over c t h e other d (record { first = b.inside; second = a.inside; site_same = sym site; process_same = sym process; waits_for = plain_waits a.inside.accepted.words b.inside.accepted.words a.plain; later = above })).asks_nothing))
    at (inr (inr same)) = call_is d other site (one_boot c t e d other h a.inside b.inside site) same

-- a use with a number is one of the uses
pub numbered_every : (P : CallId → Type 0) (xs : List CallId) (n : ℕ) (d : CallId) → Every P xs → use_number xs n ≡ Some d → P d
numbered_every P [] n d h e = absurd (none_some d e)
numbered_every P (x ∷ xs) n d h e = at (numbered_every P xs n d h.1) (n == suc (length xs)) e
  where
    at : (use_number xs n ≡ Some d → P d) → (b : Bool) → cond b (Some x) (use_number xs n) ≡ Some d → P d
    at later true k = subst P (some_same x d k) h.0
    at later false k = later k

-- what is asked is a request
pub asking : (c : Config) (t : List Line) (d : CallId) (w : Want) → Asks c t d w → is_request (asked_now c t d) ≡ true
asking c t d w k = subst (λ (v : Want). is_request v ≡ true) (sym k.asked) k.request

do_not_close : (i j : Serial) (o : Op) → want.Do i o ≡ want.Close j → ⊥
do_not_close i j o e = cc

-- no call asks an operation of an instance while another asks to close it
pub alone : (c : Config) (t : List Line) (e : EpochId) (i : Serial) (n : ℕ) (d other : CallId) (o : Op) → IsFollowed c t → Asks c t d (want.Do i o) → call_of_act (entries t) e i n ≡ Some d → Asks c t other (want.Close i) → call_of_release (entries t) e i ≡ Some other → ⊥
alone c t e i n d other o h a owner b closer = over (granted_to (entries t) e i) owner closer
  where
    -- both are one call
    same : d ≡ other → ⊥
    same is = do_not_close i i o (one_want c t other (want.Do i o) (want.Close i) (subst (λ (y : CallId). Asks c t y (want.Do i o)) is a) b)

    users : AreUsers (entries t) e i
    users = are_users c t h e i

    named : (g : CallId) (b : Bool) → cond b (use_number (uses_of (entries t) e i) n) (Some g) ≡ Some d → cond b (close_of (entries t) e i) (Some g) ≡ Some other → ⊥
    named g true p q = same (one_asks c t e i d other h (numbered_every (IsUser (entries t) e i) (uses_of (entries t) e i) n d users.uses p) (users.closes other q) (asking c t d (want.Do i o) a) (asking c t other (want.Close i) b))
    named g false p q = same (sym (some_same g d p) ∙ some_same g other q)

    over : (x : Option CallId) → unless_named (entries t) (use_number (uses_of (entries t) e i) n) x ≡ Some d → unless_named (entries t) (close_of (entries t) e i) x ≡ Some other → ⊥
    over None p q = none_some d p
    over (Some g) p q = named g (has_named (entries t) g) p q
