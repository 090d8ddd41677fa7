-- What a call that waits has, its site has among the instances that its calls have taken and not closed in its epoch; and so
-- what its descriptors stand for.
use Rattle.std.proofs.Common.{◌≡◌, ℕ, ◌<◌, ◌==◌, Bool, true, false, not, cond, ◌||◌, List, [], ◌∷◌, Some, refl, sym, ◌∙◌, ap, subst, ◌⊎◌, inl, inr, filter}
use Rattle.plain_facts.proofs.Numbers.{equal, equal_self}
use Rattle.plain_facts.proofs.Options.{some_same}
use Rattle.plain_facts.proofs.Tests.{true_false}
use Rattle.locus_ids.specs.declared.config.Config.{Config}
use Rattle.locus_ids.specs.declared.ids.CallId.{CallId}
use Rattle.locus_ids.specs.declared.ids.EpochId.{EpochId}
use Rattle.locus_ids.specs.declared.ids.Serial.{Serial}
use Rattle.trace_book.specs.declared.descriptor.Beginning.TheVariants as begins
use Rattle.call_rules.specs.declared.answer.Answer.{Answer}
use Rattle.call_rules.specs.declared.answer.Answer.TheVariants as answer
use Rattle.call_rules.specs.declared.want.Want.{Want}
use Rattle.call_rules.specs.declared.want.Want.TheVariants as want
use Rattle.role_steps.specs.Own.{Every}
use Rattle.the_run.specs.Kept.{Among}
use Rattle.the_run.specs.Worlds.{Line}
use Rattle.tree_model.specs.declared.accepted.Waiting.{Waiting}
use Rattle.tree_model.specs.Calls.{call_named, granted_to, waiting}
use Rattle.tree_model.specs.State.{has_number}
use Rattle.lawful_trace.specs.Tables.{begun, is_close, has_named, uses_of}
use Rattle.lawful_trace.specs.TreeRows.{IsCallIn}
use Rattle.tree_laws.specs.Printed.{entries}
use Rattle.tree_laws.specs.Following.{IsFollowed}
use Rattle.tree_laws.specs.Holding.{has_instances}
use Rattle.tree_laws.specs.Users.{had, had_by, without_closed}
use Rattle.tree_laws.proofs.Alone.{compare, call_is}
use Rattle.tree_laws.proofs.Answered.{all_done}
use Rattle.tree_laws.proofs.Awaiting.{OpensIt}
use Rattle.tree_laws.proofs.Descriptors.{IsUser, are_users}
use Rattle.tree_laws.proofs.Later.{earlier_is_over, every_among}
use Rattle.tree_laws.proofs.OneBoot.{one_boot}
use Rattle.tree_laws.proofs.Orders.ProcessBegun.{comes_from, UsesIt, all_use}
use Rattle.tree_laws.proofs.Orders.ProcessOwner.{plain_waits}

-- ---- numbers ----

more_number : (n : ℕ) (ns : List ℕ) (m : ℕ) → has_number ns n ≡ true → has_number (m ∷ ns) n ≡ true
more_number n ns m h = over (m == n)
  where
    over : (b : Bool) → (b || has_number ns n) ≡ true
    over true = refl
    over false = h

own_number : (n : ℕ) (ns : List ℕ) → has_number (n ∷ ns) n ≡ true
own_number n ns = ap (λ (b : Bool). b || has_number ns n) (equal_self n)

-- one is taken out: the number is left, or is the one
left_number : (n m : ℕ) (ns : List ℕ) → has_number ns n ≡ true → (has_number (filter (λ k. not (k == m)) ns) n ≡ true) ⊎ (m ≡ n)
left_number n m [] h = absurd (true_false (sym h))
left_number n m (k ∷ ns) h = at (left_number n m ns) (k == n) (k == m) refl refl h
  where
    at : (has_number ns n ≡ true → (has_number (filter (λ j. not (j == m)) ns) n ≡ true) ⊎ (m ≡ n)) → (a b : Bool) → (k == n) ≡ a → (k == m) ≡ b → (a || has_number ns n) ≡ true → (has_number (cond (not b) (k ∷ filter (λ j. not (j == m)) ns) (filter (λ j. not (j == m)) ns)) n ≡ true) ⊎ (m ≡ n)
    at later true true p q t = inr (sym (equal k m q) ∙ equal k n p)
    at later true false p q t = inl (ap (λ (b : Bool). b || has_number (filter (λ j. not (j == m)) ns) n) p)
    at later false true p q t = later t
    at later false false p q t = over (later t)
      where
        over : (has_number (filter (λ j. not (j == m)) ns) n ≡ true) ⊎ (m ≡ n) → (has_number (k ∷ filter (λ j. not (j == m)) ns) n ≡ true) ⊎ (m ≡ n)
        over (inl e) = inl (more_number n (filter (λ j. not (j == m)) ns) k e)
        over (inr e) = inr e

-- what is had after an answer is taken: what was had, but for what is closed by it
pub record ClosesNumber (w : Want) (n : ℕ) : Type 0 where
  pub inst : Serial
  pub closes : w ≡ want.Close inst
  pub number : inst.serial ≡ n

kept_closed : (w : Want) (ns : List ℕ) (n : ℕ) → has_number ns n ≡ true → (has_number (without_closed w ns) n ≡ true) ⊎ ClosesNumber w n
kept_closed (want.Close inst) ns n h = over (left_number n inst.serial ns h)
  where
    over : (has_number (filter (λ k. not (k == inst.serial)) ns) n ≡ true) ⊎ (inst.serial ≡ n) → (has_number (filter (λ k. not (k == inst.serial)) ns) n ≡ true) ⊎ ClosesNumber (want.Close inst) n
    over (inl e) = inl e
    over (inr e) = inr (record { inst = inst; closes = refl; number = e })
kept_closed _ ns n h = inl h

pub had_kept : (w : Want) (a : Answer) (ns : List ℕ) (n : ℕ) → has_number ns n ≡ true → (has_number (had_by w a ns) n ≡ true) ⊎ ClosesNumber w n
had_kept w (answer.Opened inst ino) ns n h = inl (more_number n ns inst.serial h)
had_kept w (answer.Reading inst version) ns n h = inl (more_number n ns inst.serial h)
had_kept w (answer.Merging inst kept) ns n h = inl (more_number n ns inst.serial h)
had_kept w _ ns n h = kept_closed w ns n h

pub had_opened : (w : Want) (a : Answer) (ns : List ℕ) (i : Serial) → OpensIt a i → has_number (had_by w a ns) i.serial ≡ true
had_opened w (answer.Opened inst ino) ns i o = subst (λ (j : Serial). has_number (inst.serial ∷ ns) j.serial ≡ true) o (own_number inst.serial ns)
had_opened w (answer.Reading inst version) ns i o = subst (λ (j : Serial). has_number (inst.serial ∷ ns) j.serial ≡ true) o (own_number inst.serial ns)
had_opened w (answer.Merging inst kept) ns i o = subst (λ (j : Serial). has_number (inst.serial ∷ ns) j.serial ≡ true) o (own_number inst.serial ns)
had_opened w _ ns i o = absurd o

-- ---- who waits ----

-- the call waits
pub record IsHere (t : List Line) (d : CallId) : Type 0 where
  pub caller : Waiting
  pub among : Among caller (waiting (entries t))
  pub call_is : caller.call ≡ d

pub not_over : (c : Config) (t : List Line) (d : CallId) → IsHere t d → Every (λ (w : Waiting). w.call ≡ d → ⊥) (waiting (entries t)) → ⊥
not_over c t d k quiet = every_among (λ (w : Waiting). w.call ≡ d → ⊥) k.caller (waiting (entries t)) quiet k.among k.call_is

-- of two users of an instance that wait each is the other
users_one : (c : Config) (t : List Line) (e : EpochId) (i : Serial) (d other : CallId) → IsFollowed c t → IsUser (entries t) e i d → IsUser (entries t) e i other → IsHere t d → IsHere t other → d ≡ other
users_one c t e i d other h a b here there = at (compare d.n other.n)
  where
    granted : a.for.granted ≡ b.for.granted
    granted = some_same a.for.granted b.for.granted (sym a.for.is_granted ∙ b.for.is_granted)

    caller : a.for.caller ≡ b.for.caller
    caller = some_same a.for.caller b.for.caller (sym a.for.named ∙ (ap (call_named (entries t)) granted ∙ b.for.named))

    site : d.site ≡ other.site
    site = sym a.for.site_is ∙ (ap (λ (w : Waiting). w.site) caller ∙ b.for.site_is)

    process : a.inside.accepted.process ≡ b.inside.accepted.process
    process = sym a.for.process_is ∙ (ap (λ (w : Waiting). w.process) caller ∙ b.for.process_is)

    at : (d.n < other.n) ⊎ ((other.n < d.n) ⊎ (d.n ≡ other.n)) → d ≡ other
    at (inl below) = absurd (not_over c t d here (earlier_is_over c t h e d other (record { first = a.inside; second = b.inside; site_same = site; process_same = process; waits_for = plain_waits b.inside.accepted.words a.inside.accepted.words b.plain; later = below })).quiet)
    at (inr (inl above)) = absurd (not_over c t other there (earlier_is_over c t h e other d (record { first = b.inside; second = a.inside; site_same = sym site; process_same = sym process; waits_for = plain_waits a.inside.accepted.words b.inside.accepted.words a.plain; later = above })).quiet)
    at (inr (inr same)) = call_is d other site (one_boot c t e d other h a.inside b.inside site) same

-- who begins at an instance is a user of it
pub begun_user : (c : Config) (t : List Line) (e : EpochId) (i : Serial) (d : CallId) → IsFollowed c t → IsCallIn (entries t) e d → begun (entries t) d ≡ Some (begins.Uses e i) → IsUser (entries t) e i d
begun_user c t e i d h inside b = over (is_close inside.accepted.words) (all_use c t h d inside.accepted e i inside.named b)
  where
    over : (x : Bool) → UsesIt (entries t) e i d x → IsUser (entries t) e i d
    over true k = (are_users c t h e i).closes d k
    over false k = every_among (IsUser (entries t) e i) d (uses_of (entries t) e i) (are_users c t h e i).uses k

-- of two calls of an epoch that wait and have an instance each is the other
pub holders_one : (c : Config) (t : List Line) (e : EpochId) (i : Serial) (d other : CallId) → IsFollowed c t → IsCallIn (entries t) e d → IsCallIn (entries t) e other → IsHere t d → IsHere t other → has_instances c t d i ≡ true → has_instances c t other i ≡ true → d ≡ other
holders_one c t e i d other h inside within here there has had = over (comes_from c t h e d i inside has) (comes_from c t h e other i within had)
  where
    -- the call that it was granted to is over, where another uses it
    mixed : (k user : CallId) → IsHere t k → granted_to (entries t) e i ≡ Some k → IsUser (entries t) e i user → ⊥
    mixed k user waits g u = not_over c t k waits (all_done c t h k (subst (λ (z : CallId). has_named (entries t) z ≡ true) (some_same u.for.granted k (sym u.for.is_granted ∙ g)) u.for.answered)).over.quiet

    over : (granted_to (entries t) e i ≡ Some d) ⊎ (begun (entries t) d ≡ Some (begins.Uses e i)) → (granted_to (entries t) e i ≡ Some other) ⊎ (begun (entries t) other ≡ Some (begins.Uses e i)) → d ≡ other
    over (inl a) (inl b) = some_same d other (sym a ∙ b)
    over (inl a) (inr b) = absurd (mixed d other here a (begun_user c t e i other h within b))
    over (inr a) (inl b) = absurd (mixed other d there b (begun_user c t e i d h inside a))
    over (inr a) (inr b) = users_one c t e i d other h (begun_user c t e i d h inside a) (begun_user c t e i other h within b) here there
